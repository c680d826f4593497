-- What is kept at the place of the desk becomes another.
use Rattle.std.proofs.Common.{◌≡◌, ◌∙◌, ap, sym}
use Rattle.std.specs.List.{position}
use Rattle.std.specs.Str.{bytes_eq}
use Rattle.office_core.specs.declared.heard.DeskRecord.{DeskRecord}
use Rattle.office_core.proofs.HeardLemmas.{heard_at, heard_none}
use Rattle.office_core.proofs.committing.record_request.Goals as goal
use Rattle.office_core.proofs.committing.record_request.Goals.{After-place_of}

placed : (c : After-place_of) → c.place_of.result ≡ position (λ (h : DeskRecord). bytes_eq h.desk c.args.desk.now) c.args.heard.now.items
placed c = c.place_of.ensures ∙ ap (position (λ (h : DeskRecord). bytes_eq h.desk c.args.desk.now)) c.deref.ensures.value

pub returns-in-Some : goal.returns-in-Some
returns-in-Some c =
    heard_at c.args.desk.now c.args.said c.args.heard.now.items c.in-Some.place c.index_mut.result.now (sym (placed (goal.at.returns-in-Some c).After-place_of) ∙ c.in-Some.is) c.index_mut.ensures.value

pub returns-in_default : goal.returns-in_default
returns-in_default c =
    heard_none c.args.desk.now c.args.said c.args.heard.now.items (sym (placed (goal.at.returns-in_default c).After-place_of) ∙ c.in_default.is)
