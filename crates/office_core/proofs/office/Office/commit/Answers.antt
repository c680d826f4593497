-- The fields are those of the state after the entry, which is sound and agrees with its texts.
use Rattle.std.proofs.Common.{◌≡◌, ◌∙◌, ◌-◌, List, Some, ap, subst, sym}
use Rattle.std.specs.Vec.{vec_capacity, vec_len}
use Rattle.office_core.specs.Agreement.{Agrees}
use Rattle.office_core.specs.Prepared.{MayCommit, Readied}
use Rattle.office_core.specs.Sound.{IsSound}
use Rattle.office_core.specs.State.{State, said_by, said_in}
use Rattle.office_core.specs.Step.{state_after}
use Rattle.office_core.specs.Views.{OfficeView}
use Rattle.office_core.specs.declared.heard.DeskRecord.{DeskRecord}
use Rattle.office_core.specs.declared.heard.LastRequest.{LastRequest}
use Rattle.office_core.proofs.CommitLemmas.{fields_after, kept_after}
use Rattle.office_core.proofs.office.Office.commit.Goals as goal
use Rattle.office_core.proofs.office.Office.commit.Goals.{After-record_request}

-- the state and the office before, by their fields, and what is committed
abbrev before : After-record_request → State
before c = record { settings = c.self.inside.settings; class = c.self.inside.class; edition = c.self.inside.edition; rows = c.self.inside.board.rows; products = c.self.inside.products.items; drafts = c.self.inside.drafts.items; begun = c.self.inside.begun; heard = c.self.inside.heard.items; last = c.self.inside.last }

abbrev office : After-record_request → OfficeView
office c = record { state = before c; counts = c.self.inside.numbers.counts; room = record { rows = c.self.inside.board.spare; numbers = c.self.inside.numbers.spare; products = vec_capacity c.self.inside.products - vec_len c.self.inside.products } }

abbrev prepared : After-record_request → Readied
prepared c = record { entry = c.p.inside.entry; change = c.p.inside.change; made = c.p.inside.made }

may : (c : After-record_request) → MayCommit (office c) (prepared c)
may c = subst (λ (o : OfficeView). MayCommit o (prepared c)) (sym c.self.view_is) (subst (λ (q : Readied). MayCommit c.args.self.now q) (sym c.p.view_is) c.requires)

abbrev now : After-record_request → State
now c = record { settings = c.self.inside.settings; class = c.self.inside.class; edition = c.self.inside.edition; rows = c.add_made_product.new.board.rows; products = c.add_made_product.new.products.items; drafts = c.change_drafts.new.drafts.items; begun = c.begun_with-self-inside.result; heard = c.record_request.new.heard.items; last = c.p.inside.entry.minute }

after : (c : After-record_request) → now c ≡ state_after (before c) (prepared c).entry (prepared c).made
after c =
    fields_after (before c) (prepared c) c.add_made_product.new.board.rows c.add_made_product.new.products.items c.change_drafts.new.drafts.items c.begun_with-self-inside.result c.record_request.new.heard.items
    c.add_made_product.ensures.rows c.add_made_product.ensures.products c.change_drafts.ensures.drafts c.begun_with-self-inside.ensures c.record_request.ensures (may c).drafts

sound : (c : After-record_request) → IsSound (now c) c.add_made_product.new.numbers.counts
sound c = subst (λ (s : State). IsSound s c.add_made_product.new.numbers.counts) (sym (after c)) ((may c).sound c.add_made_product.new.numbers.counts c.add_made_product.ensures.numbers)

agrees : (c : After-record_request) → Agrees (now c) c.add_made_product.new.numbers.counts
agrees c = subst (λ (s : State). Agrees s c.add_made_product.new.numbers.counts) (sym (after c)) ((may c).agrees c.add_made_product.new.numbers.counts c.add_made_product.ensures.numbers)

abbrev said : After-record_request → LastRequest
said c = record { seq = c.p.inside.entry.seq; request = c.p.inside.entry.request; reply = c.p.inside.entry.reply }

kept : (c : After-record_request) → said_by (now c) c.p.inside.entry.desk ≡ Some (said c)
kept c =
    ap (λ (hs : List DeskRecord). said_in hs c.p.inside.entry.desk) c.record_request.ensures
    ∙ kept_after (before c) c.self.inside.numbers.counts c.p.inside.entry.desk (said c) c.self.invariant.0 (may c).desk

pub returns-clause-state : goal.returns-clause-state
returns-clause-state c = rw (← c.self.view_is, ← c.p.view_is) (after (goal.at.returns-clause-state c).After-record_request)

pub returns-clause-kept : goal.returns-clause-kept
returns-clause-kept c = rw (← c.p.view_is) (kept (goal.at.returns-clause-kept c).After-record_request)

pub returns-clause-reads : goal.returns-clause-reads
returns-clause-reads c = (agrees (goal.at.returns-clause-reads c).After-record_request).reads

pub returns-clause-consistent : goal.returns-clause-consistent
returns-clause-consistent c = (sound (goal.at.returns-clause-consistent c).After-record_request).stands.consistent

pub invariant_of-self : goal.invariant_of-self
invariant_of-self c =
    let d = (goal.at.invariant_of-self c).After-record_request in
    (sound d, agrees d, c.change_drafts.ensures.room)
