use Rattle.std.proofs.Common.{ℕ, List, ◌∙◌, ⊎_elim, subst}
use Rattle.office_journal.specs.Damage.{FailsAt, HasBadBody}
use Rattle.office_journal.specs.Histories.{bodies}
use Rattle.office_journal.proofs.Placing.{fails_once}
use Rattle.office_journal.proofs.Telling.{histories_once, prefix_is}
use Rattle.office_journal.proofs.laws.files_hold_one_history.Goals as goal

pub returns : goal.returns
returns c = record {
  one = λ bytes file other h g a b.
      histories_once c.canonical_texts_are_lines.ensures c.a_request_has_one_answer.ensures.accepted file other h g a.state b.state a.history b.history
      (c.read_in_one_way.ensures.image bytes (bodies file h) (bodies other g) a.image b.image);
  damaged = λ bytes file h at a damaged.
      ⊎_elim (λ d. c.read_in_one_way.ensures.image_or_damaged bytes (bodies file h) at a.image d)
      (λ (d : HasBadBody bytes at). d.fails.bad (prefix_is file h a.state d.fails.before d.fails.body d.fails.behind a.history (c.read_in_one_way.ensures.image bytes (bodies file h) d.all a.image d.image ∙ d.fails.are)))
      damaged;
  place = λ bytes at other a b.
      ⊎_elim
      (λ d. ⊎_elim (λ e. c.read_in_one_way.ensures.place bytes at other d e) (λ (e : HasBadBody bytes other). absurd (c.read_in_one_way.ensures.image_or_damaged bytes e.all at e.image d)) b)
      (λ (d : HasBadBody bytes at). ⊎_elim
      (λ e. absurd (c.read_in_one_way.ensures.image_or_damaged bytes d.all other d.image e))
      (λ (e : HasBadBody bytes other). fails_once d.all at other d.fails (subst (λ (all : List (List ℕ)). FailsAt all other) (c.read_in_one_way.ensures.image bytes e.all d.all e.image d.image) e.fails))
      b)
      a;
  fresh = λ bytes file h a fresh. c.read_in_one_way.ensures.image_or_fresh bytes (bodies file h) a.image fresh;
}
