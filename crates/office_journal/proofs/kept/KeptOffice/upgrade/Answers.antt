use Rattle.std.proofs.Common.{rules, ◌≡◌, ◌⊎◌, inl, ℕ, List, None, Some, Err, option_map, refl, sym, ◌∙◌, ap, subst}
use Rattle.desk_traits.proofs.Moments.{nothing, weaker}
use Rattle.office_types.specs.declared.request.Edition.TheVariants.{One}
use Rattle.journal_core.specs.Image.{IsOneOf}
use Rattle.journal_core.specs.Kept.{Keeps}
use Rattle.office_core.specs.State.{State}
use Rattle.office_journal.specs.Changes.{Change, Leaves, body_of, changed}
use Rattle.office_journal.specs.Histories.{IsHistory, bodies}
use Rattle.office_journal.proofs.Appending.{still_held}
use Rattle.office_journal.proofs.Carrying.{grown_bodies, leaves_less, left_between}
use Rattle.office_journal.proofs.Growing.{history_marked}
use Rattle.office_journal.proofs.kept.KeptOffice.upgrade.Goals as goal

pub returns-then-eq-clause-any_moment : goal.returns-then-eq-clause-any_moment
returns-then-eq-clause-any_moment g c file h pending holds =
    let d = g.D.Disk in
    let m = g.met.D.Disk in
    let P : Change → Type 0 = λ change. (pending ≡ Some change) ⊎ ((change ≡ Change.marked) × (h.edition ≡ One)) in
    nothing d.crash m.are_crashes c.args.self.now.journal.disk (Leaves file h P)
    (λ f left. leaves_less file h (λ change. pending ≡ Some change) P (λ change now. inl now) f (c.a_crash_leaves_the_history.ensures file h pending f holds left))

pub returns-in_default-clause-any_moment : goal.returns-in_default-clause-any_moment
returns-in_default-clause-any_moment g c file h pending holds =
    let d = g.D.Disk in
    let m = g.met.D.Disk in
    let P : Change → Type 0 = λ change. (pending ≡ Some change) ⊎ ((change ≡ Change.marked) × (h.edition ≡ One)) in
    nothing d.crash m.are_crashes c.args.self.now.journal.disk (Leaves file h P)
    (λ f left. leaves_less file h (λ change. pending ≡ Some change) P (λ change now. inl now) f (c.a_crash_leaves_the_history.ensures file h pending f holds left))

pub returns-in-Ok-append-clause-done : goal.returns-in-Ok-append-clause-done
returns-in-Ok-append-clause-done g c is =
    let d = g.D.Disk in
    let s = c.args.self.now.office.state in
    let one : s.edition ≡ One = search rules in (
      one,
      c.set_edition.ensures.state,
      λ file h pending holds.
          let marked : h.edition ≡ One = sym (ap (λ (z : State). z.edition) holds.history.state) ∙ one in
          let kept = c.in-Ok-append.ensures.ok (bodies file h) (option_map body_of pending) holds.journal in (
            record {
              journal = grown_bodies file h s holds.history Change.marked c.in-Ok.mark marked c.in-Ok.ensures (λ (bs : List (List ℕ)). Keeps d.seen d.crash c.append.new.self bs None) kept.0;
              history = subst (λ (z : State). IsHistory file (changed h Change.marked) z) (sym c.set_edition.ensures.state) (history_marked file h s holds.history marked);
              entries = holds.entries;
              change = tt;
            },
            kept.1,
          ),
    )

pub returns-in-Ok-append-clause-any_moment : goal.returns-in-Ok-append-clause-any_moment
returns-in-Ok-append-clause-any_moment g c file h pending holds =
    let d = g.D.Disk in
    let m = g.met.D.Disk in
    let s = c.args.self.now.office.state in
    let one : s.edition ≡ One = search rules in
    let marked : h.edition ≡ One = sym (ap (λ (z : State). z.edition) holds.history.state) ∙ one in
    let Q : Change → Type 0 = λ change. (change ≡ Change.marked) × (h.edition ≡ One) in
    weaker d.crash m.are_crashes c.args.self.now.journal.disk c.append.new.self.disk (IsOneOf (bodies file h) (option_map body_of pending) c.in-Ok.mark)
    (Leaves file h (λ change. (pending ≡ Some change) ⊎ Q change))
    (left_between file h s holds.history pending Change.marked c.in-Ok.mark holds.change marked c.in-Ok.ensures Q (refl, marked))
    (c.append.ensures.any_moment (bodies file h) (option_map body_of pending) holds.journal)

pub returns-in-Err-Full-clause-any_moment : goal.returns-in-Err-Full-clause-any_moment
returns-in-Err-Full-clause-any_moment g c file h pending holds =
    let d = g.D.Disk in
    let m = g.met.D.Disk in
    let s = c.args.self.now.office.state in
    let one : s.edition ≡ One = search rules in
    let marked : h.edition ≡ One = sym (ap (λ (z : State). z.edition) holds.history.state) ∙ one in
    let Q : Change → Type 0 = λ change. (change ≡ Change.marked) × (h.edition ≡ One) in
    weaker d.crash m.are_crashes c.args.self.now.journal.disk c.append.new.self.disk (IsOneOf (bodies file h) (option_map body_of pending) c.in-Ok.mark)
    (Leaves file h (λ change. (pending ≡ Some change) ⊎ Q change))
    (left_between file h s holds.history pending Change.marked c.in-Ok.mark holds.change marked c.in-Ok.ensures Q (refl, marked))
    (c.append.ensures.any_moment (bodies file h) (option_map body_of pending) holds.journal)

pub returns-clause-any_moment : goal.returns-clause-any_moment
returns-clause-any_moment g c file h pending holds =
    let d = g.D.Disk in
    let m = g.met.D.Disk in
    let s = c.args.self.now.office.state in
    let one : s.edition ≡ One = search rules in
    let marked : h.edition ≡ One = sym (ap (λ (z : State). z.edition) holds.history.state) ∙ one in
    let Q : Change → Type 0 = λ change. (change ≡ Change.marked) × (h.edition ≡ One) in
    weaker d.crash m.are_crashes c.args.self.now.journal.disk c.append.new.self.disk (IsOneOf (bodies file h) (option_map body_of pending) c.in-Ok.mark)
    (Leaves file h (λ change. (pending ≡ Some change) ⊎ Q change))
    (left_between file h s holds.history pending Change.marked c.in-Ok.mark holds.change marked c.in-Ok.ensures Q (refl, marked))
    (c.append.ensures.any_moment (bodies file h) (option_map body_of pending) holds.journal)

pub returns-clause-failed : goal.returns-clause-failed
returns-clause-failed g c is file h pending holds =
    let d = g.D.Disk in
    let s = c.args.self.now.office.state in
    let one : s.edition ≡ One = search rules in
    let marked : h.edition ≡ One = sym (ap (λ (z : State). z.edition) holds.history.state) ∙ one in
    let failed = c.in-Err-DiskFault.ensures.failed (bodies file h) (option_map body_of pending) holds.journal (ap Err c.in-Err-DiskFault.field-0-is) in
    still_held d.seen d.crash c.args.self.now file h pending holds Change.marked c.in-Ok.mark marked c.in-Ok.ensures _ refl refl failed.0 failed.1 failed.2
