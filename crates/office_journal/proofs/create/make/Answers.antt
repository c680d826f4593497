use Rattle.std.proofs.Common.{◌⊎◌, inl, inr, ⊎_elim, ℕ, List, [], ◌∷◌, None, Result, Ok, Err, MatchResult, subst}
use Rattle.desk_traits.proofs.Moments.{both, weaker}
use Rattle.desk_traits.specs.Crash.{LeavesOnly}
use Rattle.journal_core.specs.Create.{IsMaking}
use Rattle.journal_core.specs.Image.{IsOneOf}
use Rattle.journal_core.specs.Kept.{Keeps}
use Rattle.office_journal.specs.Bodies.{mark}
use Rattle.office_journal.specs.Kept.{disk_of}
use Rattle.office_journal.specs.Making.{IsMakingOf}
use Rattle.office_journal.proofs.Beginning.{while_made, while_marked}
use Rattle.office_journal.proofs.create.make.Goals as goal

each_way : {T E : Type 0} (r : Result T E) (P P' : T → Type 0) (Q Q' : E → Type 0) → ((x : T) → P x → P' x) → ((e : E) → Q e → Q' e) → MatchResult r P Q → MatchResult r P' Q'
each_way (Ok x) P P' Q Q' f g p = f x p
each_way (Err e) P P' Q Q' f g q = g e q

pub returns-in-Ok-first_journal-clause-any_moment : goal.returns-in-Ok-first_journal-clause-any_moment
returns-in-Ok-first_journal-clause-any_moment g c bytes told =
    let d = g.D.Disk in
    let m = g.met.D.Disk in
    let file = c.args.text.now in
    let Q : List ℕ → Type 0 = λ x. (d.crash c.args.disk).may_leave x ⊎ IsMakingOf file x in
    let first : LeavesOnly (d.crash c.args.disk) (d.crash c.in-Ok-first_journal.journal.disk) (λ x. (d.crash c.args.disk).may_leave x ⊎ IsMaking file x) =
    subst (λ (b : List ℕ). LeavesOnly (d.crash c.args.disk) (d.crash c.in-Ok-first_journal.journal.disk) (λ x. (d.crash c.args.disk).may_leave x ⊎ IsMaking b x)) c.in-Ok.ensures.text (c.in-Ok-first_journal.ensures.any_moment bytes told) in
    let keeps : Keeps d.seen d.crash c.in-Ok-first_journal.journal (file ∷ []) None =
    subst (λ (b : List ℕ). Keeps d.seen d.crash c.in-Ok-first_journal.journal (b ∷ []) None) c.in-Ok.ensures.text (c.in-Ok-first_journal.ensures.ok bytes told) in
    let step : (new : _) → LeavesOnly (d.crash c.in-Ok-first_journal.journal.disk) (d.crash new) (IsOneOf (file ∷ []) None mark) → LeavesOnly (d.crash c.args.disk) (d.crash new) Q =
    λ new second. both d.crash m.are_crashes c.args.disk c.in-Ok-first_journal.journal.disk new (λ x. (d.crash c.args.disk).may_leave x ⊎ IsMaking file x) Q first
    (weaker d.crash m.are_crashes c.in-Ok-first_journal.journal.disk new (IsOneOf (file ∷ []) None mark) Q (λ x one. inr (while_marked file c.args.settings c.requires.read x one)) second)
    (λ x made. ⊎_elim (λ was. inl was) (λ making. inr (while_made file c.args.settings c.requires.read x making)) made) in
    each_way c.append_edition_mark.result _ _ _ _ (λ kept second. step (disk_of kept) second) (λ e second. step e.0 second) (c.append_edition_mark.ensures.any_moment (file ∷ []) keeps)

pub returns-in-Err-clause-any_moment : goal.returns-in-Err-clause-any_moment
returns-in-Err-clause-any_moment g c bytes told =
    let d = g.D.Disk in
    let m = g.met.D.Disk in
    let file = c.args.text.now in
    let Q : List ℕ → Type 0 = λ x. (d.crash c.args.disk).may_leave x ⊎ IsMakingOf file x in
    let first : LeavesOnly (d.crash c.args.disk) (d.crash c.in-Err.failed.0) (λ x. (d.crash c.args.disk).may_leave x ⊎ IsMaking file x) =
    subst (λ (b : List ℕ). LeavesOnly (d.crash c.args.disk) (d.crash c.in-Err.failed.0) (λ x. (d.crash c.args.disk).may_leave x ⊎ IsMaking b x)) c.in-Ok.ensures.text (c.in-Err.ensures.any_moment bytes told) in
    weaker d.crash m.are_crashes c.args.disk c.in-Err.failed.0 (λ x. (d.crash c.args.disk).may_leave x ⊎ IsMaking file x) Q
    (λ x made. ⊎_elim (λ was. inl was) (λ making. inr (while_made file c.args.settings c.requires.read x making)) made) first
