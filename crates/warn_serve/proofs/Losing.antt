-- An answer for which memory may lack is one of a turn in which nothing happened that the pass could call its own.
use Rattle.std.proofs.Common.{ℤ, ◌≡◌, ◌∙◌, inl, inr, List, [], ◌∷◌, length, ap, sym, arith, length-append, ℕ, OnErr, Result, Ok, Err}
use Rattle.hazard_types.specs.declared.or.Or.{Or}
use Rattle.office_types.specs.declared.refusal.Refusal.{Refusal}
use Rattle.office_types.specs.declared.request.Query.{Query}
use Rattle.request_json.specs.declared.asked.Asked.{Asked}
use Rattle.office_journal.specs.declared.answers.Answer.{Answer}
use Rattle.office_journal.specs.declared.answers.Answer.TheVariants.{Accepted, Repeated, Refused, DiskFault, OutOfMemory}
use Rattle.office_journal.specs.declared.kept.KeptOffice.{KeptOffice}
use Rattle.office_turns.specs.Turns.{SubmitsInTurn}
use Rattle.office_turns.specs.declared.happening.Happening.{Happening}
use Rattle.turn_lock.specs.Passes.{PassRecord, PlacesAfter}
use Rattle.warn_serve.specs.Answers.{MayBeLost}
use Rattle.warn_serve.specs.Calls.{LooksInTurn}

none_added : {E : Type 0} (before after : List E) (old new : List ℕ) → PlacesAfter before after old new → after ≡ before → new ≡ old
none_added before after old new (inl kept) same = kept.1
none_added before after old new (inr more) same = absurd (let n = length-append before (more.0 ∷ []) in omega (arith, ap length (sym same ∙ more.1)))

pub on_err : {T E : Type 0} (r : Result T E) (P Q : Type 0) → (P → Q) → OnErr r P → OnErr r Q
on_err (Ok x) P Q so p = tt
on_err (Err e) P Q so p = so p

pub always_on_err : {T E : Type 0} (r : Result T E) (P : Type 0) → P → OnErr r P
always_on_err (Ok x) P p = tt
always_on_err (Err e) P p = p

module _ {D : Type 0} {d : _} (old new : PassRecord (KeptOffice D d) (Happening D d)) (gives : ℤ → Type 0) where
  pub submit_lost : (asked : Asked) (answer : Answer) → SubmitsInTurn gives asked old new answer → MayBeLost answer → new.mine ≡ old.mine
  submit_lost asked (Accepted text) turn may = absurd may
  submit_lost asked (Repeated text) turn may = absurd may
  submit_lost asked (Refused broken) turn may = none_added turn.before new.seen old.mine new.mine turn.places turn.submitted.submitted.1
  submit_lost asked DiskFault turn may = absurd may
  submit_lost asked OutOfMemory turn may = absurd may

  pub look_adds_none : (query : Query) (shown : Result (List ℕ) (Or Refusal)) → LooksInTurn gives query old new shown → new.mine ≡ old.mine
  look_adds_none query shown turn = none_added turn.before new.seen old.mine new.mine turn.places turn.looked.looked.1
