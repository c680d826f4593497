-- Runs of device calls.
use Rattle.std.proofs.Common.{◌≡◌, inl, inr, ⊎_elim, ℕ, List, Option, None, Some, refl, ◌∙◌, subst, arith, length, Result, OnOk}
use Rattle.desk_traits.specs.Crash.{Crashes, AreCrashes, Passes, LeavesOnly}
use Rattle.desk_traits.specs.File.{Torn, HasBytes, WritesAt, Same}

-- what a write leaves of a file that is told
pub record After {E : Type 0} (at : ℕ) (bytes old : List ℕ) (new : Option (List ℕ)) (result : Result (Unit {0}) E) : Type 0 where
  pub file : List ℕ
  pub told : new ≡ Some file
  pub torn : Torn at (length bytes) old file
  pub holds : OnOk result (HasBytes at bytes old file)

after : {E : Type 0} (at : ℕ) (bytes : List ℕ) (o n f : List ℕ) (result : Result (Unit {0}) E) → o ≡ f → Torn at (length bytes) o n × OnOk result (HasBytes at bytes o n) → After at bytes f (Some n) result
after at bytes o n f result e w = let w' = subst (λ (l : List ℕ). Torn at (length bytes) l n × OnOk result (HasBytes at bytes l n)) e w in record { file = n; told = refl; torn = w'.0; holds = w'.1 }

pub told_after : {E : Type 0} (at : ℕ) (bytes : List ℕ) (old new : Option (List ℕ)) (result : Result (Unit {0}) E) (f : List ℕ) → old ≡ Some f → WritesAt at bytes old new result → After at bytes f new result
told_after at bytes None new result f e w = absurd (cc)
told_after at bytes (Some o) None result f e w = absurd w
told_after at bytes (Some o) (Some n) result f e w = after at bytes o n f result (cc) w

module _ {D : Type 0} (crash : D → Crashes) (are_crashes : (d : D) → AreCrashes (crash d)) where
  -- no call
  pub nothing : (d : D) (P : List ℕ → Type 0) → ((c : List ℕ) → (crash d).may_leave c → P c) → LeavesOnly (crash d) (crash d) P
  nothing d P now = record { later = omega arith; each = λ c left. now c ((are_crashes d).only_now c left); joins = λ t c le left. inl left; keeps = λ t c le left. left }

  -- one call
  pub one : (old new : D) (step : List ℕ → List ℕ → Type 0) (P : List ℕ → Type 0) → Passes step (crash old) (crash new)
      → ((d c : List ℕ) → (crash old).may_leave d → step d c → P c) → LeavesOnly (crash old) (crash new) P
  one old new step P passes each = record {
    later = passes.later;
    each = λ c left. let from = passes.during c left in each from.0 c from.1 from.2;
    joins = passes.joins;
    keeps = passes.keeps;
  }

  -- one run and then another
  pub both : (old mid new : D) (P Q : List ℕ → Type 0) → LeavesOnly (crash old) (crash mid) P → LeavesOnly (crash mid) (crash new) Q → ((c : List ℕ) → P c → Q c) → LeavesOnly (crash old) (crash new) Q
  both old mid new P Q first second weaker = let start = (crash old).moment in record {
    later = omega (arith, first.later, second.later);
    each = λ c left. ⊎_elim (λ was. weaker c (first.each c was)) (second.each c) (second.joins start c first.later left);
    joins = λ t c le left. ⊎_elim
        (λ was. ⊎_elim (λ long. inl long) (λ since. inr (second.keeps start c first.later since)) (first.joins t c le was))
        (λ since. inr ((are_crashes new).earlier start (crash mid).moment c first.later second.later since))
        (second.joins t c (omega (arith, le, first.later)) left);
    keeps = λ t c le left. second.keeps t c (omega (arith, le, first.later)) (first.keeps t c le left);
  }

  pub weaker : (old new : D) (P Q : List ℕ → Type 0) → ((c : List ℕ) → P c → Q c) → LeavesOnly (crash old) (crash new) P → LeavesOnly (crash old) (crash new) Q
  weaker old new P Q f run = record { later = run.later; each = λ c left. f c (run.each c left); joins = run.joins; keeps = run.keeps }

  -- what a crash may leave in the end
  pub ends : (old new : D) (P : List ℕ → Type 0) → LeavesOnly (crash old) (crash new) P → (c : List ℕ) → (crash new).may_leave c → P c
  ends old new P run c left = run.each c ((are_crashes new).earlier (crash old).moment (crash new).moment c run.later (omega arith) ((are_crashes new).counts_now c left))

  -- two runs that change nothing
  pub same_both : (old mid new : D) → Passes Same (crash old) (crash mid) → Passes Same (crash mid) (crash new) → Passes Same (crash old) (crash new)
  same_both old mid new first second = let start = (crash old).moment in record {
    later = omega (arith, first.later, second.later);
    during = λ c left. ⊎_elim (first.during c) (λ since. let from = second.during c since in
        let was = first.during from.0 ((are_crashes mid).earlier start (crash mid).moment from.0 first.later (omega arith) ((are_crashes mid).counts_now from.0 from.1)) in
        (was.0, was.1, from.2 ∙ was.2)) (second.joins start c first.later left);
    joins = λ t c le left. ⊎_elim
        (λ was. ⊎_elim (λ long. inl long) (λ since. inr (second.keeps start c first.later since)) (first.joins t c le was))
        (λ since. inr ((are_crashes new).earlier start (crash mid).moment c first.later second.later since))
        (second.joins t c (omega (arith, le, first.later)) left);
    keeps = λ t c le left. second.keeps t c (omega (arith, le, first.later)) (first.keeps t c le left);
  }
