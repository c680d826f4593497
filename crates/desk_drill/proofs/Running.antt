-- A drill's run, request by request.
use Rattle.std.proofs.Common.{◌≡◌, ◌≤◌, ◌<◌, ◌+◌, ◌-◌, Result, Ok, Err, IfOk, ℕ, suc, List, ◌∷◌, refl, ap, sym, subst, arith}
use Rattle.desk_drill.specs.Draws.{next_draw}
use Rattle.desk_drill.specs.Keeping.{IsKept, drilled_of}
use Rattle.desk_drill.specs.Office.{Answers, Drilled, LeadsTo, first_drilled}
use Rattle.desk_drill.specs.Requests.{Issued, request_at, requests, requests_from}
use Rattle.desk_drill.specs.Runs.{IsSummary}
use Rattle.desk_drill.specs.Tellings.{summary}
use Rattle.desk_drill.specs.declared.desk.DrillDesk.{DrillDesk}
use Rattle.desk_drill.proofs.Agreeing.{no_breach}
use Rattle.desk_drill.proofs.OneAnswer.{HasOneAnswer, one_end}

-- the first of the requests that are left
pub requests_left : (i x n : ℕ) → i < n → requests_from i x (n - i) ≡ request_at i x ∷ requests_from (i + 1) (next_draw (next_draw x)) (n - (i + 1))
requests_left i x n h =
    let e : n - i ≡ suc (n - (i + 1)) = omega (arith, h) in
    ap (requests_from i x) e

-- none is left
pub none_left : (i x n : ℕ) → n - i ≡ 0 → requests_from i x (n - i) ≡ requests_from i x 0
none_left i x n h = ap (requests_from i x) h

-- one of the requests that are left
pub goes_left : (d e z : Drilled) (r : Issued) (i x y n : ℕ) → i < n → r ≡ request_at i x → y ≡ next_draw (next_draw x) → Answers d r e
    → LeadsTo e (requests_from (i + 1) y (n - (i + 1))) z → LeadsTo d (requests_from i x (n - i)) z
goes_left d e z r i x y n low is drawn answers rest =
    let first = subst (λ (q : Issued). Answers d q e) is answers in
    let then = subst (λ (w : ℕ). LeadsTo e (requests_from (i + 1) w (n - (i + 1))) z) drawn rest in
    subst (λ (rs : List Issued). LeadsTo d rs z) (sym (requests_left i x n low)) (e, first, then)

pub ends_there : (d : Drilled) (i x n : ℕ) → n ≤ i → LeadsTo d (requests_from i x (n - i)) d
ends_there d i x n all =
    let none : n - i ≡ 0 = omega (arith, all) in
    subst (λ (rs : List Issued). LeadsTo d rs d) (sym (none_left i x n none)) refl

-- the text is the summary of the drill
pub summary_is : {E : Type 0} → HasOneAnswer → (number count : ℕ) (desk : DrillDesk) (result : Result (List ℕ) E) → LeadsTo first_drilled (requests number count) (drilled_of desk) → IsKept desk
    → IfOk result (λ text. text ≡ summary (drilled_of desk)) → IfOk result (IsSummary number count)
summary_is law number count desk (Err e) run kept told = tt
summary_is law number count desk (Ok text) run kept told = record {
  after = drilled_of desk;
  run = run;
  told = told;
  only = λ other leads. one_end law first_drilled (requests number count) other (drilled_of desk) leads run;
  read_back = kept.reads;
  unbroken = no_breach desk.office.state kept.office kept.class kept.reads;
}
