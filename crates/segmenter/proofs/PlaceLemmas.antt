-- A line before the first that comes after it: in lines that are in order those that come after it stand at the end.
use Rattle.std.proofs.Common.{◌≡◌, ◌∙◌, ℕ, zero, suc, ◌+◌, ◌-◌, ◌==◌, ◌<◌, ◌≤◌, Bool, true, false, not, List, [], ◌∷◌, length, get_or, Ordering, Less, Equal, Greater, refl, sym, ap, subst, arith, true≢false}
use Rattle.std.specs.List.{insert, AllByRecursion}
use Rattle.std.specs.List.Sorted.{IsPartitionedBy, IsPartitionPoint}
use Rattle.std.specs.Ordering.{is_lt, ordering_reverse}
use Rattle.std.proofs.lemmas.List.{get_or_read}
use Rattle.hazard_types.specs.declared.line.SegLine.{SegLine}
use Rattle.segmenter.specs.Groups.{by_line, placed}
use Rattle.segmenter.specs.Laws.{AreInOrder}
use Rattle.segmenter.proofs.OrderLemmas.{by_line_total, less_is}

-- the lines before this place do not come after the line
abbrev pub ArePassed : SegLine → List SegLine → ℕ → Type 0
ArePassed line lines i = (k : ℕ) (d : SegLine) → k < i → is_lt (by_line line (get_or lines k d)) ≡ false

passed_rest : (line l : SegLine) (lines : List SegLine) (i : ℕ) → ArePassed line (l ∷ lines) (suc i) → ArePassed line lines i
passed_rest line l lines i passed k d lt = passed (suc k) d (omega arith)

pub behind_all : (line : SegLine) (lines : List SegLine) → ArePassed line lines (length lines) → insert lines (length lines) line ≡ placed line lines
behind_all line [] passed = refl
behind_all line (l ∷ lines) passed =
    rw (passed 0 line (omega arith)) (ap (λ (more : List SegLine). l ∷ more) (behind_all line lines (passed_rest line l lines (length lines) passed)))

-- a line that comes before one comes before those behind it
before_by : (o : Ordering) (line a b : SegLine) → by_line a b ≡ o → is_lt (by_line b a) ≡ false → is_lt (by_line line a) ≡ true → is_lt (by_line line b) ≡ true
before_by Less line a b is order less = ap is_lt (by_line_total.trans line a b (less_is (by_line line a) less) is)
before_by Equal line a b is order less =
    ap is_lt (by_line_total.antisymm line b ∙ ap ordering_reverse (sym (by_line_total.congr a b line is)) ∙ sym (by_line_total.antisymm line a)) ∙ less
before_by Greater line a b is order less =
    let never : is_lt (by_line b a) ≡ true = ap is_lt (by_line_total.antisymm b a ∙ ap ordering_reverse is) in
    absurd (true≢false (sym never ∙ order))

passes_by : (b : Bool) (line a other : SegLine) → is_lt (by_line line a) ≡ b → is_lt (by_line other a) ≡ false → not (is_lt (by_line line other)) ≡ true → not b ≡ true
passes_by false line a other is order passes = refl
passes_by true line a other is order passes = let less = before_by (by_line a other) line a other refl order is in ap not (sym less) ∙ passes

after_at : (a : SegLine) (lines : List SegLine) (j : ℕ) (d : SegLine) → AllByRecursion (λ (later : SegLine). is_lt (by_line later a) ≡ false) lines → j < length lines → is_lt (by_line (get_or lines j d) a) ≡ false
after_at a [] j d all within = absurd (omega (arith, within))
after_at a (l ∷ lines) zero d all within = all.0
after_at a (l ∷ lines) (suc j) d all within = after_at a lines j d all.1 (omega (arith, within))

-- those that do not come after the line stand in front
pub parted : (line : SegLine) (lines : List SegLine) → AreInOrder lines → IsPartitionedBy (λ (other : SegLine). not (is_lt (by_line line other))) lines
parted line [] order i j d le within h = absurd (omega (arith, within))
parted line (l ∷ lines) order zero zero d le within h = h
parted line (l ∷ lines) order zero (suc j) d le within h =
    passes_by (is_lt (by_line line l)) line l (get_or lines j d) refl (after_at l lines j d order.0 (omega (arith, within))) h
parted line (l ∷ lines) order (suc i) zero d le within h = absurd (omega (arith, le))
parted line (l ∷ lines) order (suc i) (suc j) d le within h = parted line lines order.1 i j d (omega (arith, le)) (omega (arith, within)) h

false_of : (b : Bool) → not b ≡ true → b ≡ false
false_of true h = cc
false_of false h = refl

true_of : (b : Bool) → not b ≡ false → b ≡ true
true_of true h = refl
true_of false h = cc

-- where the last line does not come after it, none does
behind_at : (line : SegLine) (lines : List SegLine) (last : ℕ) (other : SegLine) → AreInOrder lines → last < length lines → length lines ≤ last + 1 → other ≡ get_or lines last other → not (is_lt (by_line line other)) ≡ true → insert lines (length lines) line ≡ placed line lines
behind_at line lines last other order within end is passes =
    let p : SegLine → Bool = λ r. not (is_lt (by_line line r)) in
    behind_all line lines (λ k d lt. false_of _ (parted line lines order k last d (omega (arith, lt, end)) within (subst (λ (r : SegLine). p r ≡ true) (get_or_read lines last other within is d) passes)))

pub behind_last : (line : SegLine) (lines : List SegLine) (other : SegLine) → AreInOrder lines → (length lines == 0) ≡ false → other ≡ get_or lines (length lines - 1) other → not (is_lt (by_line line other)) ≡ true → insert lines (length lines) line ≡ placed line lines
behind_last line [] other order some is passes = cc
behind_last line (l ∷ lines) other order some is passes = behind_at line (l ∷ lines) (length (l ∷ lines) - 1) other order (omega arith) (omega arith) is passes

-- at the point that parts them
pub at_point : (line : SegLine) (lines : List SegLine) (i : ℕ) → i ≤ length lines → IsPartitionPoint (λ (other : SegLine). not (is_lt (by_line line other)) ≡ true) (λ (other : SegLine). not (is_lt (by_line line other)) ≡ false) lines i → insert lines i line ≡ placed line lines
at_point line [] zero bound point = refl
at_point line [] (suc i) bound point = absurd (omega (arith, bound))
at_point line (l ∷ lines) zero bound point = rw (true_of _ (point.1 0 l (omega arith) (omega arith))) refl
at_point line (l ∷ lines) (suc i) bound point =
    rw (false_of _ (point.0 0 line (omega arith) (omega arith)))
    (ap (λ (more : List SegLine). l ∷ more)
    (at_point line lines i (omega (arith, bound)) (λ k d low lt. point.0 (suc k) d (omega arith) (omega (arith, lt)), λ k d low lt. point.1 (suc k) d (omega (arith, low)) (omega (arith, lt)))))
