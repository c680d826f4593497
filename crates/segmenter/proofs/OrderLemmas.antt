-- The lines of a group are in order.
use Rattle.std.proofs.Common.{◌≡◌, ◌∙◌, List, [], ◌∷◌, Ordering, Less, Equal, Greater, Bool, true, false, cond, fold, refl, ap, sym, true≢false}
use Rattle.std.specs.Cmp.{IsTotalOrder}
use Rattle.std.specs.List.{filter, AllByRecursion}
use Rattle.std.specs.Ordering.{is_lt, ordering_reverse}
use Rattle.std.proofs.lemmas.Cmp.{then_total, on_total, nat_cmp_total}
use Rattle.hazard_types.specs.declared.line.Line.{Line}
use Rattle.hazard_types.specs.declared.line.SegLine.{SegLine}
use Rattle.hazard_types.proofs.OrderLaws.{by_event_total}
use Rattle.segmenter.specs.declared.groups.Group.{Group}
use Rattle.segmenter.specs.Groups.{action_rank, by_line, placed, group_of, without_zone, same_group, lines_of}
use Rattle.segmenter.specs.Laws.{AreInOrder}

pub by_line_total : IsTotalOrder by_line
by_line_total = then_total (on_total (λ (l : SegLine). action_rank l.action) nat_cmp_total) (on_total (λ (l : SegLine). l.event) by_event_total)

pub less_is : (o : Ordering) → is_lt o ≡ true → o ≡ Less
less_is Less h = refl
less_is Equal h = cc
less_is Greater h = cc

-- what comes before a line that the later one does not come before
not_before : (b : Bool) (line other later : SegLine) → is_lt (by_line later line) ≡ b → is_lt (by_line line other) ≡ true → is_lt (by_line later other) ≡ false → b ≡ false
not_before true line other later is less not =
    let before : by_line later other ≡ Less = by_line_total.trans later line other (less_is (by_line later line) is) (less_is (by_line line other) less) in
    absurd (true≢false (sym (ap is_lt before) ∙ not))
not_before false line other later is less not = refl

turned_less : (o : Ordering) → o ≡ Less → is_lt (ordering_reverse o) ≡ false
turned_less Less h = refl
turned_less Equal h = cc
turned_less Greater h = cc

after : (line other : SegLine) → is_lt (by_line line other) ≡ true → is_lt (by_line other line) ≡ false
after line other less = ap is_lt (by_line_total.antisymm other line) ∙ turned_less (by_line line other) (less_is (by_line line other) less)

all_after : (line other : SegLine) (others : List SegLine) → is_lt (by_line line other) ≡ true → AllByRecursion (λ (later : SegLine). is_lt (by_line later other) ≡ false) others
    → AllByRecursion (λ (later : SegLine). is_lt (by_line later line) ≡ false) others
all_after line other [] less all = tt
all_after line other (later ∷ more) less all = (not_before (is_lt (by_line later line)) line other later refl less all.0, all_after line other more less all.1)

all_by : (P : SegLine → Type 0) (b : Bool) (line other : SegLine) (others : List SegLine) → P line → AllByRecursion P (other ∷ others) → AllByRecursion P (placed line others)
    → AllByRecursion P (cond b (line ∷ other ∷ others) (other ∷ placed line others))
all_by P true line other others here all more = (here, all)
all_by P false line other others here all more = (all.0, more)

pub all_placed : (P : SegLine → Type 0) (line : SegLine) (others : List SegLine) → P line → AllByRecursion P others → AllByRecursion P (placed line others)
all_placed P line [] here all = (here, tt)
all_placed P line (other ∷ others) here all = all_by P (is_lt (by_line line other)) line other others here all (all_placed P line others here all.1)

order_by : (b : Bool) (line other : SegLine) (others : List SegLine) → is_lt (by_line line other) ≡ b → AreInOrder (other ∷ others) → AreInOrder (placed line others)
    → AreInOrder (cond b (line ∷ other ∷ others) (other ∷ placed line others))
order_by true line other others is order more = ((after line other is, all_after line other others is order.0), order)
order_by false line other others is order more = (all_placed (λ (later : SegLine). is_lt (by_line later other) ≡ false) line others is order.0, more)

pub order_placed : (line : SegLine) (others : List SegLine) → AreInOrder others → AreInOrder (placed line others)
order_placed line [] order = (tt, tt)
order_placed line (other ∷ others) order = order_by (is_lt (by_line line other)) line other others refl order (order_placed line others order.1)

order_all : (ordered : List SegLine) (lines : List Line) → AreInOrder ordered → AreInOrder (fold (λ (so_far : List SegLine) (line : Line). placed (without_zone line) so_far) ordered lines)
order_all ordered [] order = order
order_all ordered (line ∷ lines) order = order_all (placed (without_zone line) ordered) lines (order_placed (without_zone line) ordered order)

pub lines_in_order : (lines : List Line) (g : Group) → AreInOrder (lines_of lines g)
lines_in_order lines g = order_all [] (filter (λ line. same_group g (group_of line)) lines) tt
