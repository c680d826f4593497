-- Seats that rose and others, with those of more lines.
use Rattle.std.proofs.Common.{◌≡◌, ◌∙◌, ℕ, ◌+◌, ◌<◌, suc, arith, List, [], ◌∷◌, ◌++◌, ◌&&◌, ◌||◌, Bool, true, false, Option, Some, None, Ordering, Less, Equal, Greater, refl, ap, sym, take, drop, drop-cons, get_or, length}
use Rattle.std.proofs.lemmas.List.Folds.{list_any-append}
use Rattle.std.specs.BTreeMap.{is_at}
use Rattle.std.specs.BTreeSet.{insert_key}
use Rattle.std.specs.List.{list_any}
use Rattle.std.specs.Ordering.{is_lt, is_eq, ordering_reverse}
use Rattle.hazard_types.specs.declared.line.Line.{Line}
use Rattle.row_index.specs.declared.seats.Seat.{Seat}
use Rattle.row_index.specs.Risen.{is_after_last_key, last_said, rising_with, seats_of, IsFree, Joins, Says}
use Rattle.row_index.specs.Seating.{by_seat, has_seat, key_of_line, seats_with}
use Rattle.row_index.specs.Telling.{Tells}
use Rattle.row_index.proofs.Seated.{by_seat_total, by_seat_ties, counts_at, one_longer}
use Rattle.row_index.proofs.Tests.{any_insert, or_false}

-- a seat behind one that is behind the last

less_by : (o : Ordering) → is_lt o ≡ true → o ≡ Less
less_by Less h = refl
less_by Equal h = cc
less_by Greater h = cc

behind_last : (last : Option Seat) (s q : Seat) → is_after_last_key last s ≡ true → by_seat s q ≡ Less → is_after_last_key last q ≡ true
behind_last None s q h less = refl
behind_last (Some l) s q h less = ap is_lt (by_seat_total.trans l s q (less_by (by_seat l s) h) less)

not_there : (s q : Seat) → by_seat s q ≡ Less → is_at (by_seat q) s ≡ false
not_there s q less = ap is_eq (by_seat_total.antisymm q s ∙ ap ordering_reverse less)

neither : (a b : Bool) → a ≡ false → b ≡ false → (a || (b || false)) ≡ false
neither a b p q = rw (p, q) refl

pub free-none : (last : Option Seat) (rising : List Seat) → rising ≡ [] → IsFree last rising
free-none last rising none = λ s h. rw none refl

pub free-more : (counts : Bool) (line : Line) (last : Option Seat) (rising : List Seat) → IsFree last rising → is_after_last_key last (key_of_line line) ≡ true → IsFree (last_said counts line last) (rising_with counts line rising)
free-more false line last rising free behind = free
free-more true line last rising free behind = λ q h.
    let s = key_of_line line in
    let less = less_by (by_seat s q) h in
    list_any-append (is_at (by_seat q)) rising (s ∷ [])
    ∙ neither (list_any (is_at (by_seat q)) rising) (is_at (by_seat q) s) (free q (behind_last last s q behind less)) (not_there s q less)

-- the seats of both

or_by : (a b : Bool) → a ≡ false → b ≡ (a || b)
or_by a b h = rw h refl

pub second_behind : (last : Option Seat) (rising others : List Seat) (s : Seat) → IsFree last rising → is_after_last_key last s ≡ true → has_seat others s ≡ has_seat (seats_of rising others) s
second_behind last rising others s free behind =
    or_by (has_seat rising s) (has_seat others s) (free s behind) ∙ sym (list_any-append (is_at (by_seat s)) rising others)

pub second_among : (rising others all : List Seat) (s : Seat) → Joins rising others all → has_seat all s ≡ has_seat (seats_of rising others) s
second_among rising others all s joins = joins (is_at (by_seat s)) ∙ sym (list_any-append (is_at (by_seat s)) rising others)

last_turned : (a b c : Bool) → ((a || (c || false)) || b) ≡ ((a || b) || c)
last_turned true b c = refl
last_turned false true true = refl
last_turned false true false = refl
last_turned false false true = refl
last_turned false false false = refl

pub said-behind : (counts : Bool) (line : Line) (rising others : List Seat) → Says (seats_of rising others) (seats_of (rising_with counts line rising) others) counts line
said-behind false line rising others q = sym (or_false (list_any q (rising ++ others)))
said-behind true line rising others q =
    let s = key_of_line line in
    list_any-append q (rising ++ s ∷ []) others
    ∙ ap (λ (b : Bool). b || list_any q others) (list_any-append q rising (s ∷ []))
    ∙ last_turned (list_any q rising) (list_any q others) (q s)
    ∙ ap (λ (b : Bool). b || q s) (sym (list_any-append q rising others))

or_swapped : (a b : Bool) → (a || b) ≡ (b || a)
or_swapped true true = refl
or_swapped true false = refl
or_swapped false true = refl
or_swapped false false = refl

with_line : (counts : Bool) (line : Line) (all : List Seat) (q : Seat → Bool) → list_any q (seats_with counts line all) ≡ (list_any q all || (counts && q (key_of_line line)))
with_line false line all q = sym (or_false (list_any q all))
with_line true line all q = any_insert by_seat by_seat_total by_seat_ties q (key_of_line line) all ∙ or_swapped (q (key_of_line line)) (list_any q all)

pub said-among : (counts : Bool) (line : Line) (rising others all after next : List Seat) → Joins rising others all → after ≡ [] → next ≡ seats_with counts line all → Says (seats_of rising others) (seats_of after next) counts line
said-among counts line rising others all after next joins none next_is q =
    ap (λ (seats : List Seat). list_any q (seats ++ next)) none
    ∙ ap (list_any q) next_is
    ∙ with_line counts line all q
    ∙ ap (λ (b : Bool). b || (counts && q (key_of_line line))) (joins q ∙ sym (list_any-append q rising others))

-- one seat more comes among the others

three_turned : (s d o : Bool) → (d || (s || o)) ≡ ((s || d) || o)
three_turned true true o = refl
three_turned true false o = refl
three_turned false true o = refl
three_turned false false o = refl

pub join_next : (seats others next before : List Seat) (i : ℕ) (seat : Seat) → i < length seats → seat ≡ get_or seats i seat → next ≡ insert_key by_seat others seat
    → ((q : Seat → Bool) → (list_any q (drop i seats) || list_any q others) ≡ (list_any q seats || list_any q before))
    → (q : Seat → Bool) → (list_any q (drop (i + 1) seats) || list_any q next) ≡ (list_any q seats || list_any q before)
join_next seats others next before i seat within is next_is sofar q =
    let after : suc i ≡ i + 1 = omega arith in
    let cut : drop i seats ≡ seat ∷ drop (i + 1) seats =
    drop-cons seats i seat within ∙ ap (λ (x : Seat). x ∷ drop (suc i) seats) (sym is) ∙ ap (λ (k : ℕ). seat ∷ drop k seats) after in
    ap (λ (all : List Seat). list_any q (drop (i + 1) seats) || list_any q all) next_is
    ∙ ap (λ (b : Bool). list_any q (drop (i + 1) seats) || b) (any_insert by_seat by_seat_total by_seat_ties q seat others)
    ∙ three_turned (q seat) (list_any q (drop (i + 1) seats)) (list_any q others)
    ∙ ap (λ (rest : List Seat). list_any q rest || list_any q others) (sym cut)
    ∙ sofar q

-- one line more
pub told_next : (counts : Line → Bool) (seats next : List Seat) (lines : List Line) (i : ℕ) (line : Line) (counted : Bool) → i < length lines → line ≡ get_or lines i line → counted ≡ counts line → Says seats next counted line
    → Tells counts key_of_line seats (take i lines) → Tells counts key_of_line next (take (i + 1) lines)
told_next counts seats next lines i line counted lt is counted_is says tells q =
    says q
    ∙ ap (λ (b : Bool). list_any q seats || (b && q (key_of_line line))) counted_is
    ∙ ap (λ (b : Bool). b || (counts line && q (key_of_line line))) (tells q)
    ∙ ap (λ (b : Bool). list_any (counts_at counts q) (take i lines) || b) (sym (or_false (counts line && q (key_of_line line))))
    ∙ sym (list_any-append (counts_at counts q) (take i lines) (line ∷ []))
    ∙ ap (λ (all : List Line). list_any (counts_at counts q) all) (sym (one_longer lines i line lt is))
