-- Zones behind the last of those that rose.
use Rattle.std.proofs.Common.{◌≡◌, ◌∙◌, ℕ, zero, suc, ◌+◌, ◌-◌, ◌<◌, List, [], ◌∷◌, ◌++◌, true, length, get_or, take, refl, sym, ap, subst, arith}
use Rattle.std.specs.Prelude.{slice_get}
use Rattle.std.specs.declared.cmp.Ordering.{Ordering}
use Rattle.std.specs.declared.cmp.Ordering.TheVariants.{Less, Equal, Greater}
use Rattle.std.specs.Ordering.{is_lt, nat_cmp, ordering_reverse}
use Rattle.std.specs.Cmp.Lexicographic.{slice_cmp}
use Rattle.std.specs.List.{AllByRecursion}
use Rattle.std.specs.List.Sorted.{IsStrictlySortedBy}
use Rattle.std.proofs.lemmas.Bool.Decides.{nat_tests}
use Rattle.std.proofs.lemmas.Cmp.{nat_cmp_total, nat_list_cmp_total, tied_itself}
use Rattle.std.proofs.lemmas.List.{take_more}
use Rattle.hazard_types.specs.Places.{Place, kind_rank, by_place}
use Rattle.hazard_types.proofs.OrderLaws.{by_place_total}
use Rattle.ugc_codes.specs.Grammar.{numbered, add, add_run}
use Rattle.ugc_codes.specs.Rising.{is_behind_last, comes_after_all}
use Rattle.ugc_codes.proofs.Adding.{run_steps}

-- a zone is behind each of these
abbrev pub IsBehind : List Place → Place → Type 0
IsBehind zones z = AllByRecursion (λ q. by_place q z ≡ Less) zones

less_by : (o : Ordering) → is_lt o ≡ true → o ≡ Less
less_by Less h = refl
less_by Equal h = cc
less_by Greater h = cc

all_more : (P : Place → Type 0) (xs : List Place) (z : Place) → AllByRecursion P xs → P z → AllByRecursion P (xs ++ z ∷ [])
all_more P [] z h p = (p, tt)
all_more P (x ∷ xs) z h p = (h.0, all_more P xs z h.1 p)

all_at : (P : Place → Type 0) (xs : List Place) (i : ℕ) (d : Place) → AllByRecursion P xs → i < length xs → P (get_or xs i d)
all_at P [] i d h lt = absurd (omega arith)
all_at P (x ∷ xs) zero d h lt = h.0
all_at P (x ∷ xs) (suc i) d h lt = all_at P xs i d h.1 (omega arith)

-- the last of them is behind the others
pub behind_all : (zones : List Place) (z : Place) → IsStrictlySortedBy by_place zones → comes_after_all zones z ≡ true → IsBehind zones z
unfolding IsStrictlySortedBy
behind_all [] z s h = tt
behind_all (x ∷ []) z s h = (less_by (by_place x z) h, tt)
behind_all (x ∷ y ∷ ys) z s h =
    let e : length (x ∷ y ∷ ys) - 1 ≡ suc (length (y ∷ ys) - 1) = omega arith in
    let h' : comes_after_all (y ∷ ys) z ≡ true = subst (λ (k : ℕ). is_behind_last (slice_get (x ∷ y ∷ ys) k) z ≡ true) e h in
    let rest = behind_all (y ∷ ys) z s.1 h' in
    (by_place_total.trans x y z s.0.0 rest.0, rest)

-- so it is append_group at the end
pub add_behind : (zones : List Place) (z : Place) → IsBehind zones z → add zones z ≡ zones ++ z ∷ []
add_behind [] z h = refl
add_behind (x ∷ xs) z h =
    let e : by_place z x ≡ Greater = by_place_total.antisymm z x ∙ ap ordering_reverse h.0 in
    rw e (ap (λ (zs : List Place). x ∷ zs) (add_behind xs z h.1))

pub sorted_behind : (zones : List Place) (z : Place) → IsStrictlySortedBy by_place zones → IsBehind zones z → IsStrictlySortedBy by_place (zones ++ z ∷ [])
unfolding IsStrictlySortedBy
sorted_behind [] z s h = (tt, tt)
sorted_behind (x ∷ xs) z s h = (all_more (λ (q : Place). by_place x q ≡ Less) xs z s.0 h.0, sorted_behind xs z s.1 h.1)

behind_further : (zones : List Place) (y z : Place) → IsBehind zones y → by_place y z ≡ Less → IsBehind zones z
behind_further [] y z h less = tt
behind_further (x ∷ xs) y z h less = (by_place_total.trans x y z h.0 less, behind_further xs y z h.1 less)

number_less : (n : ℕ) → nat_cmp n (n + 1) ≡ Less
number_less n = grind (arith, nat_tests)

next_behind : (p : Place) (n : ℕ) → by_place (numbered p n) (numbered p (n + 1)) ≡ Less
next_behind p n =
    let state : slice_cmp nat_cmp p.state p.state ≡ Equal = tied_itself nat_list_cmp_total p.state in
    let kind : nat_cmp (kind_rank p.kind) (kind_rank p.kind) ≡ Equal = tied_itself nat_cmp_total (kind_rank p.kind) in
    rw (state, kind) (number_less n)

-- a run goes on behind zones that rose: what is left makes the whole
pub record Rises (start : List Place) (p : Place) (end n : ℕ) (zones : List Place) : Type 0 where
  pub whole : add_run zones (numbered p n) (end - n) ≡ add_run start p (end - p.number)
  pub sorted : IsStrictlySortedBy by_place zones
  pub behind : IsBehind zones (numbered p n)

pub rises_first : (start : List Place) (p : Place) (end : ℕ) → IsStrictlySortedBy by_place start → comes_after_all start p ≡ true → Rises start p end p.number start
rises_first start p end s h = record { whole = refl; sorted = s; behind = behind_all start p s h }

pub rises_next : (start : List Place) (p : Place) (end n : ℕ) (zones more : List Place) → n < end → Rises start p end n zones → more ≡ zones ++ numbered p n ∷ [] → Rises start p end (n + 1) more
rises_next start p end n zones more lt r e =
    let z = numbered p n in
    let added : add zones z ≡ zones ++ z ∷ [] = add_behind zones z r.behind in
    rw e (record {
      whole = subst (λ (zs : List Place). add_run zs (numbered p (n + 1)) (end - (n + 1)) ≡ add_run start p (end - p.number)) added (sym (run_steps zones p n end lt) ∙ r.whole);
      sorted = sorted_behind zones z r.sorted r.behind;
      behind = all_more (λ (q : Place). by_place q (numbered p (n + 1)) ≡ Less) zones z (behind_further zones z (numbered p (n + 1)) r.behind (next_behind p n)) (next_behind p n);
    })

-- zones in order, one after another

taken_behind : (zones : List Place) (i : ℕ) (d : Place) → IsStrictlySortedBy by_place zones → i < length zones → IsBehind (take i zones) (get_or zones i d)
unfolding IsStrictlySortedBy
taken_behind [] i d s lt = absurd (omega arith)
taken_behind (x ∷ xs) zero d s lt = tt
taken_behind (x ∷ xs) (suc i) d s lt = (all_at (λ (q : Place). by_place x q ≡ Less) xs i d s.0 (omega arith), taken_behind xs i d s.1 (omega arith))

pub taken_more : (zones : List Place) (i : ℕ) (d : Place) → IsStrictlySortedBy by_place zones → i < length zones → add (take i zones) (get_or zones i d) ≡ take (i + 1) zones
taken_more zones i d s lt = add_behind (take i zones) (get_or zones i d) (taken_behind zones i d s lt) ∙ sym (take_more zones i d lt)
