-- A pair is found by its lines.
use Rattle.std.proofs.Common.{◌≡◌, ℕ, true, List, [], ◌∷◌, ◌++◌, length, refl, ap, sym, ◌∙◌, arith, subst, append_assoc, Option, Some, None}
use Rattle.std.specs.Prelude.{option_map, slice_index}
use Rattle.std.proofs.lemmas.Bool.{le-leb, eq-eqb}
use Rattle.hazard_types.specs.declared.line.Vtec.{Vtec}
use Rattle.hazard_types.specs.declared.line.Flood.{Flood}
use Rattle.vtec_string.specs.Columns.{IsVtec, vtec_of}
use Rattle.vtec_string.proofs.Laying.{vtec_back, vtec_hit}
use Rattle.hvtec_string.specs.Columns.{IsHvtec, hvtec_of}
use Rattle.hvtec_string.proofs.Laying.{hvtec_back}
use Rattle.product_frame.specs.Parts.{has_slash}
use Rattle.product_frame.specs.Events.{with_flood, parse_pair}
use Rattle.product_frame.specs.Frames.{line_at}
use Rattle.product_frame.specs.Grammar.{HasFlood, AreEvents, HasNoSlash}
use Rattle.product_frame.specs.Walking.{next_at, ahead}
use Rattle.product_frame.specs.declared.frame.Pair.{Pair}

-- ---- single lines

slashed : (line : List ℕ) → slice_index line 0 ≡ 47 → has_slash line ≡ true
slashed [] h = let none : 0 ≡ 47 = h in absurd (omega (arith, none))
slashed (c ∷ line) h = let same : c ≡ 47 = h in rw (le-leb 1 (length (c ∷ line)) (omega arith), eq-eqb c 47 same) refl

pub vtec_has_slash : (line : List ℕ) (v : Vtec) → IsVtec line v → has_slash line ≡ true
vtec_has_slash line v is = slashed line (ap (λ (t : List ℕ). slice_index t 0) is.separated)

hvtec_has_slash : (line : List ℕ) (h : Flood) → IsHvtec line h → has_slash line ≡ true
hvtec_has_slash line h is = slashed line (ap (λ (t : List ℕ). slice_index t 0) is.separated)

pub no_hvtec : (line : List ℕ) → ((h : Flood) → IsHvtec line h → ⊥) → hvtec_of line ≡ None
no_hvtec line none = by (hvtec_of line) refl
  where
    by : (r : Option Flood) → hvtec_of line ≡ r → hvtec_of line ≡ None
    by None e = e
    by (Some h) e = absurd (none h (hvtec_back line h e))

-- a P-VTEC line is shorter than an H-VTEC line
pub not_both : (line : List ℕ) (v : Vtec) → IsVtec line v → hvtec_of line ≡ None
not_both line v is = no_hvtec line (λ h other. let a : length line ≡ 48 = is.size in let b : length line ≡ 54 = other.size in absurd (omega arith))

pub no_slash_no_hvtec : (bytes lines : List ℕ) → HasNoSlash bytes lines → hvtec_of (next_at bytes lines) ≡ None
no_slash_no_hvtec bytes [] h = no_hvtec [] (λ f is. let size : length {A = ℕ} [] ≡ 54 = is.size in absurd (omega arith))
no_slash_no_hvtec bytes (s ∷ lines) h = no_hvtec (line_at bytes s) (λ f is. let slash : has_slash (line_at bytes s) ≡ true = hvtec_has_slash (line_at bytes s) f is in absurd (cc))

-- ---- the pair of a line and the one behind it

pub pair_hit : (line next : List ℕ) (p : Pair) → IsVtec line p.vtec → hvtec_of next ≡ p.flood → parse_pair line next ≡ Some p
unfolding parse_pair
pair_hit line next p is flood = rw (vtec_hit line p.vtec is, flood) refl

pub pair_none : (line next : List ℕ) → ((v : Vtec) → IsVtec line v → ⊥) → parse_pair line next ≡ None
unfolding parse_pair
pair_none line next none = by (vtec_of line) refl
  where
    by : (r : Option Vtec) → vtec_of line ≡ r → option_map (with_flood (hvtec_of next)) r ≡ None
    by None e = refl
    by (Some v) e = absurd (none v (vtec_back line v e))

pub none_paired : (line next : List ℕ) → parse_pair line next ≡ None → (v : Vtec) → IsVtec line v → ⊥
none_paired line next none v is = clash (with_flood (hvtec_of next) v) (sym none ∙ pair_hit line next (with_flood (hvtec_of next) v) is refl)
  where
    clash : (p : Pair) → ◌≡◌ {A = Option Pair} None (Some p) → ⊥
    clash p e = cc e

pub pair_back : (line next : List ℕ) (p : Pair) → parse_pair line next ≡ Some p → IsVtec line p.vtec × (hvtec_of next ≡ p.flood)
unfolding parse_pair
pair_back line next p h = by (vtec_of line) refl h
  where
    one : (a b : Pair) → ◌≡◌ {A = Option Pair} (Some a) (Some b) → a ≡ b
    one a b e = cc e

    by : (r : Option Vtec) → vtec_of line ≡ r → option_map (with_flood (hvtec_of next)) r ≡ Some p → IsVtec line p.vtec × (hvtec_of next ≡ p.flood)
    by None is e = absurd (cc)
    by (Some v) is e = let same = one (with_flood (hvtec_of next) v) p e in (subst (IsVtec line) (ap (λ (q : Pair). q.vtec) same) (vtec_back line v is), ap (λ (q : Pair). q.flood) same)

-- ---- one pair before others

-- the H-VTEC line that was read ahead stands first
flood_ahead : (bytes lines next later : List ℕ) (f : Option Flood) → hvtec_of (next_at bytes lines) ≡ f → length next ≡ ahead f → lines ≡ next ++ later → HasFlood bytes next f
flood_ahead bytes lines [] later None is size whole = tt
flood_ahead bytes lines [] later (Some h) is size whole = absurd (omega (arith, size))
flood_ahead bytes lines (t ∷ next) later None is size whole = absurd (omega (arith, size))
flood_ahead bytes lines (t ∷ []) later (Some h) is size whole = hvtec_back (line_at bytes t) h (sym (ap (λ (l : List ℕ). hvtec_of (next_at bytes l)) whole) ∙ is)
flood_ahead bytes lines (t ∷ u ∷ next) later (Some h) is size whole = absurd (omega (arith, size))

-- the lines of these pairs, and then others
pub record Begins (bytes lines : List ℕ) (pairs : List Pair) (others : List ℕ) : Type 0 where
  pub events : List ℕ
  pub whole : lines ≡ events ++ others
  pub spelled : AreEvents bytes events pairs

pub one_pair : (bytes lines next events others : List ℕ) (s : ℕ) (p : Pair) (pairs : List Pair) → parse_pair (line_at bytes s) (next_at bytes lines) ≡ Some p → length next ≡ ahead p.flood → lines ≡ next ++ (events ++ others) → AreEvents bytes events pairs →
    Begins bytes (s ∷ lines) (p ∷ pairs) others
one_pair bytes lines next events others s p pairs is size whole spelled =
    let back = pair_back (line_at bytes s) (next_at bytes lines) p is in
    record {
      events = s ∷ (next ++ events);
      whole = ap (λ (l : List ℕ). s ∷ l) (whole ∙ sym (append_assoc next events others));
      spelled = (events, record { at = s; next = next; whole = refl; vtec = back.0; flood = flood_ahead bytes lines next (events ++ others) p.flood back.1 size whole }, spelled);
    }
