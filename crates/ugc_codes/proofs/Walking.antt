-- The bytes of a text, one after another.
use Rattle.std.proofs.Common.{subst, ◌≡◌, ◌≢◌, ℕ, ◌+◌, ◌-◌, ◌<◌, ◌≤◌, ◌==◌, ◌&&◌, true, false, List, [], ◌∷◌, ◌++◌, length, get_or, take, drop, refl, ap, sym, ◌∙◌, arith, Option, None, Some, Ok, Err, is_some, length-drop, inl, inr}
use Rattle.std.specs.List.{slice_range}
use Rattle.std.proofs.lemmas.Bool.Decides.{eqb_tells}
use Rattle.std.proofs.lemmas.Bool.{and_left, and_right}
use Rattle.std.proofs.lemmas.List.{drop_more, take_more, get_or-drop}
use Rattle.hazard_types.specs.Places.{Place}
use Rattle.hazard_types.specs.declared.calendar.DayStamp.{DayStamp}
use Rattle.ugc_codes.specs.declared.read.Group.TheVariants.{Zones, Expiry}
use Rattle.ugc_codes.specs.declared.read.Refused.{Refused}
use Rattle.ugc_codes.specs.declared.read.UgcFault.{UgcFault}
use Rattle.ugc_codes.specs.declared.read.UgcFault.TheVariants.{CutShort}
use Rattle.std.proofs.Math.ListN.{drop_of_length-le}
use Rattle.ugc_codes.specs.Codes.{parse_group}
use Rattle.ugc_codes.specs.Grammar.{add_run, is_gap}
use Rattle.ugc_codes.specs.Reading.{is_none_yet, Closes, fault_at, settle, read_from, ugc_of}

-- what is left decides as the whole does
pub record Walked (bytes : List ℕ) (before : Option Place) (zones : List Place) (start at : ℕ) : Type 0 where
  pub early : start ≤ at
  pub left : read_from before zones start (slice_range bytes start at) at (drop at bytes) ≡ ugc_of bytes

eqb_no : (a b : ℕ) → a ≢ b → (a == b) ≡ false
eqb_no a b ne = elim (eqb_tells a b) [ inl h ↦ absurd (ne h.1) | inr h ↦ h.0 ]

-- one byte more of a range
pub group_more : (s : List ℕ) (start at : ℕ) → start ≤ at → at < length s → slice_range s start (at + 1) ≡ slice_range s start at ++ get_or s at 0 ∷ []
group_more s start at le lt =
    let e : at + 1 - start ≡ (at - start) + 1 = omega arith in
    let inside : at - start < length (drop start s) = omega (arith, length-drop start s) in
    let place : start + (at - start) ≡ at = omega arith in
    let item : get_or (drop start s) (at - start) 0 ≡ get_or s at 0 = get_or-drop start s (at - start) 0 ∙ ap (λ (k : ℕ). get_or s k 0) place in
    rw e (take_more (drop start s) (at - start) 0 inside ∙ ap (λ (c : ℕ). take (at - start) (drop start s) ++ c ∷ []) item)

no_group : (s : List ℕ) (at : ℕ) → slice_range s at at ≡ []
no_group s at = let e : at - at ≡ 0 = omega arith in rw e refl

some_yet : (xs : List ℕ) → 0 < length xs → is_none_yet xs ≡ false
some_yet [] h = absurd (omega arith)
some_yet (x ∷ xs) h = refl

begun : (s : List ℕ) (start at : ℕ) → start < at → at < length s → is_none_yet (slice_range s start at) ≡ false
begun s start at lt in_s = some_yet _ (grind (arith, length-drop))

pub walked_end : {bytes : List ℕ} {before : Option Place} {zones : List Place} {start at : ℕ} → Walked bytes before zones start at → at < length bytes → get_or bytes at 0 ≡ 45 →
    settle (parse_group before (slice_range bytes start at))
    (λ p n. read_from (Some p) (add_run zones p (n + 1 - p.number)) (at + 1) [] (at + 1) (drop (at + 1) bytes))
    (λ d. Ok (record { zones = zones; expiry = d; used = at + 1 }))
    (λ e. Err (fault_at start e)) ≡ ugc_of bytes
walked_end {bytes} {at = at} w lt byte =
    let left : drop at bytes ≡ 45 ∷ drop (at + 1) bytes = drop_more bytes at 0 lt ∙ ap (λ (c : ℕ). c ∷ drop (at + 1) bytes) byte in
    rw left at w.left

pub walked_zones : {bytes : List ℕ} {before : Option Place} {zones : List Place} {start at : ℕ} → Walked bytes before zones start at → at < length bytes → get_or bytes at 0 ≡ 45 →
    (p : Place) (n : ℕ) → parse_group before (slice_range bytes start at) ≡ Ok (Zones p n) → (before' : Option Place) → before' ≡ Some p → (zones' : List Place) → zones' ≡ add_run zones p (n + 1 - p.number) →
    Walked bytes before' zones' (at + 1) (at + 1)
walked_zones {bytes} {at = at} w lt byte p n is before' b zones' z = record { early = omega arith; left = rw (no_group bytes (at + 1), b, z) (rw is at (walked_end w lt byte)) }

pub walked_expiry : {bytes : List ℕ} {before : Option Place} {zones : List Place} {start at : ℕ} → Walked bytes before zones start at → at < length bytes → get_or bytes at 0 ≡ 45 →
    (d : DayStamp) → parse_group before (slice_range bytes start at) ≡ Ok (Expiry d) → ugc_of bytes ≡ Ok (record { zones = zones; expiry = d; used = at + 1 })
walked_expiry w lt byte d is = sym (rw is at (walked_end w lt byte))

pub walked_refused : {bytes : List ℕ} {before : Option Place} {zones : List Place} {start at : ℕ} → Walked bytes before zones start at → at < length bytes → get_or bytes at 0 ≡ 45 →
    (e : Refused) → parse_group before (slice_range bytes start at) ≡ Err e → (f : UgcFault) → f ≡ fault_at start e → ugc_of bytes ≡ Err f
walked_refused w lt byte e is f same = sym (rw is at (walked_end w lt byte)) ∙ ap (λ (x : UgcFault). Err x) (sym same)

pub walked_gap : {bytes : List ℕ} {before : Option Place} {zones : List Place} {at : ℕ} → Walked bytes before zones at at → at < length bytes → get_or bytes at 0 ≢ 45 → is_gap (get_or bytes at 0) ≡ true → is_some before ≡ true →
    Walked bytes before zones (at + 1) (at + 1)
walked_gap {bytes} {at = at} w lt byte gap some =
    let left : drop at bytes ≡ get_or bytes at 0 ∷ drop (at + 1) bytes = drop_more bytes at 0 lt in
    let no_end : (get_or bytes at 0 == 45) ≡ false = eqb_no _ _ byte in
    record { early = omega arith; left = rw (no_group bytes (at + 1)) (rw (no_group bytes at, left, no_end, gap, some) at w.left) }

pub walked_byte : {bytes : List ℕ} {before : Option Place} {zones : List Place} {start at : ℕ} → Walked bytes before zones start at → at < length bytes → get_or bytes at 0 ≢ 45 →
    (is_gap (get_or bytes at 0) && is_none_yet (slice_range bytes start at) && is_some before) ≡ false → Walked bytes before zones start (at + 1)
walked_byte {bytes} {start = start} {at = at} w lt byte stays =
    let early : start ≤ at = w.early in
    let left : drop at bytes ≡ get_or bytes at 0 ∷ drop (at + 1) bytes = drop_more bytes at 0 lt in
    let no_end : (get_or bytes at 0 == 45) ≡ false = eqb_no _ _ byte in
    record { early = omega arith; left = rw (group_more bytes start at early lt) (rw (left, no_end, stays) at w.left) }

pub walked_begun : {bytes : List ℕ} {before : Option Place} {zones : List Place} {start at : ℕ} → Walked bytes before zones start at → at < length bytes → get_or bytes at 0 ≢ 45 → start ≢ at → Walked bytes before zones start (at + 1)
walked_begun {bytes} {before} {start = start} {at = at} w lt byte ne =
    let early : start ≤ at = w.early in
    let later : start < at = omega arith in
    walked_byte w lt byte (and_left _ _ (and_right _ _ (begun bytes start at later lt)))

pub walked_start : (bytes : List ℕ) → Walked bytes None [] 0 0
walked_start bytes = record { early = omega arith; left = refl }

pub walked_out : {bytes : List ℕ} {before : Option Place} {zones : List Place} {start at : ℕ} → Walked bytes before zones start at → at ≡ length bytes → ugc_of bytes ≡ Err CutShort
walked_out {bytes} {at = at} w e =
    let none : drop at bytes ≡ [] = drop_of_length-le bytes (omega arith) in
    sym (rw none at w.left)

pub walked_closed : {bytes : List ℕ} {before : Option Place} {zones : List Place} {start at : ℕ} → Walked bytes before zones start at → at < length bytes → get_or bytes at 0 ≡ 45 →
    (o : Option DayStamp) (before' : Option Place) (zones' : List Place) → Closes (Ok o) start before zones before' zones' (parse_group before (slice_range bytes start at)) → o ≡ None → Walked bytes before' zones' (at + 1) (at + 1)
walked_closed w lt byte None before' zones' h e = walked_zones w lt byte h.0 h.1 h.2 before' h.3 zones' h.4
walked_closed w lt byte (Some d) before' zones' h e = cc

pub walked_inside : {bytes : List ℕ} {before : Option Place} {zones : List Place} {start at : ℕ} → Walked bytes before zones start at → at < length bytes → get_or bytes at 0 ≢ 45 → is_gap (get_or bytes at 0) ≡ false → Walked bytes before zones start (at + 1)
walked_inside w lt byte gap = walked_byte w lt byte (and_left _ _ (and_left _ _ gap))

pub walked_first : {bytes : List ℕ} {before : Option Place} {zones : List Place} {start at : ℕ} → Walked bytes before zones start at → at < length bytes → get_or bytes at 0 ≢ 45 → is_some before ≡ false → Walked bytes before zones start (at + 1)
walked_first w lt byte first = walked_byte w lt byte (and_right _ _ first)

pub walked_gap_at : {bytes : List ℕ} {before : Option Place} {zones : List Place} {start at : ℕ} → Walked bytes before zones start at → at < length bytes → get_or bytes at 0 ≢ 45 → start ≡ at → is_gap (get_or bytes at 0) ≡ true → is_some before ≡ true →
    Walked bytes before zones (at + 1) (at + 1)
walked_gap_at {bytes} {before} {zones} {at = at} w lt byte e gap some = walked_gap (subst (λ (s : ℕ). Walked bytes before zones s at) e w) lt byte gap some
