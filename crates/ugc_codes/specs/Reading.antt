-- A UGC text, as it is read.
use Rattle.std.specs.Prelude.{ℕ, ◌+◌, ◌-◌, ◌==◌, ◌&&◌, Bool, true, false, List, [], ◌∷◌, ◌++◌, Option, Some, None, Result, Ok, Err, ◌≡◌, if◌then◌else◌, is_some}
use Rattle.hazard_types.specs.Places.{Place}
use Rattle.hazard_types.specs.declared.calendar.DayStamp.{DayStamp}
use Rattle.ugc_codes.specs.declared.read.Group.{Group}
use Rattle.ugc_codes.specs.declared.read.Group.TheVariants.{Zones, Expiry}
use Rattle.ugc_codes.specs.declared.read.Refused.{Refused}
use Rattle.ugc_codes.specs.declared.read.Refused.TheVariants.{NoCode, NoRange}
use Rattle.ugc_codes.specs.declared.read.UgcFault.{UgcFault}
use Rattle.ugc_codes.specs.declared.read.UgcFault.TheVariants.{NotACode, BadRange, CutShort}
use Rattle.ugc_codes.specs.declared.read.UgcRead.{UgcRead}
use Rattle.hazard_types.specs.declared.or.Or.{Or}
use Rattle.hazard_types.specs.declared.or.Or.TheVariants.{No, OutOfMemory}
use Rattle.ugc_codes.specs.Grammar.{add_run, is_gap}
use Rattle.ugc_codes.specs.Codes.{parse_group}

-- no byte of a group so far
abbrev pub is_none_yet : List ℕ → Bool
is_none_yet [] = true
is_none_yet (c ∷ cs) = false

-- the fault of a group that begins at a place
abbrev pub fault_at : ℕ → Refused → UgcFault
fault_at at NoCode = NotACode at
fault_at at NoRange = BadRange at

-- what follows a group, by what it is
abbrev pub settle : {X : Type 0} → Result Group Refused → (Place → ℕ → X) → (DayStamp → X) → (Refused → X) → X
settle (Ok (Zones p n)) zones expiry refused = zones p n
settle (Ok (Expiry d)) zones expiry refused = expiry d
settle (Err e) zones expiry refused = refused e

-- why a group is refused, unless memory ran out
abbrev pub Refuses : Or UgcFault → ℕ → Result Group Refused → Type 0
Refuses (No f) start group = (e : Refused) × (group ≡ Err e) × (f ≡ fault_at start e)
Refuses OutOfMemory start group = Unit {0}

-- what a group makes of the last code and the zones, or the expiry, or why it is refused
abbrev pub Closes : Result (Option DayStamp) (Or UgcFault) → ℕ → Option Place → List Place → Option Place → List Place → Result Group Refused → Type 0
Closes (Ok None) start before zones before' zones' group = (p : Place) × (n : ℕ) × (group ≡ Ok (Zones p n)) × (before' ≡ Some p) × (zones' ≡ add_run zones p (n + 1 - p.number))
Closes (Ok (Some d)) start before zones before' zones' group = (group ≡ Ok (Expiry d)) × (zones' ≡ zones)
Closes (Err e) start before zones before' zones' group = Refuses e start group

-- reading goes on: the code before, the zones so far, where the group at hand begins, its bytes so far, and the place
abbrev pub read_from : Option Place → List Place → ℕ → List ℕ → ℕ → List ℕ → Result UgcRead UgcFault
read_from before zones start group at [] = Err CutShort
read_from before zones start group at (c ∷ bytes) =
    if c == 45 then
    settle (parse_group before group)
    (λ p n. read_from (Some p) (add_run zones p (n + 1 - p.number)) (at + 1) [] (at + 1) bytes)
    (λ d. Ok (record { zones = zones; expiry = d; used = at + 1 }))
    (λ e. Err (fault_at start e))
    else (if is_gap c && is_none_yet group && is_some before then read_from before zones (at + 1) [] (at + 1) bytes
    else read_from before zones start (group ++ c ∷ []) (at + 1) bytes)

-- the UGC text that bytes begin with, or the first fault
abbrev pub ugc_of : List ℕ → Result UgcRead UgcFault
ugc_of bytes = read_from None [] 0 [] 0 bytes
