-- The times of P-VTEC and H-VTEC strings: the stamp of a minute, or zeros, which are no minute.
use Rattle.std.specs.Prelude.{◌≡◌, ℕ, List, Option, None, Some, option_map, codes, bytes_eq, if◌then◌else◌}
use Rattle.hazard_types.specs.Calendar.{stamp_of, stamp_at, IsStamp}
use Rattle.hazard_types.specs.declared.period.End.{End}
use Rattle.hazard_types.specs.declared.period.End.TheVariants.{At, Ufn}

abbrev pub IsTime : List ℕ → Option ℕ → Type 0
IsTime text None = text ≡ codes "000000T0000Z"
IsTime text (Some m) = IsStamp text m

abbrev pub time_text : Option ℕ → List ℕ
time_text None = codes "000000T0000Z"
time_text (Some m) = stamp_of m

-- the minute of a stamp, or no minute for zeros, if the text is either
unfoldable pub time_at : List ℕ → Option (Option ℕ)
time_at text =
    if bytes_eq text (codes "000000T0000Z") then Some None
    else option_map (λ m. Some m) (stamp_at text)

-- the stamp of an end, or zeros for until further notice
abbrev pub end_text : End → List ℕ
end_text (At m) = stamp_of m
end_text Ufn = codes "000000T0000Z"
