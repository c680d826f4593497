-- UGC texts as C sees them.
use Rattle.std.specs.Prelude.{◌≡◌, ◌⊎◌, ℕ, List, length, map, Result, Ok, Err, if◌then◌else◌}
use Rattle.hazard_types.specs.declared.or.Or.{Or}
use Rattle.hazard_types.specs.declared.or.Or.TheVariants.{No, OutOfMemory}
use Rattle.ugc_codes.specs.declared.read.UgcRead.{UgcRead}
use Rattle.ugc_codes.specs.declared.read.UgcFault.{UgcFault}
use Rattle.ugc_codes.specs.declared.read.UgcFault.TheVariants.{NotACode, BadRange, CutShort}
use Rattle.warn_codes_c.specs.declared.fields.ZoneFields.{ZoneFields}
use Rattle.warn_codes_c.specs.declared.ugc.UgcFields.{UgcFields}
use Rattle.warn_codes_c.specs.Fields.{zone_fields}
use Rattle.warn_codes_c.specs.Handing.{fits, handed}

abbrev pub ugc_fields : UgcRead → UgcFields
ugc_fields u = record { zones = length u.zones; used = u.used; fault_at = 0; day = u.expiry.day; hour = u.expiry.hour; minute = u.expiry.minute }

abbrev pub fault_fields : ℕ → UgcFields
fault_fields at = record { zones = 0; used = 0; fault_at = at; day = 0; hour = 0; minute = 0 }

-- the status of a fault, and its byte
abbrev pub ugc_fault : UgcFault → ℕ × ℕ
ugc_fault (NotACode at) = (10, at)
ugc_fault (BadRange at) = (11, at)
ugc_fault CutShort = (12, 0)

-- what becomes of the buffer and the fields where an answer was read
abbrev pub FillsUgc : Result UgcRead UgcFault → ℕ → List ZoneFields → List ZoneFields → UgcFields → Type 0
FillsUgc (Ok u) status old new out = (status ≡ (if fits (map zone_fields u.zones) old then 0 else 2)) × (new ≡ handed (map zone_fields u.zones) old) × (out ≡ ugc_fields u)
FillsUgc (Err f) status old new out = (status ≡ (ugc_fault f).0) × (new ≡ old) × (out ≡ fault_fields (ugc_fault f).1)

-- it was read, unless memory ran out, which changes nothing
abbrev pub ReadsUgc : Result UgcRead UgcFault → ℕ → List ZoneFields → List ZoneFields → UgcFields → UgcFields → Type 0
ReadsUgc answer status old new out out' = FillsUgc answer status old new out' ⊎ ((status ≡ 1) × (new ≡ old) × (out' ≡ out))

-- what was read is told, or the want of memory
abbrev pub IsToldUgc : Result UgcRead (Or UgcFault) → ℕ → List ZoneFields → List ZoneFields → UgcFields → UgcFields → Type 0
IsToldUgc (Ok u) status old new out out' = ReadsUgc (Ok u) status old new out out'
IsToldUgc (Err (No f)) status old new out out' = ReadsUgc (Err f) status old new out out'
IsToldUgc (Err OutOfMemory) status old new out out' = (status ≡ 1) × (new ≡ old) × (out' ≡ out)
