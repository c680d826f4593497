-- What a forecaster's texts may hold.
use Rattle.std.specs.Prelude.{◌==◌, ◌||◌, ◌&&◌, not, ℕ, suc, Bool, false, List, [], ◌∷◌, length, nat_lt, Option, None, Some, option_map, codes, if◌then◌else◌}
use Rattle.std.specs.Option.{option_or}
use Rattle.hazard_types.specs.Characters.{is_printable}
use Rattle.office_types.specs.declared.refusal.Refusal.{Refusal}
use Rattle.office_types.specs.declared.refusal.Refusal.TheVariants.{BadText, TextTooLong}
use Rattle.office_types.specs.declared.request.Texts.{Texts}

-- the byte is $ or &, and the next one is the same
abbrev pub is_doubled : ℕ → List ℕ → Bool
is_doubled c [] = false
is_doubled c (d ∷ rest) = (c == 36 || c == 38) && (d == c)

-- where the first byte stands that is not printable, or from which $$ or && stands
abbrev pub bad_at : List ℕ → Option ℕ
bad_at [] = None
bad_at (c ∷ rest) = if not (is_printable c) || is_doubled c rest then Some 0 else option_map suc (bad_at rest)

abbrev pub bad_text : List ℕ → List ℕ → Option Refusal
bad_text field text = option_map (λ at. BadText field at) (bad_at text)

abbrev pub long_text : List ℕ → List ℕ → Option Refusal
long_text field text = if nat_lt 4096 (length text) then Some (TextTooLong field) else None

-- the first field that offends, in their order
abbrev pub first_field : (List ℕ → List ℕ → Option Refusal) → Texts → Option Refusal
first_field rule t =
    option_or (rule (codes "what") t.what)
    (option_or (rule (codes "area") t.area)
    (option_or (rule (codes "impacts") t.impacts)
    (rule (codes "details") t.details)))

-- the first set of texts that offends
abbrev pub first_texts : (List ℕ → List ℕ → Option Refusal) → List Texts → Option Refusal
first_texts rule [] = None
first_texts rule (t ∷ texts) = option_or (first_field rule t) (first_texts rule texts)
