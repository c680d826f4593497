-- The products of a text, by their places, as C sees them.
use Rattle.std.specs.Prelude.{◌≡◌, ◌⊎◌, ℕ, List, length, if◌then◌else◌}
use Rattle.hazard_types.specs.declared.line.Span.{Span}
use Rattle.warn_codes_c.specs.declared.splitting.SpanFields.{SpanFields}
use Rattle.warn_codes_c.specs.Handing.{fits, handed}

abbrev pub span_fields : Span → SpanFields
span_fields s = record { from = s.from; to = s.to }

-- these are told, unless memory ran out, which changes nothing
abbrev pub Splits : List SpanFields → ℕ → List SpanFields → List SpanFields → ℕ → ℕ → Type 0
Splits spans status old new needed needed' =
    ((status ≡ (if fits spans old then 0 else 2)) × (new ≡ handed spans old) × (needed' ≡ length spans)) ⊎ ((status ≡ 1) × (new ≡ old) × (needed' ≡ needed))
