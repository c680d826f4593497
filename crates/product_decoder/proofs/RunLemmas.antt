-- Breaches among the lines of runs.
use Rattle.std.proofs.Common.{Bool, ◌≡◌, ◌∙◌, ◌&&◌, ◌||◌, ◌++◌, ℕ, List, [], ◌∷◌, true, false, Option, Some, None, append-nil, refl, ap, sym}
use Rattle.std.proofs.lemmas.List.Folds.{list_any-append}
use Rattle.std.specs.List.{flat_map, list_any}
use Rattle.std.specs.Option.{is_some}
use Rattle.std.specs.Prelude.{slice_get}
use Rattle.hazard_types.specs.Places.{Place}
use Rattle.hazard_types.specs.declared.line.Line.{Line}
use Rattle.event_life.specs.declared.life.Breach.{Breach}
use Rattle.row_index.specs.declared.verdicts.Run.{Run}
use Rattle.row_index.specs.declared.verdicts.Verdict.{Verdict}
use Rattle.row_index.specs.Verdicts.{has_breach, is_breach, expand, expand_at, expand_run}
use Rattle.product_decoder.specs.declared.types.Found.{Found}
use Rattle.product_decoder.specs.ReaderModel.{found_at, found_in}
use Rattle.product_decoder.specs.Runs.{Judged, in_breach}

-- a run is in breach where one of its lines is

any_at : (z : Place) (vs : List Verdict) → list_any in_breach (expand_at vs z) ≡ list_any is_breach vs
any_at z [] = refl
any_at z (v ∷ vs) = ap (λ (b : Bool). is_breach v || b) (any_at z vs)

once : (a b : Bool) → (a || (b && a)) ≡ a
once true b = refl
once false true = refl
once false false = refl

any_along : (zones : List Place) (vs : List Verdict) → list_any in_breach (flat_map (expand_at vs) zones) ≡ (is_some (slice_get zones 0) && list_any is_breach vs)
any_along [] vs = refl
any_along (z ∷ zones) vs =
    list_any-append in_breach (expand_at vs z) (flat_map (expand_at vs) zones)
    ∙ (λ i. any_at z vs i || any_along zones vs i)
    ∙ once (list_any is_breach vs) (is_some (slice_get zones 0))

pub any_spelled : (runs : List Run) → list_any has_breach runs ≡ list_any in_breach (expand runs)
any_spelled [] = refl
any_spelled (r ∷ runs) = (λ i. sym (any_along r.zones r.verdicts) i || any_spelled runs i) ∙ sym (list_any-append in_breach (expand_run r) (expand runs))

none_by : (count : ℕ) (line : Line) (o : Option Breach) (b : Bool) (rest : List Found) → (is_some o || b) ≡ false → (b ≡ false → rest ≡ []) → found_at count line o ++ rest ≡ []
none_by count line None b rest h later = later h
none_by count line (Some x) b rest h later = cc

no_found : (count : ℕ) (judged : List Judged) → list_any in_breach judged ≡ false → found_in count judged ≡ []
no_found count [] h = refl
no_found count (l ∷ judged) h = none_by count l.0 l.1 (list_any in_breach judged) (found_in count judged) h (no_found count judged)

-- a product without any adds none
pub none_found : (out : List Found) (count : ℕ) (judged : List Judged) → list_any in_breach judged ≡ false → out ≡ out ++ found_in count judged
none_found out count judged h = sym (ap (λ (found : List Found). out ++ found) (no_found count judged h) ∙ append-nil out)
