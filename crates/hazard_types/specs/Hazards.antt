-- The hazards that the desk issues, with their names and facts.
use Rattle.std.specs.Prelude.{ℕ, true, false, List, [], ◌∷◌, ◌++◌, Option, Some, None, map, codes, if◌then◌else◌}
use Rattle.hazard_types.specs.Orders.{sig_letter}
use Rattle.hazard_types.specs.Same.{same_hazard}
use Rattle.hazard_types.specs.Tables.{row}
use Rattle.hazard_types.specs.declared.codes.Coded.{Coded}
use Rattle.hazard_types.specs.declared.codes.Category.{Category}
use Rattle.hazard_types.specs.declared.codes.Category.TheVariants as category
use Rattle.hazard_types.specs.declared.codes.Family.{Family}
use Rattle.hazard_types.specs.declared.codes.Family.TheVariants as family
use Rattle.hazard_types.specs.declared.facts.Facts.{Facts}
use Rattle.hazard_types.specs.declared.hazard.Hazard.{Hazard}
use Rattle.hazard_types.specs.declared.hazard.Sig.{Sig}
use Rattle.hazard_types.specs.declared.hazard.Sig.TheVariants as sig
use Rattle.hazard_types.specs.declared.zone.Kind.TheVariants as kind

pub record DeskHazard : Type 0 where
  pub hazard : Hazard
  pub name : List ℕ
  pub facts : Facts

-- a hazard of forecast zones, with an end and without H-VTEC: one category opens and follows it,
-- and it has a rank in its family
abbrev pub zonal : List ℕ → Sig → List ℕ → Category → Family → ℕ → DeskHazard
zonal phen sig name category family rank = record {
  hazard = record { phen = phen; sig = sig };
  name = name;
  facts = record { opens = category; follows = category; kind = kind.Z; family = Some (family, rank); ufn = false; flood = false };
}

-- a flood in forecast zones: the same, but with H-VTEC
abbrev pub areal : List ℕ → Sig → List ℕ → Category → Family → ℕ → DeskHazard
areal phen sig name category family rank = record {
  hazard = record { phen = phen; sig = sig };
  name = name;
  facts = record { opens = category; follows = category; kind = kind.Z; family = Some (family, rank); ufn = false; flood = true };
}

-- a river flood in counties, with H-VTEC: it may last until further notice, and has no family
abbrev pub river : List ℕ → Sig → List ℕ → Category → Category → DeskHazard
river phen sig name opens follows = record {
  hazard = record { phen = phen; sig = sig };
  name = name;
  facts = record { opens = opens; follows = follows; kind = kind.C; family = None; ufn = true; flood = true };
}

unfoldable pub desk_hazards : List DeskHazard
desk_hazards =
    zonal (codes "WS") sig.W (codes "Winter Storm Warning") category.Wsw family.Winter 3 ∷
    zonal (codes "BZ") sig.W (codes "Blizzard Warning") category.Wsw family.Winter 3 ∷
    zonal (codes "IS") sig.W (codes "Ice Storm Warning") category.Wsw family.Winter 3 ∷
    zonal (codes "LE") sig.W (codes "Lake Effect Snow Warning") category.Wsw family.Winter 3 ∷
    zonal (codes "WW") sig.Y (codes "Winter Weather Advisory") category.Wsw family.Winter 2 ∷
    zonal (codes "WS") sig.A (codes "Winter Storm Watch") category.Wsw family.Winter 1 ∷
    zonal (codes "HW") sig.W (codes "High Wind Warning") category.Npw family.Wind 3 ∷
    zonal (codes "WI") sig.Y (codes "Wind Advisory") category.Npw family.Wind 2 ∷
    zonal (codes "HW") sig.A (codes "High Wind Watch") category.Npw family.Wind 1 ∷
    zonal (codes "FZ") sig.W (codes "Freeze Warning") category.Npw family.Frost 3 ∷
    zonal (codes "FR") sig.Y (codes "Frost Advisory") category.Npw family.Frost 2 ∷
    zonal (codes "FZ") sig.A (codes "Freeze Watch") category.Npw family.Frost 1 ∷
    zonal (codes "FG") sig.Y (codes "Dense Fog Advisory") category.Npw family.Fog 1 ∷
    zonal (codes "FW") sig.W (codes "Red Flag Warning") category.Rfw family.Fire 3 ∷
    zonal (codes "FW") sig.A (codes "Fire Weather Watch") category.Rfw family.Fire 1 ∷
    zonal (codes "CF") sig.W (codes "Coastal Flood Warning") category.Cfw family.Coast 3 ∷
    zonal (codes "CF") sig.Y (codes "Coastal Flood Advisory") category.Cfw family.Coast 2 ∷
    zonal (codes "CF") sig.A (codes "Coastal Flood Watch") category.Cfw family.Coast 1 ∷
    zonal (codes "SU") sig.W (codes "High Surf Warning") category.Cfw family.Surf 3 ∷
    zonal (codes "SU") sig.Y (codes "High Surf Advisory") category.Cfw family.Surf 2 ∷
    zonal (codes "SR") sig.W (codes "Storm Warning") category.Mww family.Marine 4 ∷
    zonal (codes "GL") sig.W (codes "Gale Warning") category.Mww family.Marine 3 ∷
    zonal (codes "SC") sig.Y (codes "Small Craft Advisory") category.Mww family.Marine 2 ∷
    zonal (codes "SR") sig.A (codes "Storm Watch") category.Mww family.Marine 1 ∷
    zonal (codes "GL") sig.A (codes "Gale Watch") category.Mww family.Marine 1 ∷
    areal (codes "FA") sig.A (codes "Flood Watch") category.Ffa family.Areal 1 ∷
    river (codes "FL") sig.W (codes "Flood Warning") category.Flw category.Fls ∷
    river (codes "FL") sig.Y (codes "Flood Advisory") category.Fls category.Fls ∷
    []

-- the value of the first row with a hazard
abbrev pub value_of : {X : Type 0} → List (Hazard × X) → Hazard → Option X
value_of [] h = None
value_of (r ∷ rows) h = if same_hazard r.0 h then Some r.1 else value_of rows h

unfoldable pub fact_rows : List (Hazard × Facts)
fact_rows = map (λ (d : DeskHazard). (d.hazard, d.facts)) desk_hazards

unfoldable pub name_rows : List (Hazard × List ℕ)
name_rows = map (λ (d : DeskHazard). (d.hazard, d.name)) desk_hazards

-- the facts of a hazard, if the desk issues it
unfoldable pub facts_of : Hazard → Option Facts
facts_of h = value_of fact_rows h

-- the name of a hazard, if the desk issues it
unfoldable pub name_of : Hazard → Option (List ℕ)
name_of h = value_of name_rows h

-- the code of a hazard: its phenomenon, a dot and the letter of its significance
abbrev pub hazard_code : Hazard → List ℕ
hazard_code h = h.phen ++ (46 ∷ sig_letter h.sig ∷ [])

unfoldable pub hazard_rows : List (Coded Hazard)
hazard_rows = map (λ (d : DeskHazard). row (hazard_code d.hazard) d.hazard) desk_hazards
