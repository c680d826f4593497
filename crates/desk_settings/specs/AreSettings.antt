-- The forms of settings.
use Rattle.std.specs.Prelude.{ℕ, ◌≡◌, ◌≤◌, true, false, IsTrue, List, [], ◌∷◌, length, drop, codes}
use Rattle.std.specs.List.{All, IsDistinct}
use Rattle.std.specs.List.Sorted.{IsStrictlySortedBy}
use Rattle.std.specs.Map.{keys_of, values_of}
use Rattle.std.specs.Str.{bytes_eq}
use Rattle.office_types.specs.Desks.{is_desk_name}
use Rattle.hazard_types.specs.Places.{IsPlace, by_place}
use Rattle.hazard_types.specs.declared.codes.LocalZone.TheVariants as zone
use Rattle.desk_settings.specs.declared.settings.Settings.{Settings}
use Rattle.hazard_types.specs.Characters.{is_office}
use Rattle.desk_settings.specs.Forms.{is_site, is_office_line, is_heading, is_zone_name}

-- office, site, office line, desks, headings and zone names have their forms, each desk stands once, and the zones are in order, each once
pub record HasForms (s : Settings) : Type 0 where
  pub office_form : IsTrue (is_office s.office)
  pub site_form : IsTrue (is_site s.site)
  pub line_form : IsTrue (is_office_line s.office_line)
  pub some_desk : 1 ≤ length s.desks
  pub few_desks : length s.desks ≤ 64
  pub desk_forms : All (λ d. IsTrue (is_desk_name d)) s.desks
  pub desks_once : IsDistinct bytes_eq s.desks
  pub eight : length s.headings ≡ 8
  pub heading_forms : All (λ h. IsTrue (is_heading h)) s.headings
  pub zone_order : IsStrictlySortedBy by_place (keys_of s.zones)
  pub zone_forms : All IsPlace (keys_of s.zones)
  pub name_forms : All (λ n. IsTrue (is_zone_name n)) (values_of s.zones)

-- the same with 1 to 2,000 zones, and no other zone is taken
pub record AreSettings (s : Settings) : Type 0 where
  pub forms : HasForms s
  pub some_zone : 1 ≤ length s.zones
  pub few_zones : length s.zones ≤ 2000
  pub named_alone : s.any_zone ≡ false

-- eight headings of training
unfoldable pub training_headings : List (List ℕ)
training_headings = codes "XXXX00" ∷ codes "XXXX00" ∷ codes "XXXX00" ∷ codes "XXXX00" ∷ codes "XXXX00" ∷ codes "XXXX00" ∷ codes "XXXX00" ∷ codes "XXXX00" ∷ []

-- the settings of training: the site is the last three characters of the office, one desk, no zone has a name and any is taken
abbrev pub training_of : List ℕ → Settings
training_of office = record { office = office; site = drop 1 office; office_line = codes "Training office"; zone = zone.Utc; desks = codes "DRY" ∷ []; headings = training_headings; zones = []; any_zone = true }
