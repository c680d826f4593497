-- The lines of a frame are those of the plan's segments.
use Rattle.std.proofs.Common.{◌≡◌, ℕ, List, [], ◌∷◌, ◌++◌, map, refl, ap, sym, ◌∙◌}
use Rattle.std.specs.List.{flat_map}
use Rattle.hazard_types.specs.Places.{Place}
use Rattle.hazard_types.specs.ZoneLines.{ZoneLine}
use Rattle.hazard_types.specs.declared.codes.Class.{Class}
use Rattle.hazard_types.specs.declared.line.Line.{Line}
use Rattle.hazard_types.specs.declared.line.SegLine.{SegLine}
use Rattle.hazard_types.specs.declared.line.Segment.{Segment}
use Rattle.office_types.specs.declared.request.Plan.{Plan}
use Rattle.desk_settings.specs.declared.settings.Settings.{Settings}
use Rattle.event_life.specs.Printed.{zone_line_of}
use Rattle.product_frame.specs.ZoneLinesOf.{lines_of_zone, lines_of_zones, lines_of_segments, zone_lines_of}
use Rattle.segmenter.specs.Said.{line_in, lines_in_zone, lines_in_segment, lines_in_text}
use Rattle.product_template.specs.Text.{pair_of, segment_of, frame_of}

map_both : {X Y : Type 0} (f : X → Y) (xs ys : List X) → map f (xs ++ ys) ≡ map f xs ++ map f ys
map_both f [] ys = refl
map_both f (x ∷ xs) ys = ap (λ (zs : List _). f x ∷ zs) (map_both f xs ys)

module _ (class : Class) (office : List ℕ) where
  abbrev said : Line → ZoneLine
  said = zone_line_of class office

  zone_said : (z : Place) (lines : List SegLine) → lines_of_zone z (map (pair_of class office) lines) ≡ map said (lines_in_zone lines z)
  zone_said z [] = refl
  zone_said z (l ∷ lines) = ap (λ (xs : List ZoneLine). said (line_in z l) ∷ xs) (zone_said z lines)

  zones_said : (zones : List Place) (lines : List SegLine) → lines_of_zones zones (map (pair_of class office) lines) ≡ map said (flat_map (lines_in_zone lines) zones)
  zones_said [] lines = refl
  zones_said (z ∷ zones) lines =
      ap (λ (xs : List ZoneLine). xs ++ lines_of_zones zones (map (pair_of class office) lines)) (zone_said z lines)
      ∙ ap (λ (xs : List ZoneLine). map said (lines_in_zone lines z) ++ xs) (zones_said zones lines)
      ∙ sym (map_both said (lines_in_zone lines z) (flat_map (lines_in_zone lines) zones))

  segments_said : (t : ℕ) (segments : List Segment) → lines_of_segments (map (segment_of class office t) segments) ≡ map said (lines_in_text segments)
  segments_said t [] = refl
  segments_said t (s ∷ segments) =
      ap (λ (xs : List ZoneLine). xs ++ lines_of_segments (map (segment_of class office t) segments)) (zones_said s.zones s.lines)
      ∙ ap (λ (xs : List ZoneLine). map said (lines_in_segment s) ++ xs) (segments_said t segments)
      ∙ sym (map_both said (lines_in_segment s) (lines_in_text segments))

pub lines_said : (settings : Settings) (class : Class) (plan : Plan) (t : ℕ) → zone_lines_of (frame_of settings class plan t) ≡ map (zone_line_of class settings.office) (lines_in_text plan.segments)
unfolding zone_lines_of
lines_said settings class plan t = segments_said class settings.office t plan.segments
