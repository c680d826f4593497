-- What a frame says of events is what its lines say, zone by zone.
use Rattle.std.proofs.Common.{◌≡◌, ◌∙◌, ℕ, List, [], ◌∷◌, ◌++◌, map, Bool, true, false, cond, append-nil, refl, ap, sym}
use Rattle.std.proofs.lemmas.Grind.{flat_map-append}
use Rattle.std.specs.List.{filter}
use Rattle.hazard_types.specs.Places.{Place}
use Rattle.hazard_types.specs.ZoneLines.{ZoneLine}
use Rattle.hazard_types.specs.declared.codes.Class.{Class}
use Rattle.hazard_types.specs.declared.line.Line.{Line}
use Rattle.hazard_types.specs.declared.line.Row.{Row}
use Rattle.event_life.specs.Products.{line_of, lines_of}
use Rattle.product_frame.specs.ZoneLinesOf.{lines_of_zone, lines_of_zones, lines_of_segments, zone_lines_of}
use Rattle.product_frame.specs.declared.frame.Frame.{Frame}
use Rattle.product_frame.specs.declared.frame.FrameSegment.{FrameSegment}
use Rattle.product_frame.specs.declared.frame.Pair.{Pair}
use Rattle.row_index.specs.declared.verdicts.Part.{Part}
use Rattle.row_index.specs.Verdicts.{lines_in as lines_in_parts, said_at, said_along, said_in}
use Rattle.product_decoder.specs.Decoded.{pair_of, decoded_of}
use Rattle.product_decoder.specs.FrameLines.{is_pair_by, event_pair, event_pairs, line_in, lines_in, lines_in_segments}
use Rattle.product_decoder.specs.ReaderModel.{is_by, is_vtec_by, zone_line_of_pair, said_by}
use Rattle.product_decoder.specs.declared.frame_lines.EventPair.{EventPair}
use Rattle.product_decoder.specs.declared.types.ZonePair.{ZonePair}

module _ (office : List ℕ) (class : Class) (rows : List Row) (t : ℕ) where
  -- what the lines of a text say of events, those of the office and class
  abbrev told : List ZoneLine → List Line
  told said = lines_of rows t (said_by office class (map pair_of said))

  told_first : (by : Bool) (s : ZoneLine) (kept more : List ZonePair) (later : List Line) → lines_of rows t (map zone_line_of_pair kept) ≡ lines_of rows t (map zone_line_of_pair more) ++ later
      → lines_of rows t (map zone_line_of_pair (cond by (pair_of s ∷ kept) kept)) ≡ lines_of rows t (map zone_line_of_pair (cond by (pair_of s ∷ more) more)) ++ later
  told_first true s kept more later h = ap (λ (lines : List Line). line_of rows t s ∷ lines) h
  told_first false s kept more later h = h

  told_append : (a b : List ZoneLine) → told (a ++ b) ≡ told a ++ told b
  told_append [] b = refl
  told_append (s ∷ a) b = told_first (is_vtec_by office class s.vtec) s (filter (is_by office class) (map pair_of (a ++ b))) (filter (is_by office class) (map pair_of a)) (told b) (told_append a b)

  zone_first : (by : Bool) (z : Place) (p : Pair) (kept : List ZonePair) (pairs : List Pair) → lines_of rows t (map zone_line_of_pair kept) ≡ map (line_in z) (map (event_pair rows t) pairs)
      → lines_of rows t (map zone_line_of_pair (cond by (pair_of (record { zone = z; vtec = p.vtec; flood = p.flood }) ∷ kept) kept)) ≡ map (line_in z) (map (event_pair rows t) (cond by (p ∷ pairs) pairs))
  zone_first true z p kept pairs h = ap (λ (lines : List Line). line_in z (event_pair rows t p) ∷ lines) h
  zone_first false z p kept pairs h = h

  zone_told : (z : Place) (pairs : List Pair) → told (lines_of_zone z pairs) ≡ map (line_in z) (event_pairs office class rows t pairs)
  zone_told z [] = refl
  zone_told z (p ∷ pairs) = zone_first (is_pair_by office class p) z p (filter (is_by office class) (map pair_of (lines_of_zone z pairs))) (filter (is_pair_by office class) pairs) (zone_told z pairs)

  zones_told : (zones : List Place) (pairs : List Pair) → told (lines_of_zones zones pairs) ≡ lines_in zones (event_pairs office class rows t pairs)
  zones_told [] pairs = refl
  zones_told (z ∷ zones) pairs =
      told_append (lines_of_zone z pairs) (lines_of_zones zones pairs)
      ∙ (λ i. zone_told z pairs i ++ zones_told zones pairs i)

  segments_told : (segments : List FrameSegment) → told (lines_of_segments segments) ≡ lines_in_segments office class rows t segments
  segments_told [] = refl
  segments_told (g ∷ segments) =
      told_append (lines_of_zones g.zones g.pairs) (lines_of_segments segments)
      ∙ (λ i. zones_told g.zones g.pairs i ++ segments_told segments i)

  pub frame_told : (f : Frame) → lines_in_segments office class rows t f.segments ≡ lines_of rows t (said_by office class (decoded_of f).pairs)
  unfolding zone_lines_of
  frame_told f = sym (segments_told f.segments)

-- lines of one zone said in another are those of the other

said_told : (first z : Place) (said : List EventPair) → said_at (map (line_in first) said) z ≡ map (line_in z) said
said_told first z [] = refl
said_told first z (s ∷ said) = ap (λ (lines : List Line). line_in z s ∷ lines) (said_told first z said)

along_told : (first : Place) (zones : List Place) (said : List EventPair) → said_along (map (line_in first) said) zones ≡ lines_in zones said
along_told first [] said = refl
along_told first (z ∷ zones) said = λ i. said_told first z said i ++ along_told first zones said i

-- with the part of a segment
pub part_put : (old new : List Part) (p : Part) (first : Place) (said : List EventPair) → new ≡ old ++ p ∷ [] → p.lines ≡ map (line_in first) said → lines_in_parts new ≡ lines_in_parts old ++ lines_in p.zones.now said
part_put old new p first said is lines_are =
    ap lines_in_parts is ∙ flat_map-append said_in old (p ∷ [])
    ∙ ap (λ (more : List Line). lines_in_parts old ++ more) (append-nil (said_in p) ∙ ap (λ (lines : List Line). said_along lines p.zones.now) lines_are ∙ along_told first p.zones.now said)
