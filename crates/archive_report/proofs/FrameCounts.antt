-- The lines of a frame are counted by segment: as many as its zones for each pair.
use Rattle.std.proofs.Common.{◌≡◌, ◌∙◌, ℕ, suc, ◌+◌, ◌*◌, List, [], ◌∷◌, ◌++◌, length, map, Bool, true, false, cond, refl, ap, sym, arith, zero-mul, suc-mul, add_comm}
use Rattle.std.specs.List.{filter}
use Rattle.hazard_types.specs.Places.{Place}
use Rattle.hazard_types.specs.ZoneLines.{ZoneLine}
use Rattle.hazard_types.specs.declared.codes.Class.{Class}
use Rattle.product_frame.specs.ZoneLinesOf.{lines_of_zone, lines_of_zones, lines_of_segments, zone_lines_of}
use Rattle.product_frame.specs.declared.frame.Frame.{Frame}
use Rattle.product_frame.specs.declared.frame.FrameSegment.{FrameSegment}
use Rattle.product_frame.specs.declared.frame.Pair.{Pair}
use Rattle.product_decoder.specs.Decoded.{pair_of, decoded_of}
use Rattle.product_decoder.specs.FrameLines.{is_pair_by}
use Rattle.product_decoder.specs.ReaderModel.{is_by, zone_line_of_pair, said_by}
use Rattle.product_decoder.specs.declared.types.ZonePair.{ZonePair}
use Rattle.archive_report.specs.declared.words.Asked.{Asked}
use Rattle.archive_report.specs.Readings.{count_in}

module _ (office : List ℕ) (class : Class) where
  abbrev count : List ZoneLine → ℕ
  count said = length (said_by office class (map pair_of said))

  first_append : (by : Bool) (s : ZoneLine) (kept more : List ZonePair) (n : ℕ) → length (map zone_line_of_pair kept) ≡ length (map zone_line_of_pair more) + n
      → length (map zone_line_of_pair (cond by (pair_of s ∷ kept) kept)) ≡ length (map zone_line_of_pair (cond by (pair_of s ∷ more) more)) + n
  first_append true s kept more n h = omega (arith, h)
  first_append false s kept more n h = h

  count_append : (a b : List ZoneLine) → count (a ++ b) ≡ count a + count b
  count_append [] b = omega arith
  count_append (s ∷ a) b = first_append (is_by office class (pair_of s)) s (filter (is_by office class) (map pair_of (a ++ b))) (filter (is_by office class) (map pair_of a)) (count b) (count_append a b)

  first_zone : (by : Bool) (z : Place) (p : Pair) (kept : List ZonePair) (pairs : List Pair) → length (map zone_line_of_pair kept) ≡ length pairs
      → length (map zone_line_of_pair (cond by (pair_of (record { zone = z; vtec = p.vtec; flood = p.flood }) ∷ kept) kept)) ≡ length (cond by (p ∷ pairs) pairs)
  first_zone true z p kept pairs h = ap suc h
  first_zone false z p kept pairs h = h

  count_zone : (z : Place) (pairs : List Pair) → count (lines_of_zone z pairs) ≡ length (filter (is_pair_by office class) pairs)
  count_zone z [] = refl
  count_zone z (p ∷ pairs) = first_zone (is_pair_by office class p) z p (filter (is_by office class) (map pair_of (lines_of_zone z pairs))) (filter (is_pair_by office class) pairs) (count_zone z pairs)

  count_zones : (zones : List Place) (pairs : List Pair) → count (lines_of_zones zones pairs) ≡ length zones * length (filter (is_pair_by office class) pairs)
  count_zones [] pairs = sym (zero-mul (length (filter (is_pair_by office class) pairs)))
  count_zones (z ∷ zones) pairs =
      let each = length (filter (is_pair_by office class) pairs) in
      count_append (lines_of_zone z pairs) (lines_of_zones zones pairs)
      ∙ (λ i. count_zone z pairs i + count_zones zones pairs i)
      ∙ add_comm each (length zones * each) ∙ sym (suc-mul (length zones) each)

segments_counted : (asked : Asked) (segments : List FrameSegment) → count asked.office asked.class (lines_of_segments segments) ≡ count_in asked segments
segments_counted asked [] = refl
segments_counted asked (g ∷ segments) =
    count_append asked.office asked.class (lines_of_zones g.zones g.pairs) (lines_of_segments segments)
    ∙ (λ i. count_zones asked.office asked.class g.zones g.pairs i + segments_counted asked segments i)

pub frame_counted : (asked : Asked) (f : Frame) → count_in asked f.segments ≡ length (said_by asked.office asked.class (decoded_of f).pairs)
unfolding zone_lines_of
frame_counted asked f = sym (segments_counted asked f.segments)
