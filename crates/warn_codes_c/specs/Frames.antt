-- Frames of products as C sees them.
use Rattle.std.specs.Prelude.{◌≡◌, ◌⊎◌, ℕ, ◌-◌, ◌&&◌, Bool, List, [], ◌∷◌, ◌++◌, length, map, flat_map, replicate, nat_le, Result, Ok, Err, Option, Some, None, if◌then◌else◌}
use Rattle.hazard_types.specs.declared.line.Flood.{Flood}
use Rattle.hazard_types.specs.declared.or.Or.{Or}
use Rattle.hazard_types.specs.declared.or.Or.TheVariants.{No, OutOfMemory}
use Rattle.product_frame.specs.declared.frame.Frame.{Frame}
use Rattle.product_frame.specs.declared.frame.Pair.{Pair}
use Rattle.product_frame.specs.declared.frame.FrameSegment.{FrameSegment}
use Rattle.product_frame.specs.declared.frame.FrameFault.{FrameFault}
use Rattle.product_frame.specs.declared.frame.FrameFault.TheVariants.{NoHeading, NoIdentifier, NoIssueTime, IssueDisagrees, NoSegmentEnd, BadUgc, BadVtec}
use Rattle.warn_codes_c.specs.declared.fields.FloodFields.{FloodFields}
use Rattle.warn_codes_c.specs.declared.fields.ZoneFields.{ZoneFields}
use Rattle.warn_codes_c.specs.declared.frames.FrameFields.{FrameFields}
use Rattle.warn_codes_c.specs.declared.frames.FrameRows.{FrameRows}
use Rattle.warn_codes_c.specs.declared.frames.LineFields.{LineFields}
use Rattle.warn_codes_c.specs.declared.frames.SegmentFields.{SegmentFields}
use Rattle.warn_codes_c.specs.Fields.{vtec_fields, flood_fields, zone_fields}
use Rattle.warn_codes_c.specs.Handing.{fits, placed}

-- a text of at most six bytes, and zeros behind it; identifiers have four to six
abbrev pub padded_to_six : List ℕ → List ℕ
padded_to_six text = if nat_le (length text) 6 then text ++ replicate (6 - length text) 0 else replicate 6 0

abbrev pub bbb_of : Option (List ℕ) → List ℕ
bbb_of (Some letters) = letters
bbb_of None = 0 ∷ 0 ∷ 0 ∷ []

abbrev pub flood_fields_or_zeros : Option Flood → FloodFields
flood_fields_or_zeros (Some h) = flood_fields h
flood_fields_or_zeros None = record { begin = 0; crest = 0; end = 0; location = replicate 5 0; severity = 0; cause = 0 ∷ 0 ∷ []; record_status = 0 ∷ 0 ∷ [] }

-- 1 where there is one
abbrev pub flag : {T : Type 0} → Option T → ℕ
flag (Some x) = 1
flag None = 0

abbrev pub line_fields : Pair → LineFields
line_fields p = record { vtec = vtec_fields p.vtec; flood = flood_fields_or_zeros p.flood; has_flood = flag p.flood }

abbrev pub segment_fields : FrameSegment → SegmentFields
segment_fields s = record { zones = length s.zones; lines = length s.pairs; day = s.expiry.day; hour = s.expiry.hour; minute = s.expiry.minute }

-- the zones and the lines of a segment
abbrev pub zones_in : FrameSegment → List ZoneFields
zones_in s = map zone_fields s.zones

abbrev pub lines_in : FrameSegment → List LineFields
lines_in s = map line_fields s.pairs

-- a row for each segment, and those of its zones and lines one segment after another
abbrev pub rows_of : Frame → FrameRows
rows_of f = record { segments = map segment_fields f.segments; zones = flat_map zones_in f.segments; lines = flat_map lines_in f.segments }

abbrev pub frame_fields : Frame → FrameRows → FrameFields
frame_fields f rows = record {
  segments = length rows.segments;
  zones = length rows.zones;
  lines = length rows.lines;
  fault_line = 0;
  issue = f.issue;
  heading = f.heading.ttaaii;
  identifier = padded_to_six f.identifier;
  office = f.heading.office;
  bbb = bbb_of f.heading.bbb;
  day = f.heading.day.day;
  hour = f.heading.day.hour;
  minute = f.heading.day.minute;
}

-- the status of a fault, and its line
abbrev pub frame_fault_status : FrameFault → ℕ × ℕ
frame_fault_status NoHeading = (20, 0)
frame_fault_status NoIdentifier = (21, 0)
frame_fault_status NoIssueTime = (22, 0)
frame_fault_status IssueDisagrees = (23, 0)
frame_fault_status (NoSegmentEnd line) = (24, line)
frame_fault_status (BadUgc line) = (25, line)
frame_fault_status (BadVtec line) = (26, line)

abbrev pub fault_fields : ℕ → FrameFields
fault_fields line = record {
  segments = 0;
  zones = 0;
  lines = 0;
  fault_line = line;
  issue = 0;
  heading = replicate 6 0;
  identifier = replicate 6 0;
  office = replicate 4 0;
  bbb = replicate 3 0;
  day = 0;
  hour = 0;
  minute = 0;
}

-- each buffer has room for its rows
abbrev pub fit : FrameRows → List SegmentFields → List ZoneFields → List LineFields → Bool
fit rows segments zones lines = fits rows.segments segments && fits rows.zones zones && fits rows.lines lines

-- what becomes of the buffers and the fields where a frame was read: its rows are written where each buffer has room for its own
pub record FillsRows (f : Frame) (status : ℕ) (segments segments' : List SegmentFields) (zones zones' : List ZoneFields) (lines lines' : List LineFields) (out : FrameFields) : Type 0 where
  pub ends : status ≡ (if fit (rows_of f) segments zones lines then 0 else 2)
  pub segment_rows : segments' ≡ placed (fit (rows_of f) segments zones lines) (rows_of f).segments segments
  pub zone_rows : zones' ≡ placed (fit (rows_of f) segments zones lines) (rows_of f).zones zones
  pub line_rows : lines' ≡ placed (fit (rows_of f) segments zones lines) (rows_of f).lines lines
  pub fields : out ≡ frame_fields f (rows_of f)

-- nothing is written
abbrev pub AreKept : List SegmentFields → List SegmentFields → List ZoneFields → List ZoneFields → List LineFields → List LineFields → Type 0
AreKept segments segments' zones zones' lines lines' = (segments' ≡ segments) × (zones' ≡ zones) × (lines' ≡ lines)

abbrev pub FillsFrame : Result Frame FrameFault → ℕ → List SegmentFields → List SegmentFields → List ZoneFields → List ZoneFields → List LineFields → List LineFields → FrameFields → Type 0
FillsFrame (Ok f) status segments segments' zones zones' lines lines' out = FillsRows f status segments segments' zones zones' lines lines' out
FillsFrame (Err x) status segments segments' zones zones' lines lines' out = (status ≡ (frame_fault_status x).0) × AreKept segments segments' zones zones' lines lines' × (out ≡ fault_fields (frame_fault_status x).1)

-- it was read, unless memory ran out, which changes nothing
abbrev pub ReadsFrame : Result Frame FrameFault → ℕ → List SegmentFields → List SegmentFields → List ZoneFields → List ZoneFields → List LineFields → List LineFields → FrameFields → FrameFields → Type 0
ReadsFrame answer status segments segments' zones zones' lines lines' out out' =
    FillsFrame answer status segments segments' zones zones' lines lines' out' ⊎ ((status ≡ 1) × AreKept segments segments' zones zones' lines lines' × (out' ≡ out))

-- what was read is told, or the want of memory
abbrev pub IsToldFrame : Result Frame (Or FrameFault) → ℕ → List SegmentFields → List SegmentFields → List ZoneFields → List ZoneFields → List LineFields → List LineFields → FrameFields → FrameFields → Type 0
IsToldFrame (Ok f) status segments segments' zones zones' lines lines' out out' = ReadsFrame (Ok f) status segments segments' zones zones' lines lines' out out'
IsToldFrame (Err (No x)) status segments segments' zones zones' lines lines' out out' = ReadsFrame (Err x) status segments segments' zones zones' lines lines' out out'
IsToldFrame (Err OutOfMemory) status segments segments' zones zones' lines lines' out out' = (status ≡ 1) × AreKept segments segments' zones zones' lines lines' × (out' ≡ out)
