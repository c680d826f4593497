-- The text of a notice.
use Rattle.std.specs.Prelude.{◌≡◌, ◌<◌, ◌≤◌, ℕ, List, [], ◌++◌, length, map, drop, codes, None}
use Rattle.std.specs.List.{All}
use Rattle.std.specs.List.Sorted.{IsStrictlySortedBy}
use Rattle.hazard_types.specs.Days.{day_stamp_of}
use Rattle.hazard_types.specs.Places.{by_place}
use Rattle.hazard_types.specs.declared.codes.Class.TheVariants.{O}
use Rattle.hazard_types.specs.declared.line.Line.{Line}
use Rattle.hazard_types.specs.declared.line.SegLine.{SegLine}
use Rattle.hazard_types.specs.declared.line.Segment.{Segment}
use Rattle.desk_clock.specs.LocalText.{local_line_of}
use Rattle.event_life.specs.Printed.{printed_end}
use Rattle.product_frame.specs.Frame.{FrameOf}
use Rattle.product_frame.specs.Layout.{layout_of}
use Rattle.product_frame.specs.Splitting.{IsOneProduct}
use Rattle.product_frame.specs.declared.frame.Frame.{Frame}
use Rattle.product_frame.specs.declared.frame.FrameSegment.{FrameSegment}
use Rattle.product_frame.specs.declared.frame.Heading.{Heading}
use Rattle.product_frame.specs.declared.frame.Pair.{Pair}
use Rattle.product_frame.specs.declared.write.Block.{Block}
use Rattle.product_frame.specs.declared.write.Body.{Body}
use Rattle.segmenter.specs.Expiry.{expiry_of}
use Rattle.segmenter.specs.Segments.{AreSegments}
use Rattle.notice_json.specs.declared.command.Watch.{Watch}
use Rattle.notice_json.specs.declared.command.Watch.TheVariants.{Tornado, Thunderstorm}
use Rattle.county_notices.specs.declared.issuer.Issuer.{Issuer}

abbrev pub watch_name : Watch → List ℕ
watch_name Tornado = codes "Tornado Watch"
watch_name Thunderstorm = codes "Severe Thunderstorm Watch"

-- WWUS61 KLWX 031800
abbrev pub heading_of : Issuer → ℕ → Heading
heading_of by t = record { ttaaii = codes "WWUS61"; office = by.office; day = day_stamp_of t; bbb = None }

-- WCNLWX: the office's last three characters
abbrev pub identifier_of : Issuer → List ℕ
identifier_of by = codes "WCN" ++ drop 1 by.office

-- the values of a line's codes, of class O
abbrev pub pair_of : List ℕ → SegLine → Pair
pair_of office l = record {
  vtec = record { class = O; action = l.action; office = office; hazard = l.event.hazard; etn = l.event.etn; begin = l.begin; end = printed_end l.end };
  flood = l.flood;
}

abbrev pub segment_of : List ℕ → ℕ → Segment → FrameSegment
segment_of office t s = record { zones = s.zones; expiry = day_stamp_of (expiry_of t s.lines); pairs = map (pair_of office) s.lines }

-- what a reader takes from the text
abbrev pub frame_of : Issuer → ℕ → List Segment → Frame
frame_of by t segments = record {
  heading = heading_of by t;
  identifier = identifier_of by;
  issue = t;
  segments = map (segment_of by.office t) segments;
}

abbrev pub block_of : Issuer → ℕ → Block
block_of by t = record { name = codes "WATCH COUNTY NOTIFICATION"; office_line = codes "National Weather Service"; local = local_line_of by.zone t }

-- no names of zones; the watch's name, and an empty line
abbrev pub body_of : Watch → Segment → Body
body_of watch s = record { names = []; text = watch_name watch ++ codes "\n\n" }

unfoldable pub text_of : Issuer → ℕ → Watch → List Segment → List ℕ
text_of by t watch segments = layout_of (frame_of by t segments) (block_of by t) (map (body_of watch) segments)

-- What may be written: a number of four digits, and no flood values.
pub record IsPlainLine (line : Line) : Type 0 where
  pub number : line.event.etn ≤ 9999
  pub flood : line.flood ≡ None

-- zones in order, each once, of which there is one at least, and such lines
pub record IsPlainSegment (s : Segment) : Type 0 where
  pub some : 0 < length s.zones
  pub order : IsStrictlySortedBy by_place s.zones
  pub lines : All (λ (l : SegLine). (l.event.etn ≤ 9999) × (l.flood ≡ None)) s.lines

-- The notice that says these lines: the text of their segments, of which there is one list. A reader takes these segments and the minute from it; its one heading line is its first, and each line has its end.
pub record IsNotice (by : Issuer) (t : ℕ) (watch : Watch) (lines : List Line) (text : List ℕ) : Type 0 where
  pub segments : List Segment
  pub are : AreSegments lines segments
  pub value : text ≡ text_of by t watch segments
  pub frame : FrameOf text (frame_of by t segments)
  pub one : IsOneProduct text
