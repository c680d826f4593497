-- The text of a product.
use Rattle.std.specs.Prelude.{ℕ, List, [], ◌∷◌, ◌++◌, map, Option, Some, None, codes, slice_index_or}
use Rattle.hazard_types.specs.Days.{day_stamp_of}
use Rattle.hazard_types.specs.Names.{category_code}
use Rattle.hazard_types.specs.declared.codes.Category.{Category}
use Rattle.hazard_types.specs.declared.codes.Category.TheVariants.{Wsw, Npw, Rfw, Cfw, Mww, Ffa, Flw, Fls}
use Rattle.hazard_types.specs.declared.codes.Class.{Class}
use Rattle.hazard_types.specs.declared.line.SegLine.{SegLine}
use Rattle.hazard_types.specs.declared.line.Segment.{Segment}
use Rattle.office_types.specs.declared.request.Edition.{Edition}
use Rattle.office_types.specs.declared.request.EventTexts.{EventTexts}
use Rattle.office_types.specs.declared.request.Plan.{Plan}
use Rattle.desk_clock.specs.LocalText.{local_line_of}
use Rattle.desk_settings.specs.Looking.{category_place}
use Rattle.desk_settings.specs.declared.settings.Settings.{Settings}
use Rattle.event_life.specs.Printed.{printed_end}
use Rattle.product_frame.specs.Layout.{layout_of}
use Rattle.product_frame.specs.declared.frame.Frame.{Frame}
use Rattle.product_frame.specs.declared.frame.FrameSegment.{FrameSegment}
use Rattle.product_frame.specs.declared.frame.Heading.{Heading}
use Rattle.product_frame.specs.declared.frame.Pair.{Pair}
use Rattle.product_frame.specs.declared.write.Block.{Block}
use Rattle.product_frame.specs.declared.write.Body.{Body}
use Rattle.segmenter.specs.Expiry.{expiry_of}
use Rattle.product_template.specs.Bodies.{body_of}

abbrev pub product_name : Category → List ℕ
product_name Wsw = codes "URGENT - WINTER WEATHER MESSAGE"
product_name Npw = codes "URGENT - WEATHER MESSAGE"
product_name Rfw = codes "URGENT - FIRE WEATHER MESSAGE"
product_name Cfw = codes "COASTAL HAZARD MESSAGE"
product_name Mww = codes "URGENT - MARINE WEATHER MESSAGE"
product_name Ffa = codes "FLOOD WATCH"
product_name Flw = codes "FLOOD WARNING"
product_name Fls = codes "FLOOD STATEMENT"

-- a correction has a letter, and says so behind the name
abbrev pub corrected : Option ℕ → List ℕ
corrected None = []
corrected (Some letter) = codes "...CORRECTED"

-- CC and the letter of a correction
abbrev pub three_letters : Option ℕ → Option (List ℕ)
three_letters None = None
three_letters (Some letter) = Some (67 ∷ 67 ∷ letter ∷ [])

-- WWUS41 KLWX 031545 CCA
abbrev pub heading_of : Settings → Plan → ℕ → Heading
heading_of settings plan t = record { ttaaii = slice_index_or settings.headings (category_place plan.category) []; office = settings.office; day = day_stamp_of t; bbb = three_letters plan.bbb }

-- WSWLWX
abbrev pub identifier_of : Settings → Plan → List ℕ
identifier_of settings plan = category_code plan.category ++ settings.site

-- the values of a line's codes
abbrev pub pair_of : Class → List ℕ → SegLine → Pair
pair_of class office l = record {
  vtec = record { class = class; action = l.action; office = office; hazard = l.event.hazard; etn = l.event.etn; begin = l.begin; end = printed_end l.end };
  flood = l.flood;
}

abbrev pub segment_of : Class → List ℕ → ℕ → Segment → FrameSegment
segment_of class office t s = record { zones = s.zones; expiry = day_stamp_of (expiry_of t s.lines); pairs = map (pair_of class office) s.lines }

-- what a reader takes from the text
abbrev pub frame_of : Settings → Class → Plan → ℕ → Frame
frame_of settings class plan t = record {
  heading = heading_of settings plan t;
  identifier = identifier_of settings plan;
  issue = t;
  segments = map (segment_of class settings.office t) plan.segments;
}

abbrev pub block_of : Settings → Plan → ℕ → Block
block_of settings plan t = record { name = product_name plan.category ++ corrected plan.bbb; office_line = settings.office_line; local = local_line_of settings.zone t }

abbrev pub bodies_of : Settings → Class → Plan → ℕ → Edition → List Body
bodies_of settings class plan t edition = map (body_of settings class plan.texts t edition) plan.segments

-- with these texts on the plan's events
abbrev pub text_with : Settings → Class → Plan → List EventTexts → ℕ → Edition → List ℕ
text_with settings class plan texts t edition = layout_of (frame_of settings class plan t) (block_of settings plan t) (map (body_of settings class texts t edition) plan.segments)

unfoldable pub text_of : Settings → Class → Plan → ℕ → Edition → List ℕ
text_of settings class plan t edition = layout_of (frame_of settings class plan t) (block_of settings plan t) (bodies_of settings class plan t edition)
