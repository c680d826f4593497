-- What may be written, so that it reads as the frame that it is written for.
use Rattle.std.specs.Prelude.{◌≡◌, ℕ, ◌<◌, ◌≤◌, ◌==◌, ◌&&◌, Bool, true, false, IsTrue, List, [], ◌∷◌, ◌++◌, length, Option, Some, None, if◌then◌else◌}
use Rattle.std.specs.List.{All, AllByRecursion, list_all}
use Rattle.std.specs.List.Sorted.{IsStrictlySortedBy}
use Rattle.hazard_types.specs.Calendar.{is_digit}
use Rattle.hazard_types.specs.Characters.{is_office, is_location}
use Rattle.hazard_types.specs.Places.{is_capital, by_place}
use Rattle.hazard_types.specs.declared.codes.LocalZone.{LocalZone}
use Rattle.ugc_codes.specs.Grammar.{IsUgc}
use Rattle.hazard_types.specs.Digits.{is_day_stamp}
use Rattle.ugc_codes.specs.Written.{ugc_text}
use Rattle.hazard_types.specs.declared.line.Flood.{Flood}
use Rattle.vtec_string.specs.Columns.{IsVtec, vtec_text}
use Rattle.hvtec_string.specs.Columns.{IsHvtec, hvtec_text}
use Rattle.desk_clock.specs.DayStamps.{IsNear}
use Rattle.desk_clock.specs.LocalText.{local_line_of}
use Rattle.product_frame.specs.Text.{line_of}
use Rattle.product_frame.specs.Parts.{is_ttaaii, heading_of, is_identifier, has_slash, is_end}
use Rattle.product_frame.specs.Layout.{names_text}
use Rattle.product_frame.specs.declared.frame.Heading.{Heading}
use Rattle.product_frame.specs.declared.frame.Pair.{Pair}
use Rattle.product_frame.specs.declared.frame.FrameSegment.{FrameSegment}
use Rattle.product_frame.specs.declared.frame.Frame.{Frame}
use Rattle.product_frame.specs.declared.write.Block.{Block}
use Rattle.product_frame.specs.declared.write.Body.{Body}

-- one line: no byte is LF
abbrev pub IsOneLine : List ℕ → Type 0
IsOneLine = AllByRecursion (λ c. (c == 10) ≡ false)

-- no byte is a digit
abbrev pub HasNoDigit : List ℕ → Type 0
HasNoDigit = AllByRecursion (λ c. is_digit c ≡ false)

-- a byte comes before the lines of what follows it
abbrev pub onto : ℕ → List (List ℕ) → List (List ℕ)
onto c [] = (c ∷ []) ∷ []
onto c (line ∷ lines) = (c ∷ line) ∷ lines

-- the lines of a text, without their ends
abbrev pub lines_in : List ℕ → List (List ℕ)
lines_in [] = []
lines_in (c ∷ bytes) = if c == 10 then [] ∷ lines_in bytes else onto c (lines_in bytes)

-- the last byte, behind another, is LF
abbrev pub ends_behind : ℕ → List ℕ → Bool
ends_behind c [] = c == 10
ends_behind c (d ∷ bytes) = ends_behind d bytes

-- each line has its end
abbrev pub are_ended : List ℕ → Bool
are_ended = ends_behind 10

-- three capital letters, where they stand
abbrev pub are_three : Option (List ℕ) → Bool
are_three None = true
are_three (Some letters) = (length letters == 3) && list_all is_capital letters

-- the form that is read: four letters and two digits, an office, a day stamp, three letters
pub record IsHeading (h : Heading) : Type 0 where
  pub six : length h.ttaaii ≡ 6
  pub ttaaii : is_ttaaii h.ttaaii ≡ true
  pub office : is_office h.office ≡ true
  pub day : is_day_stamp h.day ≡ true
  pub letters : are_three h.bbb ≡ true

-- a location of its form, where there are flood values
abbrev pub HasLocation : Option Flood → Type 0
HasLocation None = Unit {0}
HasLocation (Some h) = IsTrue (is_location h.site)

-- an office, a number and a location of their form
pub record IsPairWritten (p : Pair) : Type 0 where
  pub office : IsTrue (is_office p.vtec.office)
  pub number : p.vtec.etn ≤ 9999
  pub location : HasLocation p.flood

-- zones in order, each once, of which there is one at least, an expiry, and pairs
pub record IsSegmentWritten (g : FrameSegment) : Type 0 where
  pub some : 0 < length g.zones
  pub sorted : IsStrictlySortedBy by_place g.zones
  pub expiry : IsTrue (is_day_stamp g.expiry)
  pub pairs : All IsPairWritten g.pairs

-- a line of a body is neither $$ nor a heading line
abbrev pub IsBodyLine : List ℕ → Type 0
IsBodyLine line = (is_end (line_of line) ≡ false) × (heading_of (line_of line) ≡ None)

-- lines of names and lines of text, each with its end; the first does not begin with a slash
pub record IsBody (body : Body) : Type 0 where
  pub no_slash : has_slash body.names ≡ false
  pub names : AllByRecursion IsBodyLine (lines_in (names_text body.names))
  pub text : AllByRecursion IsBodyLine (lines_in body.text)
  pub ended : are_ended body.text ≡ true

-- the line rules
pub record IsWritable (f : Frame) (block : Block) (bodies : List Body) : Type 0 where
  pub heading : IsHeading f.heading
  pub minute : f.issue < 52596000
  pub near : IsNear f.issue f.heading.day
  pub identifier : is_identifier f.identifier ≡ true
  pub segments : All IsSegmentWritten f.segments
  pub each_body : All IsBody bodies
  pub as_many : length bodies ≡ length f.segments
  pub name : IsOneLine block.name × HasNoDigit block.name
  pub office_line : IsOneLine block.office_line × HasNoDigit block.office_line
  pub zone : LocalZone
  pub local : block.local ≡ local_line_of zone f.issue

-- the text of flood values has their columns
abbrev pub HasFloodColumns : Option Flood → Type 0
HasFloodColumns None = Unit {0}
HasFloodColumns (Some h) = IsHvtec (hvtec_text h) h

-- the texts of the values have their columns
abbrev pub HasColumns : Pair → Type 0
HasColumns p = IsVtec (vtec_text p.vtec) p.vtec × HasFloodColumns p.flood

-- the written texts read back, whatever bytes follow
abbrev pub ReadsBack : FrameSegment → Type 0
ReadsBack g = ((rest : List ℕ) → IsUgc (ugc_text g.zones g.expiry ++ rest) g.zones g.expiry (length (ugc_text g.zones g.expiry))) × All HasColumns g.pairs
