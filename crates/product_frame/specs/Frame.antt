-- What it is to be the frame of a text.
use Rattle.std.specs.Prelude.{◌≡◌, ℕ, ◌+◌, true, List, slice_index, drop, Some}
use Rattle.product_frame.specs.Text.{starts, starts_from}
use Rattle.desk_clock.specs.DayStamps.{IsNear}
use Rattle.product_frame.specs.Parts.{heading_of, is_identifier}
use Rattle.product_frame.specs.Frames.{line_at, heading_index, first_nonempty_index, find_issue_minute, product_in}
use Rattle.product_frame.specs.Grammar.{AreSegments}
use Rattle.product_frame.specs.declared.frame.Frame.{Frame}

-- what a product says behind its heading
pub record IsFrameIn (p : List ℕ) (f : Frame) : Type 0 where
  pub index : ℕ
  pub full : first_nonempty_index p 0 (starts_from 0 p) ≡ Some index
  pub identifier : f.identifier ≡ line_at p (slice_index (starts_from 0 p) index)
  pub named : is_identifier f.identifier ≡ true
  pub issue : find_issue_minute p (drop (index + 1) (starts_from 0 p)) ≡ Some f.issue
  pub agrees : IsNear f.issue f.heading.day
  pub segments : AreSegments p (drop (index + 1) (starts_from 0 p)) f.segments

-- the first product of the text, and its parts
pub record FrameOf (bytes : List ℕ) (f : Frame) : Type 0 where
  pub index : ℕ
  pub begins : heading_index bytes 0 (starts bytes) ≡ Some index
  pub heading : heading_of (line_at bytes (slice_index (starts bytes) index)) ≡ Some f.heading
  pub frame : IsFrameIn (product_in (drop (slice_index (starts bytes) index) bytes)) f
