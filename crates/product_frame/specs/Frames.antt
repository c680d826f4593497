-- The frame of a text.
use Rattle.std.specs.Prelude.{ℕ, ◌+◌, List, [], ◌∷◌, length, slice_index, take, drop, Option, Some, None, Result, Ok, Err, if◌then◌else◌, is_some}
use Rattle.hazard_types.specs.Given.{◌>>=◌}
use Rattle.product_frame.specs.Text.{starts, starts_from, line_of, is_empty}
use Rattle.product_frame.specs.Parts.{heading_of, is_identifier, parse_local_line}
use Rattle.product_frame.specs.Nearness.{is_near}
use Rattle.product_frame.specs.Walking.{segments_of}
use Rattle.product_frame.specs.declared.frame.Heading.{Heading}
use Rattle.product_frame.specs.declared.frame.Frame.{Frame}
use Rattle.product_frame.specs.declared.frame.FrameFault.{FrameFault}
use Rattle.product_frame.specs.declared.frame.FrameFault.TheVariants.{NoHeading, NoIdentifier, NoIssueTime, IssueDisagrees}

-- the line that begins at a place
abbrev pub line_at : List ℕ → ℕ → List ℕ
line_at bytes start = line_of (drop start bytes)

-- which is the first heading line
abbrev pub heading_index : List ℕ → ℕ → List ℕ → Option ℕ
heading_index bytes k [] = None
heading_index bytes k (s ∷ places) = if is_some (heading_of (line_at bytes s)) then Some k else heading_index bytes (k + 1) places

-- where it begins
abbrev pub first_heading : List ℕ → List ℕ → Option ℕ
first_heading bytes [] = None
first_heading bytes (s ∷ places) = if is_some (heading_of (line_at bytes s)) then Some s else first_heading bytes places

-- which is the first line that is not empty
abbrev pub first_nonempty_index : List ℕ → ℕ → List ℕ → Option ℕ
first_nonempty_index bytes k [] = None
first_nonempty_index bytes k (s ∷ places) = if is_empty (line_at bytes s) then first_nonempty_index bytes (k + 1) places else Some k

-- the minute of the first local line
abbrev pub find_issue_minute : List ℕ → List ℕ → Option ℕ
find_issue_minute bytes [] = None
find_issue_minute bytes (s ∷ places) = if is_some (parse_local_line (line_at bytes s)) then parse_local_line (line_at bytes s) else find_issue_minute bytes places

-- the product ends before the next heading line, or at the end
abbrev pub end_by : List ℕ → Option ℕ → ℕ
end_by bytes None = length bytes
end_by bytes (Some k) = slice_index (starts_from 0 bytes) k

unfoldable pub product_in : List ℕ → List ℕ
product_in rest = take (end_by rest (heading_index rest 0 (starts_from 0 rest))) rest

abbrev pub or_fault : {A B : Type 0} → Option A → FrameFault → (A → Result B FrameFault) → Result B FrameFault
or_fault None fault f = Err fault
or_fault (Some x) fault f = f x

-- behind the identifier, which is the line of this index behind the heading
unfoldable pub frame_after_identifier : List ℕ → Heading → List ℕ → ℕ → Result Frame FrameFault
frame_after_identifier p h identifier k = or_fault (find_issue_minute p (drop (k + 1) (starts_from 0 p))) NoIssueTime (λ issue.
    if is_near issue h.day then (segments_of p (k + 3) (drop (k + 1) (starts_from 0 p)) >>= λ segments. Ok (record { heading = h; identifier = identifier; issue = issue; segments = segments }))
    else Err IssueDisagrees)

abbrev pub named : List ℕ → Heading → List ℕ → ℕ → Result Frame FrameFault
named p h identifier k = if is_identifier identifier then frame_after_identifier p h identifier k else Err NoIdentifier

-- one product, whose first line is its heading
unfoldable pub frame_in : List ℕ → Heading → Result Frame FrameFault
frame_in p h = or_fault (first_nonempty_index p 0 (starts_from 0 p)) NoIdentifier (λ k. named p h (line_at p (slice_index (starts_from 0 p) k)) k)

-- from the line of a heading on
unfoldable pub frame_from : List ℕ → Result Frame FrameFault
frame_from rest = or_fault (heading_of (line_of rest)) NoHeading (λ h. frame_in (product_in rest) h)

-- the first product of a text
unfoldable pub read_first_frame : List ℕ → Result Frame FrameFault
read_first_frame bytes = or_fault (heading_index bytes 0 (starts bytes)) NoHeading (λ k. frame_from (drop (slice_index (starts bytes) k) bytes))
