-- What is read from the body of an entry, before its request is judged again.
use Rattle.std.specs.Prelude.{◌≡◌, ◌==◌, ℕ, pos, Bool, List, Option, None, length, take, drop, nat_lt, if◌then◌else◌}
use Rattle.std.specs.List.{position_or_len}
use Rattle.hazard_types.specs.Calendar.{stamp_at}
use Rattle.request_json.specs.Formed.{HasForm}
use Rattle.office_core.specs.Histories.{Entered}
use Rattle.office_core.specs.State.{State}
use Rattle.office_core.specs.Step.{Accepts, entry_of}
use Rattle.office_journal.specs.Bodies.{asked_by}

-- the minute whose stamp a body begins with, behind which at least one byte stands
abbrev pub minute_in : List ℕ → Option ℕ
minute_in body = if nat_lt (length body) 13 then None else stamp_at (take 12 body)

abbrev pub is_line_feed : ℕ → Bool
is_line_feed byte = byte == 10

-- the bytes up to the first line feed
abbrev pub line_of : List ℕ → List ℕ
line_of bytes = take (position_or_len is_line_feed bytes) bytes

-- the text of the request: what stands behind the minute and the blank, up to the first line feed
abbrev pub request_in : List ℕ → List ℕ
request_in body = line_of (drop 13 body)

-- the entry of a request that is accepted at the state
pub record Enters (s : State) (x : Entered) : Type 0 where
  pub form : HasForm (asked_by x.entry)
  pub accepted : Accepts s x.entry.desk x.entry.seq x.entry.request (pos x.entry.minute) x.entry.minute x.made
  pub entry : x.entry ≡ entry_of s x.entry.desk x.entry.seq x.entry.request x.entry.minute x.made
