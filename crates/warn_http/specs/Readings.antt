-- What the parts of a reading say of the bytes.
use Rattle.std.specs.Prelude.{◌≤◌, ◌<◌, ◌+◌, ◌-◌, ◌⊎◌, ℕ, List, length, take, map, nat_le, nat_lt, Result, Ok, Err, if◌then◌else◌, ⊤}
use Rattle.httparse.specs.Grammar.{RequestHead, ReadsRequest, HasNoRequest, NeverHasRequest, MayBecomeRequest}
use Rattle.httparse.specs.Spans.{IsRequestOf, IsRequestWithin, header_bytes, span_bytes}
use Rattle.httparse.specs.declared.spans.HeaderSpan.{HeaderSpan}
use Rattle.httparse.specs.declared.spans.RequestSpans.{RequestSpans}
use Rattle.office_types.specs.declared.refusal.Refusal.{Refusal}
use Rattle.http_heads.specs.Fields.{Pair}
use Rattle.warn_http.specs.Heads.{most_bytes, most_fields}
use Rattle.warn_http.specs.Wants.{wanted}
use Rattle.warn_http.specs.Calls.{call_at}
use Rattle.warn_http.specs.declared.fields.Stated.{Stated}
use Rattle.warn_http.specs.declared.fields.Stated.TheVariants as stated
use Rattle.warn_http.specs.declared.wants.Wanted.{Wanted}
use Rattle.warn_http.specs.declared.read.HttpRead.{HttpRead}
use Rattle.warn_http.specs.declared.read.HttpRead.TheVariants as read
use Rattle.warn_http.specs.declared.heads.Head.{Head}
use Rattle.warn_http.specs.declared.heads.Head.TheVariants.{Whole, More, Bad, TooLong, OutOfMemory}

-- of at most 8,192 bytes, the cause of an answer to the head at their front
abbrev pub Says : List ℕ → List HeaderSpan → Head → Type 0
Says front headers (Whole spans) =
    IsRequestOf front headers spans × IsRequestWithin front headers spans × (spans.headers ≤ most_fields)
Says front headers More = HasNoRequest front × (length front < most_bytes) × MayBecomeRequest front
Says front headers Bad = NeverHasRequest front
Says front headers TooLong =
    ((h : RequestHead) × (rest : List ℕ) × ReadsRequest front h rest × (most_fields < length h.fields))
    ⊎ ((most_bytes ≤ length front) × HasNoRequest front)
Says front headers OutOfMemory = ⊤

-- the fields that the spans cover
abbrev pub pairs_at : List ℕ → List HeaderSpan → RequestSpans → List Pair
pairs_at front headers spans = map (header_bytes front) (take spans.headers headers)

-- what the parts that the spans cover want
abbrev pub wanted_at : List ℕ → List HeaderSpan → RequestSpans → Result Wanted Refusal
wanted_at front headers spans =
    wanted (span_bytes front spans.method) (span_bytes front spans.path) spans.version (pairs_at front headers spans)

-- the answer to a head of so many bytes that wants this, among so many bytes
abbrev pub answer_to : ℕ → ℕ → Result Wanted Refusal → HttpRead
answer_to size total (Err refusal) = read.Refused refusal
answer_to size total (Ok wants) =
    if nat_le (size + wants.body) total then read.Call (call_at wants.aim size wants.body) (size + wants.body) wants.last else read.More

-- no head within the limits stands at the front of at most 8,192 bytes
abbrev pub HasNoHead : List ℕ → Type 0
HasNoHead front = (h : RequestHead) (rest : List ℕ) → ReadsRequest front h rest → length h.fields ≤ most_fields → ⊥

-- how many bytes are missing behind a head of so many bytes, among so many, by the length that its fields state; 1 where none is known to be
abbrev pub missing : ℕ → ℕ → Stated → ℕ
missing size total stated.Absent = 1
missing size total (stated.Bytes body) = if nat_lt total (size + body) then size + body - total else 1
missing size total stated.TooLong = 1
missing size total stated.Wrong = 1
