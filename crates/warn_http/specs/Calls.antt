-- The calls of a byte stream. How the bytes were cut in reading is no part of them.
use Rattle.std.specs.Prelude.{◌≡◌, ◌≤◌, ◌<◌, ◌+◌, ◌-◌, ◌⊎◌, ◌++◌, ℕ, Bool, true, false, List, [], ◌∷◌, length, take, drop, Ok, Err, ⊤}
use Rattle.httparse.specs.Grammar.{RequestHead, print_request, EndsInTarget}
use Rattle.office_types.specs.declared.refusal.Refusal.{Refusal}
use Rattle.office_types.specs.declared.refusal.Refusal.TheVariants.{BadHead, HeadTooLong}
use Rattle.warn_http.specs.Heads.{IsHead, IsBadHead, IsTooLong, IsCutHead}
use Rattle.warn_http.specs.Wants.{wanted_by}
use Rattle.warn_http.specs.declared.routes.Aim.{Aim}
use Rattle.warn_http.specs.declared.routes.Aim.TheVariants as aim
use Rattle.warn_http.specs.declared.wants.Wanted.{Wanted}
use Rattle.warn_http.specs.declared.read.Call.{Call}
use Rattle.warn_http.specs.declared.read.Call.TheVariants.{Post, Look}
use Rattle.warn_http.specs.declared.read.HttpRead.{HttpRead}
use Rattle.warn_http.specs.declared.read.HttpRead.TheVariants as read

-- one call: what it asks for, the body that it posts (none where it looks at something), how many bytes its head and
-- body take, and whether the link closes after it
pub record Called : Type 0 where
  pub call : Call
  pub posted : List ℕ
  pub used : ℕ
  pub last : Bool

-- what is asked for behind a head of so many bytes, with a body of so many
abbrev pub call_at : Aim → ℕ → ℕ → Call
call_at aim.Post size body = Post (record { from = size; to = size + body })
call_at (aim.Look query) size body = Look query

-- the bytes that a call posts, among its own
abbrev pub posted_in : List ℕ → Call → List ℕ
posted_in bytes (Post span) = take (span.to - span.from) (drop span.from bytes)
posted_in bytes (Look query) = []

-- the call whose head has so many bytes and wants this
abbrev pub called : List ℕ → ℕ → Wanted → Called
called bytes size wants = record {
  call = call_at wants.aim size wants.body;
  posted = posted_in bytes (call_at wants.aim size wants.body);
  used = size + wants.body;
  last = wants.last;
}

-- the bytes begin with this call, which is whole, within the limits, and refused by no rule
pub record IsCall (bytes : List ℕ) (c : Called) : Type 0 where
  pub head : RequestHead
  pub wants : Wanted
  pub stands : IsHead bytes head
  pub asks : wanted_by head ≡ Ok wants
  pub whole : length (print_request head) + wants.body ≤ length bytes
  pub says : c ≡ called bytes (length (print_request head)) wants

-- a rule refuses the call at the front: F1, F2, or for a head within the limits F3 to F6
abbrev pub IsRefused : List ℕ → Refusal → Type 0
IsRefused bytes refusal =
    ((refusal ≡ BadHead) × IsBadHead bytes)
    ⊎ (((refusal ≡ HeadTooLong) × IsTooLong bytes)
    ⊎ ((h : RequestHead) × IsHead bytes h × (wanted_by h ≡ Err refusal)))

-- a head that no rule refuses, and less than its body
pub record IsCutBody (bytes : List ℕ) : Type 0 where
  pub head : RequestHead
  pub wants : Wanted
  pub stands : IsHead bytes head
  pub asks : wanted_by head ≡ Ok wants
  pub cut : length bytes < length (print_request head) + wants.body

-- the bytes are no whole call, and may become one
abbrev pub IsUnfinished : List ℕ → Type 0
IsUnfinished bytes = IsCutHead bytes ⊎ IsCutBody bytes

-- the bytes begin with no whole call
abbrev pub HasNoWholeCall : List ℕ → Type 0
HasNoWholeCall bytes = (c : Called) → IsCall bytes c → ⊥

-- ---- one reading

-- the cause of an answer
abbrev pub Causes : List ℕ → HttpRead → Type 0
Causes bytes (read.Call call used last) = IsCall bytes (record { call = call; posted = posted_in bytes call; used = used; last = last })
Causes bytes read.More = IsUnfinished bytes
Causes bytes (read.Refused refusal) = IsRefused bytes refusal
Causes bytes read.OutOfMemory = ⊤

abbrev pub as_read : Called → HttpRead
as_read c = read.Call c.call c.used c.last

-- F1 and F2 both hold, and either is the answer
abbrev pub IsEither : List ℕ → HttpRead → Type 0
IsEither bytes answer =
    IsBadHead bytes × IsTooLong bytes
    × ((answer ≡ read.Refused BadHead) ⊎ (answer ≡ read.Refused HeadTooLong))

-- F1 holds of bytes that end within the target, which the answer need not tell yet
abbrev pub IsUntold : List ℕ → Refusal → HttpRead → Type 0
IsUntold bytes refusal answer =
    (refusal ≡ BadHead) × EndsInTarget bytes × IsCutHead bytes × (answer ≡ read.More)

abbrev pub RefusedOr : List ℕ → Refusal → HttpRead → Type 0
RefusedOr bytes refusal answer =
    (answer ≡ read.Refused refusal) ⊎ (IsEither bytes answer ⊎ IsUntold bytes refusal answer)

abbrev pub MoreOr : List ℕ → HttpRead → Type 0
MoreOr bytes answer =
    (answer ≡ read.More) ⊎ (EndsInTarget bytes × IsBadHead bytes × (answer ≡ read.Refused BadHead))

abbrev pub LiesIn : ℕ → Call → Type 0
LiesIn used (Post span) = (span.from ≤ span.to) × (span.to ≤ used)
LiesIn used (Look query) = ⊤

-- a call takes bytes that are there, one or more, and the body of a POST lies in them
abbrev pub IsWithin : List ℕ → HttpRead → Type 0
IsWithin bytes (read.Call call used last) = (0 < used) × (used ≤ length bytes) × LiesIn used call
IsWithin bytes read.More = ⊤
IsWithin bytes (read.Refused refusal) = ⊤
IsWithin bytes read.OutOfMemory = ⊤

-- An answer comes exactly where it has its cause, unless memory is wanting.
pub record IsAnswer (bytes : List ℕ) (answer : HttpRead) : Type 0 where
  pub cause : Causes bytes answer
  pub call : (c : Called) → IsCall bytes c → (answer ≡ as_read c) ⊎ (answer ≡ read.OutOfMemory)
  pub refused : (f : Refusal) → IsRefused bytes f → RefusedOr bytes f answer ⊎ (answer ≡ read.OutOfMemory)
  pub more : IsUnfinished bytes → MoreOr bytes answer ⊎ (answer ≡ read.OutOfMemory)
  pub within : IsWithin bytes answer

-- ---- the calls of a stream

-- calls cut from the front, after none of which the link closes, and what is left behind them
abbrev pub IsCut : List ℕ → List Called → List ℕ → Type 0
IsCut bytes [] rest = bytes ≡ rest
IsCut bytes (c ∷ calls) rest = IsCall bytes c × (c.last ≡ false) × IsCut (drop c.used bytes) calls rest

-- the most calls that a link serves
abbrev pub most_calls : ℕ
most_calls = 10000

-- why the calls of a stream end: at a refusal, after a call that closes the link, after the most calls,
-- or at a rest that is no whole call
pub data Stop : Type 0 where
  refused : Refusal → Stop
  closed : Stop
  spent : Stop
  left : List ℕ → Stop

-- where the calls end, behind those after which the link stays open
abbrev pub EndsAs : List Called → List ℕ → List Called → Stop → Type 0
EndsAs open_calls rest calls (refused refusal) =
    (calls ≡ open_calls) × (length open_calls < most_calls) × IsRefused rest refusal
EndsAs open_calls rest calls closed =
    (c : Called) × (calls ≡ open_calls ++ c ∷ []) × (length open_calls < most_calls) × IsCall rest c × (c.last ≡ true)
EndsAs open_calls rest calls spent = (calls ≡ open_calls) × (length open_calls ≡ most_calls)
EndsAs open_calls rest calls (left cut) =
    (calls ≡ open_calls) × (cut ≡ rest) × (length open_calls < most_calls) × IsUnfinished rest

-- the calls of these bytes, and why they end
pub record AreCalls (bytes : List ℕ) (calls : List Called) (stop : Stop) : Type 0 where
  pub open_calls : List Called
  pub rest : List ℕ
  pub cut : IsCut bytes open_calls rest
  pub ends : EndsAs open_calls rest calls stop

-- an end that more bytes do not change
abbrev pub IsFinal : Stop → Type 0
IsFinal (refused refusal) = ⊤
IsFinal closed = ⊤
IsFinal spent = ⊤
IsFinal (left rest) = ⊥

-- F1 may stand for F2, where both hold, and for a rest that ends within a target
abbrev pub StandsFor : Stop → Stop → Type 0
StandsFor one other =
    (one ≡ refused BadHead)
    × ((other ≡ refused HeadTooLong) ⊎ ((rest : List ℕ) × (other ≡ left rest) × EndsInTarget rest))

-- the same end, but for what F1 may stand for
abbrev pub AreAlike : Stop → Stop → Type 0
AreAlike one other = (one ≡ other) ⊎ (StandsFor one other ⊎ StandsFor other one)
