-- The head of a call and its fields, by httparse's grammar.
use Rattle.std.specs.Prelude.{◌≡◌, ◌≤◌, ◌<◌, ◌⊎◌, ℕ, ◌==◌, ◌||◌, Bool, List, [], ◌∷◌, length, take, map, filter, codes}
use Rattle.std.specs.List.{list_any}
use Rattle.httparse.specs.Grammar.{RequestHead, ReadsRequest, HasNoRequest, NeverHasRequest, MayBecomeRequest}
use Rattle.httparse.specs.Spans.{name_and_value}
use Rattle.http_heads.specs.Fields.{Pair, has_close, is_named}
use Rattle.warn_http.specs.Numbers.{number_of}
use Rattle.warn_http.specs.declared.numbers.Number.{Number}
use Rattle.warn_http.specs.declared.numbers.Number.TheVariants.{NoNumber, TooLarge, Is}
use Rattle.warn_http.specs.declared.fields.Stated.{Stated}
use Rattle.warn_http.specs.declared.fields.Stated.TheVariants.{Absent, Bytes, TooLong, Wrong}

-- the fields of a head
abbrev pub fields_of : RequestHead → List Pair
fields_of h = map name_and_value h.fields

-- the values of the fields of this name, in their order
abbrev pub values_of : List ℕ → List Pair → List (List ℕ)
values_of name pairs = map (λ (pair : Pair). pair.1) (filter (is_named name) pairs)

-- the most bytes of a body
abbrev pub most_body : ℕ
most_body = 65536

abbrev pub length_by : Number → Stated
length_by NoNumber = Wrong
length_by TooLarge = TooLong
length_by (Is n) = Bytes n

-- one Content-Length of so many bytes, none, or one that is wrong: it is repeated, or no decimal number
abbrev pub length_in : List (List ℕ) → Stated
length_in [] = Absent
length_in (value ∷ []) = length_by (number_of most_body value)
length_in (value ∷ other ∷ values) = Wrong

-- what the fields state of the body's length
unfoldable pub stated : List Pair → Stated
stated pairs = length_in (values_of (codes "content-length") pairs)

-- the link closes after a call of HTTP/1.0, and after one that asks for it
unfoldable pub closes : ℕ → List Pair → Bool
closes minor pairs = (minor == 0) || has_close pairs

-- a line feed is among the bytes
abbrev pub has_line_feed : List ℕ → Bool
has_line_feed bytes = list_any (λ b. b == 10) bytes

-- the most bytes and the most fields of a head
abbrev pub most_bytes : ℕ
most_bytes = 8192

abbrev pub most_fields : ℕ
most_fields = 32

-- the bytes begin with this head, which is within the limits
pub record IsHead (bytes : List ℕ) (h : RequestHead) : Type 0 where
  pub rest : List ℕ
  pub reads : ReadsRequest (take most_bytes bytes) h rest
  pub few : length h.fields ≤ most_fields

-- F1: whatever follows, the bytes begin with no head; or their head has a wrong Content-Length
abbrev pub IsBadHead : List ℕ → Type 0
IsBadHead bytes =
    NeverHasRequest bytes
    ⊎ ((h : RequestHead) × (rest : List ℕ) × ReadsRequest bytes h rest × (stated (fields_of h) ≡ Wrong))

-- F2: the first 8,192 bytes are there and hold no whole head, or they hold a head of more than 32 fields
abbrev pub IsTooLong : List ℕ → Type 0
IsTooLong bytes =
    ((most_bytes ≤ length bytes) × HasNoRequest (take most_bytes bytes))
    ⊎ ((h : RequestHead) × (rest : List ℕ) × ReadsRequest (take most_bytes bytes) h rest × (most_fields < length h.fields))

-- No head is whole, and there may come one; of bytes that end within the target httparse tells that only later.
abbrev pub IsCutHead : List ℕ → Type 0
IsCutHead bytes = HasNoRequest bytes × (length bytes < most_bytes) × MayBecomeRequest bytes
