-- The answers of a server, by httparse's grammar of heads and Content-Length.
use Rattle.std.specs.Prelude.{◌≡◌, ◌≤◌, ◌<◌, ◌⊎◌, ℕ, ◌==◌, ◌||◌, Bool, true, false, List, [], ◌∷◌, ◌++◌, length, map, codes, Option, Some, None, if◌then◌else◌}
use Rattle.httparse.specs.Grammar.{ResponseHead, print_response, ReadsResponse, HasNoResponse, NeverHasResponse, MayBecomeResponse, status_code}
use Rattle.httparse.specs.Spans.{name_and_value}
use Rattle.program_ends.specs.Numbers.{number_in}
use Rattle.http_heads.specs.Fields.{Pair, has_close, has_field, is_named}

-- the fields of a head
abbrev pub fields_of : ResponseHead → List Pair
fields_of h = map name_and_value h.fields

-- the bytes of the body: the number of the one Content-Length, where it is at most 65,536
abbrev pub length_in : List Pair → Option ℕ
length_in [] = None
length_in (pair ∷ pairs) =
    if is_named (codes "content-length") pair
    then (if has_field (codes "content-length") pairs then None else number_in 65536 pair.1)
    else length_in pairs

-- a text, or that there is none
abbrev pub is_known : ℕ → Bool
is_known status = (status == 200) || (status == 404)

-- what an answer says, and whether its link closes behind it
pub record Answer : Type 0 where
  pub status : ℕ
  pub body : List ℕ
  pub closes : Bool

-- the bytes are a head of at most 8,192 bytes and the body that it announces
pub record IsAnswer (bytes : List ℕ) (a : Answer) : Type 0 where
  pub head : ResponseHead
  pub reads : ReadsResponse bytes head a.body
  pub short : length (print_response head) ≤ 8192
  pub length_is : length_in (fields_of head) ≡ Some (length a.body)
  pub status_is : status_code head ≡ a.status
  pub known : is_known a.status ≡ true
  pub closes_is : has_close (fields_of head) ≡ a.closes

-- the length is missing, repeated, no decimal number or above 65,536, or the status is another
abbrev pub IsBadlyHeaded : ResponseHead → Type 0
IsBadlyHeaded h = (length_in (fields_of h) ≡ None) ⊎ (is_known (status_code h) ≡ false)

-- no byte, or a front of a head
abbrev pub IsCutHead : List ℕ → Type 0
IsCutHead bytes = HasNoResponse bytes × (length bytes < 8192) × ((bytes ≡ []) ⊎ MayBecomeResponse bytes)

-- whatever follows, they begin with no head; or with none of at most 8,192 bytes; or they are a bad one
abbrev pub IsBadHead : List ℕ → Type 0
IsBadHead bytes =
    NeverHasResponse bytes
    ⊎ (((8192 ≤ length bytes) × HasNoResponse bytes)
    ⊎ ((h : ResponseHead) × ReadsResponse bytes h [] × IsBadlyHeaded h))

-- before its last byte it could still become one
abbrev pub WasCutHead : List ℕ → Type 0
WasCutHead bytes = (front : List ℕ) × (last : ℕ) × (bytes ≡ front ++ last ∷ []) × IsCutHead front

-- a bad head, told at the byte that decides it
abbrev pub HasBadHead : List ℕ → Type 0
HasBadHead bytes = IsBadHead bytes × WasCutHead bytes

-- a head, and less than its body
pub record IsCutBody (bytes : List ℕ) : Type 0 where
  pub head : ResponseHead
  pub body : List ℕ
  pub wanted : ℕ
  pub reads : ReadsResponse bytes head body
  pub short : length (print_response head) ≤ 8192
  pub length_is : length_in (fields_of head) ≡ Some wanted
  pub known : is_known (status_code head) ≡ true
  pub cut : length body < wanted

-- the bytes are no whole answer, and may become one
abbrev pub IsFront : List ℕ → Type 0
IsFront bytes = IsCutHead bytes ⊎ IsCutBody bytes

-- the body of the answer that the office has no such product
abbrev pub no_product : List ℕ
no_product = codes "{\"no\":\"E14\",\"rule\":\"NoProduct\"}"
