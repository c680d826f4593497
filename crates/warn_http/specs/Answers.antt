-- The answers, byte for byte, and the statuses.
use Rattle.std.specs.Prelude.{ℕ, ◌==◌, Bool, true, false, List, [], ◌∷◌, ◌++◌, length, codes, decimal, Option, Some, None}
use Rattle.std.specs.List.{list_any}
use Rattle.http.specs.StatusCode.{reason_phrase}
use Rattle.office_types.specs.Refusals.{label}
use Rattle.office_types.specs.declared.refusal.Refusal.{Refusal}
use Rattle.warn_http.specs.declared.answers.BodyKind.{BodyKind}
use Rattle.warn_http.specs.declared.answers.BodyKind.TheVariants.{Json, Plain}

-- the statuses of the desk
abbrev pub statuses : List ℕ
statuses = 200 ∷ 400 ∷ 403 ∷ 404 ∷ 405 ∷ 409 ∷ 411 ∷ 413 ∷ 422 ∷ 431 ∷ 500 ∷ 503 ∷ []

unfoldable pub is_status : ℕ → Bool
is_status status = list_any (λ known. status == known) statuses

-- the status of a refusal
abbrev pub status_of : Refusal → ℕ
status_of refusal = (label refusal).2

abbrev pub type_of : BodyKind → List ℕ
type_of Json = codes "application/json"
type_of Plain = codes "text/plain"

abbrev pub phrase_in : Option (List ℕ) → List ℕ
phrase_in None = []
phrase_in (Some phrase) = phrase

-- the phrase that the crate http gives to a status
unfoldable pub phrase_of : ℕ → List ℕ
phrase_of status = phrase_in (reason_phrase status)

abbrev pub closing : Bool → List ℕ
closing true = codes "Connection: close\r\n"
closing false = []

-- HTTP/1.1 STATUS PHRASE
abbrev pub status_line : ℕ → List ℕ
status_line status = codes "HTTP/1.1 " ++ (decimal status ++ (codes " " ++ (phrase_of status ++ codes "\r\n")))

abbrev pub type_line : BodyKind → List ℕ
type_line kind = codes "Content-Type: " ++ (type_of kind ++ codes "\r\n")

abbrev pub length_line : ℕ → List ℕ
length_line count = codes "Content-Length: " ++ (decimal count ++ codes "\r\n")

-- an answer: its head lines, an empty line, and the body
unfoldable pub answer_text : ℕ → BodyKind → List ℕ → Bool → List ℕ
answer_text status kind body last =
    ((((status_line status ++ type_line kind) ++ length_line (length body)) ++ closing last) ++ codes "\r\n") ++ body
