-- What becomes of a call, and the answer to it.
use Rattle.std.specs.Prelude.{ℕ, Bool, List, codes}
use Rattle.office_types.specs.declared.request.Query.{Query}
use Rattle.office_types.specs.declared.request.Query.TheVariants.{Board, Product, After, Draft, Preview}
use Rattle.warn_http.specs.Answers.{status_of, answer_text}
use Rattle.warn_http.specs.declared.answers.BodyKind.{BodyKind}
use Rattle.warn_http.specs.declared.answers.BodyKind.TheVariants.{Json, Plain}
use Rattle.warn_http.specs.declared.outcomes.Outcome.{Outcome}
use Rattle.warn_http.specs.declared.outcomes.Outcome.TheVariants.{Replied, Shown, Refused, DiskFault, OutOfMemory}

-- the body that shows what a query looks at: products, previews and the board are plain text, drafts JSON
abbrev pub kind_of : Query → BodyKind
kind_of Board = Plain
kind_of (Product n) = Plain
kind_of (After n) = Plain
kind_of (Draft n) = Json
kind_of (Preview n) = Plain

-- the status of the answer: 200 where a request is accepted or repeated, or something is shown
abbrev pub outcome_status : Outcome → ℕ
outcome_status Replied = 200
outcome_status (Shown query) = 200
outcome_status (Refused refusal) = status_of refusal
outcome_status DiskFault = 500
outcome_status OutOfMemory = 503

-- all is JSON but what queries show
abbrev pub outcome_kind : Outcome → BodyKind
outcome_kind Replied = Json
outcome_kind (Shown query) = kind_of query
outcome_kind (Refused refusal) = Json
outcome_kind DiskFault = Json
outcome_kind OutOfMemory = Json

-- the answer to a call of which this becomes, with this body; the link closes after it, or not
abbrev pub call_answer : Outcome → List ℕ → Bool → List ℕ
call_answer outcome body last = answer_text (outcome_status outcome) (outcome_kind outcome) body last

-- the bodies where the disk fails, and where memory lacks
abbrev pub disk_fault_json : List ℕ
disk_fault_json = codes "{\"no\":\"D1\",\"rule\":\"DiskFault\"}"

abbrev pub no_memory_json : List ℕ
no_memory_json = codes "{\"no\":\"M1\",\"rule\":\"OutOfMemory\"}"
