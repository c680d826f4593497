-- The answers to calls, byte for byte. The link closes after one, or not.
use Rattle.std.specs.Prelude.{◌≡◌, ℕ, Bool, List, Result, Ok, Err, IfOk, ⊤}
use Rattle.hazard_types.specs.declared.or.Or.{Or}
use Rattle.hazard_types.specs.declared.or.Or.TheVariants as or
use Rattle.office_types.specs.declared.refusal.Refusal.{Refusal}
use Rattle.office_types.specs.declared.request.Query.{Query}
use Rattle.request_json.specs.Replies.{refusal_text}
use Rattle.office_journal.specs.declared.answers.Answer.{Answer}
use Rattle.office_journal.specs.declared.answers.Answer.TheVariants.{Accepted, Repeated, Refused, DiskFault, OutOfMemory}
use Rattle.warn_http.specs.Outcomes.{call_answer, disk_fault_json, no_memory_json}
use Rattle.warn_http.specs.declared.outcomes.Outcome.TheVariants as outcome
use Rattle.warn_serve.specs.declared.answers.AnswerBytes.{AnswerBytes}
use Rattle.warn_serve.specs.declared.answers.AnswerBytes.TheVariants.{Written, Fixed, InPieces}

-- the answer to a call that is refused
abbrev pub refused_answer : Refusal → Bool → List ℕ
refused_answer broken last = call_answer (outcome.Refused broken) (refusal_text broken) last

-- the answer to a call for which memory lacked
abbrev pub no_memory_answer : Bool → List ℕ
no_memory_answer last = call_answer outcome.OutOfMemory no_memory_json last

-- the answer to a request that was submitted
abbrev pub submit_answer : Answer → Bool → List ℕ
submit_answer (Accepted text) last = call_answer outcome.Replied text last
submit_answer (Repeated text) last = call_answer outcome.Replied text last
submit_answer (Refused broken) last = refused_answer broken last
submit_answer DiskFault last = call_answer outcome.DiskFault disk_fault_json last
submit_answer OutOfMemory last = no_memory_answer last

-- memory may lack for the answer: the request is refused
abbrev pub MayBeLost : Answer → Type 0
MayBeLost (Accepted text) = ⊥
MayBeLost (Repeated text) = ⊥
MayBeLost (Refused broken) = ⊤
MayBeLost DiskFault = ⊥
MayBeLost OutOfMemory = ⊥

-- the answer to a look
abbrev pub look_answer : Query → Result (List ℕ) (Or Refusal) → Bool → List ℕ
look_answer query (Ok text) last = call_answer (outcome.Shown query) text last
look_answer query (Err (or.No broken)) last = refused_answer broken last
look_answer query (Err or.OutOfMemory) last = no_memory_answer last

-- the bytes of an answer: written, or fixed, or those of a reply that is written in pieces
abbrev pub bytes_of : AnswerBytes → List ℕ
bytes_of (Written text) = text
bytes_of (Fixed text) = text.now
bytes_of (InPieces reply last) = call_answer outcome.Replied reply last

-- these are the bytes, unless memory lacked for them
abbrev pub Yields : {E : Type 0} → Result AnswerBytes E → List ℕ → Type 0
Yields result answer = IfOk result (λ bytes. bytes_of bytes ≡ answer)
