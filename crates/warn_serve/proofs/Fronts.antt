-- Pieces that are written on a link one after another: a front of them is a front of the whole.
use Rattle.std.proofs.Common.{◌≡◌, ◌∙◌, ◌+◌, ◌≤◌, ℕ, Bool, true, false, List, ◌++◌, length, take, refl, ap, sym, subst, arith, append_assoc, length-append, codes, decimal, Option, OnOk, Result, Ok, Err}
use Rattle.std.proofs.lemmas.List.{take-append-le}
use Rattle.std.proofs.Math.Seq.{take-append-add}
use Rattle.std.specs.Fmt.{digits}
use Rattle.desk_traits.specs.Faults.{HasCause}
use Rattle.byte_streams.specs.Flows.{Adds}
use Rattle.byte_streams.proofs.Pieces.{adds_both}
use Rattle.desk_links.specs.Links.{LinkState, WritesLink}
use Rattle.warn_http.specs.Answers.{answer_text, closing, phrase_of, status_line, type_line}
use Rattle.warn_http.specs.Outcomes.{call_answer}
use Rattle.warn_http.specs.declared.answers.BodyKind.TheVariants.{Json}
use Rattle.warn_http.specs.declared.outcomes.Outcome.TheVariants.{Replied}
use Rattle.warn_serve.specs.Pieces.{behind_length, reply_head}

-- so many bytes of a text were added, from its start on
abbrev pub AddsPart : Option (List ℕ) → Option (List ℕ) → List ℕ → Type 0
AddsPart old new bytes = (n : ℕ) × (n ≤ length bytes) × Adds old new (take n bytes)

-- a front of the first piece
pub part_first : (old new : Option (List ℕ)) (first second : List ℕ) → AddsPart old new first → AddsPart old new (first ++ second)
part_first old new first second (n, within, adds) =
    (n, (let l = length-append first second in omega (arith, within)), subst (λ (t : List ℕ). Adds old new t) (sym (take-append-le n first second within)) adds)

-- the first piece, and a front of the second one
pub part_second : (old mid new : Option (List ℕ)) (first second : List ℕ) → Adds old mid first → AddsPart mid new second → AddsPart old new (first ++ second)
part_second old mid new first second whole (n, within, adds) =
    (length first + n, (let l = length-append first second in omega (arith, within)), adds_both old mid new first (take n second) (take (length first + n) (first ++ second)) whole adds (sym (take-append-add first second n)))

-- both pieces
pub whole_both : {E : Type 0} (r : Result (Unit {0}) E) (old mid new : Option (List ℕ)) (first second : List ℕ) → Adds old mid first → OnOk r (Adds mid new second) → OnOk r (Adds old new (first ++ second))
whole_both (Ok x) old mid new first second a b = adds_both old mid new first second (first ++ second) a b refl
whole_both (Err e) old mid new first second a b = tt

-- two pieces, of which the first was written
pub then_second : {E : Type 0} (old mid new : LinkState) (first second : List ℕ) (r : Result (Unit {0}) E) (u : Unit {0}) → WritesLink {E = E} old mid (Ok u) first → WritesLink mid new r second → WritesLink old new r (first ++ second)
then_second old mid new first second r u a b = record {
  ok = whole_both r old.output.taken mid.output.taken new.output.taken first second a.ok b.ok;
  part = part_second old.output.taken mid.output.taken new.output.taken first second a.ok b.part;
  cause = subst (λ (n : ℕ). HasCause n new.output.faults r) a.steady b.cause;
  steady = subst (λ (n : ℕ). OnOk r (new.output.faults ≡ n)) a.steady b.steady;
  came = b.came ∙ a.came;
  input = b.input ∙ a.input;
}

-- two pieces, of which the first was not written whole
pub first_failed : {E : Type 0} (old new : LinkState) (first second : List ℕ) (r : Result (Unit {0}) E)
    → AddsPart old.output.taken new.output.taken first → new.came ≡ old.came → new.input ≡ old.input
    → OnOk r (Adds old.output.taken new.output.taken (first ++ second)) → HasCause old.output.faults new.output.faults r → OnOk r (new.output.faults ≡ old.output.faults)
    → WritesLink old new r (first ++ second)
first_failed old new first second r part came input ok cause steady = record {
  ok = ok;
  part = part_first old.output.taken new.output.taken first second part;
  cause = cause;
  steady = steady;
  came = came;
  input = input;
}

-- ---- the answer that gives a reply

-- what stands before the number of its bytes
abbrev pub front : List ℕ
front = codes "HTTP/1.1 200 OK\r\nContent-Type: application/json\r\nContent-Length: "

-- the lines of its head, whatever the digits are
lines_of : (number : List ℕ) (last : Bool) → (((status_line 200 ++ type_line Json) ++ (codes "Content-Length: " ++ (number ++ codes "\r\n"))) ++ closing last) ++ codes "\r\n" ≡ front ++ number ++ behind_length last
unfolding phrase_of digits
lines_of number true = ap (λ (l : List ℕ). front ++ l) (ap (λ (l : List ℕ). l ++ codes "\r\n") (append_assoc number (codes "\r\n") (closing true)) ∙ append_assoc number (codes "\r\n" ++ closing true) (codes "\r\n"))
lines_of number false = ap (λ (l : List ℕ). front ++ l) (ap (λ (l : List ℕ). l ++ codes "\r\n") (append_assoc number (codes "\r\n") (closing false)) ∙ append_assoc number (codes "\r\n" ++ closing false) (codes "\r\n"))

-- the head, and then the reply
pub reply_parts : (reply : List ℕ) (last : Bool) → reply_head (length reply) last ++ reply ≡ call_answer Replied reply last
unfolding answer_text
reply_parts reply last = ap (λ (l : List ℕ). l ++ reply) (sym (lines_of (decimal (length reply)) last))
