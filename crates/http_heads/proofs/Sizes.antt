-- A field takes at least three bytes, so that a head in 8,193 bytes has fewer than 2,731.
use Rattle.std.proofs.Common.{◌≡◌, ℕ, suc, ◌+◌, ◌*◌, ◌≤◌, ◌<◌, List, [], ◌∷◌, ◌++◌, length, arith, length-append, ap, sym, ◌∙◌}
use Rattle.std.specs.Prelude.{All}
use Rattle.std.specs.List.{flat_map}
use Rattle.httparse.specs.Ascii.{space, colon}
use Rattle.httparse.specs.Grammar.{Field, IsField, LineEnd, crlf, lf, print_end, print_field, print_section, print_request, print_response, print_blank, print_version, print_reason, RequestHead, ResponseHead, HasNoResponse}
use Rattle.httparse.specs.Spans.{RequestExceeds, ResponseExceeds}

end_size : (e : LineEnd) → 1 ≤ length (print_end e)
end_size crlf = omega arith
end_size lf = omega arith

field_size : (f : Field) → IsField f → 3 ≤ length (print_field f)
field_size f ok =
    let name = ok.name.0 in
    let last = end_size f.end in
    let a : length (print_field f) ≡ length (f.name ++ colon ∷ f.raw) + length (print_end f.end) = length-append (f.name ++ colon ∷ f.raw) (print_end f.end) in
    let b : length (f.name ++ colon ∷ f.raw) ≡ length f.name + suc (length f.raw) = length-append f.name (colon ∷ f.raw) in
    omega arith

fields_size : (fields : List Field) → All IsField fields → 3 * length fields ≤ length (flat_map print_field fields)
fields_size [] ok = omega arith
fields_size (f ∷ fs) ok =
    let one = field_size f (ok 0 f (omega arith)) in
    let rest = fields_size fs (λ k d l. ok (suc k) d (omega arith)) in
    let a : length (flat_map print_field (f ∷ fs)) ≡ length (print_field f) + length (flat_map print_field fs) = length-append (print_field f) (flat_map print_field fs) in
    omega arith

-- a start line, and then the fields
section_size : (start : List ℕ) (fields : List Field) (last : LineEnd) → All IsField fields → 3 * length fields + 1 ≤ length (start ++ print_section fields last)
section_size start fields last ok =
    let a : length (start ++ print_section fields last) ≡ length start + length (print_section fields last) = length-append start (print_section fields last) in
    let b : length (print_section fields last) ≡ length (flat_map print_field fields) + length (print_end last) = length-append (flat_map print_field fields) (print_end last) in
    let many = fields_size fields ok in
    let one = end_size last in
    omega arith

pub request_size : (h : RequestHead) → All IsField h.fields → 3 * length h.fields + 1 ≤ length (print_request h)
unfolding print_request
request_size h ok =
    section_size (print_blank h.blank ++ h.method ++ space ∷ h.target ++ space ∷ print_version h.minor ++ print_end h.line_end) h.fields h.last ok

pub response_size : (h : ResponseHead) → All IsField h.fields → 3 * length h.fields + 1 ≤ length (print_response h)
unfolding print_response
response_size h ok =
    section_size (print_blank h.blank ++ print_version h.minor ++ space ∷ h.digits ++ print_reason h.reason ++ print_end h.line_end) h.fields h.last ok

-- a head that an empty line ends behind a front of so few bytes has few fields
few_fields : (bytes front rest head : List ℕ) (fields : ℕ) → length bytes ≤ 8192 → bytes ≡ front ++ rest
    → front ++ print_end lf ≡ head ++ [] → 3 * fields + 1 ≤ length head → 2731 < fields → ⊥
few_fields bytes front rest head fields small parts ends size many =
    let a : length bytes ≡ length front + length rest = ap length parts ∙ length-append front rest in
    let b : length front + 1 ≡ length head + 0 = sym (length-append front (print_end lf)) ∙ (ap length ends ∙ length-append head []) in
    omega arith

pub no_room_for_request : (bytes : List ℕ) → length bytes ≤ 8192 → RequestExceeds 2731 bytes → ⊥
no_room_for_request bytes small over =
    few_fields bytes over.0 over.1 (print_request over.3) (length over.3.fields) small over.2 over.4.1 (request_size over.3 over.4.0.fields) over.5

pub no_room_for_response : (bytes : List ℕ) → length bytes ≤ 8192 → ResponseExceeds 2731 bytes → ⊥
no_room_for_response bytes small over =
    few_fields bytes over.0 over.1 (print_response over.3) (length over.3.fields) small over.2 over.4.1 (response_size over.3 over.4.0.fields) over.5

-- no bytes are no head of an answer
pub none_in_nothing : HasNoResponse []
none_in_nothing h rest reads =
    let size = response_size h reads.0.fields in
    let a : 0 ≡ length (print_response h) + length rest = ap length reads.1 ∙ length-append (print_response h) rest in
    omega arith
