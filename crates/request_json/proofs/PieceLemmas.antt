-- Texts laid piece by piece are the compact texts of their members.
use Rattle.std.proofs.Common.{◌≡◌, ◌==◌, ◌||◌, ◌++◌, ◌∙◌, ℕ, nat_lt, true, false, List, [], ◌∷◌, None, ap, refl, sym, subst, arith, codes, append_assoc}
use Rattle.std.proofs.lemmas.Bool.{and_parts}
use Rattle.std.proofs.lemmas.Bool.Decides.{nat_tests}
use Rattle.std.proofs.lemmas.Str.{utf8_lossy-IsUtf8}
use Rattle.std.specs.List.{list_all}
use Rattle.json.specs.Print.{escape, escape_byte, quoted}
use Rattle.json.proofs.Printed.Utf8.{are_ascii, IsUtf8-are_ascii}
use Rattle.hazard_types.specs.Hazards.{hazard_code}
use Rattle.hazard_types.specs.declared.hazard.Hazard.{Hazard}
use Rattle.hazard_types.specs.declared.period.Begin.{Begin}
use Rattle.hazard_types.specs.declared.period.Begin.TheVariants as begin
use Rattle.hazard_types.specs.declared.period.End.{End}
use Rattle.hazard_types.specs.declared.period.End.TheVariants as end
use Rattle.office_types.specs.declared.request.PutPart.{PutPart}
use Rattle.office_types.specs.declared.request.Reply.TheVariants as reply
use Rattle.office_types.specs.declared.request.Request.TheVariants as request
use Rattle.office_types.specs.declared.request.SentReply.{SentReply}
use Rattle.office_types.specs.declared.request.Target.TheVariants as target
use Rattle.office_types.specs.declared.request.Texts.{Texts}
use Rattle.office_types.specs.declared.request.Word.{Word}
use Rattle.json_parts.specs.Written.{as_text}
use Rattle.request_json.specs.Canonical.{texts_data, set_put, set_request, asked_members, asked_text}
use Rattle.request_json.specs.Replies.{put_reply, reply_text, word_code}
use Rattle.request_json.specs.Pieces.{is_plain, string_text, whole_text, zones_text, events_text, texts_text, begin_bytes, end_bytes, area_details, impacts_what, begin_desk, do_end, hazard_seq, texts_zones, draft_ok, place_end, events_ok, product_time}

-- ---- strings

plain_ascii : (x : ℕ) → is_plain x ≡ true → nat_lt x 128 ≡ true
plain_ascii x h = grind (arith, nat_tests)

ascii : (xs : List ℕ) → list_all is_plain xs ≡ true → are_ascii xs ≡ true
ascii [] h = refl
ascii (x ∷ xs) h = let p = and_parts (is_plain x) (list_all is_plain xs) h in rw (plain_ascii x p.0, ascii xs p.1) refl

not_quote : (x : ℕ) → is_plain x ≡ true → ((x == 34) || (x == 92)) ≡ false
not_quote x h = grind (arith, nat_tests)

not_eight : (x : ℕ) → is_plain x ≡ true → (x == 8) ≡ false
not_eight x h = grind (arith, nat_tests)

not_twelve : (x : ℕ) → is_plain x ≡ true → (x == 12) ≡ false
not_twelve x h = grind (arith, nat_tests)

not_ten : (x : ℕ) → is_plain x ≡ true → (x == 10) ≡ false
not_ten x h = grind (arith, nat_tests)

not_thirteen : (x : ℕ) → is_plain x ≡ true → (x == 13) ≡ false
not_thirteen x h = grind (arith, nat_tests)

not_nine : (x : ℕ) → is_plain x ≡ true → (x == 9) ≡ false
not_nine x h = grind (arith, nat_tests)

not_low : (x : ℕ) → is_plain x ≡ true → nat_lt x 32 ≡ false
not_low x h = grind (arith, nat_tests)

byte_itself : (x : ℕ) → is_plain x ≡ true → escape_byte x ≡ x ∷ []
unfolding escape_byte
byte_itself x h = rw (not_quote x h, not_eight x h, not_twelve x h, not_ten x h, not_thirteen x h, not_nine x h, not_low x h) refl

escape_itself : (xs : List ℕ) → list_all is_plain xs ≡ true → escape xs ≡ xs
escape_itself [] h = refl
escape_itself (x ∷ xs) h = let p = and_parts (is_plain x) (list_all is_plain xs) h in rw (byte_itself x p.0, escape_itself xs p.1) refl

-- a string of bytes that stand for themselves
pub plain_string : (xs : List ℕ) → list_all is_plain xs ≡ true → string_text xs ≡ 34 ∷ (xs ++ 34 ∷ [])
unfolding string_text as_text
plain_string xs h =
    ap quoted (utf8_lossy-IsUtf8 xs (IsUtf8-are_ascii xs (ascii xs h))) ∙ ap (λ (l : List ℕ). 34 ∷ (l ++ 34 ∷ [])) (escape_itself xs h)

-- ---- parts

-- pieces that were added one after another
pub laid_four : (old a b c d : List ℕ) → old ++ a ++ b ++ c ++ d ≡ old ++ (a ++ (b ++ (c ++ d)))
laid_four old a b c d = append_assoc (old ++ a ++ b) c d ∙ append_assoc (old ++ a) b (c ++ d) ∙ append_assoc old a (b ++ (c ++ d))

pub laid_five : (old a b c d e : List ℕ) → old ++ a ++ b ++ c ++ d ++ e ≡ old ++ (a ++ (b ++ (c ++ (d ++ e))))
laid_five old a b c d e = append_assoc (old ++ a ++ b ++ c) d e ∙ laid_four old a b c (d ++ e)

three : (a b c x : List ℕ) → (a ++ (b ++ c)) ++ x ≡ a ++ (b ++ (c ++ x))
three a b c x = append_assoc a (b ++ c) x ∙ ap (λ (l : List ℕ). a ++ l) (append_assoc b c x)

four : (a b c d x : List ℕ) → (a ++ (b ++ (c ++ d))) ++ x ≡ a ++ (b ++ (c ++ (d ++ x)))
four a b c d x = three a b (c ++ d) x ∙ ap (λ (l : List ℕ). a ++ (b ++ l)) (append_assoc c d x)

pub texts_in_two : (t : Texts) → texts_text t ≡ area_details t ++ impacts_what t
unfolding texts_text texts_data area_details impacts_what string_text escape_byte
texts_in_two t = sym (four (codes "{\"area\":") (string_text t.area) (codes ",\"details\":") (string_text t.details) (impacts_what t))

-- an issue of a new event without flood values
issue_by : (b : Begin) (e : End) (desk : List ℕ) (seq : ℕ) (p : PutPart) (h : Hazard) →
    asked_text (record { desk = desk; seq = seq; request = request.Issue (record { target = target.Fresh h; zones = p.zones; begin = b; end = e; flood = None; texts = p.texts }) })
    ≡ codes "{\"begin\":" ++ (string_text (begin_bytes b) ++ (codes ",\"desk\":" ++ (string_text desk ++ (codes ",\"do\":" ++ (string_text (codes "issue") ++ (codes ",\"end\":" ++ (string_text (end_bytes e)
    ++ (codes ",\"hazard\":" ++ (string_text (hazard_code h) ++ (codes ",\"seq\":" ++ (whole_text seq ++ texts_zones p.texts p.zones)))))))))))
unfolding asked_text asked_members set_request set_put string_text whole_text zones_text texts_text texts_zones escape_byte
issue_by begin.Now end.Ufn desk seq p h = refl
issue_by begin.Now (end.At n) desk seq p h = refl
issue_by (begin.At m) end.Ufn desk seq p h = refl
issue_by (begin.At m) (end.At n) desk seq p h = refl

in_four : (b : Begin) (e : End) (desk : List ℕ) (seq : ℕ) (h : Hazard) (rest : List ℕ) →
    codes "{\"begin\":" ++ (string_text (begin_bytes b) ++ (codes ",\"desk\":" ++ (string_text desk ++ (codes ",\"do\":" ++ (string_text (codes "issue") ++ (codes ",\"end\":" ++ (string_text (end_bytes e)
    ++ (codes ",\"hazard\":" ++ (string_text (hazard_code h) ++ (codes ",\"seq\":" ++ (whole_text seq ++ rest)))))))))))
    ≡ begin_desk b desk ++ (do_end (codes "issue") e ++ (hazard_seq h seq ++ rest))
unfolding begin_desk do_end hazard_seq
in_four b e desk seq h rest =
    let third = four (codes ",\"hazard\":") (string_text (hazard_code h)) (codes ",\"seq\":") (whole_text seq) rest in
    let second = four (codes ",\"do\":") (string_text (codes "issue")) (codes ",\"end\":") (string_text (end_bytes e)) (hazard_seq h seq ++ rest) in
    let first = four (codes "{\"begin\":") (string_text (begin_bytes b)) (codes ",\"desk\":") (string_text desk) (do_end (codes "issue") e ++ (hazard_seq h seq ++ rest)) in
    sym (first ∙ ap (λ (l : List ℕ). codes "{\"begin\":" ++ (string_text (begin_bytes b) ++ (codes ",\"desk\":" ++ (string_text desk ++ l)))) (second
    ∙ ap (λ (l : List ℕ). codes ",\"do\":" ++ (string_text (codes "issue") ++ (codes ",\"end\":" ++ (string_text (end_bytes e) ++ l)))) third))

pub issue_in_four : (desk : List ℕ) (seq : ℕ) (p : PutPart) (h : Hazard) → p.target ≡ target.Fresh h → p.flood ≡ None →
    asked_text (record { desk = desk; seq = seq; request = request.Issue p })
    ≡ [] ++ begin_desk p.begin desk ++ do_end (codes "issue") p.end ++ hazard_seq h seq ++ texts_zones p.texts p.zones
issue_in_four desk seq p h fresh bare =
    let bare_part : record { target = target.Fresh h; zones = p.zones; begin = p.begin; end = p.end; flood = None; texts = p.texts } ≡ p =
    λ i. record { target = sym fresh i; zones = p.zones; begin = p.begin; end = p.end; flood = sym bare i; texts = p.texts } in
    let issue : (q : PutPart) → record { target = target.Fresh h; zones = p.zones; begin = p.begin; end = p.end; flood = None; texts = p.texts } ≡ q → asked_text (record { desk = desk; seq = seq; request = request.Issue q })
    ≡ begin_desk p.begin desk ++ (do_end (codes "issue") p.end ++ (hazard_seq h seq ++ texts_zones p.texts p.zones)) =
    λ q same. subst (λ (q : PutPart). asked_text (record { desk = desk; seq = seq; request = request.Issue q }) ≡ begin_desk p.begin desk ++ (do_end (codes "issue") p.end ++ (hazard_seq h seq ++ texts_zones p.texts p.zones))) same
    (issue_by p.begin p.end desk seq p h ∙ in_four p.begin p.end desk seq h (texts_zones p.texts p.zones)) in
    issue p bare_part ∙ sym (append_assoc (begin_desk p.begin desk ++ do_end (codes "issue") p.end) (hazard_seq h seq) (texts_zones p.texts p.zones)
    ∙ append_assoc (begin_desk p.begin desk) (do_end (codes "issue") p.end) (hazard_seq h seq ++ texts_zones p.texts p.zones))

pub draft_in_two : (w : Word) (n : ℕ) → reply_text (reply.Draft w n) ≡ draft_ok n (word_code w) ++ codes "}"
unfolding reply_text put_reply draft_ok string_text whole_text escape_byte
draft_in_two w n = sym (four (codes "{\"draft\":") (whole_text n) (codes ",\"ok\":") (string_text (word_code w)) (codes "}"))

pub placed_in_two : (n place : ℕ) → reply_text (reply.Placed n place) ≡ draft_ok n (codes "put") ++ place_end place
unfolding reply_text put_reply draft_ok place_end string_text whole_text escape_byte
placed_in_two n place = sym (four (codes "{\"draft\":") (whole_text n) (codes ",\"ok\":") (string_text (codes "put")) (place_end place))

pub sent_in_two : (s : SentReply) → reply_text (reply.Sent s) ≡ events_ok s.events ++ product_time s.product s.time
unfolding reply_text put_reply events_ok product_time string_text whole_text events_text escape_byte
sent_in_two s = sym (four (codes "{\"events\":") (events_text s.events) (codes ",\"ok\":") (string_text (codes "send")) (product_time s.product s.time))
