-- The parts of an entry's body tell the entry.
use Rattle.std.proofs.Common.{◌≡◌, ◌≢◌, ◌<◌, ◌≤◌, ℕ, ℤ, pos, Bool, true, false, List, ◌∷◌, ◌++◌, Option, None, Some, Result, Ok, length, take, drop, refl, sym, ◌∙◌, ap, subst, arith, length-append, nat_lt, int_lt, All, cond, position, take_all}
use Rattle.std.proofs.lemmas.Bool.{ne_eqb, ltb-false, or_parts}
use Rattle.std.proofs.lemmas.List.{append-nil, get_or_append_left}
use Rattle.std.proofs.lemmas.List.Sums.{position_or_len_is}
use Rattle.std.proofs.Math.Seq.{get_or-append_seam, take-append_seam, take-length}
use Rattle.std.specs.List.{position_or_len}
use Rattle.hazard_types.proofs.Stamps.{stamp_spells}
use Rattle.hazard_types.specs.Calendar.{stamp_at, stamp_of}
use Rattle.office_types.specs.declared.refusal.Refusal.{Refusal}
use Rattle.office_types.specs.declared.request.Edition.{Edition}
use Rattle.office_types.specs.declared.request.Edition.TheVariants.{One, Two}
use Rattle.office_types.specs.declared.request.Entry.{Entry}
use Rattle.office_types.specs.declared.request.Request.{Request}
use Rattle.request_json.proofs.RequestsBack.{text_reads_back}
use Rattle.request_json.specs.Canonical.{asked_text}
use Rattle.request_json.specs.Form.{asked_of}
use Rattle.request_json.specs.declared.asked.Asked.{Asked}
use Rattle.office_core.proofs.BrokenLemmas.{read_in_range}
use Rattle.office_core.specs.Histories.{Entered}
use Rattle.office_core.specs.Rules.{is_out}
use Rattle.office_core.specs.State.{State}
use Rattle.office_core.specs.Step.{Accepts, entry_of}
use Rattle.office_core.specs.declared.made.Made.{Made}
use Rattle.office_journal.specs.Bodies.{asked_by, carried, entry_body, mark}
use Rattle.office_journal.specs.Parts.{Enters, is_line_feed, line_of, minute_in, request_in}

-- ---- the laws of the crates below

-- a canonical text is one line
abbrev pub AreLines : Type 0
AreLines = (a : Asked) → All (λ (b : ℕ). b ≢ 10) (asked_text a)

-- what is accepted makes one thing
abbrev pub AreOnce : Type 0
AreOnce = (s : State) (desk : List ℕ) (seq : ℕ) (r : Request) (reading : ℤ) (t u : ℕ) (made other : Option Made) →
    Accepts s desk seq r reading t made → Accepts s desk seq r reading u other → (t ≡ u) × (made ≡ other)

-- ---- the first line

not_feed : (b : ℕ) → b ≢ 10 → is_line_feed b ≡ false
not_feed b other = ne_eqb b 10 other

before_feed : (xs ys : List ℕ) → All (λ (b : ℕ). b ≢ 10) xs → position_or_len is_line_feed (xs ++ 10 ∷ ys) ≡ length xs
before_feed xs ys line =
    position_or_len_is is_line_feed (xs ++ 10 ∷ ys) (length xs) 0 (omega (arith, length-append xs (10 ∷ ys)))
    (λ k less. subst (λ (b : ℕ). is_line_feed b ≡ false) (sym (get_or_append_left xs (10 ∷ ys) 0 k less)) (not_feed _ (line k 0 less)))
    (λ less. subst (λ (b : ℕ). is_line_feed b ≡ true) (sym (get_or-append_seam xs 10 ys 0)) refl)

no_feed : (xs : List ℕ) → All (λ (b : ℕ). b ≢ 10) xs → position_or_len is_line_feed xs ≡ length xs
no_feed xs line = position_or_len_is is_line_feed xs (length xs) 0 (omega arith) (λ k less. not_feed _ (line k 0 less)) (λ less. absurd (omega (arith, less)))

pub line_before : (xs : List ℕ) (e : Edition) (made : Option Made) → All (λ (b : ℕ). b ≢ 10) xs → line_of (xs ++ carried e made) ≡ xs
line_before xs One made line = ap line_of (append-nil xs) ∙ ap (λ (n : ℕ). take n xs) (no_feed xs line) ∙ take-length xs
line_before xs Two None line = ap line_of (append-nil xs) ∙ ap (λ (n : ℕ). take n xs) (no_feed xs line) ∙ take-length xs
line_before xs Two (Some made) line =
    ap (λ (n : ℕ). take n (xs ++ 10 ∷ made.sent.text)) (before_feed xs made.sent.text line) ∙ take-append_seam xs (10 ∷ made.sent.text)

some_at : (b : Bool) (n at : ℕ) → cond b (Some n) None ≡ Some at → n ≡ at
some_at true n at e = cc
some_at false n at e = cc

none_at : (b : Bool) (n : ℕ) → cond b (Some n) None ≡ None → b ≡ false
none_at true n e = cc
none_at false n e = refl

-- the line is found by the place of the first line feed
pub line_found : (bytes : List ℕ) (at : ℕ) → position is_line_feed bytes ≡ Some at → take at bytes ≡ line_of bytes
line_found bytes at e = ap (λ (n : ℕ). take n bytes) (sym (some_at (nat_lt (position_or_len is_line_feed bytes) (length bytes)) (position_or_len is_line_feed bytes) at e))

pub line_whole : (bytes : List ℕ) → position is_line_feed bytes ≡ None → bytes ≡ line_of bytes
line_whole bytes e =
    let past : length bytes ≤ position_or_len is_line_feed bytes = ltb-false (position_or_len is_line_feed bytes) (length bytes) (none_at (nat_lt (position_or_len is_line_feed bytes) (length bytes)) (position_or_len is_line_feed bytes) e) in
    sym (take_all (position_or_len is_line_feed bytes) bytes past)

-- ---- the parts

twelve : (m : ℕ) (rest : List ℕ) → take 12 (stamp_of m ++ rest) ≡ stamp_of m
unfolding stamp_of
twelve m rest = refl

behind : (m : ℕ) (rest : List ℕ) → drop 13 (stamp_of m ++ (32 ∷ rest)) ≡ rest
unfolding stamp_of
behind m rest = refl

stamp_long : (m : ℕ) → length (stamp_of m) ≡ 12
unfolding stamp_of
stamp_long m = refl

pub body_long : (x : Entered) → 13 ≤ length (entry_body x)
unfolding entry_body
body_long x = omega (arith, stamp_long x.entry.minute, length-append (stamp_of x.entry.minute) (32 ∷ (asked_text (asked_by x.entry) ++ carried x.entry.edition x.made)))

-- no entry's body is the mark
pub not_mark : (x : Entered) → entry_body x ≡ mark → ⊥
not_mark x e = let long : length (entry_body x) ≡ 9 = ap length e in omega (arith, body_long x, long)

not_short : (n : ℕ) (o : Option ℕ) → 13 ≤ n → cond (nat_lt n 13) None o ≡ o
not_short n o long = grind (arith, long)

pub minute_of_body : (x : Entered) → x.entry.minute < 52596000 → minute_in (entry_body x) ≡ Some x.entry.minute
unfolding entry_body
minute_of_body x small =
    not_short _ _ (body_long x) ∙ ap stamp_at (twelve x.entry.minute (32 ∷ (asked_text (asked_by x.entry) ++ carried x.entry.edition x.made))) ∙ stamp_spells x.entry.minute small

pub request_of_body : AreLines → (x : Entered) → request_in (entry_body x) ≡ asked_text (asked_by x.entry)
unfolding entry_body
request_of_body lines x = ap line_of (behind x.entry.minute (asked_text (asked_by x.entry) ++ carried x.entry.edition x.made)) ∙ line_before (asked_text (asked_by x.entry)) x.entry.edition x.made (lines (asked_by x.entry))

-- ---- accepted requests

out_of_range : (t : ℕ) → is_out (pos t) ≡ false → t < 52596000
out_of_range t h = let few : t ≤ 52000000 = ltb-false 52000000 t (or_parts (int_lt (pos t) (pos 0)) (int_lt (pos 52000000) (pos t)) h).1 in omega (arith, few)

pub minute_small : (s : State) (x : Entered) → Enters s x → x.entry.minute < 52596000
minute_small s x is = out_of_range x.entry.minute (read_in_range s x.entry.desk x.entry.seq x.entry.request (pos x.entry.minute) is.accepted.new is.accepted.request)

pub some_is : {X : Type 0} (a b : X) → Some a ≡ Some b → a ≡ b
some_is a b e = cc

pub ok_is : {X Y : Type 0} (a b : X) → ◌≡◌ {A = Result X Y} (Ok a) (Ok b) → a ≡ b
ok_is a b e = cc

pub entered_is : (x y : Entered) → x.entry ≡ y.entry → x.made ≡ y.made → x ≡ y
entered_is x y entry made =
    ap (λ (e : Entry). record { entry = e; made = x.made }) entry ∙ ap (λ (m : Option Made). record { entry = y.entry; made = m }) made

-- at one state a body is that of one entry
pub entered_once : AreLines → AreOnce → (s : State) (x y : Entered) → Enters s x → Enters s y → entry_body x ≡ entry_body y → x ≡ y
entered_once lines once s x y is its e =
    let minute : x.entry.minute ≡ y.entry.minute = some_is _ _ (sym (minute_of_body x (minute_small s x is)) ∙ ap minute_in e ∙ minute_of_body y (minute_small s y its)) in
    let text : asked_text (asked_by x.entry) ≡ asked_text (asked_by y.entry) = sym (request_of_body lines x) ∙ ap request_in e ∙ request_of_body lines y in
    let asked : asked_by x.entry ≡ asked_by y.entry = ok_is {Y = Refusal} _ _ (sym (text_reads_back (asked_by x.entry) is.form) ∙ ap asked_of text ∙ text_reads_back (asked_by y.entry) its.form) in
    let accepted : Accepts s y.entry.desk y.entry.seq y.entry.request (pos y.entry.minute) y.entry.minute x.made =
    subst (λ (m : ℕ). Accepts s y.entry.desk y.entry.seq y.entry.request (pos m) m x.made) minute
    (subst (λ (a : Asked). Accepts s a.desk a.seq a.request (pos x.entry.minute) x.entry.minute x.made) asked is.accepted) in
    let made : x.made ≡ y.made = (once s y.entry.desk y.entry.seq y.entry.request (pos y.entry.minute) y.entry.minute y.entry.minute x.made y.made accepted its.accepted).1 in
    let entry : x.entry ≡ y.entry =
    is.entry
    ∙ ap (λ (a : Asked). entry_of s a.desk a.seq a.request x.entry.minute x.made) asked
    ∙ ap (λ (m : ℕ). entry_of s y.entry.desk y.entry.seq y.entry.request m x.made) minute
    ∙ ap (λ (m : Option Made). entry_of s y.entry.desk y.entry.seq y.entry.request y.entry.minute m) made
    ∙ sym its.entry in
    entered_is x y entry made
