-- The parts of an entry's body, as they are written one after another.
use Rattle.std.proofs.Common.{◌≡◌, ℕ, List, [], ◌∷◌, ◌++◌, Option, None, Some, option_map, refl, sym, ◌∙◌, ap, subst, append_assoc}
use Rattle.std.proofs.lemmas.List.{append-nil}
use Rattle.hazard_types.specs.Calendar.{stamp_of}
use Rattle.office_types.specs.declared.request.Edition.{Edition}
use Rattle.office_types.specs.declared.request.Edition.TheVariants.{One, Two}
use Rattle.office_types.specs.declared.request.Entry.{Entry}
use Rattle.office_types.specs.declared.request.Request.{Request}
use Rattle.request_json.specs.Canonical.{asked_text}
use Rattle.office_core.specs.declared.made.Made.{Made}
use Rattle.office_journal.specs.Bodies.{asked_by, carried, entry_body}

pub asked_so : (e : Entry) (desk : List ℕ) (seq : ℕ) (r : Request) → e.desk ≡ desk → e.seq ≡ seq → e.request ≡ r → asked_text (record { desk = desk; seq = seq; request = r }) ≡ asked_text (asked_by e)
asked_so e desk seq r of_desk of_seq of_request =
    ap (λ (d : List ℕ). asked_text (record { desk = d; seq = seq; request = r })) (sym of_desk)
    ∙ ap (λ (n : ℕ). asked_text (record { desk = e.desk; seq = n; request = r })) (sym of_seq)
    ∙ ap (λ (q : Request). asked_text (record { desk = e.desk; seq = e.seq; request = q })) (sym of_request)

pub in_one : (edition : Edition) (made : Option Made) → edition ≡ One → carried edition made ≡ []
in_one edition made one = subst (λ (x : Edition). carried x made ≡ []) (sym one) refl

text_none : (made : Option Made) → None ≡ option_map (λ (m : Made). m.sent.text) made → carried Two made ≡ []
text_none None e = refl
text_none (Some made) e = absurd (cc)

text_some : (made : Option Made) (text : List ℕ) → Some text ≡ option_map (λ (m : Made). m.sent.text) made → carried Two made ≡ 10 ∷ text
text_some None text e = absurd (cc)
text_some (Some made) text e = let same : text ≡ made.sent.text = cc in ap (λ (l : List ℕ). 10 ∷ l) (sym same)

pub without_text : (edition : Edition) (made : Option Made) → edition ≡ Two → None ≡ option_map (λ (m : Made). m.sent.text) made → carried edition made ≡ []
without_text edition made two e = subst (λ (x : Edition). carried x made ≡ []) (sym two) (text_none made e)

pub with_this : (edition : Edition) (made : Option Made) (text : List ℕ) → edition ≡ Two → Some text ≡ option_map (λ (m : Made). m.sent.text) made → carried edition made ≡ 10 ∷ text
with_this edition made text two e = subst (λ (x : Edition). carried x made ≡ 10 ∷ text) (sym two) (text_some made text e)

-- the head of the body, and what it carries
all : (stamp asked tail : List ℕ) → ((stamp ++ 32 ∷ []) ++ asked) ++ tail ≡ stamp ++ (32 ∷ (asked ++ tail))
all stamp asked tail = append_assoc (stamp ++ 32 ∷ []) asked tail ∙ append_assoc stamp (32 ∷ []) (asked ++ tail)

whole : (e : Entry) (made : Option Made) → ((stamp_of e.minute ++ 32 ∷ []) ++ asked_text (asked_by e)) ++ carried e.edition made ≡ entry_body (record { entry = e; made = made })
unfolding entry_body
whole e made = all (stamp_of e.minute) (asked_text (asked_by e)) (carried e.edition made)

pub bare : (e : Entry) (made : Option Made) → carried e.edition made ≡ [] → (stamp_of e.minute ++ 32 ∷ []) ++ asked_text (asked_by e) ≡ entry_body (record { entry = e; made = made })
bare e made none =
    let head = (stamp_of e.minute ++ 32 ∷ []) ++ asked_text (asked_by e) in
    sym (append-nil head) ∙ ap (λ (l : List ℕ). head ++ l) (sym none) ∙ whole e made

pub with_text : (e : Entry) (made : Option Made) (text : List ℕ) → carried e.edition made ≡ 10 ∷ text
    → (((stamp_of e.minute ++ 32 ∷ []) ++ asked_text (asked_by e)) ++ 10 ∷ []) ++ text ≡ entry_body (record { entry = e; made = made })
with_text e made text one =
    let head = (stamp_of e.minute ++ 32 ∷ []) ++ asked_text (asked_by e) in
    append_assoc head (10 ∷ []) text ∙ ap (λ (l : List ℕ). head ++ l) (sym one) ∙ whole e made
