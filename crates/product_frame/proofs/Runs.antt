-- Lines that are laid one behind another: where they begin, and what each of them is.
use Rattle.std.proofs.Common.{◌≡◌, ℕ, suc, ◌+◌, ◌<◌, ◌≤◌, ◌==◌, ◌&&◌, true, false, List, [], ◌∷◌, ◌++◌, length, drop, get_or, refl, ap, sym, ◌∙◌, subst, arith, append_assoc, length-append, inl, inr, drop-drop, drop_at, add-zero, below_more, Result, Ok, Err}
use Rattle.std.specs.Prelude.{OnOk}
use Rattle.std.specs.List.{All, AllByRecursion}
use Rattle.std.proofs.lemmas.Bool.{cases_Bool, eqb-true}
use Rattle.std.proofs.lemmas.List.{get_or_default}
use Rattle.ugc_codes.proofs.Written.{all_both}
use Rattle.product_frame.specs.Text.{starts_from, line_of, before, is_left_out, is_empty, line_end_count}
use Rattle.product_frame.specs.Frames.{line_at}
use Rattle.product_frame.specs.Layout.{ended}
use Rattle.product_frame.specs.LineRules.{IsOneLine, onto, lines_in, ends_behind}

-- ---- what holds of each element

pub all_front : {X : Type 0} (P : X → Type 0) (xs ys : List X) → AllByRecursion P (xs ++ ys) → AllByRecursion P xs
all_front P [] ys h = tt
all_front P (x ∷ xs) ys h = (h.0, all_front P xs ys h.1)

pub all_weaker : {X : Type 0} (P Q : X → Type 0) → ((x : X) → P x → Q x) → (xs : List X) → AllByRecursion P xs → AllByRecursion Q xs
all_weaker P Q f [] h = tt
all_weaker P Q f (x ∷ xs) h = (f x h.0, all_weaker P Q f xs h.1)

pub all_from : {X : Type 0} (P : X → Type 0) (xs : List X) → All P xs → AllByRecursion P xs
all_from P [] h = tt
all_from P (x ∷ xs) h = (h 0 x (omega arith), all_from P xs (λ k d lt. h (suc k) d (omega arith)))

all_before : (P : ℕ → Type 0) (c : ℕ) (line : List ℕ) → P c → AllByRecursion P line → AllByRecursion P (before c line)
all_before P c line p h = elim (cases_Bool (is_empty line && is_left_out c)) [ inl e ↦ rw e tt | inr e ↦ rw e (p, h) ]

-- the bytes of a line are bytes of the text
pub all_line : (P : ℕ → Type 0) (t : List ℕ) → AllByRecursion P t → AllByRecursion P (line_of t)
all_line P [] h = tt
all_line P (c ∷ t) h = elim (cases_Bool (c == 10)) [ inl e ↦ rw e tt | inr e ↦ rw e (all_before P c (line_of t) h.0 (all_line P t h.1)) ]

-- one more of those that come in turn
pub one_more : {X : Type 0} (P : X → Type 0) (items : List X) (i : ℕ) (z : X) → i < length items → z ≡ get_or items i z → P z → ((k : ℕ) (d : X) → k < i → P (get_or items k d)) → (k : ℕ) (d : X) → k < i + 1 → P (get_or items k d)
one_more P items i z lt is fact before k d le = below_more (λ (j : ℕ). P (get_or items j d)) i (λ j below. before j d below) (subst P (is ∙ get_or_default items i z d lt) fact) k le

-- all of those that came in turn
pub all_done : {X : Type 0} (P : X → Type 0) (items xs : List X) (i : ℕ) → items ≡ xs → length items ≤ i → ((k : ℕ) (d : X) → k < i → P (get_or items k d)) → All P xs
all_done P items xs i e over before = subst (All P) e (λ k d lt. before k d (omega arith))

-- what holds in any case holds of Ok
pub on_ok : {T E : Type 0} (r : Result T E) (P : Type 0) → P → OnOk r P
on_ok (Ok x) P p = p
on_ok (Err e) P p = tt

pub on_ok_too : {T E : Type 0} (r : Result T E) (P Q : Type 0) → P → OnOk r Q → OnOk r (P × Q)
on_ok_too (Ok x) P Q p q = (p, q)
on_ok_too (Err e) P Q p q = tt

-- ---- one line

-- where lines begin, the first of them at a place
abbrev pub starting : ℕ → List ℕ → List ℕ
starting at bytes = at ∷ starts_from at bytes

pub start_moved : (i j : ℕ) (bytes : List ℕ) → i ≡ j → starting i bytes ≡ starting j bytes
start_moved i j bytes e = ap (λ (k : ℕ). starting k bytes) e

pub starts_behind : (t rest : List ℕ) (at : ℕ) → starts_from at (t ++ rest) ≡ starts_from at t ++ starts_from (at + length t) rest
starts_behind [] rest at = ap (λ (k : ℕ). starts_from k rest) (sym (add-zero at))
starts_behind (c ∷ t) rest at =
    let e : at + 1 + length t ≡ at + suc (length t) = omega arith in
    let ih : starts_from (at + 1) (t ++ rest) ≡ starts_from (at + 1) t ++ starts_from (at + suc (length t)) rest = starts_behind t rest (at + 1) ∙ ap (λ (k : ℕ). starts_from (at + 1) t ++ starts_from k rest) e in
    elim (cases_Bool (c == 10)) [
      | inl h ↦ rw h (ap (λ (xs : List ℕ). (at + 1) ∷ xs) ih)
      | inr h ↦ rw h ih
    ]

pub as_many_ends : (t : List ℕ) (at : ℕ) → length (starts_from at t) ≡ line_end_count t
as_many_ends [] at = refl
as_many_ends (c ∷ t) at = elim (cases_Bool (c == 10)) [
  | inl h ↦ rw h (let ih : length (starts_from (at + 1) t) ≡ line_end_count t = as_many_ends t (at + 1) in omega arith)
  | inr h ↦ rw h (as_many_ends t (at + 1))
]

pub next_start : (line rest : List ℕ) (at : ℕ) → IsOneLine line → starts_from at (line ++ 10 ∷ rest) ≡ starting (at + (length line + 1)) rest
next_start [] rest at h = refl
next_start (c ∷ line) rest at h = rw h.0 (next_start line rest (at + 1) h.1 ∙ start_moved _ _ rest (omega arith))

pub line_before_end : (line rest : List ℕ) → IsOneLine line → line_of (line ++ 10 ∷ rest) ≡ line_of line
line_before_end [] rest h = refl
line_before_end (c ∷ line) rest h = rw h.0 (ap (before c) (line_before_end line rest h.1))

kept_on : (c d : ℕ) (t more : List ℕ) → before c (t ++ d ∷ more) ≡ c ∷ (t ++ d ∷ more)
kept_on c d [] more = refl
kept_on c d (x ∷ t) more = refl

-- a line whose last byte is kept is kept whole
pub line_whole : (t : List ℕ) (c : ℕ) → IsOneLine t → (c == 10) ≡ false → is_left_out c ≡ false → line_of (t ++ c ∷ []) ≡ t ++ c ∷ []
line_whole [] c h e k = rw (e, k) refl
line_whole (x ∷ t) c h e k = rw h.0 (ap (before x) (line_whole t c h.1 e k) ∙ kept_on x c t [])

-- ---- lines in a text

pub behind : (p a rest : List ℕ) (at : ℕ) → drop at p ≡ a ++ rest → drop (at + length a) p ≡ rest
behind p a rest at h = sym (drop-drop (length a) at p) ∙ ap (drop (length a)) h ∙ drop_at a rest (length a) refl

-- wherever these bytes stand, these are the places of the lines in them, each of which has the property
abbrev pub Runs : (List ℕ → Type 0) → List ℕ → Type 0
Runs Q t = (p : List ℕ) (at : ℕ) (rest : List ℕ) → drop at p ≡ t ++ rest →
    (places : List ℕ) × (starting at (t ++ rest) ≡ places ++ starting (at + length t) rest) × AllByRecursion (λ s. Q (line_at p s)) places

pub run_none : (Q : List ℕ → Type 0) → Runs Q []
run_none Q p at rest h = ([], start_moved at (at + 0) rest (sym (add-zero at)), tt)

pub run_both : (Q : List ℕ → Type 0) (a b : List ℕ) → Runs Q a → Runs Q b → Runs Q (a ++ b)
run_both Q a b f g p at rest h =
    let ha : drop at p ≡ a ++ (b ++ rest) = h ∙ append_assoc a b rest in
    let hb : drop (at + length a) p ≡ b ++ rest = behind p a (b ++ rest) at ha in
    let x = f p at (b ++ rest) ha in
    let y = g p (at + length a) rest hb in
    let e : at + length a + length b ≡ at + length (a ++ b) = omega (arith, length-append a b) in (
      x.0 ++ y.0,
      ap (starting at) (append_assoc a b rest) ∙ x.1 ∙ ap (λ (xs : List ℕ). x.0 ++ xs) y.1 ∙ sym (append_assoc x.0 y.0 (starting (at + length a + length b) rest)) ∙ ap (λ (xs : List ℕ). (x.0 ++ y.0) ++ xs) (start_moved _ _ rest e),
      all_both (λ s. Q (line_at p s)) x.0 y.0 x.2 y.2,
    )

pub ended_behind : (line rest : List ℕ) → ended line ++ rest ≡ line ++ 10 ∷ rest
ended_behind line rest = append_assoc line (10 ∷ []) rest

pub next_line : (p line rest : List ℕ) (at : ℕ) → IsOneLine line → drop at p ≡ ended line ++ rest → (starts_from at (ended line ++ rest) ≡ starting (at + length (ended line)) rest) × (line_at p at ≡ line_of line)
next_line p line rest at one h =
    let e : at + (length line + 1) ≡ at + length (ended line) = omega (arith, length-append line (10 ∷ [])) in
    (ap (starts_from at) (ended_behind line rest) ∙ next_start line rest at one ∙ start_moved _ _ rest e, ap line_of (h ∙ ended_behind line rest) ∙ line_before_end line rest one)

pub run_line : (Q : List ℕ → Type 0) (line : List ℕ) → IsOneLine line → Q (line_of line) → Runs Q (ended line)
run_line Q line one q p at rest h =
    let n = next_line p line rest at one h in
    (at ∷ [], ap (λ (xs : List ℕ). at ∷ xs) n.0, (subst Q (sym n.1) q, tt))

-- ---- a text is its lines

abbrev pub joined : List (List ℕ) → List ℕ
joined [] = []
joined (line ∷ lines) = ended line ++ joined lines

onto_is : (c : ℕ) (lines : List (List ℕ)) → (l : List ℕ) × (ls : List (List ℕ)) × (onto c lines ≡ l ∷ ls)
onto_is c [] = (c ∷ [], [], refl)
onto_is c (l ∷ ls) = (c ∷ l, ls, refl)

some_line : (c : ℕ) (t : List ℕ) → (l : List ℕ) × (ls : List (List ℕ)) × (lines_in (c ∷ t) ≡ l ∷ ls)
some_line c t = elim (cases_Bool (c == 10)) [
  | inl e ↦ ([], lines_in t, rw e refl)
  | inr e ↦ let o = onto_is c (lines_in t) in (o.0, o.1, rw e o.2)
]

joined_onto : (c : ℕ) (t : List ℕ) → (c == 10) ≡ false → ends_behind c t ≡ true → joined (lines_in t) ≡ t → joined (onto c (lines_in t)) ≡ c ∷ t
joined_onto c [] e h ih = absurd (cc)
joined_onto c (x ∷ t) e h ih =
    let s = some_line x t in
    ap (λ (ls : List (List ℕ)). joined (onto c ls)) s.2 ∙ ap (λ (ls : List (List ℕ)). c ∷ joined ls) (sym s.2) ∙ ap (λ (b : List ℕ). c ∷ b) ih

pub joined_lines : (d : ℕ) (t : List ℕ) → ends_behind d t ≡ true → joined (lines_in t) ≡ t
joined_lines d [] h = refl
joined_lines d (c ∷ t) h = elim (cases_Bool (c == 10)) [
  | inl e ↦ rw e (ap (λ (b : List ℕ). 10 ∷ b) (joined_lines c t h) ∙ ap (λ (k : ℕ). k ∷ t) (sym (eqb-true c 10 e)))
  | inr e ↦ rw e (joined_onto c t e h (joined_lines c t h))
]

onto_each : (P : ℕ → Type 0) (c : ℕ) (lines : List (List ℕ)) → P c → AllByRecursion (AllByRecursion P) lines → AllByRecursion (AllByRecursion P) (onto c lines)
onto_each P c [] p h = ((p, tt), tt)
onto_each P c (l ∷ ls) p h = ((p, h.0), h.1)

-- the bytes of the lines are bytes of the text
pub lines_have : (P : ℕ → Type 0) (t : List ℕ) → AllByRecursion P t → AllByRecursion (AllByRecursion P) (lines_in t)
lines_have P [] h = tt
lines_have P (c ∷ t) h = elim (cases_Bool (c == 10)) [
  | inl e ↦ rw e (tt, lines_have P t h.1)
  | inr e ↦ rw e (onto_each P c (lines_in t) h.0 (lines_have P t h.1))
]

pub one_lines : (t : List ℕ) → AllByRecursion IsOneLine (lines_in t)
one_lines [] = tt
one_lines (c ∷ t) = elim (cases_Bool (c == 10)) [
  | inl e ↦ rw e (tt, one_lines t)
  | inr e ↦ rw e (onto_each (λ c. (c == 10) ≡ false) c (lines_in t) e (one_lines t))
]

run_joined : (Q : List ℕ → Type 0) (lines : List (List ℕ)) → AllByRecursion IsOneLine lines → AllByRecursion (λ l. Q (line_of l)) lines → Runs Q (joined lines)
run_joined Q [] one q = run_none Q
run_joined Q (l ∷ ls) one q = run_both Q (ended l) (joined ls) (run_line Q l one.0 q.0) (run_joined Q ls one.1 q.1)

pub run_text : (Q : List ℕ → Type 0) (d : ℕ) (t : List ℕ) → ends_behind d t ≡ true → AllByRecursion (λ l. Q (line_of l)) (lines_in t) → Runs Q t
run_text Q d t e q = subst (Runs Q) (joined_lines d t e) (run_joined Q (lines_in t) (one_lines t) q)

ended_ends : (d : ℕ) (t : List ℕ) → ends_behind d (t ++ 10 ∷ []) ≡ true
ended_ends d [] = refl
ended_ends d (c ∷ t) = ended_ends c t

pub run_ended : (Q : List ℕ → Type 0) (t : List ℕ) → AllByRecursion (λ l. Q (line_of l)) (lines_in (ended t)) → Runs Q (ended t)
run_ended Q t q = run_text Q 0 (ended t) (ended_ends 0 t) q
