-- A head ends with a line feed: bytes with no head have none until the next line feed comes.
use Rattle.std.proofs.Common.{◌≡◌, ℕ, ◌+◌, ◌<◌, ◌≤◌, ◌⊎◌, inl, inr, ◌==◌, ◌||◌, Bool, true, false, List, [], ◌∷◌, ◌++◌, length, take, drop, refl, ap, sym, ◌∙◌, arith, append_assoc, length-append}
use Rattle.std.proofs.lemmas.Bool.{cases_lt, false≢true}
use Rattle.std.proofs.lemmas.List.{drop-append-le, take-append-le, take-append-drop}
use Rattle.std.proofs.Math.Seq.{drop-append_seam, take-append_seam}
use Rattle.httparse.specs.Grammar.{HasNoRequest, LineEnd, RequestHead, crlf, lf, print_end, print_request, print_section}
use Rattle.warn_http.specs.Heads.{has_line_feed}

-- their last byte is a line feed
abbrev EndsLine : List ℕ → Type 0
EndsLine bytes = (front : List ℕ) × (bytes ≡ front ++ 10 ∷ [])

line_end : (e : LineEnd) → EndsLine (print_end e)
line_end crlf = (13 ∷ [], refl)
line_end lf = ([], refl)

behind : (xs ys : List ℕ) → EndsLine ys → EndsLine (xs ++ ys)
behind xs ys e = (xs ++ e.0, ap (λ (b : List ℕ). xs ++ b) e.1 ∙ sym (append_assoc xs e.0 (10 ∷ [])))

section_ends : (h : RequestHead) → EndsLine (print_section h.fields h.last)
section_ends h = behind _ (print_end h.last) (line_end h.last)

head_ends : (h : RequestHead) → EndsLine (print_request h)
unfolding print_request
head_ends h = behind _ (print_section h.fields h.last) (section_ends h)

found_later : (one later : Bool) → later ≡ true → (one || later) ≡ true
found_later true later is = refl
found_later false later is = is

feed_found : (front rest : List ℕ) → has_line_feed (front ++ 10 ∷ rest) ≡ true
feed_found [] rest = refl
feed_found (b ∷ front) rest = found_later (b == 10) (has_line_feed (front ++ 10 ∷ rest)) (feed_found front rest)

-- a head that ends behind the bytes ends with a line feed behind them
feed_behind : (bytes more front rest : List ℕ) → length bytes ≤ length front → bytes ++ more ≡ (front ++ 10 ∷ []) ++ rest → has_line_feed more ≡ true
feed_behind bytes more front rest shorter is =
    let all : bytes ++ more ≡ front ++ 10 ∷ rest = is ∙ append_assoc front (10 ∷ []) rest in
    let last : more ≡ drop (length bytes) front ++ 10 ∷ rest =
    sym (drop-append_seam bytes more) ∙ ap (drop (length bytes)) all ∙ drop-append-le (length bytes) front (10 ∷ rest) shorter in
    ap has_line_feed last ∙ feed_found (drop (length bytes) front) rest

-- a head that lies in the bytes is theirs
head_within : (bytes more head rest : List ℕ) → length head ≤ length bytes → bytes ++ more ≡ head ++ rest → bytes ≡ head ++ drop (length head) bytes
head_within bytes more head rest within is =
    let same : take (length head) bytes ≡ head =
    sym (take-append-le (length head) bytes more within) ∙ ap (take (length head)) is ∙ take-append_seam head rest in
    sym (take-append-drop (length head) bytes) ∙ ap (λ (b : List ℕ). b ++ drop (length head) bytes) same

pub still_no_head : (bytes more : List ℕ) → HasNoRequest bytes → has_line_feed more ≡ false → HasNoRequest (bytes ++ more)
still_no_head bytes more none quiet h rest reads = by (cases_lt (length bytes) (length (print_request h)))
  where
    by : ((length bytes < length (print_request h)) ⊎ (length (print_request h) ≤ length bytes)) → ⊥
    by (inl longer) =
        let ends = head_ends h in
        let size : length (print_request h) ≡ length ends.0 + 1 = ap length ends.1 ∙ length-append ends.0 (10 ∷ []) in
        let shorter : length bytes ≤ length ends.0 = omega (arith, longer, size) in
        false≢true (sym quiet ∙ feed_behind bytes more ends.0 rest shorter (reads.1 ∙ ap (λ (b : List ℕ). b ++ rest) ends.1))
    by (inr within) = none h (drop (length (print_request h)) bytes) (reads.0, head_within bytes more (print_request h) rest within reads.1)

pub no_head_in_nothing : HasNoRequest []
no_head_in_nothing h rest reads =
    let ends = head_ends h in
    let size : 0 ≡ length (print_request h) + length rest = ap length reads.1 ∙ length-append (print_request h) rest in
    let more : length (print_request h) ≡ length ends.0 + 1 = ap length ends.1 ∙ length-append ends.0 (10 ∷ []) in
    omega (arith, size, more)
