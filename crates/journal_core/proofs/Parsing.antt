-- Every file of bytes is read to its end in some way.
use Rattle.std.proofs.Common.{◌≡◌, ◌⊎◌, inl, inr, ⊎_elim, ℕ, zero, suc, ◌+◌, ◌<◌, ◌≤◌, ◌^◌, Bool, true, false, leb, leb-true, List, [], ◌∷◌, ◌++◌, length, get_or, take, drop, refl, sym, ◌∙◌, ap, subst, arith, append_assoc, length-take, length-drop, take-append-drop, drop-drop, All}
use borrow.Author.Tests.{leb-false}
use Rattle.std.proofs.lemmas.Bool.{cases_eq}
use Rattle.std.proofs.lemmas.List.{drop_at, get_or_past}
use Rattle.std.proofs.lemmas.List.Elements.{All-drop, All-take, All-get_or}
use Rattle.std.proofs.lemmas.Nat.{be_bytes_4}
use Rattle.std.specs.Int.{w32, to_be_bytes, from_be_bytes}
use Rattle.std.specs.List.{AllByRecursion}
use Rattle.journal_core.specs.Image.{spelled, records, Fits, Image, Fresh}
use Rattle.journal_core.specs.Adopt.{NoGate, NotWhole, Record, DamagedAt, IsByte}

-- whole records, and what stands behind them
pub record Parsed (file : List ℕ) : Type 0 where
  pub bodies : List (List ℕ)
  pub rest : List ℕ
  pub is : file ≡ records bodies ++ rest
  pub fit : AllByRecursion Fits bodies
  pub how : NoGate rest ⊎ NotWhole rest

small_at : (bytes : List ℕ) → All IsByte bytes → (i : ℕ) → get_or bytes i 0 < 256
small_at bytes all i = by_cases (leb (length bytes) i) refl
  where
    by_cases : (b : Bool) → leb (length bytes) i ≡ b → get_or bytes i 0 < 256
    by_cases true e = omega (arith, get_or_past bytes i 0 (leb-true (length bytes) i e))
    by_cases false e = All-get_or IsByte bytes i 0 (leb-false (length bytes) i e) all

size_fits : (bytes : List ℕ) → ((i : ℕ) → get_or bytes i 0 < 256) → from_be_bytes w32 bytes < 2 ^ 32
size_fits bytes small = omega (arith, small 0, small 1, small 2, small 3)

-- the record at the front, where its body and a byte more are there
record_of : (more : List ℕ) → All IsByte more → 4 + from_be_bytes w32 (take 4 more) < length more → (body : List ℕ) × Record body (71 ∷ more)
unfolding spelled
record_of more bytes long =
    let head = take 4 more in
    let size = from_be_bytes w32 head in
    let small = small_at head (All-take IsByte 4 more bytes) in
    let body = take size (drop 4 more) in
    let four : length head ≡ 4 = omega (arith, length-take 4 more, long) in
    let sized : length body ≡ size = omega (arith, length-take size (drop 4 more), length-drop 4 more, long) in
    let spelled_is : to_be_bytes w32 (length body) ≡ head = be_bytes_4 head (length body) four small sized in
    let behind : drop 4 more ≡ body ++ drop (4 + size) more = sym (take-append-drop size (drop 4 more)) ∙ ap (λ (l : List ℕ). body ++ l) (drop-drop size 4 more) in
    let whole : more ≡ (to_be_bytes w32 (length body) ++ body) ++ drop (4 + size) more =
    sym (take-append-drop 4 more) ∙ ap (λ (l : List ℕ). head ++ l) behind ∙ ap (λ (l : List ℕ). l ++ (body ++ drop (4 + size) more)) (sym spelled_is) ∙ sym (append_assoc (to_be_bytes w32 (length body)) body (drop (4 + size) more)) in
    (body, record { more = drop (4 + size) more; is = ap (λ (l : List ℕ). 71 ∷ l) whole; some = omega (arith, length-drop (4 + size) more, long); fits = omega (arith, sized, size_fits head small) })

extend : (body file : List ℕ) (rec : Record body file) → Parsed rec.more → Parsed file
extend body file rec p = record {
  bodies = body ∷ p.bodies;
  rest = p.rest;
  is = rec.is ∙ ap (λ (l : List ℕ). 71 ∷ (spelled body ++ l)) p.is ∙ ap (λ (l : List ℕ). 71 ∷ l) (sym (append_assoc (spelled body) (records p.bodies) p.rest));
  fit = (rec.fits, p.fit);
  how = p.how;
}

abbrev Parses : ℕ → Type 0
Parses fuel = (file : List ℕ) → 0 < length file → length file ≤ fuel → All IsByte file → Parsed file

behind_record : (body more : List ℕ) (rec : Record body (71 ∷ more)) → rec.more ≡ drop (length (spelled body)) more
behind_record body more rec =
    let whole : 71 ∷ more ≡ 71 ∷ (spelled body ++ rec.more) = rec.is in
    let same : more ≡ spelled body ++ rec.more = cc in
    sym (drop_at (spelled body) rec.more (length (spelled body)) refl) ∙ ap (λ (l : List ℕ). drop (length (spelled body)) l) (sym same)

parse_record : (fuel : ℕ) (body more : List ℕ) → Record body (71 ∷ more) → Parses fuel → length more ≤ fuel → All IsByte more → Parsed (71 ∷ more)
parse_record fuel body more rec go le bytes =
    let behind = behind_record body more rec in
    let shorter : length rec.more ≤ fuel = omega (arith, ap length behind, length-drop (length (spelled body)) more, le) in
    extend body (71 ∷ more) rec (go rec.more rec.some shorter (subst (All IsByte) (sym behind) (All-drop IsByte (length (spelled body)) more bytes)))

parse_open : (fuel : ℕ) (more : List ℕ) (b : Bool) → leb (length more) (4 + from_be_bytes w32 (take 4 more)) ≡ b → Parses fuel → length more ≤ fuel → All IsByte more → Parsed (71 ∷ more)
parse_open fuel more true e go le bytes =
    record { bodies = []; rest = 71 ∷ more; is = refl; fit = tt; how = inr (record { more = more; is = refl; short = leb-true (length more) (4 + from_be_bytes w32 (take 4 more)) e }) }
parse_open fuel more false e go le bytes =
    let here = record_of more bytes (leb-false (length more) (4 + from_be_bytes w32 (take 4 more)) e) in
    parse_record fuel here.0 more here.1 go le bytes

pub parse : (fuel : ℕ) → Parses fuel
parse zero file some le bytes = absurd (omega arith)
parse (suc fuel) [] some le bytes = absurd (omega arith)
parse (suc fuel) (g ∷ more) some le bytes = elim (cases_eq g 71) [
  | inl is ↦ subst Parsed (ap (λ n. n ∷ more) (sym is)) (parse_open fuel more (leb (length more) (4 + from_be_bytes w32 (take 4 more))) refl (parse fuel) (omega arith) (All-drop IsByte 1 (g ∷ more) bytes))
  | inr other ↦ record { bodies = []; rest = g ∷ more; is = refl; fit = tt; how = inl (record { gate = g; more = more; is = refl; shut = other }) }
]

abbrev Three : List ℕ → Type 0
Three file = Fresh file ⊎ ((bodies : List (List ℕ)) × Image file bodies) ⊎ ((at : ℕ) × DamagedAt file at)

judge : (file : List ℕ) (p : Parsed file) → (Fresh file → ⊥) → Three file
judge file p made = ⊎_elim (λ closed. shut_file p.bodies p.is p.fit closed) (λ cut. inr (inr (length (records p.bodies), record { bodies = p.bodies; rest = p.rest; is = p.is; place = refl; fit = p.fit; made = made; how = inr cut }))) p.how
  where
    shut_file : (bodies : List (List ℕ)) → file ≡ records bodies ++ p.rest → AllByRecursion Fits bodies → NoGate p.rest → Three file
    shut_file [] is fit closed = inr (inr (0, record { bodies = []; rest = p.rest; is = is; place = refl; fit = tt; made = made; how = inl (refl, closed) }))
    shut_file (b ∷ bodies) is fit closed =
        inr (inl (b ∷ bodies, record { gate = closed.gate; behind = closed.more; written = is ∙ ap (λ (l : List ℕ). records (b ∷ bodies) ++ l) closed.is; shut = closed.shut; some = omega arith; fit = fit }))

-- a file is fresh, an image or damaged
pub one_of_three : (file : List ℕ) → All IsByte file → Fresh file ⊎ ((bodies : List (List ℕ)) × Image file bodies) ⊎ ((at : ℕ) × DamagedAt file at)
one_of_three [] bytes = inl tt
one_of_three (b ∷ []) bytes = inl tt
one_of_three (b ∷ c ∷ more) bytes = elim (cases_eq b 46) [
  | inl dot ↦ inl dot
  | inr other ↦ judge (b ∷ c ∷ more) (parse (length (b ∷ c ∷ more)) (b ∷ c ∷ more) (omega arith) (omega arith) bytes) other
]
