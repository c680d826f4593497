-- Where the lines of a product begin, listed up to the next heading line.
use Rattle.std.proofs.Common.{◌≡◌, ℕ, ◌+◌, ◌≤◌, ◌==◌, true, List, [], ◌∷◌, ◌++◌, length, take, drop, Option, Some, None, ap, sym, ◌∙◌, arith, length-take, take-append-drop, inl, inr}
use Rattle.std.specs.Prelude.{is_some}
use Rattle.std.specs.List.{All}
use Rattle.std.proofs.lemmas.Bool.{cases_Bool}
use Rattle.std.proofs.lemmas.List.{append_cancel_right, take_all}
use Rattle.std.proofs.lemmas.List.Elements.{All-nil, All-cons}
use Rattle.product_frame.specs.Text.{starts_from, next_start}
use Rattle.product_frame.specs.Parts.{heading_of}
use Rattle.product_frame.specs.Frames.{line_at, first_heading, product_in}
use Rattle.product_frame.proofs.LineEnds.{next_added, all_added}
use Rattle.product_frame.proofs.HeadingPlaces.{found_next, none_next, end_or, end_is}
use Rattle.product_frame.proofs.Runs.{starts_behind}

-- ---- no line begins behind the end

starts_high : (at : ℕ) (bytes : List ℕ) (end : ℕ) → at + length bytes ≤ end → All (λ (start : ℕ). start ≤ end) (starts_from at bytes)
starts_high at [] end le = All-nil (λ (start : ℕ). start ≤ end)
starts_high at (c ∷ bytes) end le =
    let more = starts_high (at + 1) bytes end (omega arith) in
    elim (cases_Bool (c == 10)) [
      | inl e ↦ rw e (All-cons (λ (start : ℕ). start ≤ end) (at + 1) (starts_from (at + 1) bytes) (omega arith) more)
      | inr e ↦ rw e more
    ]

pub starts_within : (bytes : List ℕ) → All (λ (start : ℕ). start ≤ length bytes) (starts_from 0 bytes)
starts_within bytes = starts_high 0 bytes (length bytes) (omega arith)

-- ---- the lines of a front

front_listed : (bytes list : List ℕ) (at : ℕ) → at ≤ length bytes → list ++ starts_from at (drop at bytes) ≡ starts_from 0 bytes → list ≡ starts_from 0 (take at bytes)
front_listed bytes list at le h =
    let size : 0 + length (take at bytes) ≡ at = omega (arith, length-take at bytes) in
    let parted : starts_from 0 bytes ≡ starts_from 0 (take at bytes) ++ starts_from at (drop at bytes) =
    ap (starts_from 0) (sym (take-append-drop at bytes)) ∙ starts_behind (take at bytes) (drop at bytes) 0 ∙ ap (λ (n : ℕ). starts_from 0 (take at bytes) ++ starts_from n (drop at bytes)) size in
    append_cancel_right list (starts_from 0 (take at bytes)) (starts_from at (drop at bytes)) (h ∙ parted)

-- ---- where the product ends

product_to : (rest : List ℕ) (o : Option ℕ) → first_heading rest (starts_from 0 rest) ≡ o → take (end_or (length rest) o) rest ≡ product_in rest
unfolding product_in
product_to rest o e = ap (λ (n : ℕ). take n rest) (ap (end_or (length rest)) (sym e) ∙ end_is rest)

pub product_before : (rest : List ℕ) (at next : ℕ) → Some next ≡ next_start rest at → is_some (heading_of (line_at rest next)) ≡ true
    → first_heading rest (starts_from at (drop at rest)) ≡ first_heading rest (starts_from 0 rest) → take next rest ≡ product_in rest
product_before rest at next e h whole = product_to rest (Some next) (sym whole ∙ found_next rest at next e h)

pub product_whole : (rest : List ℕ) (at : ℕ) → None ≡ next_start rest at → first_heading rest (starts_from at (drop at rest)) ≡ first_heading rest (starts_from 0 rest) → take (length rest) rest ≡ product_in rest
product_whole rest at e whole = product_to rest None (sym whole ∙ none_next rest at e)

pub listed_before : (rest list new : List ℕ) (at next : ℕ) → next ≤ length rest → Some next ≡ next_start rest at → new ≡ list ++ next ∷ [] → list ++ starts_from at (drop at rest) ≡ starts_from 0 rest
    → take next rest ≡ product_in rest → new ≡ starts_from 0 (product_in rest)
listed_before rest list new at next le e is whole front =
    front_listed rest new next le (next_added rest list new (starts_from 0 rest) at next e is whole) ∙ ap (starts_from 0) front

pub listed_whole : (rest list : List ℕ) (at : ℕ) → None ≡ next_start rest at → list ++ starts_from at (drop at rest) ≡ starts_from 0 rest
    → take (length rest) rest ≡ product_in rest → list ≡ starts_from 0 (product_in rest)
listed_whole rest list at e whole front =
    all_added rest list (starts_from 0 rest) at e whole ∙ ap (starts_from 0) (sym (take_all (length rest) rest (omega arith)) ∙ front)
