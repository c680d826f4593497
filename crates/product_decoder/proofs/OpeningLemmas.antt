-- What the product last taken did is what the last of the products does.
use Rattle.std.proofs.Common.{◌≡◌, ◌∙◌, ℕ, ◌-◌, List, [], ◌∷◌, ◌++◌, length, fold, Option, Some, Result, IfOk, refl, sym, ap, subst, arith}
use Rattle.std.specs.List.{slice_get}
use Rattle.hazard_types.specs.declared.codes.Class.{Class}
use Rattle.hazard_types.specs.declared.line.Line.{Line}
use Rattle.hazard_types.specs.declared.line.Row.{Row}
use Rattle.event_life.specs.declared.life.Breach.{Breach}
use Rattle.event_life.specs.Products.{Product, lawful_of, rows_with, rows_of}
use Rattle.product_decoder.specs.Runs.{Taken}
use Rattle.product_decoder.specs.declared.types.Opening.{Opening}
use Rattle.product_decoder.specs.Openings.{openings_in, lawful_lines, openings_with, lawful_from, last_lawful, last_from, last_openings, lawful_taken, openings_taken}
use Rattle.product_decoder.specs.ReaderModel.{Reading}
use Rattle.product_decoder.specs.Takings.{product_taken, products_taken, AreJudged, IsRead}

module _ (office : List ℕ) (class : Class) where
  lawful_told : (rows : List Row) (last : List Line) (taken : List Taken) → AreJudged office class rows taken → lawful_taken last taken ≡ lawful_from rows last (products_taken office class taken)
  lawful_told rows last [] h = refl
  lawful_told rows last (t ∷ taken) h =
      ap (λ (judged : List (Line × Option Breach)). lawful_taken (lawful_of judged) taken) h.0
      ∙ lawful_told (rows_with rows (product_taken office class t)) (lawful_lines rows (product_taken office class t)) taken h.1

  openings_told : (rows : List Row) (last : List Opening) (taken : List Taken) → AreJudged office class rows taken → openings_taken last taken ≡ last_from rows last (products_taken office class taken)
  openings_told rows last [] h = refl
  openings_told rows last (t ∷ taken) h =
      ap (λ (judged : List (Line × Option Breach)). openings_taken (openings_in t.issue (lawful_of judged)) taken) h.0
      ∙ openings_told (rows_with rows (product_taken office class t)) (openings_with rows (product_taken office class t)) taken h.1

  pub lawful_read : (held : Option (List Row)) (taken : List Taken) → IsRead office class held taken → lawful_taken [] taken ≡ last_lawful (products_taken office class taken)
  lawful_read held taken h = lawful_told [] [] taken h.judged

  pub openings_read : (held : Option (List Row)) (taken : List Taken) → IsRead office class held taken → openings_taken [] taken ≡ last_openings (products_taken office class taken)
  openings_read held taken h = openings_told [] [] taken h.judged

-- what is found of the product last taken, said of the products that were read
pub told_last : {X E : Type 0} (found : Result (List X) E) (of_taken : List Taken → List X) (of_read : Reading → List X) (slice taken : List Taken) (inside view : Reading)
    → slice ≡ taken → inside ≡ view → of_taken taken ≡ of_read inside → IfOk found (λ all. all ≡ of_taken slice) → IfOk found (λ all. all ≡ of_read view)
told_last {X} found of_taken of_read slice taken inside view slice_is view_is read_is is =
    subst (λ (wanted : List X). IfOk found (λ all. all ≡ wanted)) (ap of_taken slice_is ∙ read_is ∙ ap of_read view_is) is

-- one product more

lawful_push : (rows : List Row) (last : List Line) (products : List Product) (p : Product) → lawful_from rows last (products ++ p ∷ []) ≡ lawful_lines (fold rows_with rows products) p
lawful_push rows last [] p = refl
lawful_push rows last (q ∷ products) p = lawful_push (rows_with rows q) (lawful_lines rows q) products p

pub last_lawful-push : (products : List Product) (p : Product) → last_lawful (products ++ p ∷ []) ≡ lawful_lines (rows_of products) p
last_lawful-push products p = lawful_push [] [] products p

openings_push : (rows : List Row) (last : List Opening) (products : List Product) (p : Product) → last_from rows last (products ++ p ∷ []) ≡ openings_with (fold rows_with rows products) p
openings_push rows last [] p = refl
openings_push rows last (q ∷ products) p = openings_push (rows_with rows q) (openings_with rows q) products p

pub last_openings-push : (products : List Product) (p : Product) → last_openings (products ++ p ∷ []) ≡ openings_with (rows_of products) p
last_openings-push products p = openings_push [] [] products p

-- the last of what was taken

some_one : (t u : Taken) → ◌≡◌ {A = Option Taken} (Some u) (Some t) → u ≡ t
some_one t u h = cc

lawful_at : (u : Taken) (taken : List Taken) (last : List Line) (t : Taken) → slice_get (u ∷ taken) (length taken) ≡ Some t → lawful_taken last (u ∷ taken) ≡ lawful_of t.judged
lawful_at u [] last t h = ap (λ (v : Taken). lawful_of v.judged) (some_one t u h)
lawful_at u (v ∷ taken) last t h = lawful_at v taken (lawful_of u.judged) t h

openings_at : (u : Taken) (taken : List Taken) (last : List Opening) (t : Taken) → slice_get (u ∷ taken) (length taken) ≡ Some t → openings_taken last (u ∷ taken) ≡ openings_in t.issue (lawful_of t.judged)
openings_at u [] last t h = ap (λ (v : Taken). openings_in v.issue (lawful_of v.judged)) (some_one t u h)
openings_at u (v ∷ taken) last t h = openings_at v taken (openings_in u.issue (lawful_of u.judged)) t h

place : (u : Taken) (taken : List Taken) (t : Taken) → Some t ≡ slice_get (u ∷ taken) (length (u ∷ taken) - 1) → slice_get (u ∷ taken) (length taken) ≡ Some t
place u taken t h = let at : length (u ∷ taken) - 1 ≡ length taken = omega arith in subst (λ (n : ℕ). slice_get (u ∷ taken) n ≡ Some t) at (sym h)

pub lawful_last : (taken : List Taken) (t : Taken) → Some t ≡ slice_get taken (length taken - 1) → lawful_taken [] taken ≡ lawful_of t.judged
lawful_last [] t h = cc
lawful_last (u ∷ taken) t h = lawful_at u taken [] t (place u taken t h)

pub openings_last : (taken : List Taken) (t : Taken) → Some t ≡ slice_get taken (length taken - 1) → openings_taken [] taken ≡ openings_in t.issue (lawful_of t.judged)
openings_last [] t h = cc
openings_last (u ∷ taken) t h = openings_at u taken [] t (place u taken t h)
