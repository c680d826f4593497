-- What is kept with one frame more.
use Rattle.std.proofs.Common.{◌≡◌, ◌∙◌, ◌+◌, ◌++◌, ◌∷◌, ℕ, List, [], length, Option, Some, None, sym, ap, subst}
use Rattle.std.proofs.lemmas.List.{length_push, map-append}
use Rattle.std.proofs.lemmas.Grind.{fold-append}
use Rattle.std.specs.declared.snapshot.Snapshot.{Snapshot}
use Rattle.hazard_types.specs.declared.codes.Class.{Class}
use Rattle.hazard_types.specs.declared.line.Row.{Row}
use Rattle.event_life.specs.Lives.{judged_product}
use Rattle.event_life.specs.Products.{Product, lawful_of, put_all, rows_after, rows_with, rows_of}
use Rattle.product_frame.specs.declared.frame.Frame.{Frame}
use Rattle.product_decoder.specs.Decoded.{decoded_of}
use Rattle.product_decoder.specs.ReaderModel.{Reading, product_of}
use Rattle.product_decoder.specs.Takings.{AreLeft}
use Rattle.row_index.specs.Verdicts.{Judged, AreFound}
use Rattle.row_index.specs.declared.verdicts.Run.{Run}
use Rattle.follow_core.specs.Frames.{product_taken, products_taken}

-- rows that are held are those after the products
held_by : (held : Option (List Row)) (rows : List Row) (products : List Product) → held ≡ Some rows → AreLeft held products → rows ≡ rows_of products
held_by None rows products is left = cc
held_by (Some held) rows products is left = same held rows is ∙ left
  where
    same : (a b : List Row) → ◌≡◌ {A = Option (List Row)} (Some a) (Some b) → b ≡ a
    same a b h = cc

-- what lines found in the rows after the products, they found in those that are held
pub found_by : (held : Option (List Row)) (rows : List Row) (products : List Product) (runs : List Run) → held ≡ Some rows → AreLeft held products → AreFound (rows_of products) runs → AreFound rows runs
found_by held rows products runs is left found = subst (λ (before : List Row). AreFound before runs) (sym (held_by held rows products is left)) found

module _ (office : List ℕ) (class : Class) where
  -- the rows after one frame more
  rows_push : (heard : List (Snapshot Frame)) (s : Snapshot Frame) → rows_of (products_taken office class (heard ++ s ∷ [])) ≡ rows_with (rows_of (products_taken office class heard)) (product_taken office class s)
  rows_push heard s =
      ap (λ (products : List Product). rows_of products) (map-append (product_taken office class) heard (s ∷ []))
      ∙ fold-append rows_with [] (products_taken office class heard) (product_taken office class s ∷ [])

  -- the rows that the lines of a frame leave are those after it
  pub rows_kept : (held : Option (List Row)) (rows after : List Row) (heard more : List (Snapshot Frame)) (s : Snapshot Frame) (frame : Frame) (judged : List Judged) (was : Reading) →
      AreLeft held (products_taken office class heard) → held ≡ Some rows →
      record { office = office; class = class; products = products_taken office class heard } ≡ was →
      judged ≡ judged_product (rows_of was.products) (product_of was.office was.class (decoded_of frame)) →
      after ≡ put_all rows frame.issue (lawful_of judged) rows → s.value ≡ frame → more ≡ heard ++ s ∷ [] → after ≡ rows_of (products_taken office class more)
  unfolding rows_after
  rows_kept held rows after heard more s frame judged was left held_is was_is judged_is after_is value_is more_is =
      let p = product_of office class (decoded_of frame) in
      let rows_are = held_by held rows (products_taken office class heard) held_is left in
      let judged_are : judged ≡ judged_product rows p = judged_is
      ∙ ap (λ (r : Reading). judged_product (rows_of r.products) (product_of r.office r.class (decoded_of frame))) (sym was_is)
      ∙ ap (λ (before : List Row). judged_product before p) (sym rows_are) in
      let after_are : after ≡ rows_with rows p = after_is ∙ ap (λ (found : List Judged). put_all rows frame.issue (lawful_of found) rows) judged_are in
      after_are
      ∙ ap (λ (before : List Row). rows_with before p) rows_are
      ∙ ap (λ (f : Frame). rows_with (rows_of (products_taken office class heard)) (product_of office class (decoded_of f))) (sym value_is)
      ∙ sym (rows_push heard s)
      ∙ ap (λ (all : List (Snapshot Frame)). rows_of (products_taken office class all)) (sym more_is)

  pub counted_kept : (place : ℕ) (heard more : List (Snapshot Frame)) (s : Snapshot Frame) → place ≡ length (products_taken office class heard) → more ≡ heard ++ s ∷ [] → place + 1 ≡ length (products_taken office class more)
  counted_kept place heard more s counted more_is =
      ap (λ (n : ℕ). n + 1) counted ∙ sym (length_push (products_taken office class heard) (product_taken office class s))
      ∙ sym (ap length (map-append (product_taken office class) heard (s ∷ [])))
      ∙ ap (λ (all : List (Snapshot Frame)). length (products_taken office class all)) (sym more_is)
