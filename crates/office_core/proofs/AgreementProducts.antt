-- One more text behind those of an office, over plain lists.
use Rattle.std.proofs.Common.{◌≡◌, ◌∙◌, ℕ, ◌+◌, List, [], ◌∷◌, ◌++◌, IsOk, sym, ap, subst, fold, arith}
use Rattle.std.specs.List.{All}
use Rattle.std.proofs.lemmas.Grind.{flat_map-append}
use Rattle.std.proofs.lemmas.List.{append-nil}
use Rattle.std.proofs.lemmas.List.Elements.{All-append, All-from_recursion}
use Rattle.std.proofs.lemmas.List.Sums.{fold-append}
use Rattle.hazard_types.specs.Places.{Place}
use Rattle.hazard_types.specs.declared.codes.Class.{Class}
use Rattle.hazard_types.specs.declared.hazard.Event.{Event}
use Rattle.hazard_types.specs.declared.hazard.Hazard.{Hazard}
use Rattle.hazard_types.specs.declared.line.Line.{Line}
use Rattle.hazard_types.specs.declared.line.Row.{Row}
use Rattle.event_life.specs.Lives.{AreLawful, IsLawfulFrom, IsLawfulLife, judged_product}
use Rattle.event_life.specs.Openings.{IsGapless, counted_from, numbers_of, events_opened_by, opened_of}
use Rattle.event_life.specs.Products.{Product, lawful_of, rows_after, rows_of, rows_with}
use Rattle.event_life.proofs.AppendLemmas.{opened_from-append}
use Rattle.event_numbers.specs.declared.Count.{Count}
use Rattle.event_numbers.specs.Counts.{count_of}
use Rattle.product_decoder.specs.Decoded.{decode}
use Rattle.product_frame.specs.Splitting.{IsOneProduct}
use Rattle.office_core.specs.Agreement.{product_in, products_in}
use Rattle.office_core.proofs.AgreementNumbers.{counted_on, numbers_more}
use Rattle.office_core.proofs.AgreementReading.{IsReadAs, each_lawful}

-- what a reader of the office and class finds in texts, where these agree with rows and counts
pub record Agree (office : List ℕ) (class : Class) (texts : List (List ℕ)) (rows : List Row) (counts : List Count) : Type 0 where
  pub whole : All (λ (text : List ℕ). IsOk (decode text)) texts
  pub apart : All IsOneProduct texts
  pub lives : (e : Event) (z : Place) → IsLawfulLife (products_in office class texts) e z
  pub gapless : IsGapless (opened_of (products_in office class texts))
  pub rows_are : rows_of (products_in office class texts) ≡ rows
  pub numbers : (h : Hazard) (year : ℕ) → numbers_of h year (opened_of (products_in office class texts)) ≡ counted_from 1 (count_of counts h year)

-- lines whose events have the numbers behind those that were drawn, and are drawn themselves
abbrev pub GoOnBy : List Count → List Count → List Line → Type 0
GoOnBy counts after lines = (h : Hazard) (year : ℕ) → (k : ℕ) × (numbers_of h year (events_opened_by lines) ≡ counted_from (count_of counts h year + 1) k) × (count_of after h year ≡ count_of counts h year + k)

lawful_more : (rows : List Row) (ps qs : List Product) (e : Event) (z : Place) → IsLawfulFrom rows ps e z → IsLawfulFrom (fold rows_with rows ps) qs e z → IsLawfulFrom rows (ps ++ qs) e z
lawful_more rows [] qs e z h g = g
lawful_more rows (p ∷ ps) qs e z h g = (h.0, lawful_more (rows_with rows p) ps qs e z h.1 g)

one_all : {X : Type 0} (P : X → Type 0) (xs : List X) (x : X) → All P xs → P x → All P (xs ++ x ∷ [])
one_all P xs x all own = All-append P xs (x ∷ []) all (All-from_recursion P (x ∷ []) (own, tt))

module _ (office : List ℕ) (class : Class) (texts : List (List ℕ)) (text : List ℕ) (p : Product) (one : product_in office class (decode text) ≡ p ∷ []) where
  abbrev before : List Product
  before = products_in office class texts

  products_more : products_in office class (texts ++ text ∷ []) ≡ before ++ p ∷ []
  products_more =
      flat_map-append (λ (text : List ℕ). product_in office class (decode text)) texts (text ∷ [])
      ∙ ap (λ (ps : List Product). before ++ ps) (append-nil (product_in office class (decode text)) ∙ one)

  module _ (rows : List Row) (same : rows_of before ≡ rows) (lines : List Line) (t : ℕ) (read : IsReadAs rows lines t p) where
    rows_more : rows_of (before ++ p ∷ []) ≡ rows_after rows t lines
    rows_more = fold-append rows_with [] before (p ∷ []) ∙ ap (λ (rs : List Row). rows_with rs p) same ∙ read.rows_are

    lives_more : (e : Event) (z : Place) → IsLawfulLife before e z → IsLawfulLife (before ++ p ∷ []) e z
    lives_more e z h =
        let own : AreLawful e z (judged_product (rows_of before) p) = subst (λ (rs : List Row). AreLawful e z (judged_product rs p)) (sym same) (each_lawful e z (judged_product rows p) read.lawful) in
        lawful_more [] before (p ∷ []) e z h (own, tt)

    opened_more : opened_of (before ++ p ∷ []) ≡ opened_of before ++ events_opened_by lines
    opened_more =
        opened_from-append [] before (p ∷ [])
        ∙ ap (λ (es : List Event). opened_of before ++ es)
        (append-nil (events_opened_by (lawful_of (judged_product (rows_of before) p)))
        ∙ ap (λ (rs : List Row). events_opened_by (lawful_of (judged_product rs p))) same
        ∙ read.opened)

    numbers_on : (counts after : List Count) → ((h : Hazard) (year : ℕ) → numbers_of h year (opened_of before) ≡ counted_from 1 (count_of counts h year)) → GoOnBy counts after lines →
        (h : Hazard) (year : ℕ) → numbers_of h year (opened_of (before ++ p ∷ [])) ≡ counted_from 1 (count_of after h year)
    numbers_on counts after numbers on h year =
        let o = on h year in
        let turned : count_of counts h year + 1 ≡ 1 + count_of counts h year = omega arith in
        ap (numbers_of h year) opened_more
        ∙ numbers_more h year (opened_of before) (events_opened_by lines)
        ∙ ap (λ (ns : List ℕ). ns ++ numbers_of h year (events_opened_by lines)) (numbers h year)
        ∙ ap (λ (ns : List ℕ). counted_from 1 (count_of counts h year) ++ ns) (o.1 ∙ ap (λ (n : ℕ). counted_from n o.0) turned)
        ∙ counted_on 1 (count_of counts h year) o.0
        ∙ ap (counted_from 1) (sym o.2)

  pub one_more : (rows : List Row) (counts after : List Count) (lines : List Line) (t : ℕ) → Agree office class texts rows counts → IsOk (decode text) → IsOneProduct text →
      IsReadAs rows lines t p → GoOnBy counts after lines → Agree office class (texts ++ text ∷ []) (rows_after rows t lines) after
  one_more rows counts after lines t a whole single read on =
      let is = products_more in
      let numbers = numbers_on rows a.rows_are lines t read counts after a.numbers on in
      record {
        whole = one_all (λ (x : List ℕ). IsOk (decode x)) texts text a.whole whole;
        apart = one_all IsOneProduct texts text a.apart single;
        lives = λ e z. subst (λ (ps : List Product). IsLawfulLife ps e z) (sym is) (lives_more rows a.rows_are lines t read e z (a.lives e z));
        gapless = subst (λ (ps : List Product). IsGapless (opened_of ps)) (sym is) (λ h year. (count_of after h year, numbers h year));
        rows_are = ap rows_of is ∙ rows_more rows a.rows_are lines t read;
        numbers = λ h year. ap (λ (ps : List Product). numbers_of h year (opened_of ps)) is ∙ numbers h year;
      }
