-- Texts that agree with a board have no breach.
use Rattle.std.proofs.Common.{◌≡◌, ◌≤◌, ◌∙◌, ◌+◌, ℕ, List, [], ◌∷◌, ◌++◌, length, Result, Ok, Err, IsOk, refl, ap, sym, subst, arith, append-nil, append_assoc, length-append}
use Rattle.std.specs.List.{AllByRecursion}
use Rattle.std.proofs.lemmas.List.Elements.{recursion_from_All}
use Rattle.hazard_types.specs.Places.{Place}
use Rattle.hazard_types.specs.declared.codes.Class.{Class}
use Rattle.hazard_types.specs.declared.codes.Class.TheVariants as classes
use Rattle.hazard_types.specs.declared.hazard.Event.{Event}
use Rattle.event_life.specs.Lives.{IsLawfulLife}
use Rattle.event_life.specs.Openings.{IsGapless, opened_of}
use Rattle.event_life.specs.Products.{Product}
use Rattle.product_decoder.specs.Decoded.{decode}
use Rattle.product_decoder.specs.ReaderModel.{found_of, gaps_found}
use Rattle.product_decoder.specs.declared.types.Decoded.{Decoded}
use Rattle.product_decoder.proofs.LawLemmas.{gapless_found, lawful_exactly}
use Rattle.product_frame.specs.declared.frame.FrameFault.{FrameFault}
use Rattle.office_core.specs.Agreement.{ReadsAsTheBoard, product_in, products_in, products_read, texts_of}
use Rattle.office_core.specs.State.{State}
use Rattle.desk_drill.specs.Office.{drill_office}
use Rattle.desk_drill.specs.Tellings.{breaches_in, fault_of, faults_in, findings_in}

no_fault : (r : Result Decoded FrameFault) → IsOk r → fault_of r ≡ 0
no_fault (Ok d) h = refl
no_fault (Err fault) h = absurd (cc)

none_faulty : (texts : List (List ℕ)) → AllByRecursion (λ (text : List ℕ). IsOk (decode text)) texts → faults_in texts ≡ 0
none_faulty [] h = refl
none_faulty (text ∷ texts) h = omega (arith, no_fault (decode text) h.0, none_faulty texts h.1)

-- the products that a reader of a drill's office and class finds
pub drill_read : (s : State) → s.settings.office ≡ drill_office → s.class ≡ classes.O → products_read s ≡ products_in drill_office classes.O (texts_of s)
drill_read s office class =
    ap (λ (o : List ℕ). products_in o s.class (texts_of s)) office ∙ ap (λ (c : Class). products_in drill_office c (texts_of s)) class

no_findings : (products : List Product) → ((e : Event) (z : Place) → IsLawfulLife products e z) → IsGapless (opened_of products) → findings_in products ≡ 0
no_findings products lives gapless =
    let found : length (found_of products) ≡ 0 = ap length ((lawful_exactly products).1 lives) in
    let gaps : length (gaps_found products) ≡ 0 = ap length ((gapless_found products).1 gapless) in
    omega (arith, found, gaps)

pub no_faults : (s : State) → ReadsAsTheBoard s → faults_in (texts_of s) ≡ 0
no_faults s reads = none_faulty (texts_of s) (recursion_from_All (λ (text : List ℕ). IsOk (decode text)) (texts_of s) reads.whole)

pub no_breach : (s : State) → s.settings.office ≡ drill_office → s.class ≡ classes.O → ReadsAsTheBoard s → breaches_in (texts_of s) ≡ 0
no_breach s office class reads =
    let read = drill_read s office class in
    let lives = subst (λ (products : List Product). (e : Event) (z : Place) → IsLawfulLife products e z) read reads.lives in
    let gapless = subst (λ (products : List Product). IsGapless (opened_of products)) read reads.gapless in
    omega (arith, no_faults s reads, no_findings (products_in drill_office classes.O (texts_of s)) lives gapless)

-- a reader takes a product of a text at most
one_product : (office : List ℕ) (class : Class) (r : Result Decoded FrameFault) → length (product_in office class r) ≤ 1
one_product office class (Ok d) = omega arith
one_product office class (Err fault) = omega arith

pub few_products : (office : List ℕ) (class : Class) (texts : List (List ℕ)) → length (products_in office class texts) ≤ length texts
few_products office class [] = omega arith
few_products office class (text ∷ texts) =
    let both = length-append (product_in office class (decode text)) (products_in office class texts) in
    omega (arith, both, one_product office class (decode text), few_products office class texts)

-- a text more
pub products_more : (office : List ℕ) (class : Class) (texts : List (List ℕ)) (text : List ℕ) → products_in office class (texts ++ text ∷ []) ≡ products_in office class texts ++ product_in office class (decode text)
products_more office class [] text = append-nil (product_in office class (decode text))
products_more office class (first ∷ texts) text =
    ap (λ (products : List Product). product_in office class (decode first) ++ products) (products_more office class texts text)
    ∙ sym (append_assoc (product_in office class (decode first)) (products_in office class texts) (product_in office class (decode text)))

pub faults_more : (texts : List (List ℕ)) (text : List ℕ) → faults_in (texts ++ text ∷ []) ≡ faults_in texts + fault_of (decode text)
faults_more [] text = omega arith
faults_more (first ∷ texts) text = omega (arith, faults_more texts text)
