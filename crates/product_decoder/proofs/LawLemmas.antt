-- Lives in order; lawful lives without breaches; numbers without gaps.
use Rattle.std.proofs.Common.{◌≡◌, ◌∙◌, ◌↔◌, ◌+◌, ℕ, List, [], ◌∷◌, ◌++◌, Bool, true, false, Option, Some, None, Less, map, refl, ap}
use Rattle.std.specs.List.{AllByRecursion}
use Rattle.std.specs.List.Sorted.{IsStrictlySortedBy}
use Rattle.hazard_types.specs.Places.{Place}
use Rattle.hazard_types.specs.declared.hazard.Event.{Event}
use Rattle.hazard_types.specs.declared.line.Line.{Line}
use Rattle.hazard_types.specs.declared.line.Row.{Row}
use Rattle.hazard_types.proofs.Equality.{zone_itself, event_itself}
use Rattle.event_life.specs.declared.life.Breach.{Breach}
use Rattle.event_life.specs.declared.openings.Gap.{Gap}
use Rattle.event_life.specs.Lives.{judged_product, AreLawful, IsLawfulFrom, IsLawfulLife}
use Rattle.event_life.specs.Openings.{IsGapless, opened_of, gaps_of}
use Rattle.event_life.specs.Products.{Product, is_routine, concerns, breach_in, judged_from, lines_of, rows_with}
use Rattle.event_life.proofs.GapsLemmas.{gapless_exactly}
use Rattle.product_decoder.specs.declared.types.Found.{Found}
use Rattle.product_decoder.specs.declared.types.Track.{Track}
use Rattle.product_decoder.specs.Lives.{Living, by_living, by_life}
use Rattle.product_decoder.specs.ReaderModel.{found_at, found_in, found_from, found_of, gap_found, gaps_found}
use Rattle.product_decoder.specs.Steps.{Steps, track_at}

-- order

tracks_above : (steps : Steps) (l : Living) (ls : List Living) → AllByRecursion (λ (m : Living). by_living l m ≡ Less) ls →
    AllByRecursion (λ (t : Track). by_life (track_at steps l) t ≡ Less) (map (track_at steps) ls)
tracks_above steps l [] h = tt
tracks_above steps l (m ∷ ls) h = (h.0, tracks_above steps l ls h.1)

pub tracks_sorted : (steps : Steps) (ls : List Living) → IsStrictlySortedBy by_living ls → IsStrictlySortedBy by_life (map (track_at steps) ls)
unfolding IsStrictlySortedBy
tracks_sorted steps [] h = tt
tracks_sorted steps (l ∷ ls) h = (tracks_above steps l ls h.0, tracks_sorted steps ls h.1)

-- lawful lives

both_empty : {A : Type 0} (xs ys : List A) → xs ++ ys ≡ [] → (xs ≡ []) × (ys ≡ [])
both_empty [] ys h = (refl, h)
both_empty (x ∷ xs) ys h = cc

first_none : (count : ℕ) (line : Line) (breach : Option Breach) (rest : List Found) → found_at count line breach ++ rest ≡ [] → (breach ≡ None) × (rest ≡ [])
first_none count line None rest h = (refl, h)
first_none count line (Some breach) rest h = cc

lawful_lines : (e : Event) (z : Place) (count : ℕ) (ls : List (Line × Option Breach)) → found_in count ls ≡ [] → AreLawful e z ls
lawful_lines e z count [] h = tt
lawful_lines e z count (l ∷ ls) h =
    let p = first_none count l.0 l.1 (found_in count ls) h in
    (λ _. p.0, lawful_lines e z count ls p.1)

lawful_lives : (rows : List Row) (count : ℕ) (products : List Product) (e : Event) (z : Place) → found_from rows count products ≡ [] → IsLawfulFrom rows products e z
lawful_lives rows count [] e z h = tt
lawful_lives rows count (p ∷ products) e z h =
    let q = both_empty (found_in count (judged_product rows p)) (found_from (rows_with rows p) (count + 1) products) h in
    (lawful_lines e z count (judged_product rows p) q.0, lawful_lives (rows_with rows p) (count + 1) products e z q.1)

own_breach : (rows : List Row) (t : ℕ) (all earlier : List Line) (line : Line) (routine : Bool) → is_routine line.action ≡ routine →
    (concerns line.event line.zone line ≡ true → breach_in rows t all earlier line ≡ None) → breach_in rows t all earlier line ≡ None
unfolding breach_in
own_breach rows t all earlier line true r h = rw r refl
own_breach rows t all earlier line false r h = h (rw (r, event_itself line.event, zone_itself line.zone) refl)

none_in : (rows : List Row) (t : ℕ) (all earlier lines : List Line) (count : ℕ) → ((e : Event) (z : Place) → AreLawful e z (judged_from rows t all earlier lines)) →
    found_in count (judged_from rows t all earlier lines) ≡ []
none_in rows t all earlier [] count h = refl
none_in rows t all earlier (line ∷ lines) count h =
    let own = own_breach rows t all earlier line (is_routine line.action) refl (h line.event line.zone).0 in
    ap (λ (breach : Option Breach). found_at count line breach ++ found_in count (judged_from rows t all (earlier ++ line ∷ []) lines)) own
    ∙ none_in rows t all (earlier ++ line ∷ []) lines count (λ e z. (h e z).1)

none_from : (rows : List Row) (count : ℕ) (products : List Product) → ((e : Event) (z : Place) → IsLawfulFrom rows products e z) → found_from rows count products ≡ []
none_from rows count [] h = refl
none_from rows count (p ∷ products) h =
    let lines = lines_of rows p.issue p.said in
    ap (λ (found : List Found). found ++ found_from (rows_with rows p) (count + 1) products) (none_in rows p.issue lines [] lines count (λ e z. (h e z).0))
    ∙ none_from (rows_with rows p) (count + 1) products (λ e z. (h e z).1)

-- no line is found in breach exactly where each life is lawful
pub lawful_exactly : (products : List Product) → (found_of products ≡ []) ↔ ((e : Event) (z : Place) → IsLawfulLife products e z)
unfolding found_of
lawful_exactly products = (λ h e z. lawful_lives [] 1 products e z h, none_from [] 1 products)

-- gaps

no_gap : (gaps : List Gap) → map gap_found gaps ≡ [] → gaps ≡ []
no_gap [] h = refl
no_gap (g ∷ gaps) h = cc

-- no gap is found exactly where the numbers have none
pub gapless_found : (products : List Product) → (gaps_found products ≡ []) ↔ IsGapless (opened_of products)
unfolding gaps_found
gapless_found products =
    let exactly = gapless_exactly products in
    (λ h. exactly.1 (no_gap (gaps_of products) h), λ h. ap (λ (gaps : List Gap). map gap_found gaps) (exactly.0 h))
