-- What a line's text said is read off the line that was judged.
use Rattle.std.proofs.Common.{◌≡◌, ◌∙◌, ◌==◌, ℕ, List, [], ◌∷◌, ◌++◌, map, fold, ◌&&◌, Bool, true, false, cond, Option, Some, None, unwrap_or, refl, ap, sym}
use Rattle.std.specs.Prelude.{nat_lt}
use Rattle.std.specs.List.{filter}
use Rattle.std.specs.Str.{bytes_eq}
use Rattle.std.proofs.lemmas.Bool.{and_parts, eqb-true}
use Rattle.std.proofs.lemmas.Slice.Eq.{bytes_eq-Decides}
use Rattle.hazard_types.specs.ZoneLines.{ZoneLine}
use Rattle.hazard_types.specs.Same.{same_hazard}
use Rattle.hazard_types.specs.declared.codes.Class.{Class}
use Rattle.hazard_types.specs.declared.hazard.Event.{Event}
use Rattle.hazard_types.specs.declared.hazard.Hazard.{Hazard}
use Rattle.hazard_types.specs.declared.line.Line.{Line}
use Rattle.hazard_types.specs.declared.line.Row.{Row}
use Rattle.hazard_types.specs.declared.line.Vtec.{Vtec}
use Rattle.hazard_types.proofs.Equality.{class_one, hazard_one}
use Rattle.event_life.specs.declared.life.Breach.{Breach}
use Rattle.event_life.specs.Lives.{judged_product}
use Rattle.event_life.specs.Periods.{keeps_open}
use Rattle.event_life.specs.Products.{Product, later_event, latest_open_event, event_of_issue, is_new, event_of, end_of, line_of, lines_of, judged_from}
use Rattle.product_decoder.specs.Runs.{Taken}
use Rattle.product_decoder.specs.declared.types.Decoded.{Decoded}
use Rattle.product_decoder.specs.declared.types.ZonePair.{ZonePair}
use Rattle.product_decoder.specs.ReaderModel.{Reading, is_by, zone_line_of_pair, said_by, product_of}
use Rattle.product_decoder.specs.Takings.{minute_of, said_in, product_taken, product_judged}

-- the event of a line has the hazard and number of its text
module _ (h : Hazard) (n : ℕ) where
  abbrev IsOf : Event → Type 0
  IsOf e = (e.hazard ≡ h) × (e.etn ≡ n)

  abbrev AnyIsOf : Option Event → Type 0
  AnyIsOf None = Unit {0}
  AnyIsOf (Some e) = IsOf e

  later_of : (best : Option Event) (e : Event) → AnyIsOf best → IsOf e → AnyIsOf (later_event best e)
  later_of None e b p = p
  later_of (Some d) e b p = by_year (nat_lt d.year e.year)
    where
      by_year : (later : Bool) → AnyIsOf (cond later (Some e) (Some d))
      by_year true = p
      by_year false = b

  number_of : (t : ℕ) (r : Row) → (same_hazard r.event.hazard h && (r.event.etn == n) && keeps_open t r) ≡ true → IsOf r.event
  number_of t r e =
      let p = and_parts (same_hazard r.event.hazard h && (r.event.etn == n)) _ e in
      let q = and_parts (same_hazard r.event.hazard h) _ p.0 in
      (hazard_one r.event.hazard h q.0, eqb-true r.event.etn n q.1)

  step_of : (b : Bool) (t : ℕ) (best : Option Event) (r : Row) → (same_hazard r.event.hazard h && (r.event.etn == n) && keeps_open t r) ≡ b → AnyIsOf best → AnyIsOf (cond b (later_event best r.event) best)
  step_of true t best r e p = later_of best r.event p (number_of t r e)
  step_of false t best r e p = p

  going_of : (t : ℕ) (rows : List Row) (best : Option Event) → AnyIsOf best → AnyIsOf (fold (λ (best : Option Event) (r : Row). cond (same_hazard r.event.hazard h && (r.event.etn == n) && keeps_open t r) (later_event best r.event) best) best rows)
  going_of t [] best p = p
  going_of t (r ∷ rows) best p = going_of t rows _ (step_of (same_hazard r.event.hazard h && (r.event.etn == n) && keeps_open t r) t best r refl p)

  or_of : (o : Option Event) (e : Event) → AnyIsOf o → IsOf e → IsOf (unwrap_or o e)
  or_of None e p q = q
  or_of (Some d) e p q = p

  by_new : (b : Bool) (d e : Event) → IsOf d → IsOf e → IsOf (cond b d e)
  by_new true d e p q = p
  by_new false d e p q = q

event_number : (rows : List Row) (t : ℕ) (vtec : Vtec) → ((event_of rows t vtec).hazard ≡ vtec.hazard) × ((event_of rows t vtec).etn ≡ vtec.etn)
event_number rows t vtec =
    by_new vtec.hazard vtec.etn (is_new vtec.action) (event_of_issue t vtec) (unwrap_or (latest_open_event rows vtec.hazard vtec.etn t) (event_of_issue t vtec)) (refl, refl)
    (or_of vtec.hazard vtec.etn (latest_open_event rows vtec.hazard vtec.etn t) (event_of_issue t vtec) (going_of vtec.hazard vtec.etn t rows None tt) (refl, refl))

end_back : (end : Option ℕ) → minute_of (end_of end) ≡ end
end_back None = refl
end_back (Some m) = refl

module _ (office : List ℕ) (class : Class) where
  line_back : (rows : List Row) (t : ℕ) (pair : ZonePair) → is_by office class pair ≡ true → said_in office class (line_of rows t (zone_line_of_pair pair)) ≡ zone_line_of_pair pair
  line_back rows t pair by =
      let p = and_parts (bytes_eq pair.vtec.office office) _ by in
      let office_is = (bytes_eq-Decides pair.vtec.office office).0 p.0 in
      let class_is = class_one pair.vtec.class class p.1 in
      let number = event_number rows t pair.vtec in
      let hazard_is = number.0 in
      let etn_is = number.1 in
      let end_is = end_back pair.vtec.end in
      λ i. record {
        zone = pair.zone;
        vtec = record { class = sym class_is i; action = pair.vtec.action; office = sym office_is i; hazard = hazard_is i; etn = etn_is i; begin = pair.vtec.begin; end = end_is i };
        flood = pair.flood;
      }

  lines_back : (rows : List Row) (t : ℕ) (pairs : List ZonePair) → map (said_in office class) (lines_of rows t (said_by office class pairs)) ≡ said_by office class pairs
  lines_back rows t [] = refl
  lines_back rows t (pair ∷ pairs) = by_case (is_by office class pair) refl (lines_back rows t pairs)
    where
      by_case : (b : Bool) → is_by office class pair ≡ b → map (said_in office class) (lines_of rows t (said_by office class pairs)) ≡ said_by office class pairs
          → map (said_in office class) (lines_of rows t (map zone_line_of_pair (cond b (pair ∷ filter (is_by office class) pairs) (filter (is_by office class) pairs)))) ≡ map zone_line_of_pair (cond b (pair ∷ filter (is_by office class) pairs) (filter (is_by office class) pairs))
      by_case true by later = let first = line_back rows t pair by in λ i. first i ∷ later i
      by_case false by later = later

  judged_back : (rows : List Row) (t : ℕ) (all earlier lines : List Line) → map (λ (l : Line × Option Breach). said_in office class l.0) (judged_from rows t all earlier lines) ≡ map (said_in office class) lines
  judged_back rows t all earlier [] = refl
  judged_back rows t all earlier (line ∷ lines) = ap (λ (more : List ZoneLine). said_in office class line ∷ more) (judged_back rows t all (earlier ++ line ∷ []) lines)

  -- a product is read off what was judged
  product_told : (rows : List Row) (d : Decoded) (t : Taken) → t.issue ≡ d.issue → t.judged ≡ judged_product rows (product_of office class d) → product_taken office class t ≡ product_of office class d
  product_told rows d t issue_is judged_is =
      let lines = lines_of rows d.issue (said_by office class d.pairs) in
      let said_is : map (λ (l : Line × Option Breach). said_in office class l.0) t.judged ≡ said_by office class d.pairs =
      ap (λ (judged : List (Line × Option Breach)). map (λ (l : Line × Option Breach). said_in office class l.0) judged) judged_is
      ∙ judged_back rows d.issue lines [] lines ∙ lines_back rows d.issue d.pairs in
      λ i. record { issue = issue_is i; said = said_is i }

  -- the product of lines that were judged of what is said
  pub judged_told : (rows : List Row) (d : Decoded) (judged : List (Line × Option Breach)) → judged ≡ judged_product rows (product_of office class d) → product_judged office class d.issue judged ≡ product_of office class d
  judged_told rows d judged is = product_told rows d (record { issue = d.issue; judged = judged }) refl is

  -- which are judged as its own
  pub judged_own : (rows : List Row) (d : Decoded) (judged : List (Line × Option Breach)) → judged ≡ judged_product rows (product_of office class d) → judged ≡ judged_product rows (product_judged office class d.issue judged)
  judged_own rows d judged is = is ∙ ap (judged_product rows) (sym (judged_told rows d judged is))

-- what is judged by the rows of a reader is what its product is judged as, and the product comes behind those before
pub kept_judged : (rows : List Row) (d : Decoded) (judged : List (Line × Option Breach)) (inside view : Reading) → inside ≡ view → judged ≡ judged_product rows (product_of inside.office inside.class d)
    → judged ≡ judged_product rows (product_judged view.office view.class d.issue judged)
kept_judged rows d judged inside view is told =
    judged_own inside.office inside.class rows d judged told ∙ ap (λ (r : Reading). judged_product rows (product_judged r.office r.class d.issue judged)) is

pub kept_next : (rows : List Row) (d : Decoded) (judged : List (Line × Option Breach)) (inside next was : Reading) → inside ≡ next → next ≡ was → judged ≡ judged_product rows (product_of inside.office inside.class d)
    → next.products ++ product_judged next.office next.class d.issue judged ∷ [] ≡ was.products ++ product_of was.office was.class d ∷ []
kept_next rows d judged inside next was is same told =
    let own = told ∙ ap (λ (r : Reading). judged_product rows (product_of r.office r.class d)) (is ∙ same) in
    ap (λ (r : Reading). r.products ++ product_judged r.office r.class d.issue judged ∷ []) same
    ∙ ap (λ (p : Product). was.products ++ p ∷ []) (judged_told was.office was.class rows d judged own)
