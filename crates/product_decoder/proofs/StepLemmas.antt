-- Steps put at their event and zone are found there, product by product.
use Rattle.std.proofs.Common.{◌≡◌, ◌∙◌, ◌&&◌, ℕ, List, [], ◌∷◌, ◌++◌, Bool, true, false, cond, not, Ordering, Less, Equal, Greater, Option, append_assoc, append-nil, map, fold, refl, ap, sym, subst}
use Rattle.std.proofs.lemmas.Bool.{and_parts, false_from_ne_true}
use Rattle.std.proofs.lemmas.Cmp.{then_total, on_total}
use Rattle.std.proofs.lemmas.Map.Lookups.{exact_pairs}
use Rattle.std.specs.BTreeMap.{insert_entry, is_at}
use Rattle.std.specs.BTreeSet.{insert_key}
use Rattle.std.specs.Cmp.{IsTotalOrder}
use Rattle.std.specs.Map.{keys_of}
use Rattle.std.specs.Option.{is_none}
use Rattle.std.specs.Ordering.{match_ordering}
use Rattle.hazard_types.specs.Orders.{by_event}
use Rattle.hazard_types.specs.Places.{Place, by_place}
use Rattle.hazard_types.specs.Same.{same_event}
use Rattle.hazard_types.specs.declared.hazard.Event.{Event}
use Rattle.hazard_types.specs.declared.line.Line.{Line}
use Rattle.hazard_types.proofs.Equality.{event_one, event_itself, zone_one, zone_itself}
use Rattle.hazard_types.proofs.OrderLaws.{by_event_total, by_event_ties, by_place_total, by_place_ties}
use Rattle.event_life.specs.declared.life.Breach.{Breach}
use Rattle.event_life.specs.Lives.{steps_of}
use Rattle.event_life.specs.Products.{is_routine, concerns, lawful_of}
use Rattle.row_index.proofs.Lists.{at_other, at_same}
use Rattle.row_index.proofs.Tests.{at_one}
use Rattle.product_decoder.specs.Runs.{Taken}
use Rattle.product_decoder.specs.declared.types.Track.{Track}
use Rattle.product_decoder.specs.Lives.{Living, by_living}
use Rattle.product_decoder.specs.Steps.{Step, Steps, steps_at, living_of, with_line, with_product, steps_of_all, track_at}
use Rattle.product_decoder.specs.Takings.{steps_in, track_in}

-- the keys, with one that is put

module _ {K V : Type 0} (cmp : K → K → Ordering) where
  keys_by : (o : Ordering) (k : K) (e : K × V) (es : List (K × V)) (v : V) (tail : List K) → keys_of (insert_entry cmp es k v) ≡ tail
      → keys_of (match_ordering o ((k, v) ∷ e ∷ es) ((e.0, v) ∷ es) (e ∷ insert_entry cmp es k v)) ≡ match_ordering o (k ∷ e.0 ∷ keys_of es) (e.0 ∷ keys_of es) (e.0 ∷ tail)
  keys_by Less k e es v tail later = refl
  keys_by Equal k e es v tail later = refl
  keys_by Greater k e es v tail later = ap (λ (ks : List K). e.0 ∷ ks) later

  pub keys_put : (k : K) (es : List (K × V)) (v : V) → keys_of (insert_entry cmp es k v) ≡ insert_key cmp (keys_of es) k
  keys_put k [] v = refl
  keys_put k (e ∷ es) v = keys_by (cmp k e.0) k e es v (insert_key cmp (keys_of es) k) (keys_put k es v)

-- events and zones

pub by_living_total : IsTotalOrder by_living
by_living_total = then_total (on_total (λ (l : Living). l.event) by_event_total) (on_total (λ (l : Living). l.zone) by_place_total)

pub by_living_ties : (a b : Living) → by_living a b ≡ Equal → a ≡ b
by_living_ties a b h = ap (λ (p : Event × Place). record { event = p.0; zone = p.1 }) (exact_pairs by_event by_place by_event_ties by_place_ties (a.event, a.zone) (b.event, b.zone) h)

spoken : (line : Line) (l : Living) → concerns l.event l.zone line ≡ true → living_of line ≡ l
spoken line l h =
    let p = and_parts (not (is_routine line.action) && same_event line.event l.event) _ h in
    let q = and_parts (not (is_routine line.action)) _ p.0 in
    let event_is = event_one line.event l.event q.1 in
    let zone_is = zone_one line.zone l.zone p.1 in
    λ i. record { event = event_is i; zone = zone_is i }

speaks : (line : Line) (l : Living) → is_routine line.action ≡ false → l ≡ living_of line → concerns l.event l.zone line ≡ true
speaks line l routine is = subst (λ (k : Living). concerns k.event k.zone line ≡ true) (sym is) (rw (routine, event_itself line.event, zone_itself line.zone) refl)

-- one line more

line_by : (b : Bool) (issue : ℕ) (steps : Steps) (line : Line) (l : Living) → is_routine line.action ≡ false → concerns l.event l.zone line ≡ b
    → steps_at (with_line issue steps line) l ≡ steps_at steps l ++ cond b ((line.action, issue) ∷ []) []
line_by true issue steps line l routine h =
    subst (λ (k : Living). steps_at (with_line issue steps line) k ≡ steps_at steps k ++ (line.action, issue) ∷ []) (spoken line l h)
    (at_same by_living by_living_total by_living_ties (living_of line) steps (steps_at steps (living_of line) ++ (line.action, issue) ∷ []))
line_by false issue steps line l routine h =
    let left : is_at (by_living l) (living_of line) ≡ false = false_from_ne_true _ (λ g.
    let e : true ≡ false = sym (speaks line l routine (at_one by_living by_living_total by_living_ties l (living_of line) g)) ∙ h in cc) in
    at_other by_living by_living_total by_living_ties l (living_of line) steps (steps_at steps (living_of line) ++ (line.action, issue) ∷ []) left
    ∙ sym (append-nil (steps_at steps l))

joined : (b : Bool) (xs : List Step) (s : Step) (rest : List Step) → (xs ++ cond b (s ∷ []) []) ++ rest ≡ xs ++ cond b (s ∷ rest) rest
joined true xs s rest = append_assoc xs (s ∷ []) rest
joined false xs s rest = append_assoc xs [] rest

lawful_by : (b : Bool) (issue : ℕ) (steps : Steps) (line : Line) (lines : List Line) (l : Living) → (b ≡ true → is_routine line.action ≡ false)
    → ((s : Steps) → steps_at (fold (with_line issue) s lines) l ≡ steps_at s l ++ steps_of issue l.event l.zone lines)
    → steps_at (fold (with_line issue) steps (cond b (line ∷ lines) lines)) l ≡ steps_at steps l ++ steps_of issue l.event l.zone (cond b (line ∷ lines) lines)
lawful_by false issue steps line lines l routine later = later steps
lawful_by true issue steps line lines l routine later =
    later (with_line issue steps line)
    ∙ ap (λ (xs : List Step). xs ++ steps_of issue l.event l.zone lines) (line_by (concerns l.event l.zone line) issue steps line l (routine refl) refl)
    ∙ joined (concerns l.event l.zone line) (steps_at steps l) (line.action, issue) (steps_of issue l.event l.zone lines)

no_routine : (b c : Bool) → (not b && c) ≡ true → b ≡ false
no_routine true c h = cc
no_routine false c h = refl

lines_at : (issue : ℕ) (steps : Steps) (judged : List (Line × Option Breach)) (l : Living)
    → steps_at (fold (with_line issue) steps (lawful_of judged)) l ≡ steps_at steps l ++ steps_of issue l.event l.zone (lawful_of judged)
lines_at issue steps [] l = sym (append-nil (steps_at steps l))
lines_at issue steps (j ∷ judged) l =
    lawful_by (not (is_routine j.0.action) && is_none j.1) issue steps j.0 (lawful_of judged) l (no_routine (is_routine j.0.action) (is_none j.1)) (λ s. lines_at issue s judged l)

products_at : (steps : Steps) (taken : List Taken) (l : Living) → steps_at (fold with_product steps taken) l ≡ steps_at steps l ++ steps_in l.event l.zone taken
products_at steps [] l = sym (append-nil (steps_at steps l))
products_at steps (t ∷ taken) l =
    products_at (with_product steps t) taken l
    ∙ ap (λ (xs : List Step). xs ++ steps_in l.event l.zone taken) (lines_at t.issue steps t.judged l)
    ∙ append_assoc (steps_at steps l) (steps_of t.issue l.event l.zone (lawful_of t.judged)) (steps_in l.event l.zone taken)

track_is : (taken : List Taken) (l : Living) → track_at (steps_of_all taken) l ≡ track_in taken l
track_is taken l = ap (λ (steps : List Step). record { event = l.event; zone = l.zone; steps = steps }) (products_at [] taken l)

-- the lives of events in zones are those that their steps in the products make
pub tracks_are : (taken : List Taken) (ls : List Living) → map (track_at (steps_of_all taken)) ls ≡ map (track_in taken) ls
tracks_are taken ls = ap (λ (f : Living → Track). map f ls) (λ i l. track_is taken l i)
