-- What was taken comes to what the products say.
use Rattle.std.proofs.Common.{◌≡◌, ◌∙◌, ◌<◌, ◌+◌, ℕ, List, [], ◌∷◌, ◌++◌, length, map, fold, Option, Some, None, refl, sym, ap, arith, length-append, subst}
use Rattle.std.proofs.lemmas.List.{length-map, map-append}
use Rattle.std.proofs.lemmas.Grind.{fold-append}
use Rattle.hazard_types.specs.Places.{Place}
use Rattle.hazard_types.specs.declared.codes.Action.{Action}
use Rattle.hazard_types.specs.declared.codes.Class.{Class}
use Rattle.hazard_types.specs.declared.hazard.Event.{Event}
use Rattle.hazard_types.specs.declared.line.Line.{Line}
use Rattle.hazard_types.specs.declared.line.Row.{Row}
use Rattle.event_life.specs.declared.life.Breach.{Breach}
use Rattle.event_life.specs.Lives.{judged_product, steps_of, track_from}
use Rattle.event_life.specs.Openings.{events_opened_by, opened_from, gaps_from}
use Rattle.event_life.specs.Products.{Product, lawful_of, put_all, rows_after, rows_with, rows_of}
use Rattle.product_decoder.specs.Runs.{Taken}
use Rattle.product_decoder.specs.declared.types.Found.{Found}
use Rattle.product_decoder.specs.declared.types.Track.{Track}
use Rattle.product_decoder.specs.Lives.{Living, living_in}
use Rattle.product_decoder.specs.ReaderModel.{found_in, found_from, found_of, life_in, lives_of, gap_found, gaps_found}
use Rattle.product_decoder.specs.Takings.{product_taken, product_judged, products_taken, AreJudged, rows_with_taken, rows_taken, AreLeft, IsRead, steps_in, track_in, breaches_in, opened_in}

some_one : (a b : List Row) → ◌≡◌ {A = Option (List Row)} (Some a) (Some b) → a ≡ b
some_one a b h = cc

held_by : (held : Option (List Row)) (rows : List Row) (products : List Product) → held ≡ Some rows → AreLeft held products → rows ≡ rows_of products
held_by None rows products h left = cc
held_by (Some held) rows products h left = rw (← some_one held rows h) left

taken_is : (t : Taken) (issue : ℕ) (judged : List (Line × Option Breach)) → t.issue ≡ issue → t.judged ≡ judged → t ≡ record { issue = issue; judged = judged }
taken_is t issue judged issue_is judged_is = λ i. record { issue = issue_is i; judged = judged_is i }

module _ (office : List ℕ) (class : Class) where
  steps_told : (rows : List Row) (taken : List Taken) (e : Event) (z : Place) → AreJudged office class rows taken → steps_in e z taken ≡ track_from rows (products_taken office class taken) e z
  steps_told rows [] e z h = refl
  steps_told rows (t ∷ taken) e z h =
      ap (λ (judged : List (Line × Option Breach)). steps_of t.issue e z (lawful_of judged) ++ steps_in e z taken) h.0
      ∙ ap (λ (steps : List (Action × ℕ)). steps_of t.issue e z (lawful_of (judged_product rows (product_taken office class t))) ++ steps) (steps_told (rows_with rows (product_taken office class t)) taken e z h.1)

  breaches_told : (rows : List Row) (count : ℕ) (taken : List Taken) → AreJudged office class rows taken → breaches_in count taken ≡ found_from rows count (products_taken office class taken)
  breaches_told rows count [] h = refl
  breaches_told rows count (t ∷ taken) h =
      ap (λ (judged : List (Line × Option Breach)). found_in count judged ++ breaches_in (count + 1) taken) h.0
      ∙ ap (λ (found : List Found). found_in count (judged_product rows (product_taken office class t)) ++ found) (breaches_told (rows_with rows (product_taken office class t)) (count + 1) taken h.1)

  opened_told : (rows : List Row) (taken : List Taken) → AreJudged office class rows taken → opened_in taken ≡ opened_from rows (products_taken office class taken)
  opened_told rows [] h = refl
  opened_told rows (t ∷ taken) h =
      ap (λ (judged : List (Line × Option Breach)). events_opened_by (lawful_of judged) ++ opened_in taken) h.0
      ∙ ap (λ (events : List Event). events_opened_by (lawful_of (judged_product rows (product_taken office class t))) ++ events) (opened_told (rows_with rows (product_taken office class t)) taken h.1)

  judged_push : (rows : List Row) (taken : List Taken) (t : Taken) → AreJudged office class rows taken →
      t.judged ≡ judged_product (fold rows_with rows (products_taken office class taken)) (product_taken office class t) → AreJudged office class rows (taken ++ t ∷ [])
  judged_push rows [] t h j = (j, tt)
  judged_push rows (u ∷ taken) t h j = (h.0, judged_push (rows_with rows (product_taken office class u)) taken t h.1 j)

  -- the rows after products that were judged are those after the products
  rows_told : (rows : List Row) (taken : List Taken) → AreJudged office class rows taken → fold rows_with_taken rows taken ≡ fold rows_with rows (products_taken office class taken)
  unfolding rows_after
  rows_told rows [] h = refl
  rows_told rows (t ∷ taken) h =
      ap (λ (judged : List (Line × Option Breach)). fold rows_with_taken (put_all rows t.issue (lawful_of judged) rows) taken) h.0
      ∙ rows_told (rows_with rows (product_taken office class t)) taken h.1

  pub rows_read : (held : Option (List Row)) (taken : List Taken) → IsRead office class held taken → rows_taken taken ≡ rows_of (products_taken office class taken)
  rows_read held taken h = rows_told [] taken h.judged

  -- rows that are held are those after the products
  pub rows_held : (held : Option (List Row)) (rows : List Row) (taken : List Taken) → held ≡ Some rows → IsRead office class held taken → rows ≡ rows_of (products_taken office class taken)
  rows_held held rows taken h read = held_by held rows (products_taken office class taken) h read.left

  -- the rows after one product more
  rows_push : (taken : List Taken) (t : Taken) → rows_of (products_taken office class (taken ++ t ∷ [])) ≡ rows_with (rows_of (products_taken office class taken)) (product_taken office class t)
  rows_push taken t =
      ap (λ (products : List Product). rows_of products) (map-append (product_taken office class) taken (t ∷ []))
      ∙ fold-append rows_with [] (products_taken office class taken) (product_taken office class t ∷ [])

  -- what is read stays so where no rows are held
  pub read_freed : (held : Option (List Row)) (taken : List Taken) → IsRead office class held taken → IsRead office class None taken
  read_freed held taken h = record { left = tt; judged = h.judged; few = h.few }

  -- what is read stays so with one product more
  read_push : (held : Option (List Row)) (rows after : List Row) (taken : List Taken) (t : Taken) → IsRead office class held taken → rows ≡ rows_of (products_taken office class taken) → length taken < 4294967295 →
      t.judged ≡ judged_product rows (product_taken office class t) → after ≡ rows_with rows (product_taken office class t) → IsRead office class (Some after) (taken ++ t ∷ [])
  read_push held rows after taken t h rows_are few judged after_is = record {
    left = after_is ∙ ap (λ (rows : List Row). rows_with rows (product_taken office class t)) rows_are ∙ sym (rows_push taken t);
    judged = judged_push [] taken t h.judged (judged ∙ ap (λ (rows : List Row). judged_product rows (product_taken office class t)) rows_are);
    few = rw length-append (omega arith);
  }

  -- the products with one more
  products_push : (taken more : List Taken) (t : Taken) (p : Product) → more ≡ taken ++ t ∷ [] → product_taken office class t ≡ p → products_taken office class more ≡ products_taken office class taken ++ p ∷ []
  products_push taken more t p more_is product =
      ap (products_taken office class) more_is ∙ map-append (product_taken office class) taken (t ∷ [])
      ∙ ap (λ (p : Product). products_taken office class taken ++ p ∷ []) product

  -- a product that is kept leaves what is read
  pub keep_read : (held : Option (List Row)) (rows after : List Row) (taken more : List Taken) (t : Taken) (issue : ℕ) (judged : List (Line × Option Breach)) → IsRead office class held taken →
      rows ≡ rows_of (products_taken office class taken) →
      length (products_taken office class taken) < 4294967295 → judged ≡ judged_product rows (product_judged office class issue judged) →
      after ≡ put_all rows issue (lawful_of judged) rows → t.issue ≡ issue → t.judged ≡ judged → more ≡ taken ++ t ∷ [] → IsRead office class (Some after) more
  unfolding rows_after
  keep_read held rows after taken more t issue judged h rows_are few judged_are after_is issue_is judged_is more_is =
      let t_is = taken_is t issue judged issue_is judged_is in
      let j : t.judged ≡ judged_product rows (product_taken office class t) = judged_is ∙ judged_are ∙ ap (λ (u : Taken). judged_product rows (product_taken office class u)) (sym t_is) in
      let few' : length taken < 4294967295 = subst (λ (n : ℕ). n < 4294967295) (length-map taken (product_taken office class)) few in
      let left : after ≡ rows_with rows (product_taken office class t) =
      after_is
      ∙ ap (λ (u : Taken). put_all rows u.issue (lawful_of u.judged) rows) (sym t_is)
      ∙ ap (λ (found : List (Line × Option Breach)). put_all rows t.issue (lawful_of found) rows) j in
      subst (λ (more : List Taken). IsRead office class (Some after) more) (sym more_is) (read_push held rows after taken t h rows_are few' j left)

  -- the products with the one that is kept
  pub products_keep : (taken more : List Taken) (t : Taken) (issue : ℕ) (judged : List (Line × Option Breach)) → t.issue ≡ issue → t.judged ≡ judged → more ≡ taken ++ t ∷ [] →
      products_taken office class more ≡ products_taken office class taken ++ product_judged office class issue judged ∷ []
  products_keep taken more t issue judged issue_is judged_is more_is =
      products_push taken more t (product_judged office class issue judged) more_is (ap (product_taken office class) (taken_is t issue judged issue_is judged_is))

  track_told : (taken : List Taken) → AreJudged office class [] taken → (l : Living) → track_in taken l ≡ life_in (products_taken office class taken) l
  track_told taken h l = ap (λ (steps : List (Action × ℕ)). record { event = l.event; zone = l.zone; steps = steps }) (steps_told [] taken l.event l.zone h)

  pub lives_read : (held : Option (List Row)) (taken : List Taken) → IsRead office class held taken → map (track_in taken) (living_in (rows_taken taken)) ≡ lives_of (products_taken office class taken)
  unfolding lives_of
  lives_read held taken h =
      ap (λ (rows : List Row). map (track_in taken) (living_in rows)) (rows_read held taken h)
      ∙ ap (λ (f : Living → Track). map f (living_in (rows_of (products_taken office class taken)))) (λ i l. track_told taken h.judged l i)

  pub breaches_read : (held : Option (List Row)) (taken : List Taken) → IsRead office class held taken → breaches_in 1 taken ≡ found_of (products_taken office class taken)
  unfolding found_of
  breaches_read held taken h = breaches_told [] 1 taken h.judged

  pub gaps_read : (held : Option (List Row)) (taken : List Taken) → IsRead office class held taken → map gap_found (gaps_from [] (opened_in taken)) ≡ gaps_found (products_taken office class taken)
  unfolding gaps_found
  gaps_read held taken h = ap (λ (events : List Event). map gap_found (gaps_from [] events)) (opened_told [] taken h.judged)
