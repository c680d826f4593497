-- Steps of different events are put in either order: those of a run may come line by line, in place of zone by zone.
use Rattle.std.proofs.Common.{◌≡◌, ◌≢◌, ◌∙◌, ℕ, List, [], ◌∷◌, ◌++◌, Bool, true, false, cond, Ordering, Less, Equal, Greater, fold, map, refl, ap, sym, subst}
use Rattle.std.proofs.lemmas.Bool.{false_from_ne_true}
use Rattle.std.specs.BTreeMap.{insert_entry, is_at}
use Rattle.std.specs.Cmp.{IsTotalOrder}
use Rattle.std.specs.List.{AllByRecursion}
use Rattle.std.specs.Ordering.{ordering_reverse, is_eq}
use Rattle.hazard_types.specs.Places.{Place}
use Rattle.hazard_types.specs.Same.{same_event}
use Rattle.hazard_types.specs.declared.line.Line.{Line}
use Rattle.hazard_types.proofs.Equality.{event_itself}
use Rattle.row_index.specs.declared.verdicts.Verdict.{Verdict}
use Rattle.row_index.specs.Runs.{in_zone}
use Rattle.row_index.specs.Verdicts.{HaveOwnEvents, leaves_row}
use Rattle.product_decoder.specs.Lives.{Living, by_living}
use Rattle.product_decoder.specs.Steps.{Step, Steps, steps_at, with_step, living_of, with_line}
use Rattle.product_decoder.specs.ZoneSteps.{with_run, with_verdict}
use Rattle.row_index.proofs.Lists.{at_other}
use Rattle.product_decoder.proofs.StepLemmas.{by_living_total, by_living_ties}

-- entries of different keys

module _ {K V : Type 0} (cmp : K → K → Ordering) (total : IsTotalOrder cmp) (ties : (a b : K) → cmp a b ≡ Equal → a ≡ b) where
  abbrev Turns : K → K → List (K × V) → V → V → Type 0
  Turns a b es v w = insert_entry cmp (insert_entry cmp es a v) b w ≡ insert_entry cmp (insert_entry cmp es b w) a v

  -- the lower one put first, and last
  put_less : (a b : K) (es : List (K × V)) (v w : V) → cmp a b ≡ Less → Turns a b es v w
  put_less a b [] v w h =
      let turned : cmp b a ≡ Greater = total.antisymm b a ∙ ap ordering_reverse h in
      rw (h, turned) refl
  put_less a b (e ∷ es) v w h = by_second (cmp b e.0) refl (put_less a b es v w h)
    where
      turned : cmp b a ≡ Greater
      turned = total.antisymm b a ∙ ap ordering_reverse h

      by_first : (o : Ordering) → cmp a e.0 ≡ o → cmp b e.0 ≡ Greater → Turns a b es v w → Turns a b (e ∷ es) v w
      by_first Less g k later = simp (g, k, turned) refl
      by_first Equal g k later = simp (g, k) refl
      by_first Greater g k later = simp (g, k) (ap (λ (rest : List (K × V)). e ∷ rest) later)

      by_second : (o : Ordering) → cmp b e.0 ≡ o → Turns a b es v w → Turns a b (e ∷ es) v w
      by_second Less k later =
          let g : cmp a e.0 ≡ Less = total.trans a b e.0 h k in
          simp (g, k, turned, h) refl
      by_second Equal k later =
          let g : cmp a e.0 ≡ Less = subst (λ (c : K). cmp a c ≡ Less) (ties b e.0 k) h in
          simp (g, k, turned) refl
      by_second Greater k later = by_first (cmp a e.0) refl k later

  put_by : (o : Ordering) (a b : K) (es : List (K × V)) (v w : V) → cmp a b ≡ o → cmp a b ≢ Equal → Turns a b es v w
  put_by Less a b es v w h apart = put_less a b es v w h
  put_by Equal a b es v w h apart = absurd (apart h)
  put_by Greater a b es v w h apart = sym (put_less b a es w v (total.antisymm b a ∙ ap ordering_reverse h))

  pub put_apart : (a b : K) (es : List (K × V)) (v w : V) → cmp a b ≢ Equal → insert_entry cmp (insert_entry cmp es a v) b w ≡ insert_entry cmp (insert_entry cmp es b w) a v
  put_apart a b es v w apart = put_by (cmp a b) a b es v w refl apart

-- steps of different events

tied : (o : Ordering) → is_eq o ≡ true → o ≡ Equal
tied Less h = cc
tied Equal h = refl
tied Greater h = cc

not_at : (a b : Living) → by_living a b ≢ Equal → is_at (by_living a) b ≡ false
not_at a b apart = false_from_ne_true _ (λ h. apart (tied (by_living a b) h))

step_apart : (a b : Living) (steps : Steps) (s t : Step) → by_living a b ≢ Equal → by_living b a ≢ Equal → with_step (with_step steps a s) b t ≡ with_step (with_step steps b t) a s
step_apart a b steps s t apart back =
    ap (λ (own : List Step). insert_entry by_living (with_step steps a s) b (own ++ t ∷ [])) (at_other by_living by_living_total by_living_ties b a steps (steps_at steps a ++ s ∷ []) (not_at b a back))
    ∙ put_apart by_living by_living_total by_living_ties a b steps (steps_at steps a ++ s ∷ []) (steps_at steps b ++ t ∷ []) apart
    ∙ sym (ap (λ (own : List Step). insert_entry by_living (with_step steps b t) a (own ++ s ∷ [])) (at_other by_living by_living_total by_living_ties a b steps (steps_at steps b ++ t ∷ []) (not_at a b apart)))

other_event : (a b : Living) → same_event a.event b.event ≡ false → by_living a b ≢ Equal
other_event a b apart h =
    let is : a ≡ b = by_living_ties a b h in
    let own : same_event a.event b.event ≡ true = subst (λ (c : Living). same_event a.event c.event ≡ true) is (event_itself a.event) in
    let e : true ≡ false = sym own ∙ apart in
    cc

other_event_back : (a b : Living) → same_event a.event b.event ≡ false → by_living b a ≢ Equal
other_event_back a b apart h =
    let is : b ≡ a = by_living_ties b a h in
    let own : same_event a.event b.event ≡ true = subst (λ (c : Living). same_event c.event b.event ≡ true) is (event_itself b.event) in
    let e : true ≡ false = sym own ∙ apart in
    cc

line_apart : (issue : ℕ) (l m : Line) (steps : Steps) → same_event l.event m.event ≡ false → with_line issue (with_line issue steps m) l ≡ with_line issue (with_line issue steps l) m
line_apart issue l m steps h =
    sym (step_apart (living_of l) (living_of m) steps (l.action, issue) (m.action, issue) (other_event (living_of l) (living_of m) h) (other_event_back (living_of l) (living_of m) h))

-- lines that are lawful or not, in some zones

module _ (issue : ℕ) where
  -- with the step of a line, where it is lawful, in a zone
  abbrev pub one : Place → Steps → Verdict → Steps
  one z steps v = cond (leaves_row v) (with_line issue steps (in_zone v.line z)) steps

  -- and in each of some zones
  abbrev pub each : Verdict → Steps → List Place → Steps
  each v steps zones = fold (λ (s : Steps) (z : Place). one z s v) steps zones

  abbrev pub AreOthers : Verdict → List Verdict → Type 0
  AreOthers v ws = AllByRecursion (λ (m : Line). same_event v.line.event m.event ≡ false) (map (λ (w : Verdict). w.line) ws)

  one_one : (b c : Bool) (l m : Line) (steps : Steps) → same_event l.event m.event ≡ false
      → cond b (with_line issue (cond c (with_line issue steps m) steps) l) (cond c (with_line issue steps m) steps)
      ≡ cond c (with_line issue (cond b (with_line issue steps l) steps) m) (cond b (with_line issue steps l) steps)
  one_one true true l m steps h = line_apart issue l m steps h
  one_one true false l m steps h = refl
  one_one false true l m steps h = refl
  one_one false false l m steps h = refl

  one_past : (z y : Place) (v : Verdict) (ws : List Verdict) (steps : Steps) → AreOthers v ws → one z (fold (one y) steps ws) v ≡ fold (one y) (one z steps v) ws
  one_past z y v [] steps h = refl
  one_past z y v (w ∷ ws) steps h =
      one_past z y v ws (one y steps w) h.1
      ∙ ap (λ (s : Steps). fold (one y) s ws) (one_one (leaves_row v) (leaves_row w) (in_zone v.line z) (in_zone w.line y) steps h.0)

  each_past : (y : Place) (v : Verdict) (ws : List Verdict) (zones : List Place) (steps : Steps) → AreOthers v ws → each v (fold (one y) steps ws) zones ≡ fold (one y) (each v steps zones) ws
  each_past y v ws [] steps h = refl
  each_past y v ws (z ∷ zones) steps h = ap (λ (s : Steps). each v s zones) (one_past z y v ws steps h) ∙ each_past y v ws zones (one z steps v) h

  -- zone by zone
  abbrev by_zone : List Verdict → Steps → List Place → Steps
  by_zone vs steps zones = fold (λ (s : Steps) (z : Place). fold (one z) s vs) steps zones

  -- the first line before all others
  first_out : (v : Verdict) (ws : List Verdict) (zones : List Place) (steps : Steps) → AreOthers v ws → by_zone (v ∷ ws) steps zones ≡ by_zone ws (each v steps zones) zones
  first_out v ws [] steps h = refl
  first_out v ws (z ∷ zones) steps h =
      first_out v ws zones (fold (one z) (one z steps v) ws) h
      ∙ ap (λ (s : Steps). by_zone ws s zones) (each_past z v ws zones (one z steps v) h)

  none_by_zone : (zones : List Place) (steps : Steps) → by_zone [] steps zones ≡ steps
  none_by_zone [] steps = refl
  none_by_zone (z ∷ zones) steps = none_by_zone zones steps

  -- the lines of a run, each in all zones
  by_line : (vs : List Verdict) (zones : List Place) (steps : Steps) → HaveOwnEvents (map (λ (v : Verdict). v.line) vs)
      → by_zone vs steps zones ≡ fold (λ (s : Steps) (v : Verdict). each v s zones) steps vs
  by_line [] zones steps h = none_by_zone zones steps
  by_line (v ∷ vs) zones steps h = first_out v vs zones steps h.0 ∙ by_line vs zones (each v steps zones) h.1

  each_by : (b : Bool) (l : Line) (zones : List Place) (steps : Steps)
      → fold (λ (s : Steps) (z : Place). cond b (with_line issue s (in_zone l z)) s) steps zones ≡ cond b (with_run (l.action, issue) l.event steps zones) steps
  each_by true l zones steps = refl
  each_by false l [] steps = refl
  each_by false l (z ∷ zones) steps = each_by false l zones steps

  each_told : (zones : List Place) (v : Verdict) (steps : Steps) → each v steps zones ≡ with_verdict issue zones steps v
  each_told zones v steps = each_by (leaves_row v) v.line zones steps

  -- what the lines of a run do zone by zone they do line by line
  pub turned_run : (vs : List Verdict) (zones : List Place) (steps : Steps) → HaveOwnEvents (map (λ (v : Verdict). v.line) vs)
      → fold (λ (s : Steps) (z : Place). fold (one z) s vs) steps zones ≡ fold (with_verdict issue zones) steps vs
  turned_run vs zones steps h =
      by_line vs zones steps h ∙ ap (λ (f : Steps → Verdict → Steps). fold f steps vs) (λ i s v. each_told zones v s i)
