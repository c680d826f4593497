-- The rows of a flood event all have H-VTEC, with one location, after a product too.
use Rattle.std.proofs.Common.{◌≡◌, ◌⊎◌, ◌&&◌, inl, inr, not, ℕ, ◌+◌, ◌≤◌, List, [], ◌∷◌, ◌++◌, Bool, true, false, Option, Some, None, refl, sym, ap, subst, ◌∙◌, cond, find, filter, arith}
use Rattle.std.proofs.lemmas.Bool.{and_parts, both_ways, not-false}
use Rattle.std.proofs.lemmas.List.Sums.{sum_by-append, sum_by-cons}
use Rattle.std.proofs.lemmas.Slice.Eq.{bytes_eq-Decides}
use Rattle.std.specs.List.{AllByRecursion, count_by}
use Rattle.std.specs.Option.{is_none, is_some}
use Rattle.hazard_types.specs.Days.{year_of}
use Rattle.hazard_types.specs.Hazards.{facts_of}
use Rattle.hazard_types.specs.Same.{same_event}
use Rattle.hazard_types.specs.declared.hazard.Event.{Event}
use Rattle.hazard_types.specs.declared.hazard.Hazard.{Hazard}
use Rattle.hazard_types.specs.declared.line.Flood.{Flood}
use Rattle.hazard_types.specs.declared.line.Line.{Line}
use Rattle.hazard_types.specs.declared.line.Row.{Row}
use Rattle.office_types.specs.declared.refusal.Refusal.{Refusal}
use Rattle.office_types.specs.declared.request.Intent.{Intent}
use Rattle.office_types.specs.declared.request.Intent.TheVariants.{Put, Finish, Restate, Routine}
use Rattle.office_types.specs.declared.request.PutPart.{PutPart}
use Rattle.office_types.specs.declared.request.Target.{Target}
use Rattle.office_types.specs.declared.request.Target.TheVariants.{Fresh, Join}
use Rattle.hazard_types.proofs.Equality.{event_itself, event_one, hazard_itself}
use Rattle.event_life.specs.Periods.{keeps_open}
use Rattle.event_life.specs.Products.{has_rows, is_open, row_after, rows_after}
use Rattle.event_life.specs.Reordered.{are_lawful}
use Rattle.event_life.proofs.LawfulLemmas.{touches}
use Rattle.event_numbers.specs.declared.Count.{Count}
use Rattle.event_numbers.specs.Counts.{count_of}
use Rattle.action_planner.specs.Conditions.{AreSited, needs_values, site_of}
use Rattle.action_planner.specs.Offences.{differs, is_join_target, moves_site, needed_flood, needed_flood_of, needs_event, other_site, site_moved_of}
use Rattle.action_planner.specs.Placed.{Placed, event_of_intent, event_of_target, is_opening, is_opening_target, opens_hazard, placed_from}
use Rattle.action_planner.proofs.AfterLemmas.{after_from, all_after, later_from, pair_of, row_flood}
use Rattle.action_planner.proofs.LawfulLists.{EachPair, Has, all_has, all_weaker, any_has, every, has_any, has_filter}
use Rattle.action_planner.proofs.LawfulLines.{not_bad}
use Rattle.action_planner.proofs.LawfulPlaced.{IsFit}
use Rattle.action_planner.proofs.RoutineLemmas.{is_routine_intent}
use Rattle.action_planner.proofs.SourceLemmas.{Comes, FromPut, FromRoutine, FromRow}

-- the event's hazard needs H-VTEC
abbrev pub Needs : Event → Type 0
Needs e = needs_values (facts_of e.hazard) ≡ true

-- both are of one event, and name one location
abbrev pub AtOne : Row → Row → Type 0
AtOne a b = Needs a.event → a.event ≡ b.event → site_of a.flood ≡ site_of b.flood

at_one_turned : (a b : Row) → AtOne a b → AtOne b a
at_one_turned a b one needs same = sym (one (subst Needs same needs) (sym same))

pub rows_at_one : (rows : List Row) → AreSited rows → (a b : Row) → Has rows a → Has rows b → AtOne a b
rows_at_one rows sited = pair_of AtOne (λ a needs same. refl) at_one_turned rows sited.one

-- ---- after lines

some_is : (o : Option Flood) → is_some o ≡ true → (f : Flood) × (o ≡ Some f)
some_is None h = cc
some_is (Some f) h = (f, refl)

module _ (rows : List Row) (sited : AreSited rows) (lines : List Line) where
  -- a line of a flood event has flood values
  abbrev pub HasValues : Line → Type 0
  HasValues line = Needs line.event → is_some line.flood ≡ true

  -- its location is that of the event's rows
  abbrev pub AtRows : Line → Type 0
  AtRows line = (row : Row) → Has rows row → Needs line.event → row.event ≡ line.event → site_of row.flood ≡ site_of line.flood

  abbrev pub LinesAtOne : Type 0
  LinesAtOne = (l m : Line) → Has (filter touches lines) l → Has (filter touches lines) m → Needs l.event → l.event ≡ m.event → site_of l.flood ≡ site_of m.flood

  module _ (t : ℕ) (lawful : are_lawful rows t lines ≡ true) (values : AllByRecursion HasValues (filter touches lines)) (at_rows : AllByRecursion AtRows (filter touches lines)) (at_one : LinesAtOne) where
    -- the row of a line has its flood values
    kept_flood : (l : Line) → HasValues l → Needs l.event → (row_after rows t l).flood ≡ l.flood
    kept_flood l own needs = let f = some_is l.flood (own needs) in row_flood rows t l f.0 f.1 ∙ sym f.1

    values_after : AllByRecursion (λ (row : Row). Needs row.event → is_some row.flood ≡ true) (rows_after rows t lines)
    values_after =
        let P : Row → Type 0 = λ row. Needs row.event → is_some row.flood ≡ true in
        all_after P rows t lines lawful sited.values
        (all_weaker HasValues (λ l. P (row_after rows t l)) (λ l own needs. ap is_some (kept_flood l own needs) ∙ own needs) (filter touches lines) values)

    abbrev Stood : Row → Type 0
    Stood x = ((l : Line) × Has (filter touches lines) l × (x ≡ row_after rows t l)) ⊎ Has rows x

    site_left : (x : Row) (l : Line) → Has (filter touches lines) l → x ≡ row_after rows t l → Needs x.event → site_of x.flood ≡ site_of l.flood
    site_left x l h e needs =
        let n : Needs l.event = subst (λ (r : Row). Needs r.event) e needs in
        ap (λ (r : Row). site_of r.flood) e ∙ ap site_of (kept_flood l (all_has HasValues (filter touches lines) l values h) n)

    two : (x y : Row) → Stood x → Stood y → AtOne x y
    two x y (inl (l, h, e)) (inl (m, g, f)) needs same =
        let lx : x.event ≡ l.event = ap (λ (r : Row). r.event) e in
        let my : y.event ≡ m.event = ap (λ (r : Row). r.event) f in
        site_left x l h e needs ∙ at_one l m h g (subst Needs lx needs) (sym lx ∙ same ∙ my) ∙ sym (site_left y m g f (subst Needs same needs))
    two x y (inl (l, h, e)) (inr g) needs same =
        let lx : x.event ≡ l.event = ap (λ (r : Row). r.event) e in
        site_left x l h e needs ∙ sym (all_has AtRows (filter touches lines) l at_rows h y g (subst Needs lx needs) (sym same ∙ lx))
    two x y (inr h) (inl (m, g, f)) needs same =
        let my : y.event ≡ m.event = ap (λ (r : Row). r.event) f in
        all_has AtRows (filter touches lines) m at_rows g x h (subst Needs (same ∙ my) needs) (same ∙ my) ∙ sym (site_left y m g f (subst Needs same needs))
    two x y (inr h) (inr g) needs same = rows_at_one rows sited x y h g needs same

    pub sited_after : AreSited (rows_after rows t lines)
    sited_after = record {
      values = values_after;
      one = later_from AtOne (rows_after rows t lines) (λ x y h g. two x y (after_from rows t lines lawful x h) (after_from rows t lines lawful y g));
    }

-- ---- new events are apart

-- two intents do not open one event
abbrev pub OpenTwo : Placed → Placed → Type 0
OpenTwo p q = is_opening p.intent ≡ true → is_opening q.intent ≡ true → p.event ≡ q.event → ⊥

module _ (counts : List Count) (t : ℕ) where
  abbrev next : Hazard → List Intent → ℕ
  next h earlier = count_of counts h (year_of t) + 1 + count_by (opens_hazard h) earlier

  next-push : (h : Hazard) (earlier : List Intent) (i : Intent) → next h (earlier ++ i ∷ []) ≡ next h earlier + cond (opens_hazard h i) 1 0
  next-push h earlier i =
      let more : count_by (opens_hazard h) (earlier ++ i ∷ []) ≡ count_by (opens_hazard h) earlier + count_by (opens_hazard h) (i ∷ []) = sum_by-append (λ (x : Intent). cond (opens_hazard h x) 1 0) earlier (i ∷ []) in
      let one : count_by (opens_hazard h) (i ∷ []) ≡ cond (opens_hazard h i) 1 0 + 0 = sum_by-cons (λ (x : Intent). cond (opens_hazard h x) 1 0) i [] in
      omega (arith, more, one)

  abbrev IsBehind : List Intent → Placed → Type 0
  IsBehind earlier p = is_opening p.intent ≡ true → next p.event.hazard earlier ≤ p.event.etn

  behind_target : (earlier : List Intent) (target : Target) → is_opening_target target ≡ true → next (event_of_target counts t earlier target).hazard earlier ≤ (event_of_target counts t earlier target).etn
  behind_target earlier (Fresh h) o = omega arith
  behind_target earlier (Join d) o = cc

  behind_intent : (earlier : List Intent) (i : Intent) → is_opening i ≡ true → next (event_of_intent counts t earlier i).hazard earlier ≤ (event_of_intent counts t earlier i).etn
  behind_intent earlier (Put part) o = behind_target earlier part.target o
  behind_intent earlier (Finish part) o = cc
  behind_intent earlier (Restate part) o = cc
  behind_intent earlier (Routine part) o = cc

  later_behind : (earlier : List Intent) (i : Intent) (p : Placed) → IsBehind (earlier ++ i ∷ []) p → IsBehind earlier p
  later_behind earlier i p behind o = let b = behind o in let e = next-push p.event.hazard earlier i in omega (arith, b, e)

  all_behind : (earlier intents : List Intent) → AllByRecursion (IsBehind earlier) (placed_from counts t earlier intents)
  all_behind earlier [] = tt
  all_behind earlier (i ∷ intents) = (behind_intent earlier i, all_weaker (IsBehind (earlier ++ i ∷ [])) (IsBehind earlier) (later_behind earlier i) (placed_from counts t (earlier ++ i ∷ []) intents) (all_behind (earlier ++ i ∷ []) intents))

  own_target : (earlier : List Intent) (target : Target) (part : PutPart) → part.target ≡ target → is_opening_target target ≡ true →
      (opens_hazard (event_of_target counts t earlier target).hazard (Put part) ≡ true) × ((event_of_target counts t earlier target).etn ≡ next (event_of_target counts t earlier target).hazard earlier)
  own_target earlier (Fresh h) part e o = (rw e (hazard_itself h), refl)
  own_target earlier (Join d) part e o = cc

  own_intent : (earlier : List Intent) (i : Intent) → is_opening i ≡ true → (opens_hazard (event_of_intent counts t earlier i).hazard i ≡ true) × ((event_of_intent counts t earlier i).etn ≡ next (event_of_intent counts t earlier i).hazard earlier)
  own_intent earlier (Put part) o = own_target earlier part.target part refl o
  own_intent earlier (Finish part) o = cc
  own_intent earlier (Restate part) o = cc
  own_intent earlier (Routine part) o = cc

  first_two : (earlier : List Intent) (i : Intent) (q : Placed) → IsBehind (earlier ++ i ∷ []) q → OpenTwo (record { place = 0; event = event_of_intent counts t earlier i; intent = i }) q
  first_two earlier i q behind o p same =
      let e : Event = event_of_intent counts t earlier i in
      let own = own_intent earlier i o in
      let b : next q.event.hazard (earlier ++ i ∷ []) ≤ q.event.etn = behind p in
      let c : next e.hazard (earlier ++ i ∷ []) ≤ e.etn = subst (λ (x : Event). next x.hazard (earlier ++ i ∷ []) ≤ x.etn) (sym same) b in
      let push : next e.hazard (earlier ++ i ∷ []) ≡ next e.hazard earlier + 1 = next-push e.hazard earlier i ∙ ap (λ (x : Bool). next e.hazard earlier + cond x 1 0) own.0 in
      let n : e.etn ≡ next e.hazard earlier = own.1 in
      absurd (omega (arith, c, push, n))

  pub opened_apart : (earlier intents : List Intent) → EachPair OpenTwo (placed_from counts t earlier intents)
  opened_apart earlier [] = tt
  opened_apart earlier (i ∷ intents) = (
    all_weaker (IsBehind (earlier ++ i ∷ [])) (OpenTwo (record { place = 0; event = event_of_intent counts t earlier i; intent = i })) (first_two earlier i) (placed_from counts t (earlier ++ i ∷ []) intents) (all_behind (earlier ++ i ∷ []) intents),
    opened_apart (earlier ++ i ∷ []) intents,
  )

-- of two intents that open one event, one is the other
one_of : (ps : List Placed) → EachPair OpenTwo ps → (p q : Placed) → Has ps p → Has ps q → is_opening p.intent ≡ true → is_opening q.intent ≡ true → p.event ≡ q.event → p.intent ≡ q.intent
one_of [] apart p q h g o k same = absurd h
one_of (x ∷ ps) apart p q (inl e) (inl f) o k same = ap (λ (y : Placed). y.intent) (sym e ∙ f)
one_of (x ∷ ps) apart p q (inl e) (inr g) o k same =
    let two : OpenTwo x q = all_has (OpenTwo x) ps q apart.0 g in
    absurd (two (ap (λ (y : Placed). is_opening y.intent) e ∙ o) k (ap (λ (y : Placed). y.event) e ∙ same))
one_of (x ∷ ps) apart p q (inr h) (inl f) o k same =
    let two : OpenTwo x p = all_has (OpenTwo x) ps p apart.0 h in
    absurd (two (ap (λ (y : Placed). is_opening y.intent) f ∙ k) o (ap (λ (y : Placed). y.event) f ∙ sym same))
one_of (x ∷ ps) apart p q (inr h) (inr g) o k same = one_of ps apart.1 p q h g o k same

-- ---- a draft's lines

-- what the rules on flood values say

named_by : (lacks needs : Bool) (r : Refusal) → cond (lacks && needs) (Some r) None ≡ None → needs ≡ true → lacks ≡ false
named_by false needs r h n = refl
named_by true true r h n = cc
named_by true false r h n = cc

has_by : (o : Option Flood) → is_none o ≡ false → is_some o ≡ true
has_by None h = cc
has_by (Some f) h = refl

put_values : (p : Placed) (part : PutPart) → p.intent ≡ Put part → needed_flood p ≡ None → Needs p.event → is_some part.flood ≡ true
put_values p part is none needs =
    let own : needed_flood_of p.place p.event (Put part) ≡ None = ap (needed_flood_of p.place p.event) (sym is) ∙ none in
    has_by part.flood (named_by (is_none part.flood) (needs_values (facts_of p.event.hazard)) _ own needs)

routine_by : (place : ℕ) (e : Event) (i : Intent) → is_routine_intent i ≡ true → needed_flood_of place e i ≡ None → needs_values (facts_of e.hazard) ≡ false
routine_by place e (Put part) is none = cc
routine_by place e (Finish part) is none = cc
routine_by place e (Restate part) is none = cc
routine_by place e (Routine part) is none = not_bad (needs_values (facts_of e.hazard)) _ none

module _ (rows : List Row) (t : ℕ) (all : List Placed) (sited : AreSited rows) (fit : AllByRecursion (IsFit rows t all) all) where
  fit_of : (p : Placed) → Has all p → IsFit rows t all p
  fit_of p h = all_has (IsFit rows t all) all p fit h

  values_of : (line : Line) → Comes rows all line → Needs line.event → is_some line.flood ≡ true
  values_of line (inl f) needs = ap is_some (sym f.flood) ∙ all_has (λ (row : Row). Needs row.event → is_some row.flood ≡ true) rows f.row sited.values f.there (subst Needs (sym f.event) needs)
  values_of line (inr (inl f)) needs = ap is_some (sym f.flood) ∙ put_values f.by f.part f.put (fit_of f.by f.among).flood (subst Needs (sym f.event) needs)
  values_of line (inr (inr f)) needs =
      let not_needed : needs_values (facts_of f.by.event.hazard) ≡ false = routine_by f.by.place f.by.event f.by.intent f.routine (fit_of f.by f.among).flood in
      absurd (both_ways _ not_needed (subst Needs (sym f.event) needs))

  -- the first row of an open event

  first_is : (e : Event) → has_rows rows e ≡ true → (row : Row) × Has rows row × (row.event ≡ e) × (find (λ (r : Row). same_event r.event e) rows ≡ Some row)
  first_is e h = first_of rows h
    where
      step : (e : Event) (b : Bool) (r : Row) (rest : List Row) → same_event r.event e ≡ b → (has_rows rest e ≡ true → (row : Row) × Has rest row × (row.event ≡ e) × (find (λ (r : Row). same_event r.event e) rest ≡ Some row)) →
          has_rows (r ∷ rest) e ≡ true → (row : Row) × Has (r ∷ rest) row × (row.event ≡ e) × (find (λ (r : Row). same_event r.event e) (r ∷ rest) ≡ Some row)
      step e true r rest is more h = (r, inl refl, event_one r.event e is, rw is refl)
      step e false r rest is more h = let m = more (let g = rw is at h in g) in (m.0, inr m.1, m.2, rw is m.3)

      first_of : (some : List Row) → has_rows some e ≡ true → (row : Row) × Has some row × (row.event ≡ e) × (find (λ (r : Row). same_event r.event e) some ≡ Some row)
      first_of [] h = cc
      first_of (r ∷ rest) h = step e (same_event r.event e) r rest refl (first_of rest) h

  pub open_has : (e : Event) → is_open rows t e ≡ true → has_rows rows e ≡ true
  open_has e h =
      let m = has_any (λ (r : Row). same_event r.event e && keeps_open t r) rows h in
      any_has (λ (r : Row). same_event r.event e) rows m.0 m.1 (and_parts (same_event m.0.event e) _ m.2).0

  sites_alike : (a b : Option (List ℕ)) → is_some a ≡ true → is_some b ≡ true → differs a b ≡ false → a ≡ b
  sites_alike None b x y h = cc
  sites_alike (Some a) None x y h = cc
  sites_alike (Some a) (Some b) x y h = ap Some ((bytes_eq-Decides a b).0 (not-false _ h))

  site_some : (o : Option Flood) → is_some o ≡ true → is_some (site_of o) ≡ true
  site_some None h = cc
  site_some (Some f) h = refl

  -- a put that joins names the location of the event's rows
  joined_site : (p : Placed) → Has all p → (part : PutPart) → p.intent ≡ Put part → is_opening p.intent ≡ false → Needs p.event → (row : Row) → Has rows row → row.event ≡ p.event → site_of row.flood ≡ site_of part.flood
  joined_site p h part is joins needs row there same =
      let own = fit_of p h in
      let is_join : is_opening_target part.target ≡ false = ap is_opening (sym is) ∙ joins in
      let going : is_open rows t p.event ≡ true = own.known (ap needs_event is ∙ ap not is_join) in
      let first = first_is p.event (open_has p.event going) in
      let moved : site_moved_of rows p.event (Put part) ≡ None = ap (site_moved_of rows p.event) (sym is) ∙ own.site in
      let still : moves_site rows p.event part ≡ false = not_bad (moves_site rows p.event part) _ moved in
      let differ : differs (site_of first.0.flood) (site_of part.flood) ≡ false = joining part.target is_join (ap (λ (o : Option Row). other_site o part.flood) (sym first.3)) still in
      let row_values : is_some first.0.flood ≡ true = all_has (λ (r : Row). Needs r.event → is_some r.flood ≡ true) rows first.0 sited.values first.1 (subst Needs (sym first.2) needs) in
      let alike = sites_alike (site_of first.0.flood) (site_of part.flood) (site_some first.0.flood row_values) (site_some part.flood (put_values p part is own.flood needs)) differ in
      rows_at_one rows sited row first.0 there first.1 (subst Needs (sym same) needs) (same ∙ sym first.2) ∙ alike
    where
      joining : (target : Target) {x y : Bool} → is_opening_target target ≡ false → x ≡ y → (is_join_target target && y) ≡ false → x ≡ false
      joining (Fresh h) o same g = cc
      joining (Join d) o same g = same ∙ g

  -- a line's location is that of the event's rows
  at_rows_of : (line : Line) → Comes rows all line → (row : Row) → Has rows row → Needs line.event → row.event ≡ line.event → site_of row.flood ≡ site_of line.flood
  at_rows_of line (inl f) row there needs same =
      rows_at_one rows sited row f.row there f.there (subst Needs (sym same) needs) (same ∙ sym f.event) ∙ ap site_of f.flood
  at_rows_of line (inr (inl f)) row there needs same =
      by_opening (is_opening f.by.intent) refl ∙ ap site_of f.flood
    where
      by_opening : (b : Bool) → is_opening f.by.intent ≡ b → site_of row.flood ≡ site_of f.part.flood
      by_opening true o =
          let none : has_rows rows f.by.event ≡ false = (fit_of f.by f.among).new o in
          absurd (both_ways _ none (any_has (λ (r : Row). same_event r.event f.by.event) rows row there (ap (λ (x : Event). same_event x f.by.event) (same ∙ sym f.event) ∙ event_itself f.by.event)))
      by_opening false o = joined_site f.by f.among f.part f.put o (subst Needs (sym f.event) needs) row there (same ∙ sym f.event)
  at_rows_of line (inr (inr f)) row there needs same =
      let not_needed : needs_values (facts_of f.by.event.hazard) ≡ false = routine_by f.by.place f.by.event f.by.intent f.routine (fit_of f.by f.among).flood in
      absurd (both_ways _ not_needed (subst Needs (sym f.event) needs))

  module _ (apart : EachPair OpenTwo all) where
    -- two lines of one event name one location
    lines_at : (l m : Line) → Comes rows all l → Comes rows all m → Needs l.event → l.event ≡ m.event → site_of l.flood ≡ site_of m.flood
    lines_at l m from to needs same = by_rows (has_rows rows l.event) refl
      where
        by_rows : (b : Bool) → has_rows rows l.event ≡ b → site_of l.flood ≡ site_of m.flood
        by_rows true h =
            let first = first_is l.event h in
            sym (at_rows_of l from first.0 first.1 needs first.2) ∙ at_rows_of m to first.0 first.1 (subst Needs same needs) (first.2 ∙ same)
        by_rows false none = new_lines from to
          where
            rowless : (x : Line) → FromRow rows x → x.event ≡ l.event → ⊥
            rowless x f e = both_ways _ none (any_has (λ (r : Row). same_event r.event l.event) rows f.row f.there (ap (λ (y : Event). same_event y l.event) (f.event ∙ e) ∙ event_itself l.event))

            plain : (x : Line) → FromRoutine all x → x.event ≡ l.event → ⊥
            plain x f e =
                let not_needed : needs_values (facts_of f.by.event.hazard) ≡ false = routine_by f.by.place f.by.event f.by.intent f.routine (fit_of f.by f.among).flood in
                both_ways _ not_needed (subst Needs (sym (f.event ∙ e)) needs)

            opens_it : (x : Line) (f : FromPut all x) → x.event ≡ l.event → is_opening f.by.intent ≡ true
            opens_it x f e = must (is_opening f.by.intent) refl
              where
                must : (b : Bool) → is_opening f.by.intent ≡ b → b ≡ true
                must true o = refl
                must false o =
                    let is_join : is_opening_target f.part.target ≡ false = ap is_opening (sym f.put) ∙ o in
                    let going : is_open rows t f.by.event ≡ true = (fit_of f.by f.among).known (ap needs_event f.put ∙ ap not is_join) in
                    absurd (both_ways _ none (ap (has_rows rows) (sym e ∙ sym f.event) ∙ open_has f.by.event going))

            new_lines : Comes rows all l → Comes rows all m → site_of l.flood ≡ site_of m.flood
            new_lines (inl f) g = absurd (rowless l f refl)
            new_lines (inr (inr f)) g = absurd (plain l f refl)
            new_lines (inr (inl f)) (inl g) = absurd (rowless m g (sym same))
            new_lines (inr (inl f)) (inr (inr g)) = absurd (plain m g (sym same))
            new_lines (inr (inl f)) (inr (inl g)) =
                let one : f.by.intent ≡ g.by.intent = one_of all apart f.by g.by f.among g.among (opens_it l f refl) (opens_it m g (sym same)) (f.event ∙ same ∙ sym g.event) in
                let parts : Put f.part ≡ Put g.part = sym f.put ∙ one ∙ g.put in
                let part_is : f.part ≡ g.part = cc in
                ap site_of (sym f.flood ∙ ap (λ (x : PutPart). x.flood) part_is ∙ g.flood)

    pub plan_sited : (lines : List Line) → AllByRecursion (Comes rows all) lines → are_lawful rows t lines ≡ true → AreSited (rows_after rows t lines)
    plan_sited lines from lawful =
        let among : (l : Line) → Has (filter touches lines) l → Comes rows all l = λ l h. all_has (Comes rows all) lines l from (has_filter touches lines l h).0 in
        sited_after rows sited lines t lawful
        (each lines (λ l h. values_of l (among l h)))
        (each lines (λ l h. at_rows_of l (among l h)))
        (λ l m h g. lines_at l m (among l h) (among m g))
      where
        each : {P : Line → Type 0} (lines : List Line) → ((x : Line) → Has (filter touches lines) x → P x) → AllByRecursion P (filter touches lines)
        each {P} lines own = every P (filter touches lines) own

  pub plan_values : (lines : List Line) → AllByRecursion (Comes rows all) lines → AllByRecursion (λ l. Needs l.event → is_some l.flood ≡ true) lines
  plan_values lines from = all_weaker (Comes rows all) (λ l. Needs l.event → is_some l.flood ≡ true) values_of lines from
