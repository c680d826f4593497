-- A row of a higher rank that a draft leaves live stands among the rows by which its UPG lines are judged.
use Rattle.std.proofs.Common.{◌≡◌, ◌⊎◌, inl, inr, ◌&&◌, ◌||◌, ℕ, List, [], ◌∷◌, ◌++◌, Bool, true, false, Option, Some, None, refl, ap, ◌∙◌, cond}
use Rattle.std.proofs.lemmas.Bool.{and_parts, or_left, or_right, false_from_ne_true, both_ways}
use Rattle.std.specs.List.{AllByRecursion, list_any}
use Rattle.std.specs.Option.{is_none}
use Rattle.hazard_types.specs.Places.{Place}
use Rattle.hazard_types.specs.declared.hazard.Event.{Event}
use Rattle.hazard_types.specs.declared.line.Line.{Line}
use Rattle.hazard_types.specs.declared.line.Row.{Row}
use Rattle.event_life.specs.declared.life.Breach.{Breach}
use Rattle.event_life.specs.Products.{end_upgraded, is_routine, is_upgrade, put, rows_after_all_but_upgrades, row_after, row_at, rows_for_higher, concerns}
use Rattle.event_life.proofs.Puts.{at_key, at_key-parts, row_at-put}
use Rattle.action_planner.proofs.LawfulLists.{EachPair}
use Rattle.action_planner.proofs.LawfulSteps.{IsSound}
use Rattle.action_planner.proofs.LawfulKeys.{AreFirst, all_first, first_more}

-- the test looks at nothing of a row but its event, zone and period, and passes none that is ended
abbrev pub IsOfLives : (Row → Bool) → Type 0
IsOfLives Q = (r s : Row) → r.zone ≡ s.zone → r.event ≡ s.event → r.period ≡ s.period → s.ended ≡ false → Q r ≡ true → Q s ≡ true

module _ (rows : List Row) (t : ℕ) (Q : Row → Bool) (e : Event) (z : Place) where
  -- the row of the event in the zone passes the test
  abbrev pub IsThere : List Row → Type 0
  IsThere after = (s : Row) × (row_at after e z ≡ Some s) × (Q s ≡ true)

  -- a line of the event in the zone is no UPG, and leaves a row that passes the test
  abbrev pub Leaves : Line → Type 0
  Leaves line = concerns e z line ≡ true → (is_upgrade line.action ≡ false) × (Q (row_after rows t line) ≡ true)

  at_after : (line : Line) → is_routine line.action ≡ false → at_key e z (row_after rows t line) ≡ concerns e z line
  at_after line own = rw own refl

  none_keeps : (o : Option Breach) → o ≡ None → is_none o ≡ true
  none_keeps o h = rw h refl

  -- the rows behind a line that is no UPG
  put_there : (line : Line) (lines : List Line) (after : List Row) (s : Bool) → concerns e z line ≡ s → is_routine line.action ≡ false → Leaves line →
      ((s || list_any (concerns e z) lines) ≡ true) ⊎ IsThere after → (list_any (concerns e z) lines ≡ true) ⊎ IsThere (put (row_after rows t line) after)
  put_there line lines after true h own leaves some =
      let found : row_at (put (row_after rows t line) after) e z ≡ Some (row_after rows t line) =
      row_at-put (row_after rows t line) after e z ∙ ap (λ (b : Bool). cond b (Some (row_after rows t line)) (row_at after e z)) (at_after line own ∙ h) in
      inr (row_after rows t line, found, (leaves h).1)
  put_there line lines after false h own leaves (inl some) = inl some
  put_there line lines after false h own leaves (inr there) =
      let same : row_at (put (row_after rows t line) after) e z ≡ row_at after e z =
      row_at-put (row_after rows t line) after e z ∙ ap (λ (b : Bool). cond b (Some (row_after rows t line)) (row_at after e z)) (at_after line own ∙ h) in
      inr (there.0, same ∙ there.1, there.2)

  skip_there : (line : Line) (lines : List Line) (after : List Row) (s : Bool) → concerns e z line ≡ s → is_upgrade line.action ≡ true → Leaves line →
      ((s || list_any (concerns e z) lines) ≡ true) ⊎ IsThere after → (list_any (concerns e z) lines ≡ true) ⊎ IsThere after
  skip_there line lines after true h up leaves some = absurd (both_ways _ (leaves h).0 up)
  skip_there line lines after false h up leaves some = some

  skip_routine : (line : Line) (lines : List Line) (after : List Row) (s : Bool) → s ≡ false →
      ((s || list_any (concerns e z) lines) ≡ true) ⊎ IsThere after → (list_any (concerns e z) lines ≡ true) ⊎ IsThere after
  skip_routine line lines after true h some = cc
  skip_routine line lines after false h some = some

  unspoken : (line : Line) → is_routine line.action ≡ true → concerns e z line ≡ false
  unspoken line own = rw own refl

  there_step : (earlier : List Line) (line : Line) (lines : List Line) (after : List Row) (o u : Bool) → is_routine line.action ≡ o → is_upgrade line.action ≡ u → AreFirst earlier (line ∷ lines) → AllByRecursion (IsSound rows t) (line ∷ lines) → AllByRecursion Leaves (line ∷ lines) →
      (list_any (concerns e z) (line ∷ lines) ≡ true) ⊎ IsThere after →
      ((more : List Row) → (list_any (concerns e z) lines ≡ true) ⊎ IsThere more → IsThere (rows_after_all_but_upgrades rows t (earlier ++ line ∷ []) lines more)) →
      IsThere (rows_after_all_but_upgrades rows t earlier (line ∷ lines) after)
  there_step earlier line lines after true u own up first sound leaves some next =
      rw own (next after (skip_routine line lines after (concerns e z line) (unspoken line own) some))
  there_step earlier line lines after false true own up first sound leaves some next =
      rw (own, up) (next after (skip_there line lines after (concerns e z line) refl up leaves.0 some))
  there_step earlier line lines after false false own up first sound leaves some next =
      let lawful = none_keeps _ (sound.0 true (λ h. refl)) in
      rw (own, up, first.0.0, lawful) (next (put (row_after rows t line) after) (put_there line lines after (concerns e z line) refl own leaves.0 some))

  there_after : (earlier lines : List Line) (after : List Row) → AreFirst earlier lines → AllByRecursion (IsSound rows t) lines → AllByRecursion Leaves lines →
      (list_any (concerns e z) lines ≡ true) ⊎ IsThere after → IsThere (rows_after_all_but_upgrades rows t earlier lines after)
  there_after earlier [] after first sound leaves (inl h) = cc
  there_after earlier [] after first sound leaves (inr there) = there
  there_after earlier (line ∷ lines) after first sound leaves some =
      there_step earlier line lines after (is_routine line.action) (is_upgrade line.action) refl refl first sound leaves some (λ more. there_after (earlier ++ line ∷ []) lines more (first_more earlier line lines first) sound.1 leaves.1)

  -- UPG lines end no such row
  ends_step : (lines : List Line) (r : Row) (behind : List Row) (b : Bool) → at_key e z r ≡ b → AllByRecursion Leaves lines → list_any (λ line. is_upgrade line.action && concerns e z line) lines ≡ false →
      (s : Row) → cond b (Some r) (row_at behind e z) ≡ Some s → Q s ≡ true → (row_at behind e z ≡ Some s → list_any Q (end_upgraded lines behind) ≡ true) → list_any Q (end_upgraded lines (r ∷ behind)) ≡ true
  ends_step lines r behind true h leaves none s f q next =
      let k = at_key-parts e z r h in
      let same : r ≡ s = cc in
      let ended : list_any (λ line. is_upgrade line.action && concerns r.event r.zone line) lines ≡ false =
      ap (λ (x : Event). list_any (λ line. is_upgrade line.action && concerns x r.zone line) lines) k.0 ∙ ap (λ (y : Place). list_any (λ line. is_upgrade line.action && concerns e y line) lines) k.1 ∙ none in
      rw ended (or_left (Q r) (list_any Q (end_upgraded lines behind)) (ap Q same ∙ q))
  ends_step lines r behind false h leaves none s f q next = or_right _ (list_any Q (end_upgraded lines behind)) (next f)

  there_any : (lines : List Line) (after : List Row) → AllByRecursion Leaves lines → list_any (λ line. is_upgrade line.action && concerns e z line) lines ≡ false → (s : Row) → row_at after e z ≡ Some s → Q s ≡ true → list_any Q (end_upgraded lines after) ≡ true
  there_any lines [] leaves none s f q = cc
  there_any lines (r ∷ behind) leaves none s f q = ends_step lines r behind (at_key e z r) refl leaves none s f q (λ g. there_any lines behind leaves none s g q)

  no_upgrade : (lines : List Line) → AllByRecursion Leaves lines → list_any (λ line. is_upgrade line.action && concerns e z line) lines ≡ false
  no_upgrade [] leaves = refl
  no_upgrade (line ∷ lines) leaves =
      let own : (is_upgrade line.action && concerns e z line) ≡ false = false_from_ne_true _ (λ h. let p = and_parts (is_upgrade line.action) _ h in both_ways _ (leaves.0 p.1).0 p.0) in
      rw own (no_upgrade lines leaves.1)

  -- a row that passes the test, or a line that leaves one, is among the rows by which UPG lines are judged
  pub stands_after : (lines : List Line) → EachPair (λ l m. concerns m.event m.zone l ≡ false) lines → AllByRecursion (IsSound rows t) lines → AllByRecursion Leaves lines →
      (list_any (concerns e z) lines ≡ true) ⊎ IsThere rows → list_any Q (rows_for_higher rows t lines) ≡ true
  stands_after lines apart sound leaves some =
      let there = there_after [] lines rows (all_first lines, apart) sound leaves some in
      there_any lines (rows_after_all_but_upgrades rows t [] lines rows) leaves (no_upgrade lines leaves) there.0 there.1 there.2
