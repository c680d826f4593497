-- What the lawful lines of an event in a zone do, one after another: spells, each of which opens, goes on, and ends before the next.
use Rattle.std.proofs.Common.{◌≡◌, ◌||◌, ◌&&◌, not, ℕ, List, [], ◌∷◌, ◌++◌, Bool, true, false, Option, Some, None, IfSome, refl, sym, ap, subst, ◌∙◌, cond, map, option_map}
use Rattle.std.proofs.lemmas.List.Concat.{flat_map-cons}
use Rattle.std.specs.List.{find, flat_map}
use Rattle.std.specs.Option.{is_none}
use Rattle.hazard_types.specs.Places.{Place}
use Rattle.hazard_types.specs.Same.{same_zone, same_event}
use Rattle.hazard_types.specs.declared.codes.Action.{Action}
use Rattle.hazard_types.specs.declared.codes.Action.TheVariants.{New, Con, Exa, Ext, Exb, Upg, Can, Exp, Cor, Rou}
use Rattle.hazard_types.specs.declared.hazard.Event.{Event}
use Rattle.hazard_types.specs.declared.line.Line.{Line}
use Rattle.hazard_types.specs.declared.line.Row.{Row}
use Rattle.event_life.specs.declared.life.Life.{Life}
use Rattle.event_life.specs.declared.life.Around.{Around}
use Rattle.event_life.specs.Table.{breach_of_line, life_after_lawful_line, first_of, on_new, on_life, on_nothing, life_after_line}
use Rattle.event_life.specs.Products.{Product, has_rows, row_at, life_of, life_at, row_after, is_routine, concerns, around_of, judged, lawful_of, lines_of, rows_with}
use Rattle.event_life.specs.Firsts.{is_lawful, first_line, row_by_first, row_by_first_line}
use Rattle.event_life.specs.Lives.{steps_of, track_from, track_of, opens, goes_on, ends, rejoins, Spell, at_end, actions_in, IsOfSpells, IsLife, actions_of}
use Rattle.event_life.proofs.Puts.{concerns-parts}
use Rattle.event_life.proofs.Spoken.{lawful_first, spoken, row_at-rows_after, steps_of-lines, step_of}

-- what may follow once a spell has begun: with any action that opens it in front, spells
abbrev MayGoOn : List Action → Type 0
MayGoOn actions = (opened : Action → Bool) (a : Action) → opened a ≡ true → IsOfSpells opened (a ∷ actions)

-- what may follow such a life, or none
abbrev May : Option Life → List Action → Type 0
May None actions = IsLife actions
May (Some life) actions = cond life.ended (IsOfSpells rejoins actions) (MayGoOn actions)

none_follows : MayGoOn []
none_follows opened a h = (record { opening = a; going = []; ending = None } ∷ [], (record { first = h; carried_on = tt; last = tt }, λ e. refl, tt), refl)

carried_in : (opened : Action → Bool) (a b : Action) (more : List Action) → goes_on b ≡ true → IsOfSpells opened (a ∷ more) → IsOfSpells opened (a ∷ b ∷ more)
carried_in opened a b more g ([], are, e) = cc
carried_in opened a b more g (s ∷ later, are, e) =
    let whole = sym (flat_map-cons actions_in s later) ∙ e in
    let first : s.opening ≡ a = cc in
    let rest : (s.going ++ at_end s.ending) ++ flat_map actions_in later ≡ more = cc in
    let longer : Spell = record { opening = s.opening; going = b ∷ s.going; ending = s.ending } in (
      longer ∷ later,
      (record { first = are.0.first; carried_on = (g, are.0.carried_on); last = are.0.last }, are.1, are.2),
      flat_map-cons actions_in longer later ∙ ap (λ (x : Action). x ∷ b ∷ ((s.going ++ at_end s.ending) ++ flat_map actions_in later)) first ∙ ap (λ (xs : List Action). a ∷ b ∷ xs) rest,
    )

carried_on : (b : Action) (more : List Action) → goes_on b ≡ true → MayGoOn more → MayGoOn (b ∷ more)
carried_on b more g on opened a h = carried_in opened a b more g (on opened a h)

ended_by : (b : Action) (more : List Action) → ends b ≡ true → IsOfSpells rejoins more → MayGoOn (b ∷ more)
ended_by b more g later opened a h =
    let own : Spell = record { opening = a; going = []; ending = Some b } in (
      own ∷ later.0,
      (record { first = h; carried_on = tt; last = g }, (λ e. cc), later.1),
      flat_map-cons actions_in own later.0 ∙ ap (λ (xs : List Action). a ∷ b ∷ xs) later.2,
    )

on_nothing-opens : (a : Action) (line : Line) (t : ℕ) (around : Around) (more : List Action) → is_routine a ≡ false → first_of (on_nothing a line t around) ≡ None → MayGoOn more → IsLife (a ∷ more)
on_nothing-opens New line t around more r h on = on opens New refl
on_nothing-opens Exa line t around more r h on = on opens Exa refl
on_nothing-opens Exb line t around more r h on = on opens Exb refl
on_nothing-opens Rou line t around more r h on = cc
on_nothing-opens _ line t around more r h on = cc

-- only a line that opens is lawful once a line has ended the life
pub on_life-ended : (a : Action) (life : Life) (line : Line) (t : ℕ) (around : Around) → is_routine a ≡ false → life.ended ≡ true → first_of (on_life a life line t around) ≡ None → opens a ≡ true
on_life-ended New life line t around r e h = refl
on_life-ended Exa life line t around r e h = refl
on_life-ended Exb life line t around r e h = refl
on_life-ended Con life line t around r e h = let g = rw e at h in cc
on_life-ended Cor life line t around r e h = let g = rw e at h in cc
on_life-ended Ext life line t around r e h = let g = rw e at h in cc
on_life-ended Can life line t around r e h = let g = rw e at h in cc
on_life-ended Exp life line t around r e h = let g = rw e at h in cc
on_life-ended Upg life line t around r e h = let g = rw e at h in cc
on_life-ended Rou life line t around r e h = cc

-- NEW is not lawful where the event has rows
new_reopens : (stands : Bool) (line : Line) (t : ℕ) (around : Around) → around.opened ≡ true → first_of (on_new stands line t around) ≡ None → ⊥
new_reopens true line t around has h = cc
new_reopens false line t around has h = let g = rw has at h in cc

-- a line that opens is EXA or EXB where the event has rows
on_life-rejoins : (a : Action) (life : Life) (line : Line) (t : ℕ) (around : Around) (more : List Action) → opens a ≡ true → around.opened ≡ true → first_of (on_life a life line t around) ≡ None → MayGoOn more → IsOfSpells rejoins (a ∷ more)
on_life-rejoins New life line t around more o has h on = absurd (new_reopens (not life.ended) line t around has h)
on_life-rejoins Exa life line t around more o has h on = on rejoins Exa refl
on_life-rejoins Exb life line t around more o has h on = on rejoins Exb refl
on_life-rejoins _ life line t around more o has h on = cc

on_life-goes_on : (a : Action) (life : Life) (line : Line) (t : ℕ) (around : Around) (more : List Action) → is_routine a ≡ false → life.ended ≡ false → first_of (on_life a life line t around) ≡ None → May (Some (life_after_line a life line t)) more → MayGoOn (a ∷ more)
on_life-goes_on Con life line t around more r e h on = carried_on Con more refl on
on_life-goes_on Cor life line t around more r e h on = carried_on Cor more refl on
on_life-goes_on Ext life line t around more r e h on = carried_on Ext more refl on
on_life-goes_on Can life line t around more r e h on = ended_by Can more refl on
on_life-goes_on Exp life line t around more r e h on = ended_by Exp more refl on
on_life-goes_on Upg life line t around more r e h on = ended_by Upg more refl on
on_life-goes_on New life line t around more r e h on = let g = rw e at h in cc
on_life-goes_on Exa life line t around more r e h on = let g = rw e at h in cc
on_life-goes_on Exb life line t around more r e h on = let g = rw e at h in cc
on_life-goes_on Rou life line t around more r e h on = cc

opened_goes_on : (a : Action) (life : Life) (line : Line) (t : ℕ) (more : List Action) → opens a ≡ true → May (Some (life_after_line a life line t)) more → MayGoOn more
opened_goes_on New life line t more o on = on
opened_goes_on Exa life line t more o on = on
opened_goes_on Exb life line t more o on = on
opened_goes_on _ life line t more o on = cc

may_some : (life : Life) (line : Line) (t : ℕ) (around : Around) (more : List Action) (ended : Bool) → life.ended ≡ ended → is_routine line.action ≡ false → around.opened ≡ true → first_of (on_life line.action life line t around) ≡ None →
    May (Some (life_after_line line.action life line t)) more → cond ended (IsOfSpells rejoins (line.action ∷ more)) (MayGoOn (line.action ∷ more))
may_some life line t around more true e r has h on =
    let o = on_life-ended line.action life line t around r e h in
    on_life-rejoins line.action life line t around more o has h (opened_goes_on line.action life line t more o on)
may_some life line t around more false e r has h on = on_life-goes_on line.action life line t around more r e h on

-- a lawful line, and what may come after it
may_step : (before : Option Life) (line : Line) (t : ℕ) (around : Around) (more : List Action) → is_routine line.action ≡ false → IfSome before (λ life. around.opened ≡ true) → breach_of_line before line t around ≡ None →
    May (Some (life_after_lawful_line before line t)) more → May before (line.action ∷ more)
unfolding breach_of_line life_after_lawful_line
may_step None line t around more r has h on = on_nothing-opens line.action line t around more r h on
may_step (Some life) line t around more r has h on = may_some life line t around more life.ended refl r has h on

-- an event with a row in a zone has rows
there_step : (b c : Bool) (r : Row) (more : Option Row) (rest : Bool) → IfSome (option_map life_of more) (λ life. rest ≡ true) → IfSome (option_map life_of (cond (b && c) (Some r) more)) (λ life. (b || rest) ≡ true)
there_step true true r more rest h = refl
there_step true false r None rest h = tt
there_step true false r (Some q) rest h = refl
there_step false c r more rest h = h

pub rows_there : (rows : List Row) (line : Line) → IfSome (life_at rows line) (λ life. has_rows rows line.event ≡ true)
rows_there [] line = tt
rows_there (r ∷ rows) line = there_step (same_event r.event line.event) (same_zone r.zone line.zone) r (row_at rows line.event line.zone) (has_rows rows line.event) (rows_there rows line)

pub none_from_test : {X : Type 0} (o : Option X) → is_none o ≡ true → o ≡ None
none_from_test None h = refl
none_from_test (Some x) h = cc

pub find-passes : {X : Type 0} (p : X → Bool) (xs : List X) (x : X) → find p xs ≡ Some x → p x ≡ true
find-passes p [] x h = cc
find-passes {X} p (y ∷ ys) x h =
    let step : (b : Bool) → p y ≡ b → cond b (Some y) (find p ys) ≡ Some x → p x ≡ true =
    λ b. elim b as (λ b. p y ≡ b → cond b (Some y) (find p ys) ≡ Some x → p x ≡ true) [
      | true ↦ λ e g. let same : y ≡ x = cc in subst (λ (v : X). p v ≡ true) same e
      | false ↦ λ e g. find-passes p ys x g
    ] in
    step (p y) refl h

by_product : (rows : List Row) (t : ℕ) (lines : List Line) (e : Event) (z : Place) (first : Option Line) (more : List (Action × ℕ)) → find (concerns e z) lines ≡ first →
    May (option_map life_of (row_by_first rows t lines (row_at rows e z) first)) (actions_of more) →
    May (option_map life_of (row_at rows e z)) (actions_of (map (step_of t) (lawful_first rows t lines first) ++ more))
by_product rows t lines e z None more h on = on
by_product rows t lines e z (Some line) more h on =
    let parts = concerns-parts e z line (find-passes (concerns e z) lines line h) in
    let own : life_at rows line ≡ option_map life_of (row_at rows e z) = rw (parts.1, parts.2) in
    let step : (b : Bool) → is_lawful rows t lines line ≡ b →
    May (option_map life_of (cond b (Some (row_after rows t line)) (row_at rows e z))) (actions_of more) →
    May (option_map life_of (row_at rows e z)) (actions_of (map (step_of t) (cond b (line ∷ []) []) ++ more)) =
    λ b. elim b as (λ b. is_lawful rows t lines line ≡ b →
    May (option_map life_of (cond b (Some (row_after rows t line)) (row_at rows e z))) (actions_of more) →
    May (option_map life_of (row_at rows e z)) (actions_of (map (step_of t) (cond b (line ∷ []) []) ++ more))) [
      | true ↦ λ q on. subst (λ (o : Option Life). May o (line.action ∷ actions_of more)) own
          (may_step (life_at rows line) line t (around_of rows t lines line) (actions_of more) parts.0 (rows_there rows line) (none_from_test _ q) on)
      | false ↦ λ q on. on
    ] in
    step (is_lawful rows t lines line) refl on

-- what a product's lawful lines do to the event in the zone
steps_first : (rows : List Row) (t : ℕ) (lines : List Line) (e : Event) (z : Place) →
    steps_of t e z (lawful_of (judged rows t lines)) ≡ map (step_of t) (lawful_first rows t lines (first_line lines e z))
steps_first rows t lines e z =
    steps_of-lines t e z (lawful_of (judged rows t lines)) ∙ ap (λ (ls : List Line). map (step_of t) ls) (spoken rows t lines e z [] lines)

may_end : (o : Option Life) → May o []
may_end None = ([], tt, refl)
may_end (Some life) = elim life.ended as (λ b. cond b (IsOfSpells rejoins []) (MayGoOn [])) [ true ↦ ([], tt, refl) | false ↦ none_follows ]

track_may : (rows : List Row) (products : List Product) (e : Event) (z : Place) → May (option_map life_of (row_at rows e z)) (actions_of (track_from rows products e z))
track_may rows [] e z = may_end (option_map life_of (row_at rows e z))
track_may rows (p ∷ products) e z =
    let lines = lines_of rows p.issue p.said in
    let after : May (option_map life_of (row_by_first_line rows p.issue lines e z)) (actions_of (track_from (rows_with rows p) products e z)) =
    subst (λ (o : Option Row). May (option_map life_of o) (actions_of (track_from (rows_with rows p) products e z))) (row_at-rows_after rows p.issue lines e z) (track_may (rows_with rows p) products e z) in
    subst (λ (steps : List (Action × ℕ)). May (option_map life_of (row_at rows e z)) (actions_of (steps ++ track_from (rows_with rows p) products e z))) (sym (steps_first rows p.issue lines e z))
    (by_product rows p.issue lines e z (first_line lines e z) (track_from (rows_with rows p) products e z) refl after)

-- the lawful lines of an event in a zone over any products
pub track_of-spells : (products : List Product) (e : Event) (z : Place) → IsLife (actions_of (track_of products e z))
track_of-spells products e z = track_may [] products e z
