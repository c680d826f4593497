-- What is told of the lines of parts, and that a change serves each of them.
use Rattle.std.proofs.Common.{◌≡◌, ◌∙◌, ◌<◌, ◌+◌, ◌||◌, ℕ, List, [], ◌∷◌, ◌++◌, append-nil, map, take, get_or, length, Bool, true, false, Some, refl, ap, sym, subst}
use Rattle.std.specs.List.{AllByRecursion, flat_map, list_any}
use Rattle.std.specs.Map.{values_of}
use Rattle.std.proofs.lemmas.Grind.{flat_map-append}
use Rattle.std.proofs.lemmas.List.Folds.{list_any-append}
use Rattle.std.proofs.lemmas.List.{map-append, take_more}
use Rattle.hazard_types.specs.Hazards.{facts_of}
use Rattle.hazard_types.specs.Places.{Place}
use Rattle.hazard_types.specs.declared.line.Line.{Line}
use Rattle.hazard_types.specs.declared.line.Row.{Row}
use Rattle.event_life.specs.Higher.{family_of}
use Rattle.event_life.specs.Products.{row_at}
use Rattle.row_index.specs.Groups.{AreJudged, AreServed, IsJudged, IsJudgedAt, Serves, has_upgrade, lines_of, zones_of}
use Rattle.row_index.specs.Runs.{in_zone}
use Rattle.row_index.specs.Seating.{upgrades}
use Rattle.row_index.specs.Steps.{AreHigher, AreOver, IsChanged}
use Rattle.row_index.specs.Verdicts.{first_judged, lines_in, said_along, said_at, said_in, expand, expand_at, expand_run, AreApart, AreFound, HaveOwnEvents, IsFound, IsFoundAt}
use Rattle.row_index.specs.declared.higher.Changed.{Changed}
use Rattle.row_index.specs.declared.verdicts.Part.{Part}
use Rattle.row_index.specs.declared.verdicts.Run.{Run}
use Rattle.row_index.specs.declared.verdicts.Verdict.{Verdict}
use Rattle.row_index.proofs.Reached.{first_one, second_one}
use Rattle.row_index.proofs.Every.{every_both, every_flat, every_map, every_same, every_turned}

-- what lines say in zones, with what they find there

told_at : (rows : List Row) (t : ℕ) (all : List Line) (z : Place) (verdicts : List Verdict) → AllByRecursion (IsJudgedAt rows t all z) verdicts → expand_at verdicts z ≡ map (first_judged rows t all) (said_at (lines_of verdicts) z)
told_at rows t all z [] each = refl
told_at rows t all z (v ∷ verdicts) each = λ i. (in_zone v.line z, each.0.1 i) ∷ told_at rows t all z verdicts each.1 i

told_along : (rows : List Row) (t : ℕ) (all : List Line) (verdicts : List Verdict) (zones : List Place) → AllByRecursion (λ (z : Place). AllByRecursion (IsJudgedAt rows t all z) verdicts) zones
    → flat_map (expand_at verdicts) zones ≡ map (first_judged rows t all) (said_along (lines_of verdicts) zones)
told_along rows t all verdicts [] each = refl
told_along rows t all verdicts (z ∷ zones) each =
    (λ i. told_at rows t all z verdicts each.0 i ++ told_along rows t all verdicts zones each.1 i)
    ∙ sym (map-append (first_judged rows t all) (said_at (lines_of verdicts) z) (said_along (lines_of verdicts) zones))

told_run : (rows : List Row) (t : ℕ) (all lines : List Line) (r : Run) → IsJudged rows t all lines r → expand_run r ≡ map (first_judged rows t all) (said_along lines r.zones)
told_run rows t all lines r judged = told_along rows t all r.verdicts r.zones judged.each ∙ ap (λ (ls : List Line). map (first_judged rows t all) (said_along ls r.zones)) judged.said

told_runs : (rows : List Row) (t : ℕ) (all lines : List Line) (runs : List Run) → AreJudged rows t all lines runs → expand runs ≡ map (first_judged rows t all) (said_along lines (zones_of runs))
told_runs rows t all lines [] judged = refl
told_runs rows t all lines (r ∷ runs) judged =
    (λ i. told_run rows t all lines r judged.0 i ++ told_runs rows t all lines runs judged.1 i)
    ∙ sym (map-append (first_judged rows t all) (said_along lines r.zones) (said_along lines (zones_of runs)))
    ∙ ap (map (first_judged rows t all)) (sym (flat_map-append (said_at lines) r.zones (zones_of runs)))

-- runs tell what is found of lines, and are apart
pub record AreTold (rows : List Row) (t : ℕ) (all said : List Line) (runs : List Run) : Type 0 where
  pub told : expand runs ≡ map (first_judged rows t all) said
  pub found : AreFound rows runs
  pub apart : AreApart runs

pub told_none : (rows : List Row) (t : ℕ) (all : List Line) → AreTold rows t all [] []
told_none rows t all = record { told = refl; found = tt; apart = tt }

told_both : (rows : List Row) (t : ℕ) (all said more : List Line) (runs next : List Run) → AreTold rows t all said runs → AreTold rows t all more next → AreTold rows t all (said ++ more) (runs ++ next)
told_both rows t all said more runs next one two = record {
  told = flat_map-append expand_run runs next ∙ (λ i. one.told i ++ two.told i) ∙ sym (map-append (first_judged rows t all) said more);
  found = every_both runs next (IsFound rows) one.found two.found;
  apart = every_both runs next (λ (r : Run). HaveOwnEvents (map (λ (v : Verdict). v.line) r.verdicts)) one.apart two.apart;
}

told_part : (rows : List Row) (t : ℕ) (all : List Line) (p : Part) (runs : List Run) → zones_of runs ≡ p.zones.now → AreJudged rows t all p.lines runs → HaveOwnEvents p.lines → AreTold rows t all (said_in p) runs
told_part rows t all p runs zones_are judged own = record {
  told = told_runs rows t all p.lines runs judged ∙ ap (λ (zs : List Place). map (first_judged rows t all) (said_along p.lines zs)) zones_are;
  found = every_same runs (IsJudged rows t all p.lines) (IsFound rows) found_by judged;
  apart = every_same runs (IsJudged rows t all p.lines) (λ (r : Run). HaveOwnEvents (map (λ (v : Verdict). v.line) r.verdicts)) (λ r h. subst HaveOwnEvents (sym h.said) own) judged;
}
  where
    found_by : (r : Run) → IsJudged rows t all p.lines r → IsFound rows r
    found_by r h = every_same r.zones (λ (z : Place). AllByRecursion (IsJudgedAt rows t all z) r.verdicts) (λ (z : Place). AllByRecursion (IsFoundAt rows z) r.verdicts)
        (λ z each. every_same r.verdicts (IsJudgedAt rows t all z) (IsFoundAt rows z) (λ v h. h.0) each) h.each

lines_next : (parts : List Part) (i : ℕ) (p : Part) → i < length parts → p ≡ get_or parts i p → lines_in (take (i + 1) parts) ≡ lines_in (take i parts) ++ said_in p
lines_next parts i p lt is =
    ap lines_in (take_more parts i p lt ∙ ap (λ (q : Part). take i parts ++ q ∷ []) (sym is))
    ∙ flat_map-append said_in (take i parts) (p ∷ [])
    ∙ ap (λ (ls : List Line). lines_in (take i parts) ++ ls) (append-nil (said_in p))

-- one part more
pub told_next : (rows : List Row) (t : ℕ) (all : List Line) (parts : List Part) (i : ℕ) (p : Part) (old new runs : List Run) → i < length parts → p ≡ get_or parts i p → new ≡ old ++ runs
    → zones_of runs ≡ p.zones.now → AreJudged rows t all p.lines runs → HaveOwnEvents p.lines
    → AreTold rows t all (lines_in (take i parts)) old → AreTold rows t all (lines_in (take (i + 1) parts)) new
told_next rows t all parts i p old new runs lt is made zones_are judged own before =
    subst (λ (ls : List Line). AreTold rows t all ls new) (sym (lines_next parts i p lt is))
    (subst (λ (all_runs : List Run). AreTold rows t all (lines_in (take i parts) ++ said_in p) all_runs) (sym made)
    (told_both rows t all (lines_in (take i parts)) (said_in p) old runs before (told_part rows t all p runs zones_are judged own)))

-- tests of lists

or_parts : (a b : Bool) → (a || b) ≡ false → (a ≡ false) × (b ≡ false)
or_parts true b h = cc
or_parts false b h = (refl, h)

or_both : (a b : Bool) → a ≡ false → b ≡ false → (a || b) ≡ false
or_both true b h k = cc
or_both false b h k = k

-- the change serves each line

each_upgrades : (lines : List Line) → AllByRecursion (λ (l : Line). upgrades l ≡ true → list_any upgrades lines ≡ true) lines
each_upgrades [] = tt
each_upgrades (l ∷ lines) = (
  first_one (upgrades l) (list_any upgrades lines),
  every_same lines (λ (m : Line). upgrades m ≡ true → list_any upgrades lines ≡ true) (λ (m : Line). upgrades m ≡ true → (upgrades l || list_any upgrades lines) ≡ true)
      (λ m h up. second_one (upgrades l) (list_any upgrades lines) (h up)) (each_upgrades lines),
)

abbrev IsServedOwn : List Row → ℕ → List Line → Changed → Line → Type 0
IsServedOwn rows t all c l = Serves rows t all c l l.zone

abbrev IsOver : List Row → ℕ → Changed → Line → Type 0
IsOver rows t c l = upgrades l ≡ true → (own : Row) → row_at rows l.event l.zone ≡ Some own → AreHigher rows t own (family_of (facts_of l.event.hazard)) (values_of c.higher.entries)

served_by : (any : Bool) (rows : List Row) (t : ℕ) (all : List Line) (c : Changed) → list_any upgrades all ≡ any → IsChanged rows t all (values_of c.counted.entries) c.upgraded.keys → AreOver rows t all (values_of c.higher.entries)
    → AllByRecursion (IsServedOwn rows t all c) all
served_by any rows t all c is changed over = every_same all (IsOver rows t c) (IsServedOwn rows t all c) (λ l h up. (changed, h up)) over

pub contrary : (b : Bool) → b ≡ true → b ≡ false → ⊥
contrary true h k = cc
contrary false h k = cc

unserved : (rows : List Row) (t : ℕ) (all : List Line) (c : Changed) → list_any upgrades all ≡ false → AllByRecursion (IsServedOwn rows t all c) all
unserved rows t all c none =
    every_same all (λ (l : Line). upgrades l ≡ true → list_any upgrades all ≡ true) (IsServedOwn rows t all c) (λ l h up. absurd (contrary (list_any upgrades all) (h up) none)) (each_upgrades all)

served_lines : (any : Bool) (rows : List Row) (t : ℕ) (all : List Line) (c : Changed) → list_any upgrades all ≡ any
    → (list_any upgrades all ≡ true → IsChanged rows t all (values_of c.counted.entries) c.upgraded.keys) → (list_any upgrades all ≡ true → AreOver rows t all (values_of c.higher.entries))
    → AllByRecursion (IsServedOwn rows t all c) all
served_lines true rows t all c is changed over = served_by true rows t all c is (changed is) (over is)
served_lines false rows t all c is changed over = unserved rows t all c is

served_part : (rows : List Row) (t : ℕ) (all : List Line) (c : Changed) (p : Part) → AllByRecursion (IsServedOwn rows t all c) (said_in p) → AreServed rows t all c p
served_part rows t all c p served =
    let along : AllByRecursion (λ (z : Place). AllByRecursion (IsServedOwn rows t all c) (said_at p.lines z)) p.zones.now = every_flat p.zones.now (said_at p.lines) (IsServedOwn rows t all c) served in
    every_turned p.zones.now p.lines (λ (z : Place) (l : Line). Serves rows t all c l z)
    (every_same p.zones.now (λ (z : Place). AllByRecursion (IsServedOwn rows t all c) (said_at p.lines z)) (λ (z : Place). AllByRecursion (λ (l : Line). Serves rows t all c l z) p.lines)
    (λ z h. every_map p.lines (λ (l : Line). in_zone l z) (IsServedOwn rows t all c) h) along)

pub served : (rows : List Row) (t : ℕ) (parts : List Part) (c : Changed)
    → (list_any upgrades (lines_in parts) ≡ true → IsChanged rows t (lines_in parts) (values_of c.counted.entries) c.upgraded.keys) → (list_any upgrades (lines_in parts) ≡ true → AreOver rows t (lines_in parts) (values_of c.higher.entries))
    → AllByRecursion (AreServed rows t (lines_in parts) c) parts
served rows t parts c changed over =
    every_same parts (λ (p : Part). AllByRecursion (IsServedOwn rows t (lines_in parts) c) (said_in p)) (AreServed rows t (lines_in parts) c)
    (λ p h. served_part rows t (lines_in parts) c p h)
    (every_flat parts said_in (IsServedOwn rows t (lines_in parts) c) (served_lines (list_any upgrades (lines_in parts)) rows t (lines_in parts) c refl changed over))

-- parts without such a line say none

none_at : (z : Place) (lines : List Line) → list_any upgrades lines ≡ false → list_any upgrades (said_at lines z) ≡ false
none_at z [] h = refl
none_at z (l ∷ lines) h = let p = or_parts (upgrades l) (list_any upgrades lines) h in or_both (upgrades l) (list_any upgrades (said_at lines z)) p.0 (none_at z lines p.1)

none_along : (lines : List Line) (zones : List Place) → list_any upgrades lines ≡ false → list_any upgrades (said_along lines zones) ≡ false
none_along lines [] h = refl
none_along lines (z ∷ zones) h = list_any-append upgrades (said_at lines z) (said_along lines zones) ∙ or_both (list_any upgrades (said_at lines z)) (list_any upgrades (said_along lines zones)) (none_at z lines h) (none_along lines zones h)

pub none_said : (parts : List Part) → list_any has_upgrade parts ≡ false → list_any upgrades (lines_in parts) ≡ false
none_said [] h = refl
none_said (p ∷ parts) h =
    let q = or_parts (has_upgrade p) (list_any has_upgrade parts) h in
    list_any-append upgrades (said_in p) (lines_in parts) ∙ or_both (list_any upgrades (said_in p)) (list_any upgrades (lines_in parts)) (none_along p.lines p.zones.now q.0) (none_said parts q.1)
