-- A line's breach depends on no more of what stands around it than its action asks for.
use Rattle.std.proofs.Common.{◌≡◌, ◌∙◌, ◌<◌, ◌+◌, ◌&&◌, not, ℕ, zero, suc, arith, List, [], ◌∷◌, ◌++◌, take, drop, length, get_or, append_assoc, subst, Bool, true, false, cond, Option, Some, None, Result, Ok, Err, refl, ap, sym}
use Rattle.std.proofs.lemmas.List.Folds.{list_any_at}
use Rattle.std.proofs.lemmas.Bool.{and_parts}
use Rattle.std.specs.List.{AllByRecursion, list_any}
use Rattle.hazard_types.specs.Same.{same_event}
use Rattle.hazard_types.specs.contracts.codes.ActionPartialEq.TheImpl as action_eq
use Rattle.hazard_types.proofs.Equality.{action_one, event_one, period_one}
use Rattle.hazard_types.specs.Hazards.{facts_of}
use Rattle.event_life.specs.Higher.{family_of}
use Rattle.event_life.specs.Lives.{opens}
use Rattle.event_life.specs.Periods.{is_live, same_at}
use Rattle.std.specs.Option.{is_none, is_some}
use Rattle.hazard_types.specs.declared.codes.Action.{Action}
use Rattle.hazard_types.specs.declared.codes.Action.TheVariants.{New, Con, Exa, Ext, Exb, Upg, Can, Exp, Cor, Rou}
use Rattle.hazard_types.specs.declared.line.Line.{Line}
use Rattle.hazard_types.specs.declared.line.Row.{Row}
use Rattle.event_life.specs.declared.life.Life.{Life}
use Rattle.event_life.specs.declared.life.Around.{Around}
use Rattle.event_life.specs.declared.life.Breach.{Breach}
use Rattle.event_life.specs.declared.life.Breach.TheVariants.{Twice}
use Rattle.event_life.specs.Products.{has_rows, is_open, is_number_held, has_opened_period, around_but_higher, life_at, is_routine, is_upgrade, is_second, has_higher, around_of, breach_in, put, row_at, row_after, rows_after_all_but_upgrades, judged_from}
use Rattle.event_life.specs.Seats.{may_be_higher}
use Rattle.event_life.specs.Table.{opened_period, first_of, on_new, on_joining, on_life, on_nothing, breach_of_line, life_after_lawful_line, unless_breach, step}
use Rattle.event_life.proofs.HigherLemmas.{breach-higher}
use Rattle.row_index.specs.Seating.{upgrades}
use Rattle.row_index.specs.Steps.{AreHigher, AreOver, asks_alike, asked_around, nothing_around}
use Rattle.row_index.proofs.Seated.{one_longer, cut_at}

abbrev around : Bool → Bool → Bool → Bool → Bool → Around
around opened going held same higher = record { opened = opened; going = going; held = held; same = same; higher = higher }

new_asks : (stands opened going held same higher : Bool) (line : Line) (t : ℕ) → first_of (on_new stands line t (around opened false (not opened && held) false higher)) ≡ first_of (on_new stands line t (around opened going held same higher))
new_asks true opened going held same higher line t = refl
new_asks false true going held same higher line t = refl
new_asks false false going held same higher line t = refl

joining_asks : (stands going : Bool) (opened held same opened' held' same' higher : Bool) (breach : Breach) (line : Line) (t : ℕ) (last last' : Bool) → (going ≡ true → last ≡ last')
    → first_of (on_joining stands line t (around opened going held same higher) (last, breach)) ≡ first_of (on_joining stands line t (around opened' going held' same' higher) (last', breach))
joining_asks true going opened held same opened' held' same' higher breach line t last last' h = refl
joining_asks false true opened held same opened' held' same' higher breach line t last last' h = ap (λ (b : Bool). first_of (on_joining false line t (around opened true held same higher) (b, breach))) (h refl)
joining_asks false false opened held same opened' held' same' higher breach line t last last' h = refl

same_going : (going same : Bool) → going ≡ true → (going && same) ≡ same
same_going true same h = refl
same_going false same h = cc

not_going : (going same : Bool) → going ≡ true → not (going && same) ≡ not same
not_going going same h = ap not (same_going going same h)

module _ (rows : List Row) (line : Line) (t : ℕ) (higher : Bool) where
  on_life-asked : (a : Action) (life : Life) → first_of (on_life a life line t (asked_around a rows t line higher)) ≡ first_of (on_life a life line t (around_but_higher rows t line higher))
  on_life-asked New life = new_asks (not life.ended) (has_rows rows line.event) (is_open rows t line.event) (is_number_held rows t line.event) (has_opened_period rows t line) higher line t
  on_life-asked Exa life = joining_asks (not life.ended) (is_open rows t line.event) false false (is_open rows t line.event && has_opened_period rows t line) (has_rows rows line.event) (is_number_held rows t line.event) (has_opened_period rows t line) higher _ line t _ _ (not_going (is_open rows t line.event) (has_opened_period rows t line))
  on_life-asked Exb life = joining_asks (not life.ended) (is_open rows t line.event) false false (is_open rows t line.event && has_opened_period rows t line) (has_rows rows line.event) (is_number_held rows t line.event) (has_opened_period rows t line) higher _ line t _ _ (same_going (is_open rows t line.event) (has_opened_period rows t line))
  on_life-asked Con life = refl
  on_life-asked Ext life = refl
  on_life-asked Upg life = refl
  on_life-asked Can life = refl
  on_life-asked Exp life = refl
  on_life-asked Cor life = refl
  on_life-asked Rou life = refl

  on_nothing-asked : (a : Action) → first_of (on_nothing a line t (asked_around a rows t line higher)) ≡ first_of (on_nothing a line t (around_but_higher rows t line higher))
  on_nothing-asked New = new_asks false (has_rows rows line.event) (is_open rows t line.event) (is_number_held rows t line.event) (has_opened_period rows t line) higher line t
  on_nothing-asked Exa = joining_asks false (is_open rows t line.event) false false (is_open rows t line.event && has_opened_period rows t line) (has_rows rows line.event) (is_number_held rows t line.event) (has_opened_period rows t line) higher _ line t _ _ (not_going (is_open rows t line.event) (has_opened_period rows t line))
  on_nothing-asked Exb = joining_asks false (is_open rows t line.event) false false (is_open rows t line.event && has_opened_period rows t line) (has_rows rows line.event) (is_number_held rows t line.event) (has_opened_period rows t line) higher _ line t _ _ (same_going (is_open rows t line.event) (has_opened_period rows t line))
  on_nothing-asked Con = refl
  on_nothing-asked Ext = refl
  on_nothing-asked Upg = refl
  on_nothing-asked Can = refl
  on_nothing-asked Exp = refl
  on_nothing-asked Cor = refl
  on_nothing-asked Rou = refl

  pub breach-asked : (before : Option Life) → breach_of_line before line t (asked_around line.action rows t line higher) ≡ breach_of_line before line t (around_but_higher rows t line higher)
  unfolding breach_of_line
  breach-asked None = on_nothing-asked line.action
  breach-asked (Some life) = on_life-asked line.action life

unless_ok : {X : Type 0} (b : Option Breach) (x y : X) → ◌≡◌ {A = Result X Breach} (Ok y) (unless_breach b x) → None ≡ b
unless_ok None x y h = refl
unless_ok (Some b) x y h = cc

unless_err : {X : Type 0} (b : Option Breach) (x : X) (e : Breach) → ◌≡◌ {A = Result X Breach} (Err e) (unless_breach b x) → Some e ≡ b
unless_err None x e h = cc
unless_err (Some b) x e h = let same : e ≡ b = cc in ap Some same

pub step_ok : (rows : List Row) (line : Line) (t : ℕ) (higher : Bool) (before : Option Life) (around : Around) (life : Life) → before ≡ life_at rows line → around ≡ asked_around line.action rows t line higher
    → ◌≡◌ {A = Result Life Breach} (Ok life) (step before line t around) → None ≡ breach_of_line (life_at rows line) line t (around_but_higher rows t line higher)
step_ok rows line t higher before around life before_is around_is h =
    unless_ok (breach_of_line before line t around) (life_after_lawful_line before line t) life h
    ∙ (λ i. breach_of_line (before_is i) line t (around_is i)) ∙ breach-asked rows line t higher (life_at rows line)

pub step_err : (rows : List Row) (line : Line) (t : ℕ) (higher : Bool) (before : Option Life) (around : Around) (breach : Breach) → before ≡ life_at rows line → around ≡ asked_around line.action rows t line higher
    → ◌≡◌ {A = Result Life Breach} (Err breach) (step before line t around) → Some breach ≡ breach_of_line (life_at rows line) line t (around_but_higher rows t line higher)
step_err rows line t higher before around breach before_is around_is h =
    unless_err (breach_of_line before line t around) (life_after_lawful_line before line t) breach h
    ∙ (λ i. breach_of_line (before_is i) line t (around_is i)) ∙ breach-asked rows line t higher (life_at rows line)

-- lines that open a spell alike

alike_by : (a : Action) (rows : List Row) (t : ℕ) (l m : Line) (higher : Bool) → l.event ≡ m.event → opened_period l t ≡ opened_period m t → asked_around a rows t l higher ≡ asked_around a rows t m higher
alike_by New rows t l m higher event_is period_is = λ i. around (has_rows rows (event_is i)) false (not (has_rows rows (event_is i)) && is_number_held rows t (event_is i)) false higher
alike_by Exa rows t l m higher event_is period_is =
    λ i. around false (is_open rows t (event_is i)) false (is_open rows t (event_is i) && list_any (λ (r : Row). same_event r.event (event_is i) && is_live t r && same_at t r.period (period_is i)) rows) higher
alike_by Exb rows t l m higher event_is period_is =
    λ i. around false (is_open rows t (event_is i)) false (is_open rows t (event_is i) && list_any (λ (r : Row). same_event r.event (event_is i) && is_live t r && same_at t r.period (period_is i)) rows) higher
alike_by Con rows t l m higher event_is period_is = refl
alike_by Ext rows t l m higher event_is period_is = refl
alike_by Upg rows t l m higher event_is period_is = refl
alike_by Can rows t l m higher event_is period_is = refl
alike_by Exp rows t l m higher event_is period_is = refl
alike_by Cor rows t l m higher event_is period_is = refl
alike_by Rou rows t l m higher event_is period_is = refl

pub asked_alike : (rows : List Row) (t : ℕ) (l m : Line) (higher : Bool) → asks_alike t l m ≡ true → asked_around l.action rows t l higher ≡ asked_around m.action rows t m higher
asked_alike rows t l m higher h =
    let p = and_parts (action_eq.eq-value.it l.action m.action && same_event l.event m.event) _ h in
    let q = and_parts (action_eq.eq-value.it l.action m.action) _ p.0 in
    ap (λ (a : Action). asked_around a rows t l higher) (action_one l.action m.action q.0)
    ∙ alike_by m.action rows t l m higher (event_one l.event m.event q.1) (period_one (opened_period l t) (opened_period m t) p.1)

-- a line that opens no spell asks for a higher row alone
pub unopened_asked : (a : Action) (rows : List Row) (t : ℕ) (line : Line) (higher : Bool) → opens a ≡ false → nothing_around higher ≡ asked_around a rows t line higher
unopened_asked New rows t line higher h = cc
unopened_asked Exa rows t line higher h = cc
unopened_asked Exb rows t line higher h = cc
unopened_asked Con rows t line higher h = refl
unopened_asked Ext rows t line higher h = refl
unopened_asked Upg rows t line higher h = refl
unopened_asked Can rows t line higher h = refl
unopened_asked Exp rows t line higher h = refl
unopened_asked Cor rows t line higher h = refl
unopened_asked Rou rows t line higher h = refl

higher_by : (a : Action) (rows : List Row) (t : ℕ) (line : Line) (higher : Bool) → (asked_around a rows t line higher).higher ≡ higher
higher_by New rows t line higher = refl
higher_by Exa rows t line higher = refl
higher_by Exb rows t line higher = refl
higher_by Con rows t line higher = refl
higher_by Ext rows t line higher = refl
higher_by Upg rows t line higher = refl
higher_by Can rows t line higher = refl
higher_by Exp rows t line higher = refl
higher_by Cor rows t line higher = refl
higher_by Rou rows t line higher = refl

pub asked_higher : (rows : List Row) (t : ℕ) (line : Line) (higher : Bool) (stands : Around) → stands ≡ asked_around line.action rows t line higher → stands.higher ≡ higher
asked_higher rows t line higher stands is = ap (λ (a : Around). a.higher) is ∙ higher_by line.action rows t line higher

pub asked_own : (rows : List Row) (t : ℕ) (line : Line) (higher : Bool) (stands : Around) → stands ≡ asked_around line.action rows t line higher → stands ≡ asked_around line.action rows t line stands.higher
asked_own rows t line higher stands is = is ∙ ap (asked_around line.action rows t line) (sym (asked_higher rows t line higher stands is))

upgrade_unopened : (a : Action) → is_upgrade a ≡ true → opens a ≡ false
upgrade_unopened Upg h = refl
upgrade_unopened New h = cc
upgrade_unopened Exa h = cc
upgrade_unopened Exb h = cc
upgrade_unopened Con h = cc
upgrade_unopened Ext h = cc
upgrade_unopened Can h = cc
upgrade_unopened Exp h = cc
upgrade_unopened Cor h = cc
upgrade_unopened Rou h = cc

pub upgrade_asked : (a : Action) (rows : List Row) (t : ℕ) (line : Line) (higher : Bool) → is_upgrade a ≡ true → nothing_around higher ≡ asked_around a rows t line higher
upgrade_asked a rows t line higher h = unopened_asked a rows t line higher (upgrade_unopened a h)

-- only UPG asks for a higher row

pub first_made : (rows : List Row) (t : ℕ) (lines earlier : List Line) (line : Line) (second higher : Bool) → second ≡ is_second earlier line
    → breach_of_line (life_at rows line) line t (around_but_higher rows t line higher) ≡ breach_of_line (life_at rows line) line t (around_of rows t lines line)
    → cond (is_routine line.action) None (cond second (Some Twice) (breach_of_line (life_at rows line) line t (around_but_higher rows t line higher))) ≡ breach_in rows t lines earlier line
unfolding breach_in
first_made rows t lines earlier line second higher second_is breach_is = λ i. cond (is_routine line.action) None (cond (second_is i) (Some Twice) (breach_is i))

pub other_made : (rows : List Row) (t : ℕ) (lines earlier : List Line) (line : Line) (second higher : Bool) → is_upgrade line.action ≡ false → second ≡ is_second earlier line
    → cond (is_routine line.action) None (cond second (Some Twice) (breach_of_line (life_at rows line) line t (around_but_higher rows t line higher))) ≡ breach_in rows t lines earlier line
other_made rows t lines earlier line second higher other second_is =
    first_made rows t lines earlier line second higher second_is (breach-higher (life_at rows line) line rows t higher (has_higher rows t lines line) other)

pub upgrade_made : (rows : List Row) (t : ℕ) (lines earlier : List Line) (line : Line) (second higher : Bool) → higher ≡ has_higher rows t lines line → second ≡ is_second earlier line
    → cond (is_routine line.action) None (cond second (Some Twice) (breach_of_line (life_at rows line) line t (around_but_higher rows t line higher))) ≡ breach_in rows t lines earlier line
upgrade_made rows t lines earlier line second higher higher_is second_is =
    first_made rows t lines earlier line second higher second_is (ap (λ (b : Bool). breach_of_line (life_at rows line) line t (around_but_higher rows t line b)) higher_is)

-- whether a line may count
pub none_told : {X : Type 0} (o : Option X) (none : Bool) → is_some o ≡ not none → none ≡ is_none o
none_told None true h = refl
none_told None false h = cc
none_told (Some x) true h = cc
none_told (Some x) false h = refl

pub neither : (a b c : Bool) → a ≡ false → b ≡ false → c ≡ (not a && not b && c)
neither true b c h g = cc
neither false true c h g = cc
neither false false c h g = refl

may_count_is : (routine upgrade second : Bool) (breach : Option Breach) → (not second && (not routine && not upgrade && is_none breach)) ≡ (not routine && not upgrade && not second && is_none breach)
may_count_is false false second breach = refl
may_count_is true upgrade true breach = refl
may_count_is true upgrade false breach = refl
may_count_is false true true breach = refl
may_count_is false true false breach = refl

-- one line more

pub judged_next : (rows : List Row) (t : ℕ) (lines : List Line) (found next all : List (Line × Option Breach)) (i : ℕ) (line : Line) (breach : Option Breach) → i < length lines → line ≡ get_or lines i line
    → breach ≡ breach_in rows t lines (take i lines) line → next ≡ found ++ (line, breach) ∷ [] → found ++ judged_from rows t lines (take i lines) (drop i lines) ≡ all
    → next ++ judged_from rows t lines (take (i + 1) lines) (drop (i + 1) lines) ≡ all
judged_next rows t lines found next all i line breach lt is breach_is made h =
    let rest = drop (i + 1) lines in
    let longer = one_longer lines i line lt is in
    ap (λ (xs : List (Line × Option Breach)). xs ++ judged_from rows t lines (take (i + 1) lines) rest) made
    ∙ append_assoc found ((line, breach) ∷ []) (judged_from rows t lines (take (i + 1) lines) rest)
    ∙ ap (λ (earlier : List Line). found ++ (line, breach) ∷ judged_from rows t lines earlier rest) longer
    ∙ ap (λ (b : Option Breach). found ++ (line, b) ∷ judged_from rows t lines (take i lines ++ line ∷ []) rest) breach_is
    ∙ ap (λ (more : List Line). found ++ judged_from rows t lines (take i lines) more) (sym (cut_at lines i line lt is))
    ∙ h

pub counted_next : (rows : List Row) (t : ℕ) (lines : List Line) (es next all : List Row) (i : ℕ) (line : Line) (second lawful : Bool) (row : Row) → i < length lines → line ≡ get_or lines i line
    → second ≡ is_second (take i lines) line
    → lawful ≡ (not (is_routine line.action) && not (is_upgrade line.action) && is_none (breach_of_line (life_at rows line) line t (around_but_higher rows t line true)))
    → row ≡ row_after rows t line → next ≡ cond (not second && lawful) (put row es) es → rows_after_all_but_upgrades rows t (take i lines) (drop i lines) es ≡ all
    → rows_after_all_but_upgrades rows t (take (i + 1) lines) (drop (i + 1) lines) next ≡ all
counted_next rows t lines es next all i line second lawful row lt is second_is lawful_is row_is made h =
    let rest = drop (i + 1) lines in
    let breach = breach_of_line (life_at rows line) line t (around_but_higher rows t line true) in
    let counts_so : (not second && lawful) ≡ may_be_higher rows t (take i lines) line =
    ap (λ (b : Bool). not second && b) lawful_is ∙ may_count_is (is_routine line.action) (is_upgrade line.action) second breach
    ∙ ap (λ (b : Bool). not (is_routine line.action) && not (is_upgrade line.action) && not b && is_none breach) second_is in
    ap (λ (earlier : List Line). rows_after_all_but_upgrades rows t earlier rest next) (one_longer lines i line lt is)
    ∙ ap (λ (xs : List Row). rows_after_all_but_upgrades rows t (take i lines ++ line ∷ []) rest xs) (made ∙ (λ i. cond (counts_so i) (put (row_is i) es) es))
    ∙ ap (λ (more : List Line). rows_after_all_but_upgrades rows t (take i lines) more es) (sym (cut_at lines i line lt is))
    ∙ h

-- one of the lines is a UPG line
pub any_upgrade : (lines : List Line) (i : ℕ) (line : Line) → i < length lines → line ≡ get_or lines i line → is_upgrade line.action ≡ true → list_any upgrades lines ≡ true
any_upgrade lines i line lt is h = list_any_at upgrades lines i line lt (subst (λ (l : Line). is_upgrade l.action ≡ true) is h)

all_at : (P : Line → Type 0) (lines : List Line) (i : ℕ) (line : Line) → i < length lines → line ≡ get_or lines i line → AllByRecursion P lines → P line
all_at P [] i line lt is all = absurd (omega (arith, lt))
all_at P (l ∷ lines) zero line lt is all = subst P (sym is) all.0
all_at P (l ∷ lines) (suc i) line lt is all = all_at P lines i line (omega (arith, lt)) is all.1

pub over_at : (rows : List Row) (t : ℕ) (lines : List Line) (higher : List Row) (i : ℕ) (line : Line) → i < length lines → line ≡ get_or lines i line → is_upgrade line.action ≡ true → AreOver rows t lines higher
    → (own : Row) → row_at rows line.event line.zone ≡ Some own → AreHigher rows t own (family_of (facts_of line.event.hazard)) higher
over_at rows t lines higher i line lt is up over =
    all_at (λ (l : Line). upgrades l ≡ true → (own : Row) → row_at rows l.event l.zone ≡ Some own → AreHigher rows t own (family_of (facts_of l.event.hazard)) higher) lines i line lt is over up
