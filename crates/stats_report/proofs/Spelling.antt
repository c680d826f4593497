-- The lines of runs, verdict by verdict, are taken as they are spelled.
use Rattle.std.proofs.Common.{◌≡◌, ◌==◌, ◌∙◌, ◌<◌, ◌+◌, ◌&&◌, not, ℕ, Bool, true, false, cond, List, [], ◌∷◌, ◌++◌, length, get_or, map, take, fold, refl, ap, sym, subst, append_assoc, append-nil}
use Rattle.std.proofs.lemmas.List.{take_more}
use Rattle.std.specs.List.{AllByRecursion}
use Rattle.std.specs.Option.{is_none}
use Rattle.hazard_types.specs.Places.{Place}
use Rattle.hazard_types.specs.Same.{same_event}
use Rattle.hazard_types.specs.declared.line.Line.{Line}
use Rattle.event_life.specs.Products.{is_routine, lawful_of}
use Rattle.row_index.specs.Runs.{in_zone}
use Rattle.row_index.specs.Verdicts.{Judged, said_at, said_along, expand_at, expand_run, expand, leaves_row, HaveOwnEvents}
use Rattle.row_index.specs.declared.verdicts.Run.{Run}
use Rattle.row_index.specs.declared.verdicts.Verdict.{Verdict}
use Rattle.stats_report.specs.Along.{along, lawful_in, line_by_line}
use Rattle.stats_report.specs.Spells.{Turn, turned, change_of, turned_in, Kept, turn_at, with_turn}
use Rattle.stats_report.specs.Summed.{TakesLawful, TakesLines}
use Rattle.stats_report.specs.declared.standing.Moment.{Moment}
use Rattle.stats_report.proofs.Exchange.{lines_alike, taken_alike}
use Rattle.stats_report.proofs.Running.{IsSaid, run_taken, both_taken}

-- one line in zones

turned_along : (m : Moment) (line : Line) (turn : Turn) (zones : List Place) → fold (turned_in (change_of m line)) turn zones ≡ fold (turned m) turn (along line zones)
turned_along m line turn [] = refl
turned_along m line turn (z ∷ zones) = turned_along m line (turned m turn (in_zone line z)) zones

own_along : (line : Line) (zones : List Place) → AllByRecursion (IsSaid line.event) (along line zones)
own_along line [] = tt
own_along line (z ∷ zones) = (refl, own_along line zones)

one_along : (b : Bool) (line : Line) (zones : List Place) → line_by_line (cond b (line ∷ []) []) zones ≡ cond b (along line zones) []
one_along true line zones = append-nil (along line zones)
one_along false line zones = refl

abbrev pub TakesVerdicts : Moment → List Verdict → List Place → Kept → Kept → Type 0
TakesVerdicts m verdicts zones old new = TakesLawful m (line_by_line (lawful_in verdicts) zones) old new

-- a lawful line was taken in some zones
pub verdict_taken : (m : Moment) (old new : Kept) (v : Verdict) (zones : List Place) → leaves_row v ≡ true → (length zones == 0) ≡ false
    → new ≡ with_turn old v.line.event (fold (turned_in (change_of m v.line)) (turn_at old v.line.event) zones) → TakesVerdicts m (v ∷ []) zones old new
verdict_taken m old new v [] lawful some told = cc
verdict_taken m old new v (z ∷ zones) lawful some told =
    let line : Line = v.line in
    let e = line.event in
    let all : List Place = z ∷ zones in
    let lines : List Line = along line all in
    let lines_are : line_by_line (lawful_in (v ∷ [])) all ≡ lines = one_along (leaves_row v) line all ∙ ap (λ (b : Bool). cond b lines []) lawful in
    let told_is : new ≡ with_turn old e (fold (turned m) (turn_at old e) lines) = told ∙ ap (with_turn old e) (turned_along m line (turn_at old e) all) in
    subst (λ (ls : List Line). TakesLawful m ls old new) (sym lines_are)
    (subst (λ (k : Kept). TakesLawful m lines old k) (sym told_is) (run_taken m old e (in_zone line z) (along line zones) (own_along line all)))

-- verdicts, one after another

said_both : (xs ys : List Line) (zones : List Place) → line_by_line (xs ++ ys) zones ≡ line_by_line xs zones ++ line_by_line ys zones
said_both [] ys zones = refl
said_both (x ∷ xs) ys zones = ap (λ (ls : List Line). along x zones ++ ls) (said_both xs ys zones) ∙ sym (append_assoc (along x zones) (line_by_line xs zones) (line_by_line ys zones))

lawful_more : (xs ys : List Verdict) → lawful_in (xs ++ ys) ≡ lawful_in xs ++ lawful_in ys
lawful_more [] ys = refl
lawful_more (x ∷ xs) ys = by_test (leaves_row x) (lawful_more xs ys)
  where
    by_test : (b : Bool) → lawful_in (xs ++ ys) ≡ lawful_in xs ++ lawful_in ys → cond b (x.line ∷ lawful_in (xs ++ ys)) (lawful_in (xs ++ ys)) ≡ cond b (x.line ∷ lawful_in xs) (lawful_in xs) ++ lawful_in ys
    by_test true later = ap (λ (ls : List Line). x.line ∷ ls) later
    by_test false later = later

-- the next verdict is taken behind those before
pub verdict_more : (m : Moment) (old mid new : Kept) (verdicts : List Verdict) (i : ℕ) (v : Verdict) (zones : List Place) → i < length verdicts → v ≡ get_or verdicts i v
    → TakesVerdicts m (take i verdicts) zones old mid → TakesVerdicts m (v ∷ []) zones mid new → TakesVerdicts m (take (i + 1) verdicts) zones old new
verdict_more m old mid new verdicts i v zones within is first next =
    let front : List Verdict = take i verdicts in
    let front_is : take (i + 1) verdicts ≡ front ++ v ∷ [] = take_more verdicts i v within ∙ ap (λ (x : Verdict). front ++ x ∷ []) (sym is) in
    let both = ap (λ (ls : List Line). line_by_line ls zones) (lawful_more front (v ∷ [])) ∙ said_both (lawful_in front) (lawful_in (v ∷ [])) zones in
    subst (λ (vs : List Verdict). TakesVerdicts m vs zones old new) (sym front_is)
    (subst (λ (ls : List Line). TakesLawful m ls old new) (sym both)
    (both_taken m old mid new (line_by_line (lawful_in front) zones) (line_by_line (lawful_in (v ∷ [])) zones) first next))

-- a run

zone_lawful : (verdicts : List Verdict) (z : Place) → lawful_of (expand_at verdicts z) ≡ said_at (lawful_in verdicts) z
zone_lawful [] z = refl
zone_lawful (v ∷ verdicts) z = by_test (leaves_row v) (zone_lawful verdicts z)
  where
    by_test : (b : Bool) → lawful_of (expand_at verdicts z) ≡ said_at (lawful_in verdicts) z
        → cond b (in_zone v.line z ∷ lawful_of (expand_at verdicts z)) (lawful_of (expand_at verdicts z)) ≡ said_at (cond b (v.line ∷ lawful_in verdicts) (lawful_in verdicts)) z
    by_test true later = ap (λ (ls : List Line). in_zone v.line z ∷ ls) later
    by_test false later = later

lawful_both : (xs ys : List Judged) → lawful_of (xs ++ ys) ≡ lawful_of xs ++ lawful_of ys
lawful_both [] ys = refl
lawful_both (x ∷ xs) ys = by_test (not (is_routine x.0.action) && is_none x.1) (lawful_both xs ys)
  where
    by_test : (b : Bool) → lawful_of (xs ++ ys) ≡ lawful_of xs ++ lawful_of ys → cond b (x.0 ∷ lawful_of (xs ++ ys)) (lawful_of (xs ++ ys)) ≡ cond b (x.0 ∷ lawful_of xs) (lawful_of xs) ++ lawful_of ys
    by_test true later = ap (λ (ls : List Line). x.0 ∷ ls) later
    by_test false later = later

run_lawful : (verdicts : List Verdict) (zones : List Place) → lawful_of (expand_run (record { zones = zones; verdicts = verdicts })) ≡ said_along (lawful_in verdicts) zones
run_lawful verdicts [] = refl
run_lawful verdicts (z ∷ zones) =
    lawful_both (expand_at verdicts z) (expand_run (record { zones = zones; verdicts = verdicts }))
    ∙ (λ i. zone_lawful verdicts z i ++ run_lawful verdicts zones i)

abbrev lines_of : List Verdict → List Line
lines_of verdicts = map (λ (v : Verdict). v.line) verdicts

-- lawful lines are of an event each where all are

abbrev IsOther : Line → Line → Type 0
IsOther line l = same_event line.event l.event ≡ false

others_lawful : (line : Line) (verdicts : List Verdict) → AllByRecursion (IsOther line) (lines_of verdicts) → AllByRecursion (IsOther line) (lawful_in verdicts)
others_lawful line [] own = tt
others_lawful line (v ∷ verdicts) own = by_test (leaves_row v) (others_lawful line verdicts own.1)
  where
    by_test : (b : Bool) → AllByRecursion (IsOther line) (lawful_in verdicts) → AllByRecursion (IsOther line) (cond b (v.line ∷ lawful_in verdicts) (lawful_in verdicts))
    by_test true later = (own.0, later)
    by_test false later = later

own_lawful : (verdicts : List Verdict) → HaveOwnEvents (lines_of verdicts) → HaveOwnEvents (lawful_in verdicts)
own_lawful [] own = tt
own_lawful (v ∷ verdicts) own = by_test (leaves_row v) (own_lawful verdicts own.1)
  where
    by_test : (b : Bool) → HaveOwnEvents (lawful_in verdicts) → HaveOwnEvents (cond b (v.line ∷ lawful_in verdicts) (lawful_in verdicts))
    by_test true later = (others_lawful v.line verdicts own.0, later)
    by_test false later = later

-- the verdicts of a run were taken, and so the run was
pub run_spelled : (m : Moment) (old new : Kept) (r : Run) → HaveOwnEvents (lines_of r.verdicts) → TakesVerdicts m r.verdicts r.zones old new → TakesLines m (expand_run r) old new
run_spelled m old new r own takes =
    let lines : List Line = lawful_in r.verdicts in
    subst (λ (ls : List Line). TakesLawful m ls old new) (sym (run_lawful r.verdicts r.zones))
    (taken_alike m (said_along lines r.zones) (line_by_line lines r.zones) old new (lines_alike m lines r.zones (own_lawful r.verdicts own)) takes)

-- runs, one after another

spelled_more : (xs : List Run) (r : Run) → expand (xs ++ r ∷ []) ≡ expand xs ++ expand_run r
spelled_more [] r = append-nil (expand_run r)
spelled_more (x ∷ xs) r = ap (λ (js : List Judged). expand_run x ++ js) (spelled_more xs r) ∙ sym (append_assoc (expand_run x) (expand xs) (expand_run r))

-- the next run is taken behind those before
pub run_more : (m : Moment) (old mid new : Kept) (runs : List Run) (i : ℕ) (r : Run) → i < length runs → r ≡ get_or runs i r
    → TakesLines m (expand (take i runs)) old mid → TakesLines m (expand_run r) mid new → TakesLines m (expand (take (i + 1) runs)) old new
run_more m old mid new runs i r within is first next =
    let front : List Run = take i runs in
    let front_is : take (i + 1) runs ≡ front ++ r ∷ [] = take_more runs i r within ∙ ap (λ (x : Run). front ++ x ∷ []) (sym is) in
    let both = ap (λ (js : List Judged). lawful_of js) (spelled_more front r) ∙ lawful_both (expand front) (expand_run r) in
    subst (λ (rs : List Run). TakesLines m (expand rs) old new) (sym front_is)
    (subst (λ (ls : List Line). TakesLawful m ls old new) (sym both) (both_taken m old mid new (lawful_of (expand front)) (lawful_of (expand_run r)) first next))
