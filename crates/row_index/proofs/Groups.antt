-- Zones in which a line finds the same.
use Rattle.std.proofs.Common.{◌≡◌, ◌∙◌, ◌<◌, ◌≤◌, ◌+◌, ◌-◌, ℕ, suc, arith, List, [], ◌∷◌, ◌++◌, append_assoc, append-nil, length-drop, take, take_all, drop, length, Bool, true, false, cond, Option, Some, None, OnOk, Result, Ok, Err, refl, ap, sym, subst, rules}
use Rattle.std.specs.List.{AllByRecursion}
use Rattle.std.specs.Option.{option_eq, option_map}
use Rattle.std.proofs.lemmas.Grind.{flat_map-append}
use Rattle.std.proofs.lemmas.List.{map-append, take-append-drop}
use denote.Enum.Bare.{same_true}
use Rattle.hazard_types.specs.Places.{Place}
use Rattle.hazard_types.specs.declared.codes.Action.{Action}
use Rattle.hazard_types.specs.declared.codes.Action.TheVariants.{New, Con, Exa, Ext, Exb, Upg, Can, Exp, Cor, Rou}
use Rattle.hazard_types.specs.declared.line.Line.{Line}
use Rattle.hazard_types.specs.declared.line.Row.{Row}
use Rattle.event_life.specs.contracts.life.Breach as breach_type
use Rattle.event_life.specs.contracts.life.BreachPartialEq.TheImpl as breach
use Rattle.event_life.specs.declared.life.Around.{Around}
use Rattle.event_life.specs.declared.life.Breach.{Breach}
use Rattle.event_life.specs.declared.life.Life.{Life}
use Rattle.event_life.specs.Products.{around_but_higher, breach_in, is_routine, is_upgrade, life_at, life_of, row_at}
use Rattle.event_life.specs.Table.{first_of, on_life, on_nothing, breach_of_line}
use Rattle.row_index.specs.Groups.{AreJudged, IsJudged, IsJudgedAt, IsLifeIn, IsReady, Serves, lines_of, zones_of}
use Rattle.row_index.specs.Holding.{AreRowsOf}
use Rattle.row_index.specs.Runs.{in_zone}
use Rattle.row_index.specs.Steps.{asked_around}
use Rattle.row_index.specs.declared.higher.Changed.{Changed}
use Rattle.row_index.specs.declared.verdicts.Run.{Run}
use Rattle.row_index.specs.declared.verdicts.Verdict.{Verdict}
use Rattle.row_index.proofs.Asked.{other_made}
use Rattle.row_index.proofs.Every.{every_back, every_both, every_drop, every_front, every_joined, every_same, every_take}

breach_one : (a b : Breach) → breach.eq-value.it a b ≡ true → a ≡ b
breach_one a b h = same_true breach_type.the_type (search rules) a b h

pub breaches_one : (a b : Option Breach) → option_eq breach.eq-value.it a b ≡ true → a ≡ b
breaches_one None None h = refl
breaches_one (Some x) (Some y) h = ap (λ (b : Breach). Some b) (breach_one x y h)
breaches_one (Some x) None h = cc
breaches_one None (Some y) h = cc

-- what stands around a line does not depend on its zone

asked_by : (a : Action) (rows : List Row) (t : ℕ) (l : Line) (z : Place) (higher : Bool) → asked_around a rows t l higher ≡ asked_around a rows t (in_zone l z) higher
asked_by New rows t l z higher = refl
asked_by Con rows t l z higher = refl
asked_by Exa rows t l z higher = refl
asked_by Ext rows t l z higher = refl
asked_by Exb rows t l z higher = refl
asked_by Upg rows t l z higher = refl
asked_by Can rows t l z higher = refl
asked_by Exp rows t l z higher = refl
asked_by Cor rows t l z higher = refl
asked_by Rou rows t l z higher = refl

pub zone_asked : (rows : List Row) (t : ℕ) (l : Line) (z : Place) (stands : Around) → stands ≡ asked_around l.action rows t l true → stands ≡ asked_around (in_zone l z).action rows t (in_zone l z) true
zone_asked rows t l z stands is = is ∙ asked_by l.action rows t l z true

-- nor does a breach on one life

breach_by : (a : Action) (life : Life) (l : Line) (z w : Place) (t : ℕ) (around : Around) → first_of (on_life a life (in_zone l z) t around) ≡ first_of (on_life a life (in_zone l w) t around)
breach_by New life l z w t around = refl
breach_by Con life l z w t around = refl
breach_by Exa life l z w t around = refl
breach_by Ext life l z w t around = refl
breach_by Exb life l z w t around = refl
breach_by Upg life l z w t around = refl
breach_by Can life l z w t around = refl
breach_by Exp life l z w t around = refl
breach_by Cor life l z w t around = refl
breach_by Rou life l z w t around = refl

nothing_by : (a : Action) (l : Line) (z w : Place) (t : ℕ) (around : Around) → first_of (on_nothing a (in_zone l z) t around) ≡ first_of (on_nothing a (in_zone l w) t around)
nothing_by New l z w t around = refl
nothing_by Con l z w t around = refl
nothing_by Exa l z w t around = refl
nothing_by Ext l z w t around = refl
nothing_by Exb l z w t around = refl
nothing_by Upg l z w t around = refl
nothing_by Can l z w t around = refl
nothing_by Exp l z w t around = refl
nothing_by Cor l z w t around = refl
nothing_by Rou l z w t around = refl

zone_breach : (o : Option Life) (l : Line) (z w : Place) (t : ℕ) (around : Around) → breach_of_line o (in_zone l z) t around ≡ breach_of_line o (in_zone l w) t around
unfolding breach_of_line
zone_breach None l z w t around = nothing_by l.action l z w t around
zone_breach (Some life) l z w t around = breach_by l.action life l z w t around

-- a line that is no UPG line has one breach in zones in which it finds one life
alike_breach : (rows : List Row) (t : ℕ) (all : List Line) (l : Line) (z w : Place) → is_upgrade l.action ≡ false → life_at rows (in_zone l z) ≡ life_at rows (in_zone l w)
    → breach_in rows t all [] (in_zone l z) ≡ breach_in rows t all [] (in_zone l w)
alike_breach rows t all l z w other same =
    let around = around_but_higher rows t l true in
    sym (other_made rows t all [] (in_zone l z) false true other refl)
    ∙ ap (λ (b : Option Breach). cond (is_routine l.action) None b)
    (zone_breach (life_at rows (in_zone l z)) l z w t around ∙ ap (λ (o : Option Life). breach_of_line o (in_zone l w) t around) same)
    ∙ other_made rows t all [] (in_zone l w) false true other refl

alike_judged : (rows : List Row) (t : ℕ) (all : List Line) (v : Verdict) (z w : Place) → is_upgrade v.line.action ≡ false → IsJudgedAt rows t all z v → IsLifeIn rows v.line.event v.found w → IsJudgedAt rows t all w v
alike_judged rows t all v z w other judged found = (found, judged.1 ∙ alike_breach rows t all v.line z w other (judged.0 ∙ sym found))

-- the zones that have the life that a line found in the first
pub counted : (rows : List Row) (t : ℕ) (all : List Line) (v : Verdict) (line : Line) (part : List Row) (first : Place) (zones : List Place) → v.line ≡ line → AreRowsOf rows line.event part → is_upgrade line.action ≡ false
    → AllByRecursion (IsLifeIn part line.event v.found) zones → IsJudgedAt rows t all first v → AllByRecursion (λ (z : Place). IsJudgedAt rows t all z v) zones
counted rows t all v line part first zones line_is own other found judged =
    every_same zones (IsLifeIn part line.event v.found) (λ (z : Place). IsJudgedAt rows t all z v) one found
  where
    one : (z : Place) → IsLifeIn part line.event v.found z → IsJudgedAt rows t all z v
    one z h = alike_judged rows t all v first z (ap (λ (l : Line). is_upgrade l.action) line_is ∙ other) judged
        (ap (λ (l : Line). option_map life_of (row_at rows l.event z)) line_is ∙ ap (λ (o : Option Row). option_map life_of o) (own.found z) ∙ h)

-- a line was judged
pub judged_at : (rows : List Row) (t : ℕ) (all : List Line) (line : Line) (z : Place) (v : Verdict) → v.line ≡ line → IsLifeIn rows line.event v.found z → v.breach ≡ breach_in rows t all [] (in_zone line z) → IsJudgedAt rows t all z v
judged_at rows t all line z v line_is found breach_is =
    (ap (λ (l : Line). life_at rows (in_zone l z)) line_is ∙ found, breach_is ∙ ap (λ (l : Line). breach_in rows t all [] (in_zone l z)) (sym line_is))

-- and so was another that found the same
pub judged_same : (rows : List Row) (t : ℕ) (all : List Line) (line : Line) (z : Place) (w v : Verdict) → v.line ≡ line → (w.found ≡ v.found) × (w.breach ≡ v.breach)
    → IsLifeIn rows line.event w.found z → w.breach ≡ breach_in rows t all [] (in_zone line z) → IsJudgedAt rows t all z v
judged_same rows t all line z w v line_is same found breach_is = judged_at rows t all line z v line_is (found ∙ same.0) (sym same.1 ∙ breach_is)

-- a group of zones

one_more : (rows : List Row) (t : ℕ) (all : List Line) (v : Verdict) (verdicts : List Verdict) (z : Place) → AllByRecursion (IsJudgedAt rows t all z) verdicts → IsJudgedAt rows t all z v → AllByRecursion (IsJudgedAt rows t all z) (verdicts ++ v ∷ [])
one_more rows t all v verdicts z each judged = every_both verdicts (v ∷ []) (IsJudgedAt rows t all z) each (judged, tt)

-- the zones in which these lines were judged, and then one more
pub group : (rows : List Row) (t : ℕ) (all : List Line) (c : Changed) (line : Line) (verdicts : List Verdict) (v : Verdict) (zones : List Place) (r : Run) → r.zones ≡ zones → r.verdicts ≡ verdicts ++ v ∷ [] → v.line ≡ line
    → AllByRecursion (IsReady rows t all c line verdicts) zones → AllByRecursion (λ (z : Place). IsJudgedAt rows t all z v) zones → IsJudged rows t all (lines_of verdicts ++ line ∷ []) r
group rows t all c line verdicts v zones r zones_are verdicts_are line_is ready judged = record {
  said = ap lines_of verdicts_are ∙ map-append (λ (w : Verdict). w.line) verdicts (v ∷ []) ∙ ap (λ (l : Line). lines_of verdicts ++ l ∷ []) line_is;
  each = subst (λ (zs : List Place). AllByRecursion (λ (z : Place). AllByRecursion (IsJudgedAt rows t all z) r.verdicts) zs) (sym zones_are)
      (subst (λ (vs : List Verdict). AllByRecursion (λ (z : Place). AllByRecursion (IsJudgedAt rows t all z) vs) zones) (sym verdicts_are)
      (every_joined zones (IsReady rows t all c line verdicts) (λ (z : Place). IsJudgedAt rows t all z v) (λ (z : Place). AllByRecursion (IsJudgedAt rows t all z) (verdicts ++ v ∷ [])) (λ z ready judged. one_more rows t all v verdicts z ready.0 judged) ready judged));
}

-- runs with one more
pub zones_more : (old new : List Run) (r : Run) → new ≡ old ++ r ∷ [] → zones_of new ≡ zones_of old ++ r.zones
zones_more old new r is = ap zones_of is ∙ flat_map-append (λ (x : Run). x.zones) old (r ∷ []) ∙ ap (λ (zs : List Place). zones_of old ++ zs) (append-nil r.zones)

pub judged_more : (rows : List Row) (t : ℕ) (all lines : List Line) (old new : List Run) (r : Run) → new ≡ old ++ r ∷ [] → IsJudged rows t all lines r → AreJudged rows t all lines old → AreJudged rows t all lines new
judged_more rows t all lines old new r is one each = subst (λ (runs : List Run). AreJudged rows t all lines runs) (sym is) (every_both old (r ∷ []) (IsJudged rows t all lines) each (one, tt))

-- the first zone and those of the rest that find the same, and what is left then

abbrev pub behind : List Place → ℕ → List Place
behind rest n = take (length rest - n) (drop n rest)

behind_is : (rest : List Place) (n : ℕ) → behind rest n ≡ drop n rest
behind_is rest n = let left : length (drop n rest) ≤ length rest - n = omega (arith, length-drop n rest) in take_all (length rest - n) (drop n rest) left

front_is : (left : List Place) (first : Place) (rest : List Place) (n : ℕ) → left ≡ first ∷ rest → take (n + 1) left ≡ first ∷ take n rest
front_is left first rest n is = let next : n + 1 ≡ suc n = omega arith in ap (λ (zs : List Place). take (n + 1) zs) is ∙ ap (λ (k : ℕ). take k (first ∷ rest)) next

pub behind_shorter : (left : List Place) (first : Place) (rest : List Place) (n : ℕ) → left ≡ first ∷ rest → length (behind rest n) < length left
behind_shorter left first rest n is =
    let longer : length left ≡ suc (length rest) = ap length is in
    let shorter : length (behind rest n) ≡ length rest - n = ap length (behind_is rest n) ∙ length-drop n rest in
    omega (arith, longer, shorter)

-- the zones of the runs with the front's, and those behind it, are all
pub zones_next : (total left : List Place) (first : Place) (rest : List Place) (n : ℕ) (old new : List Run) (r : Run) → left ≡ first ∷ rest → r.zones ≡ take (n + 1) left → new ≡ old ++ r ∷ []
    → zones_of old ++ left ≡ total → zones_of new ++ behind rest n ≡ total
zones_next total left first rest n old new r left_is zones_are is h =
    let whole : r.zones ++ behind rest n ≡ left =
    ap (λ (zs : List Place). zs ++ behind rest n) (zones_are ∙ front_is left first rest n left_is)
    ∙ ap (λ (zs : List Place). first ∷ (take n rest ++ zs)) (behind_is rest n)
    ∙ ap (λ (zs : List Place). first ∷ zs) (take-append-drop n rest)
    ∙ sym left_is in
    ap (λ (zs : List Place). zs ++ behind rest n) (zones_more old new r is)
    ∙ append_assoc (zones_of old) r.zones (behind rest n)
    ∙ ap (λ (zs : List Place). zones_of old ++ zs) whole
    ∙ h

pub ready_serves : (rows : List Row) (t : ℕ) (all : List Line) (c : Changed) (line : Line) (verdicts : List Verdict) (zones : List Place) → AllByRecursion (IsReady rows t all c line verdicts) zones → AllByRecursion (Serves rows t all c line) zones
ready_serves rows t all c line verdicts zones ready = every_same zones (IsReady rows t all c line verdicts) (Serves rows t all c line) (λ z h. h.1) ready

ready_first : (rows : List Row) (t : ℕ) (all : List Line) (c : Changed) (line : Line) (verdicts : List Verdict) (left : List Place) (first : Place) (rest : List Place) → left ≡ first ∷ rest
    → AllByRecursion (IsReady rows t all c line verdicts) left → AllByRecursion (IsReady rows t all c line verdicts) (first ∷ rest)
ready_first rows t all c line verdicts left first rest is ready = subst (λ (zs : List Place). AllByRecursion (IsReady rows t all c line verdicts) zs) is ready

-- the front was judged
pub front_judged : (rows : List Row) (t : ℕ) (all : List Line) (c : Changed) (line : Line) (verdicts : List Verdict) (v : Verdict) (left : List Place) (first : Place) (rest : List Place) (n : ℕ) (r : Run)
    → left ≡ first ∷ rest → r.zones ≡ take (n + 1) left → r.verdicts ≡ verdicts ++ v ∷ [] → v.line ≡ line
    → (AllByRecursion (Serves rows t all c line) (first ∷ rest) → AllByRecursion (λ (z : Place). IsJudgedAt rows t all z v) (first ∷ take n rest))
    → AllByRecursion (IsReady rows t all c line verdicts) left → IsJudged rows t all (lines_of verdicts ++ line ∷ []) r
front_judged rows t all c line verdicts v left first rest n r left_is zones_are verdicts_are line_is finds ready =
    let both = ready_first rows t all c line verdicts left first rest left_is ready in
    group rows t all c line verdicts v (first ∷ take n rest) r (zones_are ∙ front_is left first rest n left_is) verdicts_are line_is
    (both.0, every_take rest (IsReady rows t all c line verdicts) n both.1) (finds (ready_serves rows t all c line verdicts (first ∷ rest) both))

-- what is behind it is as ready as all of it was
pub behind_ready : (rows : List Row) (t : ℕ) (all : List Line) (c : Changed) (line : Line) (verdicts : List Verdict) (left : List Place) (first : Place) (rest : List Place) (n : ℕ) → left ≡ first ∷ rest
    → AllByRecursion (IsReady rows t all c line verdicts) left → AllByRecursion (IsReady rows t all c line verdicts) (behind rest n)
behind_ready rows t all c line verdicts left first rest n left_is ready =
    let both = ready_first rows t all c line verdicts left first rest left_is ready in
    subst (λ (zs : List Place). AllByRecursion (IsReady rows t all c line verdicts) zs) (sym (behind_is rest n)) (every_drop rest (IsReady rows t all c line verdicts) n both.1)

-- all of it was judged
pub whole_judged : (rows : List Row) (t : ℕ) (all : List Line) (c : Changed) (line : Line) (verdicts : List Verdict) (v : Verdict) (left : List Place) (first : Place) (rest : List Place) (n : ℕ) (r : Run)
    → left ≡ first ∷ rest → length rest ≤ n → r.zones ≡ left → r.verdicts ≡ verdicts ++ v ∷ [] → v.line ≡ line
    → (AllByRecursion (Serves rows t all c line) (first ∷ rest) → AllByRecursion (λ (z : Place). IsJudgedAt rows t all z v) (first ∷ take n rest))
    → AllByRecursion (IsReady rows t all c line verdicts) left → IsJudged rows t all (lines_of verdicts ++ line ∷ []) r
whole_judged rows t all c line verdicts v left first rest n r left_is all_of_it zones_are verdicts_are line_is finds ready =
    let both = ready_first rows t all c line verdicts left first rest left_is ready in
    group rows t all c line verdicts v (first ∷ rest) r (zones_are ∙ left_is) verdicts_are line_is both
    (subst (λ (zs : List Place). AllByRecursion (λ (z : Place). IsJudgedAt rows t all z v) (first ∷ zs)) (take_all n rest all_of_it) (finds (ready_serves rows t all c line verdicts (first ∷ rest) both)))

pub ok_so : {T E : Type 0} (r : Result T E) (P Q : Type 0) → (P → Q) → OnOk r P → OnOk r Q
ok_so (Ok x) P Q f h = f h
ok_so (Err e) P Q f h = tt

-- one line more in the zones of runs: those that are left, and those that are done
pub record AreLeft (rows : List Row) (t : ℕ) (all : List Line) (c : Changed) (line : Line) (lines : List Line) (rest out : List Run) : Type 0 where
  pub judged : AreJudged rows t all lines rest
  pub serves : AllByRecursion (Serves rows t all c line) (zones_of rest)
  pub done : AreJudged rows t all (lines ++ line ∷ []) out

pub line_next : (rows : List Row) (t : ℕ) (all : List Line) (c : Changed) (line : Line) (lines : List Line) (rest more out new : List Run) (run : Run) → rest ≡ run ∷ more
    → (AllByRecursion (IsReady rows t all c line run.verdicts) run.zones → AreJudged rows t all (lines_of run.verdicts ++ line ∷ []) out → AreJudged rows t all (lines_of run.verdicts ++ line ∷ []) new)
    → AreLeft rows t all c line lines rest out → AreLeft rows t all c line lines more new
line_next rows t all c line lines rest more out new run is puts before =
    let left : AreLeft rows t all c line lines (run ∷ more) out = subst (λ (runs : List Run). AreLeft rows t all c line lines runs out) is before in
    let said = left.judged.0.said in
    let ready = every_joined run.zones (λ (z : Place). AllByRecursion (IsJudgedAt rows t all z) run.verdicts) (Serves rows t all c line) (IsReady rows t all c line run.verdicts) (λ z each serves. (each, serves))
    left.judged.0.each (every_front run.zones (zones_of more) (Serves rows t all c line) left.serves) in
    record {
      judged = left.judged.1;
      serves = every_back run.zones (zones_of more) (Serves rows t all c line) left.serves;
      done = subst (λ (ls : List Line). AreJudged rows t all (ls ++ line ∷ []) new) said
          (puts ready (subst (λ (ls : List Line). AreJudged rows t all (ls ++ line ∷ []) out) (sym said) left.done));
    }

pub zones_left : (total : List Place) (rest more out new : List Run) (run : Run) → rest ≡ run ∷ more → zones_of new ≡ zones_of out ++ run.zones → zones_of out ++ zones_of rest ≡ total → zones_of new ++ zones_of more ≡ total
zones_left total rest more out new run is put h =
    ap (λ (zs : List Place). zs ++ zones_of more) put
    ∙ append_assoc (zones_of out) run.zones (zones_of more)
    ∙ ap (λ (runs : List Run). zones_of out ++ zones_of runs) (sym is)
    ∙ h

-- zones that are left are ready for a line, and in those that are done it was judged
pub record IsPartly (rows : List Row) (t : ℕ) (all : List Line) (c : Changed) (line : Line) (verdicts : List Verdict) (left : List Place) (out : List Run) : Type 0 where
  pub ready : AllByRecursion (IsReady rows t all c line verdicts) left
  pub done : AreJudged rows t all (lines_of verdicts ++ line ∷ []) out

pub partly_next : (rows : List Row) (t : ℕ) (all : List Line) (c : Changed) (line : Line) (verdicts : List Verdict) (v : Verdict) (left : List Place) (first : Place) (rest : List Place) (n : ℕ) (old new : List Run) (r : Run)
    → left ≡ first ∷ rest → r.zones ≡ take (n + 1) left → r.verdicts ≡ verdicts ++ v ∷ [] → v.line ≡ line
    → (AllByRecursion (Serves rows t all c line) (first ∷ rest) → AllByRecursion (λ (z : Place). IsJudgedAt rows t all z v) (first ∷ take n rest))
    → new ≡ old ++ r ∷ [] → IsPartly rows t all c line verdicts left old → IsPartly rows t all c line verdicts (behind rest n) new
partly_next rows t all c line verdicts v left first rest n old new r left_is zones_are verdicts_are line_is finds is before = record {
  ready = behind_ready rows t all c line verdicts left first rest n left_is before.ready;
  done = judged_more rows t all (lines_of verdicts ++ line ∷ []) old new r is
      (front_judged rows t all c line verdicts v left first rest n r left_is zones_are verdicts_are line_is finds before.ready) before.done;
}

pub none_left : {X : Type 0} (xs : List X) (n : ℕ) → n ≡ length xs → n ≡ 0 → xs ≡ []
none_left [] n count none = refl
none_left (x ∷ xs) n count none = absurd (omega (arith, count, none))

-- no zones are judged yet
pub whole_begun : (rows : List Row) (t : ℕ) (all : List Line) (old new : List Run) (r : Run) → old ≡ [] → new ≡ old ++ r ∷ [] → r.verdicts ≡ [] → AreJudged rows t all [] new
whole_begun rows t all old new r none is no_verdicts =
    let one : IsJudged rows t all [] r = record {
      said = ap lines_of no_verdicts;
      each = subst (λ (vs : List Verdict). AllByRecursion (λ (z : Place). AllByRecursion (IsJudgedAt rows t all z) vs) r.zones) (sym no_verdicts) (nothing r.zones);
    } in
    subst (λ (runs : List Run). AreJudged rows t all [] runs) (sym (is ∙ ap (λ (runs : List Run). runs ++ r ∷ []) none)) (one, tt)
  where
    nothing : (zones : List Place) → AllByRecursion (λ (z : Place). AllByRecursion (IsJudgedAt rows t all z) []) zones
    nothing [] = tt
    nothing (z ∷ zones) = (tt, nothing zones)

-- no zone is left
pub zones_done : (total : List Place) (out : List Run) (left : List Place) → length left ≡ 0 → zones_of out ++ left ≡ total → zones_of out ≡ total
zones_done total out left none h = sym (append-nil (zones_of out)) ∙ ap (λ (zs : List Place). zones_of out ++ zs) (sym (none_left left (length left) refl none)) ∙ h

pub runs_done : (total : List Place) (out rest : List Run) (n : ℕ) → n ≡ length rest → n ≡ 0 → zones_of out ++ zones_of rest ≡ total → zones_of out ≡ total
runs_done total out rest n count none h = sym (append-nil (zones_of out)) ∙ ap (λ (runs : List Run). zones_of out ++ zones_of runs) (sym (none_left rest n count none)) ∙ h
