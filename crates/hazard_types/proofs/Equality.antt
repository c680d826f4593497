-- What the derived `==` tells: it holds exactly of identical values.
use Rattle.std.proofs.Common.{◌≡◌, ◌&&◌, ℕ, List, Bool, true, false, Option, Some, None, refl, ap, rules, nat_eq, ◌==◌, subst}
use Rattle.std.specs.Bool.{Decides, beq}
use Rattle.std.specs.Option.{option_eq}
use Rattle.std.specs.Str.{bytes_eq}
use Rattle.std.specs.Cmp.Lexicographic.{pointwise}
use Rattle.std.proofs.lemmas.Bool.{and_parts, eqb-true}
use Rattle.std.proofs.lemmas.Bool.Decides.{Decides-eqb}
use Rattle.std.proofs.lemmas.Slice.Eq.{bytes_eq-Decides, slice_eq-Decides}
use denote.Enum.Bare.{same_true}
use Rattle.hazard_types.specs.declared.codes.Class.{Class}
use Rattle.hazard_types.specs.declared.codes.Action.{Action}
use Rattle.hazard_types.specs.declared.codes.Severity.{Severity}
use Rattle.hazard_types.specs.declared.codes.Status.{Status}
use Rattle.hazard_types.specs.declared.codes.Category.{Category}
use Rattle.hazard_types.specs.declared.codes.Family.{Family}
use Rattle.hazard_types.specs.declared.hazard.Sig.{Sig}
use Rattle.hazard_types.specs.declared.zone.Kind.{Kind}
use Rattle.hazard_types.specs.declared.hazard.Hazard.{Hazard}
use Rattle.hazard_types.specs.declared.hazard.Event.{Event}
use Rattle.hazard_types.specs.declared.period.End.{End}
use Rattle.hazard_types.specs.declared.period.Begin.{Begin}
use Rattle.hazard_types.specs.declared.period.Period.{Period}
use Rattle.hazard_types.specs.declared.line.Flood.{Flood}
use Rattle.hazard_types.specs.declared.line.Line.{Line}
use Rattle.hazard_types.specs.declared.line.SegLine.{SegLine}
use Rattle.hazard_types.specs.declared.line.Row.{Row}
use Rattle.hazard_types.specs.Places.{Place}
use Rattle.hazard_types.specs.contracts.codes.ClassPartialEq.TheImpl as class
use Rattle.hazard_types.specs.contracts.codes.ActionPartialEq.TheImpl as action
use Rattle.hazard_types.specs.contracts.codes.SeverityPartialEq.TheImpl as severity
use Rattle.hazard_types.specs.contracts.codes.StatusPartialEq.TheImpl as status
use Rattle.hazard_types.specs.contracts.codes.CategoryPartialEq.TheImpl as category
use Rattle.hazard_types.specs.contracts.codes.FamilyPartialEq.TheImpl as family
use Rattle.hazard_types.specs.contracts.hazard.SigPartialEq.TheImpl as sig
use Rattle.hazard_types.specs.contracts.zone.KindPartialEq.TheImpl as kind
use Rattle.hazard_types.specs.contracts.codes.CausePartialEq.TheImpl as cause
use Rattle.hazard_types.specs.contracts.hazard.PhenPartialEq.TheImpl as phen
use Rattle.hazard_types.specs.contracts.minute.MinutePartialEq.TheImpl as minute
use Rattle.hazard_types.specs.contracts.zone.ZonePartialEq.TheImpl as zone
use Rattle.hazard_types.specs.contracts.hazard.HazardPartialEq.TheImpl as hazard
use Rattle.hazard_types.specs.contracts.hazard.EventPartialEq.TheImpl as event
use Rattle.hazard_types.specs.contracts.period.EndPartialEq.TheImpl as end
use Rattle.hazard_types.specs.contracts.period.BeginPartialEq.TheImpl as begin
use Rattle.hazard_types.specs.contracts.period.PeriodPartialEq.TheImpl as period
use Rattle.hazard_types.specs.contracts.line.FloodPartialEq.TheImpl as flood
use Rattle.hazard_types.specs.contracts.line.LinePartialEq.TheImpl as line
use Rattle.hazard_types.specs.contracts.line.SegLinePartialEq.TheImpl as seg_line
use Rattle.hazard_types.specs.contracts.line.RowPartialEq.TheImpl as row
use Rattle.hazard_types.specs.contracts.codes.ClassEq.TheImpl.Laws as class_laws
use Rattle.hazard_types.specs.contracts.codes.ActionEq.TheImpl.Laws as action_laws
use Rattle.hazard_types.specs.contracts.codes.SeverityEq.TheImpl.Laws as severity_laws
use Rattle.hazard_types.specs.contracts.codes.StatusEq.TheImpl.Laws as status_laws
use Rattle.hazard_types.specs.contracts.codes.CategoryEq.TheImpl.Laws as category_laws
use Rattle.hazard_types.specs.contracts.codes.FamilyEq.TheImpl.Laws as family_laws
use Rattle.hazard_types.specs.contracts.hazard.SigEq.TheImpl.Laws as sig_laws
use Rattle.hazard_types.specs.contracts.zone.KindEq.TheImpl.Laws as kind_laws
use Rattle.hazard_types.specs.contracts.codes.CauseEq.TheImpl.Laws as cause_laws
use Rattle.hazard_types.specs.contracts.zone.ZoneEq.TheImpl.Laws as zone_laws
use Rattle.hazard_types.specs.contracts.hazard.HazardEq.TheImpl.Laws as hazard_laws
use Rattle.hazard_types.specs.contracts.hazard.EventEq.TheImpl.Laws as event_laws
use Rattle.hazard_types.specs.contracts.period.EndEq.TheImpl.Laws as end_laws
use Rattle.hazard_types.specs.contracts.line.FloodEq.TheImpl.Laws as flood_laws
use Rattle.hazard_types.specs.contracts.line.LineEq.TheImpl.Laws as line_laws
use Rattle.hazard_types.specs.contracts.line.SegLineEq.TheImpl.Laws as seg_line_laws
use Rattle.hazard_types.specs.contracts.line.RowEq.TheImpl.Laws as row_laws
use Rattle.hazard_types.specs.contracts.codes.Class as class_type
use Rattle.hazard_types.specs.contracts.codes.Action as action_type
use Rattle.hazard_types.specs.contracts.codes.Severity as severity_type
use Rattle.hazard_types.specs.contracts.codes.Status as status_type
use Rattle.hazard_types.specs.contracts.codes.Category as category_type
use Rattle.hazard_types.specs.contracts.codes.Family as family_type
use Rattle.hazard_types.specs.contracts.hazard.Sig as sig_type
use Rattle.hazard_types.specs.contracts.zone.Kind as kind_type
use Rattle.hazard_types.specs.declared.period.End.TheVariants as end_is
use Rattle.hazard_types.specs.declared.period.Begin.TheVariants as begin_is

-- what is equal to itself and equal to nothing else
pub decided : {X : Type 0} (same : X → X → Bool) → ((x : X) → same x x ≡ true) → ((x y : X) → same x y ≡ true → x ≡ y) → (x y : X) → Decides (same x y) (x ≡ y)
decided same itself one x y = (one x y, λ e. subst (λ z. same x z ≡ true) e (itself x))

pub number_one : (m n : ℕ) → (m == n) ≡ true → m ≡ n
number_one m n h = eqb-true m n h

pub nat_decides : (m n : ℕ) → Decides (nat_eq m n) (m ≡ n)
nat_decides m n = Decides-eqb m n

pub bytes_one : (xs ys : List ℕ) → bytes_eq xs ys ≡ true → xs ≡ ys
bytes_one xs ys h = (bytes_eq-Decides xs ys).0 h

bool_one : (a b : Bool) → beq a b ≡ true → a ≡ b
bool_one true true h = refl
bool_one false false h = refl
bool_one _ _ h = cc

pub option_one : {A : Type 0} (same : A → A → Bool) → ((x y : A) → same x y ≡ true → x ≡ y) → (a b : Option A) → option_eq same a b ≡ true → a ≡ b
option_one same one None None h = refl
option_one same one (Some x) (Some y) h = ap Some (one x y h)
option_one same one _ _ h = cc

pub list_one : {A : Type 0} (same : A → A → Bool) → ((x y : A) → Decides (same x y) (x ≡ y)) → (xs ys : List A) → pointwise same xs ys ≡ true → xs ≡ ys
list_one same decides xs ys h = (slice_eq-Decides decides xs ys _ refl).0 h

-- a value made of two is one value where both are
pub two_one : {X Y Z : Type 0} (make : X → Y → Z) (same : X → X → Bool) (also : Y → Y → Bool) → ((x y : X) → same x y ≡ true → x ≡ y) → ((p q : Y) → also p q ≡ true → p ≡ q) → (x y : X) (p q : Y) → (same x y && also p q) ≡ true → make x p ≡ make y q
two_one make same also one other x y p q h =
    let both = and_parts (same x y) _ h in
    let first = one x y both.0 in
    let second = other p q both.1 in
    λ i. make (first i) (second i)

-- a value made of three is one value where all three are
pub three_one : {X Y Z U : Type 0} (make : X → Y → Z → U) (same : X → X → Bool) (also : Y → Y → Bool) (last : Z → Z → Bool) → ((x y : X) → same x y ≡ true → x ≡ y) → ((p q : Y) → also p q ≡ true → p ≡ q) → ((v w : Z) → last v w ≡ true → v ≡ w) → (x y : X) (p q : Y) (v w : Z) → (same x y && (also p q && last v w)) ≡ true → make x p v ≡ make y q w
three_one make same also last one other third x y p q v w h =
    let both = and_parts (same x y) _ h in
    let rest = and_parts (also p q) _ both.1 in
    let a = one x y both.0 in
    let b = other p q rest.0 in
    let c = third v w rest.1 in
    λ i. make (a i) (b i) (c i)

pub class_one : (a b : Class) → class.eq-value.it a b ≡ true → a ≡ b
class_one a b h = same_true class_type.the_type (search rules) a b h

pub class_itself : (a : Class) → class.eq-value.it a a ≡ true
class_itself = class_laws.laws-law.refl

pub action_one : (a b : Action) → action.eq-value.it a b ≡ true → a ≡ b
action_one a b h = same_true action_type.the_type (search rules) a b h

pub action_itself : (a : Action) → action.eq-value.it a a ≡ true
action_itself = action_laws.laws-law.refl

pub severity_one : (a b : Severity) → severity.eq-value.it a b ≡ true → a ≡ b
severity_one a b h = same_true severity_type.the_type (search rules) a b h

pub severity_itself : (a : Severity) → severity.eq-value.it a a ≡ true
severity_itself = severity_laws.laws-law.refl

pub status_one : (a b : Status) → status.eq-value.it a b ≡ true → a ≡ b
status_one a b h = same_true status_type.the_type (search rules) a b h

pub status_itself : (a : Status) → status.eq-value.it a a ≡ true
status_itself = status_laws.laws-law.refl

pub category_one : (a b : Category) → category.eq-value.it a b ≡ true → a ≡ b
category_one a b h = same_true category_type.the_type (search rules) a b h

pub category_itself : (a : Category) → category.eq-value.it a a ≡ true
category_itself = category_laws.laws-law.refl

pub category_decides : (a b : Category) → Decides (category.eq-value.it a b) (a ≡ b)
category_decides = decided category.eq-value.it category_itself category_one

pub family_one : (a b : Family) → family.eq-value.it a b ≡ true → a ≡ b
family_one a b h = same_true family_type.the_type (search rules) a b h

pub family_itself : (a : Family) → family.eq-value.it a a ≡ true
family_itself = family_laws.laws-law.refl

pub sig_one : (a b : Sig) → sig.eq-value.it a b ≡ true → a ≡ b
sig_one a b h = same_true sig_type.the_type (search rules) a b h

pub sig_itself : (a : Sig) → sig.eq-value.it a a ≡ true
sig_itself = sig_laws.laws-law.refl

pub kind_one : (a b : Kind) → kind.eq-value.it a b ≡ true → a ≡ b
kind_one a b h = same_true kind_type.the_type (search rules) a b h

pub kind_itself : (a : Kind) → kind.eq-value.it a a ≡ true
kind_itself = kind_laws.laws-law.refl

pub kind_decides : (a b : Kind) → Decides (kind.eq-value.it a b) (a ≡ b)
kind_decides = decided kind.eq-value.it kind_itself kind_one

pub cause_one : (a b : List ℕ) → cause.eq-value.it a b ≡ true → a ≡ b
cause_one a b h = bytes_one a b h

pub cause_itself : (a : List ℕ) → cause.eq-value.it a a ≡ true
cause_itself = cause_laws.laws-law.refl

pub phen_one : (a b : List ℕ) → phen.eq-value.it a b ≡ true → a ≡ b
phen_one a b h = bytes_one a b h

pub minute_one : (a b : ℕ) → minute.eq-value.it a b ≡ true → a ≡ b
minute_one a b h = number_one a b h

pub zone_one : (a b : Place) → zone.eq-value.it a b ≡ true → a ≡ b
zone_one a b h = three_one (λ (x : List ℕ) (k : Kind) (n : ℕ). record { state = x; kind = k; number = n }) bytes_eq kind.eq-value.it nat_eq bytes_one kind_one number_one a.state b.state a.kind b.kind a.number b.number h

pub zone_itself : (a : Place) → zone.eq-value.it a a ≡ true
zone_itself = zone_laws.laws-law.refl

pub zone_decides : (a b : Place) → Decides (zone.eq-value.it a b) (a ≡ b)
zone_decides = decided zone.eq-value.it zone_itself zone_one

pub hazard_one : (a b : Hazard) → hazard.eq-value.it a b ≡ true → a ≡ b
hazard_one a b h = two_one (λ (p : List ℕ) (s : Sig). record { phen = p; sig = s }) phen.eq-value.it sig.eq-value.it phen_one sig_one a.phen b.phen a.sig b.sig h

pub hazard_itself : (a : Hazard) → hazard.eq-value.it a a ≡ true
hazard_itself = hazard_laws.laws-law.refl

pub hazard_decides : (a b : Hazard) → Decides (hazard.eq-value.it a b) (a ≡ b)
hazard_decides = decided hazard.eq-value.it hazard_itself hazard_one

pub event_one : (a b : Event) → event.eq-value.it a b ≡ true → a ≡ b
event_one a b h = three_one (λ (x : Hazard) (n y : ℕ). record { hazard = x; etn = n; year = y }) hazard.eq-value.it nat_eq nat_eq hazard_one number_one number_one a.hazard b.hazard a.etn b.etn a.year b.year h

pub event_itself : (a : Event) → event.eq-value.it a a ≡ true
event_itself = event_laws.laws-law.refl

pub event_decides : (a b : Event) → Decides (event.eq-value.it a b) (a ≡ b)
event_decides = decided event.eq-value.it event_itself event_one

pub end_one : (a b : End) → end.eq-value.it a b ≡ true → a ≡ b
end_one (end_is.At x) (end_is.At y) h = ap (λ z. end_is.At z) (minute_one x y h)
end_one end_is.Ufn end_is.Ufn h = refl
end_one _ _ h = cc

pub end_itself : (a : End) → end.eq-value.it a a ≡ true
end_itself = end_laws.laws-law.refl

pub begin_one : (a b : Begin) → begin.eq-value.it a b ≡ true → a ≡ b
begin_one begin_is.Now begin_is.Now h = refl
begin_one (begin_is.At x) (begin_is.At y) h = ap (λ z. begin_is.At z) (minute_one x y h)
begin_one _ _ h = cc

pub period_one : (a b : Period) → period.eq-value.it a b ≡ true → a ≡ b
period_one a b h = two_one (λ (m : ℕ) (e : End). record { begin = m; end = e }) minute.eq-value.it end.eq-value.it minute_one end_one a.begin b.begin a.end b.end h

pub flood_one : (a b : Flood) → flood.eq-value.it a b ≡ true → a ≡ b
flood_one a b h =
    let p0 = and_parts (bytes_eq a.site b.site) _ h in
    let p1 = and_parts (severity.eq-value.it a.severity b.severity) _ p0.1 in
    let p2 = and_parts (cause.eq-value.it a.cause b.cause) _ p1.1 in
    let p3 = and_parts ((option_eq minute.eq-value.it) a.begin b.begin) _ p2.1 in
    let p4 = and_parts ((option_eq minute.eq-value.it) a.crest b.crest) _ p3.1 in
    let p5 = and_parts ((option_eq minute.eq-value.it) a.end b.end) _ p4.1 in
    let site_is = bytes_one a.site b.site p0.0 in
    let severity_is = severity_one a.severity b.severity p1.0 in
    let cause_is = cause_one a.cause b.cause p2.0 in
    let begin_is = (option_one minute.eq-value.it minute_one) a.begin b.begin p3.0 in
    let crest_is = (option_one minute.eq-value.it minute_one) a.crest b.crest p4.0 in
    let end_is = (option_one minute.eq-value.it minute_one) a.end b.end p5.0 in
    let status_is = status_one a.status b.status p5.1 in
    λ i. record { site = site_is i; severity = severity_is i; cause = cause_is i; begin = begin_is i; crest = crest_is i; end = end_is i; status = status_is i }

pub flood_itself : (a : Flood) → flood.eq-value.it a a ≡ true
flood_itself = flood_laws.laws-law.refl

pub flood_decides : (a b : Flood) → Decides (flood.eq-value.it a b) (a ≡ b)
flood_decides = decided flood.eq-value.it flood_itself flood_one

pub line_one : (a b : Line) → line.eq-value.it a b ≡ true → a ≡ b
line_one a b h =
    let p0 = and_parts (action.eq-value.it a.action b.action) _ h in
    let p1 = and_parts (event.eq-value.it a.event b.event) _ p0.1 in
    let p2 = and_parts (zone.eq-value.it a.zone b.zone) _ p1.1 in
    let p3 = and_parts ((option_eq minute.eq-value.it) a.begin b.begin) _ p2.1 in
    let p4 = and_parts (end.eq-value.it a.end b.end) _ p3.1 in
    let action_is = action_one a.action b.action p0.0 in
    let event_is = event_one a.event b.event p1.0 in
    let zone_is = zone_one a.zone b.zone p2.0 in
    let begin_is = (option_one minute.eq-value.it minute_one) a.begin b.begin p3.0 in
    let end_is = end_one a.end b.end p4.0 in
    let flood_is = (option_one flood.eq-value.it flood_one) a.flood b.flood p4.1 in
    λ i. record { action = action_is i; event = event_is i; zone = zone_is i; begin = begin_is i; end = end_is i; flood = flood_is i }

pub line_itself : (a : Line) → line.eq-value.it a a ≡ true
line_itself = line_laws.laws-law.refl

pub line_decides : (a b : Line) → Decides (line.eq-value.it a b) (a ≡ b)
line_decides = decided line.eq-value.it line_itself line_one

pub seg_line_one : (a b : SegLine) → seg_line.eq-value.it a b ≡ true → a ≡ b
seg_line_one a b h =
    let p0 = and_parts (action.eq-value.it a.action b.action) _ h in
    let p1 = and_parts (event.eq-value.it a.event b.event) _ p0.1 in
    let p2 = and_parts ((option_eq minute.eq-value.it) a.begin b.begin) _ p1.1 in
    let p3 = and_parts (end.eq-value.it a.end b.end) _ p2.1 in
    let action_is = action_one a.action b.action p0.0 in
    let event_is = event_one a.event b.event p1.0 in
    let begin_is = (option_one minute.eq-value.it minute_one) a.begin b.begin p2.0 in
    let end_is = end_one a.end b.end p3.0 in
    let flood_is = (option_one flood.eq-value.it flood_one) a.flood b.flood p3.1 in
    λ i. record { action = action_is i; event = event_is i; begin = begin_is i; end = end_is i; flood = flood_is i }

pub seg_line_itself : (a : SegLine) → seg_line.eq-value.it a a ≡ true
seg_line_itself = seg_line_laws.laws-law.refl

pub seg_line_decides : (a b : SegLine) → Decides (seg_line.eq-value.it a b) (a ≡ b)
seg_line_decides = decided seg_line.eq-value.it seg_line_itself seg_line_one

pub seg_lines_decide : (xs ys : List SegLine) → Decides (pointwise seg_line.eq-value.it xs ys) (xs ≡ ys)
seg_lines_decide xs ys = slice_eq-Decides seg_line_decides xs ys _ refl

pub row_one : (a b : Row) → row.eq-value.it a b ≡ true → a ≡ b
row_one a b h =
    let p0 = and_parts (event.eq-value.it a.event b.event) _ h in
    let p1 = and_parts (zone.eq-value.it a.zone b.zone) _ p0.1 in
    let p2 = and_parts (period.eq-value.it a.period b.period) _ p1.1 in
    let p3 = and_parts ((option_eq flood.eq-value.it) a.flood b.flood) _ p2.1 in
    let event_is = event_one a.event b.event p0.0 in
    let zone_is = zone_one a.zone b.zone p1.0 in
    let period_is = period_one a.period b.period p2.0 in
    let flood_is = (option_one flood.eq-value.it flood_one) a.flood b.flood p3.0 in
    let ended_is = bool_one a.ended b.ended p3.1 in
    λ i. record { event = event_is i; zone = zone_is i; period = period_is i; flood = flood_is i; ended = ended_is i }

pub row_itself : (a : Row) → row.eq-value.it a a ≡ true
row_itself = row_laws.laws-law.refl

pub row_decides : (a b : Row) → Decides (row.eq-value.it a b) (a ≡ b)
row_decides = decided row.eq-value.it row_itself row_one
