-- A request has one answer: plans are determined, and the ways of answering exclude each other.
use Rattle.std.proofs.Common.{◌≡◌, ◌∙◌, ◌==◌, inl, inr, ℕ, ℤ, pos, List, Bool, true, false, refl, sym, ap, subst, cond, Option, None, Some}
use Rattle.std.proofs.lemmas.Bool.{and_from, both_ways, eq-eqb}
use Rattle.office_types.proofs.Equality.{request_itself}
use Rattle.hazard_types.specs.declared.codes.Category.{Category}
use Rattle.hazard_types.specs.declared.line.Line.{Line}
use Rattle.hazard_types.specs.declared.line.Segment.{Segment}
use Rattle.office_types.specs.declared.refusal.Refusal.{Refusal}
use Rattle.office_types.specs.declared.request.Plan.{Plan}
use Rattle.office_types.specs.declared.request.Reply.{Reply}
use Rattle.office_types.specs.declared.request.Request.{Request}
use Rattle.segmenter.proofs.LawLemmas.{segments_alike}
use Rattle.office_core.specs.Making.{Making, IsPlanOf, broken_lines, broken_product, made_of, making_of}
use Rattle.office_core.specs.Rules.{broken_request, is_kept, is_repeated, minute_of, unknown_desk}
use Rattle.office_core.specs.Requests.{same_request}
use Rattle.office_core.specs.State.{State, said_by}
use Rattle.office_core.specs.Step.{Accepts, BreaksOnLines, IsMade, Refuses, Repeats}
use Rattle.office_core.specs.declared.heard.LastRequest.{LastRequest}
use Rattle.office_core.specs.declared.made.Made.{Made}

pub some_one : {X : Type 0} (x y : X) (o : Option X) → o ≡ Some x → o ≡ Some y → x ≡ y
some_one x y None p q = cc
some_one x y (Some z) p q = cc

pub none_some : {X : Type 0} (x : X) (o : Option X) → o ≡ None → o ≡ Some x → ⊥
none_some x None p q = cc
none_some x (Some y) p q = cc

-- plans with the same parts are the same
plan_alike : (p q : Plan) → p.category ≡ q.category → p.bbb ≡ q.bbb → p.lines ≡ q.lines → p.segments ≡ q.segments → p.opened ≡ q.opened → p.texts ≡ q.texts → p ≡ q
plan_alike p q category bbb lines segments opened texts =
    ap (λ (x : Category). record p { category = x }) category
    ∙ ap (λ x. record { category = q.category; bbb = x; lines = p.lines; segments = p.segments; opened = p.opened; texts = p.texts }) bbb
    ∙ ap (λ (x : List Line). record { category = q.category; bbb = q.bbb; lines = x; segments = p.segments; opened = p.opened; texts = p.texts }) lines
    ∙ ap (λ (x : List Segment). record { category = q.category; bbb = q.bbb; lines = q.lines; segments = x; opened = p.opened; texts = p.texts }) segments
    ∙ ap (λ x. record { category = q.category; bbb = q.bbb; lines = q.lines; segments = q.segments; opened = x; texts = p.texts }) opened
    ∙ ap (λ x. record { category = q.category; bbb = q.bbb; lines = q.lines; segments = q.segments; opened = q.opened; texts = x }) texts

pub plan_one : (s : State) (t : ℕ) (making : Making) (p q : Plan) → IsPlanOf s t making p → IsPlanOf s t making q → p ≡ q
plan_one s t Making.none p q f g = absurd f
plan_one s t (Making.drafted c intents) p q f g =
    plan_alike p q (f.category ∙ sym g.category) (f.letter ∙ sym g.letter) (f.lines ∙ sym g.lines)
    (segments_alike _ p.segments q.segments f.segments g.segments) (f.opened ∙ sym g.opened) (f.texts ∙ sym g.texts)
plan_one s t (Making.corrected sent given) p q f g =
    plan_alike p q (f.category ∙ sym g.category) (f.letter ∙ sym g.letter) (f.lines ∙ sym g.lines)
    (segments_alike _ p.segments q.segments f.segments g.segments) (f.opened ∙ sym g.opened) (f.texts ∙ sym g.texts)

made_one : (s : State) (t : ℕ) (making : Making) (made other : Option Made) → IsMade s t making made → IsMade s t making other → made ≡ other
made_one s t Making.none made other f g = f ∙ sym g
made_one s t (Making.drafted c intents) made other (p, f, k, is) (q, g, m, its) =
    is ∙ ap (λ (plan : Plan). Some (made_of s t (Making.drafted c intents) plan)) (plan_one s t (Making.drafted c intents) p q f g) ∙ sym its
made_one s t (Making.corrected sent given) made other (p, f, k, is) (q, g, m, its) =
    is ∙ ap (λ (plan : Plan). Some (made_of s t (Making.corrected sent given) plan)) (plan_one s t (Making.corrected sent given) p q f g) ∙ sym its

pub accepted_once : (s : State) (desk : List ℕ) (seq : ℕ) (r : Request) (reading : ℤ) (t u : ℕ) (made other : Option Made) →
    Accepts s desk seq r reading t made → Accepts s desk seq r reading u other → (t ≡ u) × (made ≡ other)
accepted_once s desk seq r reading t u made other f g =
    let minutes : t ≡ u = f.minute ∙ sym g.minute in
    (minutes, made_one s u (making_of s r) made other (subst (λ m. IsMade s m (making_of s r) made) minutes f.product) g.product)

pub breaks_once : (s : State) (t : ℕ) (making : Making) (x y : Refusal) → BreaksOnLines s t making x → BreaksOnLines s t making y → x ≡ y
breaks_once s t making x y (inl f) (inl g) = some_one x y _ f g
breaks_once s t making x y (inl f) (inr (none, q, g, its)) = absurd (none_some x _ none f)
breaks_once s t making x y (inr (none, p, f, is)) (inl g) = absurd (none_some y _ none g)
breaks_once s t making x y (inr (none, p, f, is)) (inr (same, q, g, its)) =
    some_one x y (broken_product s t p) is (ap (broken_product s t) (plan_one s t making p q f g) ∙ its)

pub refused_once : (s : State) (desk : List ℕ) (seq : ℕ) (r : Request) (reading : ℤ) (x y : Refusal) → Refuses s desk seq r reading x → Refuses s desk seq r reading y → x ≡ y
refused_once s desk seq r reading x y (inl f) (inl g) = some_one x y _ f g
refused_once s desk seq r reading x y (inl f) (inr (new, none, g)) = absurd (none_some x _ none f)
refused_once s desk seq r reading x y (inr (new, none, f)) (inl g) = absurd (none_some y _ none g)
refused_once s desk seq r reading x y (inr (new, none, f)) (inr (again, same, g)) = breaks_once s (minute_of s reading) (making_of s r) x y f g

pub product_unbroken : (s : State) (t : ℕ) (making : Making) (p : Plan) (x : Refusal) → broken_lines s t making ≡ None → IsPlanOf s t making p → broken_product s t p ≡ None → BreaksOnLines s t making x → ⊥
product_unbroken s t making p x none f kept (inl g) = none_some x _ none g
product_unbroken s t making p x none f kept (inr (same, q, g, its)) = none_some x (broken_product s t p) kept (ap (broken_product s t) (plan_one s t making p q f g) ∙ its)

nothing_unbroken : (s : State) (t : ℕ) (x : Refusal) → broken_lines s t Making.none ≡ None → BreaksOnLines s t Making.none x → ⊥
nothing_unbroken s t x none (inl g) = none_some x _ none g
nothing_unbroken s t x none (inr (same, q, g, its)) = g

made_unbroken : (s : State) (t : ℕ) (making : Making) (made : Option Made) (x : Refusal) → IsMade s t making made → broken_lines s t making ≡ None → BreaksOnLines s t making x → ⊥
made_unbroken s t Making.none made x f none h = nothing_unbroken s t x none h
made_unbroken s t (Making.drafted c intents) made x (p, f, kept, is) none h = product_unbroken s t (Making.drafted c intents) p x none f kept h
made_unbroken s t (Making.corrected sent given) made x (p, f, kept, is) none h = product_unbroken s t (Making.corrected sent given) p x none f kept h

pub not_both : (s : State) (desk : List ℕ) (seq : ℕ) (r : Request) (reading : ℤ) (t : ℕ) (made : Option Made) (x : Refusal) →
    Accepts s desk seq r reading t made → Refuses s desk seq r reading x → ⊥
not_both s desk seq r reading t made x f (inl g) = none_some x _ f.request g
not_both s desk seq r reading t made x f (inr (new, none, g)) =
    made_unbroken s t (making_of s r) made x f.product f.lines (subst (λ m. BreaksOnLines s m (making_of s r) x) (sym f.minute) g)

-- ---- repetitions

kept_again : (o : Option LastRequest) (seq : ℕ) (r : Request) (kept : Reply) → o ≡ Some (record { seq = seq; request = r; reply = kept }) → is_kept o seq r ≡ true
kept_again None seq r kept h = cc
kept_again (Some said) seq r kept h =
    let is : said ≡ record { seq = seq; request = r; reply = kept } = some_one said _ (Some said) refl h in
    ap (λ (x : LastRequest). is_kept (Some x) seq r) is ∙ and_from (seq == seq) (same_request r r) (eq-eqb seq seq refl) (request_itself r)

repeated : (s : State) (desk : List ℕ) (seq : ℕ) (r : Request) (kept : Reply) → Repeats s desk seq r kept → is_repeated s desk seq r ≡ true
repeated s desk seq r kept h = kept_again (said_by s desk) seq r kept h.same

pub not_repeated : (s : State) (desk : List ℕ) (seq : ℕ) (r : Request) (reading : ℤ) (t : ℕ) (made : Option Made) (kept : Reply) →
    Repeats s desk seq r kept → Accepts s desk seq r reading t made → ⊥
not_repeated s desk seq r reading t made kept f g = both_ways _ g.new (repeated s desk seq r kept f)

desk_alone : (b : Bool) (a x y : Option Refusal) → b ≡ true → cond b a x ≡ None → cond b a y ≡ None
desk_alone true a x y is h = h
desk_alone false a x y is h = cc

same_desk : (s : State) (desk : List ℕ) (seq : ℕ) (r : Request) (reading other : ℤ) → is_repeated s desk seq r ≡ true → broken_request s desk seq r other ≡ None → broken_request s desk seq r reading ≡ None
unfolding broken_request
same_desk s desk seq r reading other is h = desk_alone (is_repeated s desk seq r) (unknown_desk s desk) _ _ is h

pub not_refused : (s : State) (desk : List ℕ) (seq : ℕ) (r : Request) (reading : ℤ) (x : Refusal) (kept : Reply) → Repeats s desk seq r kept → Refuses s desk seq r reading x → ⊥
not_refused s desk seq r reading x kept f (inl g) = none_some x _ (same_desk s desk seq r reading (pos 0) (repeated s desk seq r kept f) f.known) g
not_refused s desk seq r reading x kept f (inr (new, none, g)) = both_ways _ new (repeated s desk seq r kept f)
