-- A chain of steps stays as it is while others are added, and ends with the step that was placed.
use Rattle.std.proofs.Common.{◌≡◌, ◌∙◌, ◌&&◌, ◌+◌, ◌<◌, ◌≤◌, ℕ, zero, suc, List, [], ◌∷◌, ◌++◌, Bool, true, false, cond, fold, length, get_or, reverse, slice_get, nat_lt, Option, Some, None, Ordering, Less, Equal, Greater, unwrap_or, append_assoc, length-append, zero-lt-suc, refl, ap, sym, subst, arith}
use Rattle.std.proofs.lemmas.Bool.{and_parts, eqb-true, ltb-true, ltb-false}
use Rattle.std.proofs.lemmas.List.{get_or_append_left, get_or_past, get_or_push, reverse-append}
use Rattle.std.proofs.lemmas.List.Sums.{fold-append}
use Rattle.std.proofs.lemmas.Option.{slice_get_within}
use Rattle.std.specs.BTreeMap.{insert_entry, is_at}
use Rattle.std.specs.Map.{lookup}
use Rattle.std.specs.Ordering.{match_ordering}
use Rattle.hazard_types.specs.Places.{Place, by_place}
use Rattle.hazard_types.specs.contracts.codes.ActionPartialEq.TheImpl as action
use Rattle.hazard_types.specs.contracts.minute.MinutePartialEq.TheImpl as minute
use Rattle.hazard_types.proofs.Equality.{action_one, minute_one}
use Rattle.product_decoder.specs.Chains.{below, height, told, step_of, with_shared, chains_of, same_place, is_step, is_last, IsPlaced}
use Rattle.product_decoder.specs.declared.zone_steps.SharedStep.{SharedStep}
use Rattle.product_decoder.specs.Steps.{Step}
use Rattle.product_decoder.specs.ZoneSteps.{Zones, Lasts, at_zone, with_zone, zones_in, zones_told, AreWithin}

abbrev Chains : Type 0
Chains = List (List Step)

-- a chain is unmoved by steps behind it

one_more : (chains : Chains) (c : List Step) (p : ℕ) → p < length chains → p < length (chains ++ c ∷ [])
one_more chains c p h = rw length-append (omega arith)

unmoved : (chains : Chains) (shared : List SharedStep) (p : ℕ) → p < length chains → get_or (fold with_shared chains shared) p [] ≡ get_or chains p []
unmoved chains [] p h = refl
unmoved chains (s ∷ shared) p h =
    let c = told chains s.before ++ step_of s ∷ [] in
    unmoved (with_shared chains s) shared p (one_more chains c p h) ∙ get_or_append_left chains (c ∷ []) [] p h

-- one that is below the end of these is told alike by more
below_told : (chains : Chains) (shared : List SharedStep) (before : Option ℕ) → told (fold with_shared chains shared) (below (length chains) before) ≡ told chains before
below_told chains shared None = refl
below_told chains shared (Some p) = by_test (nat_lt p (length chains)) refl
  where
    by_test : (b : Bool) → nat_lt p (length chains) ≡ b → told (fold with_shared chains shared) (cond b (Some p) None) ≡ get_or chains p []
    by_test true h = unmoved chains shared p (ltb-true p (length chains) h)
    by_test false h = sym (get_or_past chains p [] (ltb-false p (length chains) h))

-- the chain at a step is the one before it, and the step

abbrev Ends : Chains → ℕ → SharedStep → Type 0
Ends chains place s = get_or chains place [] ≡ told chains (below place s.before) ++ step_of s ∷ []

first_ends : (chains : Chains) (s : SharedStep) (shared : List SharedStep) → Ends (fold with_shared chains (s ∷ shared)) (length chains) s
first_ends chains s shared =
    let c = told chains s.before ++ step_of s ∷ [] in
    let within : length chains < length (chains ++ c ∷ []) = rw length-append (omega arith) in
    unmoved (with_shared chains s) shared (length chains) within ∙ get_or_push chains c [] (length chains) refl
    ∙ ap (λ (steps : List Step). steps ++ step_of s ∷ []) (sym (below_told chains (s ∷ shared) s.before))

one_step : (a b : SharedStep) → ◌≡◌ {A = Option SharedStep} (Some a) (Some b) → a ≡ b
one_step a b h = cc

ends_from : (chains : Chains) (shared : List SharedStep) (k : ℕ) (s : SharedStep) (place : ℕ) → place ≡ length chains + k → slice_get shared k ≡ Some s → Ends (fold with_shared chains shared) place s
ends_from chains [] k s place is h = cc
ends_from chains (x ∷ shared) zero s place is h =
    let here : place ≡ length chains = omega arith in
    subst (λ (p : ℕ). Ends (fold with_shared chains (x ∷ shared)) p s) (sym here)
    (subst (λ (y : SharedStep). Ends (fold with_shared chains (x ∷ shared)) (length chains) y) (one_step x s h) (first_ends chains x shared))
ends_from chains (x ∷ shared) (suc k) s place is h =
    let c = told chains x.before ++ step_of x ∷ [] in
    let there : place ≡ length (chains ++ c ∷ []) + k = rw length-append (omega arith) in
    ends_from (with_shared chains x) shared k s place there h

pub chain_ends : (shared : List SharedStep) (place : ℕ) (s : SharedStep) → slice_get shared place ≡ Some s → Ends (chains_of shared) place s
chain_ends shared place s h =
    let is : place ≡ 0 + place = omega arith in
    ends_from [] shared place s place is h

-- there are as many chains as steps

count_from : (chains : Chains) (shared : List SharedStep) → length (fold with_shared chains shared) ≡ length chains + length shared
count_from chains [] = omega arith
count_from chains (s ∷ shared) =
    let c = told chains s.before ++ step_of s ∷ [] in
    let more : length (chains ++ c ∷ []) ≡ length chains + 1 = rw length-append refl in
    let later = count_from (with_shared chains s) shared in
    omega arith

count : (shared : List SharedStep) → length (chains_of shared) ≡ length shared
count shared =
    let all : length (chains_of shared) ≡ 0 + length shared = count_from [] shared in
    omega arith

none_past : (shared : List SharedStep) (k : ℕ) → slice_get shared k ≡ None → length shared ≤ k
none_past [] k h = omega arith
none_past (s ∷ shared) zero h = cc
none_past (s ∷ shared) (suc k) h = let later = none_past shared k h in omega arith

pub no_chain : (shared : List SharedStep) (place : ℕ) → slice_get shared place ≡ None → told (chains_of shared) (Some place) ≡ []
no_chain shared place h =
    let past = none_past shared place h in
    let all = count shared in
    let behind : length (chains_of shared) ≤ place = omega arith in
    get_or_past (chains_of shared) place [] behind

-- a step is placed behind the last, or is the last

pub placed_push : (old new : List SharedStep) (s : SharedStep) (place : ℕ) → new ≡ old ++ s ∷ [] → place ≡ length old → IsPlaced old new s.before (step_of s) place
placed_push old new s place is here =
    subst (λ (n : List SharedStep). IsPlaced old n s.before (step_of s) place) (sym is) pushed
  where
    c : List Step
    c = told (chains_of old) s.before ++ step_of s ∷ []

    chains_are : chains_of (old ++ s ∷ []) ≡ chains_of old ++ c ∷ []
    chains_are = fold-append with_shared [] old (s ∷ [])

    counted : length (chains_of old) ≡ place
    counted = count old ∙ sym here

    pushed : IsPlaced old (old ++ s ∷ []) s.before (step_of s) place
    pushed = record {
      within = rw length-append (omega arith);
      ends = ap (λ (chains : Chains). get_or chains place []) chains_are ∙ get_or_push (chains_of old) c [] place counted;
      longer = rw length-append (omega arith);
      kept = λ other h. ap (λ (chains : Chains). get_or chains other []) chains_are ∙ get_or_append_left (chains_of old) (c ∷ []) [] other (subst (λ (n : ℕ). other < n) (sym (count old)) h);
    }

place_one : (a b : Option ℕ) → same_place a b ≡ true → a ≡ b
place_one None None h = refl
place_one (Some a) (Some b) h = ap Some (eqb-true a b h)
place_one _ _ h = cc

placed_at : (shared : List SharedStep) (found : Option SharedStep) (place : ℕ) (step : Step) (before : Option ℕ) → slice_get shared place ≡ found → is_step found place step before ≡ true → IsPlaced shared shared before step place
placed_at shared None place step before found h = cc
placed_at shared (Some s) place step before found h =
    let p = and_parts (action.eq-value.it s.action step.0 && minute.eq-value.it s.issue step.1) _ h in
    let q = and_parts (action.eq-value.it s.action step.0) _ p.0 in
    let action_is = action_one s.action step.0 q.0 in
    let issue_is = minute_one s.issue step.1 q.1 in
    let before_is = place_one (below place s.before) before p.1 in
    record {
      within = slice_get_within shared place s found;
      ends = chain_ends shared place s found ∙ (λ i. told (chains_of shared) (before_is i) ++ (action_is i, issue_is i) ∷ []);
      longer = omega arith;
      kept = λ other h. refl;
    }

pub placed_last : (shared : List SharedStep) (place : ℕ) (step : Step) (before : Option ℕ) → is_last shared place step before ≡ true → IsPlaced shared shared before step place
placed_last shared place step before h = placed_at shared (slice_get shared place) place step before refl h

-- a chain told from its end

pub lower : (place : ℕ) (before : Option ℕ) → height (below place before) < suc place
lower place None = zero-lt-suc place
lower place (Some p) = by_test (nat_lt p place) refl
  where
    by_test : (b : Bool) → nat_lt p place ≡ b → height (cond b (Some p) None) < suc place
    by_test true h =
        let less : p < place = ltb-true p place h in
        let more : suc p < suc place = omega arith in
        more
    by_test false h = zero-lt-suc place

pub told_back : (shared : List SharedStep) (place : ℕ) (s : SharedStep) (steps more : List Step) → slice_get shared place ≡ Some s → more ≡ steps ++ step_of s ∷ []
    → told (chains_of shared) (below place s.before) ++ reverse more ≡ told (chains_of shared) (Some place) ++ reverse steps
told_back shared place s steps more found is =
    ap (λ (back : List Step). told (chains_of shared) (below place s.before) ++ back) (ap reverse is ∙ reverse-append steps (step_of s ∷ []))
    ∙ sym (append_assoc (told (chains_of shared) (below place s.before)) (step_of s ∷ []) (reverse steps))
    ∙ ap (λ (chain : List Step). chain ++ reverse steps) (sym (chain_ends shared place s found))

pub told_past : (shared : List SharedStep) (place : ℕ) (steps : List Step) → slice_get shared place ≡ None → reverse steps ≡ told (chains_of shared) (Some place) ++ reverse steps
told_past shared place steps found = ap (λ (chain : List Step). chain ++ reverse steps) (sym (no_chain shared place found))

-- zones that end chains

looked : (b : Bool) (chains : Chains) (last : ℕ) (o : Option (List Step)) (p : Option ℕ) → unwrap_or o [] ≡ told chains p → unwrap_or (cond b (Some (get_or chains last [])) o) [] ≡ told chains (cond b (Some last) p)
looked true chains last o p h = refl
looked false chains last o p h = h

zone_told : (chains : Chains) (lasts : Lasts) (z : Place) → at_zone (zones_in chains lasts) z ≡ told chains (lookup (is_at (by_place z)) lasts)
zone_told chains [] z = refl
zone_told chains (e ∷ lasts) z = looked (is_at (by_place z) e.0) chains e.1 (lookup (is_at (by_place z)) (zones_in chains lasts)) (lookup (is_at (by_place z)) lasts) (zone_told chains lasts z)

by_order : (o : Ordering) (chains : Chains) (e : Place × ℕ) (lasts : Lasts) (z : Place) (w : ℕ) (tail : Zones) → zones_in chains (insert_entry by_place lasts z w) ≡ tail
    → zones_in chains (match_ordering o ((z, w) ∷ e ∷ lasts) ((e.0, w) ∷ lasts) (e ∷ insert_entry by_place lasts z w))
    ≡ match_ordering o ((z, get_or chains w []) ∷ (e.0, get_or chains e.1 []) ∷ zones_in chains lasts) ((e.0, get_or chains w []) ∷ zones_in chains lasts) ((e.0, get_or chains e.1 []) ∷ tail)
by_order Less chains e lasts z w tail later = refl
by_order Equal chains e lasts z w tail later = refl
by_order Greater chains e lasts z w tail later = ap (λ (zones : Zones). (e.0, get_or chains e.1 []) ∷ zones) later

zones_insert : (chains : Chains) (lasts : Lasts) (z : Place) (w : ℕ) → zones_in chains (insert_entry by_place lasts z w) ≡ insert_entry by_place (zones_in chains lasts) z (get_or chains w [])
zones_insert chains [] z w = refl
zones_insert chains (e ∷ lasts) z w = by_order (by_place z e.0) chains e lasts z w _ (zones_insert chains lasts z w)

zones_kept : (old new : Chains) (n : ℕ) → ((p : ℕ) → p < n → told new (Some p) ≡ told old (Some p)) → (lasts : Lasts) → AreWithin n lasts → zones_in new lasts ≡ zones_in old lasts
zones_kept old new n kept [] h = refl
zones_kept old new n kept (e ∷ lasts) h =
    let first = kept e.1 h.0 in
    let later = zones_kept old new n kept lasts h.1 in
    λ i. (e.0, first i) ∷ later i

within_longer : (m n : ℕ) (lasts : Lasts) → m ≤ n → AreWithin m lasts → AreWithin n lasts
within_longer m n [] le h = tt
within_longer m n (e ∷ lasts) le h =
    let less : e.1 < m = h.0 in
    (omega arith, within_longer m n lasts le h.1)

within_by : (o : Ordering) (n : ℕ) (e : Place × ℕ) (lasts : Lasts) (z : Place) (w : ℕ) → w < n → AreWithin n (e ∷ lasts) → AreWithin n (insert_entry by_place lasts z w)
    → AreWithin n (match_ordering o ((z, w) ∷ e ∷ lasts) ((e.0, w) ∷ lasts) (e ∷ insert_entry by_place lasts z w))
within_by Less n e lasts z w k h later = (k, h)
within_by Equal n e lasts z w k h later = (k, h.1)
within_by Greater n e lasts z w k h later = (h.0, later)

within_insert : (n : ℕ) (lasts : Lasts) (z : Place) (w : ℕ) → w < n → AreWithin n lasts → AreWithin n (insert_entry by_place lasts z w)
within_insert n [] z w k h = (k, tt)
within_insert n (e ∷ lasts) z w k h = within_by (by_place z e.0) n e lasts z w k h (within_insert n lasts z w k h.1)

-- a zone's step that is placed is one step more in the zone

pub step_put : (old new : List SharedStep) (lasts more : Lasts) (z : Place) (step : Step) (before : Option ℕ) (place : ℕ) → IsPlaced old new before step place → before ≡ lookup (is_at (by_place z)) lasts
    → more ≡ insert_entry by_place lasts z place → AreWithin (length old) lasts → zones_told new more ≡ with_zone (zones_told old lasts) z step
step_put old new lasts more z step before place placed before_is is within =
    let ends : told (chains_of new) (Some place) ≡ at_zone (zones_told old lasts) z ++ step ∷ [] =
    placed.ends ∙ ap (λ (chain : List Step). chain ++ step ∷ []) (ap (told (chains_of old)) before_is ∙ sym (zone_told (chains_of old) lasts z)) in
    let kept = zones_kept (chains_of old) (chains_of new) (length old) placed.kept lasts within in
    ap (zones_told new) is ∙ zones_insert (chains_of new) lasts z place ∙ (λ i. insert_entry by_place (kept i) z (ends i))

pub within_put : (old new : List SharedStep) (lasts more : Lasts) (z : Place) (step : Step) (before : Option ℕ) (place : ℕ) → IsPlaced old new before step place
    → more ≡ insert_entry by_place lasts z place → AreWithin (length old) lasts → AreWithin (length new) more
within_put old new lasts more z step before place placed is within =
    subst (λ (es : Lasts). AreWithin (length new) es) (sym is)
    (within_insert (length new) lasts z place placed.within (within_longer (length old) (length new) lasts placed.longer within))
