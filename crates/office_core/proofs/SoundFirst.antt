-- An office begins sound, and what a draft makes is sound.
use Rattle.std.proofs.Common.{◌≡◌, ◌≤◌, ℕ, List, [], ◌∷◌, true, false, Bool, Option, Some, None, refl, ap, subst, arith, find, cond, map}
use Rattle.std.proofs.lemmas.List.Elements.{All-nil, recursion_from_All}
use Rattle.std.specs.List.{AllByRecursion}
use Rattle.std.specs.List.Sorted.{IsStrictlySortedBy}
use Rattle.hazard_types.specs.declared.codes.Class.{Class}
use Rattle.office_types.specs.declared.request.Draft.{Draft}
use Rattle.office_types.specs.declared.request.Edition.{Edition}
use Rattle.desk_settings.specs.AreSettings.{HasForms}
use Rattle.desk_settings.specs.declared.settings.Settings.{Settings}
use Rattle.event_life.specs.Products.{by_key}
use Rattle.event_numbers.specs.declared.Count.{Count}
use Rattle.action_planner.proofs.Standing.{at_first}
use Rattle.product_template.specs.Bodies.{is_training}
use Rattle.office_core.specs.Making.{drafted_by}
use Rattle.office_core.specs.Sound.{IsSound, IsSoundDraft, IsSoundMaking, IsSoundProduct, IsSoundRow}
use Rattle.office_core.specs.State.{State, draft_at, first_state, is_draft, no_requests}
use Rattle.office_core.specs.declared.heard.DeskRecord.{DeskRecord}

unheard_desks : (desks : List (List ℕ)) → map (λ (h : DeskRecord). h.desk) (map no_requests desks) ≡ desks
unheard_desks [] = refl
unheard_desks (desk ∷ desks) = ap (λ (rest : List (List ℕ)). desk ∷ rest) (unheard_desks desks)

no_rows : IsStrictlySortedBy by_key []
unfolding IsStrictlySortedBy
no_rows = tt

pub begins : (settings : Settings) (class : Class) (edition : Edition) → HasForms settings → (settings.any_zone ≡ true → is_training class ≡ true) →
    IsSound (first_state settings class edition) []
begins settings class edition forms training = record {
  forms = forms;
  training = training;
  desks = unheard_desks settings.desks;
  order = no_rows;
  stands = at_first 0;
  minute = omega arith;
  rows = All-nil (IsSoundRow settings class);
  few = omega arith;
  drafts = All-nil (IsSoundDraft settings class);
  touched = All-nil (λ (d : Draft). d.touched ≤ 0);
  most = omega arith;
  products = All-nil IsSoundProduct;
}

module _ (P : Draft → Type 0) (f : Draft → Bool) where
  holds_step : (b : Bool) (x y : Draft) (o : Option Draft) → P x → (o ≡ Some y → P y) → cond b (Some x) o ≡ Some y → P y
  holds_step true x y o own more h = subst P (let same : x ≡ y = cc in same) own
  holds_step false x y o own more h = more h

  -- what holds of each draft holds of the one that is found
  pub found_holds : (xs : List Draft) (y : Draft) → AllByRecursion P xs → find f xs ≡ Some y → P y
  found_holds [] y all h = absurd (cc)
  found_holds (x ∷ xs) y all h = holds_step (f x) x y (find f xs) all.0 (found_holds xs y all.1) h

drafted : (s : State) (o : Option Draft) → ((d : Draft) → o ≡ Some d → IsSoundDraft s.settings s.class d) → IsSoundMaking s (drafted_by o)
drafted s None own = tt
drafted s (Some d) own = own d refl

pub draft_found : (s : State) (counts : List Count) (id : ℕ) (d : Draft) → IsSound s counts → draft_at s id ≡ Some d → IsSoundDraft s.settings s.class d
draft_found s counts id d sound h =
    found_holds (IsSoundDraft s.settings s.class) (is_draft id) s.drafts d (recursion_from_All (IsSoundDraft s.settings s.class) s.drafts sound.drafts) h

pub drafts_are : (s : State) (counts : List Count) (id : ℕ) → IsSound s counts → IsSoundMaking s (drafted_by (draft_at s id))
drafts_are s counts id sound = drafted s (draft_at s id) (λ d h. draft_found s counts id d sound h)
