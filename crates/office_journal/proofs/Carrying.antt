-- What an append makes of a journal that stands for a history, and what a crash leaves of it.
use Rattle.std.proofs.Common.{◌≡◌, ◌⊎◌, inl, inr, ⊎_elim, ℕ, List, [], ◌∷◌, ◌++◌, Option, None, Some, option_map, IfSome, refl, sym, ap, subst}
use Rattle.office_types.specs.declared.request.Edition.TheVariants.{Two}
use Rattle.journal_core.specs.Image.{Image, IsOneOf}
use Rattle.journal_core.specs.Journal.{LeavesBodies, MayPend}
use Rattle.office_core.specs.State.{State, in_edition}
use Rattle.office_journal.specs.Changes.{Change, Leaves, MayChange, body_of, changed}
use Rattle.office_journal.specs.Histories.{History, ImageOf, IsHistory, bodies}
use Rattle.office_journal.specs.Submitting.{MayTouch}
use Rattle.office_journal.proofs.Growing.{bodies_grow, history_grows, history_marked}

-- what is said of the change may be less
pub leaves_less : (file : List ℕ) (h : History) (P Q : Change → Type 0) → ((change : Change) → P change → Q change) → (c : List ℕ) → Leaves file h P c → Leaves file h Q c
leaves_less file h P Q f c leaves = ⊎_elim (λ image. inl image) (λ of. inr (of.0, f of.0 of.1, of.2)) leaves

not_pending : (body : List ℕ) → None ≡ Some body → ⊥
not_pending body e = absurd (cc)

module _ (file : List ℕ) (h : History) (s : State) (is : IsHistory file h s) where
  grown : (change : Change) → MayChange file h change → (next : State) × IsHistory file (changed h change) next
  grown (Change.entry x) may = (may.next, history_grows file h may.state may.history x may.next may.edition may.accepted)
  grown Change.marked may = (in_edition Two s, history_marked file h s is may)

  -- the journal's bodies with the change's are those of the history with the change
  pub grown_bodies : (change : Change) (body : List ℕ) → MayChange file h change → body ≡ body_of change → (K : List (List ℕ) → Type 0) → K (bodies file h ++ body ∷ []) → K (bodies file (changed h change))
  grown_bodies change body may written K k =
      subst K (sym (bodies_grow file h change s is may)) (subst (λ (b : List ℕ). K (bodies file h ++ b ∷ [])) written k)

  image_now : (c : List ℕ) → Image c (bodies file h) → ImageOf c file h
  image_now c image = record { state = s; history = is; image = image }

  image_changed : (change : Change) → MayChange file h change → (c : List ℕ) → Image c (bodies file h ++ body_of change ∷ []) → ImageOf c file (changed h change)
  image_changed change may c image =
      let next = grown change may in
      record { state = next.0; history = next.1; image = grown_bodies change (body_of change) may refl (Image c) image }

  -- what a crash leaves of a journal that stands so
  pub left_now : (pending : Option Change) → IfSome pending (MayChange file h) → (c : List ℕ) → LeavesBodies (bodies file h) (option_map body_of pending) c → Leaves file h (λ change. pending ≡ Some change) c
  left_now None may c left = inl (image_now c left)
  left_now (Some other) may c left = ⊎_elim (λ image. inl (image_now c image)) (λ image. inr (other, refl, image_changed other may c image)) left

  module _ (pending : Option Change) (this : Change) (body : List ℕ) (may : IfSome pending (MayChange file h)) (so : MayChange file h this) (written : body ≡ body_of this) where
    -- what a crash leaves while this change is appended
    pub left_between : (Q : Change → Type 0) → Q this → (c : List ℕ) → IsOneOf (bodies file h) (option_map body_of pending) body c → Leaves file h (λ change. (pending ≡ Some change) ⊎ Q change) c
    left_between Q q c one =
        between pending may (subst (λ (b : List ℕ). IsOneOf (bodies file h) (option_map body_of pending) b c) written one)
      where
        by_this : (P : Change → Type 0) → P this → Image c (bodies file h ++ body_of this ∷ []) → Leaves file h P c
        by_this P p image = inr (this, p, image_changed this so c image)

        between : (old : Option Change) → IfSome old (MayChange file h) → IsOneOf (bodies file h) (option_map body_of old) (body_of this) c → Leaves file h (λ change. (old ≡ Some change) ⊎ Q change) c
        between None ok one = ⊎_elim (λ image. inl (image_now c image)) (by_this (λ change. (None ≡ Some change) ⊎ Q change) (inr q)) one
        between (Some other) ok one =
            ⊎_elim (λ image. inl (image_now c image)) (⊎_elim (by_this (λ change. (Some other ≡ Some change) ⊎ Q change) (inr q)) (λ image. inr (other, inl refl, image_changed other ok c image))) one

    -- what is pending after a fault
    pub pending_then : (next : Option (List ℕ)) → MayPend (option_map body_of pending) body next → (n : Option Change) × MayTouch pending this n × (option_map body_of n ≡ next) × IfSome n (MayChange file h)
    pending_then next touch = then pending next may (subst (λ (b : List ℕ). MayPend (option_map body_of pending) b next) written touch)
      where
        then : (old : Option Change) (next : Option (List ℕ)) → IfSome old (MayChange file h) → MayPend (option_map body_of old) (body_of this) next → (n : Option Change) × MayTouch old this n × (option_map body_of n ≡ next) × IfSome n (MayChange file h)
        then old None ok touch = (None, tt, refl, tt)
        then None (Some b) ok touch = ⊎_elim (λ none. absurd (not_pending b none)) (λ one. (Some this, inr refl, ap Some (sym one), so)) touch
        then (Some other) (Some b) ok touch = ⊎_elim (λ one. (Some other, inl refl, one, ok)) (λ one. (Some this, inr refl, ap Some (sym one), so)) touch
