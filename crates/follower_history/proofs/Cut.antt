-- First texts of an office are all its texts after a front of its history.
use Rattle.std.proofs.Common.{◌≡◌, ◌∙◌, ◌≤◌, ◌++◌, ℕ, List, [], ◌∷◌, Bool, Option, Some, None, inl, inr, refl, sym, ap, arith, length, take, append-nil, append_assoc, length-append}
use Rattle.std.proofs.lemmas.Bool.Decides.{eqb_tells}
use Rattle.std.proofs.lemmas.List.{map-append, take_at}
use Rattle.hazard_types.specs.declared.codes.Class.{Class}
use Rattle.office_types.specs.declared.request.Edition.TheVariants.{One}
use Rattle.office_types.specs.declared.request.Entry.{Entry}
use Rattle.office_types.specs.declared.request.Sent.{Sent}
use Rattle.desk_settings.specs.declared.settings.Settings.{Settings}
use Rattle.office_core.specs.Agreement.{texts_of}
use Rattle.office_core.specs.Histories.{Entered, IsLegal, IsNext, LeadFrom}
use Rattle.office_core.specs.State.{State, first_state, in_edition}
use Rattle.office_core.specs.Step.{state_after}
use Rattle.office_core.specs.declared.made.Made.{Made}
use Rattle.follower_history.specs.Fronts.{AreFirstTexts, EndAtAFront}

abbrev texts_made : Option Made → List (List ℕ)
texts_made None = []
texts_made (Some made) = made.sent.text ∷ []

one_at_most : (made : Option Made) → length (texts_made made) ≤ 1
one_at_most None = omega arith
one_at_most (Some made) = omega arith

-- an entry adds the text of its product, where it made one
grown : (s : State) (e : Entry) (made : Option Made) → texts_of (state_after s e made) ≡ texts_of s ++ texts_made made
unfolding state_after
grown s e None = sym (append-nil (texts_of s))
grown s e (Some made) = map-append (λ (sent : Sent). sent.text) s.products (made.sent ∷ [])

heads : (xs ys us vs : List (List ℕ)) → xs ++ us ≡ ys ++ vs → length xs ≡ length ys → xs ≡ ys
heads xs ys us vs h e = sym (take_at xs us (length xs) refl) ∙ (λ i. take (e i) (h i)) ∙ take_at ys vs (length ys) refl

module _ (fits : List Entered → Entered → Bool) where
  one_more : (earlier : List Entered) (s : State) (x : Entered) (next : State) → IsNext fits earlier s x next → texts_of next ≡ texts_of s ++ texts_made x.made
  one_more earlier s x next n = ap texts_of n.after ∙ grown (in_edition x.entry.edition s) x.entry x.made

  goes_on : (earlier history : List Entered) (s after : State) → LeadFrom fits earlier s history after → (more : List (List ℕ)) × (texts_of after ≡ texts_of s ++ more)
  goes_on earlier [] s after led = ([], ap texts_of led ∙ sym (append-nil (texts_of s)))
  goes_on earlier (x ∷ history) s after led =
      let rest = goes_on (earlier ++ x ∷ []) history led.0 after led.2 in
      let one = one_more earlier s x led.0 led.1 in
      (texts_made x.made ++ rest.0, rest.1 ∙ ap (λ (ts : List (List ℕ)). ts ++ rest.0) one ∙ append_assoc (texts_of s) (texts_made x.made) rest.0)

  record Cut (earlier : List Entered) (s : State) (history : List Entered) (taken : List (List ℕ)) : Type 0 where
    front : List Entered
    later : List Entered
    state : State
    parts : history ≡ front ++ later
    leads : LeadFrom fits earlier s front state
    texts : texts_of state ≡ taken

  -- the front without an entry
  none : (earlier history : List Entered) (s after : State) (taken rest : List (List ℕ)) → LeadFrom fits earlier s history after → texts_of after ≡ taken ++ rest → length (texts_of s) ≡ length taken → Cut earlier s history taken
  none earlier history s after taken rest led is same =
      let more = goes_on earlier history s after led in
      record { front = []; later = history; state = s; parts = refl; leads = refl; texts = heads (texts_of s) taken more.0 rest (sym more.1 ∙ is) same }

  ended : (s after : State) (taken rest : List (List ℕ)) → after ≡ s → texts_of after ≡ taken ++ rest → length (texts_of s) ≤ length taken → length (texts_of s) ≡ length taken
  ended s after taken rest led is le =
      let whole : length (texts_of s) ≡ length (taken ++ rest) = ap (λ (z : State). length (texts_of z)) (sym led) ∙ ap length is in
      omega (arith, whole, length-append taken rest, le)

  cut : (earlier history : List Entered) (s after : State) (taken rest : List (List ℕ)) → LeadFrom fits earlier s history after → texts_of after ≡ taken ++ rest → length (texts_of s) ≤ length taken → Cut earlier s history taken
  cut earlier [] s after taken rest led is le = none earlier [] s after taken rest led is (ended s after taken rest led is le)
  cut earlier (x ∷ history) s after taken rest led is le =
      elim (eqb_tells (length (texts_of s)) (length taken)) [
        | inl e ↦ none earlier (x ∷ history) s after taken rest led is e.1
        | inr e ↦
            let one = ap length (one_more earlier s x led.0 led.1) ∙ length-append (texts_of s) (texts_made x.made) in
            let few = one_at_most x.made in
            let c = cut (earlier ++ x ∷ []) history led.0 after taken rest led.2 is (omega (arith, one, few, le, e.1)) in
            record { front = x ∷ c.front; later = c.later; state = c.state; parts = ap (λ (h : List Entered). x ∷ h) c.parts; leads = (led.0, led.1, c.leads); texts = c.texts }
      ]

pub at_front : (fits : List Entered → Entered → Bool) (settings : Settings) (class : Class) (history : List Entered) (s : State) (taken : List (List ℕ))
    → IsLegal fits settings class history s → AreFirstTexts s taken → EndAtAFront fits settings class history taken
at_front fits settings class history s taken legal first =
    let c = cut fits [] history (first_state settings class One) s taken first.0 legal first.1 (omega arith) in
    record { front = c.front; later = c.later; parts = c.parts; state = c.state; legal = c.leads; texts = c.texts }
