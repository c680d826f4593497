-- The requests of a drill lead to one office.
use Rattle.std.proofs.Common.{◌≡◌, inl, inr, ◌∙◌, ◌+◌, ◌++◌, ℕ, ℤ, List, [], ◌∷◌, Option, Some, ap, sym, subst}
use Rattle.office_types.specs.declared.refusal.Refusal.{Refusal}
use Rattle.office_types.specs.declared.request.Request.{Request}
use Rattle.office_types.specs.declared.request.Request.TheVariants.{Issue}
use Rattle.office_core.specs.State.{State}
use Rattle.office_core.specs.Step.{Accepts, Refuses, entry_of, state_after}
use Rattle.office_core.specs.declared.made.Made.{Made}
use Rattle.desk_drill.specs.Office.{Answers, Drilled, LeadsTo, next_number}
use Rattle.desk_drill.specs.Requests.{Issued}

-- the office's law that a request has one answer, as far as a drill needs it
pub record HasOneAnswer : Type 0 where
  pub accepted : (s : State) (desk : List ℕ) (seq : ℕ) (r : Request) (reading : ℤ) (t u : ℕ) (made other : Option Made) → Accepts s desk seq r reading t made → Accepts s desk seq r reading u other → (t ≡ u) × (made ≡ other)
  pub apart : (s : State) (desk : List ℕ) (seq : ℕ) (r : Request) (reading : ℤ) (t : ℕ) (made : Option Made) (x : Refusal) → Accepts s desk seq r reading t made → Refuses s desk seq r reading x → ⊥

same_one : (one other : Made) → ◌≡◌ {A = Option Made} (Some one) (Some other) → one ≡ other
same_one one other h = cc

-- the office behind an accepted request
abbrev accepted_next : Drilled → Issued → ℕ → Made → Drilled
accepted_next d r minute made = record {
  state = state_after d.state (entry_of d.state r.desk (next_number d.state r.desk) (Issue r.part) minute (Some made)) (Some made);
  accepted = d.accepted + 1;
  refused = d.refused;
  opened = d.opened ++ made.opened;
}

one_answer : HasOneAnswer → (d : Drilled) (r : Issued) (a b : Drilled) → Answers d r a → Answers d r b → a ≡ b
one_answer law d r a b (inl x) (inl y) = x.after ∙ sym y.after
one_answer law d r a b (inl x) (inr y) = absurd (law.apart _ _ _ _ _ _ _ x.rule y.accepted x.broken)
one_answer law d r a b (inr x) (inl y) = absurd (law.apart _ _ _ _ _ _ _ y.rule x.accepted y.broken)
one_answer law d r a b (inr x) (inr y) =
    let same = law.accepted _ _ _ _ _ _ _ _ _ x.accepted y.accepted in
    let first : accepted_next d r x.minute x.made ≡ accepted_next d r y.minute x.made = ap (λ (t : ℕ). accepted_next d r t x.made) same.0 in
    let then : accepted_next d r y.minute x.made ≡ accepted_next d r y.minute y.made = ap (λ (m : Made). accepted_next d r y.minute m) (same_one x.made y.made same.1) in
    x.after ∙ first ∙ then ∙ sym y.after

pub one_end : HasOneAnswer → (d : Drilled) (rs : List Issued) (a b : Drilled) → LeadsTo d rs a → LeadsTo d rs b → a ≡ b
one_end law d [] a b x y = x ∙ sym y
one_end law d (r ∷ rs) a b x y =
    let same : x.0 ≡ y.0 = one_answer law d r x.0 y.0 x.1 y.1 in
    one_end law y.0 rs a b (subst (λ (n : Drilled). LeadsTo n rs a) same x.2) y.2
