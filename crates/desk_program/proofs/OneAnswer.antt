-- A line of the training office has one answer.
use Rattle.std.proofs.Common.{◌≡◌, ◌⊎◌, inl, inr, ◌∙◌, ℕ, ℤ, pos, List, [], ◌∷◌, ◌++◌, Option, None, Some, Result, Ok, Err, ap, sym, subst}
use Rattle.office_types.specs.declared.refusal.Refusal.{Refusal}
use Rattle.office_types.specs.declared.request.PutPart.{PutPart}
use Rattle.office_types.specs.declared.request.Request.{Request}
use Rattle.office_types.specs.declared.request.Request.TheVariants.{Issue}
use Rattle.request_json.specs.Form.{training_issue_of}
use Rattle.office_core.specs.State.{State}
use Rattle.office_core.specs.Step.{Accepts, Refuses, entry_of, state_after}
use Rattle.office_core.specs.declared.made.Made.{Made}
use Rattle.program_ends.specs.Lines.{fit}
use Rattle.program_ends.specs.Runs.{Answered}
use Rattle.desk_commands.specs.Lines.{refusal_line}
use Rattle.desk_program.specs.Training.{AnswersIssue, AnswersLine, IsAccepted, IsRefused, dry_desk, next_number}

-- the office's law that a request has one answer, as far as a line needs it
pub record HasOneAnswer : Type 0 where
  pub accepted : (s : State) (desk : List ℕ) (seq : ℕ) (r : Request) (reading : ℤ) (t u : ℕ) (made other : Option Made) → Accepts s desk seq r reading t made → Accepts s desk seq r reading u other → (t ≡ u) × (made ≡ other)
  pub refused : (s : State) (desk : List ℕ) (seq : ℕ) (r : Request) (reading : ℤ) (x y : Refusal) → Refuses s desk seq r reading x → Refuses s desk seq r reading y → x ≡ y
  pub apart : (s : State) (desk : List ℕ) (seq : ℕ) (r : Request) (reading : ℤ) (t : ℕ) (made : Option Made) (x : Refusal) → Accepts s desk seq r reading t made → Refuses s desk seq r reading x → ⊥

-- the same text, and the same state behind it
abbrev Same : List ℕ → State → List ℕ → State → Type 0
Same text next other last = (text ≡ other) × (next ≡ last)

same_one : (one other : Made) → ◌≡◌ {A = Option Made} (Some one) (Some other) → one ≡ other
same_one one other h = cc

both_are : (text other : List ℕ) (next last : State) (t : List ℕ) (s : State) → text ≡ t → next ≡ s → other ≡ t → last ≡ s → Same text next other last
both_are text other next last t s a b c d = (a ∙ sym c, b ∙ sym d)

abbrev behind : ℕ → State → PutPart → Made → State
behind at s part made = state_after s (entry_of s dry_desk (next_number s) (Issue part) at (Some made)) (Some made)

part_once : HasOneAnswer → (at : ℕ) (s : State) (part : PutPart) (text other : List ℕ) (next last : State) → (IsRefused at s part text next ⊎ IsAccepted at s part text next) → (IsRefused at s part other last ⊎ IsAccepted at s part other last) → Same text next other last
part_once law at s part text other next last (inl f) (inl g) =
    let rule : g.rule ≡ f.rule = law.refused s dry_desk (next_number s) (Issue part) (pos at) g.rule f.rule g.broken f.broken in
    both_are text other next last (refusal_line f.rule) s f.told f.unchanged (g.told ∙ ap refusal_line rule) g.unchanged
part_once law at s part text other next last (inl f) (inr g) = absurd (law.apart s dry_desk (next_number s) (Issue part) (pos at) at (Some g.made) f.rule g.accepted f.broken)
part_once law at s part text other next last (inr f) (inl g) = absurd (law.apart s dry_desk (next_number s) (Issue part) (pos at) at (Some f.made) g.rule f.accepted g.broken)
part_once law at s part text other next last (inr f) (inr g) =
    let made : g.made ≡ f.made = same_one g.made f.made (law.accepted s dry_desk (next_number s) (Issue part) (pos at) at at (Some g.made) (Some f.made) g.accepted f.accepted).1 in
    both_are text other next last f.made.sent.text (behind at s part f.made) f.told f.after (g.told ∙ ap (λ (m : Made). m.sent.text) made) (g.after ∙ ap (behind at s part) made)

issue_once : HasOneAnswer → (at : ℕ) (s : State) (r : Result PutPart Refusal) (text other : List ℕ) (next last : State) → AnswersIssue at s r text next → AnswersIssue at s r other last → Same text next other last
issue_once law at s (Err x) text other next last f g = both_are text other next last (refusal_line x) s f.0 f.1 g.0 g.1
issue_once law at s (Ok part) text other next last f g = part_once law at s part text other next last f g

line_once : HasOneAnswer → (at : ℕ) (s : State) (line : Option (List ℕ)) (text other : List ℕ) (next last : State) → AnswersLine at s line text next → AnswersLine at s line other last → Same text next other last
line_once law at s None text other next last f g = both_are text other next last _ s f.0 f.1 g.0 g.1
line_once law at s (Some []) text other next last f g = both_are text other next last [] s f.0 f.1 g.0 g.1
line_once law at s (Some (c ∷ line)) text other next last f g = issue_once law at s (training_issue_of (c ∷ line)) text other next last f g

-- and so have lines
pub answered_once : HasOneAnswer → (at : ℕ) (s : State) (lines : List (List ℕ)) (told other : List ℕ) (z last : State) → Answered (AnswersLine at) s lines told z → Answered (AnswersLine at) s lines other last → Same told z other last
answered_once law at s [] told other z last f g = both_are told other z last [] s f.0 f.1 g.0 g.1
answered_once law at s (line ∷ lines) told other z last f g =
    let one = line_once law at s (fit line) f.0 g.0 f.1 g.1 f.3 g.3 in
    let rest = answered_once law at f.1 lines f.2 g.2 z last f.5 (subst (λ (n : State). Answered (AnswersLine at) n lines g.2 last) (sym one.1) g.5) in
    (f.4 ∙ ap (λ (t : List ℕ). t ++ f.2) one.0 ∙ ap (λ (t : List ℕ). g.0 ++ t) rest.0 ∙ sym g.4, rest.1)
