-- The training office: what each line is answered.
use Rattle.std.specs.Prelude.{◌≡◌, ◌≤◌, ◌⊎◌, ◌+◌, ℕ, pos, List, [], ◌∷◌, length, Option, Some, None, Result, Ok, Err, codes}
use Rattle.hazard_types.specs.declared.codes.Class.TheVariants as class
use Rattle.office_types.specs.declared.refusal.Refusal.{Refusal}
use Rattle.office_types.specs.declared.refusal.Refusal.TheVariants.{LineTooLong}
use Rattle.office_types.specs.declared.request.Edition.TheVariants.{One}
use Rattle.office_types.specs.declared.request.PutPart.{PutPart}
use Rattle.office_types.specs.declared.request.Request.TheVariants.{Issue}
use Rattle.desk_settings.specs.AreSettings.{training_of}
use Rattle.request_json.specs.Form.{training_issue_of}
use Rattle.office_core.specs.Agreement.{ReadsAsTheBoard}
use Rattle.office_core.specs.State.{State, first_state, last_number}
use Rattle.office_core.specs.Step.{Accepts, Refuses, entry_of, state_after}
use Rattle.office_core.specs.declared.made.Made.{Made}
use Rattle.desk_commands.specs.Lines.{refusal_line}

-- the one desk of training: the lines are its requests
abbrev pub dry_desk : List ℕ
dry_desk = codes "DRY"

-- before the first line: the settings of training, texts of class T in the first edition, no row and no product
abbrev pub first_training : List ℕ → State
first_training office = first_state (training_of office) class.T One

-- a line's number is that behind the accepted lines, each of which made a product
abbrev pub next_number : State → ℕ
next_number s = length s.products + 1

-- The issue breaks a rule of the office at this minute: the first one is told, and nothing changes, so that no number is drawn.
pub record IsRefused (at : ℕ) (s : State) (part : PutPart) (text : List ℕ) (next : State) : Type 0 where
  pub rule : Refusal
  pub broken : Refuses s dry_desk (next_number s) (Issue part) (pos at) rule
  pub told : text ≡ refusal_line rule
  pub unchanged : next ≡ s

-- The office accepts the issue at this minute: the text of its product is told, to the byte, and the state is the one behind its entry.
pub record IsAccepted (at : ℕ) (s : State) (part : PutPart) (text : List ℕ) (next : State) : Type 0 where
  pub made : Made
  pub accepted : Accepts s dry_desk (next_number s) (Issue part) (pos at) at (Some made)
  pub told : text ≡ made.sent.text
  pub after : next ≡ state_after s (entry_of s dry_desk (next_number s) (Issue part) at (Some made)) (Some made)

-- what a line says is answered: an issue by the office, and what is none by its fault
abbrev pub AnswersIssue : ℕ → State → Result PutPart Refusal → List ℕ → State → Type 0
AnswersIssue at s (Err x) text next = (text ≡ refusal_line x) × (next ≡ s)
AnswersIssue at s (Ok part) text next = IsRefused at s part text next ⊎ IsAccepted at s part text next

-- a line is answered, which is nothing where it is too long to be read; an empty line gets no answer
abbrev pub AnswersLine : ℕ → State → Option (List ℕ) → List ℕ → State → Type 0
AnswersLine at s None text next = (text ≡ refusal_line LineTooLong) × (next ≡ s)
AnswersLine at s (Some []) text next = (text ≡ []) × (next ≡ s)
AnswersLine at s (Some (c ∷ line)) text next = AnswersIssue at s (training_issue_of (c ∷ line)) text next

-- where memory lacks for the answer to a line, nothing changes
abbrev pub LacksLine : State → Option (List ℕ) → State → Type 0
LacksLine s line next = next ≡ s

-- ---- as the program keeps it

-- the office's state, and the minute at which every line is answered
pub record Trained : Type 0 where
  pub state : State
  pub at : ℕ

-- the accepted lines are the desk's requests, each with a product, and none is later than the minute; a reader of the texts finds the board
pub record IsTraining (s : State) (at : ℕ) : Type 0 where
  pub numbered : last_number s dry_desk ≡ length s.products
  pub few : length s.products ≤ 8192
  pub undrafted : s.begun ≡ 0
  pub timely : s.last ≤ at
  pub reads : ReadsAsTheBoard s

-- a line is answered, and a reader of the texts finds the board
pub record Replies (d : Trained) (line : Option (List ℕ)) (text : List ℕ) (next : Trained) : Type 0 where
  pub answered : AnswersLine d.at d.state line text next.state
  pub same : next.at ≡ d.at
  pub reads : ReadsAsTheBoard next.state

abbrev pub Lacks : Trained → Option (List ℕ) → Trained → Type 0
Lacks d line next = next ≡ d
