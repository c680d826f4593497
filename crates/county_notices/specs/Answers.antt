-- What a line is answered.
use Rattle.std.specs.Prelude.{◌≡◌, ◌⊎◌, ℕ, List, [], ◌∷◌, ◌++◌, Option, Some, None, Result, Ok, Err, codes}
use Rattle.notice_json.specs.Form.{command_of}
use Rattle.notice_json.specs.Refusals.{refusal_text}
use Rattle.notice_json.specs.declared.command.Command.{Command}
use Rattle.notice_json.specs.declared.refusal.NoticeRefusal.{NoticeRefusal}
use Rattle.notice_json.specs.declared.refusal.NoticeRefusal.TheVariants.{LineTooLong}
use Rattle.county_notices.specs.Commands.{Noticed}
use Rattle.county_notices.specs.NoticeHistory.{IsAccepted, IsRefused, after}

-- a refusal's text as a line
abbrev pub refusal_line : NoticeRefusal → List ℕ
refusal_line rule = refusal_text rule ++ codes "\n"

-- the command breaks a rule: the first one is told, and nothing changes
pub record IsTurnedDown (s : Noticed) (c : Command) (text : List ℕ) (next : Noticed) : Type 0 where
  pub rule : NoticeRefusal
  pub broken : IsRefused s c rule
  pub told : text ≡ refusal_line rule
  pub unchanged : next ≡ s

-- it breaks none: its notice is told, to the byte, and what it leaves is the state behind it
pub record IsNoticed (s : Noticed) (c : Command) (text : List ℕ) (next : Noticed) : Type 0 where
  pub accepted : IsAccepted s c text
  pub left : next ≡ after s c

-- what a line says is answered: a command by the rules, and what is none by its fault
abbrev pub AnswersCommand : Noticed → Result Command NoticeRefusal → List ℕ → Noticed → Type 0
AnswersCommand s (Err rule) text next = (text ≡ refusal_line rule) × (next ≡ s)
AnswersCommand s (Ok c) text next = IsTurnedDown s c text next ⊎ IsNoticed s c text next

-- a line is answered, which is nothing where it is too long to be read; an empty line gets no answer
abbrev pub AnswersLine : Noticed → Option (List ℕ) → List ℕ → Noticed → Type 0
AnswersLine s None text next = (text ≡ refusal_line LineTooLong) × (next ≡ s)
AnswersLine s (Some []) text next = (text ≡ []) × (next ≡ s)
AnswersLine s (Some (b ∷ line)) text next = AnswersCommand s (command_of (b ∷ line)) text next

-- where memory lacks for the answer to a line, nothing changes
abbrev pub LacksLine : Noticed → Option (List ℕ) → Noticed → Type 0
LacksLine s line next = next ≡ s
