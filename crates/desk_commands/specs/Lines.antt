-- Answers as lines.
use Rattle.std.specs.Prelude.{ℕ, List, ◌++◌, codes}
use Rattle.office_types.specs.declared.refusal.Refusal.{Refusal}
use Rattle.request_json.specs.Replies.{refusal_text}

-- a text as a line
abbrev pub ended : List ℕ → List ℕ
ended text = text ++ codes "\n"

-- a refusal as a line
abbrev pub refusal_line : Refusal → List ℕ
refusal_line x = refusal_text x ++ codes "\n"
