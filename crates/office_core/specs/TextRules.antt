-- The rules on texts by their names.
use Rattle.std.specs.Prelude.{ℕ, List, Option}
use Rattle.office_types.specs.declared.refusal.Refusal.{Refusal}
use Rattle.office_core.specs.declared.writing.TextRule.{TextRule}
use Rattle.office_core.specs.declared.writing.TextRule.TheVariants.{Printable, Short}
use Rattle.office_core.specs.Writing.{bad_text, long_text}

-- what a field's text is refused with under a rule
abbrev pub under : TextRule → List ℕ → List ℕ → Option Refusal
under Printable field text = bad_text field text
under Short field text = long_text field text
