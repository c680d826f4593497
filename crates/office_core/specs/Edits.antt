-- What a request changes in an open draft.
use Rattle.std.specs.Prelude.{ℕ}
use Rattle.office_types.specs.declared.request.Draft.{Draft}
use Rattle.office_core.specs.Step.{taken_by, with_intent, without_intent}
use Rattle.office_core.specs.declared.changes.Edit.{Edit}
use Rattle.office_core.specs.declared.changes.Edit.TheVariants.{More, Less, Owner}

-- the draft with an edit, touched at a minute
abbrev pub edited : ℕ → Edit → Draft → Draft
edited t (More intent) = with_intent t intent
edited t (Less place) = without_intent t place
edited t (Owner desk) = taken_by t desk
