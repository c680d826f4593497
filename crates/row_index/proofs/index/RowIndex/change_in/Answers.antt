-- Parts without a UPG line say none.
use Rattle.std.proofs.Common.{◌∙◌, sym}
use Rattle.std.specs.List.{list_any}
use Rattle.row_index.specs.Seating.{upgrades}
use Rattle.row_index.specs.Verdicts.{lines_in}
use Rattle.row_index.proofs.Told.{contrary, none_said}
use Rattle.row_index.proofs.index.RowIndex.change_in.Goals as goal

pub returns-then-not-upgrade_in-clause-changed : goal.returns-then-not-upgrade_in-clause-changed
returns-then-not-upgrade_in-clause-changed c = λ h.
    absurd (contrary (list_any upgrades (lines_in c.args.parts.now)) h (none_said c.args.parts.now (sym c.upgrade_in.ensures ∙ c.if-not-upgrade_in.true)))

pub returns-then-not-upgrade_in-clause-over : goal.returns-then-not-upgrade_in-clause-over
returns-then-not-upgrade_in-clause-over c = λ h.
    absurd (contrary (list_any upgrades (lines_in c.args.parts.now)) h (none_said c.args.parts.now (sym c.upgrade_in.ensures ∙ c.if-not-upgrade_in.true)))
