use Rattle.std.proofs.Common.{option_map}
use Rattle.office_journal.specs.Changes.{body_of}
use Rattle.office_journal.specs.Histories.{bodies}
use Rattle.office_journal.proofs.Carrying.{left_now}
use Rattle.office_journal.proofs.kept.KeptOffice.a_crash_leaves_the_history.Goals as goal

pub returns : goal.returns
returns g c file h pending f holds left =
    left_now file h _ holds.history pending holds.change f (c.a_crash_leaves_the_bodies.ensures (bodies file h) (option_map body_of pending) f (holds.journal.rests f left))
