use Rattle.desk_traits.proofs.Recorded.{kept_quiet}
use Rattle.desk_traits.proofs.disk_record.MemDisk.asked.Goals as goal

pub invariant_of-self : goal.invariant_of-self
invariant_of-self c = record { kept = kept_quiet c.called.new.self.first c.called.new.self.file c.called.new.self.calls.items c.note-noted.new.calls.items c.args.failed c.note-noted.result c.requires.failed c.called.new.self.kept c.note-noted.ensures }

pub invariant_of-self-2 : goal.invariant_of-self-2
invariant_of-self-2 c = record { kept = kept_quiet c.called.new.self.first c.called.new.self.file c.called.new.self.calls.items c.note.new.calls.items c.args.good c.note.result c.requires.good c.called.new.self.kept c.note.ensures }
