use Rattle.std.proofs.Common.{refl}
use Rattle.desk_traits.specs.declared.disk_record.DiskCall.TheVariants.{Looked, LookFailed}
use Rattle.desk_traits.proofs.Recorded.{goes_noted, synced_noted}
use Rattle.desk_traits.specs.DiskTold.{told_of, IsToFail}
use Rattle.desk_traits.proofs.disk_memory.MemDiskDisk.len.Goals as goal

pub returns-then-asked-clause-crash : goal.returns-then-asked-clause-crash
returns-then-asked-clause-crash c = goes_noted (IsToFail (told_of c.args.self.now)) c.args.self.now.first c.asked.new.self.first c.args.self.now.calls.items c.asked.new.self.calls.items Looked LookFailed c.args.self.now.lacked c.asked.new.self.lacked c.asked.result refl refl c.asked.ensures.first c.asked.ensures.comes

pub returns-then-asked-clause-syncs : goal.returns-then-asked-clause-syncs
returns-then-asked-clause-syncs c = synced_noted (IsToFail (told_of c.args.self.now)) c.args.self.now.calls.items c.asked.new.self.calls.items Looked LookFailed c.args.self.now.lacked c.asked.new.self.lacked c.asked.result refl refl c.asked.ensures.comes

pub returns-else-asked-clause-crash : goal.returns-else-asked-clause-crash
returns-else-asked-clause-crash c = goes_noted (IsToFail (told_of c.args.self.now)) c.args.self.now.first c.asked.new.self.first c.args.self.now.calls.items c.asked.new.self.calls.items Looked LookFailed c.args.self.now.lacked c.asked.new.self.lacked c.asked.result refl refl c.asked.ensures.first c.asked.ensures.comes

pub returns-else-asked-clause-syncs : goal.returns-else-asked-clause-syncs
returns-else-asked-clause-syncs c = synced_noted (IsToFail (told_of c.args.self.now)) c.args.self.now.calls.items c.asked.new.self.calls.items Looked LookFailed c.args.self.now.lacked c.asked.new.self.lacked c.asked.result refl refl c.asked.ensures.comes
