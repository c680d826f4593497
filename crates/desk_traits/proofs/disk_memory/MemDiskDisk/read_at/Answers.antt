use Rattle.std.proofs.Common.{refl}
use Rattle.desk_traits.proofs.Recorded.{goes_noted, synced_noted}
use Rattle.desk_traits.specs.DiskTold.{told_of, IsToFail}
use Rattle.desk_traits.proofs.disk_memory.MemDiskDisk.read_at.Goals as goal

pub returns-then-not-asked-clause-crash : goal.returns-then-not-asked-clause-crash
returns-then-not-asked-clause-crash c = goes_noted (IsToFail (told_of c.args.self.now)) c.args.self.now.first c.asked.new.self.first c.args.self.now.calls.items c.asked.new.self.calls.items _ _ c.args.self.now.lacked c.asked.new.self.lacked c.asked.result refl refl c.asked.ensures.first c.asked.ensures.comes

pub returns-then-not-asked-clause-syncs : goal.returns-then-not-asked-clause-syncs
returns-then-not-asked-clause-syncs c = synced_noted (IsToFail (told_of c.args.self.now)) c.args.self.now.calls.items c.asked.new.self.calls.items _ _ c.args.self.now.lacked c.asked.new.self.lacked c.asked.result refl refl c.asked.ensures.comes

pub returns-clause-crash : goal.returns-clause-crash
returns-clause-crash c = goes_noted (IsToFail (told_of c.args.self.now)) c.args.self.now.first c.asked.new.self.first c.args.self.now.calls.items c.asked.new.self.calls.items _ _ c.args.self.now.lacked c.asked.new.self.lacked c.asked.result refl refl c.asked.ensures.first c.asked.ensures.comes

pub returns-clause-syncs : goal.returns-clause-syncs
returns-clause-syncs c = synced_noted (IsToFail (told_of c.args.self.now)) c.args.self.now.calls.items c.asked.new.self.calls.items _ _ c.args.self.now.lacked c.asked.new.self.lacked c.asked.result refl refl c.asked.ensures.comes
