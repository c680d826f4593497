use Rattle.std.proofs.Common.{refl, subst, ℕ, List}
use Rattle.desk_traits.specs.DiskMemory.{MayLeave}
use Rattle.desk_traits.specs.declared.disk_record.DiskCall.TheVariants.{Synced, SyncFailed}
use Rattle.desk_traits.proofs.Recorded.{goes_noted, noted_good, synced_refused, synced_good, only_synced}
use Rattle.desk_traits.specs.DiskTold.{told_of, IsToFail}
use Rattle.desk_traits.proofs.disk_memory.MemDiskDisk.sync.Goals as goal

pub returns-then-asked-clause-durable : goal.returns-then-asked-clause-durable
returns-then-asked-clause-durable c f left =
    only_synced c.args.self.now.first c.args.self.now.file c.args.self.now.calls.items c.asked.new.self.calls.items c.args.self.now.kept (noted_good (IsToFail (told_of c.args.self.now)) c.args.self.now.calls.items c.asked.new.self.calls.items Synced SyncFailed c.args.self.now.lacked c.asked.new.self.lacked c.if-asked.ensures.comes) f
    (subst (λ (first : List ℕ). MayLeave first c.asked.new.self.calls.items f) c.asked.ensures.first left)

pub returns-then-asked-clause-crash : goal.returns-then-asked-clause-crash
returns-then-asked-clause-crash c = goes_noted (IsToFail (told_of c.args.self.now)) c.args.self.now.first c.asked.new.self.first c.args.self.now.calls.items c.asked.new.self.calls.items Synced SyncFailed c.args.self.now.lacked c.asked.new.self.lacked c.asked.result refl refl c.asked.ensures.first c.asked.ensures.comes

pub returns-then-asked-clause-syncs : goal.returns-then-asked-clause-syncs
returns-then-asked-clause-syncs c = synced_good c.args.self.now.calls.items c.asked.new.self.calls.items (noted_good (IsToFail (told_of c.args.self.now)) c.args.self.now.calls.items c.asked.new.self.calls.items Synced SyncFailed c.args.self.now.lacked c.asked.new.self.lacked c.if-asked.ensures.comes)

pub returns-else-asked-clause-crash : goal.returns-else-asked-clause-crash
returns-else-asked-clause-crash c = goes_noted (IsToFail (told_of c.args.self.now)) c.args.self.now.first c.asked.new.self.first c.args.self.now.calls.items c.asked.new.self.calls.items Synced SyncFailed c.args.self.now.lacked c.asked.new.self.lacked c.asked.result refl refl c.asked.ensures.first c.asked.ensures.comes

pub returns-else-asked-clause-syncs : goal.returns-else-asked-clause-syncs
returns-else-asked-clause-syncs c = synced_refused (IsToFail (told_of c.args.self.now)) c.args.self.now.calls.items c.asked.new.self.calls.items Synced SyncFailed c.args.self.now.lacked c.asked.new.self.lacked refl c.if-asked.ensures.comes
