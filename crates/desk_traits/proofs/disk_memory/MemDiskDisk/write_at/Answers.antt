use Rattle.std.proofs.Common.{◌≡◌, ◌∙◌, ℕ, Vec, List, refl, ap, sym, ◌≤◌, length, arith, subst}
use Rattle.std.specs.declared.alloc.Global.{Global}
use Rattle.desk_traits.specs.declared.disk_record.DiskCall.{DiskCall}
use Rattle.desk_traits.specs.declared.disk_record.DiskCall.TheVariants.{Wrote}
use Rattle.desk_traits.specs.File.{Torn, HasBytes}
use Rattle.desk_traits.specs.DiskMemoryLaws.{torn_put}
use Rattle.desk_traits.proofs.Recorded.{goes_failed, goes_wrote, kept_failed, kept_put, synced_failed, synced_other}
use Rattle.desk_traits.proofs.disk_memory.MemDiskDisk.write_at.Goals as goal

items_same : {old new : Vec DiskCall Global} → new ≡ old → new.items ≡ old.items
items_same same = ap (λ (v : Vec DiskCall Global). v.items) same

pub invariant_of-self : goal.invariant_of-self
invariant_of-self c = record { kept = kept_failed c.called.new.self.first c.called.new.self.file c.called.new.self.calls.items c.record_failed_write-noted.new.calls.items c.args.at c.args.bytes.now c.record_failed_write-noted.result c.called.new.self.kept c.record_failed_write-noted.ensures }

pub returns-then-called-clause-crash : goal.returns-then-called-clause-crash
returns-then-called-clause-crash c =
    goes_failed c.args.self.now.first c.failed.new.self.first c.args.self.now.calls.items c.called.new.self.calls.items c.failed.new.self.calls.items c.args.at c.args.bytes.now c.record_failed_write-noted.result
    (c.failed.ensures.first ∙ c.called.ensures.first) (items_same c.called.ensures.calls) (items_same c.failed.ensures.calls ∙ c.record_failed_write-noted.ensures)

pub returns-then-called-clause-syncs : goal.returns-then-called-clause-syncs
returns-then-called-clause-syncs c =
    synced_failed c.args.self.now.calls.items c.called.new.self.calls.items c.failed.new.self.calls.items c.args.at c.args.bytes.now c.record_failed_write-noted.result (items_same c.called.ensures.calls) (items_same c.failed.ensures.calls ∙ c.record_failed_write-noted.ensures)

pub invariant_of-self-2 : goal.invariant_of-self-2
invariant_of-self-2 c =
    let le : c.args.at ≤ length c.called.new.self.file = omega (arith, ap length c.called.ensures.file, c.requires) in
    record { kept = kept_put c.put.result c.called.new.self.first c.called.new.self.file c.put.new.file c.called.new.self.calls.items c.put.new.calls.items c.args.at c.args.bytes.now le c.called.new.self.kept c.put.ensures.file c.put.ensures.calls c.put.ensures.same c.put.ensures.same_calls }

pub returns-in-Ok-clause-seen : goal.returns-in-Ok-clause-seen
returns-in-Ok-clause-seen c =
    let holds = subst (λ (l : List ℕ). HasBytes c.args.at c.args.bytes.now l c.put.new.file) c.called.ensures.file c.in-Ok.ensures.file in
    (subst (λ (l : List ℕ). Torn c.args.at (length c.args.bytes.now) c.args.self.now.file l) (sym holds) (torn_put c.args.at c.args.bytes.now c.args.self.now.file c.requires), holds)

pub returns-in-Ok-clause-crash : goal.returns-in-Ok-clause-crash
returns-in-Ok-clause-crash c =
    goes_wrote c.args.self.now.first c.called.new.self.first c.args.self.now.calls.items c.called.new.self.calls.items c.put.new.calls.items c.args.at c.args.bytes.now c.called.ensures.first (items_same c.called.ensures.calls) c.in-Ok.ensures.calls

pub returns-in-Ok-clause-syncs : goal.returns-in-Ok-clause-syncs
returns-in-Ok-clause-syncs c =
    synced_other c.args.self.now.calls.items c.called.new.self.calls.items c.put.new.calls.items (Wrote c.args.at c.args.bytes.now) refl (items_same c.called.ensures.calls) c.in-Ok.ensures.calls
