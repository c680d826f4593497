use Rattle.std.proofs.Common.{◌≡◌, drop}
use Rattle.desk_traits.specs.DiskMemory.{crash_by}
use Rattle.desk_traits.proofs.disk_crash.file_left.Given as goal

-- the calls that are left make of it what all make of the file at first
abbrev pub invariant-loop-call : goal.invariant-loop-call
invariant-loop-call l = record {
  same : crash_by l.pick (drop l.call-index l.calls) l.crash ≡ crash_by l.pick l.calls (record { seen = l.first; left = l.first; digits = l.pick });
}
