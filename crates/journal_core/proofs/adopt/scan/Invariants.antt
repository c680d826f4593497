use Rattle.std.proofs.Common.{◌≡◌, ℕ, ◌-◌, ◌≤◌, List, Some, length}
use Rattle.desk_traits.specs.Crash.{Passes}
use Rattle.desk_traits.specs.File.{Same}
use Rattle.journal_core.specs.Image.{records, Fresh}
use Rattle.journal_core.specs.Adopt.{Reads}
use Rattle.journal_core.proofs.adopt.scan.Given as goal

abbrev pub invariant-loop-at : goal.invariant-loop-at
invariant-loop-at g l =
    let d = g.D.Disk in
    record {
      seen : d.seen l.disk ≡ d.seen l.fn.disk;
      syncs : d.syncs l.disk ≡ d.syncs l.fn.disk;
      crash : Passes Same (d.crash l.fn.disk) (d.crash l.disk);
      later : d.faults l.fn.disk ≤ d.faults l.disk;
      steady : d.faults l.disk ≡ d.faults l.fn.disk;
      place : l.at ≡ length (records l.bodies);
      read : (f : List ℕ) → d.seen l.fn.disk ≡ Some f → (Fresh f → ⊥) → Reads l.at l.bodies f;
    }

abbrev pub decreases-loop-at : goal.decreases-loop-at
decreases-loop-at g l = l.n - l.at
