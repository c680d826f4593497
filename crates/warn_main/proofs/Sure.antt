-- Ends whose counts of faults are always zero.
use Rattle.std.proofs.Common.{◌≡◌, ◌≤◌, ◌+◌, ◌-◌, ◌^◌, ◌∙◌, ℕ, ℤ, min, arith}
use Rattle.desk_traits.specs.Faults.{Rose}
use Rattle.desk_traits.specs.declared.clocks.Clock.{Ghosts as Clocks}
use Rattle.desk_traits.specs.declared.disk.Disk.{Ghosts as Disks}
use Rattle.warn_main.specs.Sure.{EndsWithoutDiskFault, EndsWithoutReadFault, EndsWithoutWriteFault, SaysNoDiskFault, ServesNoDiskFault}

unmoved : (before now : ℕ) → before ≡ 0 → now ≡ 0 → Rose before now → ⊥
unmoved before now old new rose = omega (arith, old, new, rose)

none_failed : (before now count : ℕ) → before ≡ 0 → now ≡ 0 → min (before + count) (2 ^ 64 - 1) ≤ now → count ≡ 0
none_failed before now count old new few = omega (arith, old, new, few)

module _ {D : Type 0} (d : Disks D) (steady : (x : D) → d.faults x ≡ 0) where
  pub ends : {C : Type 0} (k : Clocks C) → EndsWithoutDiskFault d k
  ends k words limit before after status run is =
      unmoved (d.faults before.disk) (d.faults after.disk) (steady before.disk) (steady after.disk) (run.disk_fault is)

  pub says : {C : Type 0} (k : Clocks C) → SaysNoDiskFault d k
  says k before after limit status run =
      none_failed (d.faults before.disk) (d.faults after.disk) _ (steady before.disk) (steady after.disk) run.faults

  pub serves : (gives : ℤ → Type 0) → ServesNoDiskFault d gives
  serves gives serving disk next port port' old new status run =
      none_failed _ _ _ (steady _) (steady _) run.served.since.counted

module _ {D C : Type 0} (d : Disks D) (k : Clocks C) where
  pub reads_well : (before now : ℕ) → before ≡ 0 → now ≡ 0 → EndsWithoutReadFault d k before now
  reads_well reads reads' old new words limit before after status first last run is =
      unmoved before.input.faults after.input.faults (first ∙ old) (last ∙ new) (run.read_fault is)

  pub writes_well : (before now : ℕ) → before ≡ 0 → now ≡ 0 → EndsWithoutWriteFault d k before now
  writes_well writes writes' old new words limit before after status first last run is =
      unmoved before.output.faults after.output.faults (first ∙ old) (last ∙ new) (run.write_fault is)
