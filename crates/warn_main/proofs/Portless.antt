-- No command but `serve` tells a fault of a port.
use Rattle.std.proofs.Common.{ℕ, ℤ, ◌≡◌, ◌≢◌, inl, inr, List, [], Option, None, Some, nat_abs, refl, sym, ◌∙◌, ap, subst, arith, codes}
use Rattle.std.specs.Prelude.{MatchOption}
use Rattle.board_text.specs.Rows.{board_text}
use Rattle.byte_streams.specs.Flows.{Outflow, Streams}
use Rattle.desk_traits.specs.declared.clocks.Clock.{Ghosts as Clocks}
use Rattle.desk_traits.specs.declared.disk.Disk.{Ghosts as Disks}
use Rattle.event_life.specs.Shown.{shown_at}
use Rattle.office_core.specs.Agreement.{texts_of}
use Rattle.office_core.specs.State.{State}
use Rattle.office_journal.specs.Kept.{state_of}
use Rattle.office_journal.specs.declared.kept.KeptOffice.{KeptOffice}
use Rattle.program_ends.specs.Ends.{Telling, TellsText, own_status, status_of}
use Rattle.program_ends.specs.Runs.{IsLinesRun}
use Rattle.program_ends.specs.declared.ends.End.{End}
use Rattle.program_ends.specs.declared.ends.End.TheVariants.{Usage, SettingsRefused, AlreadyKept, NoJournal, Damaged, ReadFault, WriteFault, DiskFault, PortFault, ClockOut, OutOfMemory, InputTooLong, JournalFull}
use Rattle.desk_commands.specs.Commands.{AreTold, IsInitRun, IsWhyUnmade, WritesBoard, UpgradeOutcome, joined}
use Rattle.desk_commands.specs.Opening.{IsUnopenedRun, IsWhy}
use Rattle.desk_drill.specs.Runs.{IsDrillRun}
use Rattle.desk_program.specs.Commands.{IsNoCommand, IsUnopened, SameClock, SameDisk}
use Rattle.desk_program.specs.Runs.{Does, DoesAsAsked}
use Rattle.desk_program.specs.Worlds.{World, streams_of}
use Rattle.desk_program.specs.Words.{command_of}
use Rattle.desk_program.specs.declared.words.Command.{Command}
use Rattle.desk_program.specs.declared.words.Command.TheVariants as command

-- the port's fault alone has this status
ports : (end : End) → status_of end ≡ 10 → end ≡ PortFault
ports PortFault ten = refl
ports Usage ten = absurd (omega (arith, ten))
ports (SettingsRefused what) ten = absurd (omega (arith, ten))
ports AlreadyKept ten = absurd (omega (arith, ten))
ports NoJournal ten = absurd (omega (arith, ten))
ports (Damaged at) ten = absurd (omega (arith, ten))
ports ReadFault ten = absurd (omega (arith, ten))
ports WriteFault ten = absurd (omega (arith, ten))
ports DiskFault ten = absurd (omega (arith, ten))
ports ClockOut ten = absurd (omega (arith, ten))
ports OutOfMemory ten = absurd (omega (arith, ten))
ports InputTooLong ten = absurd (omega (arith, ten))
ports JournalFull ten = absurd (omega (arith, ten))

module _ (defined : List ℕ) (old new : Outflow) (status : ℕ) where
  -- the status is that of the end, or a write fault's
  told : (end : Option End) → Telling defined old new end status → own_status end ≢ 10 → status ≢ 10
  told end telling other ten = other (sym (telling.told.others (λ eight. omega (arith, eight, ten))).0 ∙ ten)

  told_as : (end one : Option End) → end ≡ one → own_status one ≢ 10 → Telling defined old new end status → status ≢ 10
  told_as end one is other telling = told end telling (λ ten. other (sym (ap own_status is) ∙ ten))

  told_none : (end : Option End) → end ≡ None → Telling defined old new end status → status ≢ 10
  told_none end is telling = told_as end None is (λ ten. omega (arith, ten)) telling

  told_cut : (end : Option End) → end ≡ Some WriteFault → Telling defined old new end status → status ≢ 10
  told_cut end is telling = told_as end (Some WriteFault) is (λ ten. omega (arith, ten)) telling

  told_lacking : (end : Option End) → end ≡ Some OutOfMemory → Telling defined old new end status → status ≢ 10
  told_lacking end is telling = told_as end (Some OutOfMemory) is (λ ten. omega (arith, ten)) telling

  told_well : TellsText defined old new status → status ≢ 10
  told_well t = elim t.1 [
    | inl is ↦ told_none t.0 is t.2
    | inr is ↦ told_cut t.0 is t.2
  ]

lined : {A : Type 0} (answers : A → Option (List ℕ) → List ℕ → A → Type 0) (lacks : A → Option (List ℕ) → A → Type 0) (limit : ℕ) (a z : A) (old new : Streams) (status : ℕ)
    → IsLinesRun answers lacks limit a z old new status → status ≢ 10
lined answers lacks limit a z old new status run = elim run.run.reasons [
  | inl is ↦ told_none run.told old.output new.output status run.end is run.telling
  | inr (inl is) ↦ told_as run.told old.output new.output status run.end (Some ReadFault) is (λ ten. omega (arith, ten)) run.telling
  | inr (inr (inl is)) ↦ told_cut run.told old.output new.output status run.end is run.telling
  | inr (inr (inr (inl is))) ↦ told_as run.told old.output new.output status run.end (Some InputTooLong) is (λ ten. omega (arith, ten)) run.telling
  | inr (inr (inr (inr is))) ↦ told_lacking run.told old.output new.output status run.end is run.telling
]

exported : (texts : List (List ℕ)) (old new : Outflow) (status : ℕ) → AreTold texts old new status → status ≢ 10
exported texts old new status run = elim run.reasons [
  | inl is ↦ told_none (joined run.first) old new status run.end is.0 run.telling
  | inr (inl is) ↦ told_cut (joined run.first) old new status run.end is run.telling
  | inr (inr is) ↦ told_lacking (joined run.first) old new status run.end is run.telling
]

drilled : (number count : ℕ) (old new : Outflow) (status : ℕ) → IsDrillRun number count old new status → status ≢ 10
drilled number count old new status (inl run) = told_well run.0 old new status run.2
drilled number count old new status (inr telling) = told_lacking [] old new status (Some OutOfMemory) refl telling

board_told : (s : State) (at : ℤ) (old new : Outflow) (status : ℕ) → WritesBoard s at old new status → status ≢ 10
board_told s at old new status (inl run) = told_well (board_text (shown_at (nat_abs at) s.rows)) old new status run.1
board_told s at old new status (inr (inl run)) = told_as [] old new status (Some ClockOut) (Some ClockOut) refl (λ ten. omega (arith, ten)) run.1
board_told s at old new status (inr (inr telling)) = told_lacking [] old new status (Some OutOfMemory) refl telling

module _ {D : Type 0} (d : Disks D) where
  unopened : (disk next : D) (old new : Outflow) (status : ℕ) → IsUnopenedRun d disk next old new status → status ≢ 10
  unopened disk next old new status run =
      told [] old new status (Some run.end) run.telling (λ ten. subst (λ (e : End). IsWhy d disk next e) (ports run.end ten) run.unopened.why)

  made : (disk next : D) (old new : Streams) (status : ℕ) → IsInitRun d disk next old new status → status ≢ 10
  made disk next old new status run = elim run.outcome [
    | inl whole ↦ elim whole.2 [
      | inl well ↦ told_well (codes "ready\n") old.output new.output status well.2
      | inr why ↦ told [] old.output new.output status (Some why.0) why.2 (λ ten. subst (λ (e : End). IsWhyUnmade d disk next run.read e) (ports why.0 ten) why.1)
    ]
    | inr cut ↦ elim cut.1 [
      | inl lacking ↦ told_lacking [] old.output new.output status (Some OutOfMemory) refl lacking.1
      | inr failed ↦ told_as [] old.output new.output status (Some ReadFault) (Some ReadFault) refl (λ ten. omega (arith, ten)) failed.1
    ]
  ]

  upgraded : (next : D) (opened after : KeptOffice D d) (old new : Outflow) (status : ℕ) → UpgradeOutcome d next opened after old new status → status ≢ 10
  upgraded next opened after old new status (inl run) = told_well (codes "edition 2\n") old new status run.2
  upgraded next opened after old new status (inr (inl run)) = told_as [] old new status (Some JournalFull) (Some JournalFull) refl (λ ten. omega (arith, ten)) run.4
  upgraded next opened after old new status (inr (inr (inl run))) = told_as [] old new status (Some DiskFault) (Some DiskFault) refl (λ ten. omega (arith, ten)) run.3
  upgraded next opened after old new status (inr (inr (inr run))) = told_lacking [] old new status (Some OutOfMemory) refl run.2

  module _ {C : Type 0} (k : Clocks C) (limit : ℕ) (before after : World D C) (status : ℕ) where
    unopened_run : IsUnopened d before after status → status ≢ 10
    unopened_run run = unopened before.disk after.disk before.output after.output status run

    done : (command : Command) → Does d k limit before after status command → status ≢ 10
    done command.Init does = made before.disk after.disk (streams_of before) (streams_of after) status does.0
    done command.Script (inl does) = unopened_run does.1
    done command.Script (inr run) = lined _ _ limit _ _ (streams_of before) (streams_of after) status run.run
    done command.Export does = elim does.2 [
      | inl run ↦ unopened_run run
      | inr run ↦ exported (texts_of (state_of run.opened)) before.output after.output status run.told
    ]
    done command.Upgrade does = elim does.2 [
      | inl run ↦ unopened_run run
      | inr run ↦ upgraded after.disk run.opened run.after before.output after.output status run.outcome
    ]
    done (command.Board minute) does = elim does.1 [
      | inl run ↦ unopened_run run.0
      | inr run ↦ board_told (state_of run.opened) run.at before.output after.output status run.told
    ]
    done (command.Dry dry) does = lined _ _ limit _ _ (streams_of before) (streams_of after) status does.0.run
    done (command.Drill drill) does = drilled drill.number drill.count before.output after.output status does.1

    done_if : (asked : Option Command) → MatchOption asked (IsNoCommand before after status × SameDisk before after × SameClock before after) (Does d k limit before after status) → status ≢ 10
    done_if None does = told_as [] before.output after.output status (Some Usage) (Some Usage) refl (λ ten. omega (arith, ten)) does.0.telling
    done_if (Some command) does = done command does

    pub portless : (words : List (List ℕ)) → DoesAsAsked d k words limit before after status → status ≢ 10
    portless words does = done_if (command_of words) does.run
