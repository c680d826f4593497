-- How a run of `serve` ends.
use Rattle.std.proofs.Common.{ℕ, ℤ, ◌≡◌, ◌≢◌, ◌⊎◌, inl, inr, IsSome, List, [], Option, None, Some, length, refl, sym, ◌∙◌, subst, arith}
use Rattle.std.specs.Prelude.{MatchOption}
use Rattle.byte_streams.specs.Flows.{Outflow}
use Rattle.desk_links.specs.Links.{PortState}
use Rattle.desk_traits.specs.Faults.{Rose}
use Rattle.desk_traits.specs.declared.disk.Disk.{Ghosts as Disks}
use Rattle.office_journal.specs.Kept as kept
use Rattle.program_ends.specs.Ends.{Telling, TellsText, own_status, status_of}
use Rattle.program_ends.specs.declared.ends.End.{End}
use Rattle.program_ends.specs.declared.ends.End.TheVariants.{Usage, SettingsRefused, AlreadyKept, NoJournal, Damaged, ReadFault, WriteFault, DiskFault, PortFault, ClockOut, OutOfMemory, InputTooLong, JournalFull}
use Rattle.desk_commands.specs.Opening.{IsUnopenedRun, IsWhy}
use Rattle.desk_program.specs.Runs.{IsEndOfItsOwn}
use Rattle.warn_serve.specs.Served.{EndsAs, visits_of}
use Rattle.warn_serve.specs.declared.serving.ServeEnd.{ServeEnd}
use Rattle.warn_serve.specs.declared.serving.ServeEnd.TheVariants as serve
use Rattle.serve_command.specs.Serving.{IsServeRun, Serves, WritesServed, summary}
use Rattle.serve_command.specs.declared.words.Serving.{Serving}

module _ {A : Type 0} where
  -- what is said of the value that is there, or of none
  pub present : (o : Option A) (x : A) (N : Type 0) (P : A → Type 0) → o ≡ Some x → P x → MatchOption o N P
  present o x N P is holds = subst (λ (q : Option A). MatchOption q N P) (sym is) holds

  pub absent : (o : Option A) (N : Type 0) (P : A → Type 0) → o ≡ None → N → MatchOption o N P
  absent o N P is holds = subst (λ (q : Option A). MatchOption q N P) (sym is) holds

  no_value : (o : Option A) → o ≡ None → IsSome o → ⊥
  no_value None is some = absurd (cc)
  no_value (Some x) is some = absurd (cc)

  -- a command that is not the other is this one
  pub given : {S : Type 0} (o : Option A) → o ≡ None → S ⊎ IsSome o → S
  given o is (inl some) = some
  given o is (inr some) = absurd (no_value o is some)

-- each status has its cause: a fault of the output, of the disk or of the port
pub record HasCauses (disk_failed port_failed : Type 0) (old new : Outflow) (status : ℕ) : Type 0 where
  pub unread : status ≢ 7
  pub write : status ≡ 8 → Rose old.faults new.faults
  pub disk : status ≡ 9 → disk_failed
  pub port : status ≡ 10 → port_failed
  pub own : (Rose old.faults new.faults → ⊥) → (disk_failed → ⊥) → (port_failed → ⊥) → IsEndOfItsOwn status

module _ (disk_failed port_failed : Type 0) where
  -- the same of the status that an end has
  record MayEnd (n : ℕ) : Type 0 where
    unread : n ≢ 7
    disk : n ≡ 9 → disk_failed
    port : n ≡ 10 → port_failed
    own : n ≢ 8 → (disk_failed → ⊥) → (port_failed → ⊥) → IsEndOfItsOwn n

  another : (n : ℕ) → n ≢ 7 → n ≢ 9 → n ≢ 10 → (n ≢ 8 → IsEndOfItsOwn n) → MayEnd n
  another n seven nine ten own = record { unread = seven; disk = λ e. absurd (nine e); port = λ e. absurd (ten e); own = λ eight disk port. own eight }

  well : MayEnd 0
  well = another 0 (λ e. omega (arith, e)) (λ e. omega (arith, e)) (λ e. omega (arith, e)) (λ eight. inl refl)

  cut_off : MayEnd 8
  cut_off = another 8 (λ e. omega (arith, e)) (λ e. omega (arith, e)) (λ e. omega (arith, e)) (λ eight. absurd (eight refl))

  lacking : MayEnd 12
  lacking = another 12 (λ e. omega (arith, e)) (λ e. omega (arith, e)) (λ e. omega (arith, e)) (λ eight. inr (inr (omega arith, omega arith)))

  no_journal : MayEnd 5
  no_journal = another 5 (λ e. omega (arith, e)) (λ e. omega (arith, e)) (λ e. omega (arith, e)) (λ eight. inr (inl (omega arith, omega arith)))

  damaged : MayEnd 6
  damaged = another 6 (λ e. omega (arith, e)) (λ e. omega (arith, e)) (λ e. omega (arith, e)) (λ eight. inr (inl (omega arith, omega arith)))

  of_disk : disk_failed → MayEnd 9
  of_disk failed = record { unread = λ e. omega (arith, e); disk = λ e. failed; port = λ e. absurd (omega (arith, e)); own = λ eight disk port. absurd (disk failed) }

  of_port : port_failed → MayEnd 10
  of_port failed = record { unread = λ e. omega (arith, e); disk = λ e. absurd (omega (arith, e)); port = λ e. failed; own = λ eight disk port. absurd (port failed) }

  module _ (old new : Outflow) (status : ℕ) where
    told : (defined : List ℕ) (end : Option End) → MayEnd (own_status end) → Telling defined old new end status → HasCauses disk_failed port_failed old new status
    told defined end may telling =
        let same : status ≢ 8 → status ≡ own_status end = λ other. (telling.told.others other).0 in
        let cut : status ≡ 8 → Rose old.faults new.faults = λ eight. (telling.told.cut eight).0 in
        record {
          unread = λ seven. may.unread (sym (same (λ eight. omega (arith, seven, eight))) ∙ seven);
          write = cut;
          disk = λ nine. may.disk (sym (same (λ eight. omega (arith, nine, eight))) ∙ nine);
          port = λ ten. may.port (sym (same (λ eight. omega (arith, ten, eight))) ∙ ten);
          own = λ written disk port.
              let other : status ≢ 8 = λ eight. written (cut eight) in
              subst IsEndOfItsOwn (sym (same other)) (may.own (λ eight. other (same other ∙ eight)) disk port);
        }

    told_well : (line : List ℕ) → TellsText line old new status → HasCauses disk_failed port_failed old new status
    told_well line t = elim t.1 [
      | inl is ↦ told line t.0 (subst (λ (e : Option End). MayEnd (own_status e)) (sym is) well) t.2
      | inr is ↦ told line t.0 (subst (λ (e : Option End). MayEnd (own_status e)) (sym is) cut_off) t.2
    ]

    -- what is told of the service
    told_served : (end : ServeEnd) (line : List ℕ) → (end ≡ serve.PortFault → port_failed) → WritesServed end line old new status → HasCauses disk_failed port_failed old new status
    told_served serve.Done line cause (inl tells) = told_well line tells
    told_served serve.Done line cause (inr telling) = told [] (Some OutOfMemory) lacking telling
    told_served serve.PortFault line cause telling = told [] (Some PortFault) (of_port (cause refl)) telling
    told_served serve.OutOfMemory line cause telling = told [] (Some OutOfMemory) lacking telling

module _ {D : Type 0} (d : Disks D) (disk next : D) (port_failed : Type 0) where
  abbrev DiskFailed : Type 0
  DiskFailed = Rose (d.faults disk) (d.faults next)

  why_ends : (end : End) → IsWhy d disk next end → MayEnd DiskFailed port_failed (status_of end)
  why_ends NoJournal why = no_journal DiskFailed port_failed
  why_ends (Damaged at) why = damaged DiskFailed port_failed
  why_ends DiskFault why = of_disk DiskFailed port_failed why
  why_ends OutOfMemory why = lacking DiskFailed port_failed
  why_ends Usage why = absurd why
  why_ends (SettingsRefused what) why = absurd why
  why_ends AlreadyKept why = absurd why
  why_ends ReadFault why = absurd why
  why_ends WriteFault why = absurd why
  why_ends PortFault why = absurd why
  why_ends ClockOut why = absurd why
  why_ends InputTooLong why = absurd why
  why_ends JournalFull why = absurd why

  module _ (old new : Outflow) (status : ℕ) where
    unopened : IsUnopenedRun d disk next old new status → HasCauses DiskFailed port_failed old new status
    unopened run = told DiskFailed port_failed old new status [] (Some run.end) (why_ends run.end run.unopened.why) run.telling

module _ {D : Type 0} (d : Disks D) (gives : ℤ → Type 0) (serving : Serving) (disk next : D) (port port' : PortState) (old new : Outflow) (status : ℕ) where
  abbrev PortFailed : Type 0
  PortFailed = Rose port.faults port'.faults

  ran : IsServeRun d gives serving disk next port port' old new status → HasCauses (Rose (d.faults disk) (d.faults next)) PortFailed old new status
  ran run = told_served (Rose (d.faults disk) (d.faults next)) PortFailed old new status run.end (summary (kept.entries_of run.closed) (length (kept.state_of run.closed).products))
      (λ same. (subst (λ (e : ServeEnd). EndsAs port port' serving.connections (visits_of run.served.parts) e) same run.served.ends).1) run.told

  pub ends : Serves d gives serving disk next port port' old new status → HasCauses (Rose (d.faults disk) (d.faults next)) PortFailed old new status
  ends (inl run) = unopened d disk next PortFailed old new status run.0
  ends (inr run) = ran run
