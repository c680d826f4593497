-- How a run's end is told.
use Rattle.std.proofs.Common.{ℕ, ◌≡◌, ◌≢◌, ◌≤◌, true, false, List, [], ◌++◌, take, drop, refl, ap, sym, ◌∙◌, subst, append_assoc, append-nil, Option, None, Some, Result, Ok, Err, OnErr, OnOk, arith}
use Rattle.std.proofs.lemmas.List.{take-append-drop}
use Rattle.desk_traits.specs.Faults.{Rose}
use Rattle.byte_streams.specs.Flows.{Adds, Outflow}
use Rattle.byte_streams.proofs.Pieces.{adds_both}
use Rattle.program_ends.specs.declared.ends.End.{End}
use Rattle.program_ends.specs.declared.ends.End.TheVariants.{Usage, SettingsRefused, AlreadyKept, NoJournal, Damaged, ReadFault, WriteFault, DiskFault, PortFault, ClockOut, OutOfMemory, InputTooLong, JournalFull}
use Rattle.program_ends.specs.Ends.{status_of, is_write_fault, fault_line, write_fault_line, own_line, Begins, RoseTwice, HasWritten, Telling, AddsPrefix, IsTried}
use Rattle.program_ends.proofs.Answering.{adds_none}

-- another end than a write fault has a status and a line of its own
own : (end : End) → is_write_fault end ≡ false → (status_of end ≢ 8) × (own_line (Some end) ≡ fault_line end)
own Usage h = (λ e. omega (arith, e), refl)
own (SettingsRefused what) h = (λ e. omega (arith, e), refl)
own AlreadyKept h = (λ e. omega (arith, e), refl)
own NoJournal h = (λ e. omega (arith, e), refl)
own (Damaged at) h = (λ e. omega (arith, e), refl)
own ReadFault h = (λ e. omega (arith, e), refl)
own WriteFault h = absurd (cc)
own DiskFault h = (λ e. omega (arith, e), refl)
own PortFault h = (λ e. omega (arith, e), refl)
own ClockOut h = (λ e. omega (arith, e), refl)
own OutOfMemory h = (λ e. omega (arith, e), refl)
own InputTooLong h = (λ e. omega (arith, e), refl)
own JournalFull h = (λ e. omega (arith, e), refl)

is_one : (end : End) → is_write_fault end ≡ true → end ≡ WriteFault
is_one Usage h = absurd (cc)
is_one (SettingsRefused what) h = absurd (cc)
is_one AlreadyKept h = absurd (cc)
is_one NoJournal h = absurd (cc)
is_one (Damaged at) h = absurd (cc)
is_one ReadFault h = absurd (cc)
is_one WriteFault h = refl
is_one DiskFault h = absurd (cc)
is_one PortFault h = absurd (cc)
is_one ClockOut h = absurd (cc)
is_one OutOfMemory h = absurd (cc)
is_one InputTooLong h = absurd (cc)
is_one JournalFull h = absurd (cc)

is_none : (end : End) → is_write_fault end ≡ false → Some end ≢ Some WriteFault
is_none end h e =
    let same : end ≡ WriteFault = cc in
    let told : is_write_fault end ≡ true = subst (λ (x : End). is_write_fault x ≡ true) (sym same) refl in
    absurd (cc)

-- nothing was written before
pub has_nothing : (end : End) (output : Outflow) → is_write_fault end ≡ false → HasWritten [] [] output output (Some end)
has_nothing end output h = record { adds = adds_none output.taken; whole = λ _. (refl, refl); cut = λ e. absurd (is_none end h e) }

-- a text stands where no write failed
pub has_all : (text : List ℕ) (before after : Outflow) → Adds before.taken after.taken text → after.faults ≡ before.faults → HasWritten text text before after None
has_all text before after adds steady = record { adds = adds; whole = λ _. (steady, refl); cut = λ e. absurd (cc) }

-- a front of it stands before a write fault
pub has_cut : (text : List ℕ) (n : ℕ) (before after : Outflow) → Adds before.taken after.taken (take n text) → Rose before.faults after.faults → HasWritten text (take n text) before after (Some WriteFault)
has_cut text n before after adds rose = record { adds = adds; whole = λ no. absurd (no refl); cut = λ _. (rose, (drop n text, sym (take-append-drop n text))) }

pub begins_self : (text : List ℕ) → Begins text text
begins_self text = ([], sym (append-nil text))

twice : (before mid now : ℕ) → Rose before mid → Rose mid now → RoseTwice before now
twice before mid now first second = omega (arith, first, second)

rose_later : (before mid now : ℕ) → Rose before mid → mid ≤ now → Rose before now
rose_later before mid now first later = omega (arith, first, later)

module _ (begun mid : Outflow) (defined written : List ℕ) where
  pub told_well : HasWritten defined written begun mid None → Telling defined begun mid None 0
  told_well has =
      let same = has.whole (λ e. absurd (cc)) in
      record {
        written = written;
        adds = has.adds;
        told = record { others = λ _. (refl, same.0, same.1 ∙ sym (append-nil defined)); well = λ _. (refl, same.1); cut = λ e. absurd (omega (arith, e)) };
      }

  -- a run that a write fault ended, whose line was tried
  pub told_write_fault : (end : End) (new : Outflow) → is_write_fault end ≡ true → HasWritten defined written begun mid (Some end) → IsTried write_fault_line mid new → Telling defined begun new (Some end) 8
  told_write_fault end new is has tried =
      let same = is_one end is in
      let cut = has.cut (ap (λ (x : End). Some x) same) in
      let none : own_line (Some end) ≡ [] = subst (λ (x : End). own_line (Some x) ≡ []) (sym same) refl in
      record {
        written = written ++ tried.front;
        adds = adds_both _ _ _ _ _ _ has.adds tried.adds refl;
        told = record {
          others = λ no. absurd (no refl);
          well = λ e. absurd (cc);
          cut = λ _. (
            rose_later begun.faults mid.faults new.faults cut.0 tried.later,
            record {
              front = written;
              line = tried.front;
              some = (cut.1.0, rw none (append-nil defined ∙ cut.1.1));
              told = tried.begins;
              parts = refl;
              once = λ no. tried.whole (λ again. no (twice begun.faults mid.faults new.faults cut.0 again));
            },
          );
        };
      }

  -- a run whose line stands
  pub told_own : (end : End) (new : Outflow) → is_write_fault end ≡ false → HasWritten defined written begun mid (Some end) → Adds mid.taken new.taken (fault_line end) → new.faults ≡ mid.faults → Telling defined begun new (Some end) (status_of end)
  told_own end new is has line steady =
      let same = has.whole (is_none end is) in
      let mine = own end is in
      record {
        written = written ++ fault_line end;
        adds = adds_both _ _ _ _ _ _ has.adds line refl;
        told = record {
          others = λ _. (refl, steady ∙ same.0, ap (λ (t : List ℕ). t ++ fault_line end) same.1 ∙ ap (λ (t : List ℕ). defined ++ t) (sym mine.1));
          well = λ e. absurd (cc);
          cut = λ e. absurd (mine.0 e);
        };
      }

  -- a run whose line was cut by a write fault
  pub told_cut : (end : End) (half new : Outflow) → is_write_fault end ≡ false → HasWritten defined written begun mid (Some end) → AddsPrefix mid.taken half.taken (fault_line end) → Rose mid.faults half.faults
      → IsTried write_fault_line half new → Telling defined begun new (Some end) 8
  told_cut end half new is has some rose tried =
      let same = has.whole (is_none end is) in
      let mine = own end is in
      let first : Rose begun.faults half.faults = subst (λ (k : ℕ). Rose k half.faults) same.0 rose in
      let whole : defined ++ own_line (Some end) ≡ (written ++ some.front) ++ some.begins.0 =
      ap (λ (t : List ℕ). defined ++ t) (mine.1 ∙ some.begins.1) ∙ ap (λ (t : List ℕ). t ++ (some.front ++ some.begins.0)) (sym same.1) ∙ sym (append_assoc written some.front some.begins.0) in
      record {
        written = (written ++ some.front) ++ tried.front;
        adds = adds_both _ _ _ _ _ _ (adds_both _ _ _ _ _ _ has.adds some.adds refl) tried.adds refl;
        told = record {
          others = λ no. absurd (no refl);
          well = λ e. absurd (cc);
          cut = λ _. (
            rose_later begun.faults half.faults new.faults first tried.later,
            record {
              front = written ++ some.front;
              line = tried.front;
              some = (some.begins.0, whole);
              told = tried.begins;
              parts = refl;
              once = λ no. tried.whole (λ again. no (twice begun.faults half.faults new.faults first again));
            },
          );
        };
      }

pub on_err : {T E : Type 0} (r : Result T E) (P : Type 0) → P → OnErr r P
on_err (Ok x) P p = tt
on_err (Err e) P p = p

-- a text in two parts, of which the first stands
pub whole_both : {T E : Type 0} (r : Result T E) (taken mid taken' : Option (List ℕ)) (first second : List ℕ) → Adds taken mid first → OnOk r (Adds mid taken' second) → OnOk r (Adds taken taken' (first ++ second))
whole_both (Ok x) taken mid taken' first second a b = adds_both _ _ _ _ _ _ a b refl
whole_both (Err e) taken mid taken' first second a b = tt

-- fronts of a text in two parts
pub front_first : (taken taken' : Option (List ℕ)) (first second front rest : List ℕ) → Adds taken taken' front → first ≡ front ++ rest → AddsPrefix taken taken' (first ++ second)
front_first taken taken' first second front rest adds is =
    record { front = front; begins = (rest ++ second, ap (λ (t : List ℕ). t ++ second) is ∙ append_assoc front rest second); adds = adds }

pub front_second : (taken mid taken' : Option (List ℕ)) (first second front rest : List ℕ) → Adds taken mid first → Adds mid taken' front → second ≡ front ++ rest → AddsPrefix taken taken' (first ++ second)
front_second taken mid taken' first second front rest whole adds is =
    record { front = first ++ front; begins = (rest, ap (λ (t : List ℕ). first ++ t) is ∙ sym (append_assoc first front rest)); adds = adds_both _ _ _ _ _ _ whole adds refl }
