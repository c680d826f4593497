-- How a journal is made, and why it is not.
use Rattle.std.proofs.Common.{ℕ, ◌≡◌, ◌≤◌, ◌⊎◌, if◌then◌else◌, ltb, Bool, true, false, inl, inr, List, length, Option, None, Some, Result, Ok, Err, refl, sym, ◌∙◌, subst, arith}
use Rattle.std.proofs.lemmas.Bool.{ltb-false}
use Rattle.desk_settings.specs.Reading.{settings_of}
use Rattle.desk_settings.specs.declared.fault.SettingsFault.{SettingsFault}
use Rattle.desk_settings.specs.declared.fault.SettingsFault.TheVariants.{TooLong}
use Rattle.desk_settings.specs.declared.settings.Settings.{Settings}
use Rattle.desk_traits.specs.Crash.{LeavesOnly}
use Rattle.desk_traits.specs.declared.disk.Disk.{Ghosts as Disks}
use Rattle.desk_traits.specs.Faults.{Rose}
use Rattle.desk_traits.specs.File.{Only}
use Rattle.byte_streams.specs.Flows.{IsAtEnd}
use Rattle.office_types.specs.declared.request.Edition.TheVariants.{Two}
use Rattle.journal_core.specs.Image.{Fresh}
use Rattle.office_journal.specs.Changes.{Change, Leaves}
use Rattle.office_journal.specs.Histories.{History, ImageOf, empty}
use Rattle.office_journal.specs.Kept.{Holds, disk_of}
use Rattle.office_journal.specs.Making.{IsMadeFor}
use Rattle.office_journal.specs.declared.faults.KeepFault.{KeepFault}
use Rattle.office_journal.specs.declared.faults.KeepFault.TheVariants as keep
use Rattle.office_journal.specs.declared.kept.KeptOffice.{KeptOffice}
use Rattle.program_ends.specs.declared.ends.End.{End}
use Rattle.desk_commands.specs.Commands.{IsLeft, IsMade, IsWhyUnmade}
use Rattle.desk_commands.specs.Unmade.{EndsAs}

not_long : (b : Bool) (r : Result Settings SettingsFault) (settings : Settings) → (if b then Err TooLong else r) ≡ Ok settings → b ≡ false
not_long true r settings e = cc
not_long false r settings e = refl

settings_short : (read : List ℕ) (settings : Settings) → settings_of read ≡ Ok settings → length read ≤ 1048576
unfolding settings_of
settings_short read settings e = ltb-false 1048576 (length read) (not_long (ltb 1048576 (length read)) _ settings e)

-- what was read to the byte behind the last of settings is none
pub read_whole : (read : List ℕ) (left' : Option (List ℕ)) (settings : Settings) → settings_of read ≡ Ok settings → (length read ≡ 1048577) ⊎ IsAtEnd left' → IsAtEnd left'
read_whole read left' settings is (inl long) = absurd (omega (arith, long, settings_short read settings is))
read_whole read left' settings is (inr end) = end

-- a fault that leaves the file as it was
abbrev pub IsUndone : KeepFault → Type 0
IsUndone fault = ((f : SettingsFault) × (fault ≡ keep.Settings f)) ⊎ (fault ≡ keep.NotFresh) ⊎ (fault ≡ keep.OutOfMemory)

no_fault : (fault : KeepFault) → IsUndone fault → fault ≡ keep.DiskFault → ⊥
no_fault fault (inl (f, is)) e = absurd (let q = sym is ∙ e in cc)
no_fault fault (inr (inl is)) e = absurd (let q = sym is ∙ e in cc)
no_fault fault (inr (inr is)) e = absurd (let q = sym is ∙ e in cc)

image_alone : (file : List ℕ) (h : History) (c : List ℕ) → Leaves file h (λ (change : Change). None ≡ Some change) c → ImageOf c file h
image_alone file h c (inl image) = image
image_alone file h c (inr more) = let no : None ≡ Some more.0 = more.1 in absurd (cc)

module _ {D : Type 0} (d : Disks D) where
  pub made : ((x : D) (file : List ℕ) → d.seen x ≡ Some file → (d.crash x).may_leave file) → (disk : D) (kept : KeptOffice D d) (read : List ℕ)
      → ((file : List ℕ) (h : History) (pending : Option Change) (c : List ℕ) → Holds d.seen d.crash kept file h pending → (d.crash (disk_of kept)).may_leave c → Leaves file h (λ change. pending ≡ Some change) c)
      → ((bytes : List ℕ) → d.seen disk ≡ Some bytes → Fresh bytes)
      → ((bytes : List ℕ) → d.seen disk ≡ Some bytes → Holds d.seen d.crash kept read (empty Two) None × Only (d.seen (disk_of kept)) (d.crash (disk_of kept)).may_leave)
      → IsMadeFor read kept → IsMade d disk (disk_of kept) read
  made seen_is_left disk kept read law fresh holds for = record {
    settings = (for.settings, for.read);
    fresh = fresh;
    image = λ bytes seen.
        let held = (holds bytes seen).0 in
        let now = held.journal.file in
        (now, held.journal.told, image_alone read (empty Two) now (law read (empty Two) None now held (seen_is_left (disk_of kept) now held.journal.told)));
    only = λ bytes seen. (holds bytes seen).1;
  }

  left_by : (fault : KeepFault) (disk next : D) → IsUndone fault → (IsUndone fault → d.seen next ≡ d.seen disk) → (IsUndone fault → LeavesOnly (d.crash disk) (d.crash next) (d.crash disk).may_leave) → ((fault ≡ keep.DiskFault → ⊥) → d.faults next ≡ d.faults disk)
      → IsLeft d disk next
  left_by fault disk next undone same untouched steady = (same undone, untouched undone, steady (λ e. no_fault fault undone e))

  pub unmade : (disk next : D) (read : List ℕ) (fault : KeepFault) (end : End) → EndsAs fault end
      → ((f : SettingsFault) → fault ≡ keep.Settings f → settings_of read ≡ Err f)
      → ((bytes : List ℕ) (f : SettingsFault) → d.seen disk ≡ Some bytes → fault ≡ keep.Settings f → Fresh bytes)
      → ((bytes : List ℕ) → d.seen disk ≡ Some bytes → fault ≡ keep.NotFresh → Fresh bytes → ⊥)
      → (fault ≡ keep.DiskFault → Rose (d.faults disk) (d.faults next))
      → (IsUndone fault → d.seen next ≡ d.seen disk) → (IsUndone fault → LeavesOnly (d.crash disk) (d.crash next) (d.crash disk).may_leave)
      → ((fault ≡ keep.DiskFault → ⊥) → d.faults next ≡ d.faults disk)
      → IsWhyUnmade d disk next read end
  unmade disk next read (keep.Settings f) end (inl is) settings fresh not_fresh cause same untouched steady =
      subst (λ (e : End). IsWhyUnmade d disk next read e) (sym is) (f, settings f refl, refl, (λ bytes seen. fresh bytes f seen refl), (left_by (keep.Settings f) disk next (inl (f, refl)) same untouched steady))
  unmade disk next read (keep.Settings f) end (inr is) settings fresh not_fresh cause same untouched steady = subst (λ (e : End). IsWhyUnmade d disk next read e) (sym is) (left_by (keep.Settings f) disk next (inl (f, refl)) same untouched steady)
  unmade disk next read keep.NotFresh end is settings fresh not_fresh cause same untouched steady = subst (λ (e : End). IsWhyUnmade d disk next read e) (sym is) ((λ bytes seen. not_fresh bytes seen refl), (left_by keep.NotFresh disk next (inr (inl refl)) same untouched steady))
  unmade disk next read keep.Fresh end is settings fresh not_fresh cause same untouched steady = absurd is
  unmade disk next read (keep.Damaged at) end is settings fresh not_fresh cause same untouched steady = absurd is
  unmade disk next read keep.DiskFault end is settings fresh not_fresh cause same untouched steady = subst (λ (e : End). IsWhyUnmade d disk next read e) (sym is) (cause refl)
  unmade disk next read keep.OutOfMemory end is settings fresh not_fresh cause same untouched steady = subst (λ (e : End). IsWhyUnmade d disk next read e) (sym is) (left_by keep.OutOfMemory disk next (inr (inr refl)) same untouched steady)
