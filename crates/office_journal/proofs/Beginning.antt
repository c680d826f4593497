-- What stands in a file while the journal of an office is made.
use Rattle.std.proofs.Common.{◌≡◌, ◌≤◌, inl, inr, ⊎_elim, ℕ, Bool, true, false, List, [], ◌∷◌, length, None, Result, Ok, Err, refl, nat_lt, if◌then◌else◌}
use Rattle.std.proofs.lemmas.Bool.{ltb-false}
use Rattle.hazard_types.specs.declared.codes.Class.TheVariants.{O}
use Rattle.office_types.specs.declared.request.Edition.{Edition}
use Rattle.office_types.specs.declared.request.Edition.TheVariants.{One, Two}
use Rattle.desk_settings.specs.Reading.{settings_of}
use Rattle.desk_settings.specs.declared.fault.SettingsFault.{SettingsFault}
use Rattle.desk_settings.specs.declared.settings.Settings.{Settings}
use Rattle.journal_core.specs.Create.{IsMaking}
use Rattle.journal_core.specs.Image.{IsOneOf}
use Rattle.office_core.specs.Histories.{MayFollow}
use Rattle.office_core.specs.State.{first_state}
use Rattle.office_journal.specs.Bodies.{mark}
use Rattle.office_journal.specs.Histories.{IsHistory, empty}
use Rattle.office_journal.specs.Making.{IsMakingOf}

few : (b : Bool) (x : SettingsFault) (r : Result Settings SettingsFault) (s : Settings) → (if b then Err x else r) ≡ Ok s → b ≡ false
few true x r s e = absurd (cc)
few false x r s e = refl

-- settings have at most so many bytes
pub short : (bytes : List ℕ) (s : Settings) → settings_of bytes ≡ Ok s → length bytes ≤ 1048576
unfolding settings_of
short bytes s e = ltb-false 1048576 (length bytes) (few (nat_lt 1048576 (length bytes)) _ _ s e)

follows_one : (e : Edition) → MayFollow One e
follows_one One = tt
follows_one Two = tt

module _ (file : List ℕ) (settings : Settings) (read : settings_of file ≡ Ok settings) where
  -- the history without an entry
  pub no_entry : (edition : Edition) → IsHistory file (empty edition) (first_state settings O edition)
  no_entry edition = record { settings = settings; read = read; last = first_state settings O One; legal = refl; edition = follows_one edition; state = refl }

  pub while_made : (c : List ℕ) → IsMaking file c → IsMakingOf file c
  while_made c making =
      ⊎_elim (λ fresh. inl fresh) (⊎_elim (λ image. inr (inl (record { state = first_state settings O One; history = no_entry One; image = image }))) (λ unopened. inr (inr (inr unopened)))) making

  pub while_marked : (c : List ℕ) → IsOneOf (file ∷ []) None mark c → IsMakingOf file c
  while_marked c one =
      ⊎_elim (λ image. inr (inl (record { state = first_state settings O One; history = no_entry One; image = image }))) (λ image. inr (inr (inl (record { state = first_state settings O Two; history = no_entry Two; image = image })))) one
