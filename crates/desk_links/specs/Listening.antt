-- What a port does where doors are asked of it.
use Rattle.std.specs.Prelude.{◌≡◌, ◌≤◌, ℕ, All, List, length, Result, Ok, Err, IfOk, OnOk, OnErr}
use Rattle.desk_traits.specs.Faults.{Rose}
use Rattle.desk_links.specs.Links.{DoorState, IsUnused, PortState, with_one}
use Rattle.hazard_types.specs.declared.or.Or.{Or}
use Rattle.hazard_types.specs.declared.or.Or.TheVariants.{No, OutOfMemory}

-- The count of faults rose where the port failed. It is as before where doors were given, and where
-- memory ran out: a port that can't be had is not told as that.
abbrev pub RoseWithFailure : {T E : Type 0} → ℕ → ℕ → Result T (Or E) → Type 0
RoseWithFailure before now (Ok doors) = now ≡ before
RoseWithFailure before now (Err (No failed)) = Rose before now
RoseWithFailure before now (Err OutOfMemory) = now ≡ before

-- So many doors were given at this number, none of which was used, by what such doors show; or none
-- was, and the port failed or memory ran out.
pub record Listens {Door E : Type 0} (shows : Door → DoorState) (old new : PortState)
    (port doors : ℕ) (result : Result (List Door) (Or E)) : Type 0 where
  pub count : IfOk result (λ list. length list ≡ doors)
  pub unused : IfOk result (λ list. All (λ door. IsUnused (shows door)) list)
  pub later : old.faults ≤ new.faults
  pub counted : RoseWithFailure old.faults new.faults result
  pub returned : new.returned ≡ old.returned
  pub links : new.links ≡ old.links
  pub numbers : OnOk result (new.numbers ≡ with_one old.numbers port)
  pub kept : OnErr result (new.numbers ≡ old.numbers)
