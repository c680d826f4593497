-- What links, doors and ports in memory hold.
use Rattle.std.proofs.Common.{◌≡◌, ◌⊎◌, ◌↔◌, ◌+◌, ◌-◌, ◌^◌, ℕ, zero, suc, List, [], ◌∷◌, ◌++◌, length, map, min, take, drop, Bool, Some, Result, IfOk, OnErr, IsErr, false, refl, sym, ◌∙◌, ap, take-append-drop}
use Rattle.std.specs.Prelude.{Contains}
use Rattle.desk_traits.specs.Faults.{next_count}
use Rattle.byte_streams.specs.Flows.{Inflow, Outflow, inflow, outflow}
use Rattle.desk_links.specs.Links.{BeginsLeft, DoorState, EndsIn, IsNew, IsUnused, KeepsInput, KeepsOutput, LinkState, PortState}

-- a link in memory: the bytes read and those left, the bytes written, the most that it gives at once, the calls that fail, how many were made, how many reads and how many writes failed, and whether memory has lacked for a write
pub record LinkInMemory : Type 0 where
  pub read : List ℕ
  pub left : List ℕ
  pub written : List ℕ
  pub piece : ℕ
  pub failing : List ℕ
  pub calls : ℕ
  pub read_faults : ℕ
  pub write_faults : ℕ
  pub lacked : Bool

-- a link that was not used
abbrev pub link_with : List ℕ → ℕ → List ℕ → LinkInMemory
link_with bytes piece failing = record {
  read = [];
  left = bytes;
  written = [];
  piece = piece;
  failing = failing;
  calls = 0;
  read_faults = 0;
  write_faults = 0;
  lacked = false;
}

-- a link of which one read more was made, and failed
abbrev pub with_failed_read : LinkInMemory → LinkInMemory
with_failed_read l = record {
  read = l.read;
  left = l.left;
  written = l.written;
  piece = l.piece;
  failing = l.failing;
  calls = next_count l.calls;
  read_faults = next_count l.read_faults;
  write_faults = l.write_faults;
  lacked = l.lacked;
}

-- what it shows as a source and as a sink
abbrev pub link_input : LinkInMemory → Inflow
link_input l = inflow (Some l.left) l.read_faults

abbrev pub link_output : LinkInMemory → Outflow
link_output l = outflow (Some l.written) l.write_faults

-- what it shows
abbrev pub link_state : LinkInMemory → LinkState
link_state l =
    record { came = Some (l.read ++ l.left); input = link_input l; output = link_output l }

-- nothing was read of it or written on it, and it has not failed
abbrev pub IsUntouched : LinkInMemory → Type 0
IsUntouched l = IsNew (link_state l)

-- a door or a dialer in memory: the links that it has still to give, those returned to it, the calls
-- that fail, how many were made, how many failed, and how many links it gave
pub record DoorInMemory : Type 0 where
  pub waiting : List LinkInMemory
  pub back : List LinkInMemory
  pub failing : List ℕ
  pub calls : ℕ
  pub faults : ℕ
  pub given : ℕ

-- a door that was not used
abbrev pub door_with : List LinkInMemory → List ℕ → DoorInMemory
door_with links failing = record { waiting = links; back = []; failing = failing; calls = 0; faults = 0; given = 0 }

-- a door to which a link was returned
abbrev pub with_back : DoorInMemory → LinkInMemory → DoorInMemory
with_back d link =
    record { waiting = d.waiting; back = d.back ++ link ∷ []; failing = d.failing; calls = d.calls; faults = d.faults; given = d.given }

-- a dialer that has failed so often more
abbrev pub with_faults : DoorInMemory → ℕ → DoorInMemory
with_faults d count =
    record { waiting = d.waiting; back = d.back; failing = d.failing; calls = d.calls; faults = min (d.faults + count) (2 ^ 64 - 1); given = d.given }

-- the first of the lists, or none
abbrev pub first_list : List (List ℕ) → List ℕ
first_list [] = []
first_list (first ∷ more) = first

-- a door for each list of links, with the failing accepts of the same place, or none
abbrev pub doors_with : List (List LinkInMemory) → List (List ℕ) → List DoorInMemory
doors_with [] failing = []
doors_with (links ∷ more) failing = door_with links (first_list failing) ∷ doors_with more (drop 1 failing)

-- what it shows
abbrev pub door_state : DoorInMemory → DoorState
door_state d =
    record { given = d.given; returned = length d.back; links = Some (map link_state d.back); faults = d.faults }

-- a door that has given no link and taken none back, and has not failed
abbrev pub IsIdle : DoorInMemory → Type 0
IsIdle d = IsUnused (door_state d)

-- a call that is to fail: its number is among the failing ones, or no link waits
abbrev pub LendFails : DoorInMemory → Type 0
LendFails d = Contains d.failing (next_count d.calls) ⊎ (d.waiting ≡ [])

-- One call for a link. It fails at exactly the calls that it was told and where no link is left, and
-- gives the first of those left at the others.
pub record Lends {E : Type 0} (old new : DoorInMemory) (result : Result LinkInMemory E) : Type 0 where
  pub failing : IsErr result ↔ LendFails old
  pub first : IfOk result (λ link. old.waiting ≡ link ∷ new.waiting)
  pub stay : OnErr result (new.waiting ≡ old.waiting)
  pub back : new.back ≡ old.back
  pub counted : OnErr result (new.faults ≡ next_count old.faults)
  pub called : new.calls ≡ next_count old.calls
  pub same : new.failing ≡ old.failing

-- a port in memory: the doors that it has still to give, the links taken back, door by door, the numbers at which it has listened, and how often its doors failed
pub record PortInMemory : Type 0 where
  pub doors : List DoorInMemory
  pub back : List (List LinkInMemory)
  pub numbers : List ℕ
  pub faults : ℕ

-- a port that was not used
abbrev pub port_with : List DoorInMemory → PortInMemory
port_with doors = record { doors = doors; back = []; numbers = []; faults = 0 }

-- the links of all doors, one after another
abbrev pub all_links : List (List LinkInMemory) → List LinkInMemory
all_links [] = []
all_links (links ∷ more) = links ++ all_links more

-- what it shows
abbrev pub port_state : PortInMemory → PortState
port_state p =
    record { returned = length (all_links p.back); links = Some (map link_state (all_links p.back)); numbers = Some p.numbers; faults = p.faults }

-- the first of the doors, or one without links
abbrev pub first_door : List DoorInMemory → DoorInMemory
first_door [] = door_with [] []
first_door (door ∷ doors) = door

-- the doors that a port gives, so many: its own, and then doors without links
abbrev pub dealt : ℕ → List DoorInMemory → List DoorInMemory
dealt zero doors = []
dealt (suc n) doors = first_door doors ∷ dealt n (drop 1 doors)

-- a read keeps what was written, the faults of the writes, and what came
pub record KeepsOut (old new : LinkInMemory) : Type 0 where
  pub written : new.written ≡ old.written
  pub faults : new.write_faults ≡ old.write_faults
  pub came : new.read ++ new.left ≡ old.read ++ old.left

-- writes keep what was read and what is left, and the faults of the reads
pub record KeepsIn (old new : LinkInMemory) : Type 0 where
  pub read : new.read ≡ old.read
  pub left : new.left ≡ old.left
  pub faults : new.read_faults ≡ old.read_faults

pub keeps_in_none : (l : LinkInMemory) → KeepsIn l l
keeps_in_none l = record { read = refl; left = refl; faults = refl }

pub keeps_in_more : (old mid new : LinkInMemory) → KeepsIn old mid → KeepsIn mid new → KeepsIn old new
keeps_in_more old mid new a b = record { read = b.read ∙ a.read; left = b.left ∙ a.left; faults = b.faults ∙ a.faults }

outflows : (taken taken' : List ℕ) (faults faults' : ℕ) → taken' ≡ taken → faults' ≡ faults → outflow (Some taken') faults' ≡ outflow (Some taken) faults
outflows taken taken' faults faults' a b = ap (λ (l : List ℕ). outflow (Some l) faults') a ∙ ap (outflow (Some taken)) b

inflows : (left left' : List ℕ) (faults faults' : ℕ) → left' ≡ left → faults' ≡ faults → inflow (Some left') faults' ≡ inflow (Some left) faults
inflows left left' faults faults' a b = ap (λ (l : List ℕ). inflow (Some l) faults') a ∙ ap (inflow (Some left)) b

pub keeps_output : (old new : LinkInMemory) → KeepsOut old new → KeepsOutput (link_state old) (link_state new)
keeps_output old new k = (outflows old.written new.written old.write_faults new.write_faults k.written k.faults, ap (λ (l : List ℕ). Some l) k.came)

pub keeps_input : (old new : LinkInMemory) → KeepsIn old new → KeepsInput (link_state old) (link_state new)
keeps_input old new k = (
  inflows old.left new.left old.read_faults new.read_faults k.left k.faults,
  ap (λ (l : List ℕ). Some l) (ap (λ (l : List ℕ). l ++ new.left) k.read ∙ ap (λ (l : List ℕ). old.read ++ l) k.left),
)

-- the bytes that its next read may give
abbrev pub next_piece : LinkInMemory → List ℕ
next_piece l = take l.piece l.left

pub begins_left : (l : LinkInMemory) → BeginsLeft (Some l.left) (next_piece l)
begins_left l = (drop l.piece l.left, sym (take-append-drop l.piece l.left))

pub ends_in : (l : LinkInMemory) → EndsIn (Some (l.read ++ l.left)) (Some l.left)
ends_in l = (l.read, l.left, refl, refl)
