-- What links, doors, dialers and ports show, and what is done to that.
use Rattle.std.specs.Prelude.{◌≡◌, ◌≤◌, ◌+◌, ◌-◌, ◌^◌, ℕ, List, [], ◌∷◌, ◌++◌, length, min, take, Option, None, Some, option_map, Result, Ok, Err, IfOk, OnOk, OnErr}
use Rattle.desk_traits.specs.Faults.{HasCause}
use Rattle.byte_streams.specs.Flows.{Adds, Gives, Inflow, Outflow}

-- a link: the bytes that came, those read and those left, where they are told, and both its sides
pub record LinkState : Type 0 where
  pub came : Option (List ℕ)
  pub input : Inflow
  pub output : Outflow

-- a link's count of faults: that of its reads and that of its writes together
abbrev pub faults_of : LinkState → ℕ
faults_of link = link.input.faults + link.output.faults

-- a read keeps the output, and what came
abbrev pub KeepsOutput : LinkState → LinkState → Type 0
KeepsOutput old new = (new.output ≡ old.output) × (new.came ≡ old.came)

-- writes keep the input, and what came
abbrev pub KeepsInput : LinkState → LinkState → Type 0
KeepsInput old new = (new.input ≡ old.input) × (new.came ≡ old.came)

-- what is left stands at the end of what came
abbrev pub EndsIn : Option (List ℕ) → Option (List ℕ) → Type 0
EndsIn None left = Unit {0}
EndsIn (Some came) left = (read rest : List ℕ) × (left ≡ Some rest) × (came ≡ read ++ rest)

-- one read of a link into a buffer
pub record ReadsLink {E : Type 0} (old new : LinkState) (result : Result ℕ E) (buffer : List ℕ) : Type 0 where
  pub bytes : Gives old.input.left new.input.left result buffer
  pub cause : HasCause old.input.faults new.input.faults result
  pub steady : OnOk result (new.input.faults ≡ old.input.faults)
  pub came : new.came ≡ old.came
  pub output : new.output ≡ old.output

-- where what is left is told, the bytes begin it
abbrev pub BeginsLeft : Option (List ℕ) → List ℕ → Type 0
BeginsLeft None bytes = Unit {0}
BeginsLeft (Some left) bytes = (rest : List ℕ) × (left ≡ bytes ++ rest)

-- a read for no more bytes than are held gives just these
abbrev pub HandsOut : {E : Type 0} → List ℕ → Result ℕ E → List ℕ → Type 0
HandsOut held (Ok n) buffer = length buffer ≤ length held → (n ≡ length buffer) × (buffer ≡ take n held)
HandsOut held (Err e) buffer = Unit {0}

-- a write of a whole text on a link, or of a front of it before a fault
pub record WritesLink {E : Type 0} (old new : LinkState) (result : Result (Unit {0}) E) (bytes : List ℕ) : Type 0 where
  pub ok : OnOk result (Adds old.output.taken new.output.taken bytes)
  pub part : (n : ℕ) × (n ≤ length bytes) × Adds old.output.taken new.output.taken (take n bytes)
  pub cause : HasCause old.output.faults new.output.faults result
  pub steady : OnOk result (new.output.faults ≡ old.output.faults)
  pub came : new.came ≡ old.came
  pub input : new.input ≡ old.input

-- where a list is told, it is empty
abbrev pub IsNone : {A : Type 0} → Option (List A) → Type 0
IsNone None = Unit {0}
IsNone (Some list) = list ≡ []

-- a link of which nothing was read, on which nothing was written, and which has not failed
pub record IsNew (link : LinkState) : Type 0 where
  pub unread : link.input.left ≡ link.came
  pub unwritten : IsNone link.output.taken
  pub no_read_fault : link.input.faults ≡ 0
  pub no_write_fault : link.output.faults ≡ 0

-- a door or a dialer: how many links it has given, how many were returned, these as they then stood,
-- in order, where it tells them, and its count of faults
pub record DoorState : Type 0 where
  pub given : ℕ
  pub returned : ℕ
  pub links : Option (List LinkState)
  pub faults : ℕ

-- a dialer shows what a door does
abbrev pub DialerState : Type 0
DialerState = DoorState

-- one more behind those before, where these are told
abbrev pub with_one : {A : Type 0} → Option (List A) → A → Option (List A)
with_one before one = option_map (λ list. list ++ one ∷ []) before

-- a link was given, or none came, by what such links show
pub record GivesLink {L E : Type 0} (shows : L → LinkState) (old new : DoorState) (result : Result L E) : Type 0 where
  pub fresh : IfOk result (λ link. IsNew (shows link))
  pub given : OnOk result (new.given ≡ old.given + 1)
  pub kept : OnErr result (new.given ≡ old.given)
  pub returned : new.returned ≡ old.returned
  pub links : new.links ≡ old.links
  pub cause : HasCause old.faults new.faults result
  pub steady : OnOk result (new.faults ≡ old.faults)

-- a door to which a link was returned
abbrev pub with_link : DoorState → LinkState → DoorState
with_link door link =
    record { given = door.given; returned = door.returned + 1; links = with_one door.links link; faults = door.faults }

-- a dialer to which a link was returned, whose count of faults it takes over
abbrev pub with_count : DialerState → LinkState → DialerState
with_count dialer link =
    record { given = dialer.given; returned = dialer.returned + 1; links = with_one dialer.links link; faults = min (dialer.faults + faults_of link) (2 ^ 64 - 1) }

-- a door that has given no link and taken none back, and has not failed
pub record IsUnused (door : DoorState) : Type 0 where
  pub none_given : door.given ≡ 0
  pub none_returned : door.returned ≡ 0
  pub no_fault : door.faults ≡ 0
  pub no_link : IsNone door.links

-- a port: how many links the doors had taken back that were returned, these links, door by door,
-- where it tells them, the numbers at which it has listened, in order, where it tells them, and its
-- count of faults
pub record PortState : Type 0 where
  pub returned : ℕ
  pub links : Option (List LinkState)
  pub numbers : Option (List ℕ)
  pub faults : ℕ

-- the links behind those before, where both are told
abbrev pub behind : {A : Type 0} → Option (List A) → Option (List A) → Option (List A)
behind None more = None
behind (Some links) None = None
behind (Some links) (Some more) = Some (links ++ more)

-- a port to which a door was returned, with its links and its count of faults
abbrev pub with_door : PortState → DoorState → PortState
with_door port door =
    record { returned = port.returned + door.returned; links = behind port.links door.links; numbers = port.numbers; faults = min (port.faults + door.faults) (2 ^ 64 - 1) }
