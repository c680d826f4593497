-- What the parts of a reading say of the bytes that were read.
use Rattle.std.specs.Prelude.{◌≡◌, ◌≤◌, ◌<◌, ◌⊎◌, ◌++◌, ◌+◌, ◌-◌, ℕ, true, List, [], length, take, Option, None, Some, Result, Ok, Err, IsErrOf}
use Rattle.desk_traits.specs.Faults.{Rose}
use Rattle.byte_streams.specs.Flows.{Takes}
use Rattle.httparse.specs.Grammar.{ResponseHead, print_response, ReadsResponse, HasNoResponse, NeverHasResponse, MayBecomeResponse, status_code}
use Rattle.http_heads.specs.Fields.{has_close}
use Rattle.follow_links.specs.Answers.{fields_of, length_in, is_known, IsBadlyHeaded, HasBadHead, IsFront, IsAnswer}
use Rattle.follow_links.specs.declared.answers.Head.{Head}
use Rattle.follow_links.specs.declared.answers.Head.TheVariants.{More, Bad, Whole}
use Rattle.follow_links.specs.declared.answers.Shape.{Shape}
use Rattle.follow_links.specs.declared.reading.Miss.{Miss}
use Rattle.follow_links.specs.declared.reading.Miss.TheVariants as miss

-- the head has this shape
pub record HasShape (h : ResponseHead) (s : Shape) : Type 0 where
  pub from : s.from ≡ length (print_response h)
  pub body : length_in (fields_of h) ≡ Some s.body
  pub status : status_code h ≡ s.status
  pub known : is_known s.status ≡ true
  pub closes_is : has_close (fields_of h) ≡ s.closes

-- the cause of an answer to the head at the front of the bytes
abbrev pub Says : List ℕ → Head → Type 0
Says bytes More = HasNoResponse bytes × MayBecomeResponse bytes
Says bytes Bad = NeverHasResponse bytes ⊎ ((h : ResponseHead) × (rest : List ℕ) × ReadsResponse bytes h rest × IsBadlyHeaded h)
Says bytes (Whole shape) = (h : ResponseHead) × (rest : List ℕ) × ReadsResponse bytes h rest × HasShape h shape

-- the bytes are a head of this shape, which is short, and what has come of its body
pub record IsBegun (bytes : List ℕ) (s : Shape) : Type 0 where
  pub head : ResponseHead
  pub body : List ℕ
  pub reads : ReadsResponse bytes head body
  pub short : length (print_response head) ≤ 8192
  pub shape : HasShape head s

-- bytes were taken of what is left, and these are in front of the others
pub record Gains (left left' : Option (List ℕ)) (old new : List ℕ) (most : ℕ) : Type 0 where
  pub piece : List ℕ
  pub takes : Takes left left' piece
  pub behind : new ≡ old ++ piece
  pub some : 1 ≤ length piece
  pub few : length piece ≤ most

-- some bytes were taken
abbrev pub TakesSome : Option (List ℕ) → Option (List ℕ) → Type 0
TakesSome left left' = (read : List ℕ) × Takes left left' read

-- what was read more, by its result
abbrev pub ReadsMore : Option (List ℕ) → Option (List ℕ) → List ℕ → List ℕ → ℕ → Result (Unit {0}) Miss → Type 0
ReadsMore left left' old new most (Ok u) = Gains left left' old new most
ReadsMore left left' old new most (Err miss.Failed) = (left' ≡ left) × (new ≡ old)
ReadsMore left left' old new most (Err miss.Bad) = ⊥
ReadsMore left left' old new most (Err miss.OutOfMemory) = TakesSome left left'

-- the reads' count rose where the link failed, and is as before where it did not
pub record IsCause {T : Type 0} (before now : ℕ) (result : Result T Miss) : Type 0 where
  pub rose : IsErrOf result miss.Failed → Rose before now
  pub steady : (IsErrOf result miss.Failed → ⊥) → now ≡ before
  pub later : before ≤ now

-- so many bytes are there, or fewer where the link failed
abbrev pub ReadsBody : Option (List ℕ) → Option (List ℕ) → List ℕ → List ℕ → ℕ → Result (Unit {0}) Miss → Type 0
ReadsBody left left' old new wanted (Ok u) = (piece : List ℕ) × Takes left left' piece × (new ≡ old ++ piece) × (length new ≡ wanted)
ReadsBody left left' old new wanted (Err miss.Failed) = (piece : List ℕ) × Takes left left' piece × (new ≡ old ++ piece) × (length new < wanted)
ReadsBody left left' old new wanted (Err miss.Bad) = ⊥
ReadsBody left left' old new wanted (Err miss.OutOfMemory) = TakesSome left left'

-- what the head at the front of the bytes that were read and those that wait says of the first of
-- these: all are read; so many, which end it; or nothing
abbrev pub Foresees : List ℕ → List ℕ → Head → Type 0
Foresees bytes waiting More = HasNoResponse (bytes ++ waiting) × MayBecomeResponse (bytes ++ waiting)
Foresees bytes waiting Bad = Unit {0}
Foresees bytes waiting (Whole shape) =
    (length bytes < shape.from) × (shape.from ≤ length bytes + length waiting)
    × ((h : ResponseHead) × ReadsResponse (bytes ++ take (shape.from - length bytes) waiting) h [] × HasShape h shape)

-- the bytes are a head of this shape, which is short
abbrev pub IsHead : List ℕ → Shape → Type 0
IsHead bytes shape = (h : ResponseHead) × ReadsResponse bytes h [] × (length (print_response h) ≤ 8192) × HasShape h shape

-- bytes of a head were read behind those before: it may still come, it ends with them, or they decide
-- that it is bad
abbrev pub ReadsOn : Option (List ℕ) → Option (List ℕ) → List ℕ → List ℕ → Result (Option Shape) Miss → Type 0
ReadsOn left left' old new (Ok None) = Gains left left' old new 8192 × (length new ≤ 8192) × HasNoResponse new × MayBecomeResponse new
ReadsOn left left' old new (Ok (Some shape)) = Gains left left' old new 8192 × IsHead new shape
ReadsOn left left' old new (Err miss.Failed) = (left' ≡ left) × (new ≡ old)
ReadsOn left left' old new (Err miss.Bad) = Gains left left' old new 8192 × HasBadHead new
ReadsOn left left' old new (Err miss.OutOfMemory) = TakesSome left left'

-- all bytes that were read of a link, none before, and what they are
abbrev pub ReadsHead : Option (List ℕ) → Option (List ℕ) → List ℕ → Result Shape Miss → Type 0
ReadsHead left left' bytes (Ok shape) = Takes left left' bytes × ((h : ResponseHead) × ReadsResponse bytes h [] × (length (print_response h) ≤ 8192) × HasShape h shape)
ReadsHead left left' bytes (Err miss.Failed) = Takes left left' bytes × IsFront bytes
ReadsHead left left' bytes (Err miss.Bad) = Takes left left' bytes × HasBadHead bytes
ReadsHead left left' bytes (Err miss.OutOfMemory) = TakesSome left left'

-- a whole answer, whose body stands behind a place
pub record IsShaped (bytes : List ℕ) (s : Shape) : Type 0 where
  pub body : List ℕ
  pub front : List ℕ
  pub is : IsAnswer bytes (record { status = s.status; body = body; closes = s.closes })
  pub parts : bytes ≡ front ++ body
  pub from : s.from ≡ length front

abbrev pub ReadsAnswer : Option (List ℕ) → Option (List ℕ) → List ℕ → Result Shape Miss → Type 0
ReadsAnswer left left' bytes (Ok shape) = Takes left left' bytes × IsShaped bytes shape
ReadsAnswer left left' bytes (Err miss.Failed) = Takes left left' bytes × IsFront bytes
ReadsAnswer left left' bytes (Err miss.Bad) = Takes left left' bytes × HasBadHead bytes
ReadsAnswer left left' bytes (Err miss.OutOfMemory) = TakesSome left left'
