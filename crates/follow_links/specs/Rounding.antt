-- What the parts of a talk do.
use Rattle.std.specs.Prelude.{◌≡◌, ◌≢◌, ◌≤◌, ◌⊎◌, ◌+◌, ℕ, Bool, List, length, Result, Ok, Err, IsErrOf}
use Rattle.desk_links.specs.Links.{LinkState}
use Rattle.desk_traits.specs.Faults.{Rose}
use Rattle.byte_streams.specs.Flows.{Takes, Adds}
use Rattle.product_decoder.specs.ReaderModel.{Reading}
use Rattle.follow_core.specs.Hearing.{place_of, having_taken}
use Rattle.follow_links.specs.Answers.{Answer}
use Rattle.follow_links.specs.Talks.{IsText, IsBad, IsEnd, Leaves, ask, IsTalk, bodies, after_all, asks_in}
use Rattle.follow_links.specs.declared.reading.Miss.{Miss}
use Rattle.follow_links.specs.declared.reading.Miss.TheVariants as miss
use Rattle.follow_links.specs.declared.talk.LinkEnd.{LinkEnd}
use Rattle.follow_links.specs.declared.talk.LinkEnd.TheVariants.{Spent, Failed, Ended, Bad, OutOfMemory}

abbrev pub end_of : Miss → LinkEnd
end_of miss.Failed = Failed
end_of miss.Bad = Bad
end_of miss.OutOfMemory = OutOfMemory

-- what becomes of a whole answer
abbrev pub IsTaken : Reading → Reading → List ℕ → Result Bool LinkEnd → Type 0
IsTaken old new bytes (Ok closes) = (body : List ℕ) × IsText (place_of old) bytes (record { status = 200; body = body; closes = closes }) × (new ≡ having_taken old (place_of old) body)
IsTaken old new bytes (Err Ended) = IsEnd bytes × (new ≡ old)
IsTaken old new bytes (Err Bad) = IsBad (place_of old) bytes × (new ≡ old)
IsTaken old new bytes (Err OutOfMemory) = new ≡ old
IsTaken old new bytes (Err _) = ⊥

-- one ask, by its result
abbrev pub AskGives : Reading → Reading → List ℕ → List ℕ → Result Bool LinkEnd → Type 0
AskGives old new read written (Ok closes) = (written ≡ ask (place_of old)) × ((body : List ℕ) × IsText (place_of old) read (record { status = 200; body = body; closes = closes }) × (new ≡ having_taken old (place_of old) body))
AskGives old new read written (Err end) = Leaves (place_of old) read written end × (new ≡ old) × (end ≢ Spent)

pub record IsAsk (first last : LinkState) (old new : Reading) (result : Result Bool LinkEnd) : Type 0 where
  pub read : List ℕ
  pub written : List ℕ
  pub takes : Takes first.input.left last.input.left read
  pub adds : Adds first.output.taken last.output.taken written
  pub gives : AskGives old new read written result

-- a link has failed: the count of its reads rose, or that of its writes
abbrev pub HasFailed : LinkState → LinkState → Type 0
HasFailed first last = Rose first.input.faults last.input.faults ⊎ Rose first.output.faults last.output.faults

-- neither count fell
abbrev pub IsLater : LinkState → LinkState → Type 0
IsLater first last = (first.input.faults ≤ last.input.faults) × (first.output.faults ≤ last.output.faults)

-- a link that failed has a count that rose
pub record RoseIfFailed {T : Type 0} (first last : LinkState) (result : Result T LinkEnd) : Type 0 where
  pub rose : IsErrOf result Failed → HasFailed first last
  pub later : IsLater first last

-- texts were taken on a link, which was left so or is still open, and each ask took a round
pub record Holds (first last : LinkState) (old new : Reading) (rounds rounds' : ℕ) (end : LinkEnd) : Type 0 where
  pub answers : List Answer
  pub read : List ℕ
  pub written : List ℕ
  pub takes : Takes first.input.left last.input.left read
  pub adds : Adds first.output.taken last.output.taken written
  pub talk : IsTalk (place_of old) read written answers end
  pub follower : new ≡ after_all old (bodies answers)
  pub counted : length answers + asks_in end + rounds' ≡ rounds
  pub same : last.came ≡ first.came

-- texts were taken on a link until it was left; the count of a link that failed rose
pub record Talks (first last : LinkState) (old new : Reading) (rounds rounds' : ℕ) (end : LinkEnd) : Type 0 where
  pub held : Holds first last old new rounds rounds' end
  pub spent : end ≡ Spent → rounds' ≡ 0
  pub rose : end ≡ Failed → HasFailed first last
