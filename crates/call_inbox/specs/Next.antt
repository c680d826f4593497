-- What is told of the next call of a link.
use Rattle.std.specs.Prelude.{◌≡◌, ◌<◌, ℕ, List, [], length, ⊤}
use Rattle.desk_links.specs.Links.{LinkState}
use Rattle.desk_traits.specs.Faults.{Rose}
use Rattle.byte_streams.specs.Flows.{IsAtEnd}
use Rattle.warn_http.specs.Calls.{HasNoWholeCall, IsCall, IsRefused, IsUnfinished, IsWithin, posted_in}
use Rattle.warn_http.specs.declared.read.HttpRead.TheVariants as read
use Rattle.call_inbox.specs.declared.next.NextCall.{NextCall}
use Rattle.call_inbox.specs.declared.next.NextCall.TheVariants.{Call, Refused, Closed, Cut, LinkFault, OutOfMemory}

-- What is told of the call at the front of the bytes that stand in the inbox: a call, which is whole; a refusal; the end of
-- the input, between two calls or in the midst of one; a fault of the link, before a whole call was there. So a read, which
-- may always fail, is made only where none is. What it is that the input has ended, and that the link has failed, is
-- handed in.
abbrev pub Tells : List ℕ → Type 0 → Type 0 → NextCall → Type 0
Tells bytes ended failed (Call call used last) =
    IsCall bytes (record { call = call; posted = posted_in bytes call; used = used; last = last })
    × IsWithin bytes (read.Call call used last)
Tells bytes ended failed (Refused refusal) = IsRefused bytes refusal
Tells bytes ended failed Closed = (bytes ≡ []) × IsUnfinished bytes × ended
Tells bytes ended failed Cut = (0 < length bytes) × IsUnfinished bytes × ended
Tells bytes ended failed LinkFault = failed × HasNoWholeCall bytes
Tells bytes ended failed OutOfMemory = ⊤

-- what is told of the call at the front of the bytes, behind what was read of a link
abbrev pub TellsOf : LinkState → LinkState → List ℕ → NextCall → Type 0
TellsOf old new bytes next = Tells bytes (IsAtEnd new.input.left) (Rose old.input.faults new.input.faults) next

-- a count of faults is as it was, but where a fault is told
abbrev pub IsSteady : ℕ → ℕ → NextCall → Type 0
IsSteady before now LinkFault = ⊤
IsSteady before now _ = now ≡ before
