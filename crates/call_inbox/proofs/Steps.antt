-- Reading, step by step, and what is told.
use Rattle.std.proofs.Common.{◌≡◌, ℕ, List, [], refl, sym, ◌∙◌, append-nil, subst, Option, None, Some, Result, Ok, Err, OnErr}
use Rattle.desk_links.specs.Links.{LinkState}
use Rattle.byte_streams.specs.Flows.{Takes}
use Rattle.call_inbox.specs.Next.{Tells}
use Rattle.call_inbox.specs.Reading.{HasRead}
use Rattle.call_inbox.specs.declared.next.NextCall.{NextCall}
use Rattle.call_inbox.specs.declared.next.NextCall.TheVariants.{Call, Refused, Closed, Cut, LinkFault, OutOfMemory}

takes_none : (left : Option (List ℕ)) → Takes left left []
takes_none None = refl
takes_none (Some rest) = refl

-- nothing was read
pub read_nothing : (bytes bytes' : List ℕ) (old new : LinkState) → bytes' ≡ bytes → new.input.left ≡ old.input.left → new.came ≡ old.came → new.output ≡ old.output → HasRead bytes bytes' old new
read_nothing bytes bytes' old new same kept came output = record {
  read = [];
  stands = same ∙ sym (append-nil bytes);
  takes = subst (λ (l : Option (List ℕ)). Takes old.input.left l []) (sym kept) (takes_none old.input.left);
  came = came;
  output = output;
}

-- what is told where less was known of the end and of faults
pub tells_more : (bytes : List ℕ) (ended failed ended' failed' : Type 0) (next : NextCall) → (ended → ended') → (failed → failed') → Tells bytes ended failed next → Tells bytes ended' failed' next
tells_more bytes ended failed ended' failed' (Call call used last) e f t = t
tells_more bytes ended failed ended' failed' (Refused refusal) e f t = t
tells_more bytes ended failed ended' failed' Closed e f t = (t.0, t.1, e t.2)
tells_more bytes ended failed ended' failed' Cut e f t = (t.0, t.1, e t.2)
tells_more bytes ended failed ended' failed' LinkFault e f t = (f t.0, t.1)
tells_more bytes ended failed ended' failed' OutOfMemory e f t = t

-- what holds holds of an error
pub on_err : {T E : Type 0} (result : Result T E) (fact : Type 0) → fact → OnErr result fact
on_err (Ok value) fact holds = tt
on_err (Err error) fact holds = holds
