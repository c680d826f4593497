-- What stands in the inbox of a link.
use Rattle.std.specs.Prelude.{◌≡◌, ℕ, List, ◌++◌}
use Rattle.desk_links.specs.Links.{LinkState}
use Rattle.byte_streams.specs.Flows.{Takes}

-- some bytes were taken from the link, where it tells what is left, and stand behind those that were there; nothing was written on it
pub record HasRead (bytes bytes' : List ℕ) (old new : LinkState) : Type 0 where
  pub read : List ℕ
  pub stands : bytes' ≡ bytes ++ read
  pub takes : Takes old.input.left new.input.left read
  pub came : new.came ≡ old.came
  pub output : new.output ≡ old.output
