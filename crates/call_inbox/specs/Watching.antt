-- What is known of a call's bytes that are not judged again yet.
use Rattle.std.specs.Prelude.{◌<◌, ◌+◌, ◌++◌, ℕ, Bool, true, false, List, length}
use Rattle.httparse.specs.Grammar.{HasNoRequest}
use Rattle.warn_http.specs.Calls.{IsUnfinished}

-- Where the end of a line is waited for, no head stands in the bytes; else they are unfinished, and stay so until there are so many.
abbrev pub Waits : ℕ → Bool → List ℕ → Type 0
Waits from true bytes = HasNoRequest bytes
Waits from false bytes = (more : List ℕ) → length bytes + length more < from → IsUnfinished (bytes ++ more)
