use Rattle.std.proofs.Common.{◌≡◌, take, map, string_bytes}
use Rattle.program_ends.proofs.words.given_words.Given as goal

-- the words so far
abbrev pub invariant-loop-word : goal.invariant-loop-word
invariant-loop-word l = record {
  given : l.given ≡ map string_bytes (take l.word-index l.word-items);
}
