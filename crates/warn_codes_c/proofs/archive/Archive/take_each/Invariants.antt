use Rattle.std.proofs.Common.{◌≡◌, ◌+◌, cond, length, true, false, []}
use Rattle.warn_codes_c.specs.Archive.{Same}
use Rattle.warn_codes_c.proofs.archive.Archive.take_each.Given as goal

-- the products so far were taken; where no more came out, the stream's end leaves nothing
abbrev pub invariant-loop-more : goal.invariant-loop-more
invariant-loop-more l = record {
  same : Same l.fn.self l.self;
  done : l.more ≡ false → l.fn.self.feed.ended ≡ true → l.self.feed.rest ≡ [];
}

abbrev pub decreases-loop-more : goal.decreases-loop-more
decreases-loop-more l = cond l.more (length l.self.feed.rest + 1) 0
