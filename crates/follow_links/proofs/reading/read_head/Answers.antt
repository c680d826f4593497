use Rattle.std.proofs.Common.{refl, sym, subst, inl, arith, ap, length}
use Rattle.byte_streams.specs.Flows.{Takes}
use Rattle.httparse.specs.Grammar.{HasNoResponse}
use Rattle.follow_links.proofs.Joining.{takes_none}
use Rattle.follow_links.proofs.Listening.{full_is_bad, head_stops}
use Rattle.http_heads.proofs.Sizes.{none_in_nothing}
use Rattle.follow_links.proofs.reading.read_head.Goals as goal

pub loop-buffer-init : goal.loop-buffer-init
loop-buffer-init g c = record {
  few = omega (arith, ap length c.requires.none);
  room = c.requires.room;
  buffer = omega arith;
  takes = subst (Takes (g.L.Link.state c.args.link.now).input.left (g.L.Link.state c.args.link.now).input.left) (sym c.requires.none) (takes_none (g.L.Link.state c.args.link.now).input.left);
  headless = subst HasNoResponse (sym c.requires.none) none_in_nothing;
  may = inl c.requires.none;
  steady = refl;
  beside = (refl, refl);
}

pub returns-in-Err-clause-read : goal.returns-in-Err-clause-read
returns-in-Err-clause-read g c =
    let old = c.loop-buffer.invariant in
    head_stops (g.L.Link.state c.args.link.now).input.left (g.L.Link.state c.loop-buffer.link).input.left (g.L.Link.state c.read_head_part.new.link).input.left c.loop-buffer.bytes c.read_head_part.new.bytes c.in-Err.miss
    old.takes (old.headless, omega arith, old.may) c.in-Err.ensures.read

pub returns-clause-read : goal.returns-clause-read
returns-clause-read g c =
    let old = c.loop-buffer.invariant in
    (old.takes, full_is_bad c.loop-buffer.bytes (omega arith) old.few old.headless old.may)
