use Rattle.std.proofs.Common.{◌-◌, ◌∙◌, ap, sym, arith, rules}
use Rattle.desk_links.specs.Links.{DialerState}
use Rattle.follow_links.proofs.Turned.{turns_none, turns_failed, turns_on, one_round, room_kept, up_with, course_none, course_spent, course_on}
use Rattle.follow_links.proofs.rounds.follow_rounds.Goals as goal

pub returns-in_default-clause-course : goal.returns-in_default-clause-course
returns-in_default-clause-course g c = course_none (g.D.Dialer.state c.args.dialer.now) c.args.follower.now c.args.rounds

pub loop-left-init : goal.loop-left-init
loop-left-init g c = record {
  room = search rules;
  none_out = c.requires.none_out;
  few = omega arith;
  turns = turns_none (g.D.Dialer.state c.args.dialer.now) c.args.follower.now c.args.rounds;
}

pub dial-requires-clause-few : goal.dial-requires-clause-few
dial-requires-clause-few g c = omega (arith, c.requires.few, c.loop-left.invariant.few, c.loop-left-test.true)

pub loop-left-preserved-in-Err : goal.loop-left-preserved-in-Err
loop-left-preserved-in-Err g c = record {
  room = c.loop-left.invariant.room;
  none_out = search rules;
  few = omega (arith, c.loop-left.invariant.few, c.in-Err.ensures.returned);
  turns =
      turns_failed (g.D.Dialer.state c.args.dialer.now) (g.D.Dialer.state c.loop-left.dialer)
      c.args.follower.now c.loop-left.follower c.args.rounds c.loop-left.left c.loop-left.invariant.turns (g.D.Dialer.state c.dial.new.self) (c.loop-left.left - 1)
      c.in-Err.ensures.links c.in-Err.ensures.cause.failed (omega (arith, c.loop-left-test.true));
}

pub loop-left-preserved : goal.loop-left-preserved
loop-left-preserved g c =
    let up = up_with c.talk-end.result (sym c.stop_with.ensures ∙ c.in-None.is) in
    let fewer =
    one_round (g.D.Dialer.state c.args.dialer.now) (g.D.Dialer.state c.loop-left.dialer) (g.D.Dialer.state c.dial.new.self) (g.D.Dialer.state c.return_link.new.self)
    c.args.follower.now c.loop-left.follower c.talk-end.new.follower c.args.rounds c.loop-left.left c.talk-end.new.left (g.D.Link.Link.state c.in-Ok-dial.link) (g.D.Link.Link.state c.talk-end.new.link) c.talk-end.result
    c.loop-left.invariant.turns c.in-Ok-dial.ensures.links c.in-Ok-dial.ensures.steady c.in-Ok-dial.ensures.fresh c.talk-end.ensures.talks c.return_link.ensures up in
    record {
      room = room_kept c.loop-left.fields.len 2731 c.talk-end.new.fields c.loop-left.fields.items c.talk-end.ensures.kept c.loop-left.invariant.room c.loop-left.fields.ok.0;
      none_out = search rules;
      few = omega (arith, c.loop-left.invariant.few, c.in-Ok-dial.ensures.returned, ap (λ (d : DialerState). d.returned) c.return_link.ensures, fewer);
      turns =
          turns_on (g.D.Dialer.state c.args.dialer.now) (g.D.Dialer.state c.loop-left.dialer) (g.D.Dialer.state c.dial.new.self) (g.D.Dialer.state c.return_link.new.self)
          c.args.follower.now c.loop-left.follower c.talk-end.new.follower c.args.rounds c.loop-left.left c.talk-end.new.left (g.D.Link.Link.state c.in-Ok-dial.link) (g.D.Link.Link.state c.talk-end.new.link) c.talk-end.result
          c.loop-left.invariant.turns c.in-Ok-dial.ensures.links c.in-Ok-dial.ensures.steady c.in-Ok-dial.ensures.fresh c.talk-end.ensures.talks c.return_link.ensures up;
    }

pub returns-in-Some-clause-course : goal.returns-in-Some-clause-course
returns-in-Some-clause-course g c =
    course_on (g.D.Dialer.state c.args.dialer.now) (g.D.Dialer.state c.loop-left.dialer) (g.D.Dialer.state c.dial.new.self) (g.D.Dialer.state c.return_link.new.self)
    c.args.follower.now c.loop-left.follower c.talk-end.new.follower c.args.rounds c.loop-left.left c.talk-end.new.left (g.D.Link.Link.state c.in-Ok-dial.link) (g.D.Link.Link.state c.talk-end.new.link) c.talk-end.result
    c.loop-left.invariant.turns c.in-Ok-dial.ensures.links c.in-Ok-dial.ensures.steady c.in-Ok-dial.ensures.fresh c.talk-end.ensures.talks c.return_link.ensures c.in-Some.stop (sym c.stop_with.ensures ∙ c.in-Some.is)

pub returns-clause-course : goal.returns-clause-course
returns-clause-course g c =
    course_spent (g.D.Dialer.state c.args.dialer.now) (g.D.Dialer.state c.loop-left.dialer)
    c.args.follower.now c.loop-left.follower c.args.rounds c.loop-left.left c.loop-left.invariant.turns (omega (arith, c.loop-left-test.false))
