use Rattle.std.proofs.Common.{◌≡◌, ◌<◌, ◌+◌, ℕ, rules, [], sym, ◌∙◌, ap, refl, arith, length, map, subst}
use Rattle.std.proofs.lemmas.List.Elements.{All-rest}
use Rattle.desk_links.specs.Links.{IsUnused, PortState}
use Rattle.warn_serve.specs.Gathered.{IsFresh}
use Rattle.warn_serve.specs.Shares.{shares_of, with_links}
use Rattle.warn_serve.proofs.EvenShares.{share_within, sharing_begun, sharing_done, sharing_missed, sharing_on}
use Rattle.warn_serve.proofs.Gathering.{is_share, keeps_fewer}
use Rattle.warn_serve.proofs.Listing.{all_here, all_pushed, all_same, shares_pushed}
use Rattle.warn_serve.proofs.Returning.{steady_unused, takes_none, takes_unused}
use Rattle.warn_serve.proofs.service.Service.share_out.Goals as goal

pub loop-door-init : goal.loop-door-init
loop-door-init g c =
    let doors = c.args.doors.items in
    let rest = c.into_iter-door-iterator.result.rest.items in
    let all : rest ≡ doors = search rules in
    let some : 0 < length doors = search rules in
    record {
      can = tt;
      ends = tt;
      kept = record { lock = refl; base = refl; first = refl; seen = refl; mine = refl };
      shares = search rules;
      room = search rules;
      unused = all_same doors rest all (λ d. IsUnused (g.P.Door.Door.state d)) c.requires.unused;
      fresh = search rules;
      sharing =
          (let all_come : length rest ≡ length doors = ap length all in
          let begun = sharing_begun (length doors) c.args.connections some in
          search rules);
      back = takes_none (g.P.Port.state c.args.port.now);
      steady = omega arith;
      numbers = refl;
    }

pub return_door-requires-clause-none_out : goal.return_door-requires-clause-none_out
return_door-requires-clause-none_out g c =
    let door = g.P.Door.Door in
    let unused = all_here [] c.in-Some.door c.next.new.self.rest.items c.loop-door.door-iterator.rest.items c.in-Some.ensures.steps.0 (λ d. IsUnused (door.state d)) c.loop-door.invariant.unused in
    unused.none_given ∙ sym unused.none_returned

pub return_door-requires-clause-few : goal.return_door-requires-clause-few
return_door-requires-clause-few g c =
    let door = g.P.Door.Door in
    let unused = all_here [] c.in-Some.door c.next.new.self.rest.items c.loop-door.door-iterator.rest.items c.in-Some.ensures.steps.0 (λ d. IsUnused (door.state d)) c.loop-door.invariant.unused in
    omega (arith, unused.none_returned, c.loop-door.invariant.back.returned, c.requires.few)

pub loop-door-preserved-in_default : goal.loop-door-preserved-in_default
loop-door-preserved-in_default g c =
    let door = g.P.Door.Door in
    let port = g.P.Port.state in
    let was = c.loop-door.invariant in
    let step = c.in-Some.ensures.steps.0 in
    record {
      can = tt;
      ends = tt;
      kept = search rules;
      shares = search rules;
      room = (let n = ap length step in let m = ap length c.equip.ensures.workers in omega (arith, was.room));
      unused = All-rest (λ d. IsUnused (door.state d)) c.in-Some.door c.next.new.self.rest.items c.loop-door.door-iterator.rest.items step was.unused;
      fresh = all_same c.loop-door.workers.items c.equip.new.workers.items c.equip.ensures.workers (λ w. IsFresh c.args.pass.now w.pass (door.state w.door) w.share c.args.connections) was.fresh;
      sharing =
          sharing_missed (length c.args.doors.items) c.args.connections c.loop-door.lost (length c.loop-door.door-iterator.rest.items) (length c.next.new.self.rest.items) _ c.loop-door.more c.share_of-share.result.0 (ap length step) c.share_of-share.ensures.share
          (map (λ w. w.share) c.loop-door.workers.items) (map (λ w. w.share) c.equip.new.workers.items) (c.loop-door.lost + c.share_of-share.result.0) c.share_of-share.result.1 (ap (map (λ w. w.share)) c.equip.ensures.workers) refl c.share_of-share.ensures.more was.sharing;
      back = takes_unused (port c.args.port.now) (port c.loop-door.port) (port c.return_door.new.self) (door.state c.in-Some.door) was.back
          (all_here [] c.in-Some.door c.next.new.self.rest.items c.loop-door.door-iterator.rest.items step (λ d. IsUnused (door.state d)) was.unused)
          c.return_door.ensures;
      steady = steady_unused (port c.args.port.now) (port c.loop-door.port) (port c.return_door.new.self) (door.state c.in-Some.door) was.steady
          (all_here [] c.in-Some.door c.next.new.self.rest.items c.loop-door.door-iterator.rest.items step (λ d. IsUnused (door.state d)) was.unused)
          c.return_door.ensures;
      numbers = ap (λ (p : PortState). p.numbers) c.return_door.ensures ∙ was.numbers;
    }

pub loop-door-preserved : goal.loop-door-preserved
loop-door-preserved g c =
    let door = g.P.Door.Door in
    let was = c.loop-door.invariant in
    let step = c.in-Some.ensures.steps.0 in
    let unused = all_here [] c.in-Some.door c.next.new.self.rest.items c.loop-door.door-iterator.rest.items step (λ d. IsUnused (door.state d)) was.unused in
    let pushed = shares_pushed c.loop-door.workers.items c.equip.new.workers.items c.push_reserved.new.self.items _ c.equip.ensures.workers c.push_reserved.ensures.items (λ w. w.share) in
    record {
      can = tt;
      ends = tt;
      kept = keeps_fewer c.args.pass.now c.loop-door.pass c.equip.new.pass was.kept c.in-Ok.ensures.fewer;
      shares = search rules;
      room = search rules;
      unused = All-rest (λ d. IsUnused (door.state d)) c.in-Some.door c.next.new.self.rest.items c.loop-door.door-iterator.rest.items step was.unused;
      fresh = all_pushed c.loop-door.workers.items c.equip.new.workers.items c.push_reserved.new.self.items _ c.equip.ensures.workers c.push_reserved.ensures.items (λ w. IsFresh c.args.pass.now w.pass (door.state w.door) w.share c.args.connections) was.fresh
          (record {
            is_share = is_share c.args.pass.now c.loop-door.pass c.in-Ok.part c.in-Ok.ensures.part was.kept;
            unused = unused;
            few = (let w = share_within (length c.args.doors.items) c.args.connections c.loop-door.lost (length c.loop-door.door-iterator.rest.items) (length c.next.new.self.rest.items) _ c.loop-door.more c.share_of-share.result.0 (ap length step) c.share_of-share.ensures.share (map (λ w. w.share) c.loop-door.workers.items) was.sharing in omega arith);
          });
      sharing =
          sharing_on (length c.args.doors.items) c.args.connections c.loop-door.lost (length c.loop-door.door-iterator.rest.items) (length c.next.new.self.rest.items) _ c.loop-door.more c.share_of-share.result.0 (ap length step) c.share_of-share.ensures.share
          (map (λ w. w.share) c.loop-door.workers.items) (map (λ w. w.share) c.push_reserved.new.self.items) c.share_of-share.result.1 pushed c.share_of-share.ensures.more was.sharing;
      back = was.back;
      steady = was.steady;
      numbers = was.numbers;
    }

pub returns-clause-even : goal.returns-clause-even
returns-clause-even g c =
    let rest = c.loop-door.door-iterator.rest in
    let had = map (λ w. w.share) c.loop-door.workers.items in
    let none = sym rest.ok.0 ∙ c.in-None.ensures.steps.0 in
    let done = sharing_done (length c.args.doors.items) c.args.connections c.loop-door.lost (length rest.items) _ c.loop-door.more had none c.loop-door.invariant.sharing in
    subst (λ (n : ℕ). c.loop-door.lost ≡ 0 → with_links had ≡ with_links (shares_of n c.args.connections)) (sym c.args.doors.ok.0) done.1
