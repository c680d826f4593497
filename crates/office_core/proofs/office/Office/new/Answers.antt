-- It is the first state, which is sound and agrees with its texts.
use Rattle.std.proofs.Common.{◌≡◌, ◌≤◌, [], map, arith, rules}
use Rattle.std.specs.Vec.{vec_capacity}
use Rattle.office_core.specs.State.{no_requests}
use Rattle.office_core.proofs.office.Office.new.Goals as goal

pub invariant_of-result : goal.invariant_of-result
invariant_of-result c =
    let heard : c.into_vec.result.items ≡ map no_requests c.args.settings.desks = search rules in
    let drafts : c.in_ok-drafts.drafts.items ≡ [] = search rules in
    let room : 64 ≤ vec_capacity c.in_ok-drafts.drafts = omega (arith, c.in_ok-drafts.ensures.exact) in
    rw (c.new.ensures, c.new-2.ensures, c.new-3.ensures.items, drafts, heard, c.first_minute.ensures)
    (c.offices_begin_sound.ensures c.args.settings c.args.class c.args.edition c.requires.forms c.requires.training, c.offices_begin_in_agreement.ensures c.args.settings c.args.class c.args.edition, room)
