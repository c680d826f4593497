use Rattle.std.proofs.Common.{rules, ◌≡◌, map}
use Rattle.product_template.specs.Bodies.{body_of}
use Rattle.product_template.specs.Text.{frame_of, block_of}
use Rattle.product_template.proofs.Writable.{writable}
use Rattle.product_template.proofs.text.whole_text.Goals as goal

pub frame_text-requires : goal.frame_text-requires
frame_text-requires c =
    let frame : c.in_ok-frame.frame ≡ frame_of c.args.settings.now c.args.class c.args.plan.now c.args.t = search rules in
    let block : c.in_ok-block.block ≡ block_of c.args.settings.now c.args.plan.now c.args.t = search rules in
    let bodies : c.in_ok-bodies.bodies ≡ map (body_of c.args.settings.now c.args.class c.args.texts.now c.args.t c.args.edition) c.args.plan.now.segments = search rules in
    rw (frame, block, bodies) (writable c.args.settings.now c.args.class c.args.plan.now c.args.texts.now c.args.t c.args.edition c.requires.can c.requires.printable)
