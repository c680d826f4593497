use Rattle.std.proofs.Common.{◌≡◌, rules, arith}
use Rattle.std.specs.List.{All}
use Rattle.std.proofs.lemmas.Grind.{common_steps}
use Rattle.product_frame.specs.Layout.{layout_of}
use Rattle.product_frame.specs.LineRules.{ReadsBack}
use Rattle.product_frame.proofs.ProductLines.{written_frame, written_one}
use Rattle.product_frame.proofs.write.frame_text.Goals as goal

pub returns-clause-frame : goal.returns-clause-frame
returns-clause-frame c =
    let back : All ReadsBack c.args.f.now.segments = search rules in
    let whole : c.write_segments.new.out ≡ layout_of c.args.f.now c.args.block.now c.args.bodies.now = first_of (search rules, grind (arith, common_steps)) in
    written_frame c.write_segments.new.out c.args.f.now c.args.block.now c.args.bodies.now c.requires back whole

pub returns-clause-one : goal.returns-clause-one
returns-clause-one c =
    let back : All ReadsBack c.args.f.now.segments = search rules in
    let whole : c.write_segments.new.out ≡ layout_of c.args.f.now c.args.block.now c.args.bodies.now = first_of (search rules, grind (arith, common_steps)) in
    written_one c.write_segments.new.out c.args.f.now c.args.block.now c.args.bodies.now c.requires back whole
