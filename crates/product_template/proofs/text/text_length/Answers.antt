use Rattle.std.proofs.Common.{rules, ◌≡◌, map, length, [], arith}
use Rattle.product_template.specs.Lengths.{bullet_length_of, length_in_segments}
use Rattle.product_template.specs.Text.{text_with, text_of}
use Rattle.product_template.proofs.Longer.{longer, sum_told}
use Rattle.product_template.proofs.text.text_length.Goals as goal

pub returns : goal.returns
returns c =
    let told : c.in_ok-told.told ≡ map bullet_length_of c.args.plan.now.texts = search rules in
    let said : c.in_ok-said.said ≡ length_in_segments (map bullet_length_of c.args.plan.now.texts) c.args.plan.now.segments = search rules in
    let bare : c.in_ok-bare.bare ≡ text_with c.args.settings.now c.args.class c.args.plan.now [] c.args.t c.args.edition = search rules in
    let bytes : c.len.result ≡ length (text_with c.args.settings.now c.args.class c.args.plan.now [] c.args.t c.args.edition) = search rules in
    let whole : _ ≡ length (text_of c.args.settings.now c.args.class c.args.plan.now c.args.t c.args.edition) = longer c.args.settings.now c.args.class c.args.plan.now c.args.t c.args.edition in
    sum_told c.checked_sum.result _ _ _ c.checked_sum.ensures (omega (arith, said, bytes, whole))
