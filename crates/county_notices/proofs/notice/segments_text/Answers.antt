-- What is written keeps the line rules.
use Rattle.std.proofs.Common.{◌≡◌, map, rules}
use Rattle.product_frame.specs.Layout.{layout_of}
use Rattle.county_notices.specs.Notices.{block_of, body_of, frame_of, text_of}
use Rattle.county_notices.proofs.Answered.{retold}
use Rattle.county_notices.proofs.Writable.{writable}
use Rattle.county_notices.proofs.notice.segments_text.Goals as goal

pub frame_text-requires : goal.frame_text-requires
frame_text-requires c =
    let frame : c.in_ok-frame.frame ≡ frame_of c.args.issuer.now c.args.t c.args.segments.now = search rules in
    let block : c.in_ok-block.block ≡ block_of c.args.issuer.now c.args.t = search rules in
    let bodies : c.in_ok-bodies.bodies ≡ map (body_of c.args.watch) c.args.segments.now = search rules in
    rw (frame, block, bodies) (writable c.args.issuer.now c.args.t c.args.watch c.args.segments.now c.requires.minute c.requires.office c.requires.segments)

pub returns-clause-value : goal.returns-clause-value
unfolding text_of
returns-clause-value c =
    let frame : c.in_ok-frame.frame ≡ frame_of c.args.issuer.now c.args.t c.args.segments.now = search rules in
    let block : c.in_ok-block.block ≡ block_of c.args.issuer.now c.args.t = search rules in
    let bodies : c.in_ok-bodies.bodies ≡ map (body_of c.args.watch) c.args.segments.now = search rules in
    retold c.frame_text.result _ _ (λ i. layout_of (frame i) (block i) (bodies i)) c.frame_text.ensures.layout
