use Rattle.std.proofs.Common.{codes}
use Rattle.request_json.specs.Pieces.{area_details, string_text}
use Rattle.request_json.proofs.PieceLemmas.{laid_four}
use Rattle.request_json.proofs.pieces.write_area_details.Goals as goal

pub returns : goal.returns
unfolding area_details
returns c =
    let t = c.args.texts.now in
    rw (c.in_ok-write_text_string-2.ensures, c.in_ok-extend-2.ensures.ok, c.in_ok-write_text_string.ensures, c.in_ok-extend.ensures.ok)
    (laid_four c.args.out.now (codes "{\"area\":") (string_text t.area) (codes ",\"details\":") (string_text t.details))
