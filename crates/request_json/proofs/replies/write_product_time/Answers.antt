use Rattle.std.proofs.Common.{◌≡◌, codes}
use Rattle.hazard_types.specs.Calendar.{stamp_of}
use Rattle.request_json.specs.Pieces.{product_time, string_text, whole_text}
use Rattle.request_json.proofs.PieceLemmas.{laid_five}
use Rattle.request_json.proofs.replies.write_product_time.Goals as goal

pub returns : goal.returns
unfolding product_time
returns c =
    let time : c.stamp.result ≡ stamp_of c.args.time = c.stamp.ensures.value in
    rw (c.in_ok-push.ensures.ok, c.in_ok-write_string.ensures, c.in_ok-extend-2.ensures.ok, c.in_ok-write_whole.ensures, c.in_ok-extend.ensures.ok, time)
    (laid_five c.args.out.now (codes ",\"product\":") (whole_text c.args.product) (codes ",\"time\":") (string_text (stamp_of c.args.time)) (codes "}"))
