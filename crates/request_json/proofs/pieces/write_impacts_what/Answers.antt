use Rattle.std.proofs.Common.{codes}
use Rattle.request_json.specs.Pieces.{impacts_what, string_text}
use Rattle.request_json.proofs.PieceLemmas.{laid_five}
use Rattle.request_json.proofs.pieces.write_impacts_what.Goals as goal

pub returns : goal.returns
unfolding impacts_what
returns c =
    let t = c.args.texts.now in
    rw (c.in_ok-push.ensures.ok, c.in_ok-write_text_string-2.ensures, c.in_ok-extend-2.ensures.ok, c.in_ok-write_text_string.ensures, c.in_ok-extend.ensures.ok)
    (laid_five c.args.out.now (codes ",\"impacts\":") (string_text t.impacts) (codes ",\"what\":") (string_text t.what) (codes "}"))
