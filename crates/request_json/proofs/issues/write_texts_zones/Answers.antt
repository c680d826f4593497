use Rattle.std.proofs.Common.{codes}
use Rattle.request_json.specs.Pieces.{texts_text, texts_zones, zones_text}
use Rattle.request_json.proofs.PieceLemmas.{laid_five}
use Rattle.request_json.proofs.issues.write_texts_zones.Goals as goal

pub returns : goal.returns
unfolding texts_zones
returns c =
    rw (c.in_ok-push.ensures.ok, c.in_ok-write_zones.ensures, c.in_ok-extend-2.ensures.ok, c.in_ok-write_texts.ensures, c.in_ok-extend.ensures.ok)
    (laid_five c.args.out.now (codes ",\"texts\":") (texts_text c.args.texts.now) (codes ",\"zones\":") (zones_text c.args.zones.now) (codes "}"))
