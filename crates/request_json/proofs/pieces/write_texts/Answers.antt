use Rattle.std.proofs.Common.{append_assoc}
use Rattle.request_json.specs.Pieces.{area_details, impacts_what}
use Rattle.request_json.proofs.PieceLemmas.{texts_in_two}
use Rattle.request_json.proofs.pieces.write_texts.Goals as goal

pub returns : goal.returns
returns c =
    let t = c.args.texts.now in
    rw (c.in_ok-write_impacts_what.ensures, c.in_ok-write_area_details.ensures, texts_in_two t) (append_assoc c.args.out.now (area_details t) (impacts_what t))
