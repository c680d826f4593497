use Rattle.std.proofs.Common.{◌++◌, ◌∷◌, [], ◌∙◌, append_assoc}
use Rattle.request_json.proofs.PieceLemmas.{plain_string}
use Rattle.request_json.proofs.pieces.write_plain.Goals as goal

pub returns : goal.returns
returns c =
    let old = c.args.out.now in
    let bytes = c.args.bytes.now in
    rw (c.in_ok-push-2.ensures.ok, c.in_ok-extend.ensures.ok, c.in_ok-push.ensures.ok, plain_string bytes c.requires)
    (append_assoc (old ++ 34 ∷ []) bytes (34 ∷ []) ∙ append_assoc old (34 ∷ []) (bytes ++ 34 ∷ []))
