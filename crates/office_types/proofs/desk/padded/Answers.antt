use Rattle.std.proofs.Common.{ℕ, List, ◌++◌, length, ap, ◌∙◌, drop, ◌∷◌, []}
use Rattle.office_types.proofs.DeskNames.{drop_zeros}
use Rattle.office_types.proofs.desk.padded.Goals as goal

pub returns : goal.returns
returns c = ap (λ (t : List ℕ). t ++ drop (length c.args.bytes.now) (0 ∷ 0 ∷ 0 ∷ 0 ∷ 0 ∷ 0 ∷ 0 ∷ 0 ∷ 0 ∷ 0 ∷ 0 ∷ 0 ∷ 0 ∷ 0 ∷ 0 ∷ 0 ∷ [])) c.copy_from_slice.ensures.after
    ∙ ap (λ (t : List ℕ). c.args.bytes.now ++ t) (drop_zeros (length c.args.bytes.now))
