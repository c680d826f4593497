use Rattle.std.proofs.Common.{◌≡◌, length, drop, ◌+◌, arith, ap, List, ℕ, Some, length-drop, length-append}
use Rattle.std.proofs.lemmas.List.{drop_all, length-take}
use Rattle.byte_streams.proofs.Pieces.{read_piece, piece_length}
use Rattle.byte_streams.proofs.parts.hand_out.Goals as goal

pub returns-clause-gives : goal.returns-clause-gives
returns-clause-gives c =
    let bytes = c.args.bytes.now in
    let at = c.args.at in
    let rest = piece_length bytes at in
    let room = length-take c.min-count.result c.args.into.now in
    let first : length c.copy_from_slice.new.self ≡ c.min-count.result = omega arith in (
      omega (arith, length-append c.copy_from_slice.new.self (drop c.min-count.result c.args.into.now)),
      ap (λ (t : List ℕ). Some t) (read_piece bytes c.copy_from_slice.new.self _ at c.min-count.result first c.copy_from_slice.ensures.after),
      λ none some. drop_all (at + c.min-count.result) bytes (omega (arith, length-append c.copy_from_slice.new.self (drop c.min-count.result c.args.into.now), length-drop c.min-count.result c.args.into.now)),
    )
