use Rattle.std.proofs.Common.{◌==◌, ap, sym, take, arith, eq-eqb}
use Rattle.std.proofs.lemmas.List.Sums.{position_or_len_is}
use Rattle.hazard_types.proofs.table.without_padding.Goals as goal

pub returns-then-byte-eq32 : goal.returns-then-byte-eq32
returns-then-byte-eq32 c =
    ap (λ n. take n c.args.code.now) (sym (position_or_len_is (λ b. b == 32) c.args.code.now c.loop-i.i 0 (omega arith) c.loop-i.invariant (λ _. eq-eqb _ _ c.if-byte-eq32.true)))
