use Rattle.std.proofs.Common.{◌∙◌, arith, ap, min, drop, get_or, ◌+◌, ◌*◌, ◌-◌, ℕ, ◌≡◌}
use Rattle.warn_http.specs.Numbers.{number_from}
use Rattle.warn_http.proofs.Digits.{capped_step}
use Rattle.warn_http.proofs.numbers.capped.Goals as goal

pub loop-digit-preserved : goal.loop-digit-preserved
loop-digit-preserved c =
    let digits = c.args.digits.now in
    let i = c.loop-digit.digit-index in
    let is : c.min-number.result ≡ min 4294967296 (10 * c.loop-digit.number + (get_or digits i 0 - 48)) =
    c.min-number.ensures ∙ ap (λ (n : ℕ). min 4294967296 (10 * c.loop-digit.number + n)) c.from.ensures in
    let step = capped_step 4294967296 c.loop-digit.number i digits c.loop-digit-test.true in
    record {
      low = omega arith;
      left = ap (λ (n : ℕ). min 4294967296 (number_from n (drop (i + 1) digits))) is ∙ step ∙ c.loop-digit.invariant.left;
    }
