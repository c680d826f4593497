-- The law of a clock, for a clock with set readings.
use Rattle.std.proofs.Common.{◌≡◌, ℕ, ℤ, ◌<◌, List, length, drop, None, Some, ap, arith, length-drop}

pub some_ahead : (readings ahead : List ℤ) (at : ℕ) → at < length readings → Some (drop at readings) ≡ Some ahead → 0 < length ahead
some_ahead readings ahead at within told =
    let same : drop at readings ≡ ahead = cc in
    omega (arith, within, length-drop at readings, ap length same)

pub untold_ahead : (readings : List ℤ) → None ≡ Some readings → 0 < length readings
untold_ahead readings told = absurd (cc)
