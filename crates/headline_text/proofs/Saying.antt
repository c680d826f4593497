-- The words of a period are said once and stand in both, the headline and the WHEN bullet.
use Rattle.std.proofs.Common.{◌≡◌, ◌++◌, ℕ, Bool, true, false, List, [], cond, codes, refl}
use Rattle.hazard_types.specs.declared.codes.LocalZone.{LocalZone}
use Rattle.hazard_types.specs.declared.line.SegLine.{SegLine}
use Rattle.headline_text.specs.Headlines.{capital, has_when_bullet, line_period_text, when_of, when_bullet_text}
use Rattle.headline_text.specs.Periods.{period_of}

when_by : (said : Bool) (period : List ℕ) → cond said (codes "* WHEN..." ++ capital (cond said period []) ++ codes ".") [] ≡ cond said (codes "* WHEN..." ++ capital period ++ codes ".") []
when_by true period = refl
when_by false period = refl

pub when_is : (l : SegLine) (z : LocalZone) (t : ℕ) → when_bullet_text l.action (line_period_text l z t) ≡ when_of l z t
unfolding when_of
when_is l z t = when_by (has_when_bullet l.action) (period_of z t l.begin l.end)
