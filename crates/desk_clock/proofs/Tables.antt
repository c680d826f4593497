-- The sizes of the tables of names.
use Rattle.std.proofs.Common.{◌≡◌, length, refl}
use Rattle.desk_clock.specs.Names.{month_names, weekday_names}

pub twelve_names : length month_names ≡ 12
unfolding month_names
twelve_names = refl

pub seven_names : length weekday_names ≡ 7
unfolding weekday_names
seven_names = refl
