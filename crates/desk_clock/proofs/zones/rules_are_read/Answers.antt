use Rattle.jiff_tz.proofs.OnLiterals.{jiff_tz_on_literals}
use Rattle.hazard_types.specs.declared.codes.LocalZone.{LocalZone}
use Rattle.hazard_types.specs.declared.codes.LocalZone.TheVariants.{Atlantic, Eastern, Central, Mountain, Arizona, Pacific, Alaska, Hawaii, Utc}
use Rattle.std.specs.Prelude.{IsSome, refl}
use Rattle.jiff_tz.specs.PosixReader.{read_whole}
use Rattle.desk_clock.specs.Zones.{rule_text}
use Rattle.desk_clock.proofs.zones.rules_are_read.Goals as goal

is_rule : (z : LocalZone) → IsSome (read_whole (rule_text z))
unfolding jiff_tz_on_literals
is_rule Atlantic = refl
is_rule Eastern = refl
is_rule Central = refl
is_rule Mountain = refl
is_rule Arizona = refl
is_rule Pacific = refl
is_rule Alaska = refl
is_rule Hawaii = refl
is_rule Utc = refl

pub returns : goal.returns
returns c = is_rule
