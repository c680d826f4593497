use Rattle.desk_clock.specs.Zones.{rule_text}
use Rattle.desk_clock.proofs.RuleLemmas.{text_offset-zone}
use Rattle.desk_clock.proofs.zones.offsets_are_jiffs.Goals as goal

pub returns : goal.returns
returns c z read instant h = text_offset-zone (rule_text z) read instant h
