-- Watches: their codes and their hazards.
use Rattle.std.specs.Prelude.{ℕ, List, if◌then◌else◌, Option, Some, None, codes}
use Rattle.std.specs.Str.{bytes_eq}
use Rattle.hazard_types.specs.declared.hazard.Hazard.{Hazard}
use Rattle.hazard_types.specs.declared.hazard.Sig.TheVariants as sig
use Rattle.notice_json.specs.declared.command.Watch.{Watch}
use Rattle.notice_json.specs.declared.command.Watch.TheVariants as watch

-- the watch of a code
abbrev pub watch_at : List ℕ → Option Watch
watch_at code =
    if bytes_eq code (codes "TO.A") then Some watch.Tornado else
    if bytes_eq code (codes "SV.A") then Some watch.Thunderstorm else None

-- TO.A for tornadoes, SV.A for severe thunderstorms
abbrev pub hazard_of : Watch → Hazard
hazard_of watch.Tornado = record { phen = codes "TO"; sig = sig.A }
hazard_of watch.Thunderstorm = record { phen = codes "SV"; sig = sig.A }
