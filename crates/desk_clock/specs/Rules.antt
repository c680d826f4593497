-- The offset that a rule text gives at an instant, as a function of what `jiff`'s reader finds in the text.
use Rattle.std.specs.Prelude.{ℕ, ℤ, pos, ◌+ℤ◌, ◌-ℤ◌, ◌*ℤ◌, ◌&&◌, ◌||◌, int_lt, if◌then◌else◌, List, Option, Some, None, unwrap_or, option_map}
use Rattle.jiff_core.specs.Timestamp.{nanos_of_seconds}
use Rattle.jiff_tz.specs.declared.posix.Day.{Day}
use Rattle.jiff_tz.specs.PosixReader.{read_whole}
use Rattle.jiff_tz.specs.PosixRule.{rule_day, match_some, clamp_to, first_nanosecond, last_nanosecond, nanos_per_day, saturating_add, int_same, in_window}
use Rattle.jiff_tz.specs.PosixText.{TzText, DstText}
use Rattle.jiff_tz.specs.Year.{year_of_nanos}

-- when a moment of the rule falls in the year, on a clock at UTC, for a clock `seconds` ahead of it
abbrev pub moment : ℤ → Day × ℤ → ℤ → ℤ
moment y d seconds = match_some (rule_day y d.0) (last_nanosecond y) (λ day.
    clamp_to (first_nanosecond y) (last_nanosecond y) (day *ℤ nanos_per_day +ℤ nanos_of_seconds (d.1 -ℤ seconds)))

-- when daylight saving time begins and ends in the year
abbrev pub window : DstText → ℤ → ℤ → ℤ × ℤ
window d y std =
    let start : ℤ = moment y d.start std in
    let end : ℤ = moment y d.finish d.seconds in
    let shifted : ℤ = saturating_add end (nanos_of_seconds std) in
    if int_same start (first_nanosecond y) && (int_lt shifted (first_nanosecond y) || int_lt (last_nanosecond y) shifted)
    then (start, last_nanosecond y)
    else (start, end)

abbrev pub by_dst : ℤ → Option DstText → ℤ → ℤ
by_dst std None n = std
by_dst std (Some d) n = if in_window (window d (year_of_nanos n) std) n then d.seconds else std

-- the offset of the rule at an instant, in seconds
abbrev pub rule_offset : TzText → ℤ → ℤ
rule_offset v n = by_dst v.std_seconds v.dst n

-- the same, of a rule text; each rule text of the desk is a rule, so the 0 is never met
abbrev pub text_offset : List ℕ → ℤ → ℤ
text_offset text n = unwrap_or (option_map (λ v. rule_offset v n) (read_whole text)) (pos 0)
