-- What a zone gives is what its rule text gives.
use Rattle.std.proofs.Common.{◌≡◌, ℕ, ℤ, pos, List, Bool, true, false, cond, Option, Some, None, option_map, unwrap_or, refl, sym, ap, ◌∙◌}
use Rattle.jiff_core.specs.declared.Offset.{Offset}
use Rattle.jiff_tz.specs.PosixRule as PosixRule
use Rattle.jiff_tz.specs.PosixRule.{match_some, in_window, utc_window, rule_nanos}
use Rattle.jiff_tz.specs.PosixText.{dst_view}
use Rattle.jiff_tz.specs.Year.{year_of_nanos}
use Rattle.jiff_tz.specs.Zone.{offset_at}
use Rattle.jiff_tz.specs.declared.posix.Dst.{Dst}
use Rattle.jiff_tz.specs.declared.timezone.TimeZone.{TimeZone}
use Rattle.jiff_tz.specs.declared.timezone.TimeZone.TheVariants.{UTC, Unknown, Fixed, Posix, Tzif}
use Rattle.jiff.specs.Placed.{IsPosixZone}
use Rattle.desk_clock.specs.Rules.{by_dst, window, rule_offset, text_offset}

chosen : (b : Bool) (std : Offset) (d : Dst) → (match_some (cond b (Some d) None) std (λ x. x.offset)).seconds ≡ cond b d.offset.seconds std.seconds
chosen true std d = refl
chosen false std d = refl

by_dst-view : (std : Offset) (d : Option Dst) (n : ℤ) → (match_some (PosixRule.dst_at_by std d n) std (λ x. x.offset)).seconds ≡ by_dst std.seconds (option_map dst_view d) n
unfolding utc_window rule_nanos
by_dst-view std None n = refl
by_dst-view std (Some d) n = chosen (in_window (window (dst_view d) (year_of_nanos n) std.seconds) n) std d

pub text_offset-zone : (text : List ℕ) (tz : TimeZone) (n : ℤ) → IsPosixZone text tz → offset_at tz n ≡ text_offset text n
unfolding offset_at
text_offset-zone text UTC n h = absurd h
text_offset-zone text Unknown n h = absurd h
text_offset-zone text (Fixed o) n h = absurd h
text_offset-zone text (Posix tz) n h = by_dst-view tz.std_offset tz.dst n ∙ sym (ap (λ r. unwrap_or (option_map (λ v. rule_offset v n) r) (pos 0)) h)
text_offset-zone text (Tzif z) n h = absurd h
