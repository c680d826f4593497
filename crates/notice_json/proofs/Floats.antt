-- The members of a refusal have no float, and its text no line feed.
use Rattle.std.proofs.Common.{◌≡◌, ◌≢◌, ℕ, List, false, codes}
use Rattle.std.specs.List.{All}
use Rattle.serde_json.specs.Data.{object, Members}
use Rattle.serde_json.specs.Written.{members_have_float}
use Rattle.hazard_types.specs.Calendar.{stamp_of}
use Rattle.hazard_types.specs.Names.{zone_text, event_text}
use Rattle.json_parts.specs.Written.{refusal_members}
use Rattle.json_parts.proofs.Floats.{put_text_no_float, put_number_no_float, labelled_no_float}
use Rattle.json_parts.proofs.Lines.{compact_line}
use Rattle.notice_json.specs.Refusals.{label, set_values, refusal_text}
use Rattle.notice_json.specs.declared.refusal.NoticeRefusal.{NoticeRefusal}
use Rattle.notice_json.specs.declared.refusal.NoticeRefusal.TheVariants as refusal

values_no_float : (r : NoticeRefusal) (ms : Members) → members_have_float ms ≡ false → members_have_float (set_values r ms) ≡ false
unfolding set_values
values_no_float refusal.LineTooLong ms h = h
values_no_float refusal.NotJson ms h = h
values_no_float (refusal.WrongShape field) ms h = put_text_no_float (codes "field") field ms h
values_no_float (refusal.TimeOut minute) ms h = put_text_no_float (codes "minute") (stamp_of minute) ms h
values_no_float (refusal.TimeBack last) ms h = put_text_no_float (codes "last") (stamp_of last) ms h
values_no_float refusal.BadZones ms h = h
values_no_float (refusal.NotCounty zone) ms h = put_text_no_float (codes "zone") (zone_text zone) ms h
values_no_float refusal.BadEnd ms h = h
values_no_float (refusal.NumberUsed event) ms h = put_text_no_float (codes "event") (event_text event) ms h
values_no_float (refusal.NumberHeld event) ms h = put_text_no_float (codes "event") (event_text event) ms h
values_no_float refusal.NoWatch ms h = h
values_no_float (refusal.LeftBefore zone) ms h = put_text_no_float (codes "zone") (zone_text zone) ms h
values_no_float (refusal.NotLive zone) ms h = put_text_no_float (codes "zone") (zone_text zone) ms h
values_no_float (refusal.TooLong bytes) ms h = put_number_no_float (codes "bytes") bytes ms h

pub refusal_no_float : (r : NoticeRefusal) (l : List ℕ × List ℕ) → members_have_float (set_values r (refusal_members l)) ≡ false
refusal_no_float r l = values_no_float r (refusal_members l) (labelled_no_float l)

pub refusal_line : (r : NoticeRefusal) → All (λ (b : ℕ). b ≢ 10) (refusal_text r)
unfolding refusal_text
refusal_line r = compact_line (object (set_values r (refusal_members (label r))))
