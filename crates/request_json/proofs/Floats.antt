-- The members of a refusal have no float.
use Rattle.std.proofs.Common.{◌≡◌, ℕ, ℤ, pos, negsuc, List, [], ◌∷◌, false, map, refl, codes}
use Rattle.serde_json.specs.Data.{Data, Members, number}
use Rattle.serde_json.specs.Find.{of_integer}
use Rattle.office_types.specs.declared.refusal.Refusal.{Refusal}
use Rattle.office_types.specs.declared.refusal.Refusal.TheVariants as refusal
use Rattle.json_parts.specs.Written.{set_text, set_zone, refusal_members}
use Rattle.json_parts.proofs.Floats.{no_float_put, put_text_no_float, put_number_no_float, labelled_no_float}
use Rattle.request_json.specs.Replies.{set_event_zone, set_clash, set_field_and_index, set_values}
use Rattle.hazard_types.specs.Calendar.{stamp_of}
use Rattle.hazard_types.specs.Hazards.{hazard_code}
use Rattle.hazard_types.specs.Names.{zone_text, event_text}
use Rattle.hazard_types.specs.Places.{Place}
use Rattle.hazard_types.specs.declared.hazard.Event.{Event}
use Rattle.serde_json.specs.View.{items_of}
use Rattle.serde_json.specs.Written.{has_float, items_have_float, members_have_float}

signed_no_float : (z : ℤ) → has_float (number (of_integer z)) ≡ false
signed_no_float (pos n) = refl
signed_no_float (negsuc n) = refl

zone_no_float : (z : Place) (ms : Members) → members_have_float ms ≡ false → members_have_float (set_zone z ms) ≡ false
zone_no_float z ms h = put_text_no_float (codes "zone") (zone_text z) ms h

event_zone_no_float : (e : Event) (z : Place) (ms : Members) → members_have_float ms ≡ false → members_have_float (set_event_zone e z ms) ≡ false
event_zone_no_float e z ms h = put_text_no_float (codes "event") (event_text e) (set_zone z ms) (zone_no_float z ms h)

clash_no_float : (z : Place) (a b : Event) (ms : Members) → members_have_float ms ≡ false → members_have_float (set_clash z a b ms) ≡ false
clash_no_float z a b ms h =
    let one = put_text_no_float (codes "first") (event_text a) (set_zone z ms) (zone_no_float z ms h) in
    put_text_no_float (codes "second") (event_text b) (set_text (codes "first") (event_text a) (set_zone z ms)) one

place_no_float : (field : List ℕ) (at : ℕ) (ms : Members) → members_have_float ms ≡ false → members_have_float (set_field_and_index field at ms) ≡ false
place_no_float field at ms h = put_number_no_float (codes "at") at (set_text (codes "field") field ms) (put_text_no_float (codes "field") field ms h)

values_no_float : (r : Refusal) (ms : Members) → members_have_float ms ≡ false → members_have_float (set_values r ms) ≡ false
unfolding set_values
values_no_float refusal.BadHead ms h = h
values_no_float refusal.HeadTooLong ms h = h
values_no_float refusal.NoRoute ms h = h
values_no_float refusal.WrongMethod ms h = h
values_no_float refusal.NoLength ms h = h
values_no_float refusal.BodyTooLong ms h = h
values_no_float refusal.LineTooLong ms h = h
values_no_float refusal.NotJson ms h = h
values_no_float (refusal.WrongShape field) ms h = put_text_no_float (codes "field") field ms h
values_no_float refusal.UnknownDesk ms h = h
values_no_float (refusal.Reused last) ms h = put_number_no_float (codes "last") last ms h
values_no_float (refusal.Stale last) ms h = put_number_no_float (codes "last") last ms h
values_no_float (refusal.Gap last) ms h = put_number_no_float (codes "last") last ms h
values_no_float (refusal.ClockOut minute) ms h = no_float_put (codes "minute") (number (of_integer minute)) ms (signed_no_float minute) h
values_no_float refusal.NoDraft ms h = h
values_no_float (refusal.NotOwner owner) ms h = put_text_no_float (codes "owner") owner ms h
values_no_float (refusal.StillActive free_at) ms h = put_text_no_float (codes "free_at") (stamp_of free_at) ms h
values_no_float refusal.DraftsFull ms h = h
values_no_float refusal.IntentsFull ms h = h
values_no_float (refusal.NoIntent place) ms h = put_number_no_float (codes "place") place ms h
values_no_float (refusal.UnknownZone zone) ms h = put_text_no_float (codes "zone") (zone_text zone) ms h
values_no_float refusal.UnknownHazard ms h = h
values_no_float (refusal.WrongZoneKind zone) ms h = put_text_no_float (codes "zone") (zone_text zone) ms h
values_no_float refusal.WrongCategory ms h = h
values_no_float (refusal.BadText field at) ms h = place_no_float field at ms h
values_no_float (refusal.TextTooLong field) ms h = put_text_no_float (codes "field") field ms h
values_no_float refusal.BadZoneList ms h = h
values_no_float refusal.NoProduct ms h = h
values_no_float refusal.EmptyDraft ms h = h
values_no_float (refusal.NoEvent event) ms h = put_text_no_float (codes "event") (event_text event) ms h
values_no_float (refusal.NotLive event zone) ms h = event_zone_no_float event zone ms h
values_no_float (refusal.LeftBefore event zone) ms h = event_zone_no_float event zone ms h
values_no_float (refusal.Twice event zone) ms h = event_zone_no_float event zone ms h
values_no_float (refusal.BadPeriod place) ms h = put_number_no_float (codes "place") place ms h
values_no_float (refusal.BegunMoved event zone) ms h = event_zone_no_float event zone ms h
values_no_float (refusal.NoOpenEnd place) ms h = put_number_no_float (codes "place") place ms h
values_no_float (refusal.FloodNeeded place) ms h = put_number_no_float (codes "place") place ms h
values_no_float (refusal.FloodBarred place) ms h = put_number_no_float (codes "place") place ms h
values_no_float (refusal.SiteMoved event) ms h = put_text_no_float (codes "event") (event_text event) ms h
values_no_float (refusal.Conflict zone first second) ms h = clash_no_float zone first second ms h
values_no_float (refusal.NumberHeld event) ms h = put_text_no_float (codes "event") (event_text event) ms h
values_no_float (refusal.NumbersSpent hazard) ms h = put_text_no_float (codes "hazard") (hazard_code hazard) ms h
values_no_float (refusal.NotLast last) ms h = put_number_no_float (codes "last") last ms h
values_no_float refusal.NothingToCorrect ms h = h
values_no_float refusal.LettersSpent ms h = h
values_no_float (refusal.TooManyLines lines) ms h = put_number_no_float (codes "lines") lines ms h
values_no_float (refusal.TooLong bytes) ms h = put_number_no_float (codes "bytes") bytes ms h
values_no_float refusal.ProductsFull ms h = h
values_no_float refusal.JournalFull ms h = h

pub refusal_no_float : (r : Refusal) (l : List ℕ × List ℕ) → members_have_float (set_values r (refusal_members l)) ≡ false
refusal_no_float r l = values_no_float r (refusal_members l) (labelled_no_float l)

-- ---- lists

pub mapped_no_float : {X : Type 0} (f : X → Data) → ((x : X) → has_float (f x) ≡ false) → (xs : List X) → items_have_float (items_of (map f xs)) ≡ false
mapped_no_float f h [] = refl
mapped_no_float f h (x ∷ xs) = rw (h x, mapped_no_float f h xs) refl
