-- The rules on desks, numbers, the clock, drafts and the parts of a request: each one sentence over the state and the request, with what the refusal names. Their order is that of the list at the end.
use Rattle.std.specs.Prelude.{◌==◌, ◌||◌, ◌&&◌, not, ℕ, ℤ, pos, int_lt, ◌+◌, max, nat_abs, Bool, false, List, [], ◌∷◌, length, find, nat_lt, nat_le, Option, None, Some, is_none, option_map, if◌then◌else◌}
use Rattle.std.specs.List.{list_any}
use Rattle.std.specs.Str.{bytes_eq}
use Rattle.hazard_types.specs.Hazards.{facts_of}
use Rattle.hazard_types.specs.Places.{Place}
use Rattle.hazard_types.specs.declared.codes.Category.{Category}
use Rattle.office_types.specs.declared.refusal.Refusal.{Refusal}
use Rattle.office_types.specs.declared.refusal.Refusal.TheVariants as refusal
use Rattle.office_types.specs.declared.request.Draft.{Draft}
use Rattle.office_types.specs.declared.request.Intent.{Intent}
use Rattle.office_types.specs.declared.request.Intent.TheVariants as intent
use Rattle.office_types.specs.declared.request.Request.{Request}
use Rattle.office_types.specs.declared.request.Request.TheVariants.{Begin, Put, Drop, Correct}
use Rattle.office_types.specs.declared.request.Target.{Target}
use Rattle.office_types.specs.declared.request.Target.TheVariants.{Fresh, Join}
use Rattle.desk_settings.specs.Looking.{name_for_zone}
use Rattle.desk_settings.specs.declared.settings.Settings.{Settings}
use Rattle.action_planner.specs.Fitting.{of_other_kind, opens_with, is_valid_zone_list}
use Rattle.action_planner.specs.Lines.{follows}
use Rattle.action_planner.specs.Offences.{first_given}
use Rattle.action_planner.specs.Placed.{zones_of}
use Rattle.office_core.specs.Requests.{draft_of, hazard_of, intent_of, same_request, takes, texts_in}
use Rattle.office_core.specs.declared.heard.LastRequest.{LastRequest}
use Rattle.office_core.specs.State.{State, draft_at, last_number, product_at, said_by}
use Rattle.office_core.specs.Writing.{bad_text, first_texts, long_text}

-- ---- desks and their numbers

-- UnknownDesk: the desk is not in the settings
abbrev pub unknown_desk : State → List ℕ → Option Refusal
unknown_desk s desk = if list_any (bytes_eq desk) s.settings.desks then None else Some refusal.UnknownDesk

abbrev pub is_kept : Option LastRequest → ℕ → Request → Bool
is_kept None seq r = false
is_kept (Some said) seq r = (said.seq == seq) && same_request said.request r

-- the number is the desk's last and the request equals the kept one
abbrev pub is_repeated : State → List ℕ → ℕ → Request → Bool
is_repeated s desk seq r = is_kept (said_by s desk) seq r

-- Reused: the number is the last, and the request is another than the kept one
abbrev pub reused : ℕ → ℕ → Option Refusal
reused last seq = if seq == last then Some (refusal.Reused last) else None

-- Stale: the number is below the last
abbrev pub stale : ℕ → ℕ → Option Refusal
stale last seq = if nat_lt seq last then Some (refusal.Stale last) else None

-- Gap: the number is above the one behind the last
abbrev pub gap : ℕ → ℕ → Option Refusal
gap last seq = if nat_lt (last + 1) seq then Some (refusal.Gap last) else None

-- ClockOut: the reading is below 0 or above 52,000,000
abbrev pub is_out : ℤ → Bool
is_out reading = int_lt reading (pos 0) || int_lt (pos 52000000) reading

abbrev pub clock_out : ℤ → Option Refusal
clock_out reading = if is_out reading then Some (refusal.ClockOut reading) else None

-- the entry's minute: the later of the reading and the last entry's minute
abbrev pub minute_of : State → ℤ → ℕ
minute_of s reading = max (nat_abs reading) s.last

-- ---- drafts

-- NoDraft: no draft has this id
abbrev pub no_draft : State → Option ℕ → Option Refusal
no_draft s None = None
no_draft s (Some id) = if is_none (draft_at s id) then Some refusal.NoDraft else None

-- the draft that the request is on
abbrev pub found_draft : State → Option ℕ → Option Draft
found_draft s None = None
found_draft s (Some id) = draft_at s id

abbrev pub is_of_other_desk : List ℕ → Draft → Bool
is_of_other_desk desk d = not (bytes_eq d.owner desk)

-- NotOwner: another desk owns it; a take is not asked
abbrev pub not_owner : List ℕ → Request → Option Draft → Option Refusal
not_owner desk r None = None
not_owner desk r (Some d) = if is_of_other_desk desk d && not (takes r) then Some (refusal.NotOwner d.owner) else None

-- StillActive: a take by another desk, before ten minutes behind the last touch
abbrev pub still_active : List ℕ → ℕ → Request → Option Draft → Option Refusal
still_active desk t r None = None
still_active desk t r (Some d) = if is_of_other_desk desk d && takes r && nat_lt t (d.touched + 10) then Some (refusal.StillActive (d.touched + 10)) else None

-- DraftsFull: a draft is opened while there are 64
abbrev pub drafts_full : State → Request → Option Refusal
drafts_full s (Begin category) = if nat_le 64 (length s.drafts) then Some refusal.DraftsFull else None
drafts_full s _ = None

-- IntentsFull: an intent is put into a draft that has 64
abbrev pub intents_full : Option Intent → Option Draft → Option Refusal
intents_full (Some i) (Some d) = if nat_le 64 (length d.intents) then Some refusal.IntentsFull else None
intents_full _ _ = None

-- NoIntent: no intent stands at the place
abbrev pub no_intent : Request → Option Draft → Option Refusal
no_intent (Drop id place) (Some d) = if nat_le (length d.intents) place then Some (refusal.NoIntent place) else None
no_intent _ _ = None

-- ---- the parts of a request

-- the zone may be named: it is in the settings, or any zone may be
abbrev pub is_unknown_zone : Settings → Place → Bool
is_unknown_zone settings z = not settings.any_zone && is_none (name_for_zone settings.zones z)

-- UnknownZone: the settings have no such zone
abbrev pub unknown_zone : Settings → Option Intent → Option Refusal
unknown_zone settings None = None
unknown_zone settings (Some i) = option_map (λ (z : Place). refusal.UnknownZone z) (find (is_unknown_zone settings) (zones_of i))

-- UnknownHazard: the desk issues no such hazard
abbrev pub unknown_hazard : Option Intent → Option Refusal
unknown_hazard None = None
unknown_hazard (Some i) = if is_none (facts_of (hazard_of i)) then Some refusal.UnknownHazard else None

-- WrongZoneKind: a zone is of another kind than the hazard's
abbrev pub wrong_kind : Option Intent → Option Refusal
wrong_kind None = None
wrong_kind (Some i) = option_map (λ (z : Place). refusal.WrongZoneKind z) (find (of_other_kind (facts_of (hazard_of i))) (zones_of i))

abbrev pub is_of_category_by : Category → Target → Bool
is_of_category_by c (Fresh h) = opens_with c (facts_of h)
is_of_category_by c (Join e) = follows c (facts_of e.hazard)

-- the hazard is of the category: a new event's by the category that opens it, another by the one that follows it
abbrev pub is_of_category : Category → Intent → Bool
is_of_category c (intent.Put part) = is_of_category_by c part.target
is_of_category c i = follows c (facts_of (hazard_of i))

-- WrongCategory: the hazard is not of the draft's category
abbrev pub wrong_category : Option Intent → Option Draft → Option Refusal
wrong_category (Some i) (Some d) = if is_of_category d.category i then None else Some refusal.WrongCategory
wrong_category _ _ = None

-- BadZoneList: the list is empty, repeats a zone, or has more than 600
abbrev pub bad_zones : Option Intent → Option Refusal
bad_zones None = None
bad_zones (Some i) = if is_valid_zone_list (zones_of i) then None else Some refusal.BadZoneList

-- NoProduct: no product has this number
abbrev pub no_product : State → Request → Option Refusal
no_product s (Correct number given) = if is_none (product_at s number) then Some refusal.NoProduct else None
no_product s _ = None

-- ---- the order

abbrev pub number_rules : State → List ℕ → ℕ → ℤ → List (Option Refusal)
number_rules s desk seq reading =
    unknown_desk s desk
    ∷ reused (last_number s desk) seq
    ∷ stale (last_number s desk) seq
    ∷ gap (last_number s desk) seq
    ∷ clock_out reading
    ∷ []

-- on the draft d that the request is on
abbrev pub draft_rules : State → List ℕ → Request → ℕ → Option Draft → List (Option Refusal)
draft_rules s desk r t d =
    no_draft s (draft_of r)
    ∷ not_owner desk r d
    ∷ still_active desk t r d
    ∷ drafts_full s r
    ∷ intents_full (intent_of r) d
    ∷ no_intent r d
    ∷ []

-- on the parts, where the request is on the draft d, if on any
abbrev pub part_rules : State → Request → Option Draft → List (Option Refusal)
part_rules s r d =
    unknown_zone s.settings (intent_of r)
    ∷ unknown_hazard (intent_of r)
    ∷ wrong_kind (intent_of r)
    ∷ wrong_category (intent_of r) d
    ∷ first_texts bad_text (texts_in r)
    ∷ first_texts long_text (texts_in r)
    ∷ bad_zones (intent_of r)
    ∷ no_product s r
    ∷ []

abbrev pub first_of_two : Option Refusal → Option Refusal → Option Refusal
first_of_two None second = second
first_of_two (Some first) second = Some first

unfoldable pub broken_number : State → List ℕ → ℕ → ℤ → Option Refusal
broken_number s desk seq reading = first_given (number_rules s desk seq reading)

unfoldable pub broken_draft : State → List ℕ → Request → ℕ → Option Draft → Option Refusal
broken_draft s desk r t d = first_given (draft_rules s desk r t d)

unfoldable pub broken_part : State → Request → Option Draft → Option Refusal
broken_part s r d = first_given (part_rules s r d)

-- the first of these rules that is broken, in their order; of a repeated request only the desk is looked at
unfoldable pub broken_request : State → List ℕ → ℕ → Request → ℤ → Option Refusal
broken_request s desk seq r reading =
    if is_repeated s desk seq r then unknown_desk s desk else
    first_of_two (broken_number s desk seq reading)
    (first_of_two (broken_draft s desk r (minute_of s reading) (found_draft s (draft_of r)))
    (broken_part s r (found_draft s (draft_of r))))
