-- The open event of a number is the holder of it, where it is of an earlier year.
use Rattle.std.proofs.Common.{◌≡◌, ◌∙◌, ℕ, List, Bool, true, false, Option, Some, None, refl, sym, ap, cond, nat_lt, option_map}
use Rattle.std.specs.List.{find}
use Rattle.hazard_types.specs.declared.hazard.Event.{Event}
use Rattle.hazard_types.specs.declared.line.Row.{Row}
use Rattle.office_types.specs.declared.refusal.Refusal.{Refusal}
use Rattle.office_types.specs.declared.refusal.Refusal.TheVariants as reason
use Rattle.event_life.specs.Products.{latest_open_event}
use Rattle.hazard_board.specs.Consistent.{IsConsistent}
use Rattle.action_planner.specs.Offences.{holds, held_by as held_of}
use Rattle.action_planner.proofs.GoingLemmas.{held_if_earlier as held_of_earlier, going_is_the_holder}
use Rattle.notice_json.specs.declared.refusal.NoticeRefusal.{NoticeRefusal}
use Rattle.notice_json.specs.declared.refusal.NoticeRefusal.TheVariants.{NumberHeld}
use Rattle.county_notices.specs.Commands.{held_by}

abbrev pub held_if_earlier : Event → Option Event → Option NoticeRefusal
held_if_earlier e None = None
held_if_earlier e (Some d) = cond (nat_lt d.year e.year) (Some (NumberHeld d)) None

told : Option Refusal → Option NoticeRefusal
told (Some (reason.NumberHeld e)) = Some (NumberHeld e)
told _ = None

told_earlier : (e d : Event) (b : Bool) → told (cond b (Some (reason.NumberHeld d)) None) ≡ cond b (Some (NumberHeld d)) None
unfolding told
told_earlier e d true = refl
told_earlier e d false = refl

told_going : (e : Event) (o : Option Event) → told (held_of_earlier e o) ≡ held_if_earlier e o
unfolding told
told_going e None = refl
told_going e (Some d) = told_earlier e d (nat_lt d.year e.year)

told_row : (o : Option Row) → told (option_map held_of o) ≡ option_map held_by o
unfolding told
told_row None = refl
told_row (Some row) = refl

pub going_holds : (rows : List Row) (t : ℕ) (e : Event) → IsConsistent rows t → held_if_earlier e (latest_open_event rows e.hazard e.etn t) ≡ option_map held_by (find (holds t e) rows)
going_holds rows t e h = sym (told_going e (latest_open_event rows e.hazard e.etn t)) ∙ ap told (going_is_the_holder rows t e h) ∙ told_row (find (holds t e) rows)
