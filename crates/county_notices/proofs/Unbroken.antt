-- What a command says that breaks no rule.
use Rattle.std.proofs.Common.{◌≡◌, ◌≤◌, length, not, ℕ, List, false, Option, Some, None, refl, cond, nat_lt, option_map}
use Rattle.std.specs.List.{AllByRecursion, IsDistinct, find}
use Rattle.std.specs.Option.{is_none}
use Rattle.std.proofs.lemmas.Bool.{ltb-false, not-false}
use Rattle.hazard_types.specs.Places.{Place}
use Rattle.hazard_types.specs.Same.{same_zone}
use Rattle.hazard_types.specs.declared.hazard.Event.{Event}
use Rattle.hazard_types.specs.declared.line.Row.{Row}
use Rattle.event_life.specs.Products.{has_rows}
use Rattle.action_planner.specs.Fitting.{is_valid_zone_list}
use Rattle.action_planner.specs.Offences.{holds}
use Rattle.action_planner.proofs.FittingLemmas.{zones_Decide}
use Rattle.action_planner.proofs.LawfulLists.{all_each, find_none, none_from}
use Rattle.notice_json.specs.Commands.{hazard_of}
use Rattle.notice_json.specs.declared.command.Command.{Command}
use Rattle.notice_json.specs.declared.command.Deed.{Deed}
use Rattle.notice_json.specs.declared.command.Deed.TheVariants as deed
use Rattle.notice_json.specs.declared.refusal.NoticeRefusal.{NoticeRefusal}
use Rattle.county_notices.specs.Commands.{Noticed, bad_end, bad_zones, broken, broken_by_itself, broken_by_rows, gone_in, has_bad_end, held_by, is_gone, left_before, county_left, left_in, no_watch, not_county, county_gone, not_live, number_held, number_used, time_back, time_out, was_left}
use Rattle.county_notices.specs.Lines.{event_by, new_event, open_event}
use Rattle.county_notices.proofs.LineLemmas.{IsFitFor, MayBe, going_is}
use Rattle.county_notices.proofs.RuleLemmas.{none_given, not_refused}

-- its event, and what holds of that
pub record IsKept (s : Noticed) (c : Command) : Type 0 where
  pub event : Event
  pub is : event_by s.rows c c.deed ≡ Some event
  pub hazard : event.hazard ≡ hazard_of c.watch
  pub number : event.etn ≡ c.number
  pub later : s.last ≤ c.at
  pub minute : c.at ≤ 52000000
  pub some : 1 ≤ length c.zones
  pub once : IsDistinct same_zone c.zones
  pub period : has_bad_end c.at c.deed ≡ false
  pub fit : IsFitFor s.rows c.at event c.deed
  pub may : AllByRecursion (MayBe s.rows c.at event c.deed) c.zones

map_none : {X Y : Type 0} (f : X → Y) (o : Option X) → option_map f o ≡ None → o ≡ None
map_none f None h = refl
map_none f (Some x) h = cc

-- what no rule of the command by itself tells
record IsKeptAlone (last : ℕ) (c : Command) : Type 0 where
  later : last ≤ c.at
  minute : c.at ≤ 52000000
  some : 1 ≤ length c.zones
  once : IsDistinct same_zone c.zones
  period : has_bad_end c.at c.deed ≡ false

kept_alone : (last : ℕ) (c : Command) → broken_by_itself last c ≡ None → IsKeptAlone last c
unfolding broken_by_itself
kept_alone last c h =
    let a = none_given (time_out c) _ h in
    let b = none_given (time_back last c) _ a.1 in
    let z = none_given (bad_zones c) _ b.1 in
    let k = none_given (not_county c) _ z.1 in
    let e = none_given (bad_end c) _ k.1 in
    let zones = (zones_Decide c.zones).0 (not-false _ (not_refused (not (is_valid_zone_list c.zones)) _ z.0)) in
    record {
      later = ltb-false c.at last (not_refused (nat_lt c.at last) _ b.0);
      minute = ltb-false 52000000 c.at (not_refused (nat_lt 52000000 c.at) _ a.0);
      some = zones.some;
      once = zones.once;
      period = not_refused (has_bad_end c.at c.deed) _ e.0;
    }

-- what no rule by the rows tells
record IsKeptBy (rows : List Row) (c : Command) (d : Deed) : Type 0 where
  event : Event
  is : event_by rows c d ≡ Some event
  hazard : event.hazard ≡ hazard_of c.watch
  number : event.etn ≡ c.number
  fit : IsFitFor rows c.at event d
  may : AllByRecursion (MayBe rows c.at event d) c.zones

module _ (rows : List Row) (c : Command) where
  joined : (end : ℕ) (o : Option Event) → open_event rows c ≡ o → cond (is_none o) (Some Rattle.notice_json.specs.declared.refusal.NoticeRefusal.TheVariants.NoWatch) None ≡ None → left_in rows c o ≡ None → IsKeptBy rows c (deed.Join end)
  joined end None is h g = cc
  joined end (Some e) is h g =
      let going = going_is rows (hazard_of c.watch) c.number c.at e is in
      record { event = e; is = is; hazard = going.hazard; number = going.number; fit = going.going; may = find_none (was_left rows c.at e) c.zones (map_none county_left (find (was_left rows c.at e) c.zones) g) }

  ended : (o : Option Event) → open_event rows c ≡ o → cond (is_none o) (Some Rattle.notice_json.specs.declared.refusal.NoticeRefusal.TheVariants.NoWatch) None ≡ None → gone_in rows c o ≡ None → IsKeptBy rows c deed.End
  ended None is h g = cc
  ended (Some e) is h g =
      let going = going_is rows (hazard_of c.watch) c.number c.at e is in
      record { event = e; is = is; hazard = going.hazard; number = going.number; fit = going.going; may = find_none (is_gone rows c.at e) c.zones (map_none county_gone (find (is_gone rows c.at e) c.zones) g) }

  kept_by : (d : Deed) → number_used rows c d ≡ None → number_held rows c d ≡ None → no_watch rows c d ≡ None → left_before rows c d ≡ None → not_live rows c d ≡ None → IsKeptBy rows c d
  kept_by (deed.Open end) used held free was gone_none =
      let e = new_event c in
      record {
        event = e;
        is = refl;
        hazard = refl;
        number = refl;
        fit = (not_refused (has_rows rows e) _ used, none_from (holds c.at e) rows (find_none (holds c.at e) rows (map_none held_by (find (holds c.at e) rows) held)), refl);
        may = all_each (λ (z : Place). Unit {0}) (λ z. tt) c.zones;
      }
  kept_by (deed.Join end) used held free was gone_none = joined end (open_event rows c) refl free was
  kept_by deed.End used held free was gone_none = ended (open_event rows c) refl free gone_none

pub kept : (s : Noticed) (c : Command) → broken s c ≡ None → IsKept s c
unfolding broken_by_rows
kept s c h =
    let p = none_given (broken_by_itself s.last c) (broken_by_rows s.rows c) h in
    let a = kept_alone s.last c p.0 in
    let used = none_given (number_used s.rows c c.deed) _ p.1 in
    let held = none_given (number_held s.rows c c.deed) _ used.1 in
    let free = none_given (no_watch s.rows c c.deed) _ held.1 in
    let was = none_given (left_before s.rows c c.deed) _ free.1 in
    let none = none_given (not_live s.rows c c.deed) _ was.1 in
    let k = kept_by s.rows c c.deed used.0 held.0 free.0 was.0 none.0 in
    record {
      event = k.event;
      is = k.is;
      hazard = k.hazard;
      number = k.number;
      later = a.later;
      minute = a.minute;
      some = a.some;
      once = a.once;
      period = a.period;
      fit = k.fit;
      may = k.may;
    }
