use Rattle.std.proofs.Common.{◌≡◌, ◌∙◌, [], Some, ap, sym, append-nil, string_bytes, option_and_then, rules}
use Rattle.toml.specs.View.{view, table_view, members_view}
use Rattle.toml.specs.Data.{as_str}
use Rattle.hazard_types.specs.Names.{zone_at}
use Rattle.desk_settings.specs.Reading.{zone_pairs, zone_name_in}
use Rattle.desk_settings.proofs.ZoneOrder.{pairs_next, table_in_order}
use Rattle.desk_settings.proofs.fields.zones_of.Goals as goal

pub loop-key-preserved : goal.loop-key-preserved
loop-key-preserved c =
    let l = c.loop-key in
    let code : zone_at (string_bytes c.in-Some.key.now) ≡ Some c.in-Some-parse_zone.zone = search rules in
    let named : option_and_then zone_name_in (as_str (view c.in-Some.value.now)) ≡ Some c.in-Some-zone_name_in.text.now = search rules in
    let next = pairs_next l.zones (string_bytes c.in-Some.key.now) c.in-Some-zone_name_in.text.now c.in-Some-parse_zone.zone (view c.in-Some.value.now) (members_view c.next.new.self) code named in
    let inv = rw c.in-Some.ensures.steps at l.invariant in
    rw (c.in_ok-push.ensures.ok, c.in_ok-name.ensures) (rw c.as_bytes-in-loop-key.ensures.value (inv ∙ next))

pub returns : goal.returns
returns c =
    let l = c.loop-key in
    let none : l.key-iterator ≡ [] = search rules in
    let rest = rw none at l.invariant in
    let read : zone_pairs (table_view c.args.table.now) ≡ Some l.zones = rest ∙ ap Some (append-nil l.zones) in
    rw read (sym (table_in_order c.args.table.now.entries (Some l.zones) c.iter-key-items.ensures.ordered read))
