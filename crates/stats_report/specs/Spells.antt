-- The minutes that rows still have, and what zones and hazards come to.
use Rattle.std.specs.Prelude.{ℕ, ◌+◌, ◌-◌, List, [], max, if◌then◌else◌, Option, Some, None, unwrap_or}
use Rattle.std.specs.BTreeMap.{insert_entry, is_at}
use Rattle.std.specs.Map.{lookup}
use Rattle.std.specs.declared.cmp.Ordering.{Ordering}
use Rattle.hazard_types.specs.Orders.{by_hazard, by_event}
use Rattle.hazard_types.specs.Places.{Place, by_place}
use Rattle.hazard_types.specs.declared.hazard.Event.{Event}
use Rattle.hazard_types.specs.declared.hazard.Hazard.{Hazard}
use Rattle.hazard_types.specs.declared.line.Line.{Line}
use Rattle.event_life.specs.Lives.{opens, ends}
use Rattle.stats_report.specs.Minutes.{cut_at}
use Rattle.stats_report.specs.declared.standing.Change.{Change}
use Rattle.stats_report.specs.declared.standing.Moment.{Moment}
use Rattle.stats_report.specs.declared.standing.Spell.{Spell}
use Rattle.stats_report.specs.declared.standing.Standing.{Standing}
use Rattle.stats_report.specs.declared.standing.Totals.{Totals}
use Rattle.stats_report.specs.declared.sums.Gain.{Gain}
use Rattle.stats_report.specs.declared.sums.Sums.{Sums}

abbrev pub moment_of : ℕ → ℕ → ℕ → Moment
moment_of stamp from issue = record { stamp = stamp; from = from; issue = issue }

-- how many minutes of a spell are from this one on
abbrev pub spell_left : ℕ → Spell → ℕ
spell_left from s = s.stop - max from s.start

abbrev pub left_of : ℕ → Option Spell → ℕ
left_of from None = 0
left_of from (Some s) = spell_left from s

-- the begin that a line prints; none is the issue minute
abbrev pub begin_printed : Line → ℕ → ℕ
begin_printed line t = unwrap_or line.begin t

-- the minutes that the row of a lawful line has from its product on
abbrev pub spell_after : Moment → Line → Spell
spell_after m line = if ends line.action then record { start = 0; stop = 0 } else record { start = begin_printed line m.issue; stop = cut_at m.stamp line.end }

-- what a lawful line adds, where its row had this spell
abbrev pub gain_of : Moment → Line → Option Spell → Gain
gain_of m line before = record {
  openings = if opens line.action then 1 else 0;
  lead = if opens line.action then begin_printed line m.issue - m.issue else 0;
  minutes = spell_left m.from (spell_after m line);
  gone = left_of m.from before;
}

abbrev pub gained : Sums → Gain → Sums
gained s g = record { openings = s.openings + g.openings; lead = s.lead + g.lead; minutes = (s.minutes + g.minutes) - g.gone }

abbrev pub no_sums : Sums
no_sums = record { openings = 0; lead = 0; minutes = 0 }

-- the sums at a key, those of nothing where there is none
abbrev pub sums_at : {K : Type 0} → (K → K → Ordering) → List (K × Sums) → K → Sums
sums_at cmp es k = unwrap_or (lookup (is_at (cmp k)) es) no_sums

-- What lines of one event change: its spells by zone, the zones' sums, its hazard's, and those of all.
pub record Turn : Type 0 where
  pub spells : List (Place × Spell)
  pub zones : List (Place × Sums)
  pub own : Sums
  pub all : Sums

abbrev pub turn_of : List (Place × Spell) → List (Place × Sums) → Totals → Turn
turn_of spells zones totals = record { spells = spells; zones = zones; own = totals.own; all = totals.all }

abbrev pub turned_by : Moment → Line → Gain → Turn → Turn
turned_by m line g turn = record {
  spells = insert_entry by_place turn.spells line.zone (spell_after m line);
  zones = insert_entry by_place turn.zones line.zone (gained (sums_at by_place turn.zones line.zone) g);
  own = gained turn.own g;
  all = gained turn.all g;
}

-- a lawful line changes its row
abbrev pub turned : Moment → Turn → Line → Turn
turned m turn line = turned_by m line (gain_of m line (lookup (is_at (by_place line.zone)) turn.spells)) turn

-- what a lawful line leaves of its row in a zone, and adds to the sums where no row was
abbrev pub change_of : Moment → Line → Change
change_of m line = record { from = m.from; spell = spell_after m line; gain = gain_of m line None }

-- what it adds where its row had this spell
abbrev pub gain_over : Change → Option Spell → Gain
gain_over c before = record { openings = c.gain.openings; lead = c.gain.lead; minutes = c.gain.minutes; gone = left_of c.from before }

abbrev pub turned_with : Change → Place → Gain → Turn → Turn
turned_with c z g turn = record {
  spells = insert_entry by_place turn.spells z c.spell;
  zones = insert_entry by_place turn.zones z (gained (sums_at by_place turn.zones z) g);
  own = gained turn.own g;
  all = gained turn.all g;
}

-- the line changes its row in a zone
abbrev pub turned_in : Change → Turn → Place → Turn
turned_in c turn z = turned_with c z (gain_over c (lookup (is_at (by_place z)) turn.spells)) turn

-- What is kept: spells by event and zone, and the sums of zones, hazards and all.
pub record Kept : Type 0 where
  pub spells : List (Event × List (Place × Spell))
  pub zones : List (Place × Sums)
  pub hazards : List (Hazard × Sums)
  pub all : Sums

abbrev pub kept_of : Standing → Kept
kept_of s = record { spells = s.spells.entries; zones = s.zones; hazards = s.hazards.entries; all = s.all }

abbrev pub spells_of : Kept → Event → List (Place × Spell)
spells_of k e = unwrap_or (lookup (is_at (by_event e)) k.spells) []

-- the spell of an event in a zone
abbrev pub spell_at : Kept → Event → Place → Option Spell
spell_at k e z = lookup (is_at (by_place z)) (spells_of k e)

-- what lines of an event change of this
abbrev pub turn_at : Kept → Event → Turn
turn_at k e = record { spells = spells_of k e; zones = k.zones; own = sums_at by_hazard k.hazards e.hazard; all = k.all }

-- and with that changed
abbrev pub with_turn : Kept → Event → Turn → Kept
with_turn k e turn = record {
  spells = insert_entry by_event k.spells e turn.spells;
  zones = turn.zones;
  hazards = insert_entry by_hazard k.hazards e.hazard turn.own;
  all = turn.all;
}
