-- Steps of events in zones, found by event and zone.
use Rattle.std.specs.Prelude.{◌++◌, ℕ, List, [], ◌∷◌, fold, map, unwrap_or}
use Rattle.std.specs.BTreeMap.{insert_entry, is_at}
use Rattle.std.specs.Map.{lookup}
use Rattle.hazard_types.specs.declared.codes.Action.{Action}
use Rattle.hazard_types.specs.declared.line.Line.{Line}
use Rattle.event_life.specs.Products.{lawful_of}
use Rattle.row_index.specs.declared.verdicts.Run.{Run}
use Rattle.row_index.specs.Verdicts.{expand_run}
use Rattle.product_decoder.specs.Runs.{Judged, Taken}
use Rattle.product_decoder.specs.declared.types.Track.{Track}
use Rattle.product_decoder.specs.Lives.{Living, by_living}

abbrev pub Step : Type 0
Step = Action × ℕ

-- the steps of each event in a zone, by event, then zone
abbrev pub Steps : Type 0
Steps = List (Living × List Step)

-- those of an event in a zone, which has none where it does not stand
abbrev pub steps_at : Steps → Living → List Step
steps_at steps l = unwrap_or (lookup (is_at (by_living l)) steps) []

-- one step more
abbrev pub with_step : Steps → Living → Step → Steps
with_step steps l s = insert_entry by_living steps l (steps_at steps l ++ s ∷ [])

abbrev pub living_of : Line → Living
living_of line = record { event = line.event; zone = line.zone }

-- that of the event and zone of a line
abbrev pub with_line : ℕ → Steps → Line → Steps
with_line issue steps line = with_step steps (living_of line) (line.action, issue)

-- those of the lawful lines among these
abbrev pub with_lines : ℕ → Steps → List Judged → Steps
with_lines issue steps judged = fold (with_line issue) steps (lawful_of judged)

-- those of the lawful lines of runs
abbrev pub with_runs : ℕ → Steps → List Run → Steps
with_runs issue steps [] = steps
with_runs issue steps (r ∷ runs) = with_runs issue (with_lines issue steps (expand_run r)) runs

-- those of the lawful lines of a product
abbrev pub with_product : Steps → Taken → Steps
with_product steps t = with_lines t.issue steps t.judged

abbrev pub steps_of_all : List Taken → Steps
steps_of_all taken = fold with_product [] taken

abbrev pub track_at : Steps → Living → Track
track_at steps l = record { event = l.event; zone = l.zone; steps = steps_at steps l }

-- the life that steps tell
abbrev pub track_told : Living × List Step → Track
track_told e = record { event = e.0.event; zone = e.0.zone; steps = e.1 }

-- the lives that steps tell
abbrev pub tracks_told : Steps → List Track
tracks_told steps = map track_told steps
