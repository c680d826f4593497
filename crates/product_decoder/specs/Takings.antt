-- What was taken, product by product, and what it comes to.
use Rattle.std.specs.Prelude.{◌≡◌, ◌==◌, ◌&&◌, ◌<◌, ◌+◌, ℕ, Bool, List, [], ◌∷◌, ◌++◌, length, map, fold, Option, Some, None}
use Rattle.hazard_types.specs.Places.{Place}
use Rattle.hazard_types.specs.Same.{same_hazard}
use Rattle.hazard_types.specs.ZoneLines.{ZoneLine}
use Rattle.hazard_types.specs.contracts.codes.ActionPartialEq.TheImpl as action
use Rattle.hazard_types.specs.declared.codes.Action.{Action}
use Rattle.hazard_types.specs.declared.codes.Class.{Class}
use Rattle.hazard_types.specs.declared.hazard.Event.{Event}
use Rattle.hazard_types.specs.declared.line.Line.{Line}
use Rattle.hazard_types.specs.declared.line.Row.{Row}
use Rattle.hazard_types.specs.declared.line.Vtec.{Vtec}
use Rattle.hazard_types.specs.declared.period.End.{End}
use Rattle.hazard_types.specs.declared.period.End.TheVariants.{At, Ufn}
use Rattle.event_life.specs.declared.life.Breach.{Breach}
use Rattle.event_life.specs.Lives.{judged_product, steps_of}
use Rattle.event_life.specs.Openings.{events_opened_by}
use Rattle.event_life.specs.Products.{Product, event_of, end_of, lawful_of, put_all, rows_with, rows_of}
use Rattle.product_decoder.specs.declared.taken.Known.{Known}
use Rattle.product_decoder.specs.Runs.{Taken}
use Rattle.product_decoder.specs.declared.types.Found.{Found}
use Rattle.product_decoder.specs.declared.types.Track.{Track}
use Rattle.product_decoder.specs.Lives.{Living}
use Rattle.product_decoder.specs.ReaderModel.{found_in}

-- two P-VTEC lines of a product name one event
abbrev pub same_named : Vtec → Vtec → Bool
same_named a b = (a.etn == b.etn) && action.eq-value.it a.action b.action && same_hazard a.hazard b.hazard

-- an event that is known is that of its line
abbrev pub IsKnown : List Row → ℕ → Option Known → Type 0
IsKnown rows t None = Unit {0}
IsKnown rows t (Some k) = k.event ≡ event_of rows t k.vtec

-- what a line of a text says of this event
abbrev pub line_of_event : Event → ZoneLine → Line
line_of_event e said = record { action = said.vtec.action; event = e; zone = said.zone; begin = said.vtec.begin; end = end_of said.vtec.end; flood = said.flood }

-- the end that a text has: none is until further notice
abbrev pub minute_of : End → Option ℕ
minute_of (At m) = Some m
minute_of Ufn = None

-- what the text said of a zone, where it is of an office and class and this line was read of it
abbrev pub said_in : List ℕ → Class → Line → ZoneLine
said_in office class line = record {
  zone = line.zone;
  vtec = record { class = class; action = line.action; office = office; hazard = line.event.hazard; etn = line.event.etn; begin = line.begin; end = minute_of line.end };
  flood = line.flood;
}

-- a product of an office and class
abbrev pub product_taken : List ℕ → Class → Taken → Product
product_taken office class t = record { issue = t.issue; said = map (λ (l : Line × Option Breach). said_in office class l.0) t.judged }

-- a product of an office and class of which these lines were judged
abbrev pub product_judged : List ℕ → Class → ℕ → List (Line × Option Breach) → Product
product_judged office class issue judged = product_taken office class (record { issue = issue; judged = judged })

abbrev pub products_taken : List ℕ → Class → List Taken → List Product
products_taken office class taken = map (product_taken office class) taken

-- the lines of each product are judged by the rows before it
abbrev pub AreJudged : List ℕ → Class → List Row → List Taken → Type 0
AreJudged office class rows [] = Unit {0}
AreJudged office class rows (t ∷ taken) = (t.judged ≡ judged_product rows (product_taken office class t)) × AreJudged office class (rows_with rows (product_taken office class t)) taken

-- the rows after a product that was judged by these: each lawful line leaves its row
abbrev pub rows_with_taken : List Row → Taken → List Row
rows_with_taken rows t = put_all rows t.issue (lawful_of t.judged) rows

-- those after products that were judged, from none
abbrev pub rows_taken : List Taken → List Row
rows_taken taken = fold rows_with_taken [] taken

-- rows that are held are those after the products
abbrev pub AreLeft : Option (List Row) → List Product → Type 0
AreLeft None products = Unit {0}
AreLeft (Some rows) products = rows ≡ rows_of products

-- the rows, where they are held, are those after the products, which are judged and few
pub record IsRead (office : List ℕ) (class : Class) (held : Option (List Row)) (taken : List Taken) : Type 0 where
  pub left : AreLeft held (products_taken office class taken)
  pub judged : AreJudged office class [] taken
  pub few : length taken < 4294967296

abbrev pub steps_in : Event → Place → List Taken → List (Action × ℕ)
steps_in e z [] = []
steps_in e z (t ∷ taken) = steps_of t.issue e z (lawful_of t.judged) ++ steps_in e z taken

abbrev pub track_in : List Taken → Living → Track
track_in taken l = record { event = l.event; zone = l.zone; steps = steps_in l.event l.zone taken }

abbrev pub breaches_in : ℕ → List Taken → List Found
breaches_in count [] = []
breaches_in count (t ∷ taken) = found_in count t.judged ++ breaches_in (count + 1) taken

abbrev pub opened_in : List Taken → List Event
opened_in [] = []
opened_in (t ∷ taken) = events_opened_by (lawful_of t.judged) ++ opened_in taken
