-- What someone finds who has the texts of the notices alone.
use Rattle.std.specs.Prelude.{◌≡◌, ℕ, IsOk, List, [], ◌∷◌, map, Result, Ok, Err}
use Rattle.std.specs.List.{All, AllByRecursion, flat_map}
use Rattle.hazard_types.specs.Places.{Place}
use Rattle.hazard_types.specs.declared.codes.Class.TheVariants.{O}
use Rattle.hazard_types.specs.declared.hazard.Event.{Event}
use Rattle.hazard_types.specs.declared.line.Row.{Row}
use Rattle.event_life.specs.Lives.{IsLawfulLife}
use Rattle.event_life.specs.Openings.{opened_of}
use Rattle.event_life.specs.Products.{Product, rows_of}
use Rattle.notice_json.specs.Formed.{HasForm}
use Rattle.notice_json.specs.declared.command.Command.{Command}
use Rattle.notice_json.specs.declared.command.Deed.{Deed}
use Rattle.notice_json.specs.declared.command.Deed.TheVariants as deed
use Rattle.product_decoder.specs.Decoded.{decode}
use Rattle.product_decoder.specs.ReaderModel.{product_of}
use Rattle.product_decoder.specs.declared.types.Decoded.{Decoded}
use Rattle.product_frame.specs.Splitting.{IsOneProduct}
use Rattle.product_frame.specs.declared.frame.FrameFault.{FrameFault}
use Rattle.county_notices.specs.Apart.{IsOfOthers}
use Rattle.county_notices.specs.Commands.{Noticed}
use Rattle.county_notices.specs.Lines.{new_event}
use Rattle.county_notices.specs.NoticeHistory.{IsAccepted, after}

-- an accepted command, and its notice
pub record Noted : Type 0 where
  pub command : Command
  pub text : List ℕ

-- accepted commands, one after another, with their notices; and what they leave
abbrev pub IsHistory : Noticed → List Noted → Noticed → Type 0
IsHistory s [] z = z ≡ s
IsHistory s (n ∷ later) z = HasForm n.command × IsAccepted s n.command n.text × IsHistory (after s n.command) later z

-- the product that a reader of the office and class O finds in a text, if it decodes
abbrev pub product_in : List ℕ → Result Decoded FrameFault → List Product
product_in office (Err fault) = []
product_in office (Ok decoded) = product_of office O decoded ∷ []

abbrev pub products_in : List ℕ → List (List ℕ) → List Product
products_in office texts = flat_map (λ (text : List ℕ). product_in office (decode text)) texts

abbrev pub texts_of : List Noted → List (List ℕ)
texts_of notes = map (λ (n : Noted). n.text) notes

abbrev pub products_read : List ℕ → List Noted → List Product
products_read office notes = products_in office (texts_of notes)

-- the events of the commands that open one: each has the number that was handed in, and the year of its minute
abbrev pub opened_by_deed : Command → Deed → List Event
opened_by_deed c (deed.Open end) = new_event c ∷ []
opened_by_deed c (deed.Join end) = []
opened_by_deed c deed.End = []

abbrev pub opened_in : List Noted → List Event
opened_in notes = flat_map (λ (n : Noted). opened_by_deed n.command n.command.deed) notes

-- A reader of the notices alone: each decodes and is one product, so that they are parted again when they are written one after another; every life is lawful; the events that are opened have the numbers that were handed in; and the rows are those that the commands leave.
pub record ReadsAsNoted (office : List ℕ) (notes : List Noted) (rows : List Row) : Type 0 where
  pub whole : All (λ (text : List ℕ). IsOk (decode text)) (texts_of notes)
  pub apart : All IsOneProduct (texts_of notes)
  pub lives : (e : Event) (z : Place) → IsLawfulLife (products_read office notes) e z
  pub numbers : opened_of (products_read office notes) ≡ opened_in notes
  pub rows_are : rows_of (products_read office notes) ≡ rows
  -- all lines are of watches, which are none of the hazards that the desk issues
  pub others : AllByRecursion IsOfOthers (products_read office notes)
