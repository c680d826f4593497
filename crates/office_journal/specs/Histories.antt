-- The histories that a journal may stand for.
use Rattle.std.specs.Prelude.{◌≡◌, ℕ, ◌+◌, Bool, List, [], Ok, length, leb}
use Rattle.hazard_types.specs.declared.codes.Class.TheVariants.{O}
use Rattle.office_types.specs.declared.request.Edition.{Edition}
use Rattle.desk_settings.specs.Reading.{settings_of}
use Rattle.desk_settings.specs.declared.settings.Settings.{Settings}
use Rattle.journal_core.specs.Image.{records, Image}
use Rattle.office_core.specs.Histories.{Entered, IsLegal, MayFollow}
use Rattle.office_core.specs.State.{State, in_edition}
use Rattle.office_journal.specs.Bodies.{bodies_of, entry_body}

-- the entries so far, and the edition of now
pub record History : Type 0 where
  pub entries : List Entered
  pub edition : Edition

abbrev pub bodies : List ℕ → History → List (List ℕ)
bodies file h = bodies_of file h.entries h.edition

-- The record of an entry fits behind those before it, with a byte behind them all: the journal's file has at most 268,435,456 bytes.
abbrev pub fits : List ℕ → List Entered → Entered → Bool
fits file earlier x = leb (length (records (bodies_of file earlier x.entry.edition)) + 6 + length (entry_body x)) 268435456

-- The settings' file reads as settings, the entries are a legal history of an operational office that has them, and this is its state, in the edition of now.
pub record IsHistory (file : List ℕ) (h : History) (s : State) : Type 0 where
  pub settings : Settings
  pub read : settings_of file ≡ Ok settings
  pub last : State
  pub legal : IsLegal (fits file) settings O h.entries last
  pub edition : MayFollow last.edition h.edition
  pub state : s ≡ in_edition h.edition last

-- the bytes are an image of exactly this history of an office with this settings' file
pub record ImageOf (bytes file : List ℕ) (h : History) : Type 0 where
  pub state : State
  pub history : IsHistory file h state
  pub image : Image bytes (bodies file h)

-- before any request
abbrev pub empty : Edition → History
empty edition = record { entries = []; edition = edition }
