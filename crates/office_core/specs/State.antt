-- The state of an office: plain lists, without an index.
use Rattle.std.specs.Prelude.{◌==◌, ℕ, zero, suc, Bool, List, slice_get, [], ◌∷◌, find, map, Option, None, Some, if◌then◌else◌}
use Rattle.std.specs.Str.{bytes_eq}
use Rattle.hazard_types.specs.declared.codes.Class.{Class}
use Rattle.hazard_types.specs.declared.line.Row.{Row}
use Rattle.office_types.specs.declared.request.Draft.{Draft}
use Rattle.office_types.specs.declared.request.Edition.{Edition}
use Rattle.office_types.specs.declared.request.Sent.{Sent}
use Rattle.desk_settings.specs.declared.settings.Settings.{Settings}
use Rattle.office_core.specs.declared.heard.DeskRecord.{DeskRecord}
use Rattle.office_core.specs.declared.heard.LastRequest.{LastRequest}

pub record State : Type 0 where
  pub settings : Settings
  pub class : Class
  -- the form of the texts that are written from now on
  pub edition : Edition
  -- by zone, then event
  pub rows : List Row
  -- the products, as they were sent: the n-th has number n
  pub products : List Sent
  -- the open drafts, in the order in which they were opened
  pub drafts : List Draft
  -- how many drafts were opened
  pub begun : ℕ
  -- one for each desk of the settings, in their order
  pub heard : List DeskRecord
  -- the minute of the last entry, 0 at first
  pub last : ℕ

abbrev pub no_requests : List ℕ → DeskRecord
no_requests desk = record { desk = desk; said = None }

-- before any request
abbrev pub first_state : Settings → Class → Edition → State
first_state settings class edition = record { settings = settings; class = class; edition = edition; rows = []; products = []; drafts = []; begun = 0; heard = map no_requests settings.desks; last = 0 }

-- the same in this edition
abbrev pub in_edition : Edition → State → State
in_edition edition s = record s { edition = edition }

abbrev pub is_draft : ℕ → Draft → Bool
is_draft id d = d.id == id

-- the open draft with this id
abbrev pub draft_at : State → ℕ → Option Draft
draft_at s id = find (is_draft id) s.drafts

-- the product with this number: products count from 1
abbrev pub product_in : List Sent → ℕ → Option Sent
product_in products zero = None
product_in products (suc n) = slice_get products n

abbrev pub product_at : State → ℕ → Option Sent
product_at s number = product_in s.products number

abbrev pub said_in : List DeskRecord → List ℕ → Option LastRequest
said_in [] desk = None
said_in (h ∷ heard) desk = if bytes_eq h.desk desk then h.said else said_in heard desk

-- a desk's last accepted request
abbrev pub said_by : State → List ℕ → Option LastRequest
said_by s desk = said_in s.heard desk

abbrev pub last_of : Option LastRequest → ℕ
last_of None = 0
last_of (Some said) = said.seq

-- a desk's last number, 0 where it has none
abbrev pub last_number : State → List ℕ → ℕ
last_number s desk = last_of (said_by s desk)
