-- Tracks and lives: what the lawful lines of a list of products did to an event in a zone.
use Rattle.std.specs.Prelude.{◌≡◌, ℕ, Bool, true, false, List, [], ◌∷◌, ◌++◌, map, if◌then◌else◌, Option, Some, None, IfSome}
use Rattle.std.specs.List.{AllByRecursion, flat_map}
use Rattle.hazard_types.specs.Places.{Place}
use Rattle.hazard_types.specs.declared.codes.Action.{Action}
use Rattle.hazard_types.specs.declared.codes.Action.TheVariants.{New, Con, Exa, Ext, Exb, Upg, Can, Exp, Cor}
use Rattle.hazard_types.specs.declared.hazard.Event.{Event}
use Rattle.hazard_types.specs.declared.line.Line.{Line}
use Rattle.hazard_types.specs.declared.line.Row.{Row}
use Rattle.event_life.specs.declared.life.Breach.{Breach}
use Rattle.event_life.specs.Products.{Product, concerns, judged, lawful_of, lines_of, rows_with}

-- the lines of a product, each with its breach
abbrev pub judged_product : List Row → Product → List (Line × Option Breach)
judged_product rows p = judged rows p.issue (lines_of rows p.issue p.said)

-- action and issue minute of those lines that speak of the event in the zone
abbrev pub steps_of : ℕ → Event → Place → List Line → List (Action × ℕ)
steps_of issue e z [] = []
steps_of issue e z (line ∷ lines) = if concerns e z line then (line.action, issue) ∷ steps_of issue e z lines else steps_of issue e z lines

abbrev pub track_from : List Row → List Product → Event → Place → List (Action × ℕ)
track_from rows [] e z = []
track_from rows (p ∷ products) e z = steps_of p.issue e z (lawful_of (judged_product rows p)) ++ track_from (rows_with rows p) products e z

-- action and issue minute of the lawful lines of an event in a zone
abbrev pub track_of : List Product → Event → Place → List (Action × ℕ)
track_of products e z = track_from [] products e z

-- action and issue minute of all lines of an event in a zone, lawful or not
abbrev pub said_from : List Row → List Product → Event → Place → List (Action × ℕ)
said_from rows [] e z = []
said_from rows (p ∷ products) e z = steps_of p.issue e z (lines_of rows p.issue p.said) ++ said_from (rows_with rows p) products e z

abbrev pub said_of : List Product → Event → Place → List (Action × ℕ)
said_of products e z = said_from [] products e z

-- none of the lines that speak of the event in the zone has a breach
abbrev pub AreLawful : Event → Place → List (Line × Option Breach) → Type 0
AreLawful e z [] = Unit {0}
AreLawful e z (l ∷ ls) = (concerns e z l.0 ≡ true → l.1 ≡ None) × AreLawful e z ls

abbrev pub IsLawfulFrom : List Row → List Product → Event → Place → Type 0
IsLawfulFrom rows [] e z = Unit {0}
IsLawfulFrom rows (p ∷ products) e z = AreLawful e z (judged_product rows p) × IsLawfulFrom (rows_with rows p) products e z

-- the life of an event in a zone over a list of products is lawful
abbrev pub IsLawfulLife : List Product → Event → Place → Type 0
IsLawfulLife products e z = IsLawfulFrom [] products e z

-- The shape of a life.

-- a spell that is not the first opens with EXA or EXB
abbrev pub rejoins : Action → Bool
rejoins Exa = true
rejoins Exb = true
rejoins _ = false

abbrev pub opens : Action → Bool
opens New = true
opens a = rejoins a

abbrev pub goes_on : Action → Bool
goes_on Con = true
goes_on Cor = true
goes_on Ext = true
goes_on _ = false

abbrev pub ends : Action → Bool
ends Can = true
ends Exp = true
ends Upg = true
ends _ = false

-- A spell: what opens it, what it goes on with, and what ends it, if it has ended.
pub record Spell : Type 0 where
  pub opening : Action
  pub going : List Action
  pub ending : Option Action

abbrev pub at_end : Option Action → List Action
at_end None = []
at_end (Some a) = a ∷ []

-- its actions, in order
abbrev pub actions_in : Spell → List Action
actions_in s = s.opening ∷ (s.going ++ at_end s.ending)

-- it opens so, goes on with CON, COR or EXT, and ends with CAN, EXP or UPG where it ends
pub record IsSpell (opened : Action → Bool) (s : Spell) : Type 0 where
  pub first : opened s.opening ≡ true
  pub carried_on : AllByRecursion (λ (a : Action). goes_on a ≡ true) s.going
  pub last : IfSome s.ending (λ a. ends a ≡ true)

-- spells one after another: the first opens so, each later one with EXA or EXB, and one that has not ended is the last
abbrev pub AreSpells : (Action → Bool) → List Spell → Type 0
AreSpells opened [] = Unit {0}
AreSpells opened (s ∷ later) = IsSpell opened s × (s.ending ≡ None → later ≡ []) × AreSpells rejoins later

-- the actions are those of spells, of which the first opens so
abbrev pub IsOfSpells : (Action → Bool) → List Action → Type 0
IsOfSpells opened actions = (spells : List Spell) × AreSpells opened spells × (flat_map actions_in spells ≡ actions)

-- a life: spells one after another, of which the first opens with NEW, EXA or EXB
abbrev pub IsLife : List Action → Type 0
IsLife actions = IsOfSpells opens actions

abbrev pub actions_of : List (Action × ℕ) → List Action
actions_of steps = map (λ (s : Action × ℕ). s.0) steps
