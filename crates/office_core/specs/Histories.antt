-- Legal histories: lists of entries, each accepted at the state of those before it.
use Rattle.std.specs.Prelude.{◌≡◌, ◌++◌, ℕ, pos, Bool, List, [], ◌∷◌, Option, true, length, map, filter}
use Rattle.std.specs.Str.{bytes_eq}
use Rattle.hazard_types.specs.declared.codes.Class.{Class}
use Rattle.office_types.specs.declared.request.Edition.{Edition}
use Rattle.office_types.specs.declared.request.Edition.TheVariants.{One, Two}
use Rattle.office_types.specs.declared.request.Entry.{Entry}
use Rattle.desk_settings.specs.declared.settings.Settings.{Settings}
use Rattle.event_life.specs.Openings.{counted_from}
use Rattle.request_json.specs.Formed.{HasForm}
use Rattle.office_core.specs.State.{State, first_state, in_edition}
use Rattle.office_core.specs.Step.{Accepts, entry_of, state_after}
use Rattle.office_core.specs.declared.made.Made.{Made}

-- an edition never goes from Two to One
abbrev pub MayFollow : Edition → Edition → Type 0
MayFollow Two One = ⊥
MayFollow _ _ = Unit {0}

-- an accepted request: its entry, and the product that it made where it made one
pub record Entered : Type 0 where
  pub entry : Entry
  pub made : Option Made

abbrev pub entries_of : List Entered → List Entry
entries_of history = map (λ (x : Entered). x.entry) history

-- whether the record of an entry fits into the journal behind those of the earlier entries
module _ (fits : List Entered → Entered → Bool) where
  -- the entry is what its request is answered at the state, in the entry's edition, and its record fits behind those of the earlier ones
  pub record IsNext (earlier : List Entered) (s : State) (x : Entered) (next : State) : Type 0 where
    pub form : HasForm (record { desk = x.entry.desk; seq = x.entry.seq; request = x.entry.request })
    pub edition : MayFollow s.edition x.entry.edition
    pub accepted : Accepts (in_edition x.entry.edition s) x.entry.desk x.entry.seq x.entry.request (pos x.entry.minute) x.entry.minute x.made
    pub entry : x.entry ≡ entry_of (in_edition x.entry.edition s) x.entry.desk x.entry.seq x.entry.request x.entry.minute x.made
    pub fitting : fits earlier x ≡ true
    pub after : next ≡ state_after (in_edition x.entry.edition s) x.entry x.made

  -- the entries lead from one state to another
  abbrev pub LeadFrom : List Entered → State → List Entered → State → Type 0
  LeadFrom earlier s [] after = after ≡ s
  LeadFrom earlier s (x ∷ history) after = (next : State) × IsNext earlier s x next × LeadFrom (earlier ++ x ∷ []) next history after

  -- a legal history of an office with these settings and class, and the state that it leads to
  abbrev pub IsLegal : Settings → Class → List Entered → State → Type 0
  IsLegal settings class history s = LeadFrom [] (first_state settings class One) history s

-- the numbers of a desk's entries, in order
abbrev pub numbers_by : List ℕ → List Entry → List ℕ
numbers_by desk entries = map (λ (e : Entry). e.seq) (filter (λ (e : Entry). bytes_eq e.desk desk) entries)

-- each request once: the numbers of each desk are 1, 2, .., in this order
abbrev pub StandOnce : List Entry → Type 0
StandOnce entries = (desk : List ℕ) → numbers_by desk entries ≡ counted_from 1 (length (numbers_by desk entries))
