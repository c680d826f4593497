-- The rule of the lock, and what each step tells. Word 0 is the next ticket, word 1 the ticket that is served, word 2 the count of entries; slot 0 has the value while nobody has the turn.
use Rattle.std.specs.Prelude.{◌≡◌, ◌≢◌, ◌⊎◌, ℕ, ◌+◌, ◌-◌, ◌<◌, ◌≤◌, List, [], ◌∷◌, ◌++◌, length, slice_index, Option, Some, None}
use mathlib.Core.Option.{some}
use mathlib.Core.List.{IsPrefix}
use lib.ListN.{get_elem?}
use Rattle.atomic_table.specs.Table.{State, Me, Step}
use Rattle.turn_lock.specs.declared.view.View.{View}
use Rattle.turn_lock.specs.declared.view.Stage.{Stage}
use Rattle.turn_lock.specs.declared.view.Stage.TheVariants.{Idle, Waits, Serves, Learnt}
use Rattle.turn_lock.specs.Passes.{longer, shorter}

module _ {E : Type 0} where
  -- 1 where the view has the turn
  abbrev pub turn_of : Stage E → ℕ
  turn_of Idle = 0
  turn_of (Waits n) = 0
  turn_of (Serves n held) = 1
  turn_of (Learnt n) = 1

  -- 1 where the view holds a ticket
  abbrev pub ticket_of : Stage E → ℕ
  ticket_of Idle = 0
  ticket_of (Waits n) = 1
  ticket_of (Serves n held) = 1
  ticket_of (Learnt n) = 1

  -- A ticket has one owner, and lies from the one that is served up to the next one. Who has the turn has the ticket that is served, and took out a value with the whole list; who has learnt has seen the whole list
  module _ (owner : ℕ → ℕ) (next serving : ℕ) (log : List E) (seat : ℕ) (seen : List E) where
    abbrev pub Stands : Stage E → Type 0
    Stands Idle = Unit {0}
    Stands (Waits n) = (owner n ≡ seat) × (serving ≤ n) × (n < next)
    Stands (Serves n held) = (owner n ≡ seat) × (n ≡ serving) × (n < next) × (held ≡ log)
    Stands (Learnt n) = (owner n ≡ seat) × (n ≡ serving) × (n < next) × (seen ≡ log)

module _ {B E : Type 0} where
  abbrev pub staged : Stage E → View B E → View B E
  staged x v = record { stage = x; seen = v.seen; met = v.met; mine = v.mine; base = v.base; first = v.first; shares = v.shares }

  -- the view of a new lock's pass
  abbrev pub starting : B → List E → View B E
  starting b log = record { stage = Idle; seen = log; met = []; mine = []; base = Some b; first = length log; shares = 1024 }

  -- one share fewer
  abbrev pub cut : View B E → View B E
  cut v = record { stage = v.stage; seen = v.seen; met = v.met; mine = v.mine; base = v.base; first = v.first; shares = v.shares - 1 }

  -- the view that gets that share
  abbrev pub given : View B E → View B E
  given v = record { stage = Idle; seen = v.seen; met = []; mine = []; base = v.base; first = v.first; shares = 1 }

  abbrev pub both : View B E → View B E → View B E
  both v w = record { stage = v.stage; seen = longer v.seen w.seen; met = shorter v.seen w.seen; mine = v.mine ++ w.mine; base = v.base; first = v.first; shares = v.shares + w.shares }

  -- what is left of a view that was joined to another
  abbrev pub spent : View B E
  spent = record { stage = Idle; seen = []; met = []; mine = []; base = None; first = 0; shares = 0 }

  -- the view has seen the whole list
  abbrev pub taught : ℕ → List E → View B E → View B E
  taught n log v = record { stage = Learnt n; seen = log; met = []; mine = v.mine; base = v.base; first = v.first; shares = v.shares }

  -- the view added the last entry of this list, behind what it had seen
  abbrev pub grown : List E → View B E → View B E
  grown log v = record { stage = v.stage; seen = log; met = []; mine = v.mine ++ length v.seen ∷ []; base = v.base; first = v.first; shares = v.shares }

  abbrev pub total_of : (View B E → ℕ) → List (View B E) → ℕ
  total_of f [] = 0
  total_of f (v ∷ vs) = f v + total_of f vs

  -- what is true of each view that is not spent
  pub record Lives (base : B) (first : ℕ) (owner : ℕ → ℕ) (next serving : ℕ) (log : List E) (seat : ℕ) (v : View B E) : Type 0 where
    -- base: it has the one that `start` was given, and the first length
    pub based : v.base ≡ Some base
    pub began : v.first ≡ first
    -- history: what it has seen begins the longest list
    pub prefix : IsPrefix v.seen log
    pub opened : first ≤ length v.seen
    pub met : IsPrefix v.met v.seen
    -- shares: it has at least one
    pub shared : 0 < v.shares
    -- tickets, turn
    pub stands : Stands owner next serving log seat v.seen v.stage

  pub record IsSpent (v : View B E) : Type 0 where
    pub baseless : v.base ≡ None
    pub shareless : v.shares ≡ 0
    pub idle : v.stage ≡ Idle
    pub empty : v.mine ≡ []

module _ {T B E : Type 0} where
  -- nobody has the turn
  abbrev pub IsFree : State (Option T) (View B E) → Type 0
  IsFree s = (seat : ℕ) (v : View B E) → get_elem? s.views seat ≡ some v → turn_of v.stage ≡ 0

-- The rule: what is true of the lock between any two steps.
pub record KeepsTurns {T B E : Type 0} (base_of : T → B) (story_of : T → List E) (s : State (Option T) (View B E)) : Type 0 where
  pub base : B
  -- the first length
  pub first : ℕ
  -- the longest list, which has every entry so far
  pub log : List E
  -- whose a ticket is
  pub owner : ℕ → ℕ
  -- who added the entry at a place, and where the place stands among its own
  pub author : ℕ → ℕ
  pub rank : ℕ → ℕ
  pub wide : length s.words ≡ 3
  pub deep : length s.homes ≡ 1
  -- tickets: the next one is the served one plus the number of views with a ticket
  pub tickets : slice_index s.words 0 ≡ slice_index s.words 1 + total_of (λ v. ticket_of v.stage) s.views
  pub small : slice_index s.words 0 < 18446744073709551616
  -- history: the count is the length of the longest list
  pub count : slice_index s.words 2 ≡ length log
  pub start : first ≤ length log
  -- tickets, turn, history, base, shares: each view lives, or is spent
  pub each : (seat : ℕ) (v : View B E) → get_elem? s.views seat ≡ some v → IsSpent v ⊎ Lives base first owner (slice_index s.words 0) (slice_index s.words 1) log seat v
  -- places: there are as many as entries were added
  pub places : total_of (λ v. length v.mine) s.views + first ≡ length log
  -- places: each stands once, in the list of one view, from the first length on and within what that view has seen
  pub theirs : (seat : ℕ) (v : View B E) → get_elem? s.views seat ≡ some v → (i p : ℕ) → get_elem? v.mine i ≡ some p → (author p ≡ seat) × (rank p ≡ i) × (first ≤ p) × (p < length v.seen)
  -- places: each from the first length on stands in some list
  pub made : (p : ℕ) → first ≤ p → p < length log → (v : View B E) × (get_elem? s.views (author p) ≡ some v) × (get_elem? v.mine (rank p) ≡ some p)
  -- shares: they add up to 1,024
  pub all_shares : total_of (λ v. v.shares) s.views ≡ 1024
  -- slot, history, base: while nobody has the turn the value is at home, with the base and the longest list
  pub home : IsFree s → (x : T) × (get_elem? s.homes 0 ≡ some (some (Some x))) × (base_of x ≡ base) × (story_of x ≡ log)

module _ {T B E : Type 0} where
  -- a ticket was drawn, where the word was the one expected
  abbrev pub drawn : Step (Option T) → Me (Option T) (View B E) → ℕ → Me (Option T) (View B E) → Type 0
  drawn st m found m' = (found ≡ st.first → m' ≡ (staged (Waits found) m.0, m.1)) × (found ≢ st.first → m' ≡ m)

  -- the turn has come with the value, or nothing changed; who has all shares finds what it had seen
  abbrev pub looked : (T → B) → (T → List E) → Step (Option T) → Me (Option T) (View B E) → ℕ → Me (Option T) (View B E) → Type 0
  looked base_of story_of st m found m' = (n : ℕ) → m.0.stage ≡ Waits n
      → (found ≡ n → (x : T) × (m' ≡ (staged (Serves n (story_of x)) m.0, (0, Some x) ∷ m.1)) × (m.0.base ≡ Some (base_of x)) × IsPrefix m.0.seen (story_of x) × (m.0.shares ≡ 1024 → story_of x ≡ m.0.seen)) × (found ≢ n → m' ≡ m)

  -- what was taken out is the whole list, whose length was found
  abbrev pub learns : Step (Option T) → Me (Option T) (View B E) → ℕ → Me (Option T) (View B E) → Type 0
  learns st m found m' = (n : ℕ) (held : List E) → m.0.stage ≡ Serves n held → (m' ≡ (taught n held m.0, m.1)) × (found ≡ length held)

  -- the entry that the value in hand has more was added
  abbrev pub adds : (T → List E) → Step (Option T) → Me (Option T) (View B E) → ℕ → Me (Option T) (View B E) → Type 0
  adds story_of st m found m' = (x : T) (more : List (ℕ × Option T)) → m.1 ≡ (0, Some x) ∷ more → m' ≡ (grown (story_of x) m.0, m.1)

  -- the turn was passed on, and the value is at home
  abbrev pub passed : Step (Option T) → Me (Option T) (View B E) → ℕ → Me (Option T) (View B E) → Type 0
  passed st m found m' = m' ≡ (staged Idle m.0, [])

  -- after a join: each place is the seat's own once, and of the two lists that met the shorter begins the longer
  abbrev pub settles : Step (Option T) → Me (Option T) (View B E) → ℕ → Me (Option T) (View B E) → Type 0
  settles st m found m' = (m' ≡ m) × ((i j p : ℕ) → get_elem? m.0.mine i ≡ some p → get_elem? m.0.mine j ≡ some p → i ≡ j) × IsPrefix m.0.met m.0.seen
