-- A follower of an office whose history is legal: what it shows is the office's board after a front of the history.
use Rattle.std.specs.Prelude.{◌≡◌, ◌++◌, ℕ, Bool, true, List, length}
use Rattle.hazard_types.specs.declared.codes.Class.{Class}
use Rattle.desk_settings.specs.AreSettings.{HasForms}
use Rattle.desk_settings.specs.declared.settings.Settings.{Settings}
use Rattle.event_life.specs.Products.{rows_of}
use Rattle.event_life.specs.Shown.{shown_at}
use Rattle.product_template.specs.Bodies.{is_training}
use Rattle.office_core.specs.Agreement.{texts_of}
use Rattle.office_core.specs.Histories.{Entered, IsLegal}
use Rattle.office_core.specs.State.{State}
use Rattle.follow_core.specs.Hearing.{place_of}
use Rattle.follow_core.specs.Schedule.{World}

-- what is asked of the settings and the class where an office is made
pub record MayBegin (settings : Settings) (class : Class) : Type 0 where
  pub forms : HasForms settings
  pub training : settings.any_zone ≡ true → is_training class ≡ true

-- these are the texts of the state's first products
abbrev pub AreFirstTexts : State → List (List ℕ) → Type 0
AreFirstTexts s texts = (later : List (List ℕ)) × (texts_of s ≡ texts ++ later)

module _ (fits : List Entered → Entered → Bool) (settings : Settings) (class : Class) where
  -- these are the texts of all products after a front of the history: its first entries, legal too, and the state that they lead to
  pub record EndAtAFront (history : List Entered) (taken : List (List ℕ)) : Type 0 where
    pub front : List Entered
    pub later : List Entered
    pub parts : history ≡ front ++ later
    pub state : State
    pub legal : IsLegal fits settings class front state
    pub texts : texts_of state ≡ taken

  -- The follower took the texts of all products after a front of the history, as many as its place; its rows are those of the board then, so that both show the same at each minute.
  pub record ShowsTheBoard (history : List Entered) (w : World) : Type 0 where
    pub at : EndAtAFront history w.taken
    pub place : place_of w.follower ≡ length at.state.products
    pub rows : rows_of w.follower.products ≡ at.state.rows
    pub shown : (t : ℕ) → shown_at t (rows_of w.follower.products) ≡ shown_at t at.state.rows
