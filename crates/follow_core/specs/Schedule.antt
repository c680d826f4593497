-- An office that goes on, a follower that asks it, and answers that may be late, lost or come again.
use Rattle.std.specs.Prelude.{◌≡◌, ◌==◌, ◌≤◌, ◌++◌, ℕ, Bool, true, false, List, [], ◌∷◌, length, take, slice_get, if◌then◌else◌, Option, Some, None, IsOk}
use Rattle.std.specs.List.{list_any, AllByRecursion}
use Rattle.hazard_types.specs.declared.codes.Class.{Class}
use Rattle.event_life.specs.Products.{rows_of}
use Rattle.event_life.specs.Shown.{shown_at}
use Rattle.product_decoder.specs.Decoded.{decode}
use Rattle.product_decoder.specs.ReaderModel.{Reading}
use Rattle.follow_core.specs.Hearing.{place_of, is_taken, having_taken, products_in}

-- the office's texts so far, the places after which the follower asked, the texts that it took, and the follower
pub record World : Type 0 where
  pub texts : List (List ℕ)
  pub asked : List ℕ
  pub taken : List (List ℕ)
  pub follower : Reading

-- What may happen next: the office has a text more, the follower asks after its place, the answer to a question comes, or it does not.
pub data Event : Type 0 where
  Appended : (text : List ℕ) → Event
  Asked : Event
  Delivered : (after : ℕ) → Event
  Lost : (after : ℕ) → Event

-- the answer to the question after a place, where that was asked at some time and the office has the text
abbrev pub answer_at : World → ℕ → Option (List ℕ)
answer_at w after = if list_any (λ (place : ℕ). place == after) w.asked then slice_get w.texts after else None

abbrev pub with_text : Bool → List ℕ → List (List ℕ)
with_text true text = text ∷ []
with_text false text = []

-- the answer comes: it is taken where it is the one asked for, and decodes
abbrev pub hearing : World → ℕ → Option (List ℕ) → World
hearing w after None = w
hearing w after (Some text) = record {
  texts = w.texts;
  asked = w.asked;
  taken = w.taken ++ with_text (is_taken (place_of w.follower) after text) text;
  follower = having_taken w.follower after text;
}

abbrev pub happens : World → Event → World
happens w (Appended text) = record { texts = w.texts ++ text ∷ []; asked = w.asked; taken = w.taken; follower = w.follower }
happens w Asked = record { texts = w.texts; asked = place_of w.follower ∷ w.asked; taken = w.taken; follower = w.follower }
happens w (Delivered after) = hearing w after (answer_at w after)
happens w (Lost after) = w

-- a whole schedule
abbrev pub run : List Event → World → World
run [] w = w
run (e ∷ es) w = run es (happens w e)

-- the office has no text, and nothing was asked
abbrev pub begun : List ℕ → Class → World
begun office class = record { texts = []; asked = []; taken = []; follower = record { office = office; class = class; products = [] } }

-- The texts that were taken are the office's first ones, as many as the place says; each decodes; the follower's products are those that a reader finds in them, so that it shows what that reader shows.
pub record HasLostNothing (office : List ℕ) (class : Class) (w : World) : Type 0 where
  pub first : w.taken ≡ take (place_of w.follower) w.texts
  pub within : place_of w.follower ≤ length w.texts
  pub whole : AllByRecursion (λ (text : List ℕ). IsOk (decode text)) w.taken
  pub products : w.follower.products ≡ products_in office class w.taken
  pub shown : (t : ℕ) → shown_at t (rows_of w.follower.products) ≡ shown_at t (rows_of (products_in office class (take (place_of w.follower) w.texts)))
  -- no question is ahead of the place
  pub asked : AllByRecursion (λ (place : ℕ). place ≤ place_of w.follower) w.asked

-- Some schedule leads to this follower.
abbrev pub IsReached : Reading → Type 0
IsReached f = (events : List Event) × ((run events (begun f.office f.class)).follower ≡ f)
