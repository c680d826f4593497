-- What is asked and heard on one link.
use Rattle.std.specs.Prelude.{◌≡◌, ◌≢◌, ◌≤◌, ◌<◌, ◌⊎◌, ◌++◌, ◌+◌, ℕ, Bool, true, false, List, [], ◌∷◌, map, codes, decimal, is_ok}
use Rattle.program_ends.specs.Ends.{Begins}
use Rattle.product_decoder.specs.Decoded.{decode}
use Rattle.product_decoder.specs.ReaderModel.{Reading}
use Rattle.follow_core.specs.Hearing.{place_of, having_taken}
use Rattle.follow_links.specs.Answers.{Answer, IsAnswer, HasBadHead, IsFront, no_product}
use Rattle.follow_links.specs.declared.talk.LinkEnd.{LinkEnd}
use Rattle.follow_links.specs.declared.talk.LinkEnd.TheVariants.{Spent, Closed, Failed, Ended, Bad, OutOfMemory}

-- the question after a place
abbrev pub ask : ℕ → List ℕ
ask place = codes "GET /products/after/" ++ (decimal place ++ codes " HTTP/1.1\r\n\r\n")

-- the bytes are an answer with a text, which is taken at this place
pub record IsText (place : ℕ) (bytes : List ℕ) (a : Answer) : Type 0 where
  pub is : IsAnswer bytes a
  pub status : a.status ≡ 200
  pub decodes : is_ok (decode a.body) ≡ true
  pub few : place < 8192

-- a 404 that says something else, a text that does not decode, or a text at place 8,192
abbrev pub IsRefused : ℕ → Answer → Type 0
IsRefused place a =
    ((a.status ≡ 404) × (a.body ≢ no_product))
    ⊎ ((a.status ≡ 200) × ((8192 ≤ place) ⊎ (is_ok (decode a.body) ≡ false)))

-- the bytes are a bad answer
abbrev pub IsBad : ℕ → List ℕ → Type 0
IsBad place bytes = HasBadHead bytes ⊎ ((a : Answer) × IsAnswer bytes a × IsRefused place a)

-- the bytes are the answer that the office has no further product
abbrev pub IsEnd : List ℕ → Type 0
IsEnd bytes = (closes : Bool) × IsAnswer bytes (record { status = 404; body = no_product; closes = closes })

-- How a link is left at a place, by what was read and written since the last text: no round was left, and nothing was asked; the link failed within an ask or within an answer; the whole ask was answered that there is no further product, or badly; or memory lacked. A link that closed was left behind a text.
abbrev pub Leaves : ℕ → List ℕ → List ℕ → LinkEnd → Type 0
Leaves place read written Spent = (read ≡ []) × (written ≡ [])
Leaves place read written Closed = ⊥
Leaves place read written Failed = Begins written (ask place) × IsFront read × ((read ≡ []) ⊎ (written ≡ ask place))
Leaves place read written Ended = (written ≡ ask place) × IsEnd read
Leaves place read written Bad = (written ≡ ask place) × IsBad place read
Leaves place read written OutOfMemory = Begins written (ask place)

-- behind an answer that closes its link nothing is asked
abbrev pub IsClosed : List ℕ → List ℕ → List Answer → LinkEnd → Type 0
IsClosed read written answers end = (read ≡ []) × (written ≡ []) × (answers ≡ []) × (end ≡ Closed)

abbrev pub Onward : Bool → Type 0 → Type 0 → Type 0
Onward true last more = last
Onward false last more = more

-- From a place on these texts were taken, one for each whole ask, in their order; then the link was left.
abbrev pub IsTalk : ℕ → List ℕ → List ℕ → List Answer → LinkEnd → Type 0
IsTalk place read written [] end = Leaves place read written end
IsTalk place read written (a ∷ answers) end =
    (first : List ℕ) × (more : List ℕ) × (later : List ℕ) × IsText place first a × (read ≡ first ++ more) × (written ≡ ask place ++ later)
    × Onward a.closes (IsClosed more later answers end) (IsTalk (place + 1) more later answers end)

abbrev pub bodies : List Answer → List (List ℕ)
bodies answers = map (λ (a : Answer). a.body) answers

-- the follower after each text was heard as the answer to its question
abbrev pub after_all : Reading → List (List ℕ) → Reading
after_all f [] = f
after_all f (text ∷ texts) = after_all (having_taken f (place_of f) text) texts

-- the asks behind the last text
abbrev pub asks_in : LinkEnd → ℕ
asks_in Spent = 0
asks_in Closed = 0
asks_in _ = 1

-- a link failed
abbrev pub fails_in : LinkEnd → ℕ
fails_in Failed = 1
fails_in _ = 0
