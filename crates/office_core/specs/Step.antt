-- The answer to a request, and the state after an accepted one.
use Rattle.std.specs.Prelude.{◌≡◌, ◌⊎◌, ◌++◌, ℕ, ℤ, pos, ◌+◌, false, List, [], ◌∷◌, length, take, drop, Option, None, Some, if◌then◌else◌}
use Rattle.std.specs.Str.{bytes_eq}
use Rattle.hazard_types.specs.declared.line.Row.{Row}
use Rattle.office_types.specs.declared.refusal.Refusal.{Refusal}
use Rattle.office_types.specs.declared.request.Draft.{Draft}
use Rattle.office_types.specs.declared.request.Entry.{Entry}
use Rattle.office_types.specs.declared.request.Intent.{Intent}
use Rattle.office_types.specs.declared.request.Intent.TheVariants as intent
use Rattle.office_types.specs.declared.request.Reply.{Reply}
use Rattle.office_types.specs.declared.request.Reply.TheVariants as reply
use Rattle.office_types.specs.declared.request.Request.{Request}
use Rattle.office_types.specs.declared.request.Request.TheVariants.{Issue, Begin, Put, Finish, Restate, Routine, Drop, Take, Discard, Send, Correct}
use Rattle.office_types.specs.declared.request.Sent.{Sent}
use Rattle.office_types.specs.declared.request.Word.TheVariants as word
use Rattle.event_life.specs.Products.{rows_after}
use Rattle.office_types.specs.declared.request.Plan.{Plan}
use Rattle.office_core.specs.Making.{Making, making_of, made_of, broken_lines, broken_product, IsPlanOf}
use Rattle.office_core.specs.Rules.{broken_request, is_repeated, minute_of}
use Rattle.office_core.specs.declared.heard.DeskRecord.{DeskRecord}
use Rattle.office_core.specs.declared.heard.LastRequest.{LastRequest}
use Rattle.office_core.specs.declared.made.Made.{Made}
use Rattle.office_core.specs.State.{State, draft_at, is_draft, said_by}

-- ---- the reply

abbrev pub intents_of : Option Draft → List Intent
intents_of None = []
intents_of (Some d) = d.intents

-- the place of a new intent is behind those of its draft
abbrev pub placed_reply : State → ℕ → Reply
placed_reply s id = reply.Placed id (length (intents_of (draft_at s id)))

abbrev pub sent_reply : Option Made → Reply
sent_reply None = reply.Draft word.Begun 0
sent_reply (Some made) = reply.Sent (record { product = made.sent.number; time = made.sent.time; events = made.opened })

-- the reply to a request, with the product that it made where it makes one
abbrev pub reply_of : State → Request → Option Made → Reply
reply_of s (Issue part) made = sent_reply made
reply_of s (Begin category) made = reply.Draft word.Begun (s.begun + 1)
reply_of s (Put id part) made = placed_reply s id
reply_of s (Finish id part) made = placed_reply s id
reply_of s (Restate id part) made = placed_reply s id
reply_of s (Routine id part) made = placed_reply s id
reply_of s (Drop id place) made = reply.Draft word.Dropped id
reply_of s (Take id) made = reply.Draft word.Taken id
reply_of s (Discard id) made = reply.Draft word.Discarded id
reply_of s (Send id) made = sent_reply made
reply_of s (Correct number given) made = sent_reply made

-- ---- the drafts after

-- the drafts, with what becomes of the one with this id
abbrev pub with_draft : (Draft → Draft) → ℕ → List Draft → List Draft
with_draft change id [] = []
with_draft change id (d ∷ drafts) = if is_draft id d then change d ∷ drafts else d ∷ with_draft change id drafts

abbrev pub with_intent : ℕ → Intent → Draft → Draft
with_intent t i d = record { id = d.id; owner = d.owner; category = d.category; touched = t; intents = d.intents ++ i ∷ [] }

-- later intents move down
abbrev pub without_intent : ℕ → ℕ → Draft → Draft
without_intent t place d = record { id = d.id; owner = d.owner; category = d.category; touched = t; intents = take place d.intents ++ drop (place + 1) d.intents }

abbrev pub taken_by : ℕ → List ℕ → Draft → Draft
taken_by t desk d = record { id = d.id; owner = desk; category = d.category; touched = t; intents = d.intents }

abbrev pub without_draft : ℕ → List Draft → List Draft
without_draft id [] = []
without_draft id (d ∷ drafts) = if is_draft id d then drafts else d ∷ without_draft id drafts

-- each accepted request on a draft touches it; a send and a discard remove it
unfoldable pub drafts_after : State → List ℕ → Request → ℕ → List Draft
drafts_after s desk (Issue part) t = s.drafts
drafts_after s desk (Begin category) t = s.drafts ++ record { id = s.begun + 1; owner = desk; category = category; touched = t; intents = [] } ∷ []
drafts_after s desk (Put id part) t = with_draft (with_intent t (intent.Put part)) id s.drafts
drafts_after s desk (Finish id part) t = with_draft (with_intent t (intent.Finish part)) id s.drafts
drafts_after s desk (Restate id part) t = with_draft (with_intent t (intent.Restate part)) id s.drafts
drafts_after s desk (Routine id part) t = with_draft (with_intent t (intent.Routine part)) id s.drafts
drafts_after s desk (Drop id place) t = with_draft (without_intent t place) id s.drafts
drafts_after s desk (Take id) t = with_draft (taken_by t desk) id s.drafts
drafts_after s desk (Discard id) t = without_draft id s.drafts
drafts_after s desk (Send id) t = without_draft id s.drafts
drafts_after s desk (Correct number given) t = s.drafts

abbrev pub begun_after : State → Request → ℕ
begun_after s (Begin category) = s.begun + 1
begun_after s _ = s.begun

-- ---- the state after

-- the desk's last request is this one
abbrev pub heard_after : List DeskRecord → List ℕ → LastRequest → List DeskRecord
heard_after [] desk said = []
heard_after (h ∷ heard) desk said = if bytes_eq h.desk desk then record { desk = h.desk; said = Some said } ∷ heard else h ∷ heard_after heard desk said

abbrev pub rows_with_made : List Row → ℕ → Option Made → List Row
rows_with_made rows t None = rows
rows_with_made rows t (Some made) = rows_after rows t made.sent.lines

abbrev pub products_with : List Sent → Option Made → List Sent
products_with products None = products
products_with products (Some made) = products ++ made.sent ∷ []

-- the entry of an accepted request
abbrev pub entry_of : State → List ℕ → ℕ → Request → ℕ → Option Made → Entry
entry_of s desk seq r t made = record { minute = t; desk = desk; seq = seq; request = r; reply = reply_of s r made; edition = s.edition }

-- the state after it
unfoldable pub state_after : State → Entry → Option Made → State
state_after s e made = record {
  settings = s.settings;
  class = s.class;
  edition = s.edition;
  rows = rows_with_made s.rows e.minute made;
  products = products_with s.products made;
  drafts = drafts_after s e.desk e.request e.minute;
  begun = begun_after s e.request;
  heard = heard_after s.heard e.desk (record { seq = e.seq; request = e.request; reply = e.reply });
  last = e.minute;
}

-- ---- the answer

-- what a request makes, where none of its rules is broken
abbrev pub IsMade : State → ℕ → Making → Option Made → Type 0
IsMade s t Making.none made = made ≡ None
IsMade s t making made = (plan : Plan) × IsPlanOf s t making plan × (broken_product s t plan ≡ None) × (made ≡ Some (made_of s t making plan))

-- Accepted: it is no repetition, and breaks no rule
pub record Accepts (s : State) (desk : List ℕ) (seq : ℕ) (r : Request) (reading : ℤ) (t : ℕ) (made : Option Made) : Type 0 where
  pub new : is_repeated s desk seq r ≡ false
  pub request : broken_request s desk seq r reading ≡ None
  pub minute : t ≡ minute_of s reading
  pub lines : broken_lines s t (making_of s r) ≡ None
  pub product : IsMade s t (making_of s r) made

-- Repeated: the number is the desk's last and the request equals the kept one, which has this reply
pub record Repeats (s : State) (desk : List ℕ) (seq : ℕ) (r : Request) (kept : Reply) : Type 0 where
  pub known : broken_request s desk seq r (pos 0) ≡ None
  pub same : said_by s desk ≡ Some (record { seq = seq; request = r; reply = kept })

-- the first broken rule on lines or on the written product
abbrev pub BreaksOnLines : State → ℕ → Making → Refusal → Type 0
BreaksOnLines s t making x = (broken_lines s t making ≡ Some x) ⊎ ((broken_lines s t making ≡ None) × (plan : Plan) × IsPlanOf s t making plan × (broken_product s t plan ≡ Some x))

-- Refused: the first rule that is broken, in their order
abbrev pub Refuses : State → List ℕ → ℕ → Request → ℤ → Refusal → Type 0
Refuses s desk seq r reading x =
    (broken_request s desk seq r reading ≡ Some x)
    ⊎ ((is_repeated s desk seq r ≡ false) × (broken_request s desk seq r reading ≡ None) × BreaksOnLines s (minute_of s reading) (making_of s r) x)
