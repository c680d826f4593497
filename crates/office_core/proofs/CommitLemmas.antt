-- The fields after a commit are those of the state after the entry.
use Rattle.std.proofs.Common.{◌≡◌, ◌∙◌, ◌≤◌, ◌+◌, ◌||◌, ℕ, suc, map, Bool, true, false, List, [], ◌∷◌, ◌++◌, length, take, drop, set, Some, None, if◌then◌else◌, refl, ap, sym, arith, rules, length-append, length-drop}
use Rattle.std.proofs.lemmas.List.{length_push, length-set, length-take}
use Rattle.std.specs.List.{list_any}
use Rattle.std.specs.Str.{bytes_eq}
use Rattle.std.proofs.lemmas.Bool.{false≢true}
use Rattle.std.proofs.lemmas.Bool.Decides.{same_from_decides}
use Rattle.std.proofs.lemmas.Slice.Eq.{bytes_eq-Decides}
use Rattle.std.specs.Bool.{Decides}
use Rattle.office_types.specs.declared.refusal.Refusal.{Refusal}
use Rattle.office_types.specs.declared.refusal.Refusal.TheVariants as refusal
use Rattle.hazard_types.specs.declared.line.Row.{Row}
use Rattle.office_types.specs.declared.request.Draft.{Draft}
use Rattle.office_types.specs.declared.request.Intent.TheVariants as intent
use Rattle.office_types.specs.declared.request.Request.{Request}
use Rattle.office_types.specs.declared.request.Request.TheVariants.{Issue, Begin, Put, Finish, Restate, Routine, Drop, Take, Discard, Send, Correct}
use Rattle.office_types.specs.declared.request.Sent.{Sent}
use Rattle.office_core.specs.Prepared.{Readied, begun_with, changed}
use Rattle.office_core.specs.Rules.{unknown_desk}
use Rattle.office_core.specs.Sound.{IsSound}
use Rattle.event_numbers.specs.declared.Count.{Count}
use Rattle.office_core.specs.State.{State, is_draft, said_in}
use Rattle.office_core.specs.Step.{begun_after, drafts_after, heard_after, products_with, rows_with_made, state_after, taken_by, with_draft, with_intent, without_draft, without_intent}
use Rattle.office_core.specs.declared.heard.DeskRecord.{DeskRecord}
use Rattle.office_core.specs.declared.heard.LastRequest.{LastRequest}
use Rattle.office_core.specs.declared.prepared.DraftChange.{DraftChange}
use Rattle.office_core.specs.declared.prepared.DraftChange.TheVariants.{Keep, Open, Replace, Remove}

-- ---- drafts that were opened

same_length : (b : Bool) (x y : Draft) (xs ys : List Draft) → length ys ≡ length xs → length (if b then y ∷ xs else (x ∷ ys)) ≡ length (x ∷ xs)
same_length true x y xs ys e = refl
same_length false x y xs ys e = ap suc e

with_length : (f : Draft → Draft) (id : ℕ) (ds : List Draft) → length (with_draft f id ds) ≡ length ds
with_length f id [] = refl
with_length f id (d ∷ ds) = same_length (is_draft id d) d (f d) ds (with_draft f id ds) (with_length f id ds)

no_longer : (b : Bool) (x : Draft) (xs ys : List Draft) → length ys ≤ length xs → length (if b then xs else (x ∷ ys)) ≤ length (x ∷ xs)
no_longer true x xs ys h = omega arith
no_longer false x xs ys h = omega (arith, h)

without_length : (id : ℕ) (ds : List Draft) → length (without_draft id ds) ≤ length ds
without_length id [] = omega arith
without_length id (d ∷ ds) = no_longer (is_draft id d) d ds (without_draft id ds) (without_length id ds)

cons_same : (a b : Draft) (xs ys : List Draft) → a ∷ xs ≡ b ∷ ys → a ≡ b
cons_same a b xs ys h = search (rules, h)

tails_same : (a b : Draft) (xs ys : List Draft) → a ∷ xs ≡ b ∷ ys → xs ≡ ys
tails_same a b xs ys h = search (rules, h)

push_same : (xs : List Draft) (a b : Draft) → xs ++ a ∷ [] ≡ xs ++ b ∷ [] → a ≡ b
push_same [] a b h = cons_same a b [] [] h
push_same (x ∷ xs) a b h = push_same xs a b (tails_same x x (xs ++ a ∷ []) (xs ++ b ∷ []) h)

too_long : (ds xs : List Draft) (d : Draft) → xs ≡ ds ++ d ∷ [] → length xs ≤ length ds → ⊥
too_long ds xs d e h =
    let long = ap length e ∙ length_push ds d in
    omega (arith, long, h)

-- a list that is no longer was not opened in
kept_begun : (s : State) (change : DraftChange) → length (changed change s.drafts) ≤ length s.drafts → begun_with s.begun change ≡ s.begun
kept_begun s Keep h = refl
kept_begun s (Open d) h = absurd (too_long s.drafts (s.drafts ++ d ∷ []) d refl h)
kept_begun s (Replace place d) h = refl
kept_begun s (Remove place) h = refl

open_begun : (s : State) (change : DraftChange) (d : Draft) → changed change s.drafts ≡ s.drafts ++ d ∷ [] → begun_with s.begun change ≡ d.id
open_begun s Keep d e = absurd (too_long s.drafts s.drafts d e (omega arith))
open_begun s (Open new) d e = ap (λ (x : Draft). x.id) (push_same s.drafts new d e)
open_begun s (Replace place new) d e = absurd (too_long s.drafts (set s.drafts place new) d e (omega (arith, length-set s.drafts place new)))
open_begun s (Remove place) d e = absurd (too_long s.drafts (take place s.drafts ++ drop (place + 1) s.drafts) d e (omega (arith, length-append (take place s.drafts) (drop (place + 1) s.drafts), length-take place s.drafts, length-drop (place + 1) s.drafts)))

-- as many drafts were opened as the change has it
begun_is : (s : State) (desk : List ℕ) (r : Request) (t : ℕ) (change : DraftChange) → changed change s.drafts ≡ drafts_after s desk r t → begun_with s.begun change ≡ begun_after s r
unfolding drafts_after
begun_is s desk (Issue part) t change e = kept_begun s change (omega (arith, ap length e))
begun_is s desk (Begin category) t change e = open_begun s change (record { id = s.begun + 1; owner = desk; category = category; touched = t; intents = [] }) e
begun_is s desk (Put id part) t change e = kept_begun s change (omega (arith, ap length e ∙ with_length (with_intent t (intent.Put part)) id s.drafts))
begun_is s desk (Finish id part) t change e = kept_begun s change (omega (arith, ap length e ∙ with_length (with_intent t (intent.Finish part)) id s.drafts))
begun_is s desk (Restate id part) t change e = kept_begun s change (omega (arith, ap length e ∙ with_length (with_intent t (intent.Restate part)) id s.drafts))
begun_is s desk (Routine id part) t change e = kept_begun s change (omega (arith, ap length e ∙ with_length (with_intent t (intent.Routine part)) id s.drafts))
begun_is s desk (Drop id place) t change e = kept_begun s change (omega (arith, ap length e ∙ with_length (without_intent t place) id s.drafts))
begun_is s desk (Take id) t change e = kept_begun s change (omega (arith, ap length e ∙ with_length (taken_by t desk) id s.drafts))
begun_is s desk (Discard id) t change e = kept_begun s change (omega (arith, ap length e, without_length id s.drafts))
begun_is s desk (Send id) t change e = kept_begun s change (omega (arith, ap length e, without_length id s.drafts))
begun_is s desk (Correct number given) t change e = kept_begun s change (omega (arith, ap length e))

-- ---- what is kept of the desk

some_is_none : {X : Type 0} {x : X} → Some x ≡ None → ⊥
some_is_none h = search (rules, h)

flip : (a b : List ℕ) → bytes_eq a b ≡ bytes_eq b a
flip a b =
    let other : Decides (bytes_eq b a) (a ≡ b) = ((λ (e : bytes_eq b a ≡ true). sym ((bytes_eq-Decides b a).0 e)), (λ (e : a ≡ b). (bytes_eq-Decides b a).1 (sym e))) in
    same_from_decides (bytes_eq a b) (bytes_eq b a) (bytes_eq-Decides a b) other

here : (b rest : Bool) (h : DeskRecord) (hs more : List DeskRecord) (desk : List ℕ) (said : LastRequest) → bytes_eq h.desk desk ≡ b → (b || rest) ≡ true → (rest ≡ true → said_in more desk ≡ Some said) →
    said_in (if b then record { desk = h.desk; said = Some said } ∷ hs else (h ∷ more)) desk ≡ Some said
here true rest h hs more desk said e any k = rw e refl
here false rest h hs more desk said e any k = rw e (k any)

kept_in : (hs : List DeskRecord) (desk : List ℕ) (said : LastRequest) → list_any (bytes_eq desk) (map (λ (h : DeskRecord). h.desk) hs) ≡ true → said_in (heard_after hs desk said) desk ≡ Some said
kept_in [] desk said any = absurd (false≢true any)
kept_in (h ∷ hs) desk said any =
    let rest = list_any (bytes_eq desk) (map (λ (h : DeskRecord). h.desk) hs) in
    let either : (bytes_eq h.desk desk || rest) ≡ true = ap (λ (b : Bool). b || rest) (flip h.desk desk) ∙ any in
    here (bytes_eq h.desk desk) rest h hs (heard_after hs desk said) desk said refl either (kept_in hs desk said)

known : (b : Bool) → (if b then None else Some refusal.UnknownDesk) ≡ None → b ≡ true
known true e = refl
known false e = absurd (some_is_none e)

-- the request is the last of its desk
pub kept_after : (s : State) (counts : List Count) (desk : List ℕ) (said : LastRequest) → IsSound s counts → unknown_desk s desk ≡ None → said_in (heard_after s.heard desk said) desk ≡ Some said
kept_after s counts desk said sound e =
    let any : list_any (bytes_eq desk) s.settings.desks ≡ true = known (list_any (bytes_eq desk) s.settings.desks) e in
    kept_in s.heard desk said (ap (list_any (bytes_eq desk)) sound.desks ∙ any)

-- ---- the state

-- these are the fields of the state after the entry
pub fields_after : (s : State) (p : Readied) (rows : List Row) (products : List Sent) (drafts : List Draft) (begun : ℕ) (heard : List DeskRecord) →
    rows ≡ rows_with_made s.rows p.entry.minute p.made → products ≡ products_with s.products p.made →
    drafts ≡ changed p.change s.drafts → begun ≡ begun_with s.begun p.change →
    heard ≡ heard_after s.heard p.entry.desk (record { seq = p.entry.seq; request = p.entry.request; reply = p.entry.reply }) →
    changed p.change s.drafts ≡ drafts_after s p.entry.desk p.entry.request p.entry.minute →
    record { settings = s.settings; class = s.class; edition = s.edition; rows = rows; products = products; drafts = drafts; begun = begun; heard = heard; last = p.entry.minute } ≡ state_after s p.entry p.made
unfolding state_after
fields_after s p rows products drafts begun heard hr hp hd hb hh e =
    let opened = hb ∙ begun_is s p.entry.desk p.entry.request p.entry.minute p.change e in
    let left = hd ∙ e in
    λ i. record { settings = s.settings; class = s.class; edition = s.edition; rows = hr i; products = hp i; drafts = left i; begun = opened i; heard = hh i; last = p.entry.minute }
