-- The entry of what was prepared may follow a history.
use Rattle.std.proofs.Common.{◌≡◌, ◌≤◌, ◌+◌, ℕ, ℤ, pos, List, length, Option, refl, sym, ◌∙◌, ap, subst, arith}
use Rattle.std.proofs.lemmas.Bool.{le-leb}
use Rattle.office_types.specs.declared.request.Edition.{Edition}
use Rattle.office_types.specs.declared.request.Entry.{Entry}
use Rattle.office_types.specs.declared.request.Request.{Request}
use Rattle.office_types.specs.declared.request.Request.TheVariants.{Issue, Begin, Put, Finish, Restate, Routine, Drop, Take, Discard, Send, Correct}
use Rattle.journal_core.specs.Image.{records}
use Rattle.request_json.specs.Formed.{HasForm}
use Rattle.office_core.specs.Histories.{Entered, IsNext}
use Rattle.office_core.specs.Prepared.{IsReady, Readied}
use Rattle.office_core.specs.State.{State}
use Rattle.office_core.specs.Step.{Accepts, begun_after, entry_of, state_after}
use Rattle.office_core.specs.Views.{OfficeView}
use Rattle.office_core.specs.declared.made.Made.{Made}
use Rattle.office_journal.specs.Bodies.{bodies_of, entry_body}
use Rattle.office_journal.specs.Changes.{Change, IsNextEntry, changed}
use Rattle.office_journal.specs.Histories.{History, IsHistory, bodies, fits}
use Rattle.office_journal.specs.Submitting.{entered}
use Rattle.office_journal.proofs.Growing.{follows_itself, history_grows}
use Rattle.office_journal.proofs.InTime.{in_time}

begun_by : (s : State) (r : Request) → begun_after s r ≤ s.begun + 1
begun_by s (Issue part) = omega arith
begun_by s (Begin category) = omega arith
begun_by s (Put id part) = omega arith
begun_by s (Finish id part) = omega arith
begun_by s (Restate id part) = omega arith
begun_by s (Routine id part) = omega arith
begun_by s (Drop id place) = omega arith
begun_by s (Take id) = omega arith
begun_by s (Discard id) = omega arith
begun_by s (Send id) = omega arith
begun_by s (Correct number given) = omega arith

-- an entry opens at most one draft
pub begun_next : (s : State) (e : Entry) (made : Option Made) → (state_after s e made).begun ≤ s.begun + 1
unfolding state_after
begun_next s e made = begun_by s e.request

abbrev as_entered : Entry → Option Made → Entered
as_entered e made = record { entry = e; made = made }

module _ (file : List ℕ) (h : History) (s : State) (is : IsHistory file h s) (desk : List ℕ) (seq : ℕ) (r : Request) (t : ℕ) (made : Option Made)
    (form : HasForm (record { desk = desk; seq = seq; request = r })) (accepted : Accepts s desk seq r (pos t) t made) (gate : ℕ) (place : gate ≡ length (records (bodies file h))) where
  edition_now : s.edition ≡ h.edition
  edition_now = ap (λ (z : State). z.edition) is.state

  next : (body : List ℕ) → body ≡ entry_body (as_entered (entry_of s desk seq r t made) made) → gate + 6 + length body ≤ 268435456
      → IsNext (fits file) h.entries s (as_entered (entry_of s desk seq r t made) made) (state_after s (entry_of s desk seq r t made) made)
  next body written room =
      let before : length (records (bodies_of file h.entries s.edition)) ≡ gate = ap (λ (e : Edition). length (records (bodies_of file h.entries e))) edition_now ∙ sym place in
      let few : length (records (bodies_of file h.entries s.edition)) + 6 + length (entry_body (as_entered (entry_of s desk seq r t made) made)) ≤ 268435456 = omega (arith, before, ap length written, room) in
      record {
        form = form;
        edition = follows_itself s.edition;
        accepted = accepted;
        entry = refl;
        fitting = le-leb _ _ few;
        after = refl;
      }

  module _ (e : Entry) (entry : e ≡ entry_of s desk seq r t made) (body : List ℕ) (written : body ≡ entry_body (as_entered e made)) (room : gate + 6 + length body ≤ 268435456) where
    here : IsNext (fits file) h.entries s (as_entered (entry_of s desk seq r t made) made) (state_after s (entry_of s desk seq r t made) made)
    here = next body (written ∙ ap (λ (z : Entry). entry_body (as_entered z made)) entry) room

    pub may_follow : IsNextEntry file h (as_entered e made)
    may_follow = subst (λ (z : Entry). IsNextEntry file h (as_entered z made)) (sym entry) (record { state = s; history = is; edition = edition_now; next = state_after s (entry_of s desk seq r t made) made; accepted = here })

    pub history_then : IsHistory file (changed h (Change.entry (as_entered e made))) (state_after s e made)
    history_then = subst (λ (z : Entry). IsHistory file (changed h (Change.entry (as_entered z made))) (state_after s z made)) (sym entry)
        (history_grows file h s is (as_entered (entry_of s desk seq r t made) made) (state_after s (entry_of s desk seq r t made) made) edition_now here)

-- what was prepared may follow the history, which has the state behind it then
pub record Follows (file : List ℕ) (h : History) (s : State) (p : Readied) : Type 0 where
  pub may : IsNextEntry file h (entered p)
  pub after : IsHistory file (changed h (Change.entry (entered p))) (state_after s p.entry p.made)

pub follows : (file : List ℕ) (h : History) (o : OfficeView) (is : IsHistory file h o.state) (desk : List ℕ) (seq : ℕ) (r : Request) (reading : ℤ) (p : Readied) → HasForm (record { desk = desk; seq = seq; request = r })
    → IsReady o desk seq r reading p
    → (o.state.last ≤ 52000000 → Accepts o.state desk seq r reading p.entry.minute p.made → Accepts o.state desk seq r (pos p.entry.minute) p.entry.minute p.made)
    → (gate : ℕ) → gate ≡ length (records (bodies file h)) → (body : List ℕ) → body ≡ entry_body (entered p) → gate + 6 + length body ≤ 268435456 → Follows file h o.state p
follows file h o is desk seq r reading p form ready law gate place body written room =
    let accepted = law (in_time file h o.state is) ready.accepted in
    record {
      may = may_follow file h o.state is desk seq r p.entry.minute p.made form accepted gate place p.entry ready.entry body written room;
      after = history_then file h o.state is desk seq r p.entry.minute p.made form accepted gate place p.entry ready.entry body written room;
    }
