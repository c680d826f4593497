-- What is known where no rule of a request is broken.
use Rattle.std.proofs.Common.{◌≡◌, ◌==◌, ℕ, ℤ, pos, Bool, true, false, List, [], ◌∷◌, Option, Some, None, if◌then◌else◌, refl, subst, rules}
use Rattle.std.specs.Option.{option_or}
use Rattle.std.specs.Bool.{Decides}
use Rattle.std.proofs.lemmas.Bool.{and_parts, eqb-true, false≢true}
use Rattle.office_types.specs.declared.refusal.Refusal.{Refusal}
use Rattle.office_types.specs.declared.refusal.Refusal.TheVariants as refusal
use Rattle.office_types.specs.declared.request.Draft.{Draft}
use Rattle.office_types.specs.declared.request.Reply.{Reply}
use Rattle.office_types.specs.declared.request.Request.{Request}
use Rattle.action_planner.specs.Offences.{first_given}
use Rattle.office_core.specs.Requests.{draft_of, intent_of, same_request}
use Rattle.office_core.specs.Rules.{broken_draft, broken_number, broken_part, broken_request, clock_out, drafts_full, first_of_two, found_draft, gap, intents_full, is_kept, is_out, is_repeated, minute_of, no_draft, no_intent, not_owner, reused, stale, still_active, unknown_desk}
use Rattle.office_core.specs.State.{State, last_number, said_by}
use Rattle.office_core.specs.Step.{Repeats}
use Rattle.office_core.specs.declared.heard.LastRequest.{LastRequest}

first_none : (a b : Option Refusal) → first_of_two a b ≡ None → (a ≡ None) × (b ≡ None)
first_none None b e = (refl, e)
first_none (Some x) b e = absurd (search (rules, e))

or_none : (a b : Option Refusal) → option_or a b ≡ None → (a ≡ None) × (b ≡ None)
or_none None b e = (refl, e)
or_none (Some x) b e = absurd (search (rules, e))

-- no rule but the desk's is asked of a repeated request
rest_of : State → List ℕ → ℕ → Request → ℤ → Option Refusal
rest_of s desk seq r reading =
    first_of_two (broken_number s desk seq reading)
    (first_of_two (broken_draft s desk r (minute_of s reading) (found_draft s (draft_of r)))
    (broken_part s r (found_draft s (draft_of r))))

new_rules : (s : State) (desk : List ℕ) (seq : ℕ) (r : Request) (reading : ℤ) → is_repeated s desk seq r ≡ false → broken_request s desk seq r reading ≡ None →
    (broken_number s desk seq reading ≡ None) × (broken_draft s desk r (minute_of s reading) (found_draft s (draft_of r)) ≡ None)
unfolding broken_request rest_of
new_rules s desk seq r reading new e =
    let rest : rest_of s desk seq r reading ≡ None = subst (λ (b : Bool). (if b then unknown_desk s desk else rest_of s desk seq r reading) ≡ None) new e in
    let two = first_none (broken_number s desk seq reading) (first_of_two (broken_draft s desk r (minute_of s reading) (found_draft s (draft_of r))) (broken_part s r (found_draft s (draft_of r)))) rest in
    (two.0, (first_none (broken_draft s desk r (minute_of s reading) (found_draft s (draft_of r))) (broken_part s r (found_draft s (draft_of r))) two.1).0)

first_rule : (x : Option Refusal) (xs : List (Option Refusal)) → first_given (x ∷ xs) ≡ None → x ≡ None
first_rule x xs e = (or_none x (first_given xs) e).0

later_rules : (x : Option Refusal) (xs : List (Option Refusal)) → first_given (x ∷ xs) ≡ None → first_given xs ≡ None
later_rules x xs e = (or_none x (first_given xs) e).1

first_of : (a b c d e : Option Refusal) → first_given (a ∷ b ∷ c ∷ d ∷ e ∷ []) ≡ None → (a ≡ None) × (e ≡ None)
first_of a b c d e h =
    let h1 = later_rules a (b ∷ c ∷ d ∷ e ∷ []) h in
    let h2 = later_rules b (c ∷ d ∷ e ∷ []) h1 in
    let h3 = later_rules c (d ∷ e ∷ []) h2 in
    (first_rule a (b ∷ c ∷ d ∷ e ∷ []) h, first_rule e [] (later_rules d (e ∷ []) h3))

fourth_of : (a b c d e f : Option Refusal) → first_given (a ∷ b ∷ c ∷ d ∷ e ∷ f ∷ []) ≡ None → d ≡ None
fourth_of a b c d e f h =
    let h1 = later_rules a (b ∷ c ∷ d ∷ e ∷ f ∷ []) h in
    let h2 = later_rules b (c ∷ d ∷ e ∷ f ∷ []) h1 in
    first_rule d (e ∷ f ∷ []) (later_rules c (d ∷ e ∷ f ∷ []) h2)

not_out : (b : Bool) (x : Refusal) → (if b then Some x else None) ≡ None → b ≡ false
not_out true x e = absurd (search (rules, e))
not_out false x e = refl

number_rules_kept : (s : State) (desk : List ℕ) (seq : ℕ) (reading : ℤ) → broken_number s desk seq reading ≡ None → (unknown_desk s desk ≡ None) × (clock_out reading ≡ None)
unfolding broken_number
number_rules_kept s desk seq reading e =
    first_of (unknown_desk s desk) (reused (last_number s desk) seq) (stale (last_number s desk) seq) (gap (last_number s desk) seq) (clock_out reading) e

-- the desk is known
pub known_desk : (s : State) (desk : List ℕ) (seq : ℕ) (r : Request) (reading : ℤ) → is_repeated s desk seq r ≡ false → broken_request s desk seq r reading ≡ None → unknown_desk s desk ≡ None
known_desk s desk seq r reading new e = (number_rules_kept s desk seq reading (new_rules s desk seq r reading new e).0).0

-- the reading is in range
pub read_in_range : (s : State) (desk : List ℕ) (seq : ℕ) (r : Request) (reading : ℤ) → is_repeated s desk seq r ≡ false → broken_request s desk seq r reading ≡ None → is_out reading ≡ false
read_in_range s desk seq r reading new e = not_out (is_out reading) (refusal.ClockOut reading) (number_rules_kept s desk seq reading (new_rules s desk seq r reading new e).0).1

draft_rules_kept : (s : State) (desk : List ℕ) (r : Request) (t : ℕ) (d : Option Draft) → broken_draft s desk r t d ≡ None → drafts_full s r ≡ None
unfolding broken_draft
draft_rules_kept s desk r t d e = fourth_of (no_draft s (draft_of r)) (not_owner desk r d) (still_active desk t r d) (drafts_full s r) (intents_full (intent_of r) d) (no_intent r d) e

-- there is room for a draft
pub drafts_fit : (s : State) (desk : List ℕ) (seq : ℕ) (r : Request) (reading : ℤ) → is_repeated s desk seq r ≡ false → broken_request s desk seq r reading ≡ None → drafts_full s r ≡ None
drafts_fit s desk seq r reading new e = draft_rules_kept s desk r (minute_of s reading) (found_draft s (draft_of r)) (new_rules s desk seq r reading new e).1

-- ---- repeated requests

kept_one : (seq : ℕ) (r : Request) (found : Option LastRequest) → ((a b : Request) → Decides (same_request a b) (a ≡ b)) → is_kept found seq r ≡ true → (kept : Reply) × (found ≡ Some (record { seq = seq; request = r; reply = kept }))
kept_one seq r None same e = absurd (false≢true e)
kept_one seq r (Some said) same e =
    let parts = and_parts (said.seq == seq) (same_request said.request r) e in
    let number : said.seq ≡ seq = eqb-true said.seq seq parts.0 in
    let request : said.request ≡ r = (same said.request r).0 parts.1 in
    (said.reply, (λ i. Some (record { seq = number i; request = request i; reply = said.reply })))

-- only the desk is asked of a repeated request, whatever the reading
known_still : (s : State) (desk : List ℕ) (seq : ℕ) (r : Request) (reading other : ℤ) → is_repeated s desk seq r ≡ true → broken_request s desk seq r reading ≡ None → broken_request s desk seq r other ≡ None
unfolding broken_request
known_still s desk seq r reading other again e = rw again (rw again at e)

pub repeated_request : (s : State) (desk : List ℕ) (seq : ℕ) (r : Request) (reading : ℤ) → ((a b : Request) → Decides (same_request a b) (a ≡ b)) →
    is_repeated s desk seq r ≡ true → broken_request s desk seq r reading ≡ None → (kept : Reply) × Repeats s desk seq r kept
repeated_request s desk seq r reading same again e =
    let kept = kept_one seq r (said_by s desk) same again in
    (kept.0, record { known = known_still s desk seq r reading (pos 0) again e; same = kept.1 })
