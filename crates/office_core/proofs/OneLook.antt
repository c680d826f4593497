-- A look has one answer: a text, or the first rule that refuses it.
use Rattle.std.proofs.Common.{◌≡◌, ◌∙◌, ◌+◌, inl, inr, ◌⊎◌, ℕ, ℤ, List, nat_abs, Bool, true, false, refl, sym, ap, Option, None, Some}
use Rattle.std.proofs.lemmas.Bool.{both_ways}
use Rattle.hazard_types.specs.declared.line.Line.{Line}
use Rattle.office_types.specs.declared.refusal.Refusal.{Refusal}
use Rattle.office_types.specs.declared.refusal.Refusal.TheVariants as refusal
use Rattle.office_types.specs.declared.request.Draft.{Draft as SomeDraft}
use Rattle.office_types.specs.declared.request.Plan.{Plan}
use Rattle.office_types.specs.declared.request.Query.{Query}
use Rattle.office_types.specs.declared.request.Query.TheVariants.{Board, Product, After, Draft, Preview}
use Rattle.office_types.specs.declared.request.Sent.{Sent}
use Rattle.board_text.specs.Rows.{board_text}
use Rattle.event_life.specs.Shown.{shown_at}
use Rattle.segmenter.specs.Steps.{classes_of, groups_of, heads_of, segments_of}
use Rattle.segmenter.proofs.ClassLemmas.{segments_made}
use Rattle.action_planner.specs.Lines.{planned_lines}
use Rattle.action_planner.specs.Placed.{Placed, opened, placed}
use Rattle.action_planner.specs.Texts.{event_texts, events_of}
use Rattle.action_planner.specs.Told.{counts_in}
use Rattle.product_template.specs.Text.{text_of}
use Rattle.request_json.specs.Replies.{draft_text}
use Rattle.office_core.specs.Look.{BreaksAsPreview, LacksDraft, LacksProduct, RefusesLook, Shows, ShowsDraft, ShowsPreview, ShowsProduct}
use Rattle.office_core.specs.Making.{IsPlanOf, broken_lines, broken_product, drafted_by}
use Rattle.office_core.specs.Rules.{is_out, minute_of}
use Rattle.office_core.specs.State.{State, draft_at, product_at}
use Rattle.office_core.proofs.AnswerLemmas.{breaks_once, none_some, plan_one, product_unbroken}

-- a text is shown, or a refusal told
abbrev HasAnswer : (List ℕ → Type 0) → (Refusal → Type 0) → Type 0
HasAnswer shows refuses = ((text : List ℕ) × shows text) ⊎ ((x : Refusal) × refuses x)

-- ---- a product and a draft

-- what is found is shown as its text, and is missing where there is none
module _ {X : Type 0} (text_of : X → List ℕ) (missing : Refusal) (ShowsFound : Option X → List ℕ → Type 0) where
  abbrev IsMissing : Option X → Refusal → Type 0
  IsMissing found x = (found ≡ None) × (x ≡ missing)

  found_either : ((it : X) → ShowsFound (Some it) (text_of it)) → (found : Option X) → HasAnswer (ShowsFound found) (IsMissing found)
  found_either shows None = inr (missing, (refl, refl))
  found_either shows (Some it) = inl (text_of it, shows it)

  found_not_both : ((text : List ℕ) → ShowsFound None text → ⊥) → (found : Option X) (text : List ℕ) (x : Refusal) → ShowsFound found text → IsMissing found x → ⊥
  found_not_both none None text x shown lacks = none text shown
  found_not_both none (Some it) text x shown lacks = none_some it (Some it) lacks.0 refl

  draft_as_json : ((text : List ℕ) → ShowsFound None text → ⊥) → ((it : X) (text : List ℕ) → ShowsFound (Some it) text → text ≡ text_of it) → (found : Option X) (text other : List ℕ) → ShowsFound found text → ShowsFound found other → text ≡ other
  draft_as_json none is None text other one two = absurd (none text one)
  draft_as_json none is (Some it) text other one two = is it text one ∙ sym (is it other two)

product_either : (found : Option Sent) → HasAnswer (ShowsProduct found) (LacksProduct found)
product_either found = found_either (λ (sent : Sent). sent.text) refusal.NoProduct ShowsProduct (λ sent. refl) found

product_not_both : (found : Option Sent) (text : List ℕ) (x : Refusal) → ShowsProduct found text → LacksProduct found x → ⊥
product_not_both found text x shown lacks = found_not_both (λ (sent : Sent). sent.text) refusal.NoProduct ShowsProduct (λ text none. none) found text x shown lacks

product_text : (found : Option Sent) (text other : List ℕ) → ShowsProduct found text → ShowsProduct found other → text ≡ other
product_text found text other one two = draft_as_json (λ (sent : Sent). sent.text) refusal.NoProduct ShowsProduct (λ text none. none) (λ sent text is. is) found text other one two

draft_either : (found : Option SomeDraft) → HasAnswer (ShowsDraft found) (LacksDraft found)
draft_either found = found_either draft_text refusal.NoDraft ShowsDraft (λ d. refl) found

draft_not_both : (found : Option SomeDraft) (text : List ℕ) (x : Refusal) → ShowsDraft found text → LacksDraft found x → ⊥
draft_not_both found text x shown lacks = found_not_both draft_text refusal.NoDraft ShowsDraft (λ text none. none) found text x shown lacks

draft_text_one : (found : Option SomeDraft) (text other : List ℕ) → ShowsDraft found text → ShowsDraft found other → text ≡ other
draft_text_one found text other one two = draft_as_json draft_text refusal.NoDraft ShowsDraft (λ text none. none) (λ d text is. is) found text other one two

-- ---- a preview

-- every draft has a plan
plan_there : (s : State) (t : ℕ) (d : SomeDraft) → (plan : Plan) × IsPlanOf s t (drafted_by (Some d)) plan
plan_there s t d =
    let ps : List Placed = placed (counts_in s.rows) t d.intents in
    let lines : List Line = planned_lines d.category s.rows t ps in
    let plan : Plan = record {
      category = d.category;
      bbb = None;
      lines = lines;
      segments = segments_of (classes_of (heads_of (groups_of lines)));
      opened = opened ps;
      texts = event_texts ps (events_of lines);
    } in
    (plan, record { category = refl; letter = refl; lines = refl; segments = segments_made lines; opened = refl; texts = refl })

-- of lines that break no rule
written_either : (s : State) (t : ℕ) (d : SomeDraft) (plan : Plan) → broken_lines s t (drafted_by (Some d)) ≡ None → IsPlanOf s t (drafted_by (Some d)) plan
    → (broken : Option Refusal) → broken_product s t plan ≡ broken → HasAnswer (ShowsPreview s t (Some d)) (BreaksAsPreview s t (Some d))
written_either s t d plan none is None kept = inl (text_of s.settings s.class plan t s.edition, (none, plan, is, kept, refl))
written_either s t d plan none is (Some x) breaks = inr (x, inr (none, plan, is, breaks))

lines_either : (s : State) (t : ℕ) (d : SomeDraft) (broken : Option Refusal) → broken_lines s t (drafted_by (Some d)) ≡ broken → HasAnswer (ShowsPreview s t (Some d)) (BreaksAsPreview s t (Some d))
lines_either s t d None none = let p = plan_there s t d in written_either s t d p.0 none p.1 (broken_product s t p.0) refl
lines_either s t d (Some x) breaks = inr (x, inl breaks)

preview_either : (s : State) (t : ℕ) (found : Option SomeDraft) → HasAnswer (ShowsPreview s t found) (BreaksAsPreview s t found)
preview_either s t None = inr (refusal.NoDraft, refl)
preview_either s t (Some d) = lines_either s t d (broken_lines s t (drafted_by (Some d))) refl

preview_not_both : (s : State) (t : ℕ) (found : Option SomeDraft) (text : List ℕ) (x : Refusal) → ShowsPreview s t found text → BreaksAsPreview s t found x → ⊥
preview_not_both s t None text x shown breaks = shown
preview_not_both s t (Some d) text x (none, plan, is, kept, same) breaks = product_unbroken s t (drafted_by (Some d)) plan x none is kept breaks

preview_text : (s : State) (t : ℕ) (found : Option SomeDraft) (text other : List ℕ) → ShowsPreview s t found text → ShowsPreview s t found other → text ≡ other
preview_text s t None text other one two = absurd one
preview_text s t (Some d) text other (none, plan, is, kept, same) (none', plan', is', kept', same') =
    same ∙ ap (λ (p : Plan). text_of s.settings s.class p t s.edition) (plan_one s t (drafted_by (Some d)) plan plan' is is') ∙ sym same'

preview_refusal : (s : State) (t : ℕ) (found : Option SomeDraft) (x y : Refusal) → BreaksAsPreview s t found x → BreaksAsPreview s t found y → x ≡ y
preview_refusal s t None x y one two = one ∙ sym two
preview_refusal s t (Some d) x y one two = breaks_once s t (drafted_by (Some d)) x y one two

-- ---- what depends on the clock

board_either : (s : State) (reading : ℤ) (out : Bool) → is_out reading ≡ out → HasAnswer (Shows s Board reading) (RefusesLook s Board reading)
board_either s reading true is = inr (refusal.ClockOut reading, (is, refl))
board_either s reading false is = inl (board_text (shown_at (nat_abs reading) s.rows), (is, refl))

clock_either : (s : State) (id : ℕ) (reading : ℤ) (out : Bool) → is_out reading ≡ out → HasAnswer (Shows s (Preview id) reading) (RefusesLook s (Preview id) reading)
clock_either s id reading true is = inr (refusal.ClockOut reading, inl (is, refl))
clock_either s id reading false is =
    elim (preview_either s (minute_of s reading) (draft_at s id)) [
      | inl shown ↦ inl (shown.0, (is, shown.1))
      | inr broken ↦ inr (broken.0, inr (is, broken.1))
    ]

-- ---- each look

pub either_way : (s : State) (q : Query) (reading : ℤ) → ((text : List ℕ) × Shows s q reading text) ⊎ ((x : Refusal) × RefusesLook s q reading x)
either_way s Board reading = board_either s reading (is_out reading) refl
either_way s (Product number) reading = product_either (product_at s number)
either_way s (After number) reading = product_either (product_at s (number + 1))
either_way s (Draft id) reading = draft_either (draft_at s id)
either_way s (Preview id) reading = clock_either s id reading (is_out reading) refl

pub not_both : (s : State) (q : Query) (reading : ℤ) (text : List ℕ) (x : Refusal) → Shows s q reading text → RefusesLook s q reading x → ⊥
not_both s Board reading text x shown refused = both_ways _ shown.0 refused.0
not_both s (Product number) reading text x shown refused = product_not_both (product_at s number) text x shown refused
not_both s (After number) reading text x shown refused = product_not_both (product_at s (number + 1)) text x shown refused
not_both s (Draft id) reading text x shown refused = draft_not_both (draft_at s id) text x shown refused
not_both s (Preview id) reading text x shown (inl out) = both_ways _ shown.0 out.0
not_both s (Preview id) reading text x shown (inr broken) = preview_not_both s (minute_of s reading) (draft_at s id) text x shown.1 broken.1

pub one_text : (s : State) (q : Query) (reading : ℤ) (text other : List ℕ) → Shows s q reading text → Shows s q reading other → text ≡ other
one_text s Board reading text other one two = one.1 ∙ sym two.1
one_text s (Product number) reading text other one two = product_text (product_at s number) text other one two
one_text s (After number) reading text other one two = product_text (product_at s (number + 1)) text other one two
one_text s (Draft id) reading text other one two = draft_text_one (draft_at s id) text other one two
one_text s (Preview id) reading text other one two = preview_text s (minute_of s reading) (draft_at s id) text other one.1 two.1

pub one_refusal : (s : State) (q : Query) (reading : ℤ) (x y : Refusal) → RefusesLook s q reading x → RefusesLook s q reading y → x ≡ y
one_refusal s Board reading x y one two = one.1 ∙ sym two.1
one_refusal s (Product number) reading x y one two = one.1 ∙ sym two.1
one_refusal s (After number) reading x y one two = one.1 ∙ sym two.1
one_refusal s (Draft id) reading x y one two = one.1 ∙ sym two.1
one_refusal s (Preview id) reading x y (inl out) (inl also) = out.1 ∙ sym also.1
one_refusal s (Preview id) reading x y (inl out) (inr broken) = absurd (both_ways _ broken.0 out.0)
one_refusal s (Preview id) reading x y (inr broken) (inl out) = absurd (both_ways _ broken.0 out.0)
one_refusal s (Preview id) reading x y (inr broken) (inr also) = preview_refusal s (minute_of s reading) (draft_at s id) x y broken.1 also.1
