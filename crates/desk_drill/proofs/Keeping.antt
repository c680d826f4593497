-- What a drill keeps stands before its first request and behind each.
use Rattle.std.proofs.Common.{◌≡◌, ◌≤◌, ◌<◌, ◌∙◌, ◌+◌, ◌++◌, inl, inr, ℕ, ℤ, pos, Bool, true, false, cond, List, [], ◌∷◌, length, map, set, slice_index, nat_le, Option, None, Some, IsSome, IfSome, OnOk, Result, Ok, Err, option_map, refl, ap, sym, subst, arith, length-append}
use Rattle.std.specs.List.{AllByRecursion}
use Rattle.std.specs.Option.{option_or}
use Rattle.std.specs.Str.{bytes_eq}
use Rattle.std.proofs.lemmas.List.{length-map}
use Rattle.std.proofs.lemmas.Bool.Decides.{nat_tests}
use Rattle.hazard_types.specs.declared.codes.Class.{Class}
use Rattle.hazard_types.specs.declared.codes.Class.TheVariants as classes
use Rattle.hazard_types.specs.declared.hazard.Event.{Event}
use Rattle.office_types.specs.declared.refusal.Refusal.{Refusal}
use Rattle.office_types.specs.declared.refusal.Refusal.TheVariants as refusal
use Rattle.office_types.specs.declared.request.Edition.TheVariants.{One}
use Rattle.office_types.specs.declared.request.Entry.{Entry}
use Rattle.office_types.specs.declared.request.Plan.{Plan}
use Rattle.office_types.specs.declared.request.PutPart.{PutPart}
use Rattle.office_types.specs.declared.request.Reply.{Reply as Kept}
use Rattle.office_types.specs.declared.request.Request.TheVariants.{Issue}
use Rattle.office_types.specs.declared.request.Sent.{Sent}
use Rattle.event_life.specs.Products.{Product}
use Rattle.product_decoder.specs.Decoded.{decode}
use Rattle.office_core.specs.Agreement.{ReadsAsTheBoard, product_in, products_in, texts_of}
use Rattle.office_core.specs.Making.{broken_product, issued, made_of, products_full}
use Rattle.office_core.specs.Prepared.{IsReady, Readied}
use Rattle.office_core.specs.State.{State, first_state, last_number, last_of}
use Rattle.office_core.specs.Step.{Accepts, Refuses, Repeats, entry_of, state_after}
use Rattle.office_core.specs.Views.{OfficeView}
use Rattle.office_core.specs.declared.heard.LastRequest.{LastRequest}
use Rattle.office_core.specs.declared.made.Made.{Made}
use Rattle.desk_drill.specs.Keeping.{HasRead, HasReadOne, IsKept, drilled_of}
use Rattle.desk_drill.specs.Office.{Answers, Drilled, drill_desks, drill_office, drill_settings, next_number}
use Rattle.desk_drill.specs.Requests.{desk_at}
use Rattle.desk_drill.specs.Tellings.{fault_of, faults_in}
use Rattle.desk_drill.specs.declared.desk.DrillDesk.{DrillDesk}
use Rattle.desk_drill.specs.declared.texts.TextReader.{TextReader}
use Rattle.desk_drill.proofs.Agreeing.{faults_more, few_products, no_faults, products_more}
use Rattle.desk_drill.proofs.Counting.{low_after, low_at, number_at, numbers_after, said_other}

abbrev first : State
first = first_state drill_settings classes.O One

no_numbers : 0 ∷ 0 ∷ 0 ∷ 0 ∷ [] ≡ map (last_number first) drill_desks
no_numbers = refl

pub first_kept : (d : DrillDesk) → d.office.state ≡ first → d.texts.reader.office ≡ drill_office → d.texts.reader.class ≡ classes.O → d.texts.reader.products ≡ [] → d.texts.faults ≡ 0
    → d.numbers ≡ 0 ∷ 0 ∷ 0 ∷ 0 ∷ [] → d.last ≡ 0 → d.accepted ≡ 0 → ReadsAsTheBoard first → IsKept d
first_kept d is office class products faults numbers last accepted reads = record {
  numbered = numbers ∙ no_numbers ∙ ap (λ (s : State). map (last_number s) drill_desks) (sym is);
  low = subst (λ (ns : List ℕ). AllByRecursion (λ (n : ℕ). n ≤ d.accepted) ns) (sym numbers) (omega arith, (omega arith, (omega arith, (omega arith, tt))));
  minute = last ∙ ap (λ (s : State). s.last) (sym is);
  undrafted = ap (λ (s : State). s.begun) is;
  office = ap (λ (s : State). s.settings.office) is;
  class = ap (λ (s : State). s.class) is;
  counted = accepted ∙ ap (λ (s : State). length s.products) (sym is);
  few = omega (arith, ap (λ (s : State). length s.products) is);
  read = record {
    office = office;
    class = class;
    products = products ∙ ap (λ (s : State). products_in drill_office classes.O (texts_of s)) (sym is);
    faults = faults ∙ ap (λ (s : State). faults_in (texts_of s)) (sym is);
  };
  reads = subst ReadsAsTheBoard (sym is) reads;
}

-- ---- an accepted issue makes a product, and there was room for it

or_last : {X : Type 0} (a b : Option X) → option_or a b ≡ None → b ≡ None
or_last None b h = h
or_last (Some x) b h = absurd (cc)

free : {X : Type 0} (t : Bool) (x : X) → cond t (Some x) None ≡ None → t ≡ false
free true x h = absurd (cc)
free false x h = refl

below : (a b : ℕ) → nat_le a b ≡ false → b < a
below a b h = grind (arith, nat_tests)

room : (s : State) (t : ℕ) (plan : Plan) → broken_product s t plan ≡ None → length s.products < 8192
unfolding broken_product
room s t plan h =
    below 8192 (length s.products) (free (nat_le 8192 (length s.products)) refusal.ProductsFull (or_last _ (products_full s) h))

pub record HasMade (s : State) (made : Option Made) : Type 0 where
  pub one : Made
  pub is : made ≡ Some one
  pub room : length s.products < 8192

pub has_made : (s : State) (desk : List ℕ) (seq : ℕ) (part : PutPart) (reading : ℤ) (t : ℕ) (made : Option Made) → Accepts s desk seq (Issue part) reading t made → HasMade s made
has_made s desk seq part reading t made a = record { one = made_of s t (issued part) a.product.0; is = a.product.3; room = room s t a.product.0 a.product.2 }

pub is_some : (made : Option Made) (one : Made) → made ≡ Some one → IsSome made
is_some None one is = absurd (cc)
is_some (Some m) one is = refl

-- the next number is no repetition
pub not_again : (s : State) (desk : List ℕ) (seq : ℕ) (part : PutPart) (kept : Kept) → seq ≡ next_number s desk → Repeats s desk seq (Issue part) kept → ⊥
not_again s desk seq part kept next again =
    let last : last_number s desk ≡ seq = ap last_of again.same in
    omega (arith, last, next)

-- ---- behind an accepted request

texts_more : (sents : List Sent) (sent : Sent) → map (λ (x : Sent). x.text) (sents ++ sent ∷ []) ≡ map (λ (x : Sent). x.text) sents ++ sent.text ∷ []
texts_more [] sent = refl
texts_more (x ∷ sents) sent = ap (λ (texts : List (List ℕ)). x.text ∷ texts) (texts_more sents sent)

read_more : (before now : TextReader) (texts : List (List ℕ)) (text : List ℕ) → HasRead before texts → HasReadOne before text now → HasRead now (texts ++ text ∷ [])
read_more before now texts text had one =
    let added : product_in before.reader.office before.reader.class (decode text) ≡ product_in drill_office classes.O (decode text)
    = ap (λ (o : List ℕ). product_in o before.reader.class (decode text)) had.office ∙ ap (λ (c : Class). product_in drill_office c (decode text)) had.class in
    let old : before.reader.products ++ product_in before.reader.office before.reader.class (decode text) ≡ products_in drill_office classes.O texts ++ product_in drill_office classes.O (decode text)
    = ap (λ (ps : List Product). ps ++ product_in before.reader.office before.reader.class (decode text)) had.products ∙ ap (λ (ps : List Product). products_in drill_office classes.O texts ++ ps) added in
    record {
      office = one.office ∙ had.office;
      class = one.class ∙ had.class;
      products = one.products ∙ old ∙ sym (products_more drill_office classes.O texts text);
      faults = one.faults ∙ ap (λ (n : ℕ). n + fault_of (decode text)) had.faults ∙ sym (faults_more texts text);
    }

others_stay : (s next : State) (entry : Entry) (made : Option Made) (other : List ℕ) → next ≡ state_after s entry made → bytes_eq entry.desk other ≡ false → last_number next other ≡ last_number s other
unfolding state_after
others_stay s next entry made other is off =
    let said : LastRequest = record { seq = entry.seq; request = entry.request; reply = entry.reply } in
    ap (λ (x : State). last_number x other) is ∙ ap last_of (said_other s.heard entry.desk other said off)

-- an entry of the desk at a place
pub record IsEntryOf (s : State) (place : ℕ) (part : PutPart) (entry : Entry) : Type 0 where
  pub desk : entry.desk ≡ desk_at place
  pub seq : entry.seq ≡ next_number s (desk_at place)
  pub request : entry.request ≡ Issue part

-- what an accepted request did to what is kept
pub record Goes (d e : DrillDesk) (place : ℕ) (entry : Entry) (one : Made) : Type 0 where
  pub state : e.office.state ≡ state_after d.office.state entry (Some one)
  pub heard : last_number e.office.state entry.desk ≡ entry.seq
  pub reads : ReadsAsTheBoard e.office.state
  pub numbers : e.numbers ≡ set d.numbers place (slice_index d.numbers place + 1)
  pub minute : e.last ≡ entry.minute
  pub accepted : e.accepted ≡ d.accepted + 1
  pub refused : e.refused ≡ d.refused
  pub opened : e.opened ≡ d.opened ++ one.opened
  pub texts : HasReadOne d.texts one.sent.text e.texts

begun_same : (s : State) (entry : Entry) (made : Option Made) (part : PutPart) → entry.request ≡ Issue part → (state_after s entry made).begun ≡ s.begun
unfolding state_after
begun_same s entry made part is = rw is refl

pub goes_on : (d e : DrillDesk) (place : ℕ) (part : PutPart) (entry : Entry) (one : Made) → IsKept d → place < 4 → length d.office.state.products < 8192
    → IsEntryOf d.office.state place part entry → Goes d e place entry one → IsKept e
unfolding state_after
goes_on d e place part entry one kept low few of goes =
    let s : State = d.office.state in
    let products : length e.office.state.products ≡ length s.products + 1 = ap (λ (x : State). length x.products) goes.state ∙ length-append s.products (one.sent ∷ []) in
    let texts : texts_of e.office.state ≡ texts_of s ++ one.sent.text ∷ [] = ap texts_of goes.state ∙ texts_more s.products one.sent in
    let own : last_number e.office.state (desk_at place) ≡ next_number s (desk_at place) = subst (λ (x : List ℕ). last_number e.office.state x ≡ next_number s (desk_at place)) of.desk (goes.heard ∙ of.seq) in
    let was : slice_index d.numbers place ≡ last_number s (desk_at place) = ap (λ (ns : List ℕ). slice_index ns place) kept.numbered ∙ number_at s place low in
    let set_is : e.numbers ≡ set (map (last_number s) drill_desks) place (last_number s (desk_at place) + 1)
    = goes.numbers ∙ ap (λ (n : ℕ). set d.numbers place (n + 1)) was ∙ ap (λ (ns : List ℕ). set ns place (last_number s (desk_at place) + 1)) kept.numbered in
    let others : (other : List ℕ) → bytes_eq (desk_at place) other ≡ false → last_number e.office.state other ≡ last_number s other
    = λ other off. others_stay s e.office.state entry (Some one) other goes.state (subst (λ (x : List ℕ). bytes_eq x other ≡ false) (sym of.desk) off) in
    record {
      numbered = set_is ∙ numbers_after s e.office.state place low others own;
      low = subst (λ (n : ℕ). AllByRecursion (λ (m : ℕ). m ≤ n) e.numbers) (sym goes.accepted) (subst (λ (ns : List ℕ). AllByRecursion (λ (m : ℕ). m ≤ d.accepted + 1) ns) (sym goes.numbers) (low_after d.accepted d.numbers place kept.low));
      minute = goes.minute ∙ ap (λ (x : State). x.last) (sym goes.state);
      undrafted = ap (λ (x : State). x.begun) goes.state ∙ begun_same s entry (Some one) part of.request ∙ kept.undrafted;
      office = ap (λ (x : State). x.settings.office) goes.state ∙ kept.office;
      class = ap (λ (x : State). x.class) goes.state ∙ kept.class;
      counted = goes.accepted ∙ ap (λ (n : ℕ). n + 1) kept.counted ∙ sym products;
      few = omega (arith, products, few);
      read = subst (HasRead e.texts) (sym texts) (read_more d.texts e.texts (texts_of s) one.sent.text kept.read goes.texts);
      reads = goes.reads;
    }

same_drilled : (state state' : State) (accepted accepted' refused refused' : ℕ) (opened opened' : List _) → state ≡ state' → accepted ≡ accepted' → refused ≡ refused' → opened ≡ opened'
    → ◌≡◌ {A = Drilled} (record { state = state; accepted = accepted; refused = refused; opened = opened }) (record { state = state'; accepted = accepted'; refused = refused'; opened = opened' })
same_drilled state state' accepted accepted' refused refused' opened opened' a b c d = cc

-- the answer to a request that was accepted
pub answers_accepted : (d e : DrillDesk) (place t : ℕ) (part : PutPart) (entry : Entry) (one : Made)
    → Accepts d.office.state (desk_at place) (next_number d.office.state (desk_at place)) (Issue part) (pos t) entry.minute (Some one)
    → entry ≡ entry_of d.office.state (desk_at place) (next_number d.office.state (desk_at place)) (Issue part) entry.minute (Some one)
    → Goes d e place entry one → Answers (drilled_of d) (record { desk = desk_at place; part = part; minute = t }) (drilled_of e)
answers_accepted d e place t part entry one accepts is goes = inr (record {
  minute = entry.minute;
  made = one;
  accepted = accepts;
  after = same_drilled _ _ _ _ _ _ _ _ (goes.state ∙ ap (λ (x : Entry). state_after d.office.state x (Some one)) is) goes.accepted goes.refused goes.opened;
})

-- ---- a request of the desk at a place

-- it was accepted, and made a product
pub record IsTaken (s : State) (place t : ℕ) (part : PutPart) (entry : Entry) (made : Option Made) : Type 0 where
  pub one : Made
  pub is : made ≡ Some one
  pub room : length s.products < 8192
  pub accepts : Accepts s (desk_at place) (next_number s (desk_at place)) (Issue part) (pos t) entry.minute (Some one)
  pub entry_is : entry ≡ entry_of s (desk_at place) (next_number s (desk_at place)) (Issue part) entry.minute (Some one)

taken : (s' s : State) (d : List ℕ) (n place t : ℕ) (r : ℤ) (part : PutPart) (entry : Entry) (made : Option Made)
    → s' ≡ s → d ≡ desk_at place → n ≡ next_number s (desk_at place) → r ≡ pos t
    → Accepts s' d n (Issue part) r entry.minute made → entry ≡ entry_of s' d n (Issue part) entry.minute made → IsTaken s place t part entry made
taken s' s d n place t r part entry made es ed en er a is =
    let a1 = subst (λ (x : State). Accepts x d n (Issue part) r entry.minute made) es a in
    let a2 = subst (λ (x : List ℕ). Accepts s x n (Issue part) r entry.minute made) ed a1 in
    let a3 = subst (λ (x : ℕ). Accepts s (desk_at place) x (Issue part) r entry.minute made) en a2 in
    let a4 = subst (λ (x : ℤ). Accepts s (desk_at place) (next_number s (desk_at place)) (Issue part) x entry.minute made) er a3 in
    let f1 = subst (λ (x : State). entry ≡ entry_of x d n (Issue part) entry.minute made) es is in
    let f2 = subst (λ (x : List ℕ). entry ≡ entry_of s x n (Issue part) entry.minute made) ed f1 in
    let f3 = subst (λ (x : ℕ). entry ≡ entry_of s (desk_at place) x (Issue part) entry.minute made) en f2 in
    let m = has_made s (desk_at place) (next_number s (desk_at place)) part (pos t) entry.minute made a4 in
    record {
      one = m.one;
      is = m.is;
      room = m.room;
      accepts = subst (λ (o : Option Made). Accepts s (desk_at place) (next_number s (desk_at place)) (Issue part) (pos t) entry.minute o) m.is a4;
      entry_is = subst (λ (o : Option Made). entry ≡ entry_of s (desk_at place) (next_number s (desk_at place)) (Issue part) entry.minute o) m.is f3;
    }

-- the number that a request gets
pub next_is : (d : DrillDesk) (place : ℕ) → IsKept d → place < 4 → slice_index d.numbers place + 1 ≡ next_number d.office.state (desk_at place)
next_is d place kept low = ap (λ (ns : List ℕ). slice_index ns place + 1) kept.numbered ∙ ap (λ (n : ℕ). n + 1) (number_at d.office.state place low)

-- it was made ready under that number
pub taken_by : (o : OfficeView) (d : DrillDesk) (desk : List ℕ) (place t : ℕ) (r : ℤ) (part : PutPart) (p : Readied)
    → o.state ≡ d.office.state → desk ≡ desk_at place → IsKept d → place < 4 → r ≡ pos t → IsReady o desk (slice_index d.numbers place + 1) (Issue part) r p
    → IsTaken d.office.state place t part p.entry p.made
taken_by o d desk place t r part p same is kept low reading ready =
    taken o.state d.office.state desk (slice_index d.numbers place + 1) place t r part p.entry p.made same is (next_is d place kept low) reading ready.accepted ready.entry

some_opened : (made : Option Made) (one : Made) (before now : List Event) → made ≡ Some one → option_map (λ (m : Made). before ++ m.opened) made ≡ Some now → now ≡ before ++ one.opened
some_opened None one before now is h = absurd (cc)
some_opened (Some m) one before now is h = cc

some_read : (made : Option Made) (one : Made) (before now : TextReader) → made ≡ Some one → IfSome made (λ (m : Made). HasReadOne before m.sent.text now) → HasReadOne before one.sent.text now
some_read made one before now is h = subst (λ (o : Option Made). IfSome o (λ (m : Made). HasReadOne before m.sent.text now)) is h

-- it was committed, unless memory lacked
pub accepted_if : {T E : Type 0} (result : Result T E) (d e : DrillDesk) (s' : State) (place t : ℕ) (part : PutPart) (entry : Entry) (made : Option Made)
    → IsKept d → place < 4 → IsTaken d.office.state place t part entry made → s' ≡ d.office.state
    → OnOk result (e.office.state ≡ state_after s' entry made) → OnOk result (last_number e.office.state entry.desk ≡ entry.seq) → OnOk result (ReadsAsTheBoard e.office.state)
    → OnOk result (e.numbers ≡ set d.numbers place (slice_index d.numbers place + 1)) → OnOk result (e.last ≡ entry.minute) → OnOk result (e.accepted ≡ d.accepted + 1) → e.refused ≡ d.refused
    → OnOk result (option_map (λ (m : Made). d.opened ++ m.opened) made ≡ Some e.opened) → OnOk result (IfSome made (λ (m : Made). HasReadOne d.texts m.sent.text e.texts))
    → OnOk result (IsKept e × Answers (drilled_of d) (record { desk = desk_at place; part = part; minute = t }) (drilled_of e))
accepted_if (Err x) d e s' place t part entry made kept low taken same state heard reads numbers minute accepted refused opened texts = tt
accepted_if (Ok x) d e s' place t part entry made kept low taken same state heard reads numbers minute accepted refused opened texts =
    let goes : Goes d e place entry taken.one = record {
      state = state ∙ ap (λ (s : State). state_after s entry made) same ∙ ap (λ (o : Option Made). state_after d.office.state entry o) taken.is;
      heard = heard;
      reads = reads;
      numbers = numbers;
      minute = minute;
      accepted = accepted;
      refused = refused;
      opened = some_opened made taken.one d.opened e.opened taken.is opened;
      texts = some_read made taken.one d.texts e.texts taken.is texts;
    } in
    let of : IsEntryOf d.office.state place part entry = record {
      desk = ap (λ (x : Entry). x.desk) taken.entry_is;
      seq = ap (λ (x : Entry). x.seq) taken.entry_is;
      request = ap (λ (x : Entry). x.request) taken.entry_is;
    } in
    (goes_on d e place part entry taken.one kept low taken.room of goes, answers_accepted d e place t part entry taken.one taken.accepts taken.entry_is goes)

pub first_if : {T E : Type 0} (A B : Type 0) (result : Result T E) → OnOk result (A × B) → OnOk result A
first_if A B (Ok x) h = h.0
first_if A B (Err e) h = tt

pub second_if : {T E : Type 0} (A B : Type 0) (result : Result T E) → OnOk result (A × B) → OnOk result B
second_if A B (Ok x) h = h.1
second_if A B (Err e) h = tt

-- it was refused
pub refused_core : (d : DrillDesk) (state : State) (desk : List ℕ) (n place t : ℕ) (r : ℤ) (part : PutPart) (x : Refusal)
    → desk ≡ desk_at place → n ≡ next_number d.office.state (desk_at place) → r ≡ pos t → Refuses d.office.state desk n (Issue part) r x
    → state ≡ d.office.state
    → Answers (drilled_of d) (record { desk = desk_at place; part = part; minute = t }) (record { state = state; accepted = d.accepted; refused = d.refused + 1; opened = d.opened })
refused_core d state desk n place t r part x ed en er broken same =
    let s = d.office.state in
    let b1 = subst (λ (y : List ℕ). Refuses s y n (Issue part) r x) ed broken in
    let b2 = subst (λ (y : ℕ). Refuses s (desk_at place) y (Issue part) r x) en b1 in
    let b3 = subst (λ (y : ℤ). Refuses s (desk_at place) (next_number s (desk_at place)) (Issue part) y x) er b2 in
    inl (record { rule = x; broken = b3; after = same_drilled _ _ _ _ _ _ _ _ same refl refl refl })

-- ---- bounds

pub number_low : (d : DrillDesk) (place : ℕ) → IsKept d → length d.office.state.products < 8192 → slice_index d.numbers place < 8192
number_low d place kept few = omega (arith, low_at d.accepted d.numbers place kept.low, kept.counted, few)

pub accepted_low : (d : DrillDesk) → IsKept d → length d.office.state.products < 8192 → d.accepted < 8192
accepted_low d kept few = omega (arith, kept.counted, few)

pub products_low : (d : DrillDesk) → IsKept d → length d.office.state.products < 8192 → length d.texts.reader.products < 8192
products_low d kept few =
    let texts : length (texts_of d.office.state) ≡ length d.office.state.products = length-map d.office.state.products (λ (x : Sent). x.text) in
    let read : length d.texts.reader.products ≡ length (products_in drill_office classes.O (texts_of d.office.state)) = ap length kept.read.products in
    omega (arith, few_products drill_office classes.O (texts_of d.office.state), texts, read, few)

pub no_fault : (d : DrillDesk) → IsKept d → d.texts.faults ≡ 0
no_fault d kept = kept.read.faults ∙ no_faults d.office.state kept.reads
