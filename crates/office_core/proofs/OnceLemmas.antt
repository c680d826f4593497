-- In a legal history the numbers of each desk are 1, 2, .., since each accepted request has the number behind its desk's last.
use Rattle.std.proofs.Common.{◌≡◌, ◌∙◌, ◌||◌, ℕ, ℤ, pos, zero, suc, ◌+◌, length, length-append, arith, List, [], ◌∷◌, ◌++◌, Bool, true, false, refl, sym, ap, subst, cond, map, Option, None, Some, filter}
use Rattle.std.proofs.lemmas.Bool.{both_ways}
use Rattle.std.proofs.lemmas.Slice.Eq.{bytes_eq-Decides}
use Rattle.std.specs.List.{list_any, AllByRecursion}
use Rattle.std.specs.Str.{bytes_eq}
use Rattle.hazard_types.specs.declared.codes.Class.{Class}
use Rattle.office_types.specs.declared.refusal.Refusal.{Refusal}
use Rattle.office_types.specs.declared.refusal.Refusal.TheVariants as refusal
use Rattle.office_types.specs.declared.request.Edition.TheVariants.{One}
use Rattle.office_types.specs.declared.request.Entry.{Entry}
use Rattle.office_types.specs.declared.request.Request.{Request}
use Rattle.desk_settings.specs.declared.settings.Settings.{Settings}
use Rattle.event_life.specs.Openings.{counted_from}
use Rattle.action_planner.specs.Offences.{first_given}
use Rattle.action_planner.proofs.LawfulPlaced.{given_none}
use Rattle.office_core.specs.Histories.{Entered, IsNext, LeadFrom, IsLegal, StandOnce, entries_of, numbers_by}
use Rattle.office_core.specs.Rules.{broken_number, broken_request, first_of_two, is_repeated, number_rules, reused, stale, gap, unknown_desk}
use Rattle.office_core.specs.State.{State, first_state, in_edition, last_number, last_of, said_in, no_requests}
use Rattle.office_core.specs.Step.{Accepts, entry_of, heard_after, state_after}
use Rattle.office_core.specs.declared.heard.DeskRecord.{DeskRecord}
use Rattle.office_core.specs.declared.heard.LastRequest.{LastRequest}
use Rattle.office_core.specs.declared.made.Made.{Made}

pub bytes_one : (xs ys : List ℕ) → bytes_eq xs ys ≡ true → xs ≡ ys
bytes_one xs ys = (bytes_eq-Decides xs ys).0

pub bytes_itself : (xs : List ℕ) → bytes_eq xs xs ≡ true
bytes_itself xs = (bytes_eq-Decides xs xs).1 refl

-- ---- what is heard of a desk

said_last : Bool → ℕ → ℕ → ℕ
said_last b new old = cond b new old

heard_step : (h : DeskRecord) (heard : List DeskRecord) (desk d : List ℕ) (said : LastRequest) (a b c : Bool) →
    bytes_eq h.desk desk ≡ a → bytes_eq h.desk d ≡ b → bytes_eq desk d ≡ c →
    (a ≡ false → last_of (said_in (heard_after heard desk said) d) ≡ cond c said.seq (last_of (said_in heard d))) →
    last_of (said_in (cond a (record { desk = h.desk; said = Some said } ∷ heard) (h ∷ heard_after heard desk said)) d)
    ≡ cond c said.seq (last_of (cond b h.said (said_in heard d)))
heard_step h heard desk d said true true true here there joint more = ap (λ x. last_of (cond x (Some said) (said_in heard d))) there
heard_step h heard desk d said true true false here there joint more =
    absurd (both_ways _ joint (subst (λ x. bytes_eq x d ≡ true) (bytes_one h.desk desk here) there))
heard_step h heard desk d said true false true here there joint more =
    absurd (both_ways _ there (subst (λ x. bytes_eq x d ≡ true) (sym (bytes_one h.desk desk here)) joint))
heard_step h heard desk d said true false false here there joint more = ap (λ x. last_of (cond x (Some said) (said_in heard d))) there
heard_step h heard desk d said false true true here there joint more =
    absurd (both_ways _ here (subst (λ x. bytes_eq h.desk x ≡ true) (sym (bytes_one desk d joint)) there))
heard_step h heard desk d said false true false here there joint more = ap (λ x. last_of (cond x h.said (said_in (heard_after heard desk said) d))) there
heard_step h heard desk d said false false true here there joint more = ap (λ x. last_of (cond x h.said (said_in (heard_after heard desk said) d))) there ∙ more refl
heard_step h heard desk d said false false false here there joint more = ap (λ x. last_of (cond x h.said (said_in (heard_after heard desk said) d))) there ∙ more refl

-- the desk's last number is the one heard, every other stays
last_after : (heard : List DeskRecord) (desk d : List ℕ) (said : LastRequest) → list_any (bytes_eq desk) (map (λ (h : DeskRecord). h.desk) heard) ≡ true →
    last_of (said_in (heard_after heard desk said) d) ≡ cond (bytes_eq desk d) said.seq (last_of (said_in heard d))
last_after [] desk d said known = cc
last_after (h ∷ heard) desk d said known =
    heard_step h heard desk d said (bytes_eq h.desk desk) (bytes_eq h.desk d) (bytes_eq desk d) refl refl refl
    (λ other. last_after heard desk d said (later (bytes_eq desk h.desk) refl other))
  where
    later : (b : Bool) → bytes_eq desk h.desk ≡ b → bytes_eq h.desk desk ≡ false → list_any (bytes_eq desk) (map (λ (x : DeskRecord). x.desk) heard) ≡ true
    later true is other = absurd (both_ways _ other (subst (λ x. bytes_eq x desk ≡ true) (bytes_one desk h.desk is) (bytes_itself desk)))
    later false is other = subst (λ b. (b || list_any (bytes_eq desk) (map (λ (x : DeskRecord). x.desk) heard)) ≡ true) is known

none_said : (desks : List (List ℕ)) (d : List ℕ) → last_of (said_in (map no_requests desks) d) ≡ 0
none_said [] d = refl
none_said (desk ∷ desks) d = none_step (bytes_eq desk d) (none_said desks d)
  where
    none_step : (b : Bool) → last_of (said_in (map no_requests desks) d) ≡ 0 → last_of (cond b None (said_in (map no_requests desks) d)) ≡ 0
    none_step true more = refl
    none_step false more = more

desks_unheard : (desks : List (List ℕ)) → map (λ (h : DeskRecord). h.desk) (map no_requests desks) ≡ desks
desks_unheard [] = refl
desks_unheard (d ∷ desks) = ap (λ ds. d ∷ ds) (desks_unheard desks)

desks_after : (heard : List DeskRecord) (desk : List ℕ) (said : LastRequest) → map (λ (h : DeskRecord). h.desk) (heard_after heard desk said) ≡ map (λ (h : DeskRecord). h.desk) heard
desks_after [] desk said = refl
desks_after (h ∷ heard) desk said = by_test (bytes_eq h.desk desk) (desks_after heard desk said)
  where
    by_test : (b : Bool) → map (λ (x : DeskRecord). x.desk) (heard_after heard desk said) ≡ map (λ (x : DeskRecord). x.desk) heard → map (λ (x : DeskRecord). x.desk) (cond b (record { desk = h.desk; said = Some said } ∷ heard) (h ∷ heard_after heard desk said)) ≡ h.desk ∷ map (λ (x : DeskRecord). x.desk) heard
    by_test true more = refl
    by_test false more = ap (λ ds. h.desk ∷ ds) more

-- ---- numbers

counted-more : (n k : ℕ) → counted_from n k ++ (n + k) ∷ [] ≡ counted_from n (k + 1)
counted-more n zero = ap (λ m. m ∷ []) (omega arith)
counted-more n (suc k) =
    let shifted : (n + 1) + k ≡ n + suc k = omega arith in
    let joined : suc (k + 1) ≡ suc k + 1 = omega arith in
    ap (λ ms. n ∷ ms) (subst (λ m. counted_from (n + 1) k ++ m ∷ [] ≡ counted_from (n + 1) (k + 1)) shifted (counted-more (n + 1) k)) ∙ ap (counted_from n) joined

abbrev one_number : Bool → ℕ → List ℕ
one_number b n = cond b (n ∷ []) []

numbers-more : (d : List ℕ) (entries : List Entry) (e : Entry) → numbers_by d (entries ++ e ∷ []) ≡ numbers_by d entries ++ one_number (bytes_eq e.desk d) e.seq
numbers-more d [] e = by_test (bytes_eq e.desk d) refl
  where
    by_test : (b : Bool) → bytes_eq e.desk d ≡ b → map (λ (x : Entry). x.seq) (cond b (e ∷ []) []) ≡ one_number b e.seq
    by_test true is = refl
    by_test false is = refl
numbers-more d (x ∷ entries) e = by_test (bytes_eq x.desk d) (numbers-more d entries e)
  where
    by_test : (b : Bool) → numbers_by d (entries ++ e ∷ []) ≡ numbers_by d entries ++ one_number (bytes_eq e.desk d) e.seq →
        map (λ (y : Entry). y.seq) (cond b (x ∷ filter (λ (y : Entry). bytes_eq y.desk d) (entries ++ e ∷ [])) (filter (λ (y : Entry). bytes_eq y.desk d) (entries ++ e ∷ [])))
        ≡ map (λ (y : Entry). y.seq) (cond b (x ∷ filter (λ (y : Entry). bytes_eq y.desk d) entries) (filter (λ (y : Entry). bytes_eq y.desk d) entries)) ++ one_number (bytes_eq e.desk d) e.seq
    by_test true more = ap (λ ns. x.seq ∷ ns) more
    by_test false more = more

-- ---- the next number

desk_known : (desks : List (List ℕ)) (desk : List ℕ) (b : Bool) → list_any (bytes_eq desk) desks ≡ b → cond b None (Some refusal.UnknownDesk) ≡ None → b ≡ true
desk_known desks desk true is h = refl
desk_known desks desk false is h = cc

number_next : (last seq : ℕ) → reused last seq ≡ None → stale last seq ≡ None → gap last seq ≡ None → seq ≡ last + 1
number_next last seq same below above = grind arith

first_none : (a b : Option Refusal) → first_of_two a b ≡ None → a ≡ None
first_none None b h = refl
first_none (Some x) b h = cc

unrepeated : (b : Bool) (a x rest : Option Refusal) → b ≡ false → cond b a (first_of_two x rest) ≡ None → x ≡ None
unrepeated true a x rest is h = cc
unrepeated false a x rest is h = first_none x rest h

numbers_unbroken : (s : State) (desk : List ℕ) (seq : ℕ) (r : Request) (reading : ℤ) → is_repeated s desk seq r ≡ false → broken_request s desk seq r reading ≡ None →
    AllByRecursion (λ x. x ≡ None) (number_rules s desk seq reading)
unfolding broken_request broken_number
numbers_unbroken s desk seq r reading new none =
    given_none (number_rules s desk seq reading)
    (unrepeated (is_repeated s desk seq r) (unknown_desk s desk) (first_given (number_rules s desk seq reading)) _ new none)

-- ---- what holds along a history

pub record Counted (settings : Settings) (earlier : List Entry) (s : State) : Type 0 where
  pub known : s.settings ≡ settings
  pub desks : map (λ (h : DeskRecord). h.desk) s.heard ≡ settings.desks
  pub last : (d : List ℕ) → last_of (said_in s.heard d) ≡ length (numbers_by d earlier)
  pub numbers : (d : List ℕ) → numbers_by d earlier ≡ counted_from 1 (length (numbers_by d earlier))

abbrev pub said_of : Entry → LastRequest
said_of e = record { seq = e.seq; request = e.request; reply = e.reply }

pub heard_next : (s : State) (e : Entry) (made : Option Made) → (state_after s e made).heard ≡ heard_after s.heard e.desk (said_of e)
unfolding state_after
heard_next s e made = refl

pub settings_next : (s : State) (e : Entry) (made : Option Made) → (state_after s e made).settings ≡ s.settings
unfolding state_after
settings_next s e made = refl

length-one : (ns : List ℕ) (n : ℕ) → length (ns ++ n ∷ []) ≡ length ns + 1
length-one ns n = length-append ns (n ∷ [])

length-none : (ns : List ℕ) → length (ns ++ []) ≡ length ns
length-none [] = refl
length-none (m ∷ ns) = ap suc (length-none ns)

more_numbers : (ns : List ℕ) (b : Bool) (n : ℕ) → (b ≡ true → n ≡ length ns + 1) → ns ≡ counted_from 1 (length ns) → ns ++ one_number b n ≡ counted_from 1 (length (ns ++ one_number b n))
more_numbers ns true n next counted =
    ap (λ m. ns ++ m ∷ []) (next refl ∙ omega arith) ∙ ap (λ ms. ms ++ (1 + length ns) ∷ []) counted ∙ counted-more 1 (length ns) ∙ ap (counted_from 1) (sym (length-one ns n))
more_numbers ns false n next counted = nothing_more ns counted
  where
    append-nothing : (ms : List ℕ) → ms ++ [] ≡ ms
    append-nothing [] = refl
    append-nothing (m ∷ ms) = ap (λ xs. m ∷ xs) (append-nothing ms)

    nothing_more : (ms : List ℕ) → ms ≡ counted_from 1 (length ms) → ms ++ [] ≡ counted_from 1 (length (ms ++ []))
    nothing_more ms c = append-nothing ms ∙ c ∙ ap (λ k. counted_from 1 k) (sym (length-none ms))

more_last : (ns : List ℕ) (b : Bool) (n : ℕ) → (b ≡ true → n ≡ length ns + 1) → cond b n (length ns) ≡ length (ns ++ one_number b n)
more_last ns true n next = next refl ∙ sym (length-one ns n)
more_last ns false n next = sym (length-none ns)

entries-more : (earlier : List Entered) (x : Entered) → entries_of (earlier ++ x ∷ []) ≡ entries_of earlier ++ x.entry ∷ []
entries-more [] x = refl
entries-more (y ∷ earlier) x = ap (λ es. y.entry ∷ es) (entries-more earlier x)

append-one : (earlier : List Entered) (x : Entered) (history : List Entered) → (earlier ++ x ∷ []) ++ history ≡ earlier ++ x ∷ history
append-one [] x history = refl
append-one (y ∷ earlier) x history = ap (λ xs. y ∷ xs) (append-one earlier x history)

append-none : (earlier : List Entered) → earlier ≡ earlier ++ []
append-none [] = refl
append-none (y ∷ earlier) = ap (λ xs. y ∷ xs) (append-none earlier)

module _ (fits : List Entered → Entered → Bool) where
  counted_next : (settings : Settings) (earlier : List Entered) (s : State) (y : Entered) (next : State) →
      IsNext fits earlier s y next → Counted settings (entries_of earlier) s → Counted settings (entries_of earlier ++ y.entry ∷ []) next
  counted_next settings earlier s y next h c =
      let e : Entry = y.entry in
      let before : State = in_edition e.edition s in
      let rules : AllByRecursion (λ x. x ≡ None) (number_rules before e.desk e.seq (pos e.minute)) = numbers_unbroken before e.desk e.seq e.request (pos e.minute) h.accepted.new h.accepted.request in
      let number : e.seq ≡ last_of (said_in s.heard e.desk) + 1 = number_next (last_of (said_in s.heard e.desk)) e.seq rules.1.0 rules.1.1.0 rules.1.1.1.0 in
      let known : list_any (bytes_eq e.desk) s.settings.desks ≡ true = desk_known s.settings.desks e.desk (list_any (bytes_eq e.desk) s.settings.desks) refl rules.0 in
      let desks : map (λ (x : DeskRecord). x.desk) s.heard ≡ s.settings.desks = c.desks ∙ ap (λ (x : Settings). x.desks) (sym c.known) in
      let heard : next.heard ≡ heard_after s.heard e.desk (said_of e) = ap (λ (x : State). x.heard) h.after ∙ heard_next before e y.made in
      let is_heard : list_any (bytes_eq e.desk) (map (λ (x : DeskRecord). x.desk) s.heard) ≡ true = ap (list_any (bytes_eq e.desk)) desks ∙ known in
      let counts : (d : List ℕ) → bytes_eq e.desk d ≡ true → e.seq ≡ length (numbers_by d (entries_of earlier)) + 1 =
      λ d same. number ∙ ap (λ k. k + 1) (ap (λ x. last_of (said_in s.heard x)) (bytes_one e.desk d same) ∙ c.last d) in
      record {
        known = ap (λ (x : State). x.settings) h.after ∙ settings_next before e y.made ∙ c.known;
        desks = ap (map (λ (x : DeskRecord). x.desk)) heard ∙ desks_after s.heard e.desk (said_of e) ∙ c.desks;
        last = λ d.
            ap (λ x. last_of (said_in x d)) heard ∙ last_after s.heard e.desk d (said_of e) is_heard
            ∙ ap (cond (bytes_eq e.desk d) e.seq) (c.last d)
            ∙ more_last (numbers_by d (entries_of earlier)) (bytes_eq e.desk d) e.seq (counts d)
            ∙ ap length (sym (numbers-more d (entries_of earlier) e));
        numbers = λ d.
            numbers-more d (entries_of earlier) e
            ∙ more_numbers (numbers_by d (entries_of earlier)) (bytes_eq e.desk d) e.seq (counts d) (c.numbers d)
            ∙ ap (λ ns. counted_from 1 (length ns)) (sym (numbers-more d (entries_of earlier) e));
      }

  counted_all : (settings : Settings) (earlier : List Entered) (s : State) (history : List Entered) (after : State) →
      LeadFrom fits earlier s history after → Counted settings (entries_of earlier) s → Counted settings (entries_of (earlier ++ history)) after
  counted_all settings earlier s [] after h c = subst (λ x. Counted settings (entries_of (earlier ++ [])) x) (sym h) (subst (λ xs. Counted settings (entries_of xs) s) (append-none earlier) c)
  counted_all settings earlier s (x ∷ history) after (next, first, later) c =
      subst (λ xs. Counted settings (entries_of xs) after) (append-one earlier x history)
      (counted_all settings (earlier ++ x ∷ []) next history after later
      (subst (λ es. Counted settings es next) (sym (entries-more earlier x)) (counted_next settings earlier s x next first c)))

  pub stand_once : (settings : Settings) (class : Class) (history : List Entered) (s : State) → IsLegal fits settings class history s → StandOnce (entries_of history)
  stand_once settings class history s h =
      let first : Counted settings [] (first_state settings class One) = record { known = refl; desks = desks_unheard settings.desks; last = none_said settings.desks; numbers = λ d. refl } in
      (counted_all settings [] (first_state settings class One) history s h first).numbers

-- ---- one accepted request

module _ (s : State) (desk : List ℕ) (seq : ℕ) (r : Request) (reading : ℤ) (t : ℕ) (made : Option Made) where
  pub number_behind : Accepts s desk seq r reading t made → seq ≡ last_number s desk + 1
  number_behind h =
      let rules : AllByRecursion (λ x. x ≡ None) (number_rules s desk seq reading) = numbers_unbroken s desk seq r reading h.new h.request in
      number_next (last_number s desk) seq rules.1.0 rules.1.1.0 rules.1.1.1.0

  is_heard : map (λ (x : DeskRecord). x.desk) s.heard ≡ s.settings.desks → Accepts s desk seq r reading t made → list_any (bytes_eq desk) (map (λ (x : DeskRecord). x.desk) s.heard) ≡ true
  is_heard desks h =
      let rules : AllByRecursion (λ x. x ≡ None) (number_rules s desk seq reading) = numbers_unbroken s desk seq r reading h.new h.request in
      ap (list_any (bytes_eq desk)) desks ∙ desk_known s.settings.desks desk (list_any (bytes_eq desk) s.settings.desks) refl rules.0

  last_then : (d : List ℕ) → map (λ (x : DeskRecord). x.desk) s.heard ≡ s.settings.desks → Accepts s desk seq r reading t made →
      last_number (state_after s (entry_of s desk seq r t made) made) d ≡ cond (bytes_eq desk d) seq (last_number s d)
  last_then d desks h =
      ap (λ x. last_of (said_in x d)) (heard_next s (entry_of s desk seq r t made) made)
      ∙ last_after s.heard desk d (said_of (entry_of s desk seq r t made)) (is_heard desks h)

  pub last_is : map (λ (x : DeskRecord). x.desk) s.heard ≡ s.settings.desks → Accepts s desk seq r reading t made → last_number (state_after s (entry_of s desk seq r t made) made) desk ≡ seq
  last_is desks h = last_then desk desks h ∙ ap (λ b. cond b seq (last_number s desk)) (bytes_itself desk)

  pub others_stay : (d : List ℕ) → map (λ (x : DeskRecord). x.desk) s.heard ≡ s.settings.desks → Accepts s desk seq r reading t made → (d ≡ desk → ⊥) →
      last_number (state_after s (entry_of s desk seq r t made) made) d ≡ last_number s d
  others_stay d desks h other = last_then d desks h ∙ ap (λ b. cond b seq (last_number s d)) (differs (bytes_eq desk d) refl)
    where
      differs : (b : Bool) → bytes_eq desk d ≡ b → b ≡ false
      differs true is = absurd (other (sym (bytes_one desk d is)))
      differs false is = refl
