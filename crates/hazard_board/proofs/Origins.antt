-- Where the rows after a product come from: a row of before, or one that a lawful line opened, carried on or ended.
use Rattle.std.proofs.Common.{◌≡◌, ◌⊎◌, inl, inr, ◌∙◌, ℕ, ◌≤◌, ◌<◌, List, [], ◌∷◌, Bool, true, false, Option, Some, None, refl, sym, subst, cond, min, unwrap_or, option_map, arith, IsOk, IfOk, IfSome, IsSomeAnd}
use Rattle.std.specs.List.{AllByRecursion, find}
use Rattle.std.specs.List.Sorted.{IsStrictlySortedBy}
use Rattle.std.proofs.lemmas.Bool.{cases_lt}
use Rattle.hazard_types.specs.Days.{year_of}
use Rattle.hazard_types.specs.Places.{Place}
use Rattle.hazard_types.specs.declared.codes.Action.{Action}
use Rattle.hazard_types.specs.declared.codes.Action.TheVariants.{New, Con, Exa, Ext, Exb, Upg, Can, Exp, Cor, Rou}
use Rattle.hazard_types.specs.declared.hazard.Event.{Event}
use Rattle.hazard_types.specs.declared.line.Line.{Line}
use Rattle.hazard_types.specs.declared.line.Row.{Row}
use Rattle.hazard_types.specs.declared.period.End.{End}
use Rattle.event_life.specs.declared.life.Around.{Around}
use Rattle.event_life.specs.declared.life.Breach.{Breach}
use Rattle.event_life.specs.declared.life.Life.{Life}
use Rattle.event_life.specs.Bounds.{IsBefore, IsLongBefore, IsNear, JoinsEvent, GoesOnFrom, Stays, EndsAsPrinted, IsOpened, IsCarriedOn, IsEnded}
use Rattle.event_life.specs.Firsts.{is_lawful, first_line, row_by_first}
use Rattle.event_life.specs.Lives.{opens, goes_on, ends}
use Rattle.event_life.specs.Products.{by_key, row_at, life_of, row_of, row_after, is_open, is_number_held, is_new, is_routine, concerns, around_of, rows_after}
use Rattle.event_life.specs.Table.{breach_of_line, life_after_lawful_line, unless_breach, step}
use Rattle.event_life.proofs.BoundsLemmas.{none_ok, new_exactly, exa_exactly, exb_exactly, con_exactly, cor_exactly, ext_exactly, can_exactly, exp_exactly, upg_exactly, opens_leaves, goes_on_leaves, ends_leaves}
use Rattle.event_life.proofs.LivesLemmas.{none_from_test, find-passes}
use Rattle.event_life.proofs.Puts.{at_key, at_key-parts, concerns-parts, rows_after-sorted}
use Rattle.event_life.proofs.Spoken.{row_at-rows_after}
use Rattle.hazard_board.specs.Consistent.{AreOfTheYear}
use Rattle.hazard_board.proofs.Among.{IsAmong, found_among, found_at}

-- NEW opens an event of the year whose number is free; EXA and EXB join one that is open
abbrev pub IsFreeOrOpen : List Row → ℕ → Event → Type 0
IsFreeOrOpen rows t e = ((is_number_held rows t e ≡ false) × (e.year ≡ year_of t)) ⊎ (is_open rows t e ≡ true)

-- a line opened the row
pub record WasOpened (rows : List Row) (t : ℕ) (r : Row) : Type 0 where
  pub going : r.ended ≡ false
  pub begin : t ≤ r.period.begin
  pub length : IsBefore r.period.begin r.period.end
  pub event : IsFreeOrOpen rows t r.event

-- a line carried on with a row of before
pub record WasCarriedOn (rows : List Row) (t : ℕ) (q r : Row) : Type 0 where
  pub among : IsAmong q rows
  pub event : q.event ≡ r.event
  pub zone : q.zone ≡ r.zone
  pub was_going : q.ended ≡ false
  pub was_live : IsBefore t q.period.end
  pub going : r.ended ≡ false
  pub begin : (t ≤ r.period.begin) ⊎ (r.period.begin ≡ q.period.begin)
  pub length : IsBefore r.period.begin r.period.end
  pub left : IsBefore t r.period.end

-- a line ended a row of before
pub record WasEnded (rows : List Row) (q r : Row) : Type 0 where
  pub among : IsAmong q rows
  pub event : q.event ≡ r.event
  pub zone : q.zone ≡ r.zone
  pub ended : r.ended ≡ true
  pub period : r.period ≡ q.period

abbrev pub IsLeft : List Row → ℕ → Row → Type 0
IsLeft rows t r = WasOpened rows t r ⊎ (((q : Row) × WasCarriedOn rows t q r) ⊎ ((q : Row) × WasEnded rows q r))

-- what a line without a breach leaves
ok_left : {X : Type 0} (P : X → Type 0) (o : Option Breach) (x : X) → o ≡ None → IfOk (unless_breach o x) P → P x
ok_left P None x e h = h
ok_left P (Some breach) x e h = cc

begin_cases : (begin : Option ℕ) (own t : ℕ) → IfSome begin (λ b. (t < b) × (t < own)) → (t ≤ unwrap_or begin (min own t)) ⊎ (unwrap_or begin (min own t) ≡ own)
begin_cases (Some b) own t h = inl (omega (arith, h.0))
begin_cases None own t h = elim (cases_lt t own) as (λ _. (t ≤ min own t) ⊎ (min own t ≡ own)) [
  | inl lt ↦ inl (omega arith)
  | inr le ↦ inr (omega arith)
]

begin_printed : (begin : Option ℕ) (end : End) (t : ℕ) → IsSomeAnd begin (λ b. (t ≤ b) × IsBefore b end) → (t ≤ unwrap_or begin t) × IsBefore (unwrap_or begin t) end
begin_printed None end t h = absurd h
begin_printed (Some b) end t h = h

module _ (rows : List Row) (t : ℕ) (line : Line) (around : Around) where
  abbrev HasNone : Option Row → Type 0
  HasNone o = breach_of_line (option_map life_of o) line t around ≡ None

  abbrev RowLeft : Option Row → Row
  RowLeft o = row_of line (life_after_lawful_line (option_map life_of o) line t)

  is_ok : (o : Option Row) → HasNone o → IsOk (step (option_map life_of o) line t around)
  is_ok o h = none_ok (breach_of_line (option_map life_of o) line t around) (life_after_lawful_line (option_map life_of o) line t) h

  opening : (o : Option Row) → opens line.action ≡ true → HasNone o → t ≤ unwrap_or line.begin t → IsBefore (unwrap_or line.begin t) line.end → IsFreeOrOpen rows t line.event → IsLeft rows t (RowLeft o)
  opening o a h begin length event =
      let left : IsOpened line t (life_after_lawful_line (option_map life_of o) line t) =
      ok_left (IsOpened line t) (breach_of_line (option_map life_of o) line t around) (life_after_lawful_line (option_map life_of o) line t) h (opens_leaves (option_map life_of o) line t around a) in
      inl (record { going = left.going; begin = rw left.begin begin; length = rw (left.begin, left.end) length; event = event })

  carrying : (o : Option Row) → row_at rows line.event line.zone ≡ o → goes_on line.action ≡ true → HasNone o → IsSomeAnd (option_map life_of o) (λ life. GoesOnFrom life line t) → IsLeft rows t (RowLeft o)
  carrying None found a h g = absurd g
  carrying (Some q) found a h g =
      let left : IsCarriedOn (life_of q) line t (life_after_lawful_line (Some (life_of q)) line t) =
      ok_left (IsCarriedOn (life_of q) line t) (breach_of_line (Some (life_of q)) line t around) (life_after_lawful_line (Some (life_of q)) line t) h (goes_on_leaves (life_of q) line t around a) in
      let parts = at_key-parts line.event line.zone q (find-passes (at_key line.event line.zone) rows q found) in
      inr (inl (
        q,
        record {
          among = found_among (at_key line.event line.zone) rows q found;
          event = parts.0;
          zone = parts.1;
          was_going = g.going;
          was_live = g.live;
          going = left.going;
          begin = rw left.begin (begin_cases line.begin q.period.begin t g.printed);
          length = rw (left.begin, left.end) g.length;
          left = rw left.end g.left;
        },
      ))

  ending : (o : Option Row) → row_at rows line.event line.zone ≡ o → ends line.action ≡ true → HasNone o → IsSomeAnd (option_map life_of o) (λ life. EndsAsPrinted life line t) → IsLeft rows t (RowLeft o)
  ending None found a h g = absurd g
  ending (Some q) found a h g =
      let left : IsEnded (life_of q) line (life_after_lawful_line (Some (life_of q)) line t) =
      ok_left (IsEnded (life_of q) line) (breach_of_line (Some (life_of q)) line t around) (life_after_lawful_line (Some (life_of q)) line t) h (ends_leaves (life_of q) line t around a) in
      let parts = at_key-parts line.event line.zone q (find-passes (at_key line.event line.zone) rows q found) in
      inr (inr (q, record { among = found_among (at_key line.event line.zone) rows q found; event = parts.0; zone = parts.1; ended = left.ended; period = left.period }))

  some_weaker : (P Q : Life → Type 0) → ((life : Life) → P life → Q life) → (o : Option Life) → IsSomeAnd o P → IsSomeAnd o Q
  some_weaker P Q f None h = absurd h
  some_weaker P Q f (Some life) h = f life h

  joining : (o : Option Row) → opens line.action ≡ true → HasNone o → around.going ≡ is_open rows t line.event → JoinsEvent line t around → IsLeft rows t (RowLeft o)
  joining o a h going j = opening o a h j.begin j.length (inr (sym going ∙ j.event_open))

  -- the row that a lawful line leaves
  left_by : (a : Action) → line.action ≡ a → is_routine a ≡ false → (o : Option Row) → row_at rows line.event line.zone ≡ o → HasNone o →
      around.going ≡ is_open rows t line.event → around.held ≡ is_number_held rows t line.event → (is_new line.action ≡ true → line.event.year ≡ year_of t) → IsLeft rows t (RowLeft o)
  left_by New e own o found h going held year =
      let n = (new_exactly (option_map life_of o) line t around e).0 (is_ok o h) in
      let b = begin_printed line.begin line.end t n.1.begin in
      opening o (rw e refl) h b.0 b.1 (inl (sym held ∙ n.1.number_free, year (rw e refl)))
  left_by Exa e own o found h going held year = joining o (rw e refl) h going ((exa_exactly (option_map life_of o) line t around e).0 (is_ok o h)).1
  left_by Exb e own o found h going held year = joining o (rw e refl) h going ((exb_exactly (option_map life_of o) line t around e).0 (is_ok o h)).1
  left_by Con e own o found h going held year =
      carrying o found (rw e refl) h (some_weaker (λ life. GoesOnFrom life line t × Stays life line t) (λ life. GoesOnFrom life line t) (λ life g. g.0) (option_map life_of o) ((con_exactly (option_map life_of o) line t around e).0 (is_ok o h)))
  left_by Cor e own o found h going held year =
      carrying o found (rw e refl) h (some_weaker (λ life. GoesOnFrom life line t × Stays life line t) (λ life. GoesOnFrom life line t) (λ life g. g.0) (option_map life_of o) ((cor_exactly (option_map life_of o) line t around e).0 (is_ok o h)))
  left_by Ext e own o found h going held year =
      carrying o found (rw e refl) h (some_weaker (λ life. GoesOnFrom life line t × (¬ Stays life line t)) (λ life. GoesOnFrom life line t) (λ life g. g.0) (option_map life_of o) ((ext_exactly (option_map life_of o) line t around e).0 (is_ok o h)))
  left_by Can e own o found h going held year =
      ending o found (rw e refl) h (some_weaker (λ life. EndsAsPrinted life line t × IsLongBefore t life.period.end) (λ life. EndsAsPrinted life line t) (λ life g. g.0) (option_map life_of o) ((can_exactly (option_map life_of o) line t around e).0 (is_ok o h)))
  left_by Exp e own o found h going held year =
      ending o found (rw e refl) h (some_weaker (λ life. EndsAsPrinted life line t × IsNear t life.period.end) (λ life. EndsAsPrinted life line t) (λ life g. g.0) (option_map life_of o) ((exp_exactly (option_map life_of o) line t around e).0 (is_ok o h)))
  left_by Upg e own o found h going held year =
      ending o found (rw e refl) h (some_weaker (λ life. EndsAsPrinted life line t × IsBefore t life.period.end × (around.higher ≡ true)) (λ life. EndsAsPrinted life line t) (λ life g. g.0) (option_map life_of o) ((upg_exactly (option_map life_of o) line t around e).0 (is_ok o h)))
  left_by Rou e own o found h going held year = cc

of_line : (P : Line → Type 0) (p : Line → Bool) (lines : List Line) (line : Line) → AllByRecursion P lines → find p lines ≡ Some line → P line
of_line P p [] line all h = cc
of_line P p (l ∷ lines) line all h =
    let step : (b : Bool) → cond b (Some l) (find p lines) ≡ Some line → P line =
    λ b. elim b as (λ b. cond b (Some l) (find p lines) ≡ Some line → P line) [
      | true ↦ λ g. let same : l ≡ line = cc in subst P same all.0
      | false ↦ λ g. of_line P p lines line all.1 g
    ] in
    step (p l) h

module _ (rows : List Row) (t : ℕ) (lines : List Line) (years : AreOfTheYear lines t) where
  by_line : (e : Event) (z : Place) (line : Line) (r : Row) → find (concerns e z) lines ≡ Some line → is_lawful rows t lines line ≡ true → row_after rows t line ≡ r → IsLeft rows t r
  by_line e z line r found lawful is =
      let parts = concerns-parts e z line (find-passes (concerns e z) lines line found) in
      let year = of_line (λ (line : Line). is_new line.action ≡ true → line.event.year ≡ year_of t) (concerns e z) lines line years found in
      subst (IsLeft rows t) is (left_by rows t line (around_of rows t lines line) line.action refl parts.0 (row_at rows line.event line.zone) refl (none_from_test _ lawful) refl refl year)

  by_first : (e : Event) (z : Place) (r : Row) (first : Option Line) → find (concerns e z) lines ≡ first → row_by_first rows t lines (row_at rows e z) first ≡ Some r → IsAmong r rows ⊎ IsLeft rows t r
  by_first e z r None found is = inl (found_among (at_key e z) rows r is)
  by_first e z r (Some line) found is =
      let step : (b : Bool) → is_lawful rows t lines line ≡ b → cond b (Some (row_after rows t line)) (row_at rows e z) ≡ Some r → IsAmong r rows ⊎ IsLeft rows t r =
      λ b. elim b as (λ b. is_lawful rows t lines line ≡ b → cond b (Some (row_after rows t line)) (row_at rows e z) ≡ Some r → IsAmong r rows ⊎ IsLeft rows t r) [
        | true ↦ λ lawful g. let same : row_after rows t line ≡ r = cc in inr (by_line e z line r found lawful same)
        | false ↦ λ lawful g. inl (found_among (at_key e z) rows r g)
      ] in
      step (is_lawful rows t lines line) refl is

  -- each row after the product is one of before, or a line left it
  pub origin : (r : Row) → IsStrictlySortedBy by_key rows → IsAmong r (rows_after rows t lines) → IsAmong r rows ⊎ IsLeft rows t r
  origin r up h =
      let here : row_at (rows_after rows t lines) r.event r.zone ≡ Some r = found_at (rows_after rows t lines) r (rows_after-sorted rows t lines up) h in
      by_first r.event r.zone r (first_line lines r.event r.zone) refl (sym (row_at-rows_after rows t lines r.event r.zone) ∙ here)
