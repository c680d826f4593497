-- What sums come to where a line changes its row.
use Rattle.std.proofs.Common.{◌≡◌, ◌∙◌, ◌≤◌, ℕ, ◌+◌, ◌-◌, Bool, true, false, cond, List, [], ◌∷◌, ◌++◌, Option, Some, None, Ordering, Less, Equal, Greater, refl, ap, sym, arith}
use Rattle.std.specs.BTreeMap.{insert_entry, is_at}
use Rattle.std.specs.List.Sorted.{IsStrictlySortedBy}
use Rattle.std.specs.Map.{lookup, values_of}
use Rattle.std.specs.Ordering.{match_ordering, is_eq}
use Rattle.std.specs.Prelude.{option_map, max, min, unwrap_or}
use Rattle.hazard_types.specs.declared.codes.Action.{Action}
use Rattle.hazard_types.specs.declared.codes.Action.TheVariants.{New, Con, Exa, Ext, Exb, Upg, Can, Exp, Cor, Rou}
use Rattle.hazard_types.specs.declared.line.Line.{Line}
use Rattle.hazard_types.specs.declared.line.Row.{Row}
use Rattle.event_life.specs.declared.life.Life.{Life}
use Rattle.event_life.specs.Lives.{opens, ends}
use Rattle.event_life.specs.Products.{by_key, life_of}
use Rattle.event_life.specs.Table.{life_after_lawful_line, life_after_line}
use Rattle.event_life.proofs.Puts.{all_above, none_above}
use Rattle.product_decoder.specs.Openings.{opening_of, openings_in}
use Rattle.product_decoder.specs.declared.types.Opening.{Opening}
use Rattle.stats_report.specs.Adding.{sum_where, lead_of}
use Rattle.stats_report.specs.Minutes.{cut_at, minutes_left}
use Rattle.stats_report.specs.Spells.{spell_left, left_of, begin_printed, spell_after, gain_of, gained}
use Rattle.stats_report.specs.Spots.{Spots, Spot, Counted, by_spot, spot_of, spot_of_line, rows_in, AreSpotted, counted_at, row_counted, minutes_counted, row_left, counted_after}
use Rattle.stats_report.specs.Summed.{Test, passes, opens_in, AreSums, IsFit, after_line}
use Rattle.stats_report.specs.declared.standing.Moment.{Moment}
use Rattle.stats_report.specs.declared.standing.Spell.{Spell}
use Rattle.stats_report.specs.declared.sums.Sums.{Sums}
use Rattle.stats_report.proofs.Found.{spot_one, row_found}

abbrev zero_nat : ℕ
zero_nat = 0

cond_zero : (b : Bool) → cond b zero_nat zero_nat ≡ zero_nat
cond_zero true = refl
cond_zero false = refl

none_map : (o : Option Counted) → option_map (λ (c : Counted). c.row) o ≡ None → o ≡ None
none_map None h = refl
none_map (Some c) h = cc

seen : (o : Ordering) (k : Spot) (e : Spot × Counted) (es : Spots) → by_spot k e.0 ≡ o → lookup (is_at (by_spot k)) (e ∷ es) ≡ cond (is_eq o) (Some e.1) (lookup (is_at (by_spot k)) es)
seen o k e es h = ap (λ (p : Ordering). cond (is_eq p) (Some e.1) (lookup (is_at (by_spot k)) es)) h

-- a value that is put at its row's spot

module _ (test : Test) (v : Counted) where
  abbrev k : Spot
  k = spot_of v.row

  abbrev sum_of : Spots → ℕ
  sum_of es = sum_where (passes test) (λ (c : Counted). c.minutes) (values_of es)

  -- what the value had in whose place it comes
  abbrev gone : Option Counted → ℕ
  gone o = cond (passes test v) (minutes_counted o) 0

  sum_by : (o : Ordering) (e : Spot × Counted) (es tail : Spots) → by_spot k e.0 ≡ o → e.0 ≡ spot_of e.1.row → (o ≡ Less → lookup (is_at (by_spot k)) es ≡ None)
      → sum_of tail + gone (lookup (is_at (by_spot k)) es) ≡ sum_of es + cond (passes test v) v.minutes 0
      → sum_of (match_ordering o ((k, v) ∷ e ∷ es) ((e.0, v) ∷ es) (e ∷ tail)) + gone (lookup (is_at (by_spot k)) (e ∷ es)) ≡ sum_of (e ∷ es) + cond (passes test v) v.minutes 0
  sum_by Less e es tail h own none later =
      let g : gone (lookup (is_at (by_spot k)) (e ∷ es)) ≡ 0 = ap gone (seen Less k e es h ∙ none refl) ∙ cond_zero (passes test v) in
      omega (arith, g)
  sum_by Equal e es tail h own none later =
      let g : gone (lookup (is_at (by_spot k)) (e ∷ es)) ≡ cond (passes test v) e.1.minutes 0 = ap gone (seen Equal k e es h) in
      let spot : spot_of e.1.row ≡ k = spot_one v.row e.1.row (sym (ap (by_spot k) own) ∙ h) in
      let same : passes test e.1 ≡ passes test v = ap (λ (s : Spot). test s.event s.zone) spot in
      let s : cond (passes test e.1) e.1.minutes 0 ≡ cond (passes test v) e.1.minutes 0 = ap (λ (b : Bool). cond b e.1.minutes 0) same in
      omega (arith, g, s)
  sum_by Greater e es tail h own none later =
      let g : gone (lookup (is_at (by_spot k)) (e ∷ es)) ≡ gone (lookup (is_at (by_spot k)) es) = ap gone (seen Greater k e es h) in
      omega (arith, g, later)

  pub sum_put : (es : Spots) → AreSpotted es → IsStrictlySortedBy by_key (rows_in es) → sum_of (insert_entry by_spot es k v) + gone (lookup (is_at (by_spot k)) es) ≡ sum_of es + cond (passes test v) v.minutes 0
  unfolding IsStrictlySortedBy
  sum_put [] at up = let g = cond_zero (passes test v) in omega (arith, g)
  sum_put (e ∷ es) at up = sum_by (by_spot k e.0) e es (insert_entry by_spot es k v) refl at.0 none (sum_put es at.1 up.1)
    where
      none : by_spot k e.0 ≡ Less → lookup (is_at (by_spot k)) es ≡ None
      none h =
          let less : by_key v.row e.1.row ≡ Less = sym (ap (by_spot k) at.0) ∙ h in
          none_map (lookup (is_at (by_spot k)) es) (row_found es at.1 v.row.event v.row.zone ∙ none_above v.row (rows_in es) (all_above v.row e.1.row (rows_in es) less up.0))

-- openings

pub sum_both : {A : Type 0} (p : A → Bool) (f : A → ℕ) (xs ys : List A) → sum_where p f (xs ++ ys) ≡ sum_where p f xs + sum_where p f ys
sum_both p f [] ys = from_none (sum_where p f ys)
  where
    from_none : (n : ℕ) → n ≡ 0 + n
    from_none n = omega arith
sum_both p f (x ∷ xs) ys = let later = sum_both p f xs ys in omega (arith, later)

one_sum : {A : Type 0} (p : A → Bool) (f : A → ℕ) (x : A) (o : Bool) → sum_where p f (cond o (x ∷ []) []) ≡ cond o (cond (p x) (f x) 0) 0
one_sum p f x true = omega arith
one_sum p f x false = refl

module _ (m : Moment) (line : Line) where
  abbrev o : Opening
  o = opening_of m.issue line

  abbrev more : List Opening
  more = openings_in m.issue (line ∷ [])

  opened_true : (test : Test) (f : Opening → ℕ) (opened : List Opening) → test line.event line.zone ≡ true
      → sum_where (opens_in test) f (opened ++ more) ≡ sum_where (opens_in test) f opened + cond (opens line.action) (f o) 0
  opened_true test f opened h =
      let both = sum_both (opens_in test) f opened more in
      let one = one_sum (opens_in test) f o (opens line.action) in
      let at : cond (opens line.action) (cond (opens_in test o) (f o) 0) 0 ≡ cond (opens line.action) (f o) 0 = ap (λ (b : Bool). cond (opens line.action) (cond b (f o) 0) 0) h in
      omega (arith, both, one, at)

  opened_false : (test : Test) (f : Opening → ℕ) (opened : List Opening) → test line.event line.zone ≡ false → sum_where (opens_in test) f (opened ++ more) ≡ sum_where (opens_in test) f opened
  opened_false test f opened h =
      let both = sum_both (opens_in test) f opened more in
      let one = one_sum (opens_in test) f o (opens line.action) in
      let at : cond (opens line.action) (cond (opens_in test o) (f o) 0) 0 ≡ cond (opens line.action) 0 0 = ap (λ (b : Bool). cond (opens line.action) (cond b (f o) 0) 0) h in
      let zero = cond_zero (opens line.action) in
      omega (arith, both, one, at, zero)

  -- the minutes that the row has from the product on

  begin_by : (b : Option ℕ) (from begin stop : ℕ) → m.issue ≤ from → stop - max from (unwrap_or b m.issue) ≡ stop - max from (unwrap_or b (min begin m.issue))
  begin_by None from begin stop h = omega (arith, h)
  begin_by (Some b) from begin stop h = refl

  abbrev left_by : Life → ℕ → ℕ
  left_by life from = cond life.ended 0 (cut_at m.stamp life.period.end - max from life.period.begin)

  by_action : (a : Action) (life : Life) (from : ℕ) → m.issue ≤ from
      → spell_left from (cond (ends a) (record { start = 0; stop = 0 }) (record { start = begin_printed line m.issue; stop = cut_at m.stamp line.end })) ≡ left_by (life_after_line a life line m.issue) from
  by_action New life from h = refl
  by_action Exa life from h = refl
  by_action Exb life from h = refl
  by_action Rou life from h = refl
  by_action Con life from h = begin_by line.begin from life.period.begin (cut_at m.stamp line.end) h
  by_action Cor life from h = begin_by line.begin from life.period.begin (cut_at m.stamp line.end) h
  by_action Ext life from h = begin_by line.begin from life.period.begin (cut_at m.stamp line.end) h
  by_action Can life from h = omega arith
  by_action Exp life from h = omega arith
  by_action Upg life from h = omega arith

  pub left_after : (before : Option Row) (from : ℕ) → m.issue ≤ from → (before ≡ None → ends line.action ≡ false) → spell_left from (spell_after m line) ≡ minutes_left m.stamp from (Some (row_left before line m.issue))
  unfolding row_left life_after_lawful_line
  left_after None from h going = rw (going refl) refl
  left_after (Some r) from h going = by_action line.action (life_of r) from h

-- one line

module _ (m : Moment) (es : Spots) (line : Line) where
  abbrev pub counted_then : Counted
  counted_then = counted_after m.stamp m.from m.issue line (counted_at es line)

  pub own_spot : spot_of counted_then.row ≡ spot_of_line line
  unfolding row_left
  own_spot = refl

  pub after_is : insert_entry by_spot es (spot_of counted_then.row) counted_then ≡ after_line m es line
  after_is = ap (λ (k : Spot). insert_entry by_spot es k counted_then) own_spot

module _ (m : Moment) (es : Spots) (opened : List Opening) (line : Line) (fit : IsFit m es line) (late : m.issue ≤ m.from) (before : Option Spell)
    (was : left_of m.from before ≡ minutes_left m.stamp m.from (row_counted (counted_at es line))) where
  abbrev found : Option Counted
  found = counted_at es line

  abbrev after : Counted
  after = counted_then m es line

  abbrev changed_es : Spots
  changed_es = insert_entry by_spot es (spot_of after.row) after

  pub left_is : spell_left m.from (spell_after m line) ≡ minutes_left m.stamp m.from (Some after.row)
  left_is = left_after m line (row_counted found) m.from late fit.going

  own_test : (test : Test) → passes test after ≡ test line.event line.zone
  own_test test = ap (λ (s : Spot). test s.event s.zone) (own_spot m es line)

  found_own : lookup (is_at (by_spot (spot_of after.row))) es ≡ found
  found_own = ap (λ (k : Spot). lookup (is_at (by_spot k)) es) (own_spot m es line)

  abbrev sum_in : Test → Spots → ℕ
  sum_in test es = sum_where (passes test) (λ (c : Counted). c.minutes) (values_of es)

  minutes_by : (test : Test) (b : Bool) → test line.event line.zone ≡ b → sum_in test (after_line m es line) + cond b (minutes_counted found) 0 ≡ sum_in test es + cond b after.minutes 0
  minutes_by test b h =
      let put = sum_put test after es fit.spotted fit.order in
      let pass : passes test after ≡ b = own_test test ∙ h in
      let new : sum_in test changed_es ≡ sum_in test (after_line m es line) = ap (sum_in test) (after_is m es line) in
      let one : cond (passes test after) (minutes_counted (lookup (is_at (by_spot (spot_of after.row))) es)) 0 ≡ cond b (minutes_counted found) 0 = λ i. cond (pass i) (minutes_counted (found_own i)) 0 in
      let two : cond (passes test after) after.minutes 0 ≡ cond b after.minutes 0 = ap (λ (b : Bool). cond b after.minutes 0) pass in
      omega (arith, put, new, one, two)

  sums_by : (test : Test) (s : Sums) (b : Bool) → test line.event line.zone ≡ b → AreSums es opened test s
      → AreSums (after_line m es line) (opened ++ openings_in m.issue (line ∷ [])) test (cond b (gained s (gain_of m line before)) s)
  sums_by test s true h is =
      let minutes = minutes_by test true h in
      let left = left_is in
      let within = fit.within in
      record {
        minutes = omega (arith, is.minutes, minutes, left, was, within);
        openings = let os = opened_true m line test (λ x. 1) opened h in omega (arith, is.openings, os);
        lead = let os = opened_true m line test lead_of opened h in omega (arith, is.lead, os);
      }
  sums_by test s false h is =
      let minutes = minutes_by test false h in
      record {
        minutes = omega (arith, is.minutes, minutes);
        openings = let os = opened_false m line test (λ x. 1) opened h in omega (arith, is.openings, os);
        lead = let os = opened_false m line test lead_of opened h in omega (arith, is.lead, os);
      }

  -- the sums come to more where they are of the line's event and zone
  pub sums_step : (test : Test) (s : Sums) → AreSums es opened test s → AreSums (after_line m es line) (opened ++ openings_in m.issue (line ∷ [])) test (cond (test line.event line.zone) (gained s (gain_of m line before)) s)
  sums_step test s is = sums_by test s (test line.event line.zone) refl is
