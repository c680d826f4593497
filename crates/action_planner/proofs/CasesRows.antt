-- The rows that a draft leaves, by the definition and by the cases; and when a row stands under a higher one.
use Rattle.std.proofs.Common.{◌≡◌, ◌⊎◌, ◌&&◌, inl, inr, ℕ, List, [], ◌∷◌, Bool, true, false, Option, Some, None, refl, sym, ap, subst, ◌∙◌, cond, nat_le, filter}
use Rattle.std.proofs.lemmas.Bool.{and_from, and_parts, both_ways, false_from_ne_true, not-true, not_from_false}
use Rattle.std.proofs.lemmas.Bool.Decides.{Decides-and}
use Rattle.std.proofs.lemmas.List.Elements.{All-from_recursion, recursion_from_All}
use Rattle.std.specs.Bool.{Decides}
use Rattle.std.specs.List.{All, AllByRecursion, Contains}
use Rattle.hazard_types.specs.Places.{Place}
use Rattle.hazard_types.specs.declared.hazard.Event.{Event}
use Rattle.hazard_types.specs.declared.line.Row.{Row}
use Rattle.hazard_types.specs.declared.period.Period.{Period}
use Rattle.office_types.specs.declared.request.Intent.{Intent}
use Rattle.office_types.specs.declared.request.Intent.TheVariants.{Put, Finish, Restate, Routine}
use Rattle.office_types.specs.declared.request.PutPart.{PutPart}
use Rattle.office_types.specs.declared.request.Target.{Target}
use Rattle.office_types.specs.declared.request.Target.TheVariants.{Fresh, Join}
use Rattle.hazard_types.proofs.Equality.{zone_decides}
use Rattle.event_life.specs.Bounds.{IsBefore}
use Rattle.event_life.specs.Higher.{outranks}
use Rattle.event_life.specs.Periods.{ends_after}
use Rattle.event_life.specs.Products.{has_rows, row_at}
use Rattle.action_planner.specs.Placed.{Placed, zones_of, is_opening, is_opening_target, speaks}
use Rattle.action_planner.specs.Lines.{minute_of, overlays, is_left, is_overlaid, joined_row, period_by_put, puts_or_finishes, row_after_put, rows_by_intent, rows_by_puts, rows_left, unless_ended}
use Rattle.action_planner.specs.Cases.{BeginsIn, IsLeftBy, IsLive, IsUnderHigher, Overlap, SpeaksOf, StandsAfter, Remains}
use Rattle.action_planner.proofs.LawfulLists.{Has, all_has, all_weaker, any_from, any_has, contains_from, has_any, has_filter, has_left, has_map, has_right, has_split, kept, map_has, none_from, none_of}
use Rattle.action_planner.proofs.LawfulPlaced.{IsFit}
use Rattle.action_planner.proofs.LawfulSteps.{no_row}
use Rattle.action_planner.proofs.CasesWords.{any_in, before_Decides, first_from, first_to, has_from, le_Decides, live_Decides, overlap_Decides, speaks_Decides}

module _ (rows : List Row) (t : ℕ) (all : List Placed) where
  -- rows of which no put and no finish speaks

  unmoved : (row : Row) (p : Placed) → (puts_or_finishes p.intent && speaks row.event row.zone p) ≡ false → SpeaksOf p row.event row.zone → puts_or_finishes p.intent ≡ false
  unmoved row p h s = false_from_ne_true _ (λ e. both_ways _ h (and_from _ _ e ((speaks_Decides row.event row.zone p).1 s)))

  left_alone : (row : Row) (p : Placed) → (SpeaksOf p row.event row.zone → puts_or_finishes p.intent ≡ false) → (puts_or_finishes p.intent && speaks row.event row.zone p) ≡ false
  left_alone row p f = false_from_ne_true _ (λ h. let q = and_parts (puts_or_finishes p.intent) _ h in both_ways _ (f ((speaks_Decides row.event row.zone p).0 q.1)) q.0)

  left_Decides : (row : Row) → Decides (is_left all row) (All (λ (p : Placed). SpeaksOf p row.event row.zone → puts_or_finishes p.intent ≡ false) all)
  left_Decides row =
      let f : Placed → Bool = λ p. puts_or_finishes p.intent && speaks row.event row.zone p in
      let P : Placed → Type 0 = λ p. SpeaksOf p row.event row.zone → puts_or_finishes p.intent ≡ false in (
        λ h. All-from_recursion P all (all_weaker (λ p. f p ≡ false) P (unmoved row) all (none_of f all (not-true _ h))),
        λ h. not_from_false _ (none_from f all (all_weaker P (λ p. f p ≡ false) (left_alone row) all (recursion_from_All P all h))),
      )

  pub remains_from : (row : Row) → Has (filter (is_left all) rows) row → Remains rows all row
  remains_from row h = let m = has_filter (is_left all) rows row h in (contains_from rows row m.0, (left_Decides row).0 m.1)

  pub remains_to : (row : Row) → Remains rows all row → Has (filter (is_left all) rows) row
  remains_to row s = kept (is_left all) rows row (has_from rows row s.0) ((left_Decides row).1 s.1)

  -- rows of puts

  joined_by : (e : Event) (z : Place) (target : Target) → (is_opening_target target ≡ true → has_rows rows e ≡ false) → joined_row rows e z target ≡ unless_ended (row_at rows e z)
  joined_by e z (Fresh h) new = sym (ap unless_ended (no_row rows e z (new refl)))
  joined_by e z (Join d) new = refl

  begin_on : (part : PutPart) (row : Row) (b : Bool) → row.ended ≡ b → BeginsIn t part (Some row) (period_by_put t part (cond b None (Some row))).begin
  begin_on part row true e = inl (e, refl)
  begin_on part row false e = inr (e, first_from (nat_le row.period.begin t) row.period.begin (minute_of part.begin t) _ (le_Decides row.period.begin t) refl)

  begin_from : (part : PutPart) (o : Option Row) → BeginsIn t part o (period_by_put t part (unless_ended o)).begin
  begin_from part None = refl
  begin_from part (Some row) = begin_on part row row.ended refl

  begin_to : (part : PutPart) (o : Option Row) (begin : ℕ) → BeginsIn t part o begin → begin ≡ (period_by_put t part (unless_ended o)).begin
  begin_to part None begin h = h
  begin_to part (Some row) begin (inl h) = rw h.0 h.1
  begin_to part (Some row) begin (inr h) = rw h.0 (first_to (nat_le row.period.begin t) row.period.begin (minute_of part.begin t) begin (le_Decides row.period.begin t) h.1)

  end_by : (part : PutPart) (o : Option Row) → (period_by_put t part o).end ≡ part.end
  end_by part None = refl
  end_by part (Some row) = refl

  by_put_from : (p : Placed) (part : PutPart) → p.intent ≡ Put part → (is_opening_target part.target ≡ true → has_rows rows p.event ≡ false) → (z : Place) → Has part.zones z → IsLeftBy rows t (row_after_put rows t p.event part z) p
  by_put_from p part i new z h =
      let zones : part.zones ≡ zones_of p.intent = ap zones_of (sym i) in
      let begins = begin_from part (row_at rows p.event z) in
      record {
        part = part;
        put = i;
        spoken = (refl, subst (λ (zs : List Place). Contains zs z) zones (contains_from part.zones z h));
        begin = subst (λ (o : Option Row). BeginsIn t part (row_at rows p.event z) (period_by_put t part o).begin) (sym (joined_by p.event z part.target new)) begins;
        end = end_by part (joined_row rows p.event z part.target);
      }

  by_intent_from : (p : Placed) (i : Intent) → p.intent ≡ i → (is_opening i ≡ true → has_rows rows p.event ≡ false) → (row : Row) → Has (rows_by_intent rows t p i) row → IsLeftBy rows t row p
  by_intent_from p (Put part) e new row h =
      let m = has_map (row_after_put rows t p.event part) part.zones row h in
      subst (λ (r : Row). IsLeftBy rows t r p) m.2 (by_put_from p part e new m.0 m.1)
  by_intent_from p (Finish part) e new row h = absurd h
  by_intent_from p (Restate part) e new row h = absurd h
  by_intent_from p (Routine part) e new row h = absurd h

  pub by_puts_from : (qs : List Placed) → AllByRecursion (IsFit rows t all) qs → (row : Row) → Has (rows_by_puts rows t qs) row → (p : Placed) × Has qs p × IsLeftBy rows t row p
  by_puts_from [] fit row h = absurd h
  by_puts_from (p ∷ qs) fit row h =
      let own : IsFit rows t all p = fit.0 in
      by_puts_step p qs own row (has_split (rows_by_intent rows t p p.intent) (rows_by_puts rows t qs) row h) (by_puts_from qs fit.1 row)
    where
      by_puts_step : (p : Placed) (qs : List Placed) → IsFit rows t all p → (row : Row) → Has (rows_by_intent rows t p p.intent) row ⊎ Has (rows_by_puts rows t qs) row → (Has (rows_by_puts rows t qs) row → (q : Placed) × Has qs q × IsLeftBy rows t row q) → (q : Placed) × Has (p ∷ qs) q × IsLeftBy rows t row q
      by_puts_step p qs own row (inl h) more = (p, inl refl, by_intent_from p p.intent refl own.new row h)
      by_puts_step p qs own row (inr h) more = let m = more h in (m.0, inr m.1, m.2)

  -- the row by the definition is the one of the cases, but for its flood values
  abbrev IsLike : Row → Row → Type 0
  IsLike r s = (r.event ≡ s.event) × (r.zone ≡ s.zone) × (r.period ≡ s.period) × (r.ended ≡ false)

  by_put_like : (p : Placed) (row : Row) (l : IsLeftBy rows t row p) → (is_opening p.intent ≡ true → has_rows rows p.event ≡ false) → IsLike (row_after_put rows t p.event l.part row.zone) row
  by_put_like p row l new =
      let opening : is_opening_target l.part.target ≡ true → has_rows rows p.event ≡ false = λ o. new (ap is_opening l.put ∙ o) in
      let joined : unless_ended (row_at rows row.event row.zone) ≡ joined_row rows p.event row.zone l.part.target = ap (λ (e : Event). unless_ended (row_at rows e row.zone)) (sym l.spoken.0) ∙ sym (joined_by p.event row.zone l.part.target opening) in
      let begin : row.period.begin ≡ (period_by_put t l.part (joined_row rows p.event row.zone l.part.target)).begin = begin_to l.part (row_at rows row.event row.zone) row.period.begin l.begin ∙ ap (λ (o : Option Row). (period_by_put t l.part o).begin) joined in
      let end : row.period.end ≡ (period_by_put t l.part (joined_row rows p.event row.zone l.part.target)).end = l.end ∙ sym (end_by l.part (joined_row rows p.event row.zone l.part.target)) in
      let same : row.period ≡ period_by_put t l.part (joined_row rows p.event row.zone l.part.target) = λ i. record { begin = begin i; end = end i } in
      (l.spoken.0, refl, sym same, refl)

  by_intent_to : (p : Placed) (row : Row) (l : IsLeftBy rows t row p) → Has (rows_by_intent rows t p p.intent) (row_after_put rows t p.event l.part row.zone)
  by_intent_to p row l =
      let zone : Has l.part.zones row.zone = has_from l.part.zones row.zone (subst (λ (zs : List Place). Contains zs row.zone) (ap zones_of l.put) l.spoken.1) in
      subst (λ (i : Intent). Has (rows_by_intent rows t p i) (row_after_put rows t p.event l.part row.zone)) (sym l.put) (map_has (row_after_put rows t p.event l.part) l.part.zones row.zone zone)

  by_puts_to : (qs : List Placed) (p : Placed) → Has qs p → (row : Row) → Has (rows_by_intent rows t p p.intent) row → Has (rows_by_puts rows t qs) row
  by_puts_to [] p h row g = absurd h
  by_puts_to (q ∷ qs) p (inl same) row g =
      has_left (rows_by_intent rows t q q.intent) (rows_by_puts rows t qs) row (subst (λ (x : Placed). Has (rows_by_intent rows t x x.intent) row) (sym same) g)
  by_puts_to (q ∷ qs) p (inr h) row g = has_right (rows_by_intent rows t q q.intent) (rows_by_puts rows t qs) row (by_puts_to qs p h row g)

  module _ (fit : AllByRecursion (IsFit rows t all) all) where
    after_from : (row : Row) → Has (filter (is_left all) rows) row ⊎ Has (rows_by_puts rows t all) row → StandsAfter rows t all row
    after_from row (inl h) = inl (remains_from row h)
    after_from row (inr h) = let m = by_puts_from all fit row h in inr (any_from (IsLeftBy rows t row) all m.0 m.1 m.2)

    -- a row that the draft leaves, which is the one of the cases but for its flood values
    after_to : (row : Row) → row.ended ≡ false → StandsAfter rows t all row → (r : Row) × Has (rows_left rows t all) r × IsLike r row
    after_to row going (inl s) = (row, has_left (filter (is_left all) rows) (rows_by_puts rows t all) row (remains_to row s), (refl, refl, refl, going))
    after_to row going (inr w) =
        let m = any_in (IsLeftBy rows t row) all w in
        let own : IsFit rows t all m.0 = all_has (IsFit rows t all) all m.0 fit m.1 in (
          row_after_put rows t m.0.event m.2.part row.zone,
          has_right (filter (is_left all) rows) (rows_by_puts rows t all) _ (by_puts_to all m.0 m.1 _ (by_intent_to m.0 row m.2)),
          by_put_like m.0 row m.2 own.new,
        )

    -- the test of a higher row, and what it says

    overlays_Decides : (row r : Row) → Decides (overlays t row r) ((((r.zone ≡ row.zone) × IsLive t r) × (outranks r.event.hazard row.event.hazard ≡ true)) × Overlap r.period row.period)
    overlays_Decides row r = Decides-and _ _ (Decides-and _ _ (Decides-and _ _ (zone_decides r.zone row.zone) (live_Decides t r)) (λ h. h, λ h. h)) (overlap_Decides r.period row.period)

    like_live : (r s : Row) → IsLike r s → IsLive t s → IsLive t r
    like_live r s like live = (like.3, subst (λ (p : Period). IsBefore t p.end) (sym like.2) live.1)

    pub under_from : (row : Row) → is_overlaid rows t all row ≡ true → IsUnderHigher rows t all row
    under_from row h =
        let m = has_any (overlays t row) (rows_left rows t all) h in
        let a = (overlays_Decides row m.0).0 m.2 in
        record { high = m.0; after = after_from m.0 (has_split (filter (is_left all) rows) (rows_by_puts rows t all) m.0 m.1); zone = a.0.0.0; live = a.0.0.1; rank = a.0.1; overlap = a.1 }

    pub under_to : (row : Row) → IsUnderHigher rows t all row → is_overlaid rows t all row ≡ true
    under_to row u =
        let m = after_to u.high u.live.0 u.after in
        let like : IsLike m.0 u.high = m.2 in
        let rank : outranks m.0.event.hazard row.event.hazard ≡ true = ap (λ (e : Event). outranks e.hazard row.event.hazard) like.0 ∙ u.rank in
        let overlap : Overlap m.0.period row.period = subst (λ (p : Period). Overlap p row.period) (sym like.2) u.overlap in
        any_has (overlays t row) (rows_left rows t all) m.0 m.1 ((overlays_Decides row m.0).1 (((like.1 ∙ u.zone, like_live m.0 u.high like u.live), rank), overlap))

    pub upgraded_Decides : (row : Row) → Decides (ends_after row.period.end t && is_overlaid rows t all row) (IsBefore t row.period.end × IsUnderHigher rows t all row)
    upgraded_Decides row = Decides-and _ _ (before_Decides row.period.end t) (under_from row, under_to row)
