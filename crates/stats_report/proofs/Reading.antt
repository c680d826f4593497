-- Pieces that are read one after another, and how a run ends.
use Rattle.std.proofs.Common.{◌≡◌, ◌∙◌, ◌⊎◌, inl, inr, ℕ, ◌+◌, ◌≤◌, List, [], ◌++◌, length, map, refl, ap, sym, subst, append_assoc, append-nil, length-append, arith, true, false, Option, Result, Ok, Err}
use Rattle.std.proofs.lemmas.List.{map-append}
use Rattle.event_life.specs.Products.{Product}
use Rattle.product_decoder.specs.Decoded.{decode}
use Rattle.product_decoder.specs.Feeding.{Fed, products_in}
use Rattle.program_ends.specs.Pieces.{Extent, extent, HasRead, IsPiece, IsStopped, IsWhole}
use Rattle.program_ends.specs.declared.reading.Stop.{Stop}
use Rattle.program_ends.specs.declared.reading.Stop.TheVariants as stop
use Rattle.program_ends.proofs.Piecewise.{read_none, read_more, read_whole}
use Rattle.archive_report.specs.declared.words.Asked.{Asked}
use Rattle.archive_report.specs.Report.{products_of}
use Rattle.archive_report.proofs.Fronts.{products-append, faults-append}
use Rattle.stats_report.specs.declared.tally.Tally.{Tally}
use Rattle.stats_report.specs.Readings.{IsFresh, TakesEach, IsTallied, ReadsTo}
use Rattle.stats_report.specs.Tallies.{IsKept, CountsAll}
use Rattle.stats_report.proofs.Taking.{Readings}

-- these bytes were read, and the products that were finished in them counted
pub record Ran (asked : Asked) (limit : ℕ) (tally : Tally) (left left' : Option (List ℕ)) (feed : Fed) (now : Extent) : Type 0 where
  pub seen : List ℕ
  pub texts : List (List ℕ)
  pub has : HasRead limit now left left' seen
  pub going : feed.ended ≡ false
  pub first : (more : List ℕ) → products_in (seen ++ more) ≡ texts ++ products_in (feed.rest ++ more)
  pub tallied : IsTallied asked (map decode texts) tally
  pub less : tally.count + length feed.rest ≤ length seen

pub ran_none : (asked : Asked) (limit : ℕ) (tally : Tally) (left : Option (List ℕ)) (feed : Fed) → IsFresh asked tally → feed.rest ≡ [] → feed.ended ≡ false → Ran asked limit tally left left feed (extent limit 0)
ran_none asked limit tally left feed fresh rest going = record {
  seen = [];
  texts = [];
  has = read_none limit left;
  going = going;
  first = λ more. rw rest refl;
  tallied = record { kept = fresh.0; count = fresh.1; faults = fresh.2 };
  less = omega (arith, ap length rest, fresh.1);
}

-- the tally with the products of one piece more
tallied_next : (asked : Asked) (texts more : List (List ℕ)) (tally new : Tally) → IsTallied asked (map decode texts) tally → CountsAll asked (map decode more) tally new → IsTallied asked (map decode (texts ++ more)) new
tallied_next asked texts more tally new was counts =
    let first : Readings = map decode texts in
    let later : Readings = map decode more in
    let both : map decode (texts ++ more) ≡ first ++ later = map-append decode texts more in
    subst (λ (rs : Readings). IsTallied asked rs new) (sym both) (record {
      kept = subst (λ (ps : List Product). IsKept asked.minute ps new) (sym (products-append asked first later)) (counts.kept (products_of asked first) was.kept);
      count = omega (arith, was.count, counts.count, length-append first later);
      faults = omega (arith, was.faults, counts.faults, faults-append first later);
    })

module _ (asked : Asked) (limit : ℕ) (tally : Tally) (left mid : Option (List ℕ)) (feed : Fed) (now : Extent) (ran : Ran asked limit tally left mid feed now) where
  -- whatever comes behind the products that were counted, they come first
  pushed_first : (part : List ℕ) (fed : Fed) → fed.rest ≡ feed.rest ++ part → (more : List ℕ) → products_in ((ran.seen ++ part) ++ more) ≡ ran.texts ++ products_in (fed.rest ++ more)
  pushed_first part fed pushed more =
      ap products_in (append_assoc ran.seen part more) ∙ ran.first (part ++ more)
      ∙ ap (λ (t : List ℕ). ran.texts ++ products_in t) (sym (append_assoc feed.rest part more) ∙ ap (λ (t : List ℕ). t ++ more) (sym pushed))

  -- one piece more was pushed, and its products counted
  pub ran_next : (new : Extent) (part : List ℕ) (fed fed' : Fed) (tally' : Tally) (left' : Option (List ℕ)) → IsPiece now new mid left' part → fed.rest ≡ feed.rest ++ part → fed.ended ≡ false → TakesEach asked fed fed' tally tally'
      → Ran asked limit tally' left left' fed' new
  ran_next new part fed fed' tally' left' next pushed going each = record {
    seen = ran.seen ++ part;
    texts = ran.texts ++ each.texts;
    has = read_more limit now left mid ran.seen ran.has new left' part next;
    going = each.ended ∙ going;
    first = λ others. pushed_first part fed pushed others ∙ ap (λ (ts : List (List ℕ)). ran.texts ++ ts) (each.going going others) ∙ sym (append_assoc ran.texts each.texts (products_in (fed'.rest ++ others)));
    tallied = tallied_next asked ran.texts each.texts tally tally' ran.tallied each.counts;
    less = omega (arith, each.less, ran.less, ap length pushed, length-append feed.rest part, length-append ran.seen part);
  }

  -- there was no further piece: a read failed, or the input goes on beyond the limit
  pub ends_stopped : {T : Type 0} (tally' : Tally) (new : Extent) (left' : Option (List ℕ)) (why : Stop) → IsStopped now new mid left' why → ReadsTo {T = T} asked limit left left' tally' (Err why)
  ends_stopped {T} tally' new left' why stopped = by_reason stopped.reasons
    where
      reason : (other : Stop) → ◌≡◌ {A = Result T Stop} (Err why) (Err other) → why ≡ other
      reason other e = cc

      so : (why ≡ stop.Read → length ran.has.read ≤ limit) → (why ≡ stop.TooLong → length ran.has.read ≡ limit + 1) → (why ≡ stop.Write → ⊥) → ReadsTo {T = T} asked limit left left' tally' (Err why)
      so few long unwritten = record {
        read = ran.has.read;
        takes = rw stopped.unread ran.has.takes;
        within = ran.has.most;
        ended = tt;
        read_fault = λ e. few (reason stop.Read e);
        too_long = λ e. long (reason stop.TooLong e);
        unwritten = λ e. unwritten (reason stop.Write e);
      }

      by_reason : (((why ≡ stop.Read) × (now.total ≤ now.limit)) ⊎ ((why ≡ stop.TooLong) × (now.total ≡ now.limit + 1))) → ReadsTo {T = T} asked limit left left' tally' (Err why)
      by_reason (inl h) =
          so (λ _. omega (arith, h.1, ran.has.limit_is, ran.has.total_is)) (λ e. let same : stop.Read ≡ stop.TooLong = sym h.0 ∙ e in absurd (cc)) (λ e. let same : stop.Read ≡ stop.Write = sym h.0 ∙ e in absurd (cc))
      by_reason (inr h) =
          so (λ e. let same : stop.TooLong ≡ stop.Read = sym h.0 ∙ e in absurd (cc)) (λ _. omega (arith, h.1, ran.has.limit_is, ran.has.total_is)) (λ e. let same : stop.TooLong ≡ stop.Write = sym h.0 ∙ e in absurd (cc))

  -- memory lacked for a piece that was read
  pub ends_memory : {T : Type 0} (tally' : Tally) (new : Extent) (part : List ℕ) (left' : Option (List ℕ)) → IsPiece now new mid left' part → ReadsTo {T = T} asked limit left left' tally' (Err stop.OutOfMemory)
  ends_memory tally' new part left' next =
      let has = read_more limit now left mid ran.seen ran.has new left' part next in
      record {
        read = has.read;
        takes = has.takes;
        within = has.most;
        ended = tt;
        read_fault = λ e. absurd (cc);
        too_long = λ e. absurd (cc);
        unwritten = λ e. absurd (cc);
      }

  -- once the input's end was read
  module _ (new : Extent) (left' : Option (List ℕ)) (whole : IsWhole now new mid left') where
    -- memory lacked for the last products
    pub ends_lacking : {T : Type 0} (tally' : Tally) → ReadsTo {T = T} asked limit left left' tally' (Err stop.OutOfMemory)
    ends_lacking tally' =
        let all = read_whole limit now left mid ran.seen ran.has new left' whole in
        record {
          read = ran.seen;
          takes = all.0;
          within = omega (arith, all.1);
          ended = tt;
          read_fault = λ e. absurd (cc);
          too_long = λ e. absurd (cc);
          unwritten = λ e. absurd (cc);
        }

    -- the last products were counted
    pub ends_well : {T : Type 0} (x : T) (fed fed' : Fed) (tally' : Tally) → fed.rest ≡ feed.rest → fed.ended ≡ true → TakesEach asked fed fed' tally tally' → ReadsTo asked limit left left' tally' (Ok x)
    ends_well x fed fed' tally' same over each =
        let all = read_whole limit now left mid ran.seen ran.has new left' whole in
        let texts : products_in ran.seen ≡ ran.texts ++ each.texts =
        ap products_in (sym (append-nil ran.seen)) ∙ ran.first [] ∙ ap (λ (t : List ℕ). ran.texts ++ products_in t) (append-nil feed.rest ∙ sym same)
        ∙ ap (λ (ts : List (List ℕ)). ran.texts ++ ts) (each.last over) in
        record {
          read = ran.seen;
          takes = all.0;
          within = omega (arith, all.1);
          ended = (whole.ended, all.1, subst (λ (ts : List (List ℕ)). IsTallied asked (map decode ts) tally') (sym texts) (tallied_next asked ran.texts each.texts tally tally' ran.tallied each.counts));
          read_fault = λ e. absurd (cc);
          too_long = λ e. absurd (cc);
          unwritten = λ e. absurd (cc);
        }
