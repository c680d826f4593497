-- Products that come out one after another.
use Rattle.std.proofs.Common.{◌≡◌, ◌∙◌, ℕ, ◌+◌, ◌≤◌, List, [], ◌∷◌, ◌++◌, length, map, refl, ap, sym, subst, append_assoc, append-nil, length-append, arith, Bool, true, false, Result}
use Rattle.std.proofs.lemmas.List.{map-append}
use Rattle.event_life.specs.Products.{Product}
use Rattle.product_decoder.specs.Decoded.{decode}
use Rattle.product_decoder.specs.declared.types.Decoded.{Decoded}
use Rattle.product_frame.specs.declared.frame.FrameFault.{FrameFault}
use Rattle.product_decoder.specs.Feeding.{Fed, products_in, GivesNone}
use Rattle.archive_report.specs.declared.words.Asked.{Asked}
use Rattle.archive_report.specs.Report.{taken_in, products_of}
use Rattle.archive_report.proofs.Fronts.{products-append, faults-append}
use Rattle.archive_report.proofs.Taking.{waiting_less}
use Rattle.stats_report.specs.declared.tally.Tally.{Tally}
use Rattle.stats_report.specs.Readings.{TakesNext, TakesEach}
use Rattle.stats_report.specs.Tallies.{IsKept, Counts, CountsAll}

abbrev pub Readings : Type 0
Readings = List (Result Decoded FrameFault)

counts_none : (asked : Asked) (tally : Tally) → CountsAll asked [] tally tally
counts_none asked tally = record {
  kept = λ products kept. subst (λ (ps : List Product). IsKept asked.minute ps tally) (sym (append-nil products)) kept;
  count = omega arith;
  faults = omega arith;
}

-- one product more
counts_next : (asked : Asked) (readings : Readings) (tally mid new : Tally) (text : List ℕ) → CountsAll asked readings tally mid → Counts asked (decode text) mid new → CountsAll asked (readings ++ decode text ∷ []) tally new
counts_next asked readings tally mid new text all next =
    let r : Result Decoded FrameFault = decode text in
    let one : Readings = r ∷ [] in
    let both : products_of asked readings ++ taken_in asked r ≡ products_of asked (readings ++ one) = sym (products-append asked readings one ∙ ap (λ (ps : List Product). products_of asked readings ++ ps) (append-nil (taken_in asked r))) in
    record {
      kept = λ products kept. subst (λ (ps : List Product). IsKept asked.minute ps new) (append_assoc products (products_of asked readings) (taken_in asked r) ∙ ap (λ (ps : List Product). products ++ ps) both)
          (next.kept (products ++ products_of asked readings) (all.kept products kept));
      count = omega (arith, all.count, next.count, length-append readings one);
      faults = omega (arith, all.faults, next.faults, faults-append readings one);
    }

-- what came out of a feed so far
pub record Each (asked : Asked) (old new : Fed) (tally tally' : Tally) : Type 0 where
  pub texts : List (List ℕ)
  pub ended : new.ended ≡ old.ended
  pub going : old.ended ≡ false → (more : List ℕ) → products_in (old.rest ++ more) ≡ texts ++ products_in (new.rest ++ more)
  pub last : old.ended ≡ true → products_in old.rest ≡ texts ++ products_in new.rest
  pub counts : CountsAll asked (map decode texts) tally tally'
  pub less : tally'.count + length new.rest ≤ tally.count + length old.rest

each_none : (asked : Asked) (feed : Fed) (tally : Tally) → Each asked feed feed tally tally
each_none asked feed tally = record {
  texts = [];
  ended = refl;
  going = λ _ more. refl;
  last = λ _. refl;
  counts = counts_none asked tally;
  less = omega arith;
}

module _ (asked : Asked) (old mid : Fed) (tally tally1 : Tally) (each : Each asked old mid tally tally1) where
  each_next : (new : Fed) (tally2 : Tally) → TakesNext asked mid new tally1 tally2 → new.ended ≡ mid.ended → Each asked old new tally tally2
  each_next new tally2 next ended_is =
      let texts = each.texts in
      let one : List (List ℕ) = next.text ∷ [] in
      let readings : Readings = map decode texts in
      let both : map decode (texts ++ one) ≡ readings ++ decode next.text ∷ [] = map-append decode texts one in
      record {
        texts = texts ++ one;
        ended = ended_is ∙ each.ended;
        going = λ h more. each.going h more ∙ ap (λ (ts : List (List ℕ)). texts ++ ts) ((next.gives.0 (each.ended ∙ h)).1 more) ∙ sym (append_assoc texts one (products_in (new.rest ++ more)));
        last = λ h. each.last h ∙ ap (λ (ts : List (List ℕ)). texts ++ ts) (next.gives.1 (each.ended ∙ h)) ∙ sym (append_assoc texts one (products_in new.rest));
        counts = rw both (counts_next asked readings tally tally1 tally2 next.text each.counts next.counts);
        less = omega (arith, each.less, next.counts.count, next.gives.2);
      }

  less_at_end : (b : Bool) (new : Fed) → mid.ended ≡ b → GivesNone mid new → length new.rest ≤ length mid.rest
  less_at_end false new h none = waiting_less mid.rest new.rest (none.0 h).0
  less_at_end true new h none = omega (arith, ap length (none.1 h).1)

  each_end : (new : Fed) → GivesNone mid new → new.ended ≡ mid.ended → TakesEach asked old new tally tally1
  each_end new none ended_is = record {
    texts = each.texts;
    ended = ended_is ∙ each.ended;
    going = λ h more. each.going h more ∙ ap (λ (ts : List (List ℕ)). each.texts ++ ts) ((none.0 (each.ended ∙ h)).1 more);
    last = λ h. each.last h ∙ ap (λ (ts : List (List ℕ)). each.texts ++ ts) (none.1 (each.ended ∙ h)).0 ∙ append-nil each.texts;
    counts = each.counts;
    less = omega (arith, each.less, less_at_end mid.ended new refl none);
  }

-- where a loop over the products of a feed stands: it goes on, or nothing more came out
pub record Looped (asked : Asked) (old new : Fed) (tally tally' : Tally) (more : Bool) : Type 0 where
  pub less : tally'.count + length new.rest ≤ tally.count + length old.rest
  pub each : more ≡ true → Each asked old new tally tally'
  pub done : more ≡ false → TakesEach asked old new tally tally'

pub looped_none : (asked : Asked) (feed : Fed) (tally : Tally) → Looped asked feed feed tally tally true
looped_none asked feed tally = record { less = omega arith; each = λ _. each_none asked feed tally; done = λ e. absurd (cc) }

pub looped_next : (asked : Asked) (old mid new : Fed) (tally tally1 tally2 : Tally) (more : Bool) → Each asked old mid tally tally1
    → (more ≡ true → TakesNext asked mid new tally1 tally2) → (more ≡ false → GivesNone mid new × (tally2 ≡ tally1)) → new.ended ≡ mid.ended → Looped asked old new tally tally2 more
looped_next asked old mid new tally tally1 tally2 true each some none ended =
    let next = each_next asked old mid tally tally1 each new tally2 (some refl) ended in
    record { less = next.less; each = λ _. next; done = λ e. absurd (cc) }
looped_next asked old mid new tally tally1 tally2 false each some none ended =
    let h = none refl in
    let last : TakesEach asked old new tally tally2 = rw h.1 (each_end asked old mid tally tally1 each new h.0 ended) in
    record { less = last.less; each = λ e. absurd (cc); done = λ _. last }
