-- Products that come out one after another.
use Rattle.std.proofs.Common.{◌≡◌, ◌∙◌, ℕ, suc, ◌+◌, ◌≤◌, ◌<◌, ◌==◌, ◌&&◌, List, [], ◌∷◌, ◌++◌, length, map, refl, ap, sym, append_assoc, append-nil, length-append, arith, Bool, true, false, cond, Result}
use Rattle.std.specs.List.{concat}
use Rattle.std.proofs.lemmas.List.{map-append}
use Rattle.event_life.specs.Products.{Product}
use Rattle.product_decoder.specs.Decoded.{decode}
use Rattle.product_decoder.specs.declared.types.Decoded.{Decoded}
use Rattle.product_frame.specs.declared.frame.FrameFault.{FrameFault}
use Rattle.product_decoder.specs.Feeding.{Fed, Parts, onto, has_heading, part, products_in, GivesNone, IsWaiting}
use Rattle.archive_report.specs.declared.tally.Tally.{Tally}
use Rattle.archive_report.specs.declared.words.Asked.{Asked}
use Rattle.archive_report.specs.Pieces.{IsTally, CountsAll, Counts, WritesNext, WritesEach}
use Rattle.archive_report.specs.Report.{taken_in, products_of, number_in, numbers_from, product_line, product_lines}
use Rattle.archive_report.specs.Runs.{HasOne}
use Rattle.archive_report.proofs.Fronts.{Readings, lines-append, products-append, numbers-append, faults-append}

-- what stands before the products, and these, are the text

laid_onto : (b : Bool) (c : ℕ) (p : Parts) (text : List ℕ) → p.lead ++ concat p.texts ≡ text → (onto b c p).lead ++ concat (onto b c p).texts ≡ c ∷ text
laid_onto true c p text h = ap (λ (t : List ℕ). c ∷ t) h
laid_onto false c p text h = ap (λ (t : List ℕ). c ∷ t) h

laid : (begins : Bool) (bytes : List ℕ) → (part begins bytes).lead ++ concat (part begins bytes).texts ≡ bytes
laid begins [] = refl
laid begins (c ∷ bytes) = laid_onto (begins && has_heading (c ∷ bytes)) c (part (c == 10) bytes) bytes (laid (c == 10) bytes)

few_bytes : (bytes : List ℕ) → length (concat (products_in bytes)) ≤ length bytes
few_bytes bytes = omega (arith, ap length (laid true bytes), length-append (part true bytes).lead (concat (products_in bytes)))

pub waiting_less : (old new : List ℕ) → IsWaiting old new → length new ≤ length old
waiting_less old new w =
    let s = w.split in
    omega (arith, ap length s.parts, ap length w.kept, length-append s.lines s.line, length-append (concat (products_in s.lines)) s.line, few_bytes s.lines)

pub waiting_one : (old new : List ℕ) → IsWaiting old new → HasOne old
waiting_one old new w = record { split = w.split; one = w.one }

-- how many products a text has

count_onto : (b : Bool) (c : ℕ) (p : Parts) (n : ℕ) → length p.texts ≤ n → length (onto b c p).texts ≤ suc n
count_onto true c p n h = omega arith
count_onto false c p n h = omega arith

count_in : (begins : Bool) (bytes : List ℕ) → length (part begins bytes).texts ≤ length bytes
count_in begins [] = omega arith
count_in begins (c ∷ bytes) = count_onto (begins && has_heading (c ∷ bytes)) c (part (c == 10) bytes) (length bytes) (count_in (c == 10) bytes)

pub few_products : (bytes : List ℕ) → length (products_in bytes) ≤ length bytes
few_products bytes = count_in true bytes

-- one product more

pub counts_none : (asked : Asked) (tally : Tally) → CountsAll asked [] tally tally
counts_none asked tally = record { products = sym (append-nil tally.reader.products); numbers = sym (append-nil tally.numbers); count = omega arith; faults = omega arith }

pub counts_next : (asked : Asked) (readings : Readings) (tally mid new : Tally) (text : List ℕ) → CountsAll asked readings tally mid → Counts asked (decode text) mid new → CountsAll asked (readings ++ decode text ∷ []) tally new
counts_next asked readings tally mid new text all next =
    let r : Result Decoded FrameFault = decode text in
    let one : Readings = r ∷ [] in
    let at : mid.count + 1 ≡ tally.count + 1 + length readings = omega (arith, all.count) in
    let products = sym (products-append asked readings one ∙ ap (λ (ps : List Product). products_of asked readings ++ ps) (append-nil (taken_in asked r))) in
    let numbers = sym (numbers-append (tally.count + 1) readings one ∙ ap (λ (ns : List ℕ). numbers_from (tally.count + 1) readings ++ ns) (append-nil (number_in (tally.count + 1 + length readings) r))) in
    record {
      products = next.products ∙ ap (λ (ps : List Product). ps ++ taken_in asked r) all.products ∙ append_assoc tally.reader.products (products_of asked readings) (taken_in asked r)
          ∙ ap (λ (ps : List Product). tally.reader.products ++ ps) products;
      numbers = next.numbers ∙ ap (λ (ns : List ℕ). ns ++ number_in (mid.count + 1) r) all.numbers ∙ ap (λ (n : ℕ). (tally.numbers ++ numbers_from (tally.count + 1) readings) ++ number_in n r) at
          ∙ append_assoc tally.numbers (numbers_from (tally.count + 1) readings) (number_in (tally.count + 1 + length readings) r) ∙ ap (λ (ns : List ℕ). tally.numbers ++ ns) numbers;
      count = omega (arith, all.count, next.count, length-append readings one);
      faults = omega (arith, all.faults, next.faults, faults-append readings one);
    }

-- what came out of a feed so far
pub record Each (asked : Asked) (old new : Fed) (tally tally' : Tally) (out out' : List ℕ) : Type 0 where
  pub texts : List (List ℕ)
  pub ended : new.ended ≡ old.ended
  pub going : old.ended ≡ false → (more : List ℕ) → products_in (old.rest ++ more) ≡ texts ++ products_in (new.rest ++ more)
  pub last : old.ended ≡ true → products_in old.rest ≡ texts ++ products_in new.rest
  pub counts : CountsAll asked (map decode texts) tally tally'
  pub fits : IsTally asked tally'
  pub less : tally'.count + length new.rest ≤ tally.count + length old.rest
  pub told : out' ≡ out ++ product_lines asked (tally.count + 1) (map decode texts)

pub each_none : (asked : Asked) (feed : Fed) (tally : Tally) (out : List ℕ) → IsTally asked tally → Each asked feed feed tally tally out out
each_none asked feed tally out is = record {
  texts = [];
  ended = refl;
  going = λ _ more. refl;
  last = λ _. refl;
  counts = counts_none asked tally;
  fits = is;
  less = omega arith;
  told = sym (append-nil out);
}

module _ (asked : Asked) (old mid : Fed) (tally tally1 : Tally) (out out1 : List ℕ) (each : Each asked old mid tally tally1 out out1) where
  pub each_next : (new : Fed) (tally2 : Tally) (out2 : List ℕ) → WritesNext asked mid new tally1 tally2 out1 out2 → new.ended ≡ mid.ended → Each asked old new tally tally2 out out2
  each_next new tally2 out2 next ended_is =
      let texts = each.texts in
      let one : List (List ℕ) = next.text ∷ [] in
      let readings : Readings = map decode texts in
      let both : map decode (texts ++ one) ≡ readings ++ decode next.text ∷ [] = map-append decode texts one in
      let at : tally1.count + 1 ≡ tally.count + 1 + length readings = omega (arith, each.counts.count) in
      let line = sym (lines-append asked (tally.count + 1) readings (decode next.text ∷ []) ∙ ap (λ (t : List ℕ). product_lines asked (tally.count + 1) readings ++ t) (append-nil (product_line asked (tally.count + 1 + length readings) (decode next.text)))) in
      record {
        texts = texts ++ one;
        ended = ended_is ∙ each.ended;
        going = λ h more. each.going h more ∙ ap (λ (ts : List (List ℕ)). texts ++ ts) ((next.gives.0 (each.ended ∙ h)).1 more) ∙ sym (append_assoc texts one (products_in (new.rest ++ more)));
        last = λ h. each.last h ∙ ap (λ (ts : List (List ℕ)). texts ++ ts) (next.gives.1 (each.ended ∙ h)) ∙ sym (append_assoc texts one (products_in new.rest));
        counts = rw both (counts_next asked readings tally tally1 tally2 next.text each.counts next.counts);
        fits = next.fits;
        less = omega (arith, each.less, next.counts.count, next.gives.2);
        told = next.told ∙ ap (λ (t : List ℕ). t ++ product_line asked (tally1.count + 1) (decode next.text)) each.told
            ∙ ap (λ (n : ℕ). (out ++ product_lines asked (tally.count + 1) readings) ++ product_line asked n (decode next.text)) at
            ∙ append_assoc out (product_lines asked (tally.count + 1) readings) (product_line asked (tally.count + 1 + length readings) (decode next.text))
            ∙ ap (λ (t : List ℕ). out ++ t) line ∙ ap (λ (rs : Readings). out ++ product_lines asked (tally.count + 1) rs) (sym both);
      }

  less_at_end : (b : Bool) (new : Fed) → mid.ended ≡ b → GivesNone mid new → length new.rest ≤ length mid.rest
  less_at_end false new h none = waiting_less mid.rest new.rest (none.0 h).0
  less_at_end true new h none = omega (arith, ap length (none.1 h).1)

  pub each_end : (new : Fed) → GivesNone mid new → new.ended ≡ mid.ended → WritesEach asked old new tally tally1 out out1
  each_end new none ended_is = record {
    texts = each.texts;
    ended = ended_is ∙ each.ended;
    going = λ h.
        let waits = none.0 (each.ended ∙ h) in (
          (λ more. each.going h more ∙ ap (λ (ts : List (List ℕ)). each.texts ++ ts) (waits.1 more)),
          (mid.rest, waiting_one mid.rest new.rest waits.0, waits.1),
        );
    last = λ h. each.last h ∙ ap (λ (ts : List (List ℕ)). each.texts ++ ts) (none.1 (each.ended ∙ h)).0 ∙ append-nil each.texts;
    counts = each.counts;
    fits = each.fits;
    less = omega (arith, each.less, less_at_end mid.ended new refl none);
    told = each.told;
  }

-- where a loop over the products of a feed stands: it goes on, or nothing more came out
pub record Looped (asked : Asked) (old new : Fed) (tally tally' : Tally) (out out' : List ℕ) (more : Bool) : Type 0 where
  pub fits : IsTally asked tally'
  pub less : tally'.count + length new.rest ≤ tally.count + length old.rest
  pub each : more ≡ true → Each asked old new tally tally' out out'
  pub done : more ≡ false → WritesEach asked old new tally tally' out out'

pub looped_none : (asked : Asked) (feed : Fed) (tally : Tally) (out : List ℕ) → IsTally asked tally → Looped asked feed feed tally tally out out true
looped_none asked feed tally out is = record { fits = is; less = omega arith; each = λ _. each_none asked feed tally out is; done = λ e. absurd (cc) }

pub looped_next : (asked : Asked) (old mid new : Fed) (tally tally1 tally2 : Tally) (out out1 out2 : List ℕ) (more : Bool) → Each asked old mid tally tally1 out out1
    → (more ≡ true → WritesNext asked mid new tally1 tally2 out1 out2) → (more ≡ false → GivesNone mid new × (tally2 ≡ tally1) × (out2 ≡ out1)) → new.ended ≡ mid.ended → Looped asked old new tally tally2 out out2 more
looped_next asked old mid new tally tally1 tally2 out out1 out2 true each some none ended =
    let next = each_next asked old mid tally tally1 out out1 each new tally2 out2 (some refl) ended in
    record { fits = next.fits; less = next.less; each = λ _. next; done = λ e. absurd (cc) }
looped_next asked old mid new tally tally1 tally2 out out1 out2 false each some none ended =
    let h = none refl in
    let last : WritesEach asked old new tally tally2 out out2 = rw (h.1, h.2) (each_end asked old mid tally tally1 out out1 each new h.0 ended) in
    record { fits = last.fits; less = last.less; each = λ e. absurd (cc); done = λ _. last }

pub looped_smaller : (more' more : Bool) (n m : ℕ) → more ≡ true → (more' ≡ true → n < m) → cond more' (n + 1) 0 < cond more (m + 1) 0
looped_smaller more' true n m e some = by_case more' some
  where
    by_case : (b : Bool) → (b ≡ true → n < m) → cond b (n + 1) 0 < m + 1
    by_case true less = let lt : n < m = less refl in omega (arith, lt)
    by_case false less = omega arith
looped_smaller more' false n m e some = absurd (cc)
