-- A tally keeps what its products come to.
use Rattle.std.proofs.Common.{◌≡◌, ◌∙◌, ℕ, ◌+◌, ◌≤◌, List, [], ◌∷◌, ◌++◌, fold, Ordering, Result, Ok, Err, refl, ap, sym, subst, arith, append_assoc, append-nil}
use Rattle.std.specs.List.Sorted.{IsStrictlySortedBy}
use Rattle.std.specs.Prelude.{max}
use Rattle.std.proofs.lemmas.Grind.{fold-append}
use Rattle.hazard_types.specs.Orders.{by_hazard, by_event}
use Rattle.hazard_types.specs.Places.{by_place}
use Rattle.hazard_types.specs.declared.line.Line.{Line}
use Rattle.hazard_types.specs.declared.line.Row.{Row}
use Rattle.event_life.specs.Lives.{judged_product}
use Rattle.event_life.specs.Products.{Product, lawful_of, put_all, rows_after, rows_with, rows_of}
use Rattle.product_decoder.specs.Openings.{lawful_lines, openings_with, openings_from, openings_of}
use Rattle.product_decoder.specs.ReaderModel.{product_of}
use Rattle.product_decoder.specs.declared.types.Decoded.{Decoded}
use Rattle.product_decoder.specs.declared.types.Opening.{Opening}
use Rattle.product_frame.specs.declared.frame.FrameFault.{FrameFault}
use Rattle.row_index.specs.Verdicts.{Judged, AreFound}
use Rattle.row_index.specs.declared.verdicts.Run.{Run}
use Rattle.archive_report.specs.declared.words.Asked.{Asked}
use Rattle.stats_report.specs.Minutes.{greatest}
use Rattle.stats_report.specs.Spells.{no_sums, Kept, kept_of, moment_of}
use Rattle.stats_report.specs.Spots.{Spots, rows_in, IsCounted}
use Rattle.stats_report.specs.Summed.{Test, in_zone, of_hazard, of_any, AreSums, IsSummed, AreKeysOf, event_of, zone_of, hazard_of, AreKeyed, after_line, TakesLines}
use Rattle.stats_report.specs.Tallies.{IsKept, Counts, TakesOne, TakesReading}
use Rattle.stats_report.proofs.Governing.{greatest-push}
use Rattle.stats_report.proofs.Moving.{counted_next, lawful_fit}
use Rattle.stats_report.specs.declared.tally.Tally.{Tally}

-- nothing is counted of no products
none_counted : (stamp : ℕ) → IsCounted stamp [] []
none_counted stamp = record { rows = refl; spotted = tt; exact = tt }

no_sums_of : (test : Test) → AreSums [] [] test no_sums
no_sums_of test = record { minutes = refl; openings = refl; lead = refl }

no_keys : {K : Type 0} (R : K → K → Ordering) (key : Row → K) → AreKeysOf R key [] []
unfolding IsStrictlySortedBy
no_keys R key = record { there = λ q. refl; order = tt }

abbrev nothing : Kept
nothing = record { spells = []; zones = []; hazards = []; all = no_sums }

-- nothing is kept of no products
pub none_kept : (stamp : ℕ) (tally : Tally) → tally.rows ≡ [] → tally.latest ≡ 0 → kept_of tally.standing ≡ nothing → IsKept stamp [] tally
none_kept stamp tally rows latest standing = record {
  rows = rows;
  latest = latest;
  es = [];
  counted = none_counted stamp;
  summed = subst (λ (k : Kept). IsSummed stamp 0 [] [] k) (sym standing) (record {
    spells = λ e z from lt. refl;
    zones = λ z. no_sums_of (in_zone z);
    hazards = λ h. no_sums_of (of_hazard h);
    all = no_sums_of of_any;
  });
  keyed = subst (λ (k : Kept). AreKeyed [] k) (sym standing) (record { events = no_keys by_event event_of; zones = no_keys by_place zone_of; hazards = no_keys by_hazard hazard_of });
}

openings_push : (rows : List Row) (products : List Product) (p : Product) → openings_from rows (products ++ p ∷ []) ≡ openings_from rows products ++ openings_with (fold rows_with rows products) p
openings_push rows [] p = append-nil (openings_with rows p)
openings_push rows (q ∷ products) p =
    ap (λ (os : List Opening). openings_with rows q ++ os) (openings_push (rows_with rows q) products p)
    ∙ sym (append_assoc (openings_with rows q) (openings_from (rows_with rows q) products) (openings_with (fold rows_with (rows_with rows q) products) p))

-- the openings of the next product behind those before
openings_next : (products : List Product) (p : Product) → openings_of (products ++ p ∷ []) ≡ openings_of products ++ openings_with (rows_of products) p
openings_next products p = openings_push [] products p

-- the rows that the lawful lines of a product leave are those after it
rows_left : (rows : List Row) (p : Product) (judges : List Judged) → judges ≡ judged_product rows p → put_all rows p.issue (lawful_of judges) rows ≡ rows_with rows p
unfolding rows_after
rows_left rows p judges is = ap (λ (js : List Judged). put_all rows p.issue (lawful_of js) rows) is

-- what was done with the judged lines of a product is what the product does
pub takes_told : (stamp : ℕ) (p : Product) (old new : Tally) (judges : List Judged) → judges ≡ judged_product old.rows p
    → new.rows ≡ put_all old.rows p.issue (lawful_of judges) old.rows → new.latest ≡ max old.latest p.issue → TakesLines (moment_of stamp new.latest p.issue) judges (kept_of old.standing) (kept_of new.standing)
    → (new.count ≡ old.count) × (new.faults ≡ old.faults) → TakesOne stamp p old new
takes_told stamp p old new judges is rows latest standing same = record {
  rows = rows ∙ rows_left old.rows p judges is;
  latest = latest;
  standing = subst (λ (js : List Judged). TakesLines (moment_of stamp new.latest p.issue) js (kept_of old.standing) (kept_of new.standing)) is standing;
  same = same;
}

-- the lines of a product found the lives of rows that were taken out
pub found_out : (old rows : List Row) (runs : List Run) → rows ≡ old → AreFound old runs → AreFound rows runs
found_out old rows runs is found = subst (λ (before : List Row). AreFound before runs) (sym is) found

-- what is summed up from one minute on is from a later one
later_summed : (stamp latest from : ℕ) (es : Spots) (openings : List Opening) (k : Kept) → latest ≤ from → IsSummed stamp latest es openings k → IsSummed stamp from es openings k
later_summed stamp latest from es openings k lt is = record {
  spells = λ e z later le. is.spells e z later (both later le);
  zones = is.zones;
  hazards = is.hazards;
  all = is.all;
}
  where
    both : (later : ℕ) → from ≤ later → latest ≤ later
    both later le = omega (arith, lt, le)

-- behind whatever products were counted, one more is
pub kept_next : (stamp : ℕ) (p : Product) (old new : Tally) → TakesOne stamp p old new → (products : List Product) → IsKept stamp products old → IsKept stamp (products ++ p ∷ []) new
kept_next stamp p old new takes products kept =
    let from = new.latest in
    let m = moment_of stamp from p.issue in
    let all : List Product = products ++ p ∷ [] in
    let es : Spots = kept.es in
    let k : Kept = kept_of new.standing in
    let is : from ≡ max (greatest products) p.issue = takes.latest ∙ ap (λ (n : ℕ). max n p.issue) kept.latest in
    let latest : from ≡ greatest all = is ∙ sym (greatest-push products p) in
    let judges : judged_product old.rows p ≡ judged_product (rows_of products) p = ap (λ (rows : List Row). judged_product rows p) kept.rows in
    let lines : List Line = lawful_lines (rows_of products) p in
    let before : IsSummed stamp from es (openings_of products) (kept_of old.standing) = later_summed stamp (greatest products) from es (openings_of products) (kept_of old.standing) (omega (arith, is)) kept.summed in
    let keyed : AreKeyed (rows_in es) (kept_of old.standing) = subst (λ (rows : List Row). AreKeyed rows (kept_of old.standing)) (sym kept.counted.rows) kept.keyed in
    let takes_all = subst (λ (js : List Judged). TakesLines m js (kept_of old.standing) k) judges takes.standing in
    let after = takes_all (omega (arith, is)) es (openings_of products) (before, keyed) (lawful_fit stamp from products p is es kept.counted) in
    let counted : IsCounted stamp all (fold (after_line m) es lines) = counted_next stamp from products p is es kept.counted in
    record {
      rows = takes.rows ∙ ap (λ (rows : List Row). rows_with rows p) kept.rows ∙ sym (fold-append rows_with [] products (p ∷ []));
      latest = latest;
      es = fold (after_line m) es lines;
      counted = counted;
      summed = subst (λ (n : ℕ). IsSummed stamp n (fold (after_line m) es lines) (openings_of all) k) latest
          (subst (λ (os : List Opening). IsSummed stamp from (fold (after_line m) es lines) os k) (sym (openings_next products p)) after.0);
      keyed = subst (λ (rows : List Row). AreKeyed rows k) counted.rows after.1;
    }

-- what is kept is of the rows and of what was summed up alone
kept_alike : (stamp : ℕ) (products : List Product) (old new : Tally) → new.rows ≡ old.rows → new.latest ≡ old.latest → kept_of new.standing ≡ kept_of old.standing → IsKept stamp products old → IsKept stamp products new
kept_alike stamp products old new rows latest standing kept = record {
  rows = rows ∙ kept.rows;
  latest = latest ∙ kept.latest;
  es = kept.es;
  counted = kept.counted;
  summed = subst (λ (k : Kept). IsSummed stamp (greatest products) kept.es (openings_of products) k) (sym standing) kept.summed;
  keyed = subst (λ (k : Kept). AreKeyed (rows_of products) k) (sym standing) kept.keyed;
}

-- a tally with one product more in its count
abbrev pub begun : Tally → Tally
begun old = record { rows = old.rows; latest = old.latest; standing = old.standing; count = old.count + 1; faults = old.faults }

kept_begun : (stamp : ℕ) (products : List Product) (old : Tally) → IsKept stamp products old → IsKept stamp products (begun old)
kept_begun stamp products old kept = kept_alike stamp products old (begun old) refl refl refl kept

-- what was read of a product was counted
pub counts_told : (asked : Asked) (r : Result Decoded FrameFault) (old new : Tally) → TakesReading asked r (begun old) new → Counts asked r old new
counts_told asked (Ok d) old new takes =
    let p : Product = product_of asked.office asked.class d in
    let same = takes.same in
    record {
      kept = λ products kept. kept_next asked.minute p (begun old) new takes products (kept_begun asked.minute products old kept);
      count = same.0;
      faults = omega (arith, same.1);
    }
counts_told asked (Err f) old new takes = record {
  kept = λ products kept. subst (λ (ps : List Product). IsKept asked.minute ps new) (sym (append-nil products))
      (kept_alike asked.minute products (begun old) new takes.rows takes.latest takes.standing (kept_begun asked.minute products old kept));
  count = takes.count;
  faults = takes.faults;
}
