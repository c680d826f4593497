-- Pieces that are read one after another, and how a run ends.
use Rattle.std.proofs.Common.{◌≡◌, ◌∙◌, ◌⊎◌, inl, inr, ℕ, ◌+◌, ◌≤◌, List, [], ◌++◌, length, map, take, drop, refl, ap, sym, subst, append_assoc, append-nil, length-append, arith, true, false, Result, Ok, Err, IfErr, OnOk}
use Rattle.std.proofs.lemmas.List.{map-append, take-append-drop, take_all}
use Rattle.byte_streams.specs.Flows.{Takes, Adds, Inflow, IsAtEnd, Outflow, Streams, streams}
use Rattle.byte_streams.proofs.Pieces.{adds_both}
use Rattle.product_decoder.specs.Decoded.{decode}
use Rattle.product_decoder.specs.Feeding.{Fed, products_in}
use Rattle.program_ends.specs.Ends.{Begins, AddsPrefix}
use Rattle.program_ends.specs.Pieces.{Extent, extent, HasRead, IsPiece, IsStopped, IsWhole}
use Rattle.program_ends.specs.declared.reading.Stop.{Stop}
use Rattle.program_ends.specs.declared.reading.Stop.TheVariants as stop
use Rattle.program_ends.proofs.Answering.{adds_none}
use Rattle.program_ends.proofs.Piecewise.{read_none, read_more, read_whole}
use Rattle.program_ends.proofs.Telling.{begins_self}
use Rattle.archive_report.specs.declared.tally.Tally.{Tally}
use Rattle.archive_report.specs.declared.words.Asked.{Asked}
use Rattle.archive_report.specs.Pieces.{IsTally, IsFresh, CountsAll, Waits, WritesEach, WritesPiece, HaltsPiece, IsTallied, WritesTo, ReadsAll}
use Rattle.archive_report.specs.Report.{products_of, numbers_from, product_lines}
use Rattle.archive_report.specs.Runs.{HasOne, IsFinishedWritten, IsEarly, IsFront, lines_told}
use Rattle.archive_report.proofs.Fronts.{Readings, lines-append, products-append, numbers-append, faults-append, first_begins, first_early, early_longer}
use Rattle.archive_report.proofs.Taking.{few_products}

-- these bytes were read, and the products that were finished in them told
pub record Ran (asked : Asked) (limit : ℕ) (tally : Tally) (before after : Streams) (feed : Fed) (now : Extent) : Type 0 where
  pub seen : List ℕ
  pub texts : List (List ℕ)
  pub has : HasRead limit now before.input.left after.input.left seen
  pub adds : Adds before.output.taken after.output.taken (lines_told asked texts)
  pub going : feed.ended ≡ false
  pub first : (more : List ℕ) → products_in (seen ++ more) ≡ texts ++ products_in (feed.rest ++ more)
  pub waits : Waits feed.rest
  pub tallied : IsTallied asked (map decode texts) tally
  pub less : tally.count + length feed.rest ≤ length seen

no_bytes : HasOne []
no_bytes = record { split = record { lines = []; line = []; parts = refl; whole = refl; quiet = refl }; one = omega arith }

fresh_tallied : (asked : Asked) (tally : Tally) → IsTally asked tally → IsFresh tally → IsTallied asked [] tally
fresh_tallied asked tally is fresh = record { fits = is; products = fresh.0; numbers = fresh.1; count = fresh.2; faults = fresh.3 }

pub ran_none : (asked : Asked) (limit : ℕ) (tally : Tally) (before : Streams) (feed : Fed) → IsTally asked tally → IsFresh tally → feed.rest ≡ [] → feed.ended ≡ false → Ran asked limit tally before before feed (extent limit 0)
ran_none asked limit tally before feed is fresh rest going = record {
  seen = [];
  texts = [];
  has = read_none limit before.input.left;
  adds = adds_none before.output.taken;
  going = going;
  first = λ more. rw rest refl;
  waits = rw rest ([], no_bytes, λ more. refl);
  tallied = fresh_tallied asked tally is fresh;
  less = omega (arith, ap length rest, fresh.2);
}

-- the tally with the products of one piece more
tallied_next : (asked : Asked) (texts more : List (List ℕ)) (tally new : Tally) → IsTallied asked (map decode texts) tally → CountsAll asked (map decode more) tally new → IsTally asked new → IsTallied asked (map decode (texts ++ more)) new
tallied_next asked texts more tally new was counts is =
    let first : Readings = map decode texts in
    let later : Readings = map decode more in
    let both : map decode (texts ++ more) ≡ first ++ later = map-append decode texts more in
    let at : tally.count + 1 ≡ 1 + length first = omega (arith, was.count) in
    subst (λ (rs : Readings). IsTallied asked rs new) (sym both) (record {
      fits = is;
      products = counts.products ∙ ap (λ ps. ps ++ products_of asked later) was.products ∙ sym (products-append asked first later);
      numbers = counts.numbers ∙ ap (λ (ns : List ℕ). ns ++ numbers_from (tally.count + 1) later) was.numbers ∙ ap (λ (n : ℕ). numbers_from 1 first ++ numbers_from n later) at ∙ sym (numbers-append 1 first later);
      count = omega (arith, was.count, counts.count, length-append first later);
      faults = omega (arith, was.faults, counts.faults, faults-append first later);
    })

-- the lines of one piece's products behind those before
told_next : (asked : Asked) (texts more : List (List ℕ)) (count : ℕ) (out : List ℕ) → count ≡ length (map decode texts) → out ≡ [] ++ product_lines asked (count + 1) (map decode more) → lines_told asked texts ++ out ≡ lines_told asked (texts ++ more)
told_next asked texts more count out count_is out_is =
    let first : Readings = map decode texts in
    let later : Readings = map decode more in
    let at : count + 1 ≡ 1 + length first = omega (arith, count_is) in
    ap (λ (t : List ℕ). lines_told asked texts ++ t) (out_is ∙ ap (λ (n : ℕ). product_lines asked n later) at)
    ∙ sym (lines-append asked 1 first later) ∙ ap (λ (rs : Readings). product_lines asked 1 rs) (sym (map-append decode texts more))

-- a front of the reports of all that begins so is one of those of what was read
early_read : (asked : Asked) (limit : ℕ) (seen read text : List ℕ) → seen ≡ take limit read → IsEarly asked seen text → IsEarly asked read text
early_read asked limit seen read text is early =
    let over = drop limit read in
    let whole : seen ++ over ≡ read = ap (λ (t : List ℕ). t ++ over) is ∙ take-append-drop limit read in
    subst (λ (bytes : List ℕ). IsEarly asked bytes text) whole (early_longer asked seen over text early)

module _ (asked : Asked) (limit : ℕ) (tally : Tally) (before mid : Streams) (feed : Fed) (now : Extent) (ran : Ran asked limit tally before mid feed now) where
  -- whatever comes behind the products that were told, they come first
  pushed_first : (part : List ℕ) (fed : Fed) → fed.rest ≡ feed.rest ++ part → (more : List ℕ) → products_in ((ran.seen ++ part) ++ more) ≡ ran.texts ++ products_in (fed.rest ++ more)
  pushed_first part fed pushed more =
      ap products_in (append_assoc ran.seen part more) ∙ ran.first (part ++ more)
      ∙ ap (λ (t : List ℕ). ran.texts ++ products_in t) (sym (append_assoc feed.rest part more) ∙ ap (λ (t : List ℕ). t ++ more) (sym pushed))

  -- one piece more was pushed, and its products told
  pub ran_next : (new : Extent) (part : List ℕ) (fed fed' : Fed) (tally' : Tally) (after : Streams) → IsPiece now new mid.input.left after.input.left part → fed.rest ≡ feed.rest ++ part → fed.ended ≡ false
      → WritesPiece asked fed fed' tally tally' mid.output after.output → Ran asked limit tally' before after fed' new
  ran_next new part fed fed' tally' after next pushed going piece =
      let out = piece.0 in
      let each = piece.1 in
      let came = each.going going in
      record {
        seen = ran.seen ++ part;
        texts = ran.texts ++ each.texts;
        has = read_more limit now before.input.left mid.input.left ran.seen ran.has new after.input.left part next;
        adds = adds_both _ _ _ _ _ _ ran.adds piece.2 (told_next asked ran.texts each.texts tally.count out ran.tallied.count each.told);
        going = each.ended ∙ going;
        first = λ others. pushed_first part fed pushed others ∙ ap (λ (ts : List (List ℕ)). ran.texts ++ ts) (came.0 others) ∙ sym (append_assoc ran.texts each.texts (products_in (fed'.rest ++ others)));
        waits = came.1;
        tallied = tallied_next asked ran.texts each.texts tally tally' ran.tallied each.counts each.fits;
        less = omega (arith, each.less, ran.less, ap length pushed, length-append feed.rest part, length-append ran.seen part);
      }

  told : IsFinishedWritten asked ran.seen (lines_told asked ran.texts)
  told = (
    ran.texts,
    record {
      rest = ran.waits.0;
      first = λ more. ran.first more ∙ ap (λ (ts : List (List ℕ)). ran.texts ++ ts) (sym (ran.waits.2 more));
      one = ran.waits.1;
    },
    refl,
  )

  early : IsEarly asked ran.seen (lines_told asked ran.texts)
  early = first_early asked ran.seen feed.rest ran.texts ran.first

  -- there was no further piece: a read failed, or the input goes on beyond the limit
  pub ends_stopped : {T : Type 0} (done : List ℕ → List ℕ → T → Type 0) (new : Extent) (input : Inflow) (why : Stop) → IsStopped now new mid.input.left input.left why → WritesTo asked limit before (streams input mid.output) done (Err why)
  ends_stopped {T} done new input why stopped = by_reason stopped.reasons
    where
      reason : (other : Stop) → ◌≡◌ {A = Result T Stop} (Err why) (Err other) → why ≡ other
      reason other e = cc

      so : (why ≡ stop.Read → length ran.has.read ≤ limit) → (why ≡ stop.TooLong → length ran.has.read ≡ limit + 1) → WritesTo asked limit before (streams input mid.output) done (Err why)
      so few long = record {
        read = ran.has.read;
        text = lines_told asked ran.texts;
        written = lines_told asked ran.texts;
        takes = rw stopped.unread ran.has.takes;
        adds = ran.adds;
        within = ran.has.most;
        ended = tt;
        read_fault = λ e. (
          few (reason stop.Read e),
          subst (λ (bytes : List ℕ). IsFinishedWritten asked bytes (lines_told asked ran.texts)) (ran.has.front ∙ take_all limit ran.has.read (few (reason stop.Read e))) told,
        );
        too_long = λ e. (long (reason stop.TooLong e), subst (λ (bytes : List ℕ). IsFinishedWritten asked bytes (lines_told asked ran.texts)) ran.has.front told);
        front = inl (early_read asked limit ran.seen ran.has.read (lines_told asked ran.texts) ran.has.front early);
        begins = begins_self (lines_told asked ran.texts);
        whole = λ _. refl;
      }

      by_reason : (((why ≡ stop.Read) × (now.total ≤ now.limit)) ⊎ ((why ≡ stop.TooLong) × (now.total ≡ now.limit + 1))) → WritesTo asked limit before (streams input mid.output) done (Err why)
      by_reason (inl h) = so (λ _. omega (arith, h.1, ran.has.limit_is, ran.has.total_is)) (λ e. let same : stop.Read ≡ stop.TooLong = sym h.0 ∙ e in absurd (cc))
      by_reason (inr h) = so (λ e. let same : stop.TooLong ≡ stop.Read = sym h.0 ∙ e in absurd (cc)) (λ _. omega (arith, h.1, ran.has.limit_is, ran.has.total_is))

  -- memory lacked, with no product told
  lacks : {T : Type 0} (done : List ℕ → List ℕ → T → Type 0) (read : List ℕ) (after : Streams) → Takes before.input.left after.input.left read → length read ≤ limit + 1 → IsEarly asked read (lines_told asked ran.texts) → after.output.taken ≡ mid.output.taken
      → WritesTo asked limit before after done (Err stop.OutOfMemory)
  lacks done read after takes within is same = record {
    read = read;
    text = lines_told asked ran.texts;
    written = lines_told asked ran.texts;
    takes = takes;
    adds = rw same ran.adds;
    within = within;
    ended = tt;
    read_fault = λ e. absurd (cc);
    too_long = λ e. absurd (cc);
    front = inl is;
    begins = begins_self (lines_told asked ran.texts);
    whole = λ _. refl;
  }

  -- memory lacked for a piece that was read
  pub ends_memory : {T : Type 0} (done : List ℕ → List ℕ → T → Type 0) (new : Extent) (part : List ℕ) (after : Streams) → IsPiece now new mid.input.left after.input.left part → after.output.taken ≡ mid.output.taken → WritesTo asked limit before after done (Err stop.OutOfMemory)
  ends_memory done new part after next same =
      let has = read_more limit now before.input.left mid.input.left ran.seen ran.has new after.input.left part next in
      let text = lines_told asked ran.texts in
      lacks done has.read after has.takes has.most (early_read asked limit (ran.seen ++ part) has.read text has.front (early_longer asked ran.seen part text early)) same

  -- a front of some lines behind those that were written
  front_behind : (out text : List ℕ) (after : Outflow) → lines_told asked ran.texts ++ out ≡ text → (front : AddsPrefix mid.output.taken after.taken out) → Begins (lines_told asked ran.texts ++ front.front) text
  front_behind out text after is front =
      (front.begins.0, sym is ∙ ap (λ (t : List ℕ). lines_told asked ran.texts ++ t) front.begins.1 ∙ sym (append_assoc (lines_told asked ran.texts) front.front front.begins.0))

  -- a write of the lines of a piece that was pushed failed
  ends_write : {T : Type 0} (done : List ℕ → List ℕ → T → Type 0) (new : Extent) (part : List ℕ) (fed fed' : Fed) (tally' : Tally) (out : List ℕ) (after : Streams) → IsPiece now new mid.input.left after.input.left part → fed.rest ≡ feed.rest ++ part → fed.ended ≡ false
      → WritesEach asked fed fed' tally tally' [] out → AddsPrefix mid.output.taken after.output.taken out → WritesTo asked limit before after done (Err stop.Write)
  ends_write done new part fed fed' tally' out after next pushed going each front =
      let has = read_more limit now before.input.left mid.input.left ran.seen ran.has new after.input.left part next in
      let texts = ran.texts ++ each.texts in
      let text = lines_told asked texts in
      let both : lines_told asked ran.texts ++ out ≡ text = told_next asked ran.texts each.texts tally.count out ran.tallied.count each.told in
      let first : ((more : List ℕ) → products_in ((ran.seen ++ part) ++ more) ≡ texts ++ products_in (fed'.rest ++ more)) =
      λ more. pushed_first part fed pushed more ∙ ap (λ (ts : List (List ℕ)). ran.texts ++ ts) ((each.going going).0 more) ∙ sym (append_assoc ran.texts each.texts (products_in (fed'.rest ++ more))) in
      record {
        read = has.read;
        text = text;
        written = lines_told asked ran.texts ++ front.front;
        takes = has.takes;
        adds = adds_both _ _ _ _ _ _ ran.adds front.adds refl;
        within = has.most;
        ended = tt;
        read_fault = λ e. absurd (cc);
        too_long = λ e. absurd (cc);
        front = inl (early_read asked limit (ran.seen ++ part) has.read text has.front (first_early asked (ran.seen ++ part) fed'.rest texts first));
        begins = front_behind out text after.output both front;
        whole = λ no. absurd (no refl);
      }

  -- telling the products of a piece halted
  pub ends_piece : {T : Type 0} (done : List ℕ → List ℕ → T → Type 0) (new : Extent) (part : List ℕ) (fed : Fed) (why : Stop) (after : Streams) → IsPiece now new mid.input.left after.input.left part → fed.rest ≡ feed.rest ++ part → fed.ended ≡ false
      → HaltsPiece asked fed tally mid.output after.output why → WritesTo asked limit before after done (Err why)
  ends_piece done new part fed why after next pushed going halts = by_reason halts.reasons
    where
      by_reason : ((why ≡ stop.OutOfMemory) ⊎ (why ≡ stop.Write)) → WritesTo asked limit before after done (Err why)
      by_reason (inl e) = subst (λ (w : Stop). WritesTo asked limit before after done (Err w)) (sym e) (ends_memory done new part after next (halts.no_memory e))
      by_reason (inr e) =
          let h = halts.write_fault e in
          subst (λ (w : Stop). WritesTo asked limit before after done (Err w)) (sym e) (ends_write done new part fed h.0 h.1 h.2 after next pushed going h.3 h.4)

  -- the last products, once the input's end was read
  module _ (fed fed' : Fed) (tally' : Tally) (out : List ℕ) (same : fed.rest ≡ feed.rest) (over : fed.ended ≡ true) (each : WritesEach asked fed fed' tally tally' [] out) (after : Streams) (takes : Takes before.input.left after.input.left ran.seen) (at_end : IsAtEnd after.input.left) (few : length ran.seen ≤ limit) where
    all : products_in ran.seen ≡ ran.texts ++ each.texts
    all = ap products_in (sym (append-nil ran.seen)) ∙ ran.first [] ∙ ap (λ (t : List ℕ). ran.texts ++ products_in t) (append-nil feed.rest ∙ sym same) ∙ ap (λ (ts : List (List ℕ)). ran.texts ++ ts) (each.last over)

    all_told : lines_told asked ran.texts ++ out ≡ lines_told asked (products_in ran.seen)
    all_told = told_next asked ran.texts each.texts tally.count out ran.tallied.count each.told ∙ ap (lines_told asked) (sym all)

    whole_front : IsFront asked limit ran.seen after.input.left (lines_told asked (products_in ran.seen))
    whole_front = inr (at_end, few, first_begins asked ran.seen (products_in ran.seen) [] (sym (append-nil (products_in ran.seen))))

    ends_done : (x : Unit {0}) → Adds mid.output.taken after.output.taken out → WritesTo asked limit before after (ReadsAll asked tally') (Ok x)
    ends_done x adds = record {
      read = ran.seen;
      text = lines_told asked (products_in ran.seen);
      written = lines_told asked (products_in ran.seen);
      takes = takes;
      adds = adds_both _ _ _ _ _ _ ran.adds adds all_told;
      within = omega (arith, few);
      ended = (at_end, few, (subst (λ (ts : List (List ℕ)). IsTallied asked (map decode ts) tally') (sym all) (tallied_next asked ran.texts each.texts tally tally' ran.tallied each.counts each.fits), refl, few_products ran.seen));
      read_fault = λ e. absurd (cc);
      too_long = λ e. absurd (cc);
      front = whole_front;
      begins = begins_self (lines_told asked (products_in ran.seen));
      whole = λ _. refl;
    }

    ends_write_last : {T : Type 0} (done : List ℕ → List ℕ → T → Type 0) → AddsPrefix mid.output.taken after.output.taken out → WritesTo asked limit before after done (Err stop.Write)
    ends_write_last done front = record {
      read = ran.seen;
      text = lines_told asked (products_in ran.seen);
      written = lines_told asked ran.texts ++ front.front;
      takes = takes;
      adds = adds_both _ _ _ _ _ _ ran.adds front.adds refl;
      within = omega (arith, few);
      ended = tt;
      read_fault = λ e. absurd (cc);
      too_long = λ e. absurd (cc);
      front = whole_front;
      begins = front_behind out (lines_told asked (products_in ran.seen)) after.output all_told front;
      whole = λ no. absurd (no refl);
    }

  -- the last products were told, or telling them halted
  pub ends_last : (fed fed' : Fed) (tally' : Tally) (new : Extent) (after : Streams) (result : Result (Unit {0}) Stop) → fed.rest ≡ feed.rest → fed.ended ≡ true → IsWhole now new mid.input.left after.input.left
      → OnOk result (WritesPiece asked fed fed' tally tally' mid.output after.output) → IfErr result (HaltsPiece asked fed tally mid.output after.output) → WritesTo asked limit before after (ReadsAll asked tally') result
  ends_last fed fed' tally' new after (Ok x) same over whole told halted =
      let all = read_whole limit now before.input.left mid.input.left ran.seen ran.has new after.input.left whole in
      ends_done fed fed' tally' told.0 same over told.1 after all.0 whole.ended all.1 x told.2
  ends_last fed fed' tally' new after (Err why) same over whole told halted = by_reason halted.reasons
    where
      all : Takes before.input.left after.input.left ran.seen × (length ran.seen ≤ limit)
      all = read_whole limit now before.input.left mid.input.left ran.seen ran.has new after.input.left whole

      by_reason : ((why ≡ stop.OutOfMemory) ⊎ (why ≡ stop.Write)) → WritesTo asked limit before after (ReadsAll asked tally') (Err why)
      by_reason (inl e) = subst (λ (w : Stop). WritesTo asked limit before after (ReadsAll asked tally') (Err w)) (sym e) (lacks (ReadsAll asked tally') ran.seen after all.0 (omega (arith, all.1)) early (halted.no_memory e))
      by_reason (inr e) =
          let h = halted.write_fault e in
          subst (λ (w : Stop). WritesTo asked limit before after (ReadsAll asked tally') (Err w)) (sym e) (ends_write_last fed h.0 h.1 h.2 same over h.3 after all.0 whole.ended all.1 (ReadsAll asked tally') h.4)
