-- What a reader finds in the notices of a history.
use Rattle.std.proofs.Common.{◌≡◌, ◌∙◌, ◌≤◌, ◌++◌, ℕ, List, [], ◌∷◌, false, Option, Some, None, Result, Ok, IsOk, refl, sym, ap, subst, fold, length, arith}
use Rattle.std.specs.List.{AllByRecursion}
use Rattle.std.proofs.lemmas.Cmp.{tied_itself}
use Rattle.std.proofs.lemmas.List.Elements.{All-from_recursion}
use Rattle.hazard_types.specs.Places.{Place}
use Rattle.hazard_types.specs.declared.hazard.Event.{Event}
use Rattle.hazard_types.specs.declared.line.Line.{Line}
use Rattle.hazard_types.specs.declared.line.Row.{Row}
use Rattle.hazard_types.proofs.OrderLaws.{by_event_total}
use Rattle.event_life.specs.Lives.{IsLawfulFrom, judged_product}
use Rattle.event_life.specs.Openings.{add_event, events_opened_by, opened_from}
use Rattle.event_life.specs.Products.{Product, is_new, lawful_of, row_at, rows_with}
use Rattle.hazard_board.proofs.ConsistentLemmas.{stays_consistent}
use Rattle.hazard_board.proofs.NumberLemmas.{have_one_open}
use Rattle.action_planner.specs.Lines.{is_near_end, joined_row}
use Rattle.action_planner.proofs.LawfulKeys.{either_action}
use Rattle.hazard_types.specs.declared.codes.Action.TheVariants.{Can, Exp}
use Rattle.office_types.specs.declared.request.Target.TheVariants.{Join}
use Rattle.notice_json.specs.declared.command.Command.{Command}
use Rattle.notice_json.specs.declared.command.Deed.{Deed}
use Rattle.notice_json.specs.declared.command.Deed.TheVariants as deed
use Rattle.product_decoder.specs.Decoded.{decode}
use Rattle.product_frame.specs.Splitting.{IsOneProduct}
use Rattle.segmenter.specs.Said.{lines_in_text}
use Rattle.std.specs.Option.{is_some}
use Rattle.hazard_types.specs.declared.facts.Facts.{Facts}
use Rattle.hazard_types.specs.declared.hazard.Hazard.{Hazard}
use Rattle.segmenter.proofs.SaidLemmas.{in_text}
use Rattle.action_planner.proofs.CasesWords.{has_from}
use Rattle.action_planner.proofs.LawfulLists.{Has, all_has, contains_from, every}
use Rattle.notice_json.specs.Commands.{hazard_of}
use Rattle.notice_json.specs.declared.command.Watch.{Watch}
use Rattle.county_notices.specs.Apart.{IsOfOthers, is_desks}
use Rattle.county_notices.specs.Commands.{Noticed}
use Rattle.county_notices.specs.Lines.{event_by, lines_if, lines_in_zones, lines_of, new_event, ending_lines}
use Rattle.county_notices.specs.NoticeHistory.{IsAccepted, after, first}
use Rattle.county_notices.specs.Reading.{IsHistory, Noted, ReadsAsNoted, opened_by_deed, opened_in, product_in, products_in, texts_of}
use Rattle.county_notices.specs.Standing.{IsStanding}
use Rattle.county_notices.proofs.LawfulNotice.{no_facts, good, standing_after}
use Rattle.county_notices.proofs.LineLemmas.{join_old}
use Rattle.county_notices.proofs.ReadLemmas.{IsReadAs, each_lawful, product_reads, saying, text_decodes, text_says}
use Rattle.county_notices.proofs.Unbroken.{kept}

-- ---- the event that a command opens

none_opened : (lines : List Line) → AllByRecursion (λ (line : Line). is_new line.action ≡ false) lines → events_opened_by lines ≡ []
none_opened [] all = refl
none_opened (line ∷ lines) all = rw all.0 (none_opened lines all.1)

again : (e : Event) → add_event e (e ∷ []) ≡ e ∷ []
again e = rw (tied_itself by_event_total e) refl

module _ (rows : List Row) (t : ℕ) (e : Event) where
  opens_one : (end : ℕ) (z : Place) (zones : List Place) → events_opened_by (lines_in_zones rows t e (deed.Open end) (z ∷ zones)) ≡ e ∷ []
  opens_one end z [] = refl
  opens_one end z (y ∷ zones) = ap (add_event e) (opens_one end y zones) ∙ again e

  joins_old : (end : ℕ) (zones : List Place) → AllByRecursion (λ (line : Line). is_new line.action ≡ false) (lines_in_zones rows t e (deed.Join end) zones)
  joins_old end [] = tt
  joins_old end (z ∷ zones) = (join_old rows t e end z (joined_row rows e z (Join e)), joins_old end zones)

  ending_old : (o : Option Row) (lines : List Line) → AllByRecursion (λ (line : Line). is_new line.action ≡ false) lines → AllByRecursion (λ (line : Line). is_new line.action ≡ false) (ending_lines t o ++ lines)
  ending_old None lines all = all
  ending_old (Some row) lines all = (either_action is_new (is_near_end row.period.end t) Exp Can refl refl, all)

  ends_old : (zones : List Place) → AllByRecursion (λ (line : Line). is_new line.action ≡ false) (lines_in_zones rows t e deed.End zones)
  ends_old [] = tt
  ends_old (z ∷ zones) = ending_old (row_at rows e z) (lines_in_zones rows t e deed.End zones) (ends_old zones)

opens_some : (rows : List Row) (t : ℕ) (e : Event) (end : ℕ) (zones : List Place) → 1 ≤ length zones → events_opened_by (lines_in_zones rows t e (deed.Open end) zones) ≡ e ∷ []
opens_some rows t e end [] h = absurd (omega (arith, h))
opens_some rows t e end (z ∷ zones) h = opens_one rows t e end z zones

opened_is : (rows : List Row) (c : Command) (e : Event) (d : Deed) → event_by rows c d ≡ Some e → 1 ≤ length c.zones → events_opened_by (lines_in_zones rows c.at e d c.zones) ≡ opened_by_deed c d
opened_is rows c e (deed.Open end) is some = let same : new_event c ≡ e = cc in opens_some rows c.at e end c.zones some ∙ ap (λ (x : Event). x ∷ []) (sym same)
opened_is rows c e (deed.Join end) is some = none_opened _ (joins_old rows c.at e end c.zones)
opened_is rows c e deed.End is some = none_opened _ (ends_old rows c.at e c.zones)

-- ---- one notice

-- what a reader with the rows before finds in it
record IsReadNotice (s : Noticed) (c : Command) (text : List ℕ) : Type 0 where
  product : Product
  one : product_in s.by.office (decode text) ≡ product ∷ []
  whole : IsOk (decode text)
  apart : IsOneProduct text
  read : IsReadAs s.rows (lines_of s.rows c) c.at product
  opened : events_opened_by (lawful_of (judged_product s.rows product)) ≡ opened_by_deed c c.deed
  others : IsOfOthers product

-- watches are none of the desk's hazards
not_desks : (e : Event) (w : Watch) → e.hazard ≡ hazard_of w → is_desks e.hazard ≡ false
not_desks e w is = ap (λ (h : Hazard). is_desks h) is ∙ ap (λ (o : Option Facts). is_some o) (no_facts w)

others_said : (office : List ℕ) (t : ℕ) (lines : List Line) → AllByRecursion (λ (line : Line). is_desks line.event.hazard ≡ false) lines → IsOfOthers (saying office t lines)
others_said office t [] all = tt
others_said office t (line ∷ lines) all = (all.0, others_said office t lines all.1)

is_ok : {X E : Type 0} (r : Result X E) (x : X) → r ≡ Ok x → IsOk r
is_ok r x h = rw h refl

read_notice : (s : Noticed) (c : Command) (text : List ℕ) → IsStanding s → IsAccepted s c text → IsReadNotice s c text
read_notice s c text stands accepted =
    let k = kept s c accepted.kept in
    let g = good s c stands k in
    let n = accepted.notice in
    let lines = lines_of s.rows c in
    let one = have_one_open s.rows c.at stands.order (stays_consistent s.rows s.last c.at k.later stands.consistent) in
    let read = product_reads s.rows c.at s.by.office lines n.segments stands.order one g.lawful g.apart g.years g.plain n.are in
    record {
      product = saying s.by.office c.at (lines_in_text n.segments);
      one = text_says text s.by c.at n.segments n.frame;
      whole = is_ok (decode text) _ (text_decodes text s.by c.at n.segments n.frame);
      apart = n.one;
      read = read;
      opened = read.opened ∙ ap (λ (ls : List Line). events_opened_by ls) (ap (lines_if s.rows c) k.is) ∙ opened_is s.rows c k.event c.deed k.is k.some;
      others = others_said s.by.office c.at (lines_in_text n.segments) (every (λ (line : Line). is_desks line.event.hazard ≡ false) (lines_in_text n.segments) (λ line there.
          let here : Has lines line = has_from lines line ((in_text lines n.segments n.are line).0 (contains_from (lines_in_text n.segments) line there)) in
          not_desks line.event c.watch (ap (λ (e : Event). e.hazard) (all_has (λ (l : Line). l.event ≡ k.event) lines line g.events here) ∙ k.hazard)));
    }

-- ---- all of them

-- what a reader finds who has these rows before them
record AreRead (s : Noticed) (notes : List Noted) (z : Noticed) : Type 0 where
  whole : AllByRecursion (λ (text : List ℕ). IsOk (decode text)) (texts_of notes)
  apart : AllByRecursion IsOneProduct (texts_of notes)
  lives : (e : Event) (place : Place) → IsLawfulFrom s.rows (products_in s.by.office (texts_of notes)) e place
  opened : opened_from s.rows (products_in s.by.office (texts_of notes)) ≡ opened_in notes
  rows : fold rows_with s.rows (products_in s.by.office (texts_of notes)) ≡ z.rows
  others : AllByRecursion IsOfOthers (products_in s.by.office (texts_of notes))

more_read : (s : Noticed) (n : Noted) (notes : List Noted) (z : Noticed) → IsReadNotice s n.command n.text → AreRead (after s n.command) notes z → AreRead s (n ∷ notes) z
more_read s n notes z first rest =
    let p = first.product in
    let later = products_in s.by.office (texts_of notes) in
    let are : products_in s.by.office (texts_of (n ∷ notes)) ≡ p ∷ later = ap (λ (ps : List Product). ps ++ later) first.one in
    let rows : rows_with s.rows p ≡ (after s n.command).rows = first.read.rows_are in
    record {
      whole = (first.whole, rest.whole);
      apart = (first.apart, rest.apart);
      lives = λ e place. subst (λ (ps : List Product). IsLawfulFrom s.rows ps e place) (sym are)
          (each_lawful e place (judged_product s.rows p) first.read.lawful, subst (λ (rs : List Row). IsLawfulFrom rs later e place) (sym rows) (rest.lives e place));
      opened = ap (opened_from s.rows) are ∙ ap (λ (es : List Event). es ++ opened_from (rows_with s.rows p) later) first.opened
          ∙ ap (λ (es : List Event). opened_by_deed n.command n.command.deed ++ es) (ap (λ (rs : List Row). opened_from rs later) rows ∙ rest.opened);
      rows = ap (fold rows_with s.rows) are ∙ ap (λ (rs : List Row). fold rows_with rs later) rows ∙ rest.rows;
      others = subst (AllByRecursion IsOfOthers) (sym are) (first.others, rest.others);
    }

are_read : (s : Noticed) (notes : List Noted) (z : Noticed) → IsStanding s → IsHistory s notes z → AreRead s notes z
are_read s [] z stands h = record { whole = tt; apart = tt; lives = λ e place. tt; opened = refl; rows = ap (λ (x : Noticed). x.rows) (sym h); others = tt }
are_read s (n ∷ notes) z stands h =
    more_read s n notes z (read_notice s n.command n.text stands h.1) (are_read (after s n.command) notes z (standing_after s n.command stands h.0.last_number h.1.kept) h.2)

pub history_read : (s : Noticed) (notes : List Noted) (z : Noticed) → IsStanding s → s.rows ≡ [] → IsHistory s notes z → ReadsAsNoted s.by.office notes z.rows
history_read s notes z stands none h =
    let r = are_read s notes z stands h in
    let ps = products_in s.by.office (texts_of notes) in
    record {
      whole = All-from_recursion (λ (text : List ℕ). IsOk (decode text)) (texts_of notes) r.whole;
      apart = All-from_recursion IsOneProduct (texts_of notes) r.apart;
      lives = λ e place. subst (λ (rs : List Row). IsLawfulFrom rs ps e place) none (r.lives e place);
      numbers = ap (λ (rs : List Row). opened_from rs ps) (sym none) ∙ r.opened;
      rows_are = ap (λ (rs : List Row). fold rows_with rs ps) (sym none) ∙ r.rows;
      others = r.others;
    }
