-- A product as it is written has the frame that it was written for.
use Rattle.std.proofs.Common.{◌≡◌, ℕ, ◌+◌, ◌≤◌, ◌==◌, ◌&&◌, Bool, true, false, List, [], ◌∷◌, ◌++◌, length, drop, refl, ap, sym, ◌∙◌, subst, arith, inl, inr, Some, None, append_assoc, append-nil, take_all, le_refl}
use Rattle.std.specs.Prelude.{slice_index, nat_le}
use Rattle.std.specs.List.{All, AllByRecursion, list_all}
use Rattle.std.proofs.lemmas.Bool.{and_parts, or_cases, leb-true, ne_eqb, false≢true}
use Rattle.hazard_types.specs.Calendar.{is_digit}
use Rattle.hazard_types.specs.Places.{is_capital}
use Rattle.product_frame.specs.Text.{starts, starts_from, line_of, before, is_left_out, is_empty}
use Rattle.hazard_types.specs.Characters.{is_name_byte}
use Rattle.product_frame.specs.Parts.{is_bbb, heading_of, is_identifier, parse_local_line}
use Rattle.product_frame.specs.Frames.{line_at, heading_index, first_nonempty_index, find_issue_minute, product_in}
use Rattle.product_frame.specs.Frame.{IsFrameIn, FrameOf}
use Rattle.product_frame.specs.Grammar.{AreSegments}
use Rattle.product_frame.specs.Layout.{ended, heading_text, segment_text, segments_text, block_text, layout_of}
use Rattle.product_frame.specs.Splitting.{headings_in, IsOneProduct}
use Rattle.product_frame.specs.declared.frame.FrameSegment.{FrameSegment}
use Rattle.product_frame.proofs.EndToEnd.{ends_append, ends_end}
use Rattle.product_frame.specs.LineRules.{ends_behind, IsOneLine, HasNoDigit, IsSegmentWritten, IsBody, ReadsBack, IsWritable}
use Rattle.product_frame.specs.declared.frame.Heading.{Heading}
use Rattle.product_frame.specs.declared.frame.Frame.{Frame}
use Rattle.product_frame.specs.declared.write.Block.{Block}
use Rattle.product_frame.specs.declared.write.Body.{Body}
use Rattle.ugc_codes.proofs.Written.{all_both}
use Rattle.product_frame.proofs.Runs.{all_from, starting, behind, Runs, run_both, run_line, next_line}
use Rattle.product_frame.proofs.LineKinds.{no_digit_no_heading, no_digit_no_segment, no_digit_no_local, no_heading_length}
use Rattle.product_frame.proofs.LocalLines.{NoEnd, local_line, local_whole, local_begins, local_reads}
use Rattle.product_frame.proofs.HeadingLines.{heading_laid}
use Rattle.product_frame.proofs.SegmentLines.{BeginsNone, HeadsNone, IsLocal, local_begins_none, local_heads_none, AreSound, segments_stand, segments_heads_none, sound_from}

abbrev pub LocalNone : List ℕ → Type 0
LocalNone line = parse_local_line line ≡ None

-- ---- the identifier

-- a byte of a name is kept at the end of a line
abbrev pub IsKept : ℕ → Type 0
IsKept c = NoEnd c × (is_left_out c ≡ false)

capital_at_least : (c : ℕ) → is_capital c ≡ true → 48 ≤ c
capital_at_least c h = let le : 65 ≤ c = leb-true 65 c (and_parts _ _ h).0 in omega arith

digit_at_least : (c : ℕ) → is_digit c ≡ true → 48 ≤ c
digit_at_least c h = leb-true 48 c (and_parts _ _ h).0

high_kept : (c : ℕ) → 48 ≤ c → IsKept c
high_kept c le =
    let w : (c == 10) ≡ false = ne_eqb _ _ (λ (e : c ≡ 10). omega arith) in
    let x : (c == 13) ≡ false = ne_eqb _ _ (λ (e : c ≡ 13). omega arith) in
    let y : (c == 32) ≡ false = ne_eqb _ _ (λ (e : c ≡ 32). omega arith) in
    let z : (c == 9) ≡ false = ne_eqb _ _ (λ (e : c ≡ 9). omega arith) in
    (w, rw (x, y, z) refl)

name_kept : (c : ℕ) → is_name_byte c ≡ true → IsKept c
name_kept c h = elim (or_cases (is_capital c) (is_digit c) h) [ inl a ↦ high_kept c (capital_at_least c a) | inr b ↦ high_kept c (digit_at_least c b) ]

names_kept : (t : List ℕ) → list_all is_name_byte t ≡ true → AllByRecursion IsKept t
names_kept [] h = tt
names_kept (c ∷ t) h = let p = and_parts (is_name_byte c) (list_all is_name_byte t) h in (name_kept c p.0, names_kept t p.1)

keep : (c : ℕ) (t : List ℕ) → is_left_out c ≡ false → before c t ≡ c ∷ t
keep c [] h = rw h refl
keep c (x ∷ t) h = refl

kept_whole : (t : List ℕ) → AllByRecursion IsKept t → line_of t ≡ t
kept_whole [] h = refl
kept_whole (c ∷ t) h = rw h.0.0 (ap (before c) (kept_whole t h.1) ∙ keep c t h.0.1)

kept_line : (t : List ℕ) → AllByRecursion IsKept t → IsOneLine t
kept_line [] h = tt
kept_line (c ∷ t) h = (h.0.0, kept_line t h.1)

record IsNamed (t : List ℕ) : Type 0 where
  kept : AllByRecursion IsKept t
  some : is_empty t ≡ false
  short : length t ≤ 6

three_parts : (a b c : Bool) → (a && b && c) ≡ true → (a ≡ true) × (b ≡ true) × (c ≡ true)
three_parts false b c h = absurd (false≢true h)
three_parts true false c h = absurd (false≢true h)
three_parts true true c h = (refl, refl, h)

four_parts : (a b c d : Bool) → (a && b && c && d) ≡ true → (a ≡ true) × (b ≡ true) × (c ≡ true) × (d ≡ true)
four_parts false b c d h = absurd (false≢true h)
four_parts true false c d h = absurd (false≢true h)
four_parts true true false d h = absurd (false≢true h)
four_parts true true true d h = (refl, refl, refl, h)

named : (t : List ℕ) → is_identifier t ≡ true → IsNamed t
named [] h = absurd (false≢true h)
named (a ∷ []) h = absurd (false≢true h)
named (a ∷ b ∷ []) h = absurd (false≢true h)
named (a ∷ b ∷ c ∷ t) h =
    let line = a ∷ b ∷ c ∷ t in
    let p = four_parts (nat_le 4 (length line)) (nat_le (length line) 6) (is_bbb line 0) (list_all is_name_byte t) h in
    let k = three_parts (is_capital a) (is_capital b) (is_capital c) p.2 in
    record {
      kept = (high_kept a (capital_at_least a k.0), (high_kept b (capital_at_least b k.1), (high_kept c (capital_at_least c k.2), names_kept t p.3)));
      some = refl;
      short = leb-true (length line) 6 p.1;
    }

-- ---- the block

pub record IsBlock (block : Block) : Type 0 where
  pub name : IsOneLine block.name × HasNoDigit block.name
  pub office_line : IsOneLine block.office_line × HasNoDigit block.office_line
  pub local : IsLocal block.local

empty_heads_none : HeadsNone []
empty_heads_none = no_heading_length [] (omega arith)

block_run : (Q : List ℕ → Type 0) (block : Block) → IsBlock block → Q [] → Q (line_of block.name) → Q (line_of block.office_line) → Q (line_of block.local) → Runs Q (block_text block)
block_run Q block b qe qn qo ql =
    run_both Q (ended []) (ended block.name ++ (ended block.office_line ++ (ended block.local ++ ended []))) (run_line Q [] tt qe)
    (run_both Q (ended block.name) (ended block.office_line ++ (ended block.local ++ ended [])) (run_line Q block.name b.name.0 qn)
    (run_both Q (ended block.office_line) (ended block.local ++ ended []) (run_line Q block.office_line b.office_line.0 qo)
    (run_both Q (ended block.local) (ended []) (run_line Q block.local b.local.line ql) (run_line Q [] tt qe))))

block_begins_none : (block : Block) → IsBlock block → Runs BeginsNone (block_text block)
block_begins_none block b = block_run BeginsNone block b refl (no_digit_no_segment block.name b.name.1) (no_digit_no_segment block.office_line b.office_line.1) (local_begins_none block.local b.local)

block_heads_none : (block : Block) → IsBlock block → Runs HeadsNone (block_text block)
block_heads_none block b = block_run HeadsNone block b empty_heads_none (no_digit_no_heading block.name b.name.1) (no_digit_no_heading block.office_line b.office_line.1) (local_heads_none block.local b.local)

-- what stands before the local line
front_local_none : (block : Block) → IsBlock block → Runs LocalNone (ended [] ++ (ended block.name ++ ended block.office_line))
front_local_none block b =
    run_both LocalNone (ended []) (ended block.name ++ ended block.office_line) (run_line LocalNone [] tt (no_digit_no_local [] tt))
    (run_both LocalNone (ended block.name) (ended block.office_line) (run_line LocalNone block.name b.name.0 (no_digit_no_local block.name b.name.1))
    (run_line LocalNone block.office_line b.office_line.0 (no_digit_no_local block.office_line b.office_line.1)))

regroup : (e n o l x s : List ℕ) → (e ++ (n ++ (o ++ (l ++ x)))) ++ s ≡ (e ++ (n ++ o)) ++ (l ++ (x ++ s))
regroup e n o l x s =
    append_assoc e (n ++ (o ++ (l ++ x))) s
    ∙ ap (λ (t : List ℕ). e ++ t) (append_assoc n (o ++ (l ++ x)) s ∙ ap (λ (t : List ℕ). n ++ t) (append_assoc o (l ++ x) s ∙ ap (λ (t : List ℕ). o ++ t) (append_assoc l x s)))
    ∙ sym (append_assoc e (n ++ o) (l ++ (x ++ s)) ∙ ap (λ (t : List ℕ). e ++ t) (append_assoc n o (l ++ (x ++ s))))

issue_passed : (p places more : List ℕ) → AllByRecursion (λ s. LocalNone (line_at p s)) places → find_issue_minute p (places ++ more) ≡ find_issue_minute p more
issue_passed p [] more h = refl
issue_passed p (s ∷ places) more h = rw h.0 (issue_passed p places more h.1)

issue_here : (p more : List ℕ) (s issue : ℕ) → parse_local_line (line_at p s) ≡ Some issue → find_issue_minute p (s ∷ more) ≡ Some issue
issue_here p more s issue h = rw h refl

-- the first local line behind the identifier is that of the block
issue_found : (p rest : List ℕ) (block : Block) (at issue : ℕ) → IsBlock block → parse_local_line block.local ≡ Some issue → drop at p ≡ block_text block ++ rest → find_issue_minute p (starting at (block_text block ++ rest)) ≡ Some issue
issue_found p rest block at issue b reads h =
    let front = ended [] ++ (ended block.name ++ ended block.office_line) in
    let more = ended [] ++ rest in
    let e : block_text block ++ rest ≡ front ++ (ended block.local ++ more) = regroup (ended []) (ended block.name) (ended block.office_line) (ended block.local) (ended []) rest in
    let r = front_local_none block b p at (ended block.local ++ more) (h ∙ e) in
    let at2 = at + length front in
    let n = next_line p block.local more at2 b.local.line (behind p front (ended block.local ++ more) at (h ∙ e)) in
    let line : parse_local_line (line_at p at2) ≡ Some issue = ap parse_local_line (n.1 ∙ b.local.whole) ∙ reads in
    ap (λ (t : List ℕ). find_issue_minute p (starting at t)) e ∙ ap (find_issue_minute p) r.1 ∙ issue_passed p r.0 (starting at2 (ended block.local ++ more)) r.2 ∙ issue_here p (starts_from at2 (ended block.local ++ more)) at2 issue line

-- ---- no later heading line

no_heading_in : (p places : List ℕ) (k : ℕ) → AllByRecursion (λ s. HeadsNone (line_at p s)) places → heading_index p k places ≡ None
no_heading_in p [] k h = refl
no_heading_in p (s ∷ places) k h = rw h.0 (no_heading_in p places (k + 1) h.1)

one_product : (p t : List ℕ) (at : ℕ) → Runs HeadsNone t → drop at p ≡ t → heading_index p 0 (starting at t) ≡ None
one_product p t at run h =
    let whole : t ≡ t ++ [] = sym (append-nil t) in
    let r = run p at [] (h ∙ whole) in
    let end = at + length t in
    let none : HeadsNone (line_at p end) = ap (λ (x : List ℕ). heading_of (line_of x)) (behind p t [] at (h ∙ whole)) ∙ empty_heads_none in
    ap (λ (x : List ℕ). heading_index p 0 (starting at x)) whole ∙ ap (heading_index p 0) r.1 ∙ no_heading_in p (r.0 ++ starting end []) 0 (all_both (λ s. HeadsNone (line_at p s)) r.0 (starting end []) r.2 (none, tt))

product_is : (p : List ℕ) → heading_index p 0 (starts_from 0 p) ≡ None → product_in p ≡ p
unfolding product_in
product_is p h = rw h (take_all (length p) p (le_refl (length p)))

-- ---- the product

pub record IsProduct (f : Frame) (block : Block) (bodies : List Body) : Type 0 where
  pub rules : IsWritable f block bodies
  pub sound : AreSound f.segments bodies
  pub well : IsBlock block
  pub reads : parse_local_line block.local ≡ Some f.issue

full_here : (p more : List ℕ) (s : ℕ) → is_empty (line_at p s) ≡ false → first_nonempty_index p 0 (s ∷ more) ≡ Some 0
full_here p more s h = rw h refl

begins_here : (p : List ℕ) (h : Heading) → heading_of (line_of p) ≡ Some h → heading_index p 0 (starts p) ≡ Some 0
begins_here p h e = rw e refl

-- no line behind the heading is a heading line
clear_behind : (f : Frame) (block : Block) (bodies : List Body) → IsProduct f block bodies → Runs HeadsNone (ended f.identifier ++ (block_text block ++ segments_text block.local f.segments bodies))
clear_behind f block bodies is =
    let segments = segments_text block.local f.segments bodies in
    let id = named f.identifier is.rules.identifier in
    let small : length f.identifier ≤ 17 = (let s : length f.identifier ≤ 6 = id.short in omega arith) in
    run_both HeadsNone (ended f.identifier) (block_text block ++ segments) (run_line HeadsNone f.identifier (kept_line f.identifier id.kept) (ap heading_of (kept_whole f.identifier id.kept) ∙ no_heading_length f.identifier small))
    (run_both HeadsNone (block_text block) segments (block_heads_none block is.well) (segments_heads_none block.local is.well.local f.segments bodies is.sound))

laid_frame : (p : List ℕ) (f : Frame) (block : Block) (bodies : List Body) → IsProduct f block bodies → p ≡ layout_of f block bodies → FrameOf p f
laid_frame p f block bodies is whole =
    let w = is.rules in
    let heading = heading_text f.heading in
    let segments = segments_text block.local f.segments bodies in
    let t2 = block_text block ++ segments in
    let t1 = ended f.identifier ++ t2 in
    let h = heading_laid f.heading w.heading in
    let n = next_line p heading t1 0 h.2 whole in
    let at1 = 0 + length (ended heading) in
    let h1 : drop at1 p ≡ t1 = behind p (ended heading) t1 0 whole in
    let id = named f.identifier w.identifier in
    let m = next_line p f.identifier t2 at1 (kept_line f.identifier id.kept) h1 in
    let at2 = at1 + length (ended f.identifier) in
    let h2 : drop at2 p ≡ t2 = behind p (ended f.identifier) t2 at1 h1 in
    let next : starts_from 0 p ≡ starting at1 t1 = ap (starts_from 0) whole ∙ n.0 in
    let places : starts_from 0 p ≡ at1 ∷ starting at2 t2 = next ∙ ap (λ (xs : List ℕ). at1 ∷ xs) m.0 in
    let line : line_at p at1 ≡ f.identifier = m.1 ∙ kept_whole f.identifier id.kept in
    let first : heading_of (line_of p) ≡ Some f.heading = ap heading_of (n.1 ∙ h.1) ∙ h.0 in
    let clear : Runs HeadsNone t1 = clear_behind f block bodies is in
    let alone : heading_index p 0 (starts_from 0 p) ≡ None = ap (heading_index p 0) next ∙ one_product p t1 at1 clear h1 in
    let frame : IsFrameIn p f = record {
      index = 0;
      full = ap (first_nonempty_index p 0) places ∙ full_here p (starting at2 t2) at1 (ap is_empty line ∙ id.some);
      identifier = sym (ap (λ (xs : List ℕ). line_at p (slice_index xs 0)) places ∙ line);
      named = w.identifier;
      issue = ap (λ (xs : List ℕ). find_issue_minute p (drop 1 xs)) places ∙ issue_found p segments block at2 f.issue is.well is.reads h2;
      agrees = w.near;
      segments = subst (λ (xs : List ℕ). AreSegments p (drop 1 xs) f.segments) (sym places) (segments_stand block.local is.well.local f.segments bodies is.sound p (block_text block) at2 (block_begins_none block is.well) h2);
    } in
    record {
      index = 0;
      begins = begins_here p f.heading first;
      heading = first;
      frame = subst (λ (x : List ℕ). IsFrameIn x f) (sym (product_is p alone)) frame;
    }

-- ---- the one heading line

no_headings : (p places : List ℕ) → AllByRecursion (λ s. HeadsNone (line_at p s)) places → headings_in p places ≡ []
no_headings p [] h = refl
no_headings p (s ∷ places) h = rw h.0 (no_headings p places h.1)

none_behind : (p t : List ℕ) (at : ℕ) → Runs HeadsNone t → drop at p ≡ t → headings_in p (starting at t) ≡ []
none_behind p t at run h =
    let whole : t ≡ t ++ [] = sym (append-nil t) in
    let r = run p at [] (h ∙ whole) in
    let end = at + length t in
    let none : HeadsNone (line_at p end) = ap (λ (x : List ℕ). heading_of (line_of x)) (behind p t [] at (h ∙ whole)) ∙ empty_heads_none in
    ap (λ (x : List ℕ). headings_in p (starting at x)) whole ∙ ap (headings_in p) r.1 ∙ no_headings p (r.0 ++ starting end []) (all_both (λ s. HeadsNone (line_at p s)) r.0 (starting end []) r.2 (none, tt))

first_alone : (p places : List ℕ) (h : Heading) → heading_of (line_of p) ≡ Some h → headings_in p places ≡ [] → headings_in p (0 ∷ places) ≡ 0 ∷ []
first_alone p places h e none = rw e (ap (λ (xs : List ℕ). 0 ∷ xs) none)

segments_ended : (local : List ℕ) (segments : List FrameSegment) (bodies : List Body) → ends_behind 10 (segments_text local segments bodies) ≡ true
segments_ended local [] bodies = refl
segments_ended local (g ∷ segments) [] = refl
segments_ended local (g ∷ segments) (body ∷ bodies) = ends_end 10 (segment_text local g body) (segments_text local segments bodies) (segments_ended local segments bodies)

line_then : (line t : List ℕ) → ends_behind 10 t ≡ true → ends_behind 10 (ended line ++ t) ≡ true
line_then line t h = ends_append 10 (ended line) t (ends_end 10 line [] refl) h

block_then : (block : Block) (t : List ℕ) → ends_behind 10 t ≡ true → ends_behind 10 (block_text block ++ t) ≡ true
block_then block t h = ends_append 10 (block_text block) t (line_then [] (ended block.name ++ (ended block.office_line ++ (ended block.local ++ ended []))) (line_then block.name (ended block.office_line ++ (ended block.local ++ ended [])) (line_then block.office_line (ended block.local ++ ended []) (line_then block.local (ended []) refl)))) h

laid_one : (p : List ℕ) (f : Frame) (block : Block) (bodies : List Body) → IsProduct f block bodies → p ≡ layout_of f block bodies → IsOneProduct p
laid_one p f block bodies is whole =
    let heading = heading_text f.heading in
    let segments = segments_text block.local f.segments bodies in
    let t1 = ended f.identifier ++ (block_text block ++ segments) in
    let h = heading_laid f.heading is.rules.heading in
    let n = next_line p heading t1 0 h.2 whole in
    let at1 = 0 + length (ended heading) in
    let h1 : drop at1 p ≡ t1 = behind p (ended heading) t1 0 whole in
    let first : heading_of (line_of p) ≡ Some f.heading = ap heading_of (n.1 ∙ h.1) ∙ h.0 in
    let next : starts_from 0 p ≡ starting at1 t1 = ap (starts_from 0) whole ∙ n.0 in
    record {
      heading = first_alone p (starts_from 0 p) f.heading first (ap (headings_in p) next ∙ none_behind p t1 at1 (clear_behind f block bodies is) h1);
      ended = ap (ends_behind 10) whole ∙ line_then heading t1 (line_then f.identifier (block_text block ++ segments) (block_then block segments (segments_ended block.local f.segments bodies)));
    }

written_product : (f : Frame) (block : Block) (bodies : List Body) → IsWritable f block bodies → All ReadsBack f.segments → IsProduct f block bodies
written_product f block bodies w typed =
    let local : IsLocal block.local = subst IsLocal (sym w.local) (record { line = local_line w.zone f.issue; whole = local_whole w.zone f.issue; first = local_begins w.zone f.issue }) in
    record {
      rules = w;
      sound = sound_from f.segments bodies w.as_many (all_from IsSegmentWritten f.segments w.segments) (all_from ReadsBack f.segments typed) (all_from IsBody bodies w.each_body);
      well = record { name = w.name; office_line = w.office_line; local = local };
      reads = ap parse_local_line w.local ∙ local_reads w.zone f.issue w.minute;
    }

pub written_frame : (p : List ℕ) (f : Frame) (block : Block) (bodies : List Body) → IsWritable f block bodies → All ReadsBack f.segments → p ≡ layout_of f block bodies → FrameOf p f
written_frame p f block bodies w typed whole = laid_frame p f block bodies (written_product f block bodies w typed) whole

pub written_one : (p : List ℕ) (f : Frame) (block : Block) (bodies : List Body) → IsWritable f block bodies → All ReadsBack f.segments → p ≡ layout_of f block bodies → IsOneProduct p
written_one p f block bodies w typed whole = laid_one p f block bodies (written_product f block bodies w typed) whole
