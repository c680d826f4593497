-- What a feed holds, as plain bytes: what is scanned, given and left.
use Rattle.std.proofs.Common.{◌≡◌, ◌∙◌, ℕ, ◌+◌, ◌-◌, ◌≤◌, ◌<◌, ◌==◌, ◌||◌, Bool, true, false, List, [], ◌∷◌, ◌++◌, length, take, drop, get_or, append-nil, append_assoc, length-drop, length-append, drop-drop, Option, Some, None, option_map, Result, Ok, Err, refl, ap, sym, subst, arith}
use Rattle.std.specs.Prelude.{is_some, IfOk, OnOk, OnErr}
use Rattle.std.specs.List.{slice_range, list_any, concat}
use Rattle.std.proofs.lemmas.Bool.{eqb-true}
use Rattle.std.proofs.lemmas.List.{get_or-drop}
use Rattle.std.proofs.lemmas.List.Folds.{drop_split, list_any-append}
use Rattle.std.proofs.Math.Seq.{take-length, take-add}
use Rattle.ugc_codes.proofs.Walking.{group_more}
use Rattle.product_frame.specs.LineRules.{are_ended, ends_behind}
use Rattle.product_frame.proofs.EndToEnd.{ends_append, ends_end}
use Rattle.product_frame.specs.Text.{line_end, next_start}
use Rattle.product_frame.proofs.LineEnds.{EndTold, end_told}
use Rattle.product_frame.proofs.LineKinds.{no_heading_length}
use Rattle.product_decoder.specs.Feeding.{Parts, onto, has_heading, part, products_in, IsQuiet, IsPlain, IsHeaded, Keeps, ComesFirst, IsHeld, IsFound, IsNotFound, Split}
use Rattle.product_decoder.specs.Holding.{IsTrimmed, IsOne, IsBegun, Moves, TakesWhole, TakesLast}
use Rattle.product_decoder.proofs.Parting.{grafted, part_behind, plain_none, plain_more, headed_more, quiet_line}

-- ranges

abbrev within : List ℕ → ℕ → ℕ → List ℕ
within bytes s t = slice_range bytes s t

range_none : (bytes : List ℕ) (s : ℕ) → within bytes s s ≡ []
range_none bytes s = let e : s - s ≡ 0 = omega arith in ap (λ (n : ℕ). take n (drop s bytes)) e

pub range_join : (bytes : List ℕ) (s m t : ℕ) → s ≤ m → m ≤ t → within bytes s t ≡ within bytes s m ++ within bytes m t
range_join bytes s m t le more =
    let e : t - s ≡ (m - s) + (t - m) = omega arith in
    let place : s + (m - s) ≡ m = omega arith in
    ap (λ (n : ℕ). take n (drop s bytes)) e ∙ take-add (m - s) (t - m) (drop s bytes)
    ∙ ap (λ (xs : List ℕ). within bytes s m ++ take (t - m) xs) (drop-drop (m - s) s bytes ∙ ap (λ (k : ℕ). drop k bytes) place)

pub range_end : (bytes : List ℕ) (s : ℕ) → within bytes s (length bytes) ≡ drop s bytes
range_end bytes s = ap (λ (n : ℕ). take n (drop s bytes)) (sym (length-drop s bytes)) ∙ take-length (drop s bytes)

-- whole lines

no_byte : IsQuiet []
no_byte = refl

quiet_more : (v : List ℕ) (c : ℕ) → IsQuiet v → (c == 10) ≡ false → IsQuiet (v ++ c ∷ [])
quiet_more v c h e = list_any-append (λ c. c == 10) v (c ∷ []) ∙ rw (h, e) refl

quiet_join : (v w : List ℕ) → IsQuiet v → IsQuiet w → IsQuiet (v ++ w)
quiet_join v w h g = list_any-append (λ c. c == 10) v w ∙ rw (h, g) refl

quiet_end : (v : List ℕ) → IsQuiet v → part false (v ++ 10 ∷ []) ≡ record { lead = v ++ 10 ∷ []; texts = [] }
quiet_end [] h = refl
quiet_end (c ∷ v) h = by_byte (quiet_end v) (c == 10) refl h
  where
    by_byte : (IsQuiet v → part false (v ++ 10 ∷ []) ≡ record { lead = v ++ 10 ∷ []; texts = [] }) → (b : Bool) → (c == 10) ≡ b → (b || list_any (λ c. c == 10) v) ≡ false
        → onto false c (part (c == 10) (v ++ 10 ∷ [])) ≡ record { lead = c ∷ (v ++ 10 ∷ []); texts = [] }
    by_byte later true e g = cc
    by_byte later false e g = rw (e, later g) refl

-- a product, or what stands before one
abbrev onto_line : Bool → List ℕ → Parts
onto_line true l = record { lead = []; texts = l ∷ [] }
onto_line false l = record { lead = l; texts = [] }

-- a line with its end has no heading line but itself
line_part : (b : Bool) (v : List ℕ) → IsQuiet v → has_heading (v ++ 10 ∷ []) ≡ b → part true (v ++ 10 ∷ []) ≡ onto_line b (v ++ 10 ∷ [])
line_part b [] h is = rw is (empty_line b)
  where
    empty_line : (b : Bool) → onto b 10 (record { lead = []; texts = [] }) ≡ onto_line b (10 ∷ [])
    empty_line true = refl
    empty_line false = refl
line_part b (c ∷ v) h is = by_byte (c == 10) refl h
  where
    whole : (b : Bool) → onto b c (record { lead = v ++ 10 ∷ []; texts = [] }) ≡ onto_line b (c ∷ (v ++ 10 ∷ []))
    whole true = refl
    whole false = refl

    by_byte : (k : Bool) → (c == 10) ≡ k → (k || list_any (λ c. c == 10) v) ≡ false → onto (has_heading (c ∷ (v ++ 10 ∷ []))) c (part (c == 10) (v ++ 10 ∷ [])) ≡ onto_line b (c ∷ (v ++ 10 ∷ []))
    by_byte true e g = cc
    by_byte false e g = rw (is, e, quiet_end v g) (whole b)

line_ended : (v : List ℕ) → are_ended (v ++ 10 ∷ []) ≡ true
line_ended v = ends_end 10 v [] refl

pub headed_line : (v : List ℕ) → IsQuiet v → has_heading (v ++ 10 ∷ []) ≡ true → IsHeaded (v ++ 10 ∷ [])
headed_line v h is = record { ended = line_ended v; one = line_part true v h is }

pub plain_line : (v : List ℕ) → IsQuiet v → has_heading (v ++ 10 ∷ []) ≡ false → IsPlain (v ++ 10 ∷ [])
plain_line v h is = record { ended = line_ended v; none = line_part false v h is }

-- a scan

pub record Scanned (bytes : List ℕ) (from start at : ℕ) : Type 0 where
  pub early : from ≤ start
  pub begun : start ≤ at
  pub plain : IsPlain (within bytes from start)
  pub quiet : IsQuiet (within bytes start at)

pub scan_begun : (bytes : List ℕ) (from looked : ℕ) → from ≤ looked → IsQuiet (within bytes from looked) → Scanned bytes from from looked
scan_begun bytes from looked le quiet = record {
  early = omega arith;
  begun = le;
  plain = subst IsPlain (sym (range_none bytes from)) plain_none;
  quiet = quiet;
}

line_is : (bytes : List ℕ) (start at : ℕ) → start ≤ at → at < length bytes → (get_or bytes at 0 == 10) ≡ true → within bytes start (at + 1) ≡ within bytes start at ++ 10 ∷ []
line_is bytes start at le lt e = group_more bytes start at le lt ∙ ap (λ (c : ℕ). within bytes start at ++ c ∷ []) (eqb-true (get_or bytes at 0) 10 e)

-- bytes that end no line
scan_more : (bytes : List ℕ) (from start at k : ℕ) → Scanned bytes from start at → IsQuiet (take k (drop at bytes)) → Scanned bytes from start (at + k)
scan_more bytes from start at k s more =
    let begun : start ≤ at = s.begun in
    let count : at + k - at ≡ k = omega arith in
    let behind : within bytes at (at + k) ≡ take k (drop at bytes) = ap (λ (n : ℕ). take n (drop at bytes)) count in
    record {
      early = s.early;
      begun = omega arith;
      plain = s.plain;
      quiet = subst IsQuiet (sym (range_join bytes start at (at + k) begun (omega arith))) (quiet_join (within bytes start at) (within bytes at (at + k)) s.quiet (subst IsQuiet (sym behind) more));
    }

-- the end of a line that is no heading line
scan_line : (bytes : List ℕ) (from start at : ℕ) → Scanned bytes from start at → at < length bytes → (get_or bytes at 0 == 10) ≡ true → has_heading (within bytes start (at + 1)) ≡ false → Scanned bytes from (at + 1) (at + 1)
scan_line bytes from start at s lt e none =
    let begun : start ≤ at = s.begun in
    let early : from ≤ start = s.early in
    let line = line_is bytes start at begun lt e in
    let plain : IsPlain (within bytes start (at + 1)) = subst IsPlain (sym line) (plain_line (within bytes start at) s.quiet (ap has_heading (sym line) ∙ none)) in
    record {
      early = omega arith;
      begun = omega arith;
      plain = subst IsPlain (sym (range_join bytes from start (at + 1) early (omega arith))) (plain_more (within bytes from start) (within bytes start (at + 1)) s.plain plain);
      quiet = subst IsQuiet (sym (range_none bytes (at + 1))) no_byte;
    }

-- the end of one that is
scan_found : (bytes : List ℕ) (from start at : ℕ) → Scanned bytes from start at → at < length bytes → (get_or bytes at 0 == 10) ≡ true → has_heading (within bytes start (at + 1)) ≡ true → IsFound bytes from start (at + 1)
scan_found bytes from start at s lt e is =
    let begun : start ≤ at = s.begun in
    let line = line_is bytes start at begun lt e in
    (s.early, omega arith, omega arith, s.plain, subst IsHeaded (sym line) (headed_line (within bytes start at) s.quiet (ap has_heading (sym line) ∙ is)))

-- where the next line begins

record NextTold (bytes : List ℕ) (at next : ℕ) : Type 0 where
  pub size : ℕ
  pub place : next ≡ at + size + 1
  pub told : EndTold (drop at bytes) (Some size)

next_by : (bytes : List ℕ) (at next : ℕ) (end : Option ℕ) → EndTold (drop at bytes) end → Some next ≡ option_map (λ size. at + size + 1) end → NextTold bytes at next
next_by bytes at next None told e = cc
next_by bytes at next (Some k) told e = record { size = k; place = (cc); told = told }

next_told : (bytes : List ℕ) (at next : ℕ) → Some next ≡ next_start bytes at → NextTold bytes at next
next_told bytes at next e = next_by bytes at next (line_end (drop at bytes)) (end_told (drop at bytes)) e

-- the line up to there, but for its LF
line_scanned : (bytes : List ℕ) (from start at next : ℕ) → Scanned bytes from start at → (n : NextTold bytes at next) → Scanned bytes from start (at + n.size)
line_scanned bytes from start at next s n = scan_more bytes from start at n.size s n.told.0

line_inside : (bytes : List ℕ) (at next : ℕ) → (n : NextTold bytes at next) → at + n.size < length bytes
line_inside bytes at next n = let inside : n.size < length (drop at bytes) = n.told.1 in omega (arith, inside, length-drop at bytes)

line_byte : (bytes : List ℕ) (at next : ℕ) → (n : NextTold bytes at next) → (get_or bytes (at + n.size) 0 == 10) ≡ true
line_byte bytes at next n = ap (λ (c : ℕ). c == 10) (sym (get_or-drop at bytes n.size 0)) ∙ n.told.2

pub scan_passed : (bytes : List ℕ) (from start at next : ℕ) → Scanned bytes from start at → Some next ≡ next_start bytes at → has_heading (within bytes start next) ≡ false → Scanned bytes from next next
scan_passed bytes from start at next s e none =
    let n = next_told bytes at next e in
    subst (λ (end : ℕ). Scanned bytes from end end) (sym n.place)
    (scan_line bytes from start (at + n.size) (line_scanned bytes from start at next s n) (line_inside bytes at next n) (line_byte bytes at next n) (ap (λ (end : ℕ). has_heading (within bytes start end)) (sym n.place) ∙ none))

pub scan_headed : (bytes : List ℕ) (from start at next : ℕ) → Scanned bytes from start at → Some next ≡ next_start bytes at → has_heading (within bytes start next) ≡ true → IsFound bytes from start next
scan_headed bytes from start at next s e is =
    let n = next_told bytes at next e in
    subst (λ (end : ℕ). IsFound bytes from start end) (sym n.place)
    (scan_found bytes from start (at + n.size) (line_scanned bytes from start at next s n) (line_inside bytes at next n) (line_byte bytes at next n) (ap (λ (end : ℕ). has_heading (within bytes start end)) (sym n.place) ∙ is))

none_by : (bytes : List ℕ) (at : ℕ) (end : Option ℕ) → EndTold (drop at bytes) end → None ≡ option_map (λ size. at + size + 1) end → IsQuiet (drop at bytes)
none_by bytes at None told e = told
none_by bytes at (Some k) told e = cc

pub scan_ended : (bytes : List ℕ) (from start at : ℕ) → Scanned bytes from start at → at ≤ length bytes → None ≡ next_start bytes at → IsNotFound bytes from start
scan_ended bytes from start at s le e =
    let begun : start ≤ at = s.begun in
    let quiet : IsQuiet (drop at bytes) = none_by bytes at (line_end (drop at bytes)) (end_told (drop at bytes)) e in
    (s.early, omega arith, s.plain, subst IsQuiet (sym (drop_split bytes start at begun)) (quiet_join (within bytes start at) (drop at bytes) s.quiet quiet))

-- what is to come of a stream

pub trimmed_keeps : (lead rest : List ℕ) → IsPlain lead → Keeps (lead ++ rest) rest
trimmed_keeps lead rest p more =
    ap products_in (append_assoc lead rest more)
    ∙ ap (λ (q : Parts). q.texts) (part_behind lead (rest ++ more) p.ended)
    ∙ ap (λ (q : Parts). (grafted q (part true (rest ++ more))).texts) p.none

-- a heading line begins what follows
lead_none : (lines more : List ℕ) → IsHeaded lines → (part true (lines ++ more)).lead ≡ []
lead_none lines more h = ap (λ (q : Parts). q.lead) (part_behind lines more h.ended) ∙ ap (λ (q : Parts). (grafted q (part true more)).lead) h.one

given : (text rest : List ℕ) → IsHeaded text → (part true rest).lead ≡ [] → products_in (text ++ rest) ≡ text ∷ products_in rest
given text rest h none =
    ap (λ (q : Parts). q.texts) (part_behind text rest h.ended)
    ∙ ap (λ (q : Parts). (grafted q (part true rest)).texts) h.one
    ∙ ap (λ (lead : List ℕ). (text ++ lead) ∷ products_in rest) none
    ∙ ap (λ (t : List ℕ). t ∷ products_in rest) (append-nil text)

begun_none : (rest more : List ℕ) → IsBegun rest → (part true (rest ++ more)).lead ≡ []
begun_none rest more b =
    ap (λ (xs : List ℕ). (part true (xs ++ more)).lead) b.3 ∙ ap (λ (xs : List ℕ). (part true xs).lead) (append_assoc b.0 b.1 more) ∙ lead_none b.0 (b.1 ++ more) b.2

pub comes_first : (text rest : List ℕ) → IsHeaded text → IsBegun rest → ComesFirst (text ++ rest) text rest
comes_first text rest h b more = ap products_in (append_assoc text rest more) ∙ given text (rest ++ more) h (begun_none rest more b)

-- a text is whole lines and one that is not

split_by : (c : ℕ) (bytes : List ℕ) (s : Split bytes) (b : Bool) (lines : List ℕ) → s.lines ≡ lines → (c == 10) ≡ b → Split (c ∷ bytes)
split_by c bytes s true lines is e = record {
  lines = c ∷ s.lines;
  line = s.line;
  parts = ap (λ (xs : List ℕ). c ∷ xs) s.parts;
  whole = one_ended s.lines s.whole;
  quiet = s.quiet;
}
  where
    one_ended : (xs : List ℕ) → are_ended xs ≡ true → ends_behind c xs ≡ true
    one_ended [] h = e
    one_ended (x ∷ xs) h = h
split_by c bytes s false [] is e = record {
  lines = [];
  line = c ∷ bytes;
  parts = refl;
  whole = refl;
  quiet = (let line_is : bytes ≡ s.line = s.parts ∙ ap (λ (xs : List ℕ). xs ++ s.line) is in subst (λ (xs : List ℕ). ((c == 10) || list_any (λ c. c == 10) xs) ≡ false) (sym line_is) (rw e s.quiet));
}
split_by c bytes s false (x ∷ xs) is e = record {
  lines = c ∷ s.lines;
  line = s.line;
  parts = ap (λ (xs : List ℕ). c ∷ xs) s.parts;
  whole = subst (λ (ys : List ℕ). ends_behind c ys ≡ true) (sym is) (subst (λ (ys : List ℕ). are_ended ys ≡ true) is s.whole);
  quiet = s.quiet;
}

pub split_lines : (bytes : List ℕ) → Split bytes
split_lines [] = record { lines = []; line = []; parts = refl; whole = refl; quiet = refl }
split_lines (c ∷ bytes) = let s = split_lines bytes in split_by c bytes s (c == 10) s.lines refl refl

-- what is taken before the end

pub waits_quiet : (lead rest : List ℕ) → IsPlain lead → IsQuiet rest → TakesWhole (lead ++ rest) None rest
waits_quiet lead rest p quiet =
    let none : products_in lead ≡ [] = ap (λ (q : Parts). q.texts) p.none in (
      record {
        split = record { lines = lead; line = rest; parts = refl; whole = p.ended; quiet = quiet };
        one = rw none (omega arith);
        kept = ap (λ (texts : List (List ℕ)). concat texts ++ rest) (sym none);
      },
      trimmed_keeps lead rest p,
    )

headed_products : (lead lines : List ℕ) → IsPlain lead → IsHeaded lines → products_in (lead ++ lines) ≡ lines ∷ []
headed_products lead lines p h = ap (λ (q : Parts). q.texts) (part_behind lead lines p.ended) ∙ (λ i. (grafted (p.none i) (h.one i)).texts)

pub waits_one : (lead rest : List ℕ) → IsPlain lead → IsOne rest → TakesWhole (lead ++ rest) None rest
waits_one lead rest p one =
    let lines = one.0 in
    let line = one.1 in
    let texts = headed_products lead lines p one.2 in (
      record {
        split = record {
          lines = lead ++ lines;
          line = line;
          parts = ap (λ (xs : List ℕ). lead ++ xs) one.4 ∙ sym (append_assoc lead lines line);
          whole = ends_append 10 lead lines p.ended (one.2).ended;
          quiet = one.3;
        };
        one = rw texts (omega arith);
        kept = one.4 ∙ ap (λ (xs : List ℕ). xs ++ line) (sym (append-nil lines)) ∙ ap (λ (all : List (List ℕ)). concat all ++ line) (sym texts);
      },
      trimmed_keeps lead rest p,
    )

two_of : (x : List ℕ) (xs ys : List (List ℕ)) (l : List ℕ) → xs ≡ x ∷ ys → 1 ≤ length ys → 2 ≤ length xs
two_of x xs ys l is le = rw is (omega arith)

headed_full : (text : List ℕ) → IsHeaded text → 0 < length text
headed_full [] h = let e : ◌≡◌ {A = ℕ} 0 1 = ap (λ (q : Parts). length q.texts) h.one in absurd (omega (arith, e))
headed_full (c ∷ text) h = omega arith

behind_less : (lead text rest : List ℕ) → 0 < length text → length rest < length (lead ++ (text ++ rest))
behind_less lead text rest full = omega (arith, full, length-append lead (text ++ rest), length-append text rest)

pub gives_whole : (lead text rest : List ℕ) → IsPlain lead → IsHeaded text → IsBegun rest → TakesWhole (lead ++ (text ++ rest)) (Some text) rest
gives_whole lead text rest p h b =
    let s = split_lines b.1 in
    let lines = b.0 ++ s.lines in
    let begun : IsBegun lines = (b.0, s.lines, b.2, refl) in
    let later : products_in lines ≡ (grafted (record { lead = []; texts = b.0 ∷ [] }) (part true s.lines)).texts = ap (λ (q : Parts). q.texts) (part_behind b.0 s.lines (b.2).ended) ∙ ap (λ (q : Parts). (grafted q (part true s.lines)).texts) (b.2).one in
    let all : products_in (lead ++ (text ++ lines)) ≡ text ∷ products_in lines =
    ap (λ (q : Parts). q.texts) (part_behind lead (text ++ lines) p.ended) ∙ ap (λ (q : Parts). (grafted q (part true (text ++ lines))).texts) p.none
    ∙ given text lines h (ap (λ (xs : List ℕ). (part true xs).lead) (sym (append-nil lines)) ∙ begun_none lines [] begun) in
    let ended : are_ended (text ++ lines) ≡ true = ends_append 10 text lines h.ended (ends_append 10 b.0 s.lines (b.2).ended s.whole) in (
      record {
        split = record {
          lines = lead ++ (text ++ lines);
          line = s.line;
          parts = ap (λ (xs : List ℕ). lead ++ (text ++ xs)) (b.3 ∙ ap (λ (xs : List ℕ). b.0 ++ xs) s.parts ∙ sym (append_assoc b.0 s.lines s.line)) ∙ ap (λ (xs : List ℕ). lead ++ xs) (sym (append_assoc text lines s.line)) ∙ sym (append_assoc lead (text ++ lines) s.line);
          whole = ends_append 10 lead (text ++ lines) p.ended ended;
          quiet = s.quiet;
        };
        two = rw (all, later) (omega arith);
      },
      (λ more. trimmed_keeps lead (text ++ rest) p more ∙ comes_first text rest h b more),
      behind_less lead text rest (headed_full text h),
    )

-- what is taken at the end

empty_heading : has_heading [] ≡ false
empty_heading = ap is_some (no_heading_length [] (omega arith))

quiet_parts : (b : Bool) (line : List ℕ) → IsQuiet line → has_heading line ≡ b → part true line ≡ onto_line b line
quiet_parts true [] h is = let e : true ≡ false = sym is ∙ empty_heading in cc
quiet_parts false [] h is = refl
quiet_parts true (c ∷ v) h is = quiet_line true c v h is
quiet_parts false (c ∷ v) h is = quiet_line false c v h is

-- the last line is a heading line
pub last_is : (line : List ℕ) → IsQuiet line → has_heading line ≡ true → products_in line ≡ line ∷ products_in []
last_is line h is = ap (λ (q : Parts). q.texts) (quiet_parts true line h is)

pub last_is_none : (line : List ℕ) → IsQuiet line → has_heading line ≡ false → products_in line ≡ []
last_is_none line h is = ap (λ (q : Parts). q.texts) (quiet_parts false line h is)

-- the last line stands behind whole lines of a product
pub front_given : (lines line : List ℕ) → IsHeaded lines → IsQuiet line → has_heading line ≡ true → products_in (lines ++ line) ≡ lines ∷ products_in line
front_given lines line h quiet is = given lines line h (ap (λ (q : Parts). q.lead) (quiet_parts true line quiet is))

pub all_given : (lines line : List ℕ) → IsHeaded lines → IsQuiet line → has_heading line ≡ false → products_in (lines ++ line) ≡ (lines ++ line) ∷ products_in []
all_given lines line h quiet is =
    ap (λ (q : Parts). q.texts) (part_behind lines line h.ended) ∙ (λ i. (grafted (h.one i) (quiet_parts false line quiet is i)).texts)

pub last_keeps : (old new : List ℕ) → Keeps old new → products_in old ≡ products_in new
last_keeps old new h = ap products_in (sym (append-nil old)) ∙ h [] ∙ ap products_in (append-nil new)

-- a call that gives what is left, or its front

pub given_all : {E : Type 0} (r : Result (Option (List ℕ)) E) (old new : List ℕ) → products_in old ≡ old ∷ products_in [] → IfOk r (λ text. text ≡ Some old) → OnOk r (new ≡ []) → IfOk r (λ text. TakesLast old text new)
given_all (Ok text) old new is text_is none = subst (λ (t : Option (List ℕ)). TakesLast old t new) (sym text_is) (is ∙ ap (λ (xs : List ℕ). old ∷ products_in xs) (sym none), nothing_less old new none is)
  where
    nothing_less : (old new : List ℕ) → new ≡ [] → products_in old ≡ old ∷ products_in [] → length new < length old
    nothing_less [] new none is = let e : ◌≡◌ {A = ℕ} 0 1 = ap (λ (xs : List (List ℕ)). length xs) is in absurd (omega (arith, e))
    nothing_less (c ∷ old) new none is = rw none (omega arith)
given_all (Err e) old new is text_is none = tt

pub given_front : {E : Type 0} (r : Result (Option (List ℕ)) E) (old front back new : List ℕ) → length back < length old → products_in old ≡ front ∷ products_in back → IfOk r (λ text. text ≡ Some front) → OnOk r (new ≡ back) → IfOk r (λ text. TakesLast old text new)
given_front (Ok text) old front back new less is text_is rest = subst (λ (t : Option (List ℕ)). TakesLast old t new) (sym text_is) (is ∙ ap (λ (xs : List ℕ). front ∷ products_in xs) (sym rest), subst (λ (xs : List ℕ). length xs < length old) (sym rest) less)
given_front (Err e) old front back new less is text_is rest = tt

pub front_less : (old front back : List ℕ) → old ≡ front ++ back → IsHeaded front → length back < length old
front_less old front back is h = rw is (let full = headed_full front h in omega (arith, full, length-append front back))

-- what is held after a scan

pub found_trimmed : (bytes : List ℕ) (from at end : ℕ) → IsFound bytes from at end → IsTrimmed (drop from bytes) (drop at bytes)
found_trimmed bytes from at end f = (within bytes from at, f.3, drop_split bytes from at f.0)

pub found_held : (bytes : List ℕ) (from at end : ℕ) → IsFound bytes from at end → IsHeld bytes at end end true
found_held bytes from at end f =
    let lt : at < end = f.1 in
    record {
      from_seen = omega arith;
      seen_looked = omega arith;
      looked_all = f.2;
      quiet = subst IsQuiet (sym (range_none bytes end)) no_byte;
      none = λ h. cc;
      one = λ h. f.4;
    }

pub missed_trimmed : (bytes : List ℕ) (from at : ℕ) → IsNotFound bytes from at → IsTrimmed (drop from bytes) (drop at bytes)
missed_trimmed bytes from at f = (within bytes from at, f.2, drop_split bytes from at f.0)

pub missed_held : (bytes : List ℕ) (from at : ℕ) → IsNotFound bytes from at → IsHeld bytes at at (length bytes) false
missed_held bytes from at f = record {
  from_seen = omega arith;
  seen_looked = f.1;
  looked_all = omega arith;
  quiet = subst IsQuiet (sym (range_end bytes at)) f.3;
  none = λ h. refl;
  one = λ h. cc;
}

joined_headed : (bytes : List ℕ) (from seen at : ℕ) → from ≤ seen → seen ≤ at → IsHeaded (within bytes from seen) → IsPlain (within bytes seen at) → IsHeaded (within bytes from at)
joined_headed bytes from seen at le more h p = subst IsHeaded (sym (range_join bytes from seen at le more)) (headed_more (within bytes from seen) (within bytes seen at) h p)

pub advance_moves : (bytes : List ℕ) (from seen at end : ℕ) → from ≤ seen → IsHeaded (within bytes from seen) → IsFound bytes seen at end → Moves (drop from bytes) (Some (within bytes from at)) (drop at bytes)
advance_moves bytes from seen at end le h f =
    let more : seen ≤ at = f.0 in
    let lt : at < end = f.1 in
    let begun : IsBegun (drop at bytes) = (within bytes at end, drop end bytes, f.4, drop_split bytes at end (omega arith)) in
    (joined_headed bytes from seen at le more h f.3, begun, drop_split bytes from at (omega arith))

pub advance_held : (bytes : List ℕ) (from seen at : ℕ) (headed : Bool) → headed ≡ true → from ≤ seen → IsHeaded (within bytes from seen) → IsNotFound bytes seen at → IsHeld bytes from at (length bytes) headed
advance_held bytes from seen at headed is le h f =
    let more : seen ≤ at = f.0 in
    record {
      from_seen = omega arith;
      seen_looked = f.1;
      looked_all = omega arith;
      quiet = subst IsQuiet (sym (range_end bytes at)) f.3;
      none = λ g. (let e : true ≡ false = sym is ∙ g in cc);
      one = λ g. joined_headed bytes from seen at le more h f.2;
    }

pub advance_one : (bytes : List ℕ) (from seen at : ℕ) → from ≤ seen → IsHeaded (within bytes from seen) → IsNotFound bytes seen at → IsOne (drop from bytes)
advance_one bytes from seen at le h f =
    let more : seen ≤ at = f.0 in
    (within bytes from at, drop at bytes, joined_headed bytes from seen at le more h f.2, f.3, drop_split bytes from at (omega arith))

-- what is taken, with what was dropped in front

pub trimmed_none : (rest : List ℕ) → IsTrimmed rest rest
trimmed_none rest = ([], plain_none, refl)

pub trimmed_so : (old mid : List ℕ) → IsTrimmed old mid → Keeps old mid
trimmed_so old mid t more = ap (λ (xs : List ℕ). products_in (xs ++ more)) t.2 ∙ trimmed_keeps t.0 mid t.1 more

pub none_whole : (old mid : List ℕ) → IsTrimmed old mid → IsQuiet mid → TakesWhole old None mid
none_whole old mid t quiet = subst (λ (xs : List ℕ). TakesWhole xs None mid) (sym t.2) (waits_quiet t.0 mid t.1 quiet)

pub moved_whole : (old mid new : List ℕ) (text : Option (List ℕ)) → IsTrimmed old mid → Moves mid text new → TakesWhole old text new
moved_whole old mid new None t m = subst (λ (xs : List ℕ). TakesWhole old None xs) (sym m.0) (subst (λ (xs : List ℕ). TakesWhole xs None mid) (sym t.2) (waits_one t.0 mid t.1 m.1))
moved_whole old mid new (Some text) t m = subst (λ (xs : List ℕ). TakesWhole xs (Some text) new) (sym (t.2 ∙ ap (λ (xs : List ℕ). t.0 ++ xs) m.2)) (gives_whole t.0 text new t.1 m.0 m.1)

pub ok_whole : {E : Type 0} (r : Result (Option (List ℕ)) E) (old mid new : List ℕ) → IsTrimmed old mid → IfOk r (λ text. Moves mid text new) → IfOk r (λ text. TakesWhole old text new)
ok_whole (Ok text) old mid new t m = moved_whole old mid new text t m
ok_whole (Err e) old mid new t m = tt

pub err_keeps : {T E : Type 0} (r : Result T E) (old mid new : List ℕ) → IsTrimmed old mid → OnErr r (new ≡ mid) → OnErr r (Keeps old new)
err_keeps (Ok x) old mid new t same = tt
err_keeps (Err e) old mid new t same = subst (λ (xs : List ℕ). Keeps old xs) (sym same) (trimmed_so old mid t)

products_same : (old mid : List ℕ) → IsTrimmed old mid → products_in old ≡ products_in mid
products_same old mid t = last_keeps old mid (trimmed_so old mid t)

trimmed_less : (old mid new : List ℕ) → IsTrimmed old mid → length new < length mid → length new < length old
trimmed_less old mid new t less = rw t.2 (omega (arith, less, length-append t.0 mid))

last_so : (old mid new : List ℕ) (text : Option (List ℕ)) → IsTrimmed old mid → TakesLast mid text new → TakesLast old text new
last_so old mid new None t h = (products_same old mid t ∙ h.0, h.1)
last_so old mid new (Some text) t h = (products_same old mid t ∙ h.0, trimmed_less old mid new t h.1)

pub ok_last : {E : Type 0} (r : Result (Option (List ℕ)) E) (old mid new : List ℕ) → IsTrimmed old mid → IfOk r (λ text. TakesLast mid text new) → IfOk r (λ text. TakesLast old text new)
ok_last (Ok text) old mid new t h = last_so old mid new text t h
ok_last (Err e) old mid new t h = tt

pub moved_last : (old mid new text : List ℕ) → IsTrimmed old mid → Moves mid (Some text) new → TakesLast old (Some text) new
moved_last old mid new text t m = (
  products_same old mid t ∙ ap products_in (m.2 ∙ sym (append-nil (text ++ new))) ∙ comes_first text new m.0 m.1 [] ∙ ap (λ (xs : List ℕ). text ∷ products_in xs) (append-nil new),
  trimmed_less old mid new t (front_less mid text new m.2 m.0),
)

-- a state that kept its rest
pub trimmed_same : (old mid same : List ℕ) → IsTrimmed old mid → same ≡ mid → IsTrimmed old same
trimmed_same old mid same t is = subst (λ (xs : List ℕ). IsTrimmed old xs) (sym is) t

-- the next of the last products

pub some_last : (mid new : List ℕ) (text : Option (List ℕ)) → is_some text ≡ true → Moves mid text new → TakesLast mid text new
some_last mid new None is m = cc
some_last mid new (Some text) is m = moved_last mid mid new text (trimmed_none mid) m

pub none_same : (mid new : List ℕ) (text : Option (List ℕ)) → is_some text ≡ false → Moves mid text new → new ≡ mid
none_same mid new None is m = m.0
none_same mid new (Some text) is m = cc

pub none_is : (text : Option (List ℕ)) → is_some text ≡ false → text ≡ None
none_is None is = refl
none_is (Some text) is = cc

pub same_last : {E : Type 0} (r : Result (Option (List ℕ)) E) (old mid new : List ℕ) → mid ≡ old → IfOk r (λ text. TakesLast mid text new) → IfOk r (λ text. TakesLast old text new)
same_last r old mid new is h = subst (λ (xs : List ℕ). IfOk r (λ text. TakesLast xs text new)) is h

pub same_err : {T E : Type 0} (r : Result T E) (old mid new : List ℕ) → mid ≡ old → OnErr r (new ≡ mid) → OnErr r (new ≡ old)
same_err r old mid new is h = subst (λ (xs : List ℕ). OnErr r (new ≡ xs)) is h
