-- A segment as it is written reads as the segment.
use Rattle.std.proofs.Common.{◌≡◌, ℕ, ◌+◌, ◌≤◌, ◌==◌, ◌&&◌, Bool, true, false, List, [], ◌∷◌, ◌++◌, length, take, drop, refl, ap, sym, ◌∙◌, subst, arith, inl, inr, Option, Some, None, append_assoc, length-append, drop_at, take_at, codes}
use Rattle.std.specs.Prelude.{slice_index, nat_le}
use Rattle.std.specs.List.{AllByRecursion}
use Rattle.std.proofs.lemmas.Bool.{cases_Bool, and_right, and_from, le-leb, ne_eqb, false≢true}
use Rattle.hazard_types.specs.Places.{is_capital}
use Rattle.ugc_codes.specs.Grammar.{IsUgc}
use Rattle.ugc_codes.specs.Written.{ugc_text}
use Rattle.hazard_types.specs.declared.line.Flood.{Flood}
use Rattle.vtec_string.specs.Columns.{IsVtec, vtec_text}
use Rattle.hvtec_string.specs.Columns.{IsHvtec, hvtec_text}
use Rattle.product_frame.specs.Text.{starts_from, line_of, before, is_left_out, is_empty, line_end_count}
use Rattle.product_frame.specs.Parts.{heading_of, begins, has_slash, is_end}
use Rattle.product_frame.specs.Frames.{line_at}
use Rattle.product_frame.specs.Grammar.{AreOutside, HasFlood, AreEvents, HasNoSlash, IsSegment, AreSegments}
use Rattle.product_frame.specs.Layout.{ended, flood_text, pairs_text, names_text, body_text, segment_text, segments_text}
use Rattle.product_frame.specs.LineRules.{IsOneLine, lines_in, IsSegmentWritten, IsBodyLine, IsBody, HasFloodColumns, HasColumns, ReadsBack}
use Rattle.product_frame.specs.declared.frame.Pair.{Pair}
use Rattle.product_frame.specs.declared.frame.FrameSegment.{FrameSegment}
use Rattle.product_frame.specs.declared.write.Body.{Body}
use Rattle.ugc_codes.proofs.Written.{all_both}
use Rattle.product_frame.proofs.Runs.{all_weaker, all_from, starting, start_moved, starts_behind, as_many_ends, behind, Runs, run_none, run_both, run_line, run_text, run_ended, ended_behind, next_line, lines_have}
use Rattle.product_frame.proofs.LineKinds.{no_blank_no_heading, no_heading_first, no_heading_length, no_capital_begins, digit_no_capital}
use Rattle.product_frame.proofs.LocalLines.{BeginsWithDigit}
use Rattle.product_frame.proofs.UgcLines.{NoBlank, ugc_clear, ugc_begins}
use Rattle.product_frame.proofs.VtecLines.{vtec_line, vtec_whole}
use Rattle.product_frame.proofs.FloodLines.{hvtec_line, hvtec_whole}

abbrev pub BeginsNone : List ℕ → Type 0
BeginsNone line = begins line ≡ false

abbrev pub EndsNone : List ℕ → Type 0
EndsNone line = is_end line ≡ false

abbrev pub HeadsNone : List ℕ → Type 0
HeadsNone line = heading_of line ≡ None

-- what is needed of a local line
pub record IsLocal (local : List ℕ) : Type 0 where
  pub line : IsOneLine local
  pub whole : line_of local ≡ local
  pub first : BeginsWithDigit local

no_capital : (t : List ℕ) → BeginsWithDigit t → is_capital (slice_index t 0) ≡ false
no_capital t h = ap (λ (x : List ℕ). is_capital (slice_index x 0)) h.2 ∙ digit_no_capital h.0 h.4

middle_none : (a b c : Bool) → b ≡ false → (a && b && c) ≡ false
middle_none false b c h = refl
middle_none true b c h = rw h refl

pub local_begins_none : (local : List ℕ) → IsLocal local → BeginsNone (line_of local)
local_begins_none local l = ap begins l.whole ∙ no_capital_begins local (no_capital local l.first)

pub local_heads_none : (local : List ℕ) → IsLocal local → HeadsNone (line_of local)
local_heads_none local l = ap heading_of l.whole ∙ no_heading_first local (no_capital local l.first)

local_ends_none : (local : List ℕ) → IsLocal local → EndsNone (line_of local)
local_ends_none local l =
    let f = l.first in
    let le : 48 ≤ f.0 = f.3 in
    let ne : (f.0 == 36) ≡ false = ne_eqb _ _ (λ (e : f.0 ≡ 36). omega arith) in
    ap is_end (l.whole ∙ f.2) ∙ middle_none (length (f.0 ∷ f.1) == 2) (f.0 == 36) (slice_index (f.0 ∷ f.1) 1 == 36) ne

-- ---- the first line behind the pairs

no_slash_kept : (c : ℕ) (line : List ℕ) → (c == 47) ≡ false → has_slash (before c line) ≡ false
no_slash_kept c line h = elim (cases_Bool (is_empty line && is_left_out c)) [ inl e ↦ rw e refl | inr e ↦ rw e (and_right (nat_le 1 (length (c ∷ line))) (c == 47) h) ]

no_slash_first : (c : ℕ) (r : List ℕ) → (c == 47) ≡ false → has_slash (line_of (c ∷ r)) ≡ false
no_slash_first c r h = elim (cases_Bool (c == 10)) [ inl e ↦ rw e refl | inr e ↦ rw e (no_slash_kept c (line_of r) h) ]

slash_off : (c : ℕ) (names : List ℕ) → has_slash (c ∷ names) ≡ false → (c == 47) ≡ false
slash_off c names h = elim (cases_Bool (c == 47)) [
  | inl e ↦ absurd (false≢true (sym h ∙ and_from (nat_le 1 (length (c ∷ names))) (c == 47) (le-leb 1 (length (c ∷ names)) (omega arith)) e))
  | inr e ↦ e
]

no_slash_names : (names tail : List ℕ) → has_slash names ≡ false → has_slash (line_of tail) ≡ false → has_slash (line_of (names_text names ++ tail)) ≡ false
no_slash_names [] tail h k = k
no_slash_names (c ∷ names) tail h k = no_slash_first c ((names ++ 10 ∷ []) ++ tail) (slash_off c names h)

no_slash_local : (local tail rest : List ℕ) → IsLocal local → has_slash (line_of ((ended local ++ tail) ++ rest)) ≡ false
no_slash_local local tail rest l =
    let f = l.first in
    let le : 48 ≤ f.0 = f.3 in
    let ne : (f.0 == 47) ≡ false = ne_eqb _ _ (λ (e : f.0 ≡ 47). omega arith) in
    ap (λ (x : List ℕ). has_slash (line_of ((ended x ++ tail) ++ rest))) f.2 ∙ no_slash_first f.0 (((f.1 ++ 10 ∷ []) ++ tail) ++ rest) ne

no_slash_behind : (local : List ℕ) (body : Body) (rest : List ℕ) → IsLocal local → IsBody body → has_slash (line_of (body_text local body ++ rest)) ≡ false
no_slash_behind local body rest l is =
    let tail = ended [] ++ body.text in
    ap (λ (x : List ℕ). has_slash (line_of x)) (append_assoc (names_text body.names) (ended local ++ tail) rest)
    ∙ no_slash_names body.names ((ended local ++ tail) ++ rest) is.no_slash (no_slash_local local tail rest l)

names_run : (Q : List ℕ → Type 0) (names : List ℕ) → AllByRecursion (λ l. Q (line_of l)) (lines_in (names_text names)) → Runs Q (names_text names)
names_run Q [] h = run_none Q
names_run Q (c ∷ names) h = run_ended Q (c ∷ names) h

pub body_run : (Q : List ℕ → Type 0) (local : List ℕ) (body : Body) → IsLocal local → Q (line_of local) → Q [] →
    AllByRecursion (λ l. Q (line_of l)) (lines_in (names_text body.names)) → AllByRecursion (λ l. Q (line_of l)) (lines_in body.text) → IsBody body → Runs Q (body_text local body)
body_run Q local body l ql qe qn qt is =
    run_both Q (names_text body.names) (ended local ++ (ended [] ++ body.text)) (names_run Q body.names qn)
    (run_both Q (ended local) (ended [] ++ body.text) (run_line Q local l.line ql)
    (run_both Q (ended []) body.text (run_line Q [] tt qe) (run_text Q 10 body.text is.ended qt)))

-- ---- the pairs

-- the line of flood values stands where it is written
flood_stands : (f : Option Flood) → HasFloodColumns f → (p : List ℕ) (at : ℕ) (rest : List ℕ) → drop at p ≡ flood_text f ++ rest →
    (places : List ℕ) × (starting at (flood_text f ++ rest) ≡ places ++ starting (at + length (flood_text f)) rest) × HasFlood p places f
flood_stands None v p at rest h = ([], start_moved at (at + 0) rest (omega arith), tt)
flood_stands (Some f) v p at rest h =
    let t = hvtec_text f in
    let n = next_line p t rest at (hvtec_line f v) h in
    (at ∷ [], ap (λ (xs : List ℕ). at ∷ xs) n.0, subst (λ (l : List ℕ). IsHvtec l f) (sym (n.1 ∙ hvtec_whole f v)) v)

three_parts : (whole a b rest more last : List ℕ) → whole ≡ more → more ≡ a ++ last → last ≡ b ++ rest → whole ≡ (a ++ b) ++ rest
three_parts whole a b rest more last e f g = e ∙ f ∙ ap (λ (xs : List ℕ). a ++ xs) g ∙ sym (append_assoc a b rest)

pairs_stand : (pairs : List Pair) → AllByRecursion HasColumns pairs → (p : List ℕ) (at : ℕ) (rest : List ℕ) → drop at p ≡ pairs_text pairs ++ rest →
    (places : List ℕ) × (starting at (pairs_text pairs ++ rest) ≡ places ++ starting (at + length (pairs_text pairs)) rest) × AreEvents p places pairs
pairs_stand [] v p at rest h = ([], start_moved at (at + 0) rest (omega arith), refl)
pairs_stand (q ∷ pairs) v p at rest h =
    let t = vtec_text q.vtec in
    let f = flood_text q.flood in
    let more = pairs_text pairs in
    let apart : (ended t ++ (f ++ more)) ++ rest ≡ ended t ++ (f ++ (more ++ rest)) = append_assoc (ended t) (f ++ more) rest ∙ ap (λ (x : List ℕ). ended t ++ x) (append_assoc f more rest) in
    let ha : drop at p ≡ ended t ++ (f ++ (more ++ rest)) = h ∙ apart in
    let n = next_line p t (f ++ (more ++ rest)) at (vtec_line q.vtec v.0.0) ha in
    let at1 = at + length (ended t) in
    let h1 : drop at1 p ≡ f ++ (more ++ rest) = behind p (ended t) (f ++ (more ++ rest)) at ha in
    let z = flood_stands q.flood v.0.1 p at1 (more ++ rest) h1 in
    let at2 = at1 + length f in
    let y = pairs_stand pairs v.1 p at2 rest (behind p f (more ++ rest) at1 h1) in
    let e : at2 + length more ≡ at + length (ended t ++ (f ++ more)) = omega (arith, length-append (ended t) (f ++ more), length-append f more) in
    let line : line_at p at ≡ t = n.1 ∙ vtec_whole q.vtec v.0.0 in
    let end = at + length (ended t ++ (f ++ more)) in
    let later : starting at2 (more ++ rest) ≡ y.0 ++ starting end rest = y.1 ∙ ap (λ (xs : List ℕ). y.0 ++ xs) (start_moved _ _ rest e) in
    let next : starts_from at (ended t ++ (f ++ (more ++ rest))) ≡ (z.0 ++ y.0) ++ starting end rest = three_parts _ z.0 y.0 (starting end rest) _ _ n.0 z.1 later in (
      at ∷ (z.0 ++ y.0),
      ap (starting at) apart ∙ ap (λ (xs : List ℕ). at ∷ xs) next,
      (y.0, record { at = at; next = z.0; whole = refl; vtec = subst (λ (l : List ℕ). IsVtec l q.vtec) (sym line) v.0.0; flood = z.2 }, y.2),
    )

flood_heads_none : (f : Option Flood) → HasFloodColumns f → Runs HeadsNone (flood_text f)
unfolding hvtec_text
flood_heads_none None v = run_none HeadsNone
flood_heads_none (Some f) v = run_line HeadsNone (hvtec_text f) (hvtec_line f v) (ap heading_of (hvtec_whole f v) ∙ no_heading_first (hvtec_text f) refl)

pairs_heads_none : (pairs : List Pair) → AllByRecursion HasColumns pairs → Runs HeadsNone (pairs_text pairs)
unfolding vtec_text
pairs_heads_none [] v = run_none HeadsNone
pairs_heads_none (q ∷ pairs) v =
    let t = vtec_text q.vtec in
    run_both HeadsNone (ended t) (flood_text q.flood ++ pairs_text pairs) (run_line HeadsNone t (vtec_line q.vtec v.0.0) (ap heading_of (vtec_whole q.vtec v.0.0) ∙ no_heading_first t refl))
    (run_both HeadsNone (flood_text q.flood) (pairs_text pairs) (flood_heads_none q.flood v.0.1) (pairs_heads_none pairs v.1))

-- ---- one segment

pub record IsSound (g : FrameSegment) (body : Body) : Type 0 where
  pub written : IsSegmentWritten g
  pub typed : ReadsBack g
  pub well : IsBody body

body_lines : (body : Body) (t : List ℕ) → AllByRecursion IsBodyLine (lines_in t) → AllByRecursion (λ l. EndsNone (line_of l)) (lines_in t) × AllByRecursion (λ l. HeadsNone (line_of l)) (lines_in t)
body_lines body t h = (all_weaker IsBodyLine (λ l. EndsNone (line_of l)) (λ l x. x.0) (lines_in t) h, all_weaker IsBodyLine (λ l. HeadsNone (line_of l)) (λ l x. x.1) (lines_in t) h)

body_ends_none : (local : List ℕ) (body : Body) → IsLocal local → IsBody body → Runs EndsNone (body_text local body)
body_ends_none local body l is = body_run EndsNone local body l (local_ends_none local l) refl (body_lines body (names_text body.names) is.names).0 (body_lines body body.text is.text).0 is

empty_heads_none : HeadsNone []
empty_heads_none = no_heading_length [] (omega arith)

end_heads_none : HeadsNone (line_of (codes "$$"))
end_heads_none = no_heading_length (codes "$$") (omega arith)

body_heads_none : (local : List ℕ) (body : Body) → IsLocal local → IsBody body → Runs HeadsNone (body_text local body)
body_heads_none local body l is = body_run HeadsNone local body l (local_heads_none local l) empty_heads_none (body_lines body (names_text body.names) is.names).1 (body_lines body body.text is.text).1 is

ugc_heads_none : (g : FrameSegment) → ReadsBack g → Runs HeadsNone (ended (ugc_text g.zones g.expiry))
ugc_heads_none g ty =
    let t = ugc_text g.zones g.expiry in
    let clear : AllByRecursion NoBlank (ended t) = all_both NoBlank t (10 ∷ []) (ugc_clear (t ++ []) g.zones g.expiry (length t) (ty.0 [])) (refl, tt) in
    run_ended HeadsNone t (all_weaker (AllByRecursion NoBlank) (λ l. HeadsNone (line_of l)) no_blank_no_heading (lines_in (ended t)) (lines_have NoBlank (ended t) clear))

pub segment_heads_none : (local : List ℕ) (g : FrameSegment) (body : Body) → IsLocal local → IsSound g body → Runs HeadsNone (segment_text local g body)
segment_heads_none local g body l s =
    let u = ended (ugc_text g.zones g.expiry) in
    let b = body_text local body in
    let d = ended (codes "$$") in
    run_both HeadsNone u (pairs_text g.pairs ++ (b ++ d)) (ugc_heads_none g s.typed)
    (run_both HeadsNone (pairs_text g.pairs) (b ++ d) (pairs_heads_none g.pairs (all_from HasColumns g.pairs s.typed.1))
    (run_both HeadsNone b d (body_heads_none local body l s.well) (run_line HeadsNone (codes "$$") (refl, (refl, tt)) end_heads_none)))

abbrev pub Stands : (p : List ℕ) (at : ℕ) (lines : List ℕ) (g : FrameSegment) (later : List ℕ) → Type 0
Stands p at lines g later = (end : ℕ) × (drop end p ≡ later) × IsSegment p lines g (starting end later)

stands : (p front local : List ℕ) (g : FrameSegment) (body : Body) (at : ℕ) (later : List ℕ) → Runs BeginsNone front → IsLocal local → IsSound g body →
    drop at p ≡ front ++ (ended (ugc_text g.zones g.expiry) ++ (pairs_text g.pairs ++ (body_text local body ++ (ended (codes "$$") ++ later)))) →
    Stands p at (starting at (front ++ (ended (ugc_text g.zones g.expiry) ++ (pairs_text g.pairs ++ (body_text local body ++ (ended (codes "$$") ++ later)))))) g later
stands p front local g body at later run l s h =
    let ugc = ugc_text g.zones g.expiry in
    let b = body_text local body in
    let d = ended (codes "$$") in
    let r3 = d ++ later in
    let r2 = b ++ r3 in
    let r1 = pairs_text g.pairs ++ r2 in
    let a = run p at (ended ugc ++ r1) h in
    let at1 = at + length front in
    let h1 : drop at1 p ≡ ended ugc ++ r1 = behind p front (ended ugc ++ r1) at h in
    let text : drop at1 p ≡ ugc ++ 10 ∷ r1 = h1 ∙ ended_behind ugc r1 in
    let at2 = at1 + length (ended ugc) in
    let seam : at1 + length ugc + 1 ≡ at2 = omega (arith, length-append ugc (10 ∷ [])) in
    let more = starts_from at1 ugc in
    let begun : starts_from at1 (ended ugc ++ r1) ≡ more ++ starting at2 r1 = ap (starts_from at1) (ended_behind ugc r1) ∙ starts_behind ugc (10 ∷ r1) at1 ∙ ap (λ (xs : List ℕ). more ++ xs) (start_moved _ _ r1 seam) in
    let h2 : drop at2 p ≡ r1 = behind p (ended ugc) r1 at1 h1 in
    let e = pairs_stand g.pairs (all_from HasColumns g.pairs s.typed.1) p at2 r2 h2 in
    let at3 = at2 + length (pairs_text g.pairs) in
    let h3 : drop at3 p ≡ r2 = behind p (pairs_text g.pairs) r2 at2 h2 in
    let o = body_ends_none local body l s.well p at3 r3 h3 in
    let at4 = at3 + length b in
    let h4 : drop at4 p ≡ r3 = behind p b r3 at3 h3 in
    let n = next_line p (codes "$$") later at4 (refl, (refl, tt)) h4 in
    let end = at4 + length d in
    let tail : starting at3 r2 ≡ o.0 ++ at4 ∷ starting end later = o.1 ∙ ap (λ (xs : List ℕ). o.0 ++ at4 ∷ xs) n.0 in
    let back = s.typed.0 in
    let slash : has_slash (line_at p at3) ≡ false = ap (λ (x : List ℕ). has_slash (line_of x)) h3 ∙ no_slash_behind local body r3 l s.well in (
      end,
      behind p d later at4 h4,
      record {
        outside = a.0;
        start = at1;
        ugc = more;
        events = e.0;
        others = o.0;
        end = at4;
        used = length ugc;
        whole = a.1 ∙ ap (λ (xs : List ℕ). a.0 ++ at1 ∷ xs) (begun ∙ ap (λ (xs : List ℕ). more ++ xs) (e.1 ∙ ap (λ (xs : List ℕ). e.0 ++ xs) tail));
        passed = a.2;
        begun = ap (λ (x : List ℕ). begins (line_of x)) text ∙ ugc_begins (ugc ++ 10 ∷ r1) g.zones g.expiry (length ugc) (back (10 ∷ r1));
        zones = subst (λ (x : List ℕ). IsUgc x g.zones g.expiry (length ugc)) (sym text) (back (10 ∷ r1));
        fills = ap (λ (x : List ℕ). is_empty (line_of (drop (length ugc) x))) text ∙ ap (λ (x : List ℕ). is_empty (line_of x)) (drop_at ugc (10 ∷ r1) (length ugc) refl);
        more = as_many_ends ugc at1 ∙ sym (ap (λ (x : List ℕ). line_end_count (take (length ugc) x)) text ∙ ap line_end_count (take_at ugc (10 ∷ r1) (length ugc) refl));
        pairs = e.2;
        behind = subst (HasNoSlash p) tail slash;
        rest = o.2;
        ended = ap is_end n.1;
      },
    )

regroup : (u e b d later : List ℕ) → (u ++ (e ++ (b ++ d))) ++ later ≡ u ++ (e ++ (b ++ (d ++ later)))
regroup u e b d later = append_assoc u (e ++ (b ++ d)) later ∙ ap (λ (x : List ℕ). u ++ x) (append_assoc e (b ++ d) later ∙ ap (λ (x : List ℕ). e ++ x) (append_assoc b d later))

segment_stands : (p front local : List ℕ) (g : FrameSegment) (body : Body) (at : ℕ) (later : List ℕ) → Runs BeginsNone front → IsLocal local → IsSound g body →
    drop at p ≡ front ++ (segment_text local g body ++ later) → Stands p at (starting at (front ++ (segment_text local g body ++ later))) g later
segment_stands p front local g body at later run l s h =
    let e = regroup (ended (ugc_text g.zones g.expiry)) (pairs_text g.pairs) (body_text local body) (ended (codes "$$")) later in
    subst (λ (x : List ℕ). Stands p at (starting at (front ++ x)) g later) (sym e) (stands p front local g body at later run l s (h ∙ ap (λ (x : List ℕ). front ++ x) e))

-- ---- all segments

abbrev pub AreSound : List FrameSegment → List Body → Type 0
AreSound [] bodies = Unit {0}
AreSound (g ∷ segments) [] = ⊥
AreSound (g ∷ segments) (body ∷ bodies) = IsSound g body × AreSound segments bodies

empty_run : Runs BeginsNone (ended [])
empty_run = run_line BeginsNone [] tt refl

pub segments_stand : (local : List ℕ) → IsLocal local → (segments : List FrameSegment) (bodies : List Body) → AreSound segments bodies → (p front : List ℕ) (at : ℕ) → Runs BeginsNone front →
    drop at p ≡ front ++ segments_text local segments bodies → AreSegments p (starting at (front ++ segments_text local segments bodies)) segments
segments_stand local l [] bodies s p front at run h =
    let r = run p at [] h in
    let none : begins (line_at p (at + length front)) ≡ false = ap (λ (x : List ℕ). begins (line_of x)) (behind p front [] at h) in
    subst (AreOutside p) (sym r.1) (all_both (λ k. BeginsNone (line_at p k)) r.0 (starting (at + length front) []) r.2 (none, tt))
segments_stand local l (g ∷ segments) [] s p front at run h = absurd s
segments_stand local l (g ∷ segments) (body ∷ bodies) s p front at run h =
    let later = ended [] ++ segments_text local segments bodies in
    let x = segment_stands p front local g body at later run l s.0 h in
    (starting x.0 later, x.2, segments_stand local l segments bodies s.1 p (ended []) x.0 empty_run x.1)

pub segments_heads_none : (local : List ℕ) → IsLocal local → (segments : List FrameSegment) (bodies : List Body) → AreSound segments bodies → Runs HeadsNone (segments_text local segments bodies)
segments_heads_none local l [] bodies s = run_none HeadsNone
segments_heads_none local l (g ∷ segments) [] s = absurd s
segments_heads_none local l (g ∷ segments) (body ∷ bodies) s =
    run_both HeadsNone (segment_text local g body) (ended [] ++ segments_text local segments bodies) (segment_heads_none local g body l s.0)
    (run_both HeadsNone (ended []) (segments_text local segments bodies) (run_line HeadsNone [] tt empty_heads_none) (segments_heads_none local l segments bodies s.1))

pub sound_from : (segments : List FrameSegment) (bodies : List Body) → length bodies ≡ length segments → AllByRecursion IsSegmentWritten segments → AllByRecursion ReadsBack segments → AllByRecursion IsBody bodies → AreSound segments bodies
sound_from [] bodies e w t b = tt
sound_from (g ∷ segments) [] e w t b = absurd (omega arith)
sound_from (g ∷ segments) (body ∷ bodies) e w t b = (record { written = w.0; typed = t.0; well = b.0 }, sound_from segments bodies (omega arith) w.1 t.1 b.1)
