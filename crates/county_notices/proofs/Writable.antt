-- What is written for a notice keeps the line rules.
use Rattle.std.proofs.Common.{◌≡◌, ℕ, suc, ◌+◌, ◌==◌, ◌≤◌, not, Bool, true, false, List, [], ◌∷◌, ◌++◌, length, drop, map, refl, ap, arith, None, codes}
use Rattle.std.specs.List.{All, AllByRecursion, list_all}
use Rattle.std.proofs.lemmas.Bool.{and_parts, eqb-true, not-true}
use Rattle.std.proofs.lemmas.List.Elements.{All-from_recursion, recursion_from_All}
use Rattle.hazard_types.specs.Calendar.{is_digit}
use Rattle.hazard_types.specs.Characters.{is_name_byte, is_office}
use Rattle.hazard_types.specs.declared.line.SegLine.{SegLine}
use Rattle.hazard_types.specs.declared.line.Segment.{Segment}
use Rattle.hazard_types.proofs.DayStamps.{day_is}
use Rattle.segmenter.specs.Expiry.{expiry_of}
use Rattle.segmenter.proofs.ExpiryLow.{expiry_low}
use Rattle.product_frame.specs.Parts.{heading_of, is_identifier}
use Rattle.product_frame.specs.LineRules.{HasLocation, IsBody, IsPairWritten, IsSegmentWritten, IsWritable}
use Rattle.notice_json.specs.declared.command.Watch.{Watch}
use Rattle.notice_json.specs.declared.command.Watch.TheVariants.{Tornado, Thunderstorm}
use Rattle.county_notices.specs.Notices.{IsPlainSegment, block_of, body_of, frame_of, pair_of, segment_of}
use Rattle.county_notices.specs.declared.issuer.Issuer.{Issuer}

-- ---- the identifier

site_is : (office : List ℕ) → length office ≡ 4 → list_all is_name_byte office ≡ true → is_identifier (codes "WCN" ++ drop 1 office) ≡ true
site_is [] l h = cc l
site_is (a ∷ []) l h = cc l
site_is (a ∷ b ∷ []) l h = cc l
site_is (a ∷ b ∷ c ∷ []) l h = cc l
site_is (a ∷ b ∷ c ∷ d ∷ []) l h = (and_parts (is_name_byte a) (list_all is_name_byte (b ∷ c ∷ d ∷ [])) h).1
site_is (a ∷ b ∷ c ∷ d ∷ e ∷ r) l h = let never : ⊥ = omega arith in absurd never

identifier_is : (office : List ℕ) → is_office office ≡ true → is_identifier (codes "WCN" ++ drop 1 office) ≡ true
identifier_is office h = let p = and_parts (length office == 4) (list_all is_name_byte office) h in site_is office (eqb-true (length office) 4 p.0) p.1

-- ---- the block

none_is : (f : ℕ → Bool) (t : List ℕ) → list_all (λ c. not (f c)) t ≡ true → AllByRecursion (λ c. f c ≡ false) t
none_is f [] h = tt
none_is f (c ∷ t) h = let p = and_parts (not (f c)) (list_all (λ c. not (f c)) t) h in (not-true (f c) p.0, none_is f t p.1)

-- ---- the segments

abbrev IsPlain : SegLine → Type 0
IsPlain l = (l.event.etn ≤ 9999) × (l.flood ≡ None)

no_location : (l : SegLine) → l.flood ≡ None → HasLocation l.flood
no_location l none = rw none tt

pairs_written : (office : List ℕ) (lines : List SegLine) → is_office office ≡ true → AllByRecursion IsPlain lines → AllByRecursion IsPairWritten (map (pair_of office) lines)
pairs_written office [] is h = tt
pairs_written office (l ∷ lines) is h = (record { office = is; number = h.0.0; location = no_location l h.0.1 }, pairs_written office lines is h.1)

segment_written : (office : List ℕ) (t : ℕ) (s : Segment) → is_office office ≡ true → t ≤ 52000000 → IsPlainSegment s → IsSegmentWritten (segment_of office t s)
segment_written office t s is le h =
    let low : expiry_of t s.lines ≤ t + 480 = expiry_low t s.lines in
    record {
      some = h.some;
      sorted = h.order;
      expiry = day_is (expiry_of t s.lines) (omega arith);
      pairs = All-from_recursion IsPairWritten (map (pair_of office) s.lines) (pairs_written office s.lines is (recursion_from_All IsPlain s.lines h.lines));
    }

segments_written : (office : List ℕ) (t : ℕ) (segments : List Segment) → is_office office ≡ true → t ≤ 52000000 → AllByRecursion IsPlainSegment segments → AllByRecursion IsSegmentWritten (map (segment_of office t) segments)
segments_written office t [] is le h = tt
segments_written office t (s ∷ segments) is le h = (segment_written office t s is le h.0, segments_written office t segments is le h.1)

-- ---- the bodies

body_well : (watch : Watch) (s : Segment) → IsBody (body_of watch s)
unfolding heading_of
body_well Tornado s = record { no_slash = refl; names = tt; text = ((refl, refl), ((refl, refl), tt)); ended = refl }
body_well Thunderstorm s = record { no_slash = refl; names = tt; text = ((refl, refl), ((refl, refl), tt)); ended = refl }

bodies_well : (watch : Watch) (segments : List Segment) → AllByRecursion IsBody (map (body_of watch) segments)
bodies_well watch [] = tt
bodies_well watch (s ∷ segments) = (body_well watch s, bodies_well watch segments)

as_many : {X Y Z : Type 0} (f : X → Y) (g : X → Z) (xs : List X) → length (map f xs) ≡ length (map g xs)
as_many f g [] = refl
as_many f g (x ∷ xs) = ap suc (as_many f g xs)

pub writable : (by : Issuer) (t : ℕ) (watch : Watch) (segments : List Segment) → t ≤ 52000000 → is_office by.office ≡ true → All IsPlainSegment segments →
    IsWritable (frame_of by t segments) (block_of by t) (map (body_of watch) segments)
writable by t watch segments le office plain = record {
  heading = record { six = refl; ttaaii = refl; office = office; day = day_is t (omega arith); letters = refl };
  minute = omega arith;
  near = (t, omega arith, omega arith, omega arith, refl);
  identifier = identifier_is by.office office;
  segments = All-from_recursion IsSegmentWritten _ (segments_written by.office t segments office le (recursion_from_All IsPlainSegment segments plain));
  each_body = All-from_recursion IsBody _ (bodies_well watch segments);
  as_many = as_many (body_of watch) (segment_of by.office t) segments;
  name = (none_is (λ c. c == 10) (codes "WATCH COUNTY NOTIFICATION") refl, none_is is_digit (codes "WATCH COUNTY NOTIFICATION") refl);
  office_line = (none_is (λ c. c == 10) (codes "National Weather Service") refl, none_is is_digit (codes "National Weather Service") refl);
  zone = by.zone;
  local = refl;
}
