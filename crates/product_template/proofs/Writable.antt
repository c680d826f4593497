-- What is written for a plan keeps the line rules.
use Rattle.std.proofs.Common.{◌≡◌, ℕ, suc, ◌+◌, ◌==◌, ◌&&◌, ◌<◌, ◌≤◌, not, Bool, true, false, List, [], ◌∷◌, ◌++◌, length, take, drop, map, refl, ap, arith, Option, Some, None, nat_le}
use Rattle.std.specs.Prelude.{IsSome, IsTrue, slice_index_or}
use Rattle.std.specs.List.{All, AllByRecursion, list_all}
use Rattle.std.specs.Map.{values_of}
use Rattle.std.proofs.lemmas.Bool.{and_parts, and_from, eqb-true}
use Rattle.std.proofs.lemmas.List.Elements.{All-from_recursion, recursion_from_All}
use Rattle.hazard_types.specs.Calendar.{is_digit}
use Rattle.hazard_types.specs.Characters.{is_name_byte, is_printable, is_office}
use Rattle.hazard_types.specs.Names.{category_code}
use Rattle.hazard_types.specs.Places.{is_capital}
use Rattle.hazard_types.specs.declared.codes.Category.{Category}
use Rattle.hazard_types.specs.declared.codes.Category.TheVariants.{Wsw, Npw, Rfw, Cfw, Mww, Ffa, Flw, Fls}
use Rattle.hazard_types.specs.declared.codes.Class.{Class}
use Rattle.hazard_types.specs.declared.line.SegLine.{SegLine}
use Rattle.hazard_types.specs.declared.line.Segment.{Segment}
use Rattle.office_types.specs.declared.request.Edition.{Edition}
use Rattle.office_types.specs.declared.request.EventTexts.{EventTexts}
use Rattle.office_types.specs.declared.request.Plan.{Plan}
use Rattle.hazard_types.proofs.DayStamps.{day_is}
use Rattle.desk_settings.specs.Forms.{is_heading, is_site, is_office_line, is_line_byte, is_zone_name, begins_with_letter}
use Rattle.desk_settings.specs.Looking.{category_place, name_for_zone}
use Rattle.desk_settings.specs.declared.settings.Settings.{Settings}
use Rattle.segmenter.specs.Expiry.{expiry_of}
use Rattle.segmenter.proofs.ExpiryLow.{expiry_low}
use Rattle.product_frame.specs.Parts.{is_ttaaii, is_identifier}
use Rattle.product_frame.specs.LineRules.{IsOneLine, HasNoDigit, are_three, IsPairWritten, IsSegmentWritten, IsBody, ReadsBack, IsWritable}
use Rattle.product_frame.specs.Frame.{FrameOf}
use Rattle.product_frame.specs.Splitting.{IsOneProduct}
use Rattle.product_frame.proofs.ProductLines.{written_frame, written_one}
use Rattle.ugc_codes.proofs.Written.{all_both}
use Rattle.product_template.specs.Bodies.{is_training, body_of}
use Rattle.product_template.specs.Conditions.{CanBeWritten, CanBeSegment, ArePrintable, IsLetter, CanBeText}
use Rattle.product_template.specs.Text.{product_name, corrected, three_letters, pair_of, segment_of, frame_of, block_of, bodies_of, text_of}
use Rattle.product_template.proofs.BodyRules.{body_well}
use Rattle.product_template.proofs.Mild.{not_true}
use Rattle.product_template.proofs.Said.{IsLine, line_both, line_to, printable_line}

-- ---- the heading

place_low : (c : Category) → category_place c < 8
place_low Wsw = omega arith
place_low Npw = omega arith
place_low Rfw = omega arith
place_low Cfw = omega arith
place_low Mww = omega arith
place_low Ffa = omega arith
place_low Flw = omega arith
place_low Fls = omega arith

heading_at : (headings : List (List ℕ)) (c : Category) → length headings ≡ 8 → All (λ h. IsTrue (is_heading h)) headings → is_heading (slice_index_or headings (category_place c) []) ≡ true
heading_at headings c eight forms = let low = place_low c in forms (category_place c) [] (omega arith)

six_letters : (h : List ℕ) → length h ≡ 6 → list_all is_capital (take 4 h) ≡ true → list_all is_digit (drop 4 h) ≡ true → is_ttaaii h ≡ true
six_letters [] l x y = cc l
six_letters (a ∷ []) l x y = cc l
six_letters (a ∷ b ∷ []) l x y = cc l
six_letters (a ∷ b ∷ c ∷ []) l x y = cc l
six_letters (a ∷ b ∷ c ∷ d ∷ []) l x y = cc l
six_letters (a ∷ b ∷ c ∷ d ∷ e ∷ []) l x y = cc l
six_letters (a ∷ b ∷ c ∷ d ∷ e ∷ f ∷ []) l x y =
    let p1 = and_parts (is_capital a) (list_all is_capital (b ∷ c ∷ d ∷ [])) x in
    let p2 = and_parts (is_capital b) (list_all is_capital (c ∷ d ∷ [])) p1.1 in
    let p3 = and_parts (is_capital c) (list_all is_capital (d ∷ [])) p2.1 in
    let p4 = and_parts (is_capital d) true p3.1 in
    let q1 = and_parts (is_digit e) (list_all is_digit (f ∷ [])) y in
    let q2 = and_parts (is_digit f) true q1.1 in
    and_from _ _ (and_from _ _ (and_from _ _ (and_from _ _ (and_from _ _ p1.0 p2.0) p3.0) p4.0) q1.0) q2.0
six_letters (a ∷ b ∷ c ∷ d ∷ e ∷ f ∷ g ∷ r) l x y = let never : ⊥ = omega arith in absurd never

heading_parts : (h : List ℕ) → is_heading h ≡ true → (length h ≡ 6) × (is_ttaaii h ≡ true)
heading_parts h is =
    let a = and_parts ((length h == 6) && list_all is_capital (take 4 h)) (list_all is_digit (drop 4 h)) is in
    let b = and_parts (length h == 6) (list_all is_capital (take 4 h)) a.0 in
    let six : length h ≡ 6 = eqb-true (length h) 6 b.0 in
    (six, six_letters h six b.1 a.1)

letters_three : (letter : Option ℕ) → IsLetter letter → are_three (three_letters letter) ≡ true
letters_three None h = refl
letters_three (Some letter) h = rw h refl

-- ---- the identifier

site_named : (c : Category) (x y z : ℕ) → list_all is_name_byte (x ∷ y ∷ z ∷ []) ≡ true → is_identifier (category_code c ++ (x ∷ y ∷ z ∷ [])) ≡ true
site_named Wsw x y z h = h
site_named Npw x y z h = h
site_named Rfw x y z h = h
site_named Cfw x y z h = h
site_named Mww x y z h = h
site_named Ffa x y z h = h
site_named Flw x y z h = h
site_named Fls x y z h = h

site_three : (c : Category) (site : List ℕ) → length site ≡ 3 → list_all is_name_byte site ≡ true → is_identifier (category_code c ++ site) ≡ true
site_three c [] l h = cc l
site_three c (x ∷ []) l h = cc l
site_three c (x ∷ y ∷ []) l h = cc l
site_three c (x ∷ y ∷ z ∷ []) l h = site_named c x y z h
site_three c (x ∷ y ∷ z ∷ w ∷ r) l h = let never : ⊥ = omega arith in absurd never

identifier_is : (c : Category) (site : List ℕ) → is_site site ≡ true → is_identifier (category_code c ++ site) ≡ true
identifier_is c site h = let p = and_parts (length site == 3) (list_all is_name_byte site) h in site_three c site (eqb-true (length site) 3 p.0) p.1

-- ---- the block

abbrev no_digits : List ℕ → Bool
no_digits t = list_all (λ c. not (is_digit c)) t

digits_to : (t : List ℕ) → no_digits t ≡ true → HasNoDigit t
digits_to [] h = tt
digits_to (c ∷ t) h = let p = and_parts (not (is_digit c)) (no_digits t) h in (not_true (is_digit c) p.0, digits_to t p.1)

abbrev IsPlain : List ℕ → Type 0
IsPlain t = IsLine t × (no_digits t ≡ true)

name_plain : (c : Category) → IsPlain (product_name c)
name_plain Wsw = (refl, refl)
name_plain Npw = (refl, refl)
name_plain Rfw = (refl, refl)
name_plain Cfw = (refl, refl)
name_plain Mww = (refl, refl)
name_plain Ffa = (refl, refl)
name_plain Flw = (refl, refl)
name_plain Fls = (refl, refl)

corrected_plain : (letter : Option ℕ) → IsPlain (corrected letter)
corrected_plain None = (refl, refl)
corrected_plain (Some letter) = (refl, refl)

title_is : (c : Category) (letter : Option ℕ) → IsOneLine (product_name c ++ corrected letter) × HasNoDigit (product_name c ++ corrected letter)
title_is c letter =
    let a = name_plain c in
    let b = corrected_plain letter in (
      line_to (product_name c ++ corrected letter) (line_both (product_name c) (corrected letter) a.0 b.0),
      all_both (λ c. is_digit c ≡ false) (product_name c) (corrected letter) (digits_to (product_name c) a.1) (digits_to (corrected letter) b.1),
    )

line_parts : (t : List ℕ) → list_all is_line_byte t ≡ true → (list_all is_printable t ≡ true) × (no_digits t ≡ true)
line_parts [] h = (refl, refl)
line_parts (c ∷ t) h =
    let p = and_parts (is_line_byte c) (list_all is_line_byte t) h in
    let q = and_parts (is_printable c) (not (is_digit c)) p.0 in
    let r = line_parts t p.1 in
    (and_from _ _ q.0 r.0, and_from _ _ q.1 r.1)

office_line_is : (t : List ℕ) → is_office_line t ≡ true → IsOneLine t × HasNoDigit t
office_line_is t h =
    let p = and_parts (nat_le (length t) 66 && begins_with_letter t) (list_all is_line_byte t) h in
    let q = line_parts t p.1 in
    (line_to t (printable_line t q.0), digits_to t q.1)

-- ---- the segments

pairs_written : (class : Class) (office : List ℕ) (lines : List SegLine) → is_office office ≡ true → AllByRecursion CanBeWritten lines → AllByRecursion IsPairWritten (map (pair_of class office) lines)
pairs_written class office [] is h = tt
pairs_written class office (l ∷ lines) is h = (record { office = is; number = h.0.number; location = h.0.location }, pairs_written class office lines is h.1)

segment_written : (class : Class) (office : List ℕ) (t : ℕ) (s : Segment) → is_office office ≡ true → t ≤ 52000000 → CanBeSegment s → IsSegmentWritten (segment_of class office t s)
segment_written class office t s is le h =
    let low : expiry_of t s.lines ≤ t + 480 = expiry_low t s.lines in
    record {
      some = h.some;
      sorted = h.order;
      expiry = day_is (expiry_of t s.lines) (omega arith);
      pairs = All-from_recursion IsPairWritten (map (pair_of class office) s.lines) (pairs_written class office s.lines is (recursion_from_All CanBeWritten s.lines h.lines));
    }

segments_written : (class : Class) (office : List ℕ) (t : ℕ) (segments : List Segment) → is_office office ≡ true → t ≤ 52000000 → AllByRecursion CanBeSegment segments → AllByRecursion IsSegmentWritten (map (segment_of class office t) segments)
segments_written class office t [] is le h = tt
segments_written class office t (s ∷ segments) is le h = (segment_written class office t s is le h.0, segments_written class office t segments is le h.1)

-- ---- the bodies

abbrev HasNames : Settings → Segment → Type 0
HasNames settings s = All (λ z. IsSome (name_for_zone settings.zones z)) s.zones

bodies_well : (settings : Settings) (class : Class) (texts : List EventTexts) (t : ℕ) (edition : Edition) (segments : List Segment) → AllByRecursion (λ n. is_zone_name n ≡ true) (values_of settings.zones) → AllByRecursion CanBeSegment segments
    → (is_training class ≡ false → AllByRecursion (HasNames settings) segments) → AllByRecursion ArePrintable texts → AllByRecursion IsBody (map (body_of settings class texts t edition) segments)
bodies_well settings class texts t edition [] names h named printable = tt
bodies_well settings class texts t edition (s ∷ segments) names h named printable = (
  body_well settings class texts t edition s names h.0.some (λ e. recursion_from_All (λ z. IsSome (name_for_zone settings.zones z)) s.zones (named e).0) printable,
  bodies_well settings class texts t edition segments names h.1 (λ e. (named e).1) printable,
)

as_many : {X Y Z : Type 0} (f : X → Y) (g : X → Z) (xs : List X) → length (map f xs) ≡ length (map g xs)
as_many f g [] = refl
as_many f g (x ∷ xs) = ap suc (as_many f g xs)

pub writable : (settings : Settings) (class : Class) (plan : Plan) (texts : List EventTexts) (t : ℕ) (edition : Edition) → CanBeText settings class plan t → All ArePrintable texts
    → IsWritable (frame_of settings class plan t) (block_of settings plan t) (map (body_of settings class texts t edition) plan.segments)
writable settings class plan texts t edition can printable =
    let le : t ≤ 52000000 = can.minute in
    let forms = can.forms in
    let heading = heading_parts (slice_index_or settings.headings (category_place plan.category) []) (heading_at settings.headings plan.category forms.eight forms.heading_forms) in
    let segments = recursion_from_All CanBeSegment plan.segments can.segments in
    let names = recursion_from_All (λ n. is_zone_name n ≡ true) (values_of settings.zones) forms.name_forms in
    let each = recursion_from_All ArePrintable texts printable in
    record {
      heading = record { six = heading.0; ttaaii = heading.1; office = forms.office_form; day = day_is t (omega arith); letters = letters_three plan.bbb can.letter };
      minute = omega arith;
      near = (t, omega arith, omega arith, omega arith, refl);
      identifier = identifier_is plan.category settings.site forms.site_form;
      segments = All-from_recursion IsSegmentWritten _ (segments_written class settings.office t plan.segments forms.office_form le segments);
      each_body = All-from_recursion IsBody _ (bodies_well settings class texts t edition plan.segments names segments (λ e. recursion_from_All (HasNames settings) plan.segments (can.names e)) each);
      as_many = as_many (body_of settings class texts t edition) (segment_of class settings.office t) plan.segments;
      name = title_is plan.category plan.bbb;
      office_line = office_line_is settings.office_line forms.line_form;
      zone = settings.zone;
      local = refl;
    }

pub text_framed : (settings : Settings) (class : Class) (plan : Plan) (t : ℕ) (edition : Edition) → CanBeText settings class plan t → All ReadsBack (map (segment_of class settings.office t) plan.segments)
    → FrameOf (text_of settings class plan t edition) (frame_of settings class plan t)
unfolding text_of
text_framed settings class plan t edition can back =
    written_frame (text_of settings class plan t edition) (frame_of settings class plan t) (block_of settings plan t) (bodies_of settings class plan t edition) (writable settings class plan plan.texts t edition can can.texts) back refl

pub text_alone : (settings : Settings) (class : Class) (plan : Plan) (t : ℕ) (edition : Edition) → CanBeText settings class plan t → All ReadsBack (map (segment_of class settings.office t) plan.segments)
    → IsOneProduct (text_of settings class plan t edition)
unfolding text_of
text_alone settings class plan t edition can back =
    written_one (text_of settings class plan t edition) (frame_of settings class plan t) (block_of settings plan t) (bodies_of settings class plan t edition) (writable settings class plan plan.texts t edition can can.texts) back refl
