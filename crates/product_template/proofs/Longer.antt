-- A text is longer than without forecasters' texts by the bullets of these.
use Rattle.std.proofs.Common.{◌≡◌, ℕ, ◌+◌, List, [], ◌∷◌, ◌++◌, length, map, refl, inl, inr, Option, Some, None, codes, arith, length-append, ◌∙◌, Result, Ok, Err, IfOk}
use Rattle.std.proofs.lemmas.Bool.{cases_Bool}
use Rattle.hazard_types.specs.Same.{same_event}
use Rattle.hazard_types.specs.declared.codes.Class.{Class}
use Rattle.hazard_types.specs.declared.codes.LocalZone.{LocalZone}
use Rattle.hazard_types.specs.declared.hazard.Event.{Event}
use Rattle.hazard_types.specs.declared.line.SegLine.{SegLine}
use Rattle.hazard_types.specs.declared.line.Segment.{Segment}
use Rattle.office_types.specs.declared.request.Edition.{Edition}
use Rattle.office_types.specs.declared.request.EventTexts.{EventTexts}
use Rattle.office_types.specs.declared.request.Plan.{Plan}
use Rattle.office_types.specs.declared.request.Texts.{Texts}
use Rattle.desk_settings.specs.declared.settings.Settings.{Settings}
use Rattle.product_frame.specs.Layout.{ended, heading_text, pairs_text, names_text, segment_text, segments_text, block_text}
use Rattle.ugc_codes.specs.Written.{ugc_text}
use Rattle.product_frame.specs.declared.frame.FrameSegment.{FrameSegment}
use Rattle.product_template.specs.Bodies.{names_text as names_of, closed, headlines, when_text, front_text, back_text, bullets, texts_on, all_bullets, lines_text, body_of}
use Rattle.product_template.specs.Lengths.{texts_length, bullet_length_of, bullet_length_on, length_in_lines, length_in_segments}
use Rattle.product_template.specs.Text.{segment_of, frame_of, block_of, text_of, text_with}

-- ---- lengths of what is put together

behind : (k : ℕ) (a b c : List ℕ) → length b ≡ length c + k → length (a ++ b) ≡ length (a ++ c) + k
behind k a b c h =
    let x : length (a ++ b) ≡ length a + length b = length-append a b in
    let y : length (a ++ c) ≡ length a + length c = length-append a c in
    omega (arith, h, x, y)

before : (k : ℕ) (a b c : List ℕ) → length b ≡ length c + k → length (b ++ a) ≡ length (c ++ a) + k
before k a b c h =
    let x : length (b ++ a) ≡ length b + length a = length-append b a in
    let y : length (c ++ a) ≡ length c + length a = length-append c a in
    omega (arith, h, x, y)

both : (m n : ℕ) (a b c d : List ℕ) → length a ≡ length b + m → length c ≡ length d + n → length (a ++ c) ≡ length (b ++ d) + (m + n)
both m n a b c d h k =
    let x : length (a ++ c) ≡ length a + length c = length-append a c in
    let y : length (b ++ d) ≡ length b + length d = length-append b d in
    omega (arith, h, k, x, y)

pub sum_told : {E : Type 0} (r : Result ℕ E) (sum amount whole : ℕ) → IfOk r (λ n. n ≡ sum + amount) → sum + amount ≡ whole → IfOk r (λ n. n ≡ whole)
sum_told (Ok n) sum amount whole h e = h ∙ e
sum_told (Err x) sum amount whole h e = tt

-- ---- lines

abbrev of_texts : Option Texts → ℕ
of_texts None = 0
of_texts (Some x) = texts_length x

told_is : (texts : List EventTexts) (e : Event) → bullet_length_on (map bullet_length_of texts) e ≡ of_texts (texts_on texts e)
told_is [] e = refl
told_is (x ∷ texts) e = elim (cases_Bool (same_event x.event e)) [ inl n ↦ rw n refl | inr n ↦ rw n (told_is texts e) ]

parted : (a b c : List ℕ) → length (a ++ (b ++ c)) ≡ length b + length (a ++ c)
parted a b c =
    let x : length (a ++ (b ++ c)) ≡ length a + length (b ++ c) = length-append a (b ++ c) in
    let y : length (b ++ c) ≡ length b + length c = length-append b c in
    let z : length (a ++ c) ≡ length a + length c = length-append a c in
    omega (arith, x, y, z)

bullets_longer : (edition : Edition) (z : LocalZone) (t : ℕ) (l : SegLine) (x : Option Texts) → length (bullets edition z t l x) ≡ length (bullets edition z t l None) + of_texts x
unfolding texts_length
bullets_longer edition z t l None = omega arith
bullets_longer edition z t l (Some x) = parted (front_text x) (when_text edition z t l) (back_text x)

line_longer : (edition : Edition) (z : LocalZone) (t : ℕ) (texts : List EventTexts) (l : SegLine)
    → length (bullets edition z t l (texts_on texts l.event)) ≡ length (bullets edition z t l None) + bullet_length_on (map bullet_length_of texts) l.event
line_longer edition z t texts l = rw (told_is texts l.event) (bullets_longer edition z t l (texts_on texts l.event))

all_longer : (edition : Edition) (z : LocalZone) (t : ℕ) (texts : List EventTexts) (lines : List SegLine)
    → length (all_bullets edition z t texts lines) ≡ length (all_bullets edition z t [] lines) + length_in_lines (map bullet_length_of texts) lines
all_longer edition z t texts [] = refl
all_longer edition z t texts (l ∷ lines) =
    both (bullet_length_on (map bullet_length_of texts) l.event) (length_in_lines (map bullet_length_of texts) lines)
    (bullets edition z t l (texts_on texts l.event)) (bullets edition z t l None) (all_bullets edition z t texts lines) (all_bullets edition z t [] lines)
    (line_longer edition z t texts l) (all_longer edition z t texts lines)

lines_longer : (edition : Edition) (z : LocalZone) (t : ℕ) (texts : List EventTexts) (lines : List SegLine)
    → length (lines_text edition z t texts lines) ≡ length (lines_text edition z t [] lines) + length_in_lines (map bullet_length_of texts) lines
lines_longer edition z t texts lines =
    behind (length_in_lines (map bullet_length_of texts) lines) (closed (headlines z t lines)) (all_bullets edition z t texts lines) (all_bullets edition z t [] lines) (all_longer edition z t texts lines)

-- ---- segments

segment_longer : (local names text bare : List ℕ) (g : FrameSegment) (k : ℕ) → length text ≡ length bare + k
    → length (segment_text local g (record { names = names; text = text })) ≡ length (segment_text local g (record { names = names; text = bare })) + k
segment_longer local names text bare g k h =
    behind k (ended (ugc_text g.zones g.expiry)) _ _
    (behind k (pairs_text g.pairs) _ _
    (before k (ended (codes "$$")) _ _
    (behind k (names_text names) _ _
    (behind k (ended local) _ _
    (behind k (ended []) text bare h)))))

module _ (settings : Settings) (class : Class) (texts : List EventTexts) (t : ℕ) (edition : Edition) where
  segments_longer : (local : List ℕ) (segments : List Segment)
      → length (segments_text local (map (segment_of class settings.office t) segments) (map (body_of settings class texts t edition) segments))
      ≡ length (segments_text local (map (segment_of class settings.office t) segments) (map (body_of settings class [] t edition) segments)) + length_in_segments (map bullet_length_of texts) segments
  segments_longer local [] = refl
  segments_longer local (s ∷ segments) =
      both (length_in_lines (map bullet_length_of texts) s.lines) (length_in_segments (map bullet_length_of texts) segments)
      (segment_text local (segment_of class settings.office t s) (body_of settings class texts t edition s))
      (segment_text local (segment_of class settings.office t s) (body_of settings class [] t edition s))
      _ _
      (segment_longer local (names_of settings class s.zones) (lines_text edition settings.zone t texts s.lines) (lines_text edition settings.zone t [] s.lines) (segment_of class settings.office t s) (length_in_lines (map bullet_length_of texts) s.lines) (lines_longer edition settings.zone t texts s.lines))
      (behind (length_in_segments (map bullet_length_of texts) segments) (ended []) _ _ (segments_longer local segments))

  with_longer : (plan : Plan) → length (text_with settings class plan texts t edition) ≡ length (text_with settings class plan [] t edition) + length_in_segments (map bullet_length_of texts) plan.segments
  with_longer plan =
      let k = length_in_segments (map bullet_length_of texts) plan.segments in
      behind k (ended (heading_text (frame_of settings class plan t).heading)) _ _
      (behind k (ended (frame_of settings class plan t).identifier) _ _
      (behind k (block_text (block_of settings plan t)) _ _ (segments_longer (block_of settings plan t).local plan.segments)))

-- the length of a plan's text
pub longer : (settings : Settings) (class : Class) (plan : Plan) (t : ℕ) (edition : Edition)
    → length (text_with settings class plan [] t edition) + length_in_segments (map bullet_length_of plan.texts) plan.segments ≡ length (text_of settings class plan t edition)
unfolding text_of
longer settings class plan t edition =
    let h : length (text_with settings class plan plan.texts t edition) ≡ length (text_with settings class plan [] t edition) + length_in_segments (map bullet_length_of plan.texts) plan.segments = with_longer settings class plan.texts t edition plan in
    omega (arith, h)
