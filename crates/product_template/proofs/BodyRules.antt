-- The bodies of segments keep the rules of bodies.
use Rattle.std.proofs.Common.{◌≡◌, ℕ, ◌<◌, true, false, List, [], ◌∷◌, ◌++◌, length, refl, inl, inr, Option, Some, None, codes}
use Rattle.std.specs.Prelude.{IsSome}
use Rattle.std.specs.List.{AllByRecursion, list_all}
use Rattle.std.specs.Map.{values_of}
use Rattle.std.proofs.lemmas.Bool.{cases_Bool}
use Rattle.hazard_types.specs.Characters.{is_printable}
use Rattle.hazard_types.specs.Same.{same_event}
use Rattle.hazard_types.specs.declared.codes.Class.{Class}
use Rattle.hazard_types.specs.declared.codes.LocalZone.{LocalZone}
use Rattle.hazard_types.specs.declared.hazard.Event.{Event}
use Rattle.hazard_types.specs.declared.line.SegLine.{SegLine}
use Rattle.hazard_types.specs.declared.line.Segment.{Segment}
use Rattle.office_types.specs.declared.request.Edition.{Edition}
use Rattle.office_types.specs.declared.request.Edition.TheVariants.{One, Two}
use Rattle.office_types.specs.declared.request.EventTexts.{EventTexts}
use Rattle.office_types.specs.declared.request.Texts.{Texts}
use Rattle.desk_settings.specs.Forms.{is_zone_name}
use Rattle.desk_settings.specs.Looking.{name_for_zone}
use Rattle.desk_settings.specs.declared.settings.Settings.{Settings}
use Rattle.headline_text.specs.Headlines.{headline_of, when_of}
use Rattle.headline_text.specs.Lines.{has_word}
use Rattle.headline_text.specs.NameLines.{name_lines}
use Rattle.headline_text.specs.Wrapping.{wrapped}
use Rattle.product_frame.specs.LineRules.{IsBody}
use Rattle.product_template.specs.Bodies.{is_training, zone_names, closed, headlines, bullet, when_text, front_text, back_text, bullets, texts_on, all_bullets, lines_text, body_of}
use Rattle.product_template.specs.Conditions.{ArePrintable}
use Rattle.product_template.proofs.Mild.{IsChunk, chunk_none, chunk_both, chunk_each, chunk_closed, chunk_closed_again, chunk_paragraph, chunk_lines}
use Rattle.product_template.proofs.ZoneNames.{no_slash, lines_calm, names_calm, all_calm}
use Rattle.product_template.proofs.Said.{headline_fit, when_fit, printable_line}
use Rattle.product_template.proofs.Wrapped.{wrapped_mild}

headline_chunk : (z : LocalZone) (t : ℕ) (l : SegLine) → IsChunk (closed (wrapped (headline_of l z t)))
headline_chunk z t l = let f = headline_fit l z t in chunk_closed (wrapped (headline_of l z t)) (wrapped_mild (headline_of l z t) f.0 f.1)

each_headline : (z : LocalZone) (t : ℕ) (lines : List SegLine) → AllByRecursion (λ l. IsChunk (closed (wrapped (headline_of l z t)))) lines
each_headline z t [] = tt
each_headline z t (l ∷ lines) = (headline_chunk z t l, each_headline z t lines)

when_chunk : (edition : Edition) (z : LocalZone) (t : ℕ) (l : SegLine) → IsChunk (when_text edition z t l)
when_chunk One z t l = chunk_none
when_chunk Two z t l = let f = when_fit l z t in chunk_paragraph (wrapped (when_of l z t)) (wrapped_mild (when_of l z t) f.0 f.1)

what_chunk : (t : List ℕ) → list_all is_printable t ≡ true → IsChunk (bullet (codes "* WHAT...") t)
what_chunk t h = elim (cases_Bool (has_word t)) [ inl e ↦ rw e (chunk_paragraph _ (wrapped_mild (codes "* WHAT..." ++ t) (refl, refl) (printable_line t h))) | inr e ↦ rw e chunk_none ]

where_chunk : (t : List ℕ) → list_all is_printable t ≡ true → IsChunk (bullet (codes "* WHERE...") t)
where_chunk t h = elim (cases_Bool (has_word t)) [ inl e ↦ rw e (chunk_paragraph _ (wrapped_mild (codes "* WHERE..." ++ t) (refl, refl) (printable_line t h))) | inr e ↦ rw e chunk_none ]

impacts_chunk : (t : List ℕ) → list_all is_printable t ≡ true → IsChunk (bullet (codes "* IMPACTS...") t)
impacts_chunk t h = elim (cases_Bool (has_word t)) [ inl e ↦ rw e (chunk_paragraph _ (wrapped_mild (codes "* IMPACTS..." ++ t) (refl, refl) (printable_line t h))) | inr e ↦ rw e chunk_none ]

details_chunk : (t : List ℕ) → list_all is_printable t ≡ true → IsChunk (bullet (codes "* ADDITIONAL DETAILS...") t)
details_chunk t h = elim (cases_Bool (has_word t)) [ inl e ↦ rw e (chunk_paragraph _ (wrapped_mild (codes "* ADDITIONAL DETAILS..." ++ t) (refl, refl) (printable_line t h))) | inr e ↦ rw e chunk_none ]

-- texts on an event, if there are some, are printable
abbrev pub MayPrint : Option Texts → Type 0
MayPrint None = Unit {0}
MayPrint (Some x) = (list_all is_printable x.what ≡ true) × (list_all is_printable x.area ≡ true) × (list_all is_printable x.impacts ≡ true) × (list_all is_printable x.details ≡ true)

on_prints : (texts : List EventTexts) (e : Event) → AllByRecursion ArePrintable texts → MayPrint (texts_on texts e)
on_prints [] e h = tt
on_prints (x ∷ texts) e h = elim (cases_Bool (same_event x.event e)) [
  | inl n ↦ rw n (h.0.what, h.0.area, h.0.impacts, h.0.details)
  | inr n ↦ rw n (on_prints texts e h.1)
]

bullets_chunk : (edition : Edition) (z : LocalZone) (t : ℕ) (l : SegLine) (texts : Option Texts) → MayPrint texts → IsChunk (bullets edition z t l texts)
bullets_chunk edition z t l None h = when_chunk edition z t l
bullets_chunk edition z t l (Some x) h =
    chunk_both (front_text x) (when_text edition z t l ++ back_text x) (chunk_both _ _ (what_chunk x.what h.0) (where_chunk x.area h.1))
    (chunk_both (when_text edition z t l) (back_text x) (when_chunk edition z t l) (chunk_both _ _ (impacts_chunk x.impacts h.2) (details_chunk x.details h.3)))

each_bullets : (edition : Edition) (z : LocalZone) (t : ℕ) (texts : List EventTexts) (lines : List SegLine) → AllByRecursion ArePrintable texts → AllByRecursion (λ l. IsChunk (bullets edition z t l (texts_on texts l.event))) lines
each_bullets edition z t texts [] h = tt
each_bullets edition z t texts (l ∷ lines) h = (bullets_chunk edition z t l (texts_on texts l.event) (on_prints texts l.event h), each_bullets edition z t texts lines h)

lines_chunk : (edition : Edition) (z : LocalZone) (t : ℕ) (texts : List EventTexts) (lines : List SegLine) → AllByRecursion ArePrintable texts → IsChunk (lines_text edition z t texts lines)
lines_chunk edition z t texts lines h =
    chunk_both (closed (headlines z t lines)) (all_bullets edition z t texts lines)
    (chunk_closed_again (headlines z t lines) (chunk_each (λ l. closed (wrapped (headline_of l z t))) lines (each_headline z t lines)))
    (chunk_each (λ l. bullets edition z t l (texts_on texts l.event)) lines (each_bullets edition z t texts lines h))

pub body_well : (settings : Settings) (class : Class) (texts : List EventTexts) (t : ℕ) (edition : Edition) (s : Segment) → AllByRecursion (λ n. is_zone_name n ≡ true) (values_of settings.zones) → 0 < length s.zones
    → (is_training class ≡ false → AllByRecursion (λ z. IsSome (name_for_zone settings.zones z)) s.zones) → AllByRecursion ArePrintable texts → IsBody (body_of settings class texts t edition s)
body_well settings class texts t edition s names some named printable =
    let chunk = lines_chunk edition settings.zone t texts s.lines printable in
    elim (cases_Bool (is_training class)) [
      | inl e ↦ record { no_slash = rw e refl; names = rw e tt; text = chunk_lines _ chunk; ended = chunk.ended }
      | inr e ↦ record {
        no_slash = rw e (no_slash settings.zones s.zones some names (named e));
        names = rw e (lines_calm (name_lines (zone_names settings.zones s.zones)) (names_calm (zone_names settings.zones s.zones) (all_calm settings.zones s.zones names (named e))));
        text = chunk_lines _ chunk;
        ended = chunk.ended;
      }
    ]
