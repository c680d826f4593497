-- What a reader of the office and class finds in the text of a plan: its lines, all of them.
use Rattle.std.proofs.Common.{◌≡◌, ◌∙◌, ℕ, List, [], ◌∷◌, true, refl, ap, map, Ok}
use Rattle.std.specs.Str.{bytes_eq}
use Rattle.std.proofs.lemmas.Bool.{and_from}
use Rattle.std.proofs.lemmas.Slice.Eq.{bytes_eq-Decides}
use Rattle.hazard_types.specs.ZoneLines.{ZoneLine}
use Rattle.hazard_types.specs.declared.codes.Class.{Class}
use Rattle.hazard_types.specs.declared.line.Line.{Line}
use Rattle.office_types.specs.declared.request.Plan.{Plan}
use Rattle.hazard_types.proofs.Equality.{class_itself}
use Rattle.desk_settings.specs.declared.settings.Settings.{Settings}
use Rattle.event_life.specs.Printed.{zone_line_of}
use Rattle.event_life.specs.Products.{Product}
use Rattle.product_frame.specs.Frame.{FrameOf}
use Rattle.product_frame.proofs.Whole.{frame_read}
use Rattle.product_decoder.specs.Decoded.{decode, decoded_of, pair_of}
use Rattle.product_decoder.specs.ReaderModel.{is_by, said_by}
use Rattle.product_template.specs.Text.{frame_of}
use Rattle.product_template.proofs.Lines.{lines_said}
use Rattle.segmenter.specs.Said.{lines_in_text}
use Rattle.office_core.specs.Agreement.{product_in}

-- the product that says these lines, for a reader of the office and class
abbrev pub saying : List ℕ → Class → ℕ → List Line → Product
saying office class t lines = record { issue = t; said = map (zone_line_of class office) lines }

own_line : (office : List ℕ) (class : Class) (line : Line) → is_by office class (pair_of (zone_line_of class office line)) ≡ true
own_line office class line = and_from (bytes_eq office office) _ ((bytes_eq-Decides office office).1 refl) (class_itself class)

-- the lines of a text of the office and class are all of them
all_said : (office : List ℕ) (class : Class) (lines : List Line) → said_by office class (map pair_of (map (zone_line_of class office) lines)) ≡ map (zone_line_of class office) lines
all_said office class [] = refl
all_said office class (line ∷ lines) = rw (own_line office class line) (ap (λ (said : List ZoneLine). zone_line_of class office line ∷ said) (all_said office class lines))

pub text_decodes : (text : List ℕ) (settings : Settings) (class : Class) (plan : Plan) (t : ℕ) → FrameOf text (frame_of settings class plan t) → decode text ≡ Ok (decoded_of (frame_of settings class plan t))
text_decodes text settings class plan t is = rw (frame_read text (frame_of settings class plan t) is) refl

pub text_says : (text : List ℕ) (settings : Settings) (class : Class) (plan : Plan) (t : ℕ) → FrameOf text (frame_of settings class plan t) →
    product_in settings.office class (decode text) ≡ saying settings.office class t (lines_in_text plan.segments) ∷ []
text_says text settings class plan t is =
    let own = ap (λ (lines : List ZoneLine). said_by settings.office class (map pair_of lines)) (lines_said settings class plan t) ∙ all_said settings.office class (lines_in_text plan.segments) in
    rw (text_decodes text settings class plan t is) (λ i. record { issue = t; said = own i } ∷ [])
