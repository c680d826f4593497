-- The correction of a product: what stays live of its lines, said again with COR.
use Rattle.std.specs.Prelude.{◌≡◌, ◌≤◌, ◌+◌, ◌==◌, not, ℕ, Bool, List, [], ◌∷◌, ◌++◌, length, map, filter_map, find, nat_le, if◌then◌else◌, Option, Some, None, option_map}
use Rattle.std.specs.List.{list_any, AllPairs}
use Rattle.std.specs.Option.{option_or}
use Rattle.hazard_types.specs.Same.{same_event}
use Rattle.hazard_types.specs.declared.codes.Action.TheVariants.{Cor}
use Rattle.hazard_types.specs.declared.hazard.Event.{Event}
use Rattle.hazard_types.specs.declared.line.Line.{Line}
use Rattle.hazard_types.specs.declared.line.Row.{Row}
use Rattle.office_types.specs.declared.refusal.Refusal.{Refusal}
use Rattle.office_types.specs.declared.refusal.Refusal.TheVariants as refusal
use Rattle.office_types.specs.declared.request.EventTexts.{EventTexts}
use Rattle.office_types.specs.declared.request.Plan.{Plan}
use Rattle.office_types.specs.declared.request.Sent.{Sent}
use Rattle.office_types.specs.declared.request.Texts.{Texts}
use Rattle.event_life.specs.Periods.{is_live}
use Rattle.event_life.specs.Products.{row_at}
use Rattle.hazard_board.specs.Clashes.{least_clash}
use Rattle.hazard_board.specs.Consistent.{IsConsistent}
use Rattle.hazard_board.specs.Taken.{rows_taken}
use Rattle.segmenter.specs.Segments.{AreSegments}
use Rattle.action_planner.specs.Conditions.{AreSited}
use Rattle.action_planner.specs.Lines.{line_on}
use Rattle.action_planner.specs.Offences.{first_given, refused_clash, too_many}
use Rattle.action_planner.specs.Texts.{no_texts, events_of}

-- COR of a live row
abbrev pub correcting : ℕ → Option Row → Option Line
correcting t None = None
correcting t (Some row) = if is_live t row then Some (line_on Cor t row) else None

-- a line behind others, where there is one
abbrev pub with_some : List Line → Option Line → List Line
with_some lines None = lines
with_some lines (Some line) = lines ++ line ∷ []

-- the lines whose row is live, each with COR; the others are left out
abbrev pub corrected_lines : List Row → ℕ → List Line → List Line
corrected_lines rows t lines = filter_map (λ (line : Line). correcting t (row_at rows line.event line.zone)) lines

-- the texts given for an event: of an event given twice the first
abbrev pub given_for : List EventTexts → Event → Option Texts
given_for [] e = None
given_for (x ∷ xs) e = if same_event x.event e then Some x.texts else given_for xs e

abbrev pub texts_or : Option Texts → Texts
texts_or None = no_texts
texts_or (Some texts) = texts

-- texts given for an event replace those of the product
abbrev pub corrected_texts : List EventTexts → List EventTexts → List Event → List EventTexts
corrected_texts given before events = map (λ (e : Event). record { event = e; texts = texts_or (option_or (given_for given e) (given_for before e)) }) events

-- NoEvent: a text's event has no line in the corrected product, left out or not
abbrev pub has_line : List Line → Event → Bool
has_line lines e = list_any (λ (line : Line). same_event line.event e) lines

abbrev pub no_line : EventTexts → Refusal
no_line x = refusal.NoEvent x.event

abbrev pub first_without_line : List Line → List EventTexts → Option Refusal
first_without_line lines given = option_map no_line (find (λ (x : EventTexts). not (has_line lines x.event)) given)

-- NotLast: another product is the last of its category
abbrev pub not_last : ℕ → ℕ → Option Refusal
not_last number last = if number == last then None else Some (refusal.NotLast last)

-- NothingToCorrect: no line remains
abbrev pub nothing_left : List Line → Option Refusal
nothing_left [] = Some refusal.NothingToCorrect
nothing_left (line ∷ lines) = None

-- LettersSpent: the original has its 24 corrections, A to X
abbrev pub letters_spent : ℕ → Option Refusal
letters_spent letters = if nat_le 24 letters then Some refusal.LettersSpent else None

-- The rules of a correction, in the order in which they are asked.
abbrev pub correction_rules : List Row → ℕ → Sent → ℕ → ℕ → List EventTexts → List (Option Refusal)
correction_rules rows t sent last letters given =
    first_without_line sent.lines given
    ∷ option_map refused_clash (least_clash t (rows_taken rows t (corrected_lines rows t sent.lines)))
    ∷ not_last sent.number last
    ∷ nothing_left (corrected_lines rows t sent.lines)
    ∷ letters_spent letters
    ∷ too_many (length (corrected_lines rows t sent.lines))
    ∷ []

-- the first rule that is broken, with what it names
unfoldable pub broken_correction : List Row → ℕ → Sent → ℕ → ℕ → List EventTexts → Option Refusal
broken_correction rows t sent last letters given = first_given (correction_rules rows t sent last letters given)

-- the rules but that on the texts, for a correction of these lines
unfoldable pub broken_on : List Row → ℕ → ℕ → ℕ → ℕ → List Line → Option Refusal
broken_on rows t number last letters lines =
    option_or (option_map refused_clash (least_clash t (rows_taken rows t lines)))
    (option_or (not_last number last)
    (option_or (nothing_left lines)
    (option_or (letters_spent letters)
    (too_many (length lines)))))

-- the plan of a correction of these lines: the letter behind those of the original's earlier corrections, A for the first; it opens nothing
pub record IsCorrectionOf (sent : Sent) (letters : ℕ) (given : List EventTexts) (said : List Line) (plan : Plan) : Type 0 where
  pub category : plan.category ≡ sent.category
  pub letter : plan.bbb ≡ Some (65 + letters)
  pub lines : plan.lines ≡ said
  pub segments : AreSegments said plan.segments
  pub opened : plan.opened ≡ []
  pub texts : plan.texts ≡ corrected_texts given sent.texts (events_of said)

abbrev pub IsCorrection : List Row → ℕ → Sent → ℕ → List EventTexts → Plan → Type 0
IsCorrection rows t sent letters given plan = IsCorrectionOf sent letters given (corrected_lines rows t sent.lines) plan

-- where a correction may be planned
pub record CanCorrect (rows : List Row) (sent : Sent) (letters t : ℕ) : Type 0 where
  -- no two lines of the product are of one event in one zone
  pub apart : AllPairs (λ (l m : Line). ¬ ((l.event ≡ m.event) × (l.zone ≡ m.zone))) sent.lines
  pub few : letters ≤ 24
  pub consistent : IsConsistent rows t
  pub sited : AreSited rows
  pub minute : t ≤ 52000000
