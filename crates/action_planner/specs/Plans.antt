-- What a plan says.
use Rattle.std.specs.Prelude.{◌≡◌, ℕ, List, None}
use Rattle.hazard_types.specs.declared.codes.Category.{Category}
use Rattle.hazard_types.specs.declared.line.Line.{Line}
use Rattle.hazard_types.specs.declared.line.Row.{Row}
use Rattle.office_types.specs.declared.request.Plan.{Plan}
use Rattle.segmenter.specs.Segments.{AreSegments}
use Rattle.action_planner.specs.Placed.{Placed, opened}
use Rattle.action_planner.specs.Lines.{planned_lines}
use Rattle.action_planner.specs.Texts.{events_of, event_texts}

-- the plan of a draft of this category, with these lines
pub record HasLines (c : Category) (said : List Line) (ps : List Placed) (plan : Plan) : Type 0 where
  pub category : plan.category ≡ c
  pub letter : plan.bbb ≡ None
  pub lines : plan.lines ≡ said
  pub segments : AreSegments said plan.segments
  pub opened : plan.opened ≡ opened ps
  pub texts : plan.texts ≡ event_texts ps (events_of said)

-- the plan of a draft, with the lines that it becomes
abbrev pub IsPlan : Category → List Row → ℕ → List Placed → Plan → Type 0
IsPlan c rows t ps plan = HasLines c (planned_lines c rows t ps) ps plan
