-- What the maps on the way to the segments hold.
use Rattle.std.specs.Prelude.{Bool, List, [], ◌∷◌, ◌++◌, map, fold, Vec, if◌then◌else◌}
use Rattle.std.specs.BTreeMap.{insert_entry}
use Rattle.std.specs.Borrow.{Bor}
use Rattle.std.specs.Cmp.Lexicographic.{pointwise}
use Rattle.std.specs.declared.alloc.Global.{Global}
use Rattle.std.specs.declared.cmp.Ordering.{Ordering}
use Rattle.std.specs.Ordering.{on, then_cmp}
use Rattle.hazard_types.specs.Orders.{by_event}
use Rattle.hazard_types.specs.Places.{Place, by_place}
use Rattle.hazard_types.specs.declared.line.Line.{Line}
use Rattle.hazard_types.specs.declared.line.SegLine.{SegLine}
use Rattle.hazard_types.specs.declared.line.Segment.{Segment}
use Rattle.hazard_types.specs.contracts.line.SegLinePartialEq.TheImpl as seg_line
use Rattle.segmenter.specs.Groups.{group_of, without_zone, same_group, placed}
use Rattle.segmenter.specs.declared.groups.Group.{Group}
use Rattle.segmenter.specs.declared.groups.Head.{Head}

module _ {K V X : Type 0} (same : K → K → Bool) (more : X → List V → List V) where
  -- one more item in the list of a key, which is new at the end where there is none
  abbrev pub put : List (K × List V) → K → X → List (K × List V)
  put [] k x = (k, more x []) ∷ []
  put (e ∷ es) k x = if same k e.0 then (e.0, more x e.1) ∷ es else e ∷ put es k x

-- the lists are equal, by the test `==` of lines
abbrev pub same_lines : List SegLine → List SegLine → Bool
same_lines = pointwise seg_line.eq-value.it

abbrev pub pushed : Place → List Place → List Place
pushed zone zones = zones ++ zone ∷ []

-- each group that has lines, with these, in the order in which the groups first stand
abbrev pub Groups : Type 0
Groups = List (Group × List SegLine)

abbrev pub groups_of : List Line → Groups
groups_of lines = fold (λ (groups : Groups) (line : Line). put same_group placed groups (group_of line) (without_zone line)) [] lines

-- by zone, then by first event
abbrev pub by_head : Head → Head → Ordering
by_head = then_cmp (on (λ (h : Head). h.zone) by_place) (on (λ (h : Head). h.first) by_event)

-- the groups' lists, by zone and first event
abbrev pub Heads : Type 0
Heads = List (Head × List SegLine)

abbrev pub add_head : Heads → Group → List SegLine → Heads
add_head heads g [] = heads
add_head heads g (line ∷ lines) = insert_entry by_head heads (record { zone = g.zone; first = line.event }) (line ∷ lines)

abbrev pub heads_of : Groups → Heads
heads_of groups = fold (λ (heads : Heads) (e : Group × List SegLine). add_head heads e.0 e.1) [] groups

-- the zones of each list
abbrev pub Classes : Type 0
Classes = List (List SegLine × List Place)

abbrev pub classes_of : Heads → Classes
classes_of heads = fold (λ (classes : Classes) (e : Head × List SegLine). put same_lines pushed classes e.1 e.0.zone) [] heads

abbrev pub segments_of : Classes → List Segment
segments_of classes = map (λ (c : List SegLine × List Place). record { zones = c.1; lines = c.0 }) classes

-- what the maps of the code hold
abbrev pub groups_view : List (Group × List SegLine) → Groups
groups_view es = map (λ e. (e.0, e.1)) es

abbrev pub heads_view : List (Head × Vec SegLine Global) → Heads
heads_view es = map (λ e. (e.0, e.1.items)) es

abbrev pub classes_view : List (Bor (List SegLine) × Vec Place Global) → Classes
classes_view es = map (λ e. (e.0.now, e.1.items)) es
