-- Lines that are all of one group make one segment.
use Rattle.std.proofs.Common.{◌≡◌, ◌≢◌, ◌∙◌, ◌≤◌, List, [], ◌∷◌, true, fold, length, get_or, refl, ap, arith}
use Rattle.std.specs.List.{list_all}
use Rattle.std.proofs.lemmas.Bool.{and_parts}
use Rattle.hazard_types.specs.declared.line.Line.{Line}
use Rattle.hazard_types.specs.declared.line.SegLine.{SegLine}
use Rattle.hazard_types.specs.declared.line.Segment.{Segment}
use Rattle.segmenter.specs.Groups.{group_of, without_zone, same_group, placed}
use Rattle.segmenter.specs.OneGroup.{are_of_one_group, lines_without_zones}
use Rattle.segmenter.specs.Steps.{Groups, put, groups_of, heads_of, classes_of, segments_of}
use Rattle.segmenter.specs.declared.groups.Group.{Group}
use Rattle.segmenter.proofs.GroupLemmas.{placed_some}

order_some : (ordered : List SegLine) (lines : List Line) → ordered ≢ [] → fold (λ (so_far : List SegLine) (line : Line). placed (without_zone line) so_far) ordered lines ≢ []
order_some ordered [] some = some
order_some ordered (line ∷ lines) some = order_some (placed (without_zone line) ordered) lines (placed_some (without_zone line) ordered)

groups_one : (g : Group) (lines : List Line) (ordered : List SegLine) → list_all (λ (line : Line). same_group (group_of line) g) lines ≡ true →
    fold (λ (groups : Groups) (line : Line). put same_group placed groups (group_of line) (without_zone line)) ((g, ordered) ∷ []) lines ≡ (g, fold (λ (so_far : List SegLine) (line : Line). placed (without_zone line) so_far) ordered lines) ∷ []
groups_one g [] ordered all = refl
groups_one g (line ∷ lines) ordered all =
    let p = and_parts (same_group (group_of line) g) _ all in
    rw (p.0) (groups_one g lines (placed (without_zone line) ordered) p.1)

one_made : (g : Group) (ordered : List SegLine) → ordered ≢ [] → ◌≡◌ {A = List Segment} (record { zones = g.zone ∷ []; lines = ordered } ∷ []) (segments_of (classes_of (heads_of ((g, ordered) ∷ []))))
one_made g [] some = absurd (some refl)
one_made g (line ∷ lines) some = refl

one_segment : (first : Line) (rest : List Line) → are_of_one_group (first ∷ rest) ≡ true →
    ◌≡◌ {A = List Segment} (record { zones = first.zone ∷ []; lines = lines_without_zones (first ∷ rest) } ∷ []) (segments_of (classes_of (heads_of (groups_of (first ∷ rest)))))
one_segment first rest all =
    let p = and_parts (same_group (group_of first) (group_of first)) _ all in
    rw (groups_one (group_of first) rest (without_zone first ∷ []) p.1) (one_made (group_of first) (lines_without_zones (first ∷ rest)) (order_some (without_zone first ∷ []) rest (λ h. cc)))

-- the first of the lines has the group, and the zone of the segment

pub one_group_of : (lines : List Line) (first : Line) → 1 ≤ length lines → first ≡ get_or lines 0 first → list_all (λ (line : Line). same_group (group_of line) (group_of first)) lines ≡ are_of_one_group lines
one_group_of [] first some is = absurd (omega (arith, some))
one_group_of (line ∷ lines) first some is = ap (λ (x : Line). list_all (λ (l : Line). same_group (group_of l) (group_of x)) (line ∷ lines)) is

pub one_segment_of : (lines : List Line) (first : Line) → 1 ≤ length lines → first ≡ get_or lines 0 first → are_of_one_group lines ≡ true →
    ◌≡◌ {A = List Segment} (record { zones = first.zone ∷ []; lines = lines_without_zones lines } ∷ []) (segments_of (classes_of (heads_of (groups_of lines))))
one_segment_of [] first some is all = absurd (omega (arith, some))
one_segment_of (line ∷ lines) first some is all =
    let made : Line → List Segment = λ x. record { zones = x.zone ∷ []; lines = lines_without_zones (line ∷ lines) } ∷ [] in
    ap made is ∙ one_segment line lines all
