-- The groups of lines are the zones and events that have lines.
use Rattle.std.proofs.Common.{◌≡◌, ◌∙◌, ◌⊎◌, inl, inr, List, [], ◌∷◌, Bool, true, false, cond, fold, Option, Some, None, refl, ap, sym, subst}
use Rattle.std.specs.Prelude.{◌≢◌}
use Rattle.std.specs.Bool.{Decides}
use Rattle.std.specs.List.{filter, AllByRecursion, IsDistinct}
use Rattle.std.specs.Option.{option_eq}
use Rattle.std.specs.Ordering.{is_lt}
use Rattle.std.proofs.lemmas.Bool.{and_parts}
use Rattle.hazard_types.specs.declared.hazard.Event.{Event}
use Rattle.hazard_types.specs.declared.line.Line.{Line}
use Rattle.hazard_types.specs.declared.line.SegLine.{SegLine}
use Rattle.hazard_types.specs.Same.{same_zone, same_event}
use Rattle.hazard_types.proofs.Equality.{zone_one, event_one}
use Rattle.segmenter.specs.declared.groups.Group.{Group}
use Rattle.segmenter.specs.contracts.groups.GroupEq.TheImpl.Laws as group_laws
use Rattle.segmenter.specs.Groups.{group_of, without_zone, same_group, by_line, placed, lines_of}
use Rattle.segmenter.specs.Segments.{Has}
use Rattle.segmenter.specs.Steps.{groups_of}
use Rattle.segmenter.proofs.AtLemmas.{at, keys, IsFull, at-put_all, distinct-put_all, full-put_all, none_distinct, has_at, at_has}
use Rattle.segmenter.proofs.HasLemmas.{has_kept, keeps, all_at}

-- ---- `==` of groups

one_of : (a b : Option Event) → option_eq same_event a b ≡ true → a ≡ b
one_of None None h = refl
one_of (Some x) (Some y) h = ap Some (event_one x y h)
one_of _ _ h = cc

pub group_one : (a b : Group) → same_group a b ≡ true → a ≡ b
group_one a b h =
    let p = and_parts (same_zone a.zone b.zone) _ h in
    let zone_is = zone_one a.zone b.zone p.0 in
    let flood_is = one_of a.flood b.flood p.1 in
    λ i. record { zone = zone_is i; flood = flood_is i }

pub group_decides : (a b : Group) → Decides (same_group a b) (a ≡ b)
group_decides a b = (group_one a b, λ e. subst (λ (x : Group). same_group a x ≡ true) e (group_laws.laws-law.refl a))

-- ---- the lines of a group are those of the list that are of the group

placed_by : (b : Bool) (line other : SegLine) (others : List SegLine) (x : SegLine) → (Has (placed line others) x → (x ≡ line) ⊎ Has others x)
    → Has (cond b (line ∷ other ∷ others) (other ∷ placed line others)) x → (x ≡ line) ⊎ Has (other ∷ others) x
placed_by true line other others x later (inl e) = inl e
placed_by true line other others x later (inr h) = inr h
placed_by false line other others x later (inl e) = inr (inl e)
placed_by false line other others x later (inr h) = elim (later h) as (λ _. (x ≡ line) ⊎ Has (other ∷ others) x) [ inl e ↦ inl e | inr r ↦ inr (inr r) ]

placed_from : (line : SegLine) (lines : List SegLine) (x : SegLine) → Has (placed line lines) x → (x ≡ line) ⊎ Has lines x
placed_from line [] x (inl e) = inl e
placed_from line [] x (inr h) = absurd h
placed_from line (other ∷ others) x h = placed_by (is_lt (by_line line other)) line other others x (placed_from line others x) h

places_by : (b : Bool) (line other : SegLine) (others : List SegLine) (x : SegLine) → ((x ≡ line) ⊎ Has others x → Has (placed line others) x)
    → (x ≡ line) ⊎ Has (other ∷ others) x → Has (cond b (line ∷ other ∷ others) (other ∷ placed line others)) x
places_by true line other others x later h = h
places_by false line other others x later (inl e) = inr (later (inl e))
places_by false line other others x later (inr (inl e)) = inl e
places_by false line other others x later (inr (inr h)) = inr (later (inr h))

places : (line : SegLine) (lines : List SegLine) (x : SegLine) → (x ≡ line) ⊎ Has lines x → Has (placed line lines) x
places line [] x h = h
places line (other ∷ others) x h = places_by (is_lt (by_line line other)) line other others x (places line others x) h

some_by : (b : Bool) (line other : SegLine) (others : List SegLine) → cond b (line ∷ other ∷ others) (other ∷ placed line others) ≢ []
some_by true line other others e = cc
some_by false line other others e = cc

pub placed_some : (line : SegLine) (lines : List SegLine) → placed line lines ≢ []
placed_some line [] e = cc
placed_some line (other ∷ others) e = some_by (is_lt (by_line line other)) line other others e

abbrev Stood : List Line → SegLine → Type 0
Stood lines x = (line : Line) × Has lines line × (x ≡ without_zone line)

abbrev in_turn : List SegLine → List Line → List SegLine
in_turn ordered lines = fold (λ (so_far : List SegLine) (line : Line). placed (without_zone line) so_far) ordered lines

turn_from : (ordered : List SegLine) (lines : List Line) (x : SegLine) → Has (in_turn ordered lines) x → Has ordered x ⊎ Stood lines x
turn_from ordered [] x h = inl h
turn_from ordered (line ∷ lines) x h =
    elim (turn_from (placed (without_zone line) ordered) lines x h) as (λ _. Has ordered x ⊎ Stood (line ∷ lines) x) [
      | inl l ↦ elim (placed_from (without_zone line) ordered x l) as (λ _. Has ordered x ⊎ Stood (line ∷ lines) x) [ inl e ↦ inr (line, inl refl, e) | inr o ↦ inl o ]
      | inr s ↦ inr (s.0, inr s.1, s.2)
    ]

turn_to : (ordered : List SegLine) (lines : List Line) (x : SegLine) → Has ordered x ⊎ Stood lines x → Has (in_turn ordered lines) x
turn_to ordered [] x (inl h) = h
turn_to ordered [] x (inr s) = absurd s.1
turn_to ordered (line ∷ lines) x (inl h) = turn_to (placed (without_zone line) ordered) lines x (inl (places (without_zone line) ordered x (inr h)))
turn_to ordered (line ∷ lines) x (inr (other, inl e, is)) = turn_to (placed (without_zone line) ordered) lines x (inl (places (without_zone line) ordered x (inl (is ∙ ap without_zone e))))
turn_to ordered (line ∷ lines) x (inr (other, inr h, is)) = turn_to (placed (without_zone line) ordered) lines x (inr (other, h, is))

abbrev OfGroup : List Line → Group → SegLine → Type 0
OfGroup lines g x = (line : Line) × Has lines line × (g ≡ group_of line) × (x ≡ without_zone line)

no_end : (lines : List Line) (g : Group) (x : SegLine) → ⊥ ⊎ Stood (filter (λ line. same_group g (group_of line)) lines) x → OfGroup lines g x
no_end lines g x (inl h) = absurd h
no_end lines g x (inr s) =
    let kept = has_kept (λ (line : Line). same_group g (group_of line)) lines s.0 s.1 in
    (s.0, kept.0, group_one g (group_of s.0) kept.1, s.2)

-- a line of a group stands in the list, in the group
pub line_from : (lines : List Line) (g : Group) (x : SegLine) → Has (lines_of lines g) x → OfGroup lines g x
line_from lines g x h = no_end lines g x (turn_from [] (filter (λ line. same_group g (group_of line)) lines) x h)

-- each line stands among those of its group
pub line_has : (lines : List Line) (line : Line) → Has lines line → Has (lines_of lines (group_of line)) (without_zone line)
line_has lines line h =
    let mine : same_group (group_of line) (group_of line) ≡ true = (group_decides (group_of line) (group_of line)).1 refl in
    let kept = keeps (λ (other : Line). same_group (group_of line) (group_of other)) lines line h mine in
    turn_to [] (filter (λ other. same_group (group_of line) (group_of other)) lines) (without_zone line) (inr (line, kept, refl))

-- ---- the groups

pub groups_distinct : (lines : List Line) → IsDistinct same_group (keys same_group group_decides placed (groups_of lines))
groups_distinct lines = distinct-put_all same_group group_decides placed group_of without_zone [] lines (none_distinct same_group group_decides placed)

groups_full : (lines : List Line) → AllByRecursion (IsFull same_group group_decides placed) (groups_of lines)
groups_full lines = full-put_all same_group group_decides placed group_of without_zone placed_some [] lines tt

group_at : (lines : List Line) (g : Group) → at same_group group_decides placed g (groups_of lines) ≡ lines_of lines g
group_at lines g = at-put_all same_group group_decides placed group_of without_zone g [] lines

pub group_from : (lines : List Line) (g : Group) (ls : List SegLine) → Has (groups_of lines) (g, ls) → (lines_of lines g ≡ ls) × (ls ≢ [])
group_from lines g ls h = (
  sym (group_at lines g) ∙ has_at same_group group_decides placed (groups_of lines) g ls (groups_distinct lines) h,
  all_at (IsFull same_group group_decides placed) (groups_of lines) (g, ls) (groups_full lines) h,
)

pub group_has : (lines : List Line) (g : Group) (ls : List SegLine) → lines_of lines g ≡ ls → ls ≢ [] → Has (groups_of lines) (g, ls)
group_has lines g ls is some = at_has same_group group_decides placed (groups_of lines) g ls (group_at lines g ∙ is) some
