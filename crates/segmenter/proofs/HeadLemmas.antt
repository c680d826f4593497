-- The list of a group at its place, in a map and in what the map holds.
use Rattle.std.proofs.Common.{◌≡◌, ◌∙◌, List, [], ◌∷◌, Ordering, Less, Equal, Greater, Some, Vec, Global, refl, ap, sym, slice_get}
use Rattle.std.specs.BTreeMap.{insert_entry}
use Rattle.std.specs.Ordering.{match_ordering}
use Rattle.hazard_types.specs.declared.line.SegLine.{SegLine}
use Rattle.segmenter.specs.Steps.{by_head, Heads, add_head, heads_view}
use Rattle.segmenter.specs.declared.groups.Group.{Group}
use Rattle.segmenter.specs.declared.groups.Head.{Head}

abbrev Lists : Type 0
Lists = Vec SegLine Global

heads_view-insert : (es : List (Head × Lists)) (h : Head) (v : Lists) → heads_view (insert_entry by_head es h v) ≡ insert_entry by_head (heads_view es) h v.items
heads_view-insert [] h v = refl
heads_view-insert (e ∷ es) h v = by_order (by_head h e.0) (heads_view-insert es h v)
  where
    by_order : (o : Ordering) → heads_view (insert_entry by_head es h v) ≡ insert_entry by_head (heads_view es) h v.items → heads_view (match_ordering o ((h, v) ∷ e ∷ es) ((e.0, v) ∷ es) (e ∷ insert_entry by_head es h v))
        ≡ match_ordering o ((h, v.items) ∷ heads_view (e ∷ es)) ((e.0, v.items) ∷ heads_view es) ((e.0, e.1.items) ∷ insert_entry by_head (heads_view es) h v.items)
    by_order Less later = refl
    by_order Equal later = refl
    by_order Greater later = ap (λ (heads : Heads). (e.0, e.1.items) ∷ heads) later

at_first : (heads : Heads) (g : Group) (lines : List SegLine) (line : SegLine) → slice_get lines 0 ≡ Some line
    → insert_entry by_head heads (record { zone = g.zone; first = line.event }) lines ≡ add_head heads g lines
at_first heads g [] line h = cc
at_first heads g (l ∷ lines) line h =
    let same : l ≡ line = cc in
    ap (λ (x : SegLine). insert_entry by_head heads (record { zone = g.zone; first = x.event }) (l ∷ lines)) (sym same)

pub head_added : (new es : List (Head × Lists)) (g : Group) (line : SegLine) (v : Lists) → new ≡ insert_entry by_head es (record { zone = g.zone; first = line.event }) v → slice_get v.items 0 ≡ Some line
    → heads_view new ≡ add_head (heads_view es) g v.items
head_added new es g line v is first =
    ap heads_view is ∙ heads_view-insert es (record { zone = g.zone; first = line.event }) v ∙ at_first (heads_view es) g v.items line first
