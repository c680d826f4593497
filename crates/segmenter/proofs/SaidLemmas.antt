-- What a text says of a product's lines: each of them, once.
use Rattle.std.proofs.Common.{◌≡◌, ◌∙◌, ◌⊎◌, inl, inr, zero, suc, arith, List, [], ◌∷◌, ◌++◌, Less, Bool, true, false, cond, fold, map, refl, ap, sym, subst}
use Rattle.std.specs.Prelude.{◌≢◌, ◌↔◌}
use Rattle.std.specs.List.{filter, flat_map, AllByRecursion, AllPairs, Contains}
use Rattle.std.specs.List.Sorted.{IsStrictlySortedBy}
use Rattle.std.specs.Ordering.{is_lt}
use Rattle.std.proofs.lemmas.Cmp.{tied_itself}
use Rattle.std.proofs.lemmas.List.Elements.{All-from_recursion, recursion_from_All}
use Rattle.std.proofs.lemmas.List.Kept.{AllPairs-cons}
use Rattle.hazard_types.specs.Places.{Place, by_place}
use Rattle.hazard_types.specs.declared.line.Line.{Line}
use Rattle.hazard_types.specs.declared.line.SegLine.{SegLine}
use Rattle.hazard_types.specs.declared.line.Segment.{Segment}
use Rattle.hazard_types.proofs.OrderLaws.{by_place_total}
use Rattle.segmenter.specs.declared.groups.Group.{Group}
use Rattle.segmenter.specs.Groups.{flood_event, group_of, without_zone, same_group, by_line, placed, lines_of}
use Rattle.segmenter.specs.Laws.{IsSaid}
use Rattle.segmenter.specs.Said.{line_in, lines_in_zone, lines_in_segment, lines_in_text, IsApart}
use Rattle.segmenter.specs.Segments.{Has, AreSegments}
use Rattle.segmenter.proofs.GroupLemmas.{group_one, line_from}
use Rattle.segmenter.proofs.HasLemmas.{all_at, all_from, has_kept, has_mapped, has_some, mapped_from}
use Rattle.segmenter.proofs.LawLemmas.{said}
use Rattle.segmenter.proofs.OrderLemmas.{all_placed}

-- ---- what a list has, by places

module _ {X : Type 0} where
  pub contains_from : (xs : List X) (x : X) → Has xs x → Contains xs x
  contains_from [] x h = absurd h
  contains_from (y ∷ xs) x (inl e) = (0, omega arith, sym e)
  contains_from (y ∷ xs) x (inr h) = let m = contains_from xs x h in (suc m.0, omega (arith, m.1), m.2)

  pub contains_to : (xs : List X) (x : X) → Contains xs x → Has xs x
  contains_to [] x (k, lt, at) = absurd (omega (arith, lt))
  contains_to (y ∷ xs) x (zero, lt, at) = inl (sym at)
  contains_to (y ∷ xs) x (suc k, lt, at) = inr (contains_to xs x (k, omega (arith, lt), at))

  -- ---- each to each later one

  abbrev pub Pairs : (X → X → Type 0) → List X → Type 0
  Pairs R [] = Unit {0}
  Pairs R (x ∷ xs) = AllByRecursion (R x) xs × Pairs R xs

  pairs_to : (R : X → X → Type 0) (xs : List X) → Pairs R xs → AllPairs R xs
  pairs_to R [] all = λ i j d le lt. absurd (omega (arith, lt))
  pairs_to R (x ∷ xs) all = AllPairs-cons R x xs (All-from_recursion (R x) xs all.0) (pairs_to R xs all.1)

  pairs_of : (R : X → X → Type 0) (xs : List X) → AllPairs R xs → Pairs R xs
  pairs_of R [] each = tt
  pairs_of R (x ∷ xs) each = (
    recursion_from_All (R x) xs (λ j d lt. each 0 (suc j) d (omega arith) (omega (arith, lt))),
    pairs_of R xs (λ i j d le lt. each (suc i) (suc j) d (omega (arith, le)) (omega (arith, lt))),
  )

  all_joined : (P : X → Type 0) (xs ys : List X) → AllByRecursion P xs → AllByRecursion P ys → AllByRecursion P (xs ++ ys)
  all_joined P [] ys all more = more
  all_joined P (x ∷ xs) ys all more = (all.0, all_joined P xs ys all.1 more)

  pairs_joined : (R : X → X → Type 0) (xs ys : List X) → Pairs R xs → Pairs R ys → ((x y : X) → Has xs x → Has ys y → R x y) → Pairs R (xs ++ ys)
  pairs_joined R [] ys own more across = more
  pairs_joined R (x ∷ xs) ys own more across = (
    all_joined (R x) xs ys own.0 (all_from (R x) ys (λ y h. across x y (inl refl) h)),
    pairs_joined R xs ys own.1 more (λ a b h k. across a b (inr h) k),
  )

  has_joined : (xs ys : List X) (x : X) → Has (xs ++ ys) x → Has xs x ⊎ Has ys x
  has_joined [] ys x h = inr h
  has_joined (y ∷ xs) ys x (inl e) = inl (inl e)
  has_joined (y ∷ xs) ys x (inr h) = elim (has_joined xs ys x h) as (λ _. Has (y ∷ xs) x ⊎ Has ys x) [ inl l ↦ inl (inr l) | inr r ↦ inr r ]

  joins_left : (xs ys : List X) (x : X) → Has xs x → Has (xs ++ ys) x
  joins_left [] ys x h = absurd h
  joins_left (y ∷ xs) ys x (inl e) = inl e
  joins_left (y ∷ xs) ys x (inr h) = inr (joins_left xs ys x h)

  joins_right : (xs ys : List X) (x : X) → Has ys x → Has (xs ++ ys) x
  joins_right [] ys x h = h
  joins_right (y ∷ xs) ys x h = inr (joins_right xs ys x h)

module _ {X Y : Type 0} (f : X → List Y) where
  flat_from : (xs : List X) (y : Y) → Has (flat_map f xs) y → (x : X) × Has xs x × Has (f x) y
  flat_from [] y h = absurd h
  flat_from (x ∷ xs) y h =
      elim (has_joined (f x) (flat_map f xs) y h) as (λ _. (x' : X) × Has (x ∷ xs) x' × Has (f x') y) [
        | inl l ↦ (x, inl refl, l)
        | inr r ↦ let m = flat_from xs y r in (m.0, inr m.1, m.2)
      ]

  flat_to : (xs : List X) (x : X) (y : Y) → Has xs x → Has (f x) y → Has (flat_map f xs) y
  flat_to [] x y h own = absurd h
  flat_to (z ∷ xs) x y (inl e) own = joins_left (f z) (flat_map f xs) y (subst (λ (w : X). Has (f w) y) e own)
  flat_to (z ∷ xs) x y (inr h) own = joins_right (f z) (flat_map f xs) y (flat_to xs x y h own)

  -- the pieces are fine in themselves, and any two of them beside one another
  pairs_flat : (R : Y → Y → Type 0) (S : X → X → Type 0) → ((a b : X) → S a b → (c d : Y) → Has (f a) c → Has (f b) d → R c d)
      → (xs : List X) → AllByRecursion (λ x. Pairs R (f x)) xs → Pairs S xs → Pairs R (flat_map f xs)
  pairs_flat R S across [] own apart = tt
  pairs_flat R S across (x ∷ xs) own apart =
      pairs_joined R (f x) (flat_map f xs) own.0 (pairs_flat R S across xs own.1 apart.1)
      (λ c d h k. let m = flat_from xs d k in across x m.0 (all_at (S x) xs m.0 apart.0 m.1) c d h m.2)

module _ {X Y : Type 0} (g : X → Y) where
  each_mapped : (P : Y → Type 0) (xs : List X) → AllByRecursion P (map g xs) → AllByRecursion (λ a. P (g a)) xs
  each_mapped P [] all = tt
  each_mapped P (x ∷ xs) all = (all.0, each_mapped P xs all.1)

  pairs_mapped : (R : Y → Y → Type 0) (xs : List X) → Pairs R (map g xs) → Pairs (λ a b. R (g a) (g b)) xs
  pairs_mapped R [] all = tt
  pairs_mapped R (x ∷ xs) all = (each_mapped (R (g x)) xs all.0, pairs_mapped R xs all.1)

  each_to_mapped : (P : Y → Type 0) (xs : List X) → AllByRecursion (λ a. P (g a)) xs → AllByRecursion P (map g xs)
  each_to_mapped P [] all = tt
  each_to_mapped P (x ∷ xs) all = (all.0, each_to_mapped P xs all.1)

  pairs_to_mapped : (R : Y → Y → Type 0) (xs : List X) → Pairs (λ a b. R (g a) (g b)) xs → Pairs R (map g xs)
  pairs_to_mapped R [] all = tt
  pairs_to_mapped R (x ∷ xs) all = (each_to_mapped (R (g x)) xs all.0, pairs_to_mapped R xs all.1)

-- ---- the lines of a text are those of the product

parts_same : (a b : Line) → a.zone ≡ b.zone → without_zone a ≡ without_zone b → a ≡ b
parts_same a b zone_is line_is =
    let said_is : line_in a.zone (without_zone a) ≡ line_in b.zone (without_zone b) = λ i. line_in (zone_is i) (line_is i) in said_is

said_of : (segments : List Segment) (line : Line) → Has (lines_in_text segments) line → IsSaid segments line.zone (without_zone line)
said_of segments line h =
    let s = flat_from lines_in_segment segments line h in
    let z = flat_from (lines_in_zone s.0.lines) s.0.zones line s.2 in
    let l = mapped_from (line_in z.0) s.0.lines line z.2 in
    let line_is : line ≡ line_in z.0 l.0 = l.2 in (
      s.0,
      s.1,
      subst (λ (p : Place). Has s.0.zones p) (ap (λ (x : Line). x.zone) (sym line_is)) z.1,
      subst (λ (k : SegLine). Has s.0.lines k) (ap without_zone (sym line_is)) l.1,
    )

text_has : (segments : List Segment) (line : Line) → IsSaid segments line.zone (without_zone line) → Has (lines_in_text segments) line
text_has segments line (s, has, zone, own) =
    flat_to lines_in_segment segments s line has
    (flat_to (lines_in_zone s.lines) s.zones line.zone line zone (has_mapped (line_in line.zone) s.lines (without_zone line) own))

pub in_text : (lines : List Line) (segments : List Segment) → AreSegments lines segments → (line : Line) → Contains (lines_in_text segments) line ↔ Contains lines line
in_text lines segments are line = (
  λ h. let m = (said lines segments are line.zone (without_zone line)).0 (said_of segments line (contains_to (lines_in_text segments) line h)) in
      let same : m.0 ≡ line = parts_same m.0 line m.2 m.3 in
      contains_from lines line (subst (λ (x : Line). Has lines x) same m.1),
  λ h. contains_from (lines_in_text segments) line
      (text_has segments line ((said lines segments are line.zone (without_zone line)).1 (line, contains_to lines line h, refl, refl))),
)

-- ---- the lines of a group are of different events

abbrev Differ : SegLine → SegLine → Type 0
Differ k l = k.event ≢ l.event

differ_back : (k l : SegLine) → Differ k l → Differ l k
differ_back k l differs e = differs (sym e)

pairs_before : (b : Bool) (line other : SegLine) (others : List SegLine) → AllByRecursion (Differ line) (other ∷ others) → Pairs Differ (other ∷ others) → Pairs Differ (placed line others)
    → Pairs Differ (cond b (line ∷ other ∷ others) (other ∷ placed line others))
pairs_before true line other others apart pairs more = (apart, pairs)
pairs_before false line other others apart pairs more = (all_placed (Differ other) line others (differ_back line other apart.0) pairs.0, more)

pairs_placed : (line : SegLine) (others : List SegLine) → AllByRecursion (Differ line) others → Pairs Differ others → Pairs Differ (placed line others)
pairs_placed line [] apart pairs = (tt, tt)
pairs_placed line (other ∷ others) apart pairs = pairs_before (is_lt (by_line line other)) line other others apart pairs (pairs_placed line others apart.1 pairs.1)

abbrev in_turn : List SegLine → List Line → List SegLine
in_turn ordered lines = fold (λ (so_far : List SegLine) (line : Line). placed (without_zone line) so_far) ordered lines

-- each line to come differs from those that stand
abbrev AreNew : List SegLine → List Line → Type 0
AreNew ordered lines = AllByRecursion (λ (line : Line). AllByRecursion (Differ (without_zone line)) ordered) lines

new_placed : (line : Line) (ordered : List SegLine) (lines : List Line) → AllByRecursion (λ (m : Line). line.event ≢ m.event) lines → AreNew ordered lines → AreNew (placed (without_zone line) ordered) lines
new_placed line ordered [] apart new = tt
new_placed line ordered (m ∷ lines) apart new = (
  all_placed (Differ (without_zone m)) (without_zone line) ordered (differ_back (without_zone line) (without_zone m) apart.0) new.0,
  new_placed line ordered lines apart.1 new.1,
)

turn_differs : (ordered : List SegLine) (lines : List Line) → Pairs Differ ordered → AreNew ordered lines → Pairs (λ (l m : Line). l.event ≢ m.event) lines → Pairs Differ (in_turn ordered lines)
turn_differs ordered [] pairs new apart = pairs
turn_differs ordered (line ∷ lines) pairs new apart =
    turn_differs (placed (without_zone line) ordered) lines (pairs_placed (without_zone line) ordered new.0 pairs) (new_placed line ordered lines apart.0 new.1) apart.1

none_new : (lines : List Line) → AreNew [] lines
none_new [] = tt
none_new (line ∷ lines) = (tt, none_new lines)

-- of one group, apart in event and zone, they differ in event
kept_step : (g : Group) (b : Bool) (line : Line) (lines : List Line) → same_group g (group_of line) ≡ b
    → AllByRecursion (IsApart line) lines → Pairs (λ (l m : Line). l.event ≢ m.event) (filter (λ l. same_group g (group_of l)) lines)
    → Pairs (λ (l m : Line). l.event ≢ m.event) (cond b (line ∷ filter (λ l. same_group g (group_of l)) lines) (filter (λ l. same_group g (group_of l)) lines))
kept_step g true line lines is apart more = (
  all_from (λ (m : Line). line.event ≢ m.event) (filter (λ l. same_group g (group_of l)) lines) (λ m h e.
      let kept = has_kept (λ (l : Line). same_group g (group_of l)) lines m h in
      let zone_is : line.zone ≡ m.zone = ap (λ (k : Group). k.zone) (sym (group_one g (group_of line) is) ∙ group_one g (group_of m) kept.1) in
      all_at (IsApart line) lines m apart kept.0 (e, zone_is)),
  more,
)
kept_step g false line lines is apart more = more

group_apart : (g : Group) (lines : List Line) → Pairs IsApart lines → Pairs (λ (l m : Line). l.event ≢ m.event) (filter (λ l. same_group g (group_of l)) lines)
group_apart g [] apart = tt
group_apart g (line ∷ lines) apart = kept_step g (same_group g (group_of line)) line lines refl apart.0 (group_apart g lines apart.1)

lines_differ : (lines : List Line) (g : Group) → Pairs IsApart lines → Pairs Differ (lines_of lines g)
lines_differ lines g apart = turn_differs [] (filter (λ line. same_group g (group_of line)) lines) tt (none_new (filter (λ line. same_group g (group_of line)) lines)) (group_apart g lines apart)

-- ---- nothing is said twice

in_zone : (z : Place) (k l : SegLine) → Differ k l → IsApart (line_in z k) (line_in z l)
in_zone z k l differs both = differs both.0

pairs_weaker : (ls : List SegLine) (z : Place) → Pairs Differ ls → Pairs (λ k l. IsApart (line_in z k) (line_in z l)) ls
pairs_weaker [] z all = tt
pairs_weaker (k ∷ ls) z all = (all_from (λ l. IsApart (line_in z k) (line_in z l)) ls (λ l h. in_zone z k l (all_at (Differ k) ls l all.0 h)), pairs_weaker ls z all.1)

zones_differ : (zones : List Place) → IsStrictlySortedBy by_place zones → Pairs (λ (y z : Place). y ≢ z) zones
unfolding IsStrictlySortedBy
zones_differ [] sorted = tt
zones_differ (z ∷ zones) sorted = (
  all_from (λ (y : Place). z ≢ y) zones (λ y h e.
      let less = all_at (λ (x : Place). by_place z x ≡ Less) zones y sorted.0 h in
      let tied = ap (by_place z) (sym e) ∙ tied_itself by_place_total z in cc),
  zones_differ zones sorted.1,
)

zone_of_line : (ls : List SegLine) (z : Place) (line : Line) → Has (lines_in_zone ls z) line → line.zone ≡ z
zone_of_line ls z line h = let m = mapped_from (line_in z) ls line h in ap (λ (x : Line). x.zone) m.2

in_segment : (s : Segment) → Pairs Differ s.lines → IsStrictlySortedBy by_place s.zones → Pairs IsApart (lines_in_segment s)
in_segment s differ sorted =
    pairs_flat (lines_in_zone s.lines) IsApart (λ (y z : Place). y ≢ z)
    (λ y z apart c d h k both. apart (sym (zone_of_line s.lines y c h) ∙ both.1 ∙ zone_of_line s.lines z d k))
    s.zones (all_from (λ z. Pairs IsApart (lines_in_zone s.lines z)) s.zones (λ z h. pairs_to_mapped (line_in z) IsApart s.lines (pairs_weaker s.lines z differ)))
    (zones_differ s.zones sorted)

module _ (lines : List Line) (segments : List Segment) (are : AreSegments lines segments) where
  -- a line that a segment says is of a group whose list it has
  group_said : (s : Segment) → Has segments s → (line : Line) → Has (lines_in_segment s) line
      → (g : Group) × (lines_of lines g ≡ s.lines) × (g.zone ≡ line.zone) × (g.flood ≡ flood_event line.event)
  group_said s has line h =
      let z = flat_from (lines_in_zone s.lines) s.zones line h in
      let l = mapped_from (line_in z.0) s.lines line z.2 in
      let g = (are.zones s has z.0).0 z.1 in
      let own = line_from lines g.0 l.0 (subst (λ (ls : List SegLine). Has ls l.0) (sym g.2) l.1) in (
        g.0,
        g.2,
        g.1 ∙ ap (λ (x : Line). x.zone) (sym l.2),
        ap (λ (k : Group). k.flood) own.2 ∙ ap (λ (k : SegLine). flood_event k.event) (sym own.3) ∙ ap (λ (x : Line). flood_event x.event) (sym l.2),
      )

  across : (s t : Segment) → (Has segments s × Has segments t) × (s.lines ≢ t.lines) → (c d : Line) → Has (lines_in_segment s) c → Has (lines_in_segment t) d → IsApart c d
  across s t both c d h k same =
      let g = group_said s both.0.0 c h in
      let e = group_said t both.0.1 d k in
      let zone_is : g.0.zone ≡ e.0.zone = g.2 ∙ same.1 ∙ sym e.2 in
      let flood_is : g.0.flood ≡ e.0.flood = g.3 ∙ ap flood_event same.0 ∙ sym e.3 in
      let group_is : g.0 ≡ e.0 = λ i. record { zone = zone_is i; flood = flood_is i } in
      both.1 (sym g.1 ∙ ap (lines_of lines) group_is ∙ e.1)

  with_members : (ss : List Segment) → ((s : Segment) → Has ss s → Has segments s) → Pairs (λ (s t : Segment). s.lines ≢ t.lines) ss
      → Pairs (λ (s t : Segment). (Has segments s × Has segments t) × (s.lines ≢ t.lines)) ss
  with_members [] within apart = tt
  with_members (s ∷ ss) within apart = (
    all_from (λ (t : Segment). (Has segments s × Has segments t) × (s.lines ≢ t.lines)) ss
        (λ t h. ((within s (inl refl), within t (inr h)), all_at (λ (x : Segment). s.lines ≢ x.lines) ss t apart.0 h)),
    with_members ss (λ t h. within t (inr h)) apart.1,
  )

  segment_differs : Pairs IsApart lines → (s : Segment) → Has segments s → Pairs Differ s.lines
  segment_differs apart s has =
      let full = all_at (λ (x : Segment). (x.zones ≢ []) × (x.lines ≢ [])) segments s are.some has in
      let zone = has_some s.zones full.0 in
      let g = (are.zones s has zone.0).0 zone.1 in
      subst (λ (ls : List SegLine). Pairs Differ ls) g.2 (lines_differ lines g.0 apart)

  said_apart : Pairs IsApart lines → Pairs IsApart (lines_in_text segments)
  said_apart apart =
      pairs_flat lines_in_segment IsApart (λ (s t : Segment). (Has segments s × Has segments t) × (s.lines ≢ t.lines)) across segments
      (all_from (λ s. Pairs IsApart (lines_in_segment s)) segments
      (λ s has. in_segment s (segment_differs apart s has) (all_at (λ (x : Segment). IsStrictlySortedBy by_place x.zones) segments s are.sorted has)))
      (with_members segments (λ s has. has) (pairs_mapped (λ (s : Segment). s.lines) (λ k l. k ≢ l) segments (pairs_of (λ k l. k ≢ l) (map (λ (s : Segment). s.lines) segments) are.apart)))

pub apart_in_text : (lines : List Line) (segments : List Segment) → AreSegments lines segments → AllPairs IsApart lines → AllPairs IsApart (lines_in_text segments)
apart_in_text lines segments are apart = pairs_to IsApart (lines_in_text segments) (said_apart lines segments are (pairs_of IsApart lines apart))
