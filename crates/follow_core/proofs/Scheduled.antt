-- What holds along every schedule.
use Rattle.std.proofs.Common.{◌≡◌, ◌∙◌, ◌≤◌, ◌+◌, ◌==◌, ◌&&◌, ℕ, Bool, true, false, List, [], ◌∷◌, ◌++◌, length, take, Option, Some, None, Result, Ok, Err, is_ok, refl, sym, ap, arith, subst, append-nil, append_assoc, length-append, if◌then◌else◌}
use Rattle.std.specs.Prelude.{slice_get, IsOk}
use Rattle.std.specs.List.{AllByRecursion, list_any}
use Rattle.std.proofs.lemmas.Bool.{eqb-true}
use Rattle.std.proofs.lemmas.List.{take_at, length_push}
use Rattle.hazard_types.specs.declared.codes.Class.{Class}
use Rattle.event_life.specs.Products.{Product, rows_of}
use Rattle.event_life.specs.Shown.{shown_at}
use Rattle.product_decoder.specs.Decoded.{decode}
use Rattle.product_decoder.specs.ReaderModel.{Reading, product_of}
use Rattle.product_decoder.specs.declared.types.Decoded.{Decoded}
use Rattle.product_frame.specs.declared.frame.FrameFault.{FrameFault}
use Rattle.follow_core.specs.Hearing.{place_of, found_in, products_in, having_taken}
use Rattle.follow_core.specs.Schedule.{World, Event, Appended, Asked, Delivered, Lost, answer_at, with_text, hearing, happens, run, begun, HasLostNothing}

abbrev IsWhole : List ℕ → Type 0
IsWhole text = IsOk (decode text)

-- the same as HasLostNothing, with the texts that are still to be taken
record Keeps (office : List ℕ) (class : Class) (w : World) : Type 0 where
  pub office_is : w.follower.office ≡ office
  pub class_is : w.follower.class ≡ class
  pub rest : List (List ℕ)
  pub parts : w.texts ≡ w.taken ++ rest
  pub counted : length w.taken ≡ place_of w.follower
  pub whole : AllByRecursion IsWhole w.taken
  pub products : w.follower.products ≡ products_in office class w.taken
  pub asked : AllByRecursion (λ (place : ℕ). place ≤ place_of w.follower) w.asked

products_in-append : (office : List ℕ) (class : Class) (xs ys : List (List ℕ)) → products_in office class (xs ++ ys) ≡ products_in office class xs ++ products_in office class ys
products_in-append office class [] ys = refl
products_in-append office class (x ∷ xs) ys =
    ap (λ (ps : List Product). found_in office class (decode x) ++ ps) (products_in-append office class xs ys)
    ∙ sym (append_assoc (found_in office class (decode x)) (products_in office class xs) (products_in office class ys))

all_append : (P : List ℕ → Type 0) (xs ys : List (List ℕ)) → AllByRecursion P xs → AllByRecursion P ys → AllByRecursion P (xs ++ ys)
all_append P [] ys a b = b
all_append P (x ∷ xs) ys a b = (a.0, all_append P xs ys a.1 b)

all_onward : (m n : ℕ) (places : List ℕ) → m ≤ n → AllByRecursion (λ (place : ℕ). place ≤ m) places → AllByRecursion (λ (place : ℕ). place ≤ n) places
all_onward m n [] le a = tt
all_onward m n (p ∷ ps) le a = (omega (arith, le, a.0), all_onward m n ps le a.1)

-- what stands behind the first ones, where one stands at their number
behind : (xs ys : List (List ℕ)) (y : List ℕ) → slice_get (xs ++ ys) (length xs) ≡ Some y → (zs : List (List ℕ)) × (ys ≡ y ∷ zs)
behind [] [] y h = cc
behind [] (z ∷ zs) y h = (zs, ap (λ (x : List ℕ). x ∷ zs) (some_one z y h))
  where
    some_one : (a b : List ℕ) → ◌≡◌ {A = Option (List ℕ)} (Some a) (Some b) → a ≡ b
    some_one a b h = cc
behind (x ∷ xs) ys y h = behind xs ys y h

-- the parts of a delivery, by whether it is the one asked for, and what the text decodes to

abbrev more : List ℕ → Class → List Product → Bool → Result Decoded FrameFault → List Product
more office class ps b d = if b then ps ++ found_in office class d else ps

more_counted : (office : List ℕ) (class : Class) (ps : List Product) (taken : List (List ℕ)) (text : List ℕ) (b : Bool) (d : Result Decoded FrameFault)
    → length taken ≡ length ps → length (taken ++ with_text (b && is_ok d) text) ≡ length (more office class ps b d)
more_counted office class ps taken text true (Ok d) h = length_push taken text ∙ (ap (λ (n : ℕ). n + 1) h ∙ sym (length_push ps (product_of office class d)))
more_counted office class ps taken text true (Err e) h = ap length (append-nil taken) ∙ (h ∙ sym (ap length (append-nil ps)))
more_counted office class ps taken text false d h = ap length (append-nil taken) ∙ h

more_products : (office : List ℕ) (class : Class) (ps : List Product) (taken : List (List ℕ)) (text : List ℕ) (b : Bool) (d : Result Decoded FrameFault)
    → d ≡ decode text → ps ≡ products_in office class taken → more office class ps b d ≡ products_in office class (taken ++ with_text (b && is_ok d) text)
more_products office class ps taken text true (Ok d) is h =
    ap (λ (qs : List Product). qs ++ found_in office class (Ok d)) h
    ∙ (ap (λ (r : Result Decoded FrameFault). products_in office class taken ++ found_in office class r) is
    ∙ (ap (λ (qs : List Product). products_in office class taken ++ qs) (sym (append-nil (found_in office class (decode text))))
    ∙ sym (products_in-append office class taken (text ∷ []))))
more_products office class ps taken text true (Err e) is h = append-nil ps ∙ (h ∙ sym (ap (products_in office class) (append-nil taken)))
more_products office class ps taken text false d is h = h ∙ sym (ap (products_in office class) (append-nil taken))

more_whole : (taken : List (List ℕ)) (text : List ℕ) (b : Bool) (d : Result Decoded FrameFault)
    → d ≡ decode text → AllByRecursion IsWhole taken → AllByRecursion IsWhole (taken ++ with_text (b && is_ok d) text)
more_whole taken text true (Ok d) is h = all_append IsWhole taken (text ∷ []) h (subst (λ (r : Result Decoded FrameFault). IsOk r) is refl, tt)
more_whole taken text true (Err e) is h = subst (AllByRecursion IsWhole) (sym (append-nil taken)) h
more_whole taken text false d is h = subst (AllByRecursion IsWhole) (sym (append-nil taken)) h

more_onward : (office : List ℕ) (class : Class) (ps : List Product) (b : Bool) (d : Result Decoded FrameFault) → length ps ≤ length (more office class ps b d)
more_onward office class ps true (Ok d) = omega (arith, length_push ps (product_of office class d))
more_onward office class ps true (Err e) = omega (arith, ap length (append-nil ps))
more_onward office class ps false d = omega arith

more_parts : (texts taken rest : List (List ℕ)) (text : List ℕ) (after place : ℕ) (d : Result Decoded FrameFault) (b : Bool) → b ≡ (after == place)
    → texts ≡ taken ++ rest → length taken ≡ place → slice_get texts after ≡ Some text
    → (left : List (List ℕ)) × (texts ≡ (taken ++ with_text (b && is_ok d) text) ++ left)
more_parts texts taken rest text after place (Ok d) true is parts counted h =
    let same = eqb-true after place (sym is) in
    let there : slice_get (taken ++ rest) (length taken) ≡ Some text =
    sym (ap (λ (xs : List (List ℕ)). slice_get xs (length taken)) parts) ∙ (ap (slice_get texts) (counted ∙ sym same) ∙ h) in
    let found = behind taken rest text there in
    (found.0, parts ∙ (ap (λ (xs : List (List ℕ)). taken ++ xs) found.1 ∙ sym (append_assoc taken (text ∷ []) found.0)))
more_parts texts taken rest text after place (Err e) true is parts counted h = (rest, parts ∙ ap (λ (xs : List (List ℕ)). xs ++ rest) (sym (append-nil taken)))
more_parts texts taken rest text after place d false is parts counted h = (rest, parts ∙ ap (λ (xs : List (List ℕ)). xs ++ rest) (sym (append-nil taken)))

heard_onward : (f : Reading) (after : ℕ) (text : List ℕ) → place_of f ≤ place_of (having_taken f after text)
heard_onward f after text = more_onward f.office f.class f.products (after == place_of f) (decode text)

hearing_onward : (w : World) (after : ℕ) (answer : Option (List ℕ)) → place_of w.follower ≤ place_of (hearing w after answer).follower
hearing_onward w after None = omega arith
hearing_onward w after (Some text) = heard_onward w.follower after text

happens_onward : (w : World) (e : Event) → place_of w.follower ≤ place_of (happens w e).follower
happens_onward w (Appended text) = omega arith
happens_onward w Asked = omega arith
happens_onward w (Delivered after) = hearing_onward w after (answer_at w after)
happens_onward w (Lost after) = omega arith

pub never_back : (w : World) (events : List Event) → place_of w.follower ≤ place_of (run events w).follower
never_back w [] = omega arith
never_back w (e ∷ es) = omega (arith, happens_onward w e, never_back (happens w e) es)

not_there : (t : List ℕ) → ◌≡◌ {A = Option (List ℕ)} None (Some t) → ⊥
not_there t h = cc

-- where an answer is there, it is the office's text at that number
answer_is : (w : World) (after : ℕ) (text : List ℕ) → answer_at w after ≡ Some text → slice_get w.texts after ≡ Some text
answer_is w after text h = at _ refl
  where
    at : (b : Bool) → b ≡ list_any (λ (place : ℕ). place == after) w.asked → slice_get w.texts after ≡ Some text
    at true is = subst (λ (b : Bool). (if b then slice_get w.texts after else None) ≡ Some text) (sym is) h
    at false is = absurd (not_there text (subst (λ (b : Bool). (if b then slice_get w.texts after else None) ≡ Some text) (sym is) h))

module _ (office : List ℕ) (class : Class) where
  hearing_keeps : (w : World) (after : ℕ) (answer : Option (List ℕ)) → answer_at w after ≡ answer → Keeps office class w → Keeps office class (hearing w after answer)
  hearing_keeps w after None h k = k
  hearing_keeps w after (Some text) h k =
      let b = after == place_of w.follower in
      let left = more_parts w.texts w.taken k.rest text after (place_of w.follower) (decode text) b refl k.parts k.counted (answer_is w after text h) in
      let same : having_taken w.follower after text ≡ record { office = w.follower.office; class = w.follower.class; products = more office class w.follower.products b (decode text) } =
      ap (λ (o : List ℕ). record { office = w.follower.office; class = w.follower.class; products = more o w.follower.class w.follower.products b (decode text) }) k.office_is
      ∙ ap (λ (c : Class). record { office = w.follower.office; class = w.follower.class; products = more office c w.follower.products b (decode text) }) k.class_is in
      let products : (having_taken w.follower after text).products ≡ more office class w.follower.products b (decode text) = ap (λ (r : Reading). r.products) same in
      record {
        office_is = k.office_is;
        class_is = k.class_is;
        rest = left.0;
        parts = left.1;
        counted = more_counted office class w.follower.products w.taken text b (decode text) k.counted ∙ sym (ap length products);
        whole = more_whole w.taken text b (decode text) refl k.whole;
        products = products ∙ more_products office class w.follower.products w.taken text b (decode text) refl k.products;
        asked = all_onward (place_of w.follower) (place_of (having_taken w.follower after text)) w.asked (heard_onward w.follower after text) k.asked;
      }

  happens_keeps : (w : World) (e : Event) → Keeps office class w → Keeps office class (happens w e)
  happens_keeps w (Appended text) k = record {
    office_is = k.office_is;
    class_is = k.class_is;
    rest = k.rest ++ text ∷ [];
    parts = ap (λ (xs : List (List ℕ)). xs ++ text ∷ []) k.parts ∙ append_assoc w.taken k.rest (text ∷ []);
    counted = k.counted;
    whole = k.whole;
    products = k.products;
    asked = k.asked;
  }
  happens_keeps w Asked k = record {
    office_is = k.office_is;
    class_is = k.class_is;
    rest = k.rest;
    parts = k.parts;
    counted = k.counted;
    whole = k.whole;
    products = k.products;
    asked = (omega arith, k.asked);
  }
  happens_keeps w (Delivered after) k = hearing_keeps w after (answer_at w after) refl k
  happens_keeps w (Lost after) k = k

  run_keeps : (events : List Event) (w : World) → Keeps office class w → Keeps office class (run events w)
  run_keeps [] w k = k
  run_keeps (e ∷ es) w k = run_keeps es (happens w e) (happens_keeps w e k)

  at_first : Keeps office class (begun office class)
  at_first = record { office_is = refl; class_is = refl; rest = []; parts = refl; counted = refl; whole = tt; products = refl; asked = tt }

  told : (w : World) → Keeps office class w → HasLostNothing office class w
  told w k =
      let first : w.taken ≡ take (place_of w.follower) w.texts = sym (ap (take (place_of w.follower)) k.parts ∙ take_at w.taken k.rest (place_of w.follower) k.counted) in
      record {
        first = first;
        within = omega (arith, ap length k.parts ∙ length-append w.taken k.rest, k.counted);
        whole = k.whole;
        products = k.products;
        shown = λ t. ap (λ (ps : List Product). shown_at t (rows_of ps)) (k.products ∙ ap (products_in office class) first);
        asked = k.asked;
      }

  pub nothing_lost : (events : List Event) → HasLostNothing office class (run events (begun office class))
  nothing_lost events = told _ (run_keeps events _ at_first)

run_append : (es : List Event) (e : Event) (w : World) → run (es ++ e ∷ []) w ≡ happens (run es w) e
run_append [] e w = refl
run_append (d ∷ es) e w = run_append es e (happens w d)

-- where a schedule led to a follower, the delivery of the answer leads on
pub delivered : (f : Reading) (events : List Event) (after : ℕ) (text : List ℕ)
    → (run events (begun f.office f.class)).follower ≡ f
    → answer_at (run events (begun f.office f.class)) after ≡ Some text
    → (run (events ++ Delivered after ∷ []) (begun f.office f.class)).follower ≡ having_taken f after text
delivered f events after text reached answer =
    let w = run events (begun f.office f.class) in
    ap (λ (v : World). v.follower) (run_append events (Delivered after) (begun f.office f.class))
    ∙ (ap (λ (a : Option (List ℕ)). (hearing w after a).follower) answer
    ∙ ap (λ (r : Reading). having_taken r after text) reached)

-- the delivery to a follower that a schedule led to lengthens the schedule, and nothing is lost
pub goes_on : (f g : Reading) (after : ℕ) (text : List ℕ) → g ≡ having_taken f after text → (events : List Event)
    → (run events (begun f.office f.class)).follower ≡ f
    → answer_at (run events (begun f.office f.class)) after ≡ Some text
    → ((run (events ++ Delivered after ∷ []) (begun f.office f.class)).follower ≡ g)
    × HasLostNothing f.office f.class (run (events ++ Delivered after ∷ []) (begun f.office f.class))
goes_on f g after text is events reached answer =
    (delivered f events after text reached answer ∙ sym is, nothing_lost f.office f.class (events ++ Delivered after ∷ []))
