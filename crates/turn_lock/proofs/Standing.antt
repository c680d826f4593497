-- Entries at their places: what stands in a list when it grows.
use Rattle.std.proofs.Common.{◌≡◌, ℕ, zero, suc, ◌+◌, ◌<◌, List, [], ◌∷◌, ◌++◌, length, get_or, refl, sym, subst, ap, ◌∙◌, arith, ⊎_elim, Some, length-append}
use Rattle.std.specs.Prelude.{slice_get, Contains, Option, IfSome}
use Rattle.std.specs.List.{AllZip}
use Rattle.std.proofs.lemmas.List.Quantifiers.{all_pairs_push}
use Rattle.std.proofs.lemmas.Option.{slice_get_within}
use mathlib.Core.List.{IsPrefix, append_assoc}
use Rattle.turn_lock.specs.Passes.{PassRecord, KeepsRights, TakesTurn, Closes, joined}
use Rattle.turn_lock.specs.Story.{StandAt, IsOfTwo}

module _ {E : Type 0} where
  slice_get-append : (xs ys : List E) (k : ℕ) (e : E) → slice_get xs k ≡ Some e → slice_get (xs ++ ys) k ≡ Some e
  slice_get-append [] ys k e h = cc
  slice_get-append (x ∷ xs) ys zero e h = h
  slice_get-append (x ∷ xs) ys (suc k) e h = slice_get-append xs ys k e h

  slice_get-last : (xs : List E) (e : E) → slice_get (xs ++ e ∷ []) (length xs) ≡ Some e
  slice_get-last [] e = refl
  slice_get-last (x ∷ xs) e = slice_get-last xs e

  abbrev Zip : List E → List ℕ → List E → Type 0
  Zip list places entries = AllZip (λ place entry. slice_get list place ≡ Some entry) places entries

  zip_more : (list more : List E) (places : List ℕ) (entries : List E) → Zip list places entries → Zip (list ++ more) places entries
  zip_more list more [] [] h = h
  zip_more list more [] (e ∷ es) h = h
  zip_more list more (p ∷ ps) [] h = h
  zip_more list more (p ∷ ps) (e ∷ es) h = (slice_get-append list more p e h.0, zip_more list more ps es h.1)

  zip_push : (list : List E) (places : List ℕ) (entries : List E) (p : ℕ) (e : E) → Zip list places entries → slice_get list p ≡ Some e → Zip list (places ++ p ∷ []) (entries ++ e ∷ [])
  zip_push list [] [] p e h at = (at, tt)
  zip_push list [] (y ∷ ys) p e h at = absurd h
  zip_push list (x ∷ xs) [] p e h at = absurd h
  zip_push list (x ∷ xs) (y ∷ ys) p e h at = (h.0, zip_push list xs ys p e h.1 at)

  within : (list : List E) (places : List ℕ) (entries : List E) → Zip list places entries → (k d : ℕ) → k < length places → get_or places k d < length list
  within list [] entries h k d less = absurd (omega arith)
  within list (p ∷ ps) [] h k d less = absurd h
  within list (p ∷ ps) (e ∷ es) h zero d less = slice_get_within list p e h.0
  within list (p ∷ ps) (e ∷ es) h (suc k) d less = within list ps es h.1 k d (omega arith)

  pub stand_none : (list : List E) → StandAt list [] []
  stand_none list = record { each = tt; count = refl; in_order = λ i j d less high. absurd (omega arith) }

  -- one entry more, at the end of a list that begins with the old one
  pub stand_push : (old before after : List E) (places : List ℕ) (entries : List E) (e : E) → StandAt old places entries → IsPrefix old before → after ≡ before ++ e ∷ [] → StandAt after (places ++ length before ∷ []) (entries ++ e ∷ [])
  stand_push old before after places entries e s p is = subst (λ (l : List E). StandAt l (places ++ length before ∷ []) (entries ++ e ∷ [])) (sym is) record {
    each = zip_push (before ++ e ∷ []) places entries (length before) e (zip_more before (e ∷ []) places entries here) (slice_get-last before e);
    count = (let a = length-append places (length before ∷ []) in let b = length-append entries (e ∷ []) in let c = s.count in omega arith);
    in_order = all_pairs_push (λ x y. x < y) places (length before) s.in_order (within before places entries here);
  }
    where
      here : Zip before places entries
      here = subst (λ (l : List E). Zip l places entries) p.1 (zip_more old p.0 places entries s.each)

module _ {T B E Out : Type 0} {base_of : T → B} {story_of : T → List E} {meets : B → List E → List E → Out → Type 0} where
  -- a turn that added this entry
  pub turn_pushes : (old new : PassRecord B E) (answer : Out) (entries : List E) (e : E) → (t : TakesTurn base_of story_of meets old new answer) → story_of t.after ≡ story_of t.before ++ e ∷ [] → StandAt old.seen old.mine entries → StandAt new.seen new.mine (entries ++ e ∷ [])
  turn_pushes old new answer entries e t is s = ⊎_elim
      (λ (stays : (story_of t.after ≡ story_of t.before) × (new.mine ≡ old.mine)).
      let a : length (story_of t.before) ≡ length (story_of t.before ++ e ∷ []) = ap length (sym stays.0 ∙ is) in
      let b = length-append (story_of t.before) (e ∷ []) in
      absurd (omega arith))
      (λ (one : (x : E) × (story_of t.after ≡ story_of t.before ++ x ∷ []) × (new.mine ≡ old.mine ++ length (story_of t.before) ∷ [])).
      subst (λ (z : List E × List ℕ). StandAt z.0 z.1 (entries ++ e ∷ [])) (λ i. (sym t.seen i, sym one.2 i))
      (stand_push old.seen (story_of t.before) (story_of t.after) old.mine entries e s t.begins is))
      t.mine

  pub turn_lengthens : (old new : PassRecord B E) (answer : Out) (e : E) → (t : TakesTurn base_of story_of meets old new answer) → story_of t.after ≡ story_of t.before ++ e ∷ [] → old.shares ≡ 1024 → length new.seen ≡ length old.seen + 1
  turn_lengthens old new answer e t is all =
      ap length (t.seen ∙ is) ∙ (length-append (story_of t.before) (e ∷ []) ∙ ap (λ (l : List E). length l + 1) (t.alone all))

module _ {E : Type 0} where
  stand_more : (list longer : List E) (places : List ℕ) (entries : List E) → IsPrefix list longer → StandAt list places entries → StandAt longer places entries
  stand_more list longer places entries p s = record {
    each = subst (λ (l : List E). Zip l places entries) p.1 (zip_more list p.0 places entries s.each);
    count = s.count;
    in_order = s.in_order;
  }

  prefix_of_prefix : (xs ys zs : List E) → IsPrefix xs ys → IsPrefix ys zs → IsPrefix xs zs
  prefix_of_prefix xs ys zs p q = (p.0 ++ q.0, sym (append_assoc xs p.0 q.0) ∙ (ap (λ (l : List E). l ++ q.0) p.1 ∙ q.1))

module _ {B E : Type 0} where
  pub keeps_both : {p q r : PassRecord B E} → KeepsRights p q → KeepsRights q r → KeepsRights p r
  keeps_both first second = record { lock = second.lock ∙ first.lock; base = second.base ∙ first.base; first = second.first ∙ first.first; shares = second.shares ∙ first.shares }

  -- what two passes added, where the lock was closed by the two joined and began with no entry
  pub of_two : (p q whole : PassRecord B E) (base : B) (list ours theirs : List E) → p.first ≡ 0 → StandAt p.seen p.mine ours → StandAt q.seen q.mine theirs
      → whole ≡ joined p q → IsPrefix p.seen whole.seen → IsPrefix q.seen whole.seen → ((place : ℕ) → Contains p.mine place → ¬ Contains q.mine place) → Closes whole base list → IsOfTwo list ours theirs
  of_two p q whole base list ours theirs none_yet here there is left right apart closes = record {
    our_places = p.mine;
    their_places = q.mine;
    ours_stand = stand_more p.seen list p.mine ours (prefix_of_prefix p.seen whole.seen list left closes.begins) here;
    theirs_stand = stand_more q.seen list q.mine theirs (prefix_of_prefix q.seen whole.seen list right closes.begins) there;
    apart = apart;
    counted =
        (let a = closes.counted in
        let b : length whole.mine ≡ length (p.mine ++ q.mine) = ap (λ (r : PassRecord B E). length r.mine) is in
        let d : whole.first ≡ p.first = ap (λ (r : PassRecord B E). r.first) is in
        let e = length-append p.mine q.mine in
        let f = here.count in
        let h = there.count in
        omega arith);
  }

module _ {A : Type 0} where
  pub at_some : (P : A → Type 0) (o : Option A) (x : A) → o ≡ Some x → IfSome o P → P x
  at_some P o x is h = let t : IfSome (Some x) P = subst (λ (z : Option A). IfSome z P) is h in t
