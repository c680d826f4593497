-- A link ends by its cause, and causes exclude one another.
use Rattle.std.proofs.Common.{ℕ, ◌≡◌, ◌∙◌, ◌<◌, inl, inr, List, [], ◌∷◌, ◌++◌, length, refl, ap, sym, subst, arith}
use Rattle.warn_http.specs.Calls.{AreAlike, AreCalls, Called, IsCut, IsUnfinished, Stop, most_calls, refused, closed, spent, left}
use Rattle.warn_http.proofs.Streams.{one_stream}
use Rattle.warn_serve.specs.Causes.{EndAlike, EndsInBadTarget, HasCause, IsOver}
use Rattle.desk_links.specs.Links.{LinkState}
use Rattle.warn_serve.specs.Links.{IsServedLink, Said, calls_of}
use Rattle.warn_serve.specs.Wholes.{IsWhole}
use Rattle.warn_serve.specs.declared.links.LinkEnd.{LinkEnd}
use Rattle.warn_serve.specs.declared.links.LinkEnd.TheVariants.{Closed, Cut, Spent, LinkFault, OutOfMemory}
use Rattle.warn_serve.proofs.Calling.{count_calls}

few_calls : (said : List Said) → length said < most_calls → length (calls_of said) < most_calls
few_calls said few = let n = count_calls said in omega (arith, few)

left_at : (read rest : List ℕ) (said : List Said) → IsCut read (calls_of said) rest → length said < most_calls → IsUnfinished rest → AreCalls read (calls_of said) (left rest)
left_at read rest said cut few unfinished = record { open_calls = calls_of said; rest = rest; cut = cut; ends = (refl, refl, few_calls said few, unfinished) }

-- ---- a link has the cause of its end

module _ {P : Type 0} (answers lost : Called → P → P → List ℕ → Type 0) where
  pub cause_of : (old new : LinkState) (pass pass' : P) (end : LinkEnd) (served : IsServedLink answers lost old new pass pass' end) → HasCause old new served.read end
  cause_of old new pass pass' Closed served =
      let r = served.run in
      elim r.ends [
        | inl over ↦ (calls_of r.said, left r.rest, left_at served.read r.rest r.said r.cut r.count over.2, (over.0, over.1))
        | inr (inl closing) ↦
            let c = closing.last_call.called in
            (calls_of r.said ++ c ∷ [], closed, record { open_calls = calls_of r.said; rest = r.rest; cut = r.cut; ends = (c, refl, few_calls r.said r.count, closing.last_call.stands, closing.closes) }, tt)
        | inr (inr refusing) ↦
            (calls_of r.said, refused refusing.broken, record { open_calls = calls_of r.said; rest = r.rest; cut = r.cut; ends = (refl, few_calls r.said r.count, refusing.refused) }, tt)
      ]
  cause_of old new pass pass' Cut served =
      let r = served.run in
      (calls_of r.said, r.rest, left_at served.read r.rest r.said r.cut r.count r.ends.2, r.ends.1, r.ends.0)
  cause_of old new pass pass' Spent served =
      let r = served.run in
      (calls_of r.said, record { open_calls = calls_of r.said; rest = r.rest; cut = r.cut; ends = (refl, count_calls r.said ∙ r.count) })
  cause_of old new pass pass' LinkFault served = served.run.ends.0
  cause_of old new pass pass' OutOfMemory served = tt

-- ---- causes exclude one another

-- some bytes are left behind the calls of one, and the other is over
over_or_left : (new : LinkState) (read rest : List ℕ) (calls others : List Called) (stop : Stop) → AreCalls read calls stop → AreCalls read others (left rest) → IsOver new stop → 0 < length rest → EndsInBadTarget read
over_or_left new read rest calls others stop x y over some = of stop x over (one_stream read calls others stop (left rest) x y)
  where
    of : (s : Stop) → AreCalls read calls s → IsOver new s → (calls ≡ others) × AreAlike s (left rest) → EndsInBadTarget read
    of (left cut) z over (same, inl e) = let f : cut ≡ rest = cc in absurd (omega (arith, some, ap length (sym f ∙ over.1)))
    of (left cut) z over (same, inr (inl stands)) = let e = stands.0 in cc
    of (left cut) z over (same, inr (inr stands)) = let e = stands.0 in cc
    of spent z over same = absurd over
    of closed z over (same, inl e) = cc
    of closed z over (same, inr (inl stands)) = let e = stands.0 in cc
    of closed z over (same, inr (inr stands)) = let e = stands.0 in cc
    of (refused broken) z over (same, inl e) = cc
    of (refused broken) z over (same, inr (inr stands)) = let e = stands.0 in cc
    of (refused broken) z over (same, inr (inl (is, inl e))) = cc
    of (refused broken) z over (same, inr (inl (is, inr (cut, e, within)))) = record {
      calls = calls;
      rest = cut;
      refusing = subst (λ (s : Stop). AreCalls read calls s) is z;
      unfinished = subst (λ (s : Stop). AreCalls read calls s) e (subst (λ (l : List Called). AreCalls read l (left rest)) (sym same) y);
      within = within;
    }

not_spent : (new : LinkState) (stop : Stop) → AreAlike stop spent → IsOver new stop → ⊥
not_spent new (refused broken) (inl e) over = cc
not_spent new (refused broken) (inr (inl (is, inl e))) over = cc
not_spent new (refused broken) (inr (inl (is, inr (cut, e, within)))) over = cc
not_spent new (refused broken) (inr (inr (is, e))) over = cc
not_spent new closed (inl e) over = cc
not_spent new closed (inr (inl (is, e))) over = cc
not_spent new closed (inr (inr (is, e))) over = cc
not_spent new spent alike over = over
not_spent new (left rest) (inl e) over = cc
not_spent new (left rest) (inr (inl (is, e))) over = cc
not_spent new (left rest) (inr (inr (is, e))) over = cc

left_not_spent : (rest : List ℕ) → AreAlike (left rest) spent → ⊥
left_not_spent rest (inl e) = cc
left_not_spent rest (inr (inl (is, e))) = cc
left_not_spent rest (inr (inr (is, e))) = cc

pub apart : (old new old' new' : LinkState) (read : List ℕ) (end other : LinkEnd) → IsWhole end → IsWhole other → HasCause old new read end → HasCause old' new' read other → EndAlike read end other
apart old new old' new' read Closed Closed w v x y = inl refl
apart old new old' new' read Closed Cut w v (calls, stop, x, over) (others, rest, y, some, ended) = inr (over_or_left new read rest calls others stop x y over some, inl (refl, refl))
apart old new old' new' read Closed Spent w v (calls, stop, x, over) (others, y) = absurd (not_spent new stop (one_stream read calls others stop spent x y).1 over)
apart old new old' new' read Cut Closed w v (others, rest, y, some, ended) (calls, stop, x, over) = inr (over_or_left new' read rest calls others stop x y over some, inr (refl, refl))
apart old new old' new' read Cut Cut w v x y = inl refl
apart old new old' new' read Cut Spent w v (calls, rest, x, some, ended) (others, y) = absurd (left_not_spent rest (one_stream read calls others (left rest) spent x y).1)
apart old new old' new' read Spent Closed w v (others, y) (calls, stop, x, over) = absurd (not_spent new' stop (one_stream read calls others stop spent x y).1 over)
apart old new old' new' read Spent Cut w v (others, y) (calls, rest, x, some, ended) = absurd (left_not_spent rest (one_stream read calls others (left rest) spent x y).1)
apart old new old' new' read Spent Spent w v x y = inl refl
apart old new old' new' read LinkFault other w v x y = absurd w
apart old new old' new' read OutOfMemory other w v x y = absurd w
apart old new old' new' read Closed LinkFault w v x y = absurd v
apart old new old' new' read Closed OutOfMemory w v x y = absurd v
apart old new old' new' read Cut LinkFault w v x y = absurd v
apart old new old' new' read Cut OutOfMemory w v x y = absurd v
apart old new old' new' read Spent LinkFault w v x y = absurd v
apart old new old' new' read Spent OutOfMemory w v x y = absurd v

-- ---- two links

module _ {P : Type 0} (answers lost others lacking : Called → P → P → List ℕ → Type 0) where
  pub end_alike : (old new old' new' : LinkState) (pass pass' next next' : P) (end other : LinkEnd) (one : IsServedLink answers lost old new pass pass' end) (two : IsServedLink others lacking old' new' next next' other)
      → one.read ≡ two.read → IsWhole end → IsWhole other → EndAlike one.read end other
  end_alike old new old' new' pass pass' next next' end other one two same whole also =
      apart old new old' new' one.read end other whole also
      (cause_of answers lost old new pass pass' end one)
      (subst (λ (read : List ℕ). HasCause old' new' read other) (sym same) (cause_of others lacking old' new' next next' other two))
