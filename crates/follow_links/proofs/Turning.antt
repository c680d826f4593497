-- Turns of a run, one after another.
use Rattle.std.proofs.Common.{◌≡◌, ◌∙◌, ◌+◌, ◌≤◌, inl, inr, ℕ, List, [], ◌∷◌, ◌++◌, length, Option, None, Some, refl, sym, ap, arith, subst, append_assoc, length-append}
use Rattle.std.proofs.lemmas.List.{length-map}
use Rattle.std.specs.List.{AllByRecursion}
use Rattle.desk_links.specs.Links.{LinkState}
use Rattle.follow_links.specs.Answers.{Answer}
use Rattle.follow_links.specs.Talks.{bodies}
use Rattle.follow_links.specs.Rounds.{Turn, NotDialed, Talked, rounds_of, rounds_in, fails_of, fails, texts_of, texts_in, AreTold, IsGivenUp, IsLast, EndsAs, stop_with}
use Rattle.follow_links.specs.declared.talk.LinkEnd.{LinkEnd}
use Rattle.follow_links.specs.declared.talk.LinkEnd.TheVariants as link
use Rattle.follow_links.specs.declared.rounds.Stop.{Stop}
use Rattle.follow_links.specs.declared.rounds.Stop.TheVariants.{Spent, Ended, Bad, OutOfMemory}

pub rounds_more : (xs ys : List Turn) → rounds_in (xs ++ ys) ≡ rounds_in xs + rounds_in ys
rounds_more [] ys = omega arith
rounds_more (x ∷ xs) ys = omega (arith, rounds_more xs ys)

pub fails_more : (xs ys : List Turn) → fails (xs ++ ys) ≡ fails xs + fails ys
fails_more [] ys = omega arith
fails_more (x ∷ xs) ys = omega (arith, fails_more xs ys)

pub texts_more : (xs ys : List Turn) → texts_in (xs ++ ys) ≡ texts_in xs ++ texts_in ys
texts_more [] ys = refl
texts_more (x ∷ xs) ys = ap (λ (ts : List (List ℕ)). texts_of x ++ ts) (texts_more xs ys) ∙ sym (append_assoc (texts_of x) (texts_in xs) (texts_in ys))

pub ends_more : (xs ys : List Turn) (stop : Stop) → AllByRecursion IsGivenUp xs → EndsAs ys stop → EndsAs (xs ++ ys) stop
ends_more [] ys stop up h = h
ends_more (x ∷ xs) ys stop up h = inl (up.0, ends_more xs ys stop up.1 h)

pub up_more : (xs : List Turn) (x : Turn) → AllByRecursion IsGivenUp xs → IsGivenUp x → AllByRecursion IsGivenUp (xs ++ x ∷ [])
up_more [] x a b = (b, tt)
up_more (y ∷ ys) x a b = (a.0, up_more ys x a.1 b)

pub told_more : (place next : ℕ) (turns : List Turn) (links : List LinkState) (turns' : List Turn) (links' : List LinkState)
    → next ≡ place + length (texts_in turns) → AreTold place turns links → AreTold next turns' links'
    → AreTold place (turns ++ turns') (links ++ links')
told_more place next [] [] turns' links' is h more = subst (λ (n : ℕ). AreTold n turns' links') (omega (arith, is)) more
told_more place next [] (l ∷ links) turns' links' is h more = absurd h
told_more place next (NotDialed ∷ turns) links turns' links' is h more = told_more place next turns links turns' links' is h more
told_more place next (Talked answers end ∷ turns) [] turns' links' is h more = absurd h
told_more place next (Talked answers end ∷ turns) (l ∷ links) turns' links' is h more =
    let size = length-append (bodies answers) (texts_in turns) in
    let same = length-map answers (λ (a : Answer). a.body) in
    (h.0, told_more (place + length answers) next turns links turns' links' (omega (arith, is, size, same)) h.1 more)

up_spends : (turn : Turn) → IsGivenUp turn → rounds_of turn ≤ length (texts_of turn) + fails_of turn
up_spends NotDialed up = omega arith
up_spends (Talked answers link.Closed) up = omega (arith, length-map answers (λ (a : Answer). a.body))
up_spends (Talked answers link.Failed) up = omega (arith, length-map answers (λ (a : Answer). a.body))
up_spends (Talked answers link.Spent) up = absurd up
up_spends (Talked answers link.Ended) up = absurd up
up_spends (Talked answers link.Bad) up = absurd up
up_spends (Talked answers link.OutOfMemory) up = absurd up

-- a run spends its rounds on a link that asked no more
pub stops_spent : (end : LinkEnd) → stop_with end ≡ Some Spent → end ≡ link.Spent
stops_spent link.Spent is = refl
stops_spent link.Closed is = absurd (let other : ◌≡◌ {A = Option Stop} None (Some Spent) = is in cc)
stops_spent link.Failed is = absurd (let other : ◌≡◌ {A = Option Stop} None (Some Spent) = is in cc)
stops_spent link.Ended is = absurd (let other : ◌≡◌ {A = Option Stop} (Some Ended) (Some Spent) = is in cc)
stops_spent link.Bad is = absurd (let other : ◌≡◌ {A = Option Stop} (Some Bad) (Some Spent) = is in cc)
stops_spent link.OutOfMemory is = absurd (let other : ◌≡◌ {A = Option Stop} (Some OutOfMemory) (Some Spent) = is in cc)

last_spends : (turn : Turn) → IsLast turn Spent → rounds_of turn ≤ length (texts_of turn) + fails_of turn
last_spends NotDialed last = absurd last
last_spends (Talked answers end) last =
    subst (λ (e : LinkEnd). rounds_of (Talked answers e) ≤ length (texts_of (Talked answers e)) + fails_of (Talked answers e)) (sym (stops_spent end last))
    (omega (arith, length-map answers (λ (a : Answer). a.body)))

-- rounds are spent by texts and by faults
pub spends : (turns : List Turn) → EndsAs turns Spent → rounds_in turns ≤ length (texts_in turns) + fails turns
spends [] ends = omega arith
spends (turn ∷ turns) (inl (up, ends)) = omega (arith, up_spends turn up, spends turns ends, length-append (texts_of turn) (texts_in turns))
spends (turn ∷ turns) (inr (none, last)) =
    subst (λ (ts : List Turn). rounds_in (turn ∷ ts) ≤ length (texts_in (turn ∷ ts)) + fails (turn ∷ ts)) (sym none)
    (omega (arith, last_spends turn last, length-append (texts_of turn) []))
