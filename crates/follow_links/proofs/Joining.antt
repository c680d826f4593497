-- What is taken or added in two steps.
use Rattle.std.proofs.Common.{◌≡◌, ◌∙◌, ◌≤◌, ◌+◌, ℕ, List, [], ◌++◌, Option, Some, None, refl, sym, ap, arith, append_assoc, append-nil}
use Rattle.std.specs.Prelude.{option_map}
use Rattle.desk_traits.specs.Faults.{Rose}
use Rattle.byte_streams.specs.Flows.{Takes, Adds}
use Rattle.desk_links.specs.Links.{IsNone}
use Rattle.follow_links.specs.Rounds.{IsWritten, RoseBy}

pub takes_none : (a : Option (List ℕ)) → Takes a a []
takes_none None = refl
takes_none (Some t) = refl

pub takes_more : (a b c : Option (List ℕ)) (xs ys : List ℕ) → Takes a b xs → Takes b c ys → Takes a c (xs ++ ys)
takes_more a b None xs ys h k = h ∙ ap (option_map (λ (rest : List ℕ). xs ++ rest)) k
takes_more a b (Some z) xs ys h k = h ∙ (ap (option_map (λ (rest : List ℕ). xs ++ rest)) k ∙ ap (λ (l : List ℕ). Some l) (sym (append_assoc xs ys z)))

pub adds_none : (a : Option (List ℕ)) → Adds a a []
adds_none None = refl
adds_none (Some t) = ap (λ (l : List ℕ). Some l) (sym (append-nil t))

pub adds_more : (a b c : Option (List ℕ)) (xs ys : List ℕ) → Adds a b xs → Adds b c ys → Adds a c (xs ++ ys)
adds_more None b c xs ys h k = k ∙ ap (option_map (λ (t : List ℕ). t ++ ys)) h
adds_more (Some t) b c xs ys h k = k ∙ (ap (option_map (λ (u : List ℕ). u ++ ys)) h ∙ ap (λ (l : List ℕ). Some l) (append_assoc t xs ys))

some_is : (a b : List ℕ) → ◌≡◌ {A = Option (List ℕ)} (Some a) (Some b) → a ≡ b
some_is a b h = cc

-- what was added where nothing was
pub written_alone : (a b : Option (List ℕ)) (xs : List ℕ) → IsNone a → Adds a b xs → IsWritten b xs
written_alone a None xs none h = tt
written_alone None (Some t) xs none h = absurd (not_none t h)
  where
    not_none : (t : List ℕ) → ◌≡◌ {A = Option (List ℕ)} (Some t) None → ⊥
    not_none t h = cc
written_alone (Some s) (Some t) xs none h = some_is t (s ++ xs) h ∙ ap (λ (l : List ℕ). l ++ xs) none

pub rose_later : (old mid new : ℕ) → old ≤ mid → Rose mid new → Rose old new
rose_later old mid new le rose = omega (arith, le, rose)

pub rose_none : (n : ℕ) → RoseBy 0 n n
rose_none n = omega arith

pub rose_more : (a b old mid new : ℕ) → RoseBy a old mid → RoseBy b mid new → RoseBy (a + b) old new
rose_more a b old mid new h k = omega (arith, h, k)
