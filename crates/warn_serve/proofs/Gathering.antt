-- Passes that are gathered.
use Rattle.std.proofs.Common.{◌≡◌, ◌≢◌, ◌+◌, ◌++◌, ◌∷◌, [], ℕ, List, AllPairs, Contains, length, subst, get_or, refl, sym, ◌∙◌, ap, arith, append_assoc, append-nil}
use Rattle.std.proofs.lemmas.List.Elements.{All-push}
use mathlib.Core.List.{IsPrefix}
use Rattle.turn_lock.specs.Passes.{Closes, PassRecord, joined, one_share_fewer, one_share_of}
use Rattle.warn_serve.specs.Gathered.{KeepsWhole}
use Rattle.warn_serve.specs.Sharing.{Gathers, IsShareOf, IsShared, places_of}

pub prefix_on : {E : Type 0} (xs ys zs : List E) → IsPrefix xs ys → IsPrefix ys zs → IsPrefix xs zs
prefix_on {E = E} xs ys zs p q = (p.0 ++ q.0, sym (append_assoc xs p.0 q.0) ∙ (ap (λ (l : List E). l ++ q.0) p.1 ∙ q.1))

module _ {B E : Type 0} where
  places_on : (ps : List (PassRecord B E)) (p : PassRecord B E) → places_of (ps ++ p ∷ []) ≡ places_of ps ++ p.mine
  places_on [] p = append-nil p.mine
  places_on (q ∷ ps) p = ap (λ (l : List ℕ). q.mine ++ l) (places_on ps p) ∙ sym (append_assoc q.mine (places_of ps) p.mine)

  pub gathers_none : (p : PassRecord B E) → Gathers p p []
  gathers_none p = record { lock = refl; base = refl; first = refl; mine = sym (append-nil p.mine); seen = ([], append-nil p.seen); theirs = λ k d less. absurd (omega arith) }

  pub gathers_on : (old mid new p : PassRecord B E) (parts : List (PassRecord B E)) → Gathers old mid parts → new ≡ joined mid p → IsPrefix mid.seen new.seen → IsPrefix p.seen new.seen → Gathers old new (parts ++ p ∷ [])
  gathers_on old mid new p parts g is begins theirs = record {
    lock = ap (λ z. z.lock) is ∙ g.lock;
    base = ap (λ z. z.base) is ∙ g.base;
    first = ap (λ z. z.first) is ∙ g.first;
    mine = ap (λ z. z.mine) is ∙ (ap (λ (l : List ℕ). l ++ p.mine) g.mine ∙ (append_assoc old.mine (places_of parts) p.mine ∙ ap (λ (l : List ℕ). old.mine ++ l) (sym (places_on parts p))));
    seen = prefix_on old.seen mid.seen new.seen g.seen begins;
    theirs = All-push (λ (z : PassRecord B E). IsPrefix z.seen new.seen) parts p (λ k d less. prefix_on (get_or parts k d).seen mid.seen new.seen (g.theirs k d less) begins) theirs;
  }

-- of an empty rest all were given
pub all_given : {W : Type 0} (items yielded rest : List W) (n : ℕ) → items ≡ yielded ++ rest → n ≡ length rest → n ≡ 0 → yielded ≡ items
all_given items yielded [] n is count none = sym (is ∙ append-nil yielded)
all_given items yielded (x ∷ rest) n is count none = absurd (omega (arith, count, none))

-- a share that was split off, and what that leaves
pub is_share : {B E : Type 0} (old now share : PassRecord B E) → share ≡ one_share_of now → KeepsWhole old now → IsShareOf old share
is_share old now share is kept = record {
  lock = ap (λ z. z.lock) is ∙ kept.lock;
  base = ap (λ z. z.base) is ∙ kept.base;
  first = ap (λ z. z.first) is ∙ kept.first;
  seen = ap (λ z. z.seen) is ∙ kept.seen;
  mine = ap (λ z. z.mine) is;
  shares = ap (λ z. z.shares) is;
}

pub keeps_fewer : {B E : Type 0} (old mid new : PassRecord B E) → KeepsWhole old mid → new ≡ one_share_fewer mid → KeepsWhole old new
keeps_fewer old mid new kept is = record {
  lock = ap (λ z. z.lock) is ∙ kept.lock;
  base = ap (λ z. z.base) is ∙ kept.base;
  first = ap (λ z. z.first) is ∙ kept.first;
  seen = ap (λ z. z.seen) is ∙ kept.seen;
  mine = ap (λ z. z.mine) is ∙ kept.mine;
}

-- a share of a pass is one of it when others were split off
pub still_share : {B E : Type 0} (old new share : PassRecord B E) → KeepsWhole old new → IsShareOf old share → IsShareOf new share
still_share old new share kept s = record {
  lock = s.lock ∙ sym kept.lock;
  base = s.base ∙ sym kept.base;
  first = s.first ∙ sym kept.first;
  seen = s.seen ∙ sym kept.seen;
  mine = s.mine;
  shares = s.shares;
}

pub first_share : {B E : Type 0} (old new share : PassRecord B E) → KeepsWhole old new → IsShareOf new share → IsShareOf old share
first_share old new share kept s = record {
  lock = s.lock ∙ kept.lock;
  base = s.base ∙ kept.base;
  first = s.first ∙ kept.first;
  seen = s.seen ∙ kept.seen;
  mine = s.mine;
  shares = s.shares;
}

-- what passes gave that were taken in by a pass of which shares had been split off
pub gathers_from : {B E : Type 0} (old mid new : PassRecord B E) (parts : List (PassRecord B E)) → KeepsWhole old mid → Gathers mid new parts → Gathers old new parts
gathers_from {E = E} old mid new parts kept g = record {
  lock = g.lock ∙ kept.lock;
  base = g.base ∙ kept.base;
  first = g.first ∙ kept.first;
  mine = g.mine ∙ ap (λ (l : List ℕ). l ++ places_of parts) kept.mine;
  seen = subst (λ (l : List E). IsPrefix l new.seen) kept.seen g.seen;
  theirs = g.theirs;
}

-- the closed list, of those who shared it from the opening on
pub is_shared : {B E : Type 0} (old new : PassRecord B E) (parts : List (PassRecord B E)) (base : B) (list : List E) → old.mine ≡ [] → Gathers old new parts → Closes new base list → IsShared old.first list parts
is_shared old new parts base list none g closes =
    let mine : new.mine ≡ places_of parts = g.mine ∙ ap (λ (l : List ℕ). l ++ places_of parts) none in record {
      begins = λ k d less. prefix_on _ new.seen list (g.theirs k d less) closes.begins;
      once = subst (λ (l : List ℕ). AllPairs (λ place later. place ≢ later) l) mine closes.once;
      all = λ place less. subst (λ (l : List ℕ). Contains l (old.first + place)) mine (closes.all (old.first + place) (omega (arith, g.first)) less);
      counted = closes.counted ∙ (let f = g.first in let m = ap length mine in omega arith);
    }
