-- An open reader has taken something, of a stream that goes on.
use Rattle.std.proofs.Common.{◌≡◌, ℕ, Bool, true, false, not, sym, refl, subst, true≢false}
use Rattle.std.specs.Prelude.{Option, Some, None, IsSome, IsTrue}
use Rattle.warn_codes_c.specs.declared.archive.Archive.{Archive}
use Rattle.warn_codes_c.specs.Kept.{is_known}

pub is_some : (n : ℕ) (o : Option Archive) → IsTrue (is_known n o) → n ≡ 1 → IsSome o
is_some n None known one = absurd (true≢false (sym (subst (λ (k : ℕ). IsTrue (is_known k None)) one known)))
is_some n (Some a) known one = refl

not_true : (b : Bool) → IsTrue (not b) → b ≡ false
not_true true h = absurd (true≢false (sym h))
not_true false h = refl

pub is_going_on : (n : ℕ) (o : Option Archive) (a : Archive) → IsTrue (is_known n o) → n ≡ 1 → Some a ≡ o → a.feed.ended ≡ false
is_going_on n o a known one is = not_true a.feed.ended (subst (λ (u : ℕ × Option Archive). IsTrue (is_known u.0 u.1)) (λ i. (one i, sym is i)) known)
