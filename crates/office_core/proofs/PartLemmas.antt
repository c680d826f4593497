-- Two tests that decide the same are one.
use Rattle.std.proofs.Common.{◌≡◌, ◌↔◌, Bool, true, false, refl, sym}
use Rattle.std.specs.Bool.{Decides, IsTrue}

pub one_test : (answer test : Bool) (P : Type 0) → IsTrue answer ↔ P → Decides test P → answer ≡ test
one_test true test P is d = sym (d.1 (is.0 refl))
one_test false true P is d = is.1 (d.0 refl)
one_test false false P is d = refl
