-- The names of desks.
use Rattle.std.specs.Prelude.{◌≡◌, ◌≤◌, ◌-◌, ◌++◌, ◌&&◌, ℕ, Bool, List, length, take, drop, replicate, nat_le, IsTrue}
use Rattle.std.specs.List.{list_all}
use Rattle.std.proofs.Common.{sym, arith, length-take, take-append-drop}
use Rattle.hazard_types.specs.Characters.{is_name_byte}

-- a desk's name: 1 to 16 of A to Z and 0 to 9
abbrev pub is_desk_name : List ℕ → Bool
is_desk_name xs = nat_le 1 (length xs) && nat_le (length xs) 16 && list_all is_name_byte xs

-- a name, filled up with zeros to sixteen bytes
abbrev pub padded : List ℕ → List ℕ
padded xs = xs ++ replicate (16 - length xs) 0

-- sixteen bytes, of which the first `count` are a name and the others zeros
pub record IsName (bytes : List ℕ) (count : ℕ) : Type 0 where
  pub name : IsTrue (is_desk_name (take count bytes))
  pub size : length bytes ≡ 16
  pub within : count ≤ 16
  pub rest : drop count bytes ≡ replicate (16 - count) 0

-- the name of such bytes, filled up with zeros, is the bytes
pub padded_back : (bytes : List ℕ) (count : ℕ) → IsName bytes count
    → (padded (take count bytes) ≡ bytes) × (length (take count bytes) ≡ count)
padded_back bytes count h =
    let size : length (take count bytes) ≡ count =
    omega (arith, length-take count bytes, h.size, h.within) in
    let whole : take count bytes ++ replicate (16 - count) 0 ≡ bytes =
    rw (sym h.rest) (take-append-drop count bytes) in
    (rw size whole, size)
