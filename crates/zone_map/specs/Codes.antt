-- A zone as one number.
use Rattle.std.specs.Prelude.{◌≡◌, ℕ, zero, suc, ◌+◌, ◌*◌, ◌/◌, ◌%◌, ◌<◌, ◌==◌, [], ◌∷◌, slice_index, if◌then◌else◌}
use Rattle.std.proofs.Common.{◌∙◌, refl, ap, arith}
use Rattle.std.proofs.lemmas.Nat.{div-add-mod'}
use Rattle.std.proofs.Math.Nat.{mod-lt}
use Rattle.hazard_types.specs.Places.{Place, kind_rank}
use Rattle.hazard_types.specs.declared.zone.Kind.{Kind}
use Rattle.hazard_types.specs.declared.zone.Kind.TheVariants.{C, Z}

-- two letters, a bit for the kind, and ten for the number
abbrev pub code_of : Place → ℕ
code_of p = ((slice_index p.state 0 * 256 + slice_index p.state 1) * 2 + kind_rank p.kind) * 1024 + p.number

abbrev pub kind_of : ℕ → Kind
kind_of n = if n == 0 then C else Z

abbrev pub find_index : ℕ → Place
find_index c = record { state = c / 1024 / 2 / 256 ∷ c / 1024 / 2 % 256 ∷ []; kind = kind_of (c / 1024 % 2); number = c % 1024 }

-- the number of a place that a number tells is that number

rank_back : (n : ℕ) → n < 2 → kind_rank (kind_of n) ≡ n
rank_back zero lt = refl
rank_back (suc zero) lt = refl
rank_back (suc (suc n)) lt = absurd (omega arith)

pub code_back : (c : ℕ) → code_of (find_index c) ≡ c
code_back c =
    ap (λ (x : ℕ). (x * 2 + kind_rank (kind_of (c / 1024 % 2))) * 1024 + c % 1024) (div-add-mod' (c / 1024 / 2) 256)
    ∙ ap (λ (x : ℕ). (c / 1024 / 2 * 2 + x) * 1024 + c % 1024) (rank_back (c / 1024 % 2) (mod-lt (c / 1024) (omega arith)))
    ∙ ap (λ (x : ℕ). x * 1024 + c % 1024) (div-add-mod' (c / 1024) 2)
    ∙ div-add-mod' c 1024
