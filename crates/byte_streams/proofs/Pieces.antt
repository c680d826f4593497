-- Pieces of a stream, one after another.
use Rattle.std.proofs.Common.{◌≡◌, ℕ, ◌+◌, ◌-◌, List, ◌++◌, length, take, drop, ap, sym, ◌∙◌, append_assoc, arith, length-drop, drop-drop, Option, None, Some, option_map}
use Rattle.std.proofs.lemmas.List.{take_all, take_at, take-append-drop}
use Rattle.std.proofs.Math.Seq.{take-add}
use Rattle.byte_streams.specs.Flows.{Adds, Takes}

pub adds_both : (old mid new : Option (List ℕ)) (a b c : List ℕ) → Adds old mid a → Adds mid new b → a ++ b ≡ c → Adds old new c
adds_both None mid new a b c p q e = q ∙ ap (option_map (λ (t : List ℕ). t ++ b)) p
adds_both (Some xs) mid new a b c p q e =
    q ∙ ap (option_map (λ (t : List ℕ). t ++ b)) p ∙ ap (λ (t : List ℕ). Some t) (append_assoc xs a b ∙ ap (λ (t : List ℕ). xs ++ t) e)

pub takes_both : (old mid new : Option (List ℕ)) (a b c : List ℕ) → Takes old mid a → Takes mid new b → a ++ b ≡ c → Takes old new c
takes_both old mid None a b c p q e = p ∙ ap (option_map (λ (t : List ℕ). a ++ t)) q
takes_both old mid (Some xs) a b c p q e =
    p ∙ ap (option_map (λ (t : List ℕ). a ++ t)) q ∙ ap (λ (t : List ℕ). Some t) (sym (append_assoc a b xs) ∙ ap (λ (t : List ℕ). t ++ xs) e)

pub piece_length : (bs : List ℕ) (at : ℕ) → length (take (length bs - at) (drop at bs)) ≡ length bs - at
piece_length bs at = rw (take_all (length bs - at) (drop at bs) (omega (arith, length-drop at bs))) (length-drop at bs)

pub next_piece : (bs : List ℕ) (at n : ℕ) → take at bs ++ take n (take (length bs - at) (drop at bs)) ≡ take (at + n) bs
next_piece bs at n = rw (take_all (length bs - at) (drop at bs) (omega (arith, length-drop at bs))) (sym (take-add at n bs))

pub read_piece : (bs first rest : List ℕ) (at n : ℕ) → length first ≡ n → first ≡ take n (take (length bs - at) (drop at bs)) → drop at bs ≡ take n (first ++ rest) ++ drop (at + n) bs
read_piece bs first rest at n len e =
    rw (take_at first rest n len, e, take_all (length bs - at) (drop at bs) (omega (arith, length-drop at bs)), ← drop-drop) (sym (take-append-drop n (drop at bs)))
