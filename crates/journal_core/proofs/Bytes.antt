-- What writes at a gate and behind it leave of a list of bytes.
use Rattle.std.proofs.Common.{◌≡◌, ℕ, ◌+◌, List, [], ◌∷◌, ◌++◌, length, get_or, take, drop, sym, ◌∙◌, ap, arith, append_assoc, length-append, take-append-drop}
use Rattle.std.proofs.lemmas.List.{take_at, drop_at, drop_more}
use Rattle.desk_traits.specs.File.{HasBytes, Torn}

module _ (front : List ℕ) (p : ℕ) (size : length front ≡ p) where
  longer : (gate : ℕ) → length (front ++ gate ∷ []) ≡ p + 1
  longer gate = omega (arith, size, length-append front (gate ∷ []))

  split : (gate : ℕ) (tail : List ℕ) → front ++ gate ∷ tail ≡ (front ++ gate ∷ []) ++ tail
  split gate tail = sym (append_assoc front (gate ∷ []) tail)

  upto_gate : (gate : ℕ) (tail : List ℕ) → take (p + 1) (front ++ gate ∷ tail) ≡ front ++ gate ∷ []
  upto_gate gate tail = ap (λ (l : List ℕ). take (p + 1) l) (split gate tail) ∙ take_at (front ++ gate ∷ []) tail (p + 1) (longer gate)

  behind_gate : (gate : ℕ) (tail : List ℕ) → drop (p + 1) (front ++ gate ∷ tail) ≡ tail
  behind_gate gate tail = ap (λ (l : List ℕ). drop (p + 1) l) (split gate tail) ∙ drop_at (front ++ gate ∷ []) tail (p + 1) (longer gate)

  pub length_gate : (gate : ℕ) (tail : List ℕ) → length (front ++ gate ∷ tail) ≡ p + 1 + length tail
  length_gate gate tail = omega (arith, size, length-append front (gate ∷ tail))

  -- a write behind the gate leaves it
  pub torn_behind : (gate n : ℕ) (tail c : List ℕ) → Torn (p + 1) n (front ++ gate ∷ tail) c → c ≡ front ++ gate ∷ drop (p + 1) c
  torn_behind gate n tail c torn =
      sym (take-append-drop (p + 1) c)
      ∙ ap (λ (l : List ℕ). l ++ drop (p + 1) c) (torn.before ∙ upto_gate gate tail)
      ∙ append_assoc front (gate ∷ []) (drop (p + 1) c)

  pub written_behind : (gate : ℕ) (tail bytes c : List ℕ) → HasBytes (p + 1) bytes (front ++ gate ∷ tail) c → c ≡ front ++ gate ∷ (bytes ++ drop (p + 1 + length bytes) (front ++ gate ∷ tail))
  written_behind gate tail bytes c holds =
      holds
      ∙ ap (λ (l : List ℕ). l ++ (bytes ++ drop (p + 1 + length bytes) (front ++ gate ∷ tail))) (upto_gate gate tail)
      ∙ append_assoc front (gate ∷ []) (bytes ++ drop (p + 1 + length bytes) (front ++ gate ∷ tail))

  -- a write of the gate leaves what stands before it and behind it
  pub torn_gate : (gate : ℕ) (tail c : List ℕ) → Torn p 1 (front ++ gate ∷ tail) c → c ≡ front ++ get_or c p 0 ∷ tail
  torn_gate gate tail c torn =
      sym (take-append-drop p c)
      ∙ ap (λ (l : List ℕ). l ++ drop p c) (torn.before ∙ take_at front (gate ∷ tail) p size)
      ∙ ap (λ (l : List ℕ). front ++ l) (drop_more c p 0 (omega (arith, torn.no_shorter, length_gate gate tail)) ∙ ap (λ (l : List ℕ). get_or c p 0 ∷ l) (torn.after ∙ behind_gate gate tail))

  pub written_gate : (gate new : ℕ) (tail c : List ℕ) → HasBytes p (new ∷ []) (front ++ gate ∷ tail) c → c ≡ front ++ new ∷ tail
  written_gate gate new tail c holds =
      holds
      ∙ ap (λ (l : List ℕ). l ++ new ∷ drop (p + 1) (front ++ gate ∷ tail)) (take_at front (gate ∷ tail) p size)
      ∙ ap (λ (l : List ℕ). front ++ new ∷ l) (behind_gate gate tail)
