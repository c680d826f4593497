-- The bytes between two places of a buffer.
use Rattle.std.proofs.Common.{◌≡◌, ℕ, ◌+◌, ◌-◌, ◌≤◌, List, ◌++◌, length, take, drop, ap, sym, ◌∙◌, arith, length-drop, drop-drop}
use Rattle.std.proofs.lemmas.List.{length-take, drop-take}
use Rattle.std.proofs.Math.Seq.{take-add}

-- the bytes from one place to another
abbrev pub between : List ℕ → ℕ → ℕ → List ℕ
between b start end = take (end - start) (drop start b)

pub between_length : (b : List ℕ) (start end : ℕ) → start ≤ end → end ≤ length b → length (between b start end) ≡ end - start
between_length b start end order within = omega (arith, length-take (end - start) (drop start b), length-drop start b, order, within)

-- some of them are taken away from the front
pub between_skip : (b : List ℕ) (start end count : ℕ) → count ≤ end - start → between b (start + count) end ≡ drop count (between b start end)
between_skip b start end count few =
    let is : end - start ≡ count + (end - (start + count)) = omega (arith, few) in
    sym (ap (λ (n : ℕ). drop count (take n (drop start b))) is ∙ drop-take count (end - (start + count)) (drop start b) ∙ ap (take (end - (start + count))) (drop-drop count start b))

-- they are those of every buffer with the same front
pub between_same : (b b' : List ℕ) (start end : ℕ) → start ≤ end → take end b' ≡ take end b → between b' start end ≡ between b start end
between_same b b' start end order same =
    let whole : end ≡ start + (end - start) = omega (arith, order) in
    let front : (x : List ℕ) → drop start (take end x) ≡ between x start end =
    λ x. ap (λ (k : ℕ). drop start (take k x)) whole ∙ drop-take start (end - start) x in
    sym (front b') ∙ ap (drop start) same ∙ front b

-- more stand behind them
pub between_more : (b b' : List ℕ) (start end n : ℕ) → start ≤ end → take end b' ≡ take end b → between b' start (end + n) ≡ between b start end ++ take n (drop end b')
between_more b b' start end n order same =
    let more : end + n - start ≡ (end - start) + n = omega (arith, order) in
    let whole : start + (end - start) ≡ end = omega (arith, order) in
    ap (λ (k : ℕ). take k (drop start b')) more ∙ take-add (end - start) n (drop start b')
    ∙ ap (λ (x : List ℕ). x ++ take n (drop (end - start) (drop start b'))) (between_same b b' start end order same)
    ∙ ap (λ (x : List ℕ). between b start end ++ take n x) (drop-drop (end - start) start b' ∙ ap (λ (k : ℕ). drop k b') whole)

-- they stay where they were moved to, whatever was read behind them
pub kept_still : (first lent moved filled after : List ℕ) (from to start end : ℕ) (bytes mid : List ℕ)
    → between moved start end ≡ between lent from to → lent ≡ first → between first from to ≡ bytes → after ≡ filled
    → start ≤ end → take end filled ≡ take end mid → mid ≡ moved → between after start end ≡ bytes
kept_still first lent moved filled after from to start end bytes mid same is view whole order front back =
    ap (λ (b : List ℕ). between b start end) whole ∙ between_same moved filled start end order (front ∙ ap (take end) back)
    ∙ same ∙ ap (λ (b : List ℕ). between b from to) is ∙ view
