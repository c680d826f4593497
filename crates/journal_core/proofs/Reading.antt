-- What stands at a place of a file, from the pieces that were read.
use Rattle.std.proofs.Common.{◌≡◌, ◌≢◌, ℕ, ◌+◌, ◌<◌, ◌≤◌, List, [], ◌∷◌, ◌++◌, length, get_or, take, drop, Option, None, Some, sym, ◌∙◌, ap, arith, length-drop, take-append-drop, drop-drop, append_assoc}
use Rattle.std.proofs.lemmas.List.{drop_more}
use Rattle.std.specs.Int.{w32, to_be_bytes, from_be_bytes}
use Rattle.desk_traits.specs.File.{Gives, IsLength}
use Rattle.journal_core.specs.Image.{spelled, Fits}
use Rattle.journal_core.specs.Adopt.{NoGate, Steps}
use Rattle.journal_core.specs.declared.adopt.Step.TheVariants.{Body, Cut}

piece : (at k : ℕ) (f : List ℕ) → drop at f ≡ take k (drop at f) ++ drop (at + k) f
piece at k f = sym (take-append-drop k (drop at f)) ∙ ap (λ (l : List ℕ). take k (drop at f) ++ l) (drop-drop k at f)

first_of : (at : ℕ) (f gate : List ℕ) → at < length f → length gate ≡ 1 → gate ≡ take (length gate) (drop at f) → drop at f ≡ get_or gate 0 0 ∷ drop (at + 1) f
first_of at f gate lt one is =
    let here : drop at f ≡ get_or f at 0 ∷ drop (at + 1) f = drop_more f at 0 lt in
    let is_first : gate ≡ get_or f at 0 ∷ [] = is ∙ ap (λ (n : ℕ). take n (drop at f)) one ∙ ap (λ (l : List ℕ). take 1 l) here in
    here ∙ ap (λ (g : ℕ). g ∷ drop (at + 1) f) (sym (ap (λ (l : List ℕ). get_or l 0 0) is_first))

shut_at : (at : ℕ) (f gate : List ℕ) → at < length f → length gate ≡ 1 → gate ≡ take (length gate) (drop at f) → get_or gate 0 0 ≢ 71 → NoGate (drop at f)
shut_at at f gate lt one is shut = record { gate = get_or gate 0 0; more = drop (at + 1) f; is = first_of at f gate lt one is; shut = shut }

pub steps_cut : (at n size : ℕ) (o : Option (List ℕ)) (gate head : List ℕ) → IsLength n o → at < n → length gate ≡ 1 → Gives at gate o → get_or gate 0 0 ≡ 71
    → Gives (at + 1) head o → length head ≡ 4 → size ≡ from_be_bytes w32 head → n ≤ at + 5 + size → Steps at Cut o
steps_cut at n size None gate head len lt one gives open_gate gives_head four size_is short = tt
steps_cut at n size (Some f) gate head len lt one gives open_gate gives_head four size_is short =
    let within : at < length f = omega arith in
    let head_is : take 4 (drop (at + 1) f) ≡ head = ap (λ (k : ℕ). take k (drop (at + 1) f)) (sym four) ∙ sym gives_head in
    let same : size ≡ from_be_bytes w32 (take 4 (drop (at + 1) f)) = size_is ∙ ap (from_be_bytes w32) (sym head_is) in
    record { more = drop (at + 1) f; is = first_of at f gate within one gives ∙ ap (λ (g : ℕ). g ∷ drop (at + 1) f) open_gate; short = omega (arith, same, length-drop (at + 1) f) }

pub steps_whole : (at n : ℕ) (o : Option (List ℕ)) (gate head body : List ℕ) → IsLength n o → at + 5 + length body < n → length gate ≡ 1 → Gives at gate o → get_or gate 0 0 ≡ 71
    → Gives (at + 1) head o → length head ≡ 4 → to_be_bytes w32 (length body) ≡ head → Gives (at + 5) body o → Fits body → Steps at (Body body) o
unfolding spelled
steps_whole at n None gate head body len lt one gives open_gate gives_head four head_is gives_body fits = tt
steps_whole at n (Some f) gate head body len lt one gives open_gate gives_head four head_is gives_body fits =
    let within : at < length f = omega arith in
    let more = drop (at + 5 + length body) f in
    let front : drop (at + 1) f ≡ head ++ drop (at + 1 + 4) f = piece (at + 1) 4 f ∙ ap (λ (l : List ℕ). l ++ drop (at + 1 + 4) f) (ap (λ (k : ℕ). take k (drop (at + 1) f)) (sym four) ∙ sym gives_head) in
    let next : drop (at + 5) f ≡ body ++ more = piece (at + 5) (length body) f ∙ ap (λ (l : List ℕ). l ++ more) (sym gives_body) in
    let place : at + 1 + 4 ≡ at + 5 = omega arith in
    let behind : drop (at + 1) f ≡ spelled body ++ more =
    front ∙ ap (λ (l : List ℕ). head ++ l) (ap (λ (k : ℕ). drop k f) place ∙ next) ∙ ap (λ (l : List ℕ). l ++ (body ++ more)) (sym head_is) ∙ sym (append_assoc (to_be_bytes w32 (length body)) body more) in
    record {
      more = more;
      is = first_of at f gate within one gives ∙ ap (λ (g : ℕ). g ∷ drop (at + 1) f) open_gate ∙ ap (λ (l : List ℕ). 71 ∷ l) behind;
      some = omega (arith, length-drop (at + 5 + length body) f);
      fits = fits;
    }
