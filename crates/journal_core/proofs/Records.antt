-- The bytes of a record that was written.
use Rattle.std.proofs.Common.{◌≡◌, ◌⊎◌, ⊎_elim, ℕ, ◌+◌, ◌≤◌, List, [], ◌∷◌, ◌++◌, length, get_or, take, drop, Option, None, Some, option_map, refl, sym, ◌∙◌, ap, arith, append_assoc, length-append, length-take, length-drop, take-append-drop, drop-drop, Ok}
use Rattle.std.proofs.lemmas.List.{take_at, drop_at, drop_more, drop_all}
use Rattle.desk_traits.specs.File.{WritesAt}
use Rattle.journal_core.specs.Image.{spelled}
use Rattle.journal_core.specs.Packet.{framed}
use Rattle.journal_core.specs.Written.{put, with_record}
use Rattle.journal_core.proofs.Bytes.{written_behind, written_gate}
use Rattle.journal_core.proofs.Frames.{length-spelled}

-- what a good write makes of a file, told or not
pub put_of : (E : Type 0) (x : Unit {0}) (at : ℕ) (bytes : List ℕ) (old new : Option (List ℕ)) → WritesAt {E = E} at bytes old new (Ok x) → new ≡ option_map (put at bytes) old
put_of E x at bytes None None w = refl
put_of E x at bytes None (Some n) w = absurd w
put_of E x at bytes (Some o) None w = absurd w
put_of E x at bytes (Some o) (Some n) w = ap (λ (l : List ℕ). Some l) w.1

length-framed : (body : List ℕ) → length (framed body) ≡ length body + 5
length-framed body = omega (arith, length-spelled body, length-append (spelled body) (46 ∷ []))

split_at : (p : ℕ) (file : List ℕ) → p + 1 ≤ length file → file ≡ take p file ++ get_or file p 0 ∷ drop (p + 1) file
split_at p file within = sym (take-append-drop p file) ∙ ap (λ (l : List ℕ). take p file ++ l) (drop_more file p 0 (omega (arith, within)))

-- a body behind a gate, and then the gate
two_puts : (front : List ℕ) (p gate : ℕ) (tail bytes : List ℕ) → length front ≡ p → put p (71 ∷ []) (put (p + 1) bytes (front ++ gate ∷ tail)) ≡ front ++ 71 ∷ (bytes ++ drop (p + 1 + length bytes) (front ++ gate ∷ tail))
two_puts front p gate tail bytes size =
    ap (put p (71 ∷ [])) (written_behind front p size gate tail bytes _ refl)
    ∙ written_gate front p size gate 71 (bytes ++ drop (p + 1 + length bytes) (front ++ gate ∷ tail)) _ refl

pub record_put : (p : ℕ) (body file : List ℕ) → p + 1 ≤ length file → put p (71 ∷ []) (put (p + 1) (framed body) file) ≡ with_record p body file
record_put p body file within =
    let front = take p file in
    let size : length front ≡ p = omega (arith, within, length-take p file) in
    let is = split_at p file within in
    let place : p + 1 + length (framed body) ≡ p + 6 + length body = omega (arith, length-framed body) in
    ap (λ (l : List ℕ). put p (71 ∷ []) (put (p + 1) (framed body) l)) is
    ∙ two_puts front p (get_or file p 0) (drop (p + 1) file) (framed body) size
    ∙ ap (λ (l : List ℕ). front ++ 71 ∷ (framed body ++ drop (p + 1 + length (framed body)) l)) (sym is)
    ∙ ap (λ (k : ℕ). front ++ 71 ∷ (framed body ++ drop k file)) place

-- a gate that is closed before makes no difference
pub closed_before : (p : ℕ) (body file : List ℕ) → p + 1 ≤ length file → with_record p body (put p (46 ∷ []) file) ≡ with_record p body file
closed_before p body file within =
    let front = take p file in
    let tail = drop (p + 1) file in
    let size : length front ≡ p = omega (arith, within, length-take p file) in
    let front' : length (front ++ 46 ∷ []) ≡ p + 1 = omega (arith, size, length-append front (46 ∷ [])) in
    let behind : drop (p + 6 + length body) (put p (46 ∷ []) file) ≡ drop (p + 6 + length body) file =
    let sum : p + 6 + length body ≡ p + 1 + (5 + length body) = omega arith in
    let here : drop (p + 1) (put p (46 ∷ []) file) ≡ tail = ap (λ (l : List ℕ). drop (p + 1) l) (sym (append_assoc front (46 ∷ []) tail)) ∙ drop_at (front ++ 46 ∷ []) tail (p + 1) front' in
    ap (λ (k : ℕ). drop k (put p (46 ∷ []) file)) sum ∙ sym (drop-drop (5 + length body) (p + 1) (put p (46 ∷ []) file)) ∙ ap (λ (l : List ℕ). drop (5 + length body) l) here ∙ drop-drop (5 + length body) (p + 1) file ∙ ap (λ (k : ℕ). drop k file) (sym sum) in
    ap (λ (l : List ℕ). l ++ 71 ∷ (framed body ++ drop (p + 6 + length body) (put p (46 ∷ []) file))) (take_at front (46 ∷ tail) p size)
    ∙ ap (λ (l : List ℕ). front ++ 71 ∷ (framed body ++ l)) behind

put_keeps : (p : ℕ) (file : List ℕ) → p + 1 ≤ length file → p + 1 ≤ length (put p (46 ∷ []) file)
put_keeps p file within = omega (arith, within, length-take p file, length-append (take p file) (46 ∷ drop (p + 1) file))

-- an append, where the gate was closed first or not
pub appended : (p : ℕ) (body file : List ℕ) (first second third : Option (List ℕ)) → p + 1 ≤ length file → ((first ≡ Some file) ⊎ (first ≡ Some (put p (46 ∷ []) file)))
    → second ≡ option_map (put (p + 1) (framed body)) first → third ≡ option_map (put p (71 ∷ [])) second → third ≡ Some (with_record p body file)
appended p body file first second third within close stage open_gate =
    open_gate ∙ ap (option_map (put p (71 ∷ []))) stage ∙ ⊎_elim
    (λ (is : first ≡ Some file). ap (λ (o : Option (List ℕ)). option_map (put p (71 ∷ [])) (option_map (put (p + 1) (framed body)) o)) is ∙ ap (λ (l : List ℕ). Some l) (record_put p body file within))
    (λ (is : first ≡ Some (put p (46 ∷ []) file)). ap (λ (o : Option (List ℕ)). option_map (put p (71 ∷ [])) (option_map (put (p + 1) (framed body)) o)) is
    ∙ ap (λ (l : List ℕ). Some l) (record_put p body (put p (46 ∷ []) file) (put_keeps p file within) ∙ closed_before p body file within))
    close

-- a first byte in a file that had at most one makes no difference
pub short_before : (body file : List ℕ) → length file ≤ 1 → with_record 0 body (put 0 (46 ∷ []) file) ≡ with_record 0 body file
short_before body file short =
    let none : drop (0 + 6 + length body) file ≡ [] = drop_all (0 + 6 + length body) file (omega (arith, short)) in
    let none' : drop (0 + 6 + length body) (put 0 (46 ∷ []) file) ≡ [] = drop_all (0 + 6 + length body) (put 0 (46 ∷ []) file) (omega (arith, short, length-drop 1 file)) in
    ap (λ (l : List ℕ). 71 ∷ (framed body ++ l)) (none' ∙ sym none)
