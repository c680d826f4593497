-- The texts of products, written one after another.
use Rattle.std.proofs.Common.{ℕ, ◌≡◌, ◌≤◌, ◌<◌, ◌+◌, suc, zero, inl, inr, List, [], ◌∷◌, ◌++◌, length, take, drop, map, Option, None, Some, refl, ap, sym, ◌∙◌, subst, append_assoc, append-nil, arith}
use Rattle.std.specs.List.{slice_get}
use Rattle.std.proofs.lemmas.List.{take-append-drop, take_all}
use Rattle.desk_traits.specs.Faults.{Rose}
use Rattle.byte_streams.specs.Flows.{Adds, Outflow}
use Rattle.byte_streams.proofs.Pieces.{adds_both}
use Rattle.office_types.specs.declared.refusal.Refusal.{Refusal}
use Rattle.office_types.specs.declared.request.Sent.{Sent}
use Rattle.office_core.specs.Agreement.{texts_of}
use Rattle.office_core.specs.Look.{LacksProduct, ShowsProduct}
use Rattle.office_core.specs.State.{State, product_at}
use Rattle.program_ends.specs.declared.ends.End.TheVariants.{OutOfMemory, WriteFault}
use Rattle.desk_commands.specs.Commands.{Exported, joined}

abbrev pub text_in : Sent → List ℕ
text_in sent = sent.text

-- this many texts were written
abbrev pub Wrote : State → ℕ → Option (List ℕ) → Option (List ℕ) → Type 0
Wrote s n taken taken' = Adds taken taken' (joined (take n (texts_of s)))

length_texts : (products : List Sent) → length (map text_in products) ≡ length products
length_texts [] = refl
length_texts (p ∷ ps) = ap (λ (n : ℕ). suc n) (length_texts ps)

stands : (products : List Sent) (n : ℕ) (x : Refusal) → n < length products → LacksProduct (slice_get products n) x → ⊥
stands [] n x h lacks = absurd (omega (arith, h))
stands (p ∷ ps) zero x h lacks = absurd (cc)
stands (p ∷ ps) (suc n) x h lacks = stands ps n x (omega (arith, h)) lacks

next_text : (products : List Sent) (n : ℕ) (text : List ℕ) → ShowsProduct (slice_get products n) text → joined (take (suc n) (map text_in products)) ≡ joined (take n (map text_in products)) ++ text
next_text [] n text shows = absurd shows
next_text (p ∷ ps) zero text shows = append-nil p.text ∙ sym shows
next_text (p ∷ ps) (suc n) text shows = ap (λ (l : List ℕ). p.text ++ l) (next_text ps n text shows) ∙ sym (append_assoc p.text (joined (take n (map text_in ps))) text)

-- a product that was sent is there
pub is_there : (s : State) (n : ℕ) (x : Refusal) → n < length s.products → LacksProduct (product_at s (n + 1)) x → ⊥
is_there s n x h lacks = let e : n + 1 ≡ suc n = omega arith in stands s.products n x h (subst (λ (k : ℕ). LacksProduct (product_at s k) x) e lacks)

-- with its text, one more was written
one_more : (s : State) (n : ℕ) (text : List ℕ) → ShowsProduct (product_at s (n + 1)) text → joined (take (suc n) (texts_of s)) ≡ joined (take n (texts_of s)) ++ text
one_more s n text shows = let e : n + 1 ≡ suc n = omega arith in next_text s.products n text (subst (λ (k : ℕ). ShowsProduct (product_at s k) text) e shows)

pub wrote_next : (s : State) (n : ℕ) (text : List ℕ) (taken mid taken' : Option (List ℕ)) → ShowsProduct (product_at s (n + 1)) text → Wrote s n taken mid → Adds mid taken' text → Wrote s (n + 1) taken taken'
wrote_next s n text taken mid taken' shows wrote adds =
    let e : suc n ≡ n + 1 = omega arith in
    subst (λ (k : ℕ). Wrote s k taken taken') e (adds_both _ _ _ _ _ _ wrote adds (sym (one_more s n text shows)))

-- all of them
pub exported : (s : State) (n : ℕ) (old new : Outflow) → length s.products ≤ n → Wrote s n old.taken new.taken → new.faults ≡ old.faults → Exported (texts_of s) old new None
exported s n old new all wrote steady =
    let whole : take n (texts_of s) ≡ texts_of s = take_all n (texts_of s) (omega (arith, all, length_texts s.products)) in
    record {
      first = texts_of s;
      rest = [];
      are = sym (append-nil (texts_of s));
      reasons = inl (refl, refl);
      written = joined (texts_of s);
      has = record {
        adds = subst (λ (texts : List (List ℕ)). Adds old.taken new.taken (joined texts)) whole wrote;
        whole = λ _. (steady, refl);
        cut = λ e. absurd (cc);
      };
    }

-- those before a write fault, and a front of the next
pub exported_part : (s : State) (n count : ℕ) (text : List ℕ) (old half new : Outflow) → ShowsProduct (product_at s (n + 1)) text → Wrote s n old.taken half.taken → Adds half.taken new.taken (take count text)
    → half.faults ≡ old.faults → Rose half.faults new.faults → Exported (texts_of s) old new (Some WriteFault)
exported_part s n count text old half new shows wrote adds steady rose =
    let told = joined (take n (texts_of s)) in
    record {
      first = take (suc n) (texts_of s);
      rest = drop (suc n) (texts_of s);
      are = sym (take-append-drop (suc n) (texts_of s));
      reasons = inr (inl refl);
      written = told ++ take count text;
      has = record {
        adds = adds_both _ _ _ _ _ _ wrote adds refl;
        whole = λ no. absurd (no refl);
        cut = λ _. (
          subst (λ (k : ℕ). Rose k new.faults) steady rose,
          (drop count text, one_more s n text shows ∙ ap (λ (l : List ℕ). told ++ l) (sym (take-append-drop count text)) ∙ sym (append_assoc told (take count text) (drop count text))),
        );
      };
    }

-- those before memory lacked
pub exported_before : (s : State) (n : ℕ) (old new : Outflow) → Wrote s n old.taken new.taken → new.faults ≡ old.faults → Exported (texts_of s) old new (Some OutOfMemory)
exported_before s n old new wrote steady = record {
  first = take n (texts_of s);
  rest = drop n (texts_of s);
  are = sym (take-append-drop n (texts_of s));
  reasons = inr (inr refl);
  written = joined (take n (texts_of s));
  has = record { adds = wrote; whole = λ _. (steady, refl); cut = λ e. absurd (cc) };
}
