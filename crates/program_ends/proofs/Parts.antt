-- The lines of an input make up its bytes.
use Rattle.std.proofs.Common.{ℕ, ◌≡◌, ◌==◌, Bool, true, false, List, [], ◌∷◌, ◌++◌, refl, ap, sym, ◌∙◌, append_assoc, append-nil, inl, inr}
use Rattle.std.proofs.lemmas.Bool.Decides.{eqb_tells}
use Rattle.program_ends.specs.Lines.{without_return}
use Rattle.program_ends.specs.Parting.{HasNoEnd, AreParted}

is_end : (c : ℕ) → (c == 10) ≡ true → c ≡ 10
is_end c e = elim (eqb_tells c 10) [ inl h ↦ h.1 | inr h ↦ absurd (let f = h.0 in cc) ]

one_more : (line : List ℕ) (c : ℕ) → HasNoEnd line → (c == 10) ≡ false → HasNoEnd (line ++ c ∷ [])
one_more [] c h e = (e, tt)
one_more (d ∷ line) c h e = (h.0, one_more line c h.1 e)

by_test : (line : List ℕ) (c : ℕ) (cs : List ℕ) → HasNoEnd line → (t : Bool) → (c == 10) ≡ t → AreParted [] cs → ((c == 10) ≡ false → AreParted (line ++ c ∷ []) cs) → AreParted line (c ∷ cs)
by_test line c cs h true e ended goes_on = record {
  raw = line ∷ ended.raw;
  whole = rw (e, is_end c e) (ap (λ (l : List ℕ). line ++ 10 ∷ l) ended.whole);
  lines = rw e (ap (λ (l : List (List ℕ)). without_return line ∷ l) ended.lines);
  endless = (h, ended.endless);
  rest = rw e ended.rest;
}
by_test line c cs h false e ended goes_on =
    let more = goes_on e in
    record {
      raw = more.raw;
      whole = rw e (sym (append_assoc line (c ∷ []) cs) ∙ more.whole);
      lines = rw e more.lines;
      endless = more.endless;
      rest = rw e more.rest;
    }

pub parted : (line bytes : List ℕ) → HasNoEnd line → AreParted line bytes
parted line [] h = record { raw = []; whole = append-nil line; lines = refl; endless = tt; rest = h }
parted line (c ∷ cs) h = by_test line c cs h (c == 10) refl (parted [] cs tt) (λ e. parted (line ++ c ∷ []) cs (one_more line c h e))
