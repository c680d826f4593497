-- The end of a run, as it was told; and the last answer.
use Rattle.std.proofs.Common.{◌≡◌, ◌≢◌, ◌∙◌, ◌⊎◌, inl, inr, ◌==◌, ℕ, Bool, true, false, List, drop, Option, Some, None, refl, sym, ap, arith, subst, append-nil}
use Rattle.std.proofs.lemmas.Bool.{eqb-true, eq-eqb}
use Rattle.std.proofs.lemmas.List.{drop_at}
use Rattle.byte_streams.specs.Flows.{Outflow}
use Rattle.program_ends.specs.declared.ends.End.{End}
use Rattle.program_ends.specs.declared.ends.End.TheVariants.{WriteFault}
use Rattle.program_ends.specs.Ends.{Telling, IsCut}
use Rattle.follow_links.specs.Answers.{Answer, IsAnswer, no_product}
use Rattle.follow_links.specs.Readings.{IsShaped}
use Rattle.follow_links.specs.Talks.{IsEnd}
use Rattle.follow_links.specs.Telling.{IsToldAs}
use Rattle.follow_links.specs.declared.answers.Shape.{Shape}

not_both : false ≡ true → ⊥
not_both h = cc

-- a run that went well has status 0, one with a write fault 8
fault_status : (text : List ℕ) (before after : Outflow) (plain : ℕ) → Telling text before after (Some WriteFault) plain → plain ≡ 8
fault_status text before after plain t = at (plain == 8) refl
  where
    at : (b : Bool) → b ≡ (plain == 8) → plain ≡ 8
    at true is = eqb-true plain 8 (sym is)
    at false is = (t.told.others (λ e. absurd (not_both (is ∙ eq-eqb plain 8 e)))).0

pub told_zero : (text : List ℕ) (own : ℕ) (before after : Outflow) (plain : ℕ) (end : Option End) → own ≢ 8 → (end ≡ None) ⊎ (end ≡ Some WriteFault)
    → Telling text before after end plain → plain ≡ 0 → IsToldAs text own before after own
told_zero text own before after plain end other (inl none) t zero = record {
  written = t.written;
  adds = t.adds;
  whole = λ h. (refl, (t.told.others (omega (arith, zero))).1, (t.told.well none).1);
  cut = λ h. absurd (other h);
}
told_zero text own before after plain end other (inr fault) t zero =
    let eight = fault_status text before after plain (subst (λ (e : Option End). Telling text before after e plain) fault t) in
    absurd (omega (arith, eight, zero))

pub told_other : (text : List ℕ) (own : ℕ) (before after : Outflow) (plain : ℕ) (end : Option End) → (end ≡ None) ⊎ (end ≡ Some WriteFault)
    → Telling text before after end plain → plain ≢ 0 → IsToldAs text own before after plain
told_other text own before after plain end (inl none) t some = absurd (some (t.told.well none).0)
told_other text own before after plain end (inr fault) t some =
    let u = subst (λ (e : Option End). Telling text before after e plain) fault t in
    let eight = fault_status text before after plain u in
    record {
      written = u.written;
      adds = u.adds;
      whole = λ h. absurd (h eight);
      cut = λ h. ((u.told.cut h).0, subst (λ (l : List ℕ). IsCut l u.written before.faults after.faults) (append-nil text) (u.told.cut h).1);
    }

-- the answer that there is no further product
pub end_is : (bytes : List ℕ) (s : Shape) → IsShaped bytes s → s.status ≡ 404 → drop s.from bytes ≡ no_product → IsEnd bytes
end_is bytes s h status eq =
    let body : h.body ≡ no_product = sym (drop_at h.front h.body s.from (sym h.from)) ∙ (ap (drop s.from) (sym h.parts) ∙ eq) in
    let same : ◌≡◌ {A = Answer} (record { status = s.status; body = h.body; closes = s.closes }) (record { status = 404; body = no_product; closes = s.closes }) =
    ap (λ (n : ℕ). record { status = n; body = h.body; closes = s.closes }) status
    ∙ ap (λ (b : List ℕ). record { status = 404; body = b; closes = s.closes }) body in
    (s.closes, subst (IsAnswer bytes) same h.is)
