-- What the writes of an append leave of a journal's file.
use Rattle.std.proofs.Common.{◌≡◌, ◌⊎◌, inl, inr, ⊎_elim, Option, None, Some, ℕ, ◌+◌, ◌<◌, List, [], ◌∷◌, ◌++◌, length, get_or, drop, refl, sym, ◌∙◌, ap, subst, arith, append_assoc, length-append}
use Rattle.std.proofs.lemmas.Bool.{cases_eq}
use Rattle.std.specs.List.{AllByRecursion}
use Rattle.desk_traits.specs.File.{HasBytes, Torn}
use Rattle.journal_core.specs.Image.{spelled, records, Fits, Image, Half, IsOneOf}
use Rattle.journal_core.specs.Journal.{Rests, LeavesBodies, MayPend}
use Rattle.journal_core.specs.Packet.{framed}
use Rattle.journal_core.proofs.Bytes.{length_gate, torn_behind, written_behind, torn_gate, written_gate}

pub records-push : (bodies : List (List ℕ)) (body rest : List ℕ) → records (bodies ++ body ∷ []) ++ rest ≡ records bodies ++ 71 ∷ (spelled body ++ rest)
records-push [] body rest = ap (λ (l : List ℕ). 71 ∷ l) (append_assoc (spelled body) [] rest)
records-push (b ∷ bodies) body rest = ap (λ (l : List ℕ). 71 ∷ l)
    (append_assoc (spelled b) (records (bodies ++ body ∷ [])) rest ∙ ap (λ (l : List ℕ). spelled b ++ l) (records-push bodies body rest) ∙ sym (append_assoc (spelled b) (records bodies) (71 ∷ (spelled body ++ rest))))

pub fit-push : (bodies : List (List ℕ)) (body : List ℕ) → AllByRecursion Fits bodies → Fits body → AllByRecursion Fits (bodies ++ body ∷ [])
fit-push [] body all fits = (fits, tt)
fit-push (b ∷ bodies) body all fits = (all.0, fit-push bodies body all.1 fits)

module _ (bodies : List (List ℕ)) (p : ℕ) (gate_is : p ≡ length (records bodies)) where
  size : length (records bodies) ≡ p
  size = sym gate_is

  pub image_holds_gate : (f : List ℕ) → Image f bodies → p < length f
  image_holds_gate f image = omega (arith, ap length image.written, length_gate (records bodies) p size image.gate image.behind)

  -- behind a closed gate anything may stand
  pub torn_image : (f c : List ℕ) (n : ℕ) → Image f bodies → Torn (p + 1) n f c → Image c bodies
  torn_image f c n image torn =
      record {
        gate = image.gate;
        behind = drop (p + 1) c;
        written = torn_behind (records bodies) p size image.gate n image.behind c (subst (λ (l : List ℕ). Torn (p + 1) n l c) image.written torn);
        shut = image.shut;
        some = image.some;
        fit = image.fit;
      }

  -- a body behind it
  pub staged_half : (f c body : List ℕ) → Fits body → Image f bodies → HasBytes (p + 1) (framed body) f c → Half c bodies body
  staged_half f c body fits image holds =
      let rest = drop (p + 1 + length (framed body)) (records bodies ++ image.gate ∷ image.behind) in
      record {
        gate = image.gate;
        last = 46;
        behind = rest;
        written = written_behind (records bodies) p size image.gate image.behind (framed body) c (subst (λ (l : List ℕ). HasBytes (p + 1) (framed body) l c) image.written holds)
            ∙ ap (λ (l : List ℕ). records bodies ++ image.gate ∷ l) (append_assoc (spelled body) (46 ∷ []) rest);
        shut = omega arith;
        some = image.some;
        fit = image.fit;
        fits = fits;
      }

  -- whatever is written at the gate, the body stands whole behind it
  pub torn_half : (f c body : List ℕ) → Half f bodies body → Torn p 1 f c → Half c bodies body
  torn_half f c body half torn =
      record {
        gate = get_or c p 0;
        last = half.last;
        behind = half.behind;
        written = torn_gate (records bodies) p size half.gate (spelled body ++ half.last ∷ half.behind) c (subst (λ (l : List ℕ). Torn p 1 l c) half.written torn);
        shut = half.shut;
        some = half.some;
        fit = half.fit;
        fits = half.fits;
      }

  -- the gate closed
  pub closed_half : (f c body : List ℕ) → Half f bodies body → HasBytes p (46 ∷ []) f c → Image c bodies
  closed_half f c body half holds =
      record {
        gate = 46;
        behind = spelled body ++ half.last ∷ half.behind;
        written = written_gate (records bodies) p size half.gate 46 (spelled body ++ half.last ∷ half.behind) c (subst (λ (l : List ℕ). HasBytes p (46 ∷ []) l c) half.written holds);
        shut = omega arith;
        some = half.some;
        fit = half.fit;
      }

opened : (bodies : List (List ℕ)) (c body : List ℕ) (half : Half c bodies body) → c ≡ records bodies ++ 71 ∷ (spelled body ++ half.last ∷ half.behind) → Image c (bodies ++ body ∷ [])
opened bodies c body half is =
    record {
      gate = half.last;
      behind = half.behind;
      written = is ∙ sym (records-push bodies body (half.last ∷ half.behind));
      shut = half.shut;
      some = omega (arith, length-append bodies (body ∷ []));
      fit = fit-push bodies body half.fit half.fits;
    }

-- the gate opened
pub opened_half : (bodies : List (List ℕ)) (p : ℕ) (gate_is : p ≡ length (records bodies)) (f c body : List ℕ) → Half f bodies body → HasBytes p (71 ∷ []) f c → Image c (bodies ++ body ∷ [])
opened_half bodies p gate_is f c body half holds =
    let is = written_gate (records bodies) p (sym gate_is) half.gate 71 (spelled body ++ half.last ∷ half.behind) c (subst (λ (l : List ℕ). HasBytes p (71 ∷ []) l c) half.written holds) in
    opened bodies c body
    (record { gate = 71; last = half.last; behind = half.behind; written = is; shut = half.shut; some = half.some; fit = half.fit; fits = half.fits })
    is

-- open or not, the file is an image
pub half_is : (bodies : List (List ℕ)) (c body : List ℕ) → Half c bodies body → Image c bodies ⊎ Image c (bodies ++ body ∷ [])
half_is bodies c body half = elim (cases_eq half.gate 71) [
  | inl is_open ↦ inr (opened bodies c body half (half.written ∙ ap (λ (g : ℕ). records bodies ++ g ∷ (spelled body ++ half.last ∷ half.behind)) is_open))
  | inr shut ↦ inl (record { gate = half.gate; behind = spelled body ++ half.last ∷ half.behind; written = half.written; shut = shut; some = half.some; fit = half.fit })
]

-- whatever rests on the disk is one of the three
pub rests_one : (bodies : List (List ℕ)) (pending : Option (List ℕ)) (body c : List ℕ) → Rests bodies pending c → IsOneOf bodies pending body c
rests_one bodies None body c image = inl image
rests_one bodies (Some q) body c half = ⊎_elim (λ image. inl image) (λ image. inr (inr image)) (half_is bodies c q half)

pub image_one : (bodies : List (List ℕ)) (pending : Option (List ℕ)) (body c : List ℕ) → Image c bodies → IsOneOf bodies pending body c
image_one bodies None body c image = inl image
image_one bodies (Some q) body c image = inl image

pub half_one : (bodies : List (List ℕ)) (pending : Option (List ℕ)) (body c : List ℕ) → Half c bodies body → IsOneOf bodies pending body c
half_one bodies None body c half = half_is bodies c body half
half_one bodies (Some q) body c half = ⊎_elim (λ image. inl image) (λ image. inr (inl image)) (half_is bodies c body half)

-- what a crash leaves of a journal
pub rests_left : (bodies : List (List ℕ)) (pending : Option (List ℕ)) (c : List ℕ) → Rests bodies pending c → LeavesBodies bodies pending c
rests_left bodies None c rests = rests
rests_left bodies (Some pending) c rests = half_one bodies None pending c rests

-- the pending body may stay pending
pub may_keep : (pending : Option (List ℕ)) (body : List ℕ) → MayPend pending body pending
may_keep None body = tt
may_keep (Some p) body = inl refl
