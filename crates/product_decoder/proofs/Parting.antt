-- Parts of texts that are laid end to end, and of single lines.
use Rattle.std.proofs.Common.{◌≡◌, ◌∙◌, ℕ, ◌==◌, ◌&&◌, ◌||◌, Bool, true, false, List, [], ◌∷◌, ◌++◌, inl, inr, refl, ap}
use Rattle.std.specs.List.{list_any}
use Rattle.std.specs.Prelude.{is_some}
use Rattle.std.proofs.lemmas.Bool.{cases_Bool}
use Rattle.product_frame.specs.LineRules.{are_ended, ends_behind}
use Rattle.product_frame.specs.Parts.{heading_of}
use Rattle.product_frame.specs.Text.{line_of, before}
use Rattle.product_frame.proofs.EndToEnd.{ends_append}
use Rattle.product_decoder.specs.Feeding.{Parts, onto, has_heading, part, IsQuiet, IsPlain, IsHeaded}

-- parts, and those of what follows

abbrev pub join : List ℕ → List (List ℕ) → Parts → List (List ℕ)
join t [] q = (t ++ q.lead) ∷ q.texts
join t (u ∷ us) q = t ∷ join u us q

abbrev pub graft : List ℕ → List (List ℕ) → Parts → Parts
graft lead [] q = record { lead = lead ++ q.lead; texts = q.texts }
graft lead (t ∷ ts) q = record { lead = lead; texts = join t ts q }

abbrev pub grafted : Parts → Parts → Parts
grafted p q = graft p.lead p.texts q

onto_grafted : (b : Bool) (c : ℕ) (lead : List ℕ) (texts : List (List ℕ)) (q : Parts) → onto b c (graft lead texts q) ≡ grafted (onto b c (record { lead = lead; texts = texts })) q
onto_grafted true c lead [] q = refl
onto_grafted true c lead (t ∷ ts) q = refl
onto_grafted false c lead [] q = refl
onto_grafted false c lead (t ∷ ts) q = refl

-- a line that ends within a text is the same, whatever follows the text
line_kept : (c : ℕ) (t rest : List ℕ) → ends_behind c t ≡ true → line_of ((c ∷ t) ++ rest) ≡ line_of (c ∷ t)
line_kept c [] rest h = rw h refl
line_kept c (d ∷ t) rest h = elim (cases_Bool (c == 10)) [ inl e ↦ rw e refl | inr e ↦ rw e (ap (before c) (line_kept d t rest h)) ]

heading_kept : (c : ℕ) (t rest : List ℕ) → ends_behind c t ≡ true → has_heading ((c ∷ t) ++ rest) ≡ has_heading (c ∷ t)
heading_kept c t rest h = ap (λ (line : List ℕ). is_some (heading_of line)) (line_kept c t rest h)

-- whole lines have their parts, whatever follows them
pub part_append : (d : ℕ) (x y : List ℕ) → ends_behind d x ≡ true → part (d == 10) (x ++ y) ≡ grafted (part (d == 10) x) (part true y)
part_append d [] y h = rw h refl
part_append d (c ∷ x) y h =
    ap (λ (p : Parts). onto ((d == 10) && has_heading (c ∷ (x ++ y))) c p) (part_append c x y h)
    ∙ ap (λ (b : Bool). onto ((d == 10) && b) c (grafted (part (c == 10) x) (part true y))) (heading_kept c x y h)
    ∙ onto_grafted ((d == 10) && has_heading (c ∷ x)) c (part (c == 10) x).lead (part (c == 10) x).texts (part true y)

pub part_behind : (x y : List ℕ) → are_ended x ≡ true → part true (x ++ y) ≡ grafted (part true x) (part true y)
part_behind x y h = part_append 10 x y h

ended_append : (x y : List ℕ) → are_ended x ≡ true → are_ended y ≡ true → are_ended (x ++ y) ≡ true
ended_append x y h g = ends_append 10 x y h g

-- plain lines, and a heading line

pub plain_none : IsPlain []
plain_none = record { ended = refl; none = refl }

pub plain_more : (x y : List ℕ) → IsPlain x → IsPlain y → IsPlain (x ++ y)
plain_more x y p q = record {
  ended = ended_append x y p.ended q.ended;
  none = part_behind x y p.ended ∙ (λ i. grafted (p.none i) (q.none i));
}

pub headed_more : (x y : List ℕ) → IsHeaded x → IsPlain y → IsHeaded (x ++ y)
headed_more x y p q = record {
  ended = ended_append x y p.ended q.ended;
  one = part_behind x y p.ended ∙ (λ i. grafted (p.one i) (q.none i));
}

-- bytes in which no line ends, where none begins
quiet_part : (v : List ℕ) → IsQuiet v → part false v ≡ record { lead = v; texts = [] }
quiet_part [] h = refl
quiet_part (c ∷ v) h = by_byte (quiet_part v) (c == 10) refl h
  where
    by_byte : (IsQuiet v → part false v ≡ record { lead = v; texts = [] }) → (b : Bool) → (c == 10) ≡ b → (b || list_any (λ c. c == 10) v) ≡ false → onto false c (part (c == 10) v) ≡ record { lead = c ∷ v; texts = [] }
    by_byte later true e g = cc
    by_byte later false e g = rw (e, later g) refl

pub quiet_line : (b : Bool) (c : ℕ) (v : List ℕ) → IsQuiet (c ∷ v) → has_heading (c ∷ v) ≡ b → part true (c ∷ v) ≡ onto b c (record { lead = v; texts = [] })
quiet_line b c v h is = by_byte (c == 10) refl h
  where
    by_byte : (k : Bool) → (c == 10) ≡ k → (k || list_any (λ c. c == 10) v) ≡ false → onto (has_heading (c ∷ v)) c (part (c == 10) v) ≡ onto b c (record { lead = v; texts = [] })
    by_byte true e g = cc
    by_byte false e g = rw (is, e, quiet_part v g) refl
