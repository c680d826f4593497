-- A member that has no float gives an object none.
use Rattle.std.proofs.Common.{◌≡◌, ◌||◌, ℕ, List, Bool, true, false, refl, codes}
use Rattle.std.specs.declared.cmp.Ordering.{Ordering}
use Rattle.std.specs.declared.cmp.Ordering.TheVariants.{Less, Equal, Greater}
use Rattle.std.specs.Ordering.{nat_cmp, match_ordering}
use Rattle.std.specs.Cmp.Lexicographic.{slice_cmp}
use Rattle.serde_json.specs.Data.{Data, Members, no_members, member, put, number, unsigned}
use Rattle.serde_json.specs.Written.{has_float, members_have_float}
use Rattle.json_parts.specs.Written.{as_text, set_text, set_number, refusal_members}

either : (a b : Bool) → (a || b) ≡ false → (a ≡ false) × (b ≡ false)
either false b h = (refl, h)
either true b h = absurd (cc)

beside : (o : Ordering) (k l : List ℕ) (d e : Data) (ms : Members) → has_float d ≡ false → has_float e ≡ false → members_have_float ms ≡ false → members_have_float (put k d ms) ≡ false
    → members_have_float (match_ordering o (member k d (member l e ms)) (member l d ms) (member l e (put k d ms))) ≡ false
beside Less k l d e ms hd he hm hp = rw (hd, he, hm) refl
beside Equal k l d e ms hd he hm hp = rw (hd, hm) refl
beside Greater k l d e ms hd he hm hp = rw (he, hp) refl

pub no_float_put : (k : List ℕ) (d : Data) (ms : Members) → has_float d ≡ false → members_have_float ms ≡ false → members_have_float (put k d ms) ≡ false
no_float_put k d no_members hd hm = rw hd refl
no_float_put k d (member l e ms) hd hm =
    let h = either (has_float e) (members_have_float ms) hm in
    beside (slice_cmp nat_cmp k l) k l d e ms hd h.0 h.1 (no_float_put k d ms hd h.1)

pub text_no_float : (bytes : List ℕ) → has_float (as_text bytes) ≡ false
unfolding as_text
text_no_float bytes = refl

pub put_text_no_float : (k : List ℕ) (bytes : List ℕ) (ms : Members) → members_have_float ms ≡ false → members_have_float (set_text k bytes ms) ≡ false
put_text_no_float k bytes ms h = no_float_put k (as_text bytes) ms (text_no_float bytes) h

pub put_number_no_float : (k : List ℕ) (n : ℕ) (ms : Members) → members_have_float ms ≡ false → members_have_float (set_number k n ms) ≡ false
put_number_no_float k n ms h = no_float_put k (number (unsigned n)) ms refl h

pub labelled_no_float : (l : List ℕ × List ℕ) → members_have_float (refusal_members l) ≡ false
labelled_no_float l = put_text_no_float (codes "rule") l.1 (set_text (codes "no") l.0 no_members) (put_text_no_float (codes "no") l.0 no_members refl)
