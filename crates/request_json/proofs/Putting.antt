-- What an object has after a member was put.
use Rattle.std.proofs.Common.{◌≡◌, ℕ, List, true, false, Some, refl, ap, sym, ◌∙◌}
use Rattle.std.specs.declared.cmp.Ordering.{Ordering}
use Rattle.std.specs.declared.cmp.Ordering.TheVariants.{Less, Equal, Greater}
use Rattle.std.specs.Ordering.{nat_cmp, match_ordering, is_eq}
use Rattle.std.specs.Cmp.Lexicographic.{slice_cmp}
use Rattle.std.proofs.lemmas.Bool.{and_parts}
use Rattle.std.proofs.lemmas.Cmp.{nat_list_cmp_total, tied_itself, alike_right}
use Rattle.serde_json.specs.Data.{Data, Members, no_members, member, put}
use Rattle.serde_json.specs.Find.{get_member}
use Rattle.request_json.specs.Keys.{has_key, all_known}
use Rattle.request_json.specs.declared.keys.Keys.{Keys}

abbrev pub order : List ℕ → List ℕ → Ordering
order = slice_cmp nat_cmp

here_by : (o : Ordering) (k l : List ℕ) (d e : Data) (ms : Members) → order k l ≡ o → get_member k (put k d ms) ≡ Some d
    → get_member k (match_ordering o (member k d (member l e ms)) (member l d ms) (member l e (put k d ms))) ≡ Some d
here_by Less k l d e ms h found = rw (tied_itself nat_list_cmp_total k) refl
here_by Equal k l d e ms h found = rw h refl
here_by Greater k l d e ms h found = rw h found

-- the member that was put
pub here : (k : List ℕ) (d : Data) (ms : Members) → get_member k (put k d ms) ≡ Some d
here k d no_members = rw (tied_itself nat_list_cmp_total k) refl
here k d (member l e ms) = here_by (order k l) k l d e ms refl (here k d ms)

other : {X : Type 0} (o : Ordering) (a b : X) → is_eq o ≡ false → match_ordering o a b a ≡ a
other Less a b h = refl
other Equal a b h = absurd (cc)
other Greater a b h = refl

beside_by : (o : Ordering) (k l m : List ℕ) (d e : Data) (ms : Members) → order l m ≡ o → is_eq (order k l) ≡ false → get_member k (put l d ms) ≡ get_member k ms
    → get_member k (match_ordering o (member l d (member m e ms)) (member m d ms) (member m e (put l d ms))) ≡ get_member k (member m e ms)
beside_by Less k l m d e ms h apart same = other (order k l) (get_member k (member m e ms)) (Some d) apart
beside_by Equal k l m d e ms h apart same =
    let alike : order k l ≡ order k m = alike_right nat_list_cmp_total l m k h in
    let away : is_eq (order k m) ≡ false = ap is_eq (sym alike) ∙ apart in
    other (order k m) (get_member k ms) (Some d) away ∙ sym (other (order k m) (get_member k ms) (Some e) away)
beside_by Greater k l m d e ms h apart same = rw same refl

-- another member
pub beside : (k l : List ℕ) (d : Data) (ms : Members) → is_eq (order k l) ≡ false → get_member k (put l d ms) ≡ get_member k ms
beside k l d no_members apart = other (order k l) (get_member k no_members) (Some d) apart
beside k l d (member m e ms) apart = beside_by (order l m) k l m d e ms refl apart (beside k l d ms apart)

known_by : (o : Ordering) (ks : Keys) (k l : List ℕ) (d e : Data) (ms : Members) → has_key ks k ≡ true → has_key ks l ≡ true → all_known ks ms ≡ true → all_known ks (put k d ms) ≡ true
    → all_known ks (match_ordering o (member k d (member l e ms)) (member l d ms) (member l e (put k d ms))) ≡ true
known_by Less ks k l d e ms hk hl hm hp = rw (hk, hl, hm) refl
known_by Equal ks k l d e ms hk hl hm hp = rw (hl, hm) refl
known_by Greater ks k l d e ms hk hl hm hp = rw (hl, hp) refl

-- each key is known
pub known_put : (ks : Keys) (k : List ℕ) (d : Data) (ms : Members) → has_key ks k ≡ true → all_known ks ms ≡ true → all_known ks (put k d ms) ≡ true
known_put ks k d no_members hk hm = rw hk refl
known_put ks k d (member l e ms) hk hm =
    let h = and_parts (has_key ks l) (all_known ks ms) hm in
    known_by (order k l) ks k l d e ms hk h.0 h.1 (known_put ks k d ms hk h.1)
