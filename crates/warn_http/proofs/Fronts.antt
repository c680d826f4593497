-- Heads at the front of bytes: at most one, which more bytes do not change.
use Rattle.std.proofs.Common.{◌≡◌, ℕ, ◌+◌, ◌-◌, ◌<◌, ◌≤◌, ◌⊎◌, inl, inr, List, [], ◌++◌, length, take, drop, refl, ap, sym, ◌∙◌, subst, arith, append_assoc, length-append, Err}
use mathlib.Core.List.{append-nil}
use Rattle.std.proofs.lemmas.Bool.{cases_lt}
use Rattle.std.proofs.lemmas.List.{take-append-drop, take-append-le, take_all}
use Rattle.std.proofs.Math.Seq.{take-append-add}
use Rattle.httparse.specs.Grammar.{RequestHead, ReadsRequest, HasNoRequest, NeverHasRequest}
use Rattle.httparse.proofs.GrammarLemmas.{request_unique, ReadsRequest-append}
use Rattle.office_types.specs.declared.refusal.Refusal.TheVariants.{BadHead}
use Rattle.warn_http.specs.Heads.{fields_of, stated, most_bytes, most_fields, IsHead, IsBadHead, IsTooLong}
use Rattle.warn_http.specs.Wants.{wanted, wanted_by}
use Rattle.warn_http.specs.declared.fields.Stated.TheVariants.{Wrong}

-- a head of the first bytes is one of all of them
pub reads_on : (n : ℕ) (bytes : List ℕ) (h : RequestHead) (rest : List ℕ)
    → ReadsRequest (take n bytes) h rest → ReadsRequest bytes h (rest ++ drop n bytes)
reads_on n bytes h rest reads =
    subst (λ (b : List ℕ). ReadsRequest b h (rest ++ drop n bytes)) (take-append-drop n bytes)
    (ReadsRequest-append (take n bytes) h rest (drop n bytes) reads)

-- where the first bytes never become a head, no bytes do
pub never_on : (n : ℕ) (bytes : List ℕ) → NeverHasRequest (take n bytes) → NeverHasRequest bytes
never_on n bytes never = λ more h rest reads.
    let e : take n bytes ++ (drop n bytes ++ more) ≡ bytes ++ more =
    sym (append_assoc (take n bytes) (drop n bytes) more) ∙ ap (λ (b : List ℕ). b ++ more) (take-append-drop n bytes) in
    never (drop n bytes ++ more) h rest (subst (λ (b : List ℕ). ReadsRequest b h rest) (sym e) reads)

-- the first bytes of more bytes go on from the first of these
pub take_more : (n : ℕ) (bytes more : List ℕ) → (x : List ℕ) × (take n (bytes ++ more) ≡ take n bytes ++ x)
take_more n bytes more = of (cases_lt (length bytes) n)
  where
    of : ((length bytes < n) ⊎ (n ≤ length bytes)) → (x : List ℕ) × (take n (bytes ++ more) ≡ take n bytes ++ x)
    of (inl short) =
        let k : ℕ = n - length bytes in
        let e : length bytes + k ≡ n = omega arith in
        let le : length bytes ≤ n = omega arith in
        let all = take_all n bytes le in (
          take k more,
          subst (λ (m : ℕ). take m (bytes ++ more) ≡ take n bytes ++ take k more) e
              (take-append-add bytes more k ∙ ap (λ (b : List ℕ). b ++ take k more) (sym all)),
        )
    of (inr long) = ([], take-append-le n bytes more long ∙ sym (append-nil (take n bytes)))

pub head_reads : (bytes : List ℕ) (h : RequestHead) → IsHead bytes h
    → (rest : List ℕ) × ReadsRequest bytes h rest
head_reads bytes h head = (_, reads_on most_bytes bytes h head.rest head.reads)

pub head_stays : (bytes more : List ℕ) (h : RequestHead) → IsHead bytes h → IsHead (bytes ++ more) h
head_stays bytes more h head =
    let x = take_more most_bytes bytes more in record {
      rest = head.rest ++ x.0;
      reads = subst (λ (b : List ℕ). ReadsRequest b h (head.rest ++ x.0)) (sym x.1)
          (ReadsRequest-append (take most_bytes bytes) h head.rest x.0 head.reads);
      few = head.few;
    }

pub one_head : (bytes : List ℕ) (h k : RequestHead) → IsHead bytes h → IsHead bytes k → h ≡ k
one_head bytes h k a b = (request_unique (take most_bytes bytes) h k a.rest b.rest a.reads b.reads).0

pub not_never : (bytes : List ℕ) (h : RequestHead) (rest : List ℕ) → ReadsRequest bytes h rest → NeverHasRequest bytes → ⊥
not_never bytes h rest reads never =
    never [] h rest (subst (λ (b : List ℕ). ReadsRequest b h rest) (sym (append-nil bytes)) reads)

pub wrong_is_bad : (h : RequestHead) → stated (fields_of h) ≡ Wrong → wanted_by h ≡ Err BadHead
unfolding wanted
wrong_is_bad h wrong = rw wrong refl

-- a bad head that is within the limits has a wrong Content-Length
pub bad_head : (bytes : List ℕ) (h : RequestHead) → IsHead bytes h → IsBadHead bytes → wanted_by h ≡ Err BadHead
bad_head bytes h head (inl never) =
    let r = head_reads bytes h head in absurd (not_never bytes h r.0 r.1 never)
bad_head bytes h head (inr bad) =
    let r = head_reads bytes h head in
    let e = (request_unique bytes bad.0 h bad.1 r.0 bad.2 r.1).0 in
    subst (λ (k : RequestHead). wanted_by k ≡ Err BadHead) e (wrong_is_bad bad.0 bad.3)

pub not_too_long : (bytes : List ℕ) (h : RequestHead) → IsHead bytes h → IsTooLong bytes → ⊥
not_too_long bytes h head (inl long) = long.1 h head.rest head.reads
not_too_long bytes h head (inr many) =
    let e = (request_unique (take most_bytes bytes) many.0 h many.1 head.rest many.2 head.reads).0 in
    let few : length many.0.fields ≤ most_fields =
    subst (λ (k : RequestHead). length k.fields ≤ most_fields) (sym e) head.few in
    omega arith

pub bad_stays : (bytes more : List ℕ) → IsBadHead bytes → IsBadHead (bytes ++ more)
bad_stays bytes more (inl never) = inl (λ after h rest reads.
    never (more ++ after) h rest (subst (λ (b : List ℕ). ReadsRequest b h rest) (append_assoc bytes more after) reads))
bad_stays bytes more (inr bad) =
    inr (bad.0, bad.1 ++ more, ReadsRequest-append bytes bad.0 bad.1 more bad.2, bad.3)

pub long_stays : (bytes more : List ℕ) → IsTooLong bytes → IsTooLong (bytes ++ more)
long_stays bytes more (inl long) =
    let size = length-append bytes more in
    let e = take-append-le most_bytes bytes more long.0 in
    inl (omega arith, subst (λ (b : List ℕ). HasNoRequest b) (sym e) long.1)
long_stays bytes more (inr many) =
    let x = take_more most_bytes bytes more in
    inr (
      many.0,
      many.1 ++ x.0,
      subst (λ (b : List ℕ). ReadsRequest b many.0 (many.1 ++ x.0)) (sym x.1)
          (ReadsRequest-append (take most_bytes bytes) many.0 many.1 x.0 many.2),
      many.3,
    )
