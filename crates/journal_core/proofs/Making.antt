-- The steps in which a journal is made on a fresh disk.
use Rattle.std.proofs.Common.{◌≡◌, ◌⊎◌, inl, inr, ℕ, ◌+◌, ◌≤◌, List, [], ◌∷◌, ◌++◌, length, get_or, drop, Option, None, Some, refl, sym, ◌∙◌, ap, subst, arith, append_assoc, Result, Ok, Err, OnOk}
use Rattle.std.proofs.lemmas.List.{append-nil}
use Rattle.std.proofs.lemmas.Bool.{cases_eq}
use Rattle.desk_traits.specs.Crash.{AreCrashes, Crashes, Passes, LeavesOnly}
use Rattle.desk_traits.specs.File.{Torn, WritesAt, Only, Same}
use Rattle.journal_core.specs.Image.{spelled, Fits, Image, Fresh}
use Rattle.journal_core.specs.Packet.{framed}
use Rattle.journal_core.specs.Create.{IsBlank, IsMade, IsMaking, IsStart, Starts}
use Rattle.journal_core.specs.declared.create.Start.{Start}
use Rattle.journal_core.specs.declared.create.Start.TheVariants.{Begun, Short}
use Rattle.journal_core.proofs.Bytes.{torn_behind, written_behind, torn_gate, written_gate}
use Rattle.desk_traits.proofs.Moments.{After, told_after, one, both, weaker}
use Rattle.journal_core.proofs.Steps.{only_told}

begun : (rest : List ℕ) → Fresh (46 ∷ rest)
begun [] = tt
begun (b ∷ rest) = refl

short_fresh : (c : List ℕ) → length c ≤ 1 → Fresh c
short_fresh [] short = tt
short_fresh (b ∷ []) short = tt
short_fresh (b ∷ d ∷ c) short = absurd (omega arith)

pub fresh_is : (c rest : List ℕ) → c ≡ 46 ∷ rest → Fresh c
fresh_is c rest is = subst Fresh (sym is) (begun rest)

image_first : (body rest : List ℕ) → Fits body → Image (71 ∷ (framed body ++ rest)) (body ∷ [])
image_first body rest fits = record {
  gate = 46;
  behind = rest;
  written = ap (λ (l : List ℕ). 71 ∷ l) (append_assoc (spelled body) (46 ∷ []) rest ∙ ap (λ (l : List ℕ). l ++ 46 ∷ rest) (sym (append-nil (spelled body))));
  shut = omega arith;
  some = omega arith;
  fit = (fits, tt);
}

making_of : (body rest c : List ℕ) (g : ℕ) → Fits body → c ≡ g ∷ (framed body ++ rest) → IsMaking body c
making_of body rest c g fits is = elim (cases_eq g 71) [
  | inl open_gate ↦ inr (inl (subst (λ (l : List ℕ). Image l (body ∷ [])) (sym (is ∙ ap (λ (n : ℕ). n ∷ (framed body ++ rest)) open_gate)) (image_first body rest fits)))
  | inr other ↦ inr (inr (record { first = g; rest = framed body ++ rest; is = is; other = other; image = image_first body rest fits }))
]

pub starts_told : (start : Start) (o : Option (List ℕ)) (f : List ℕ) → o ≡ Some f → Starts start o → IsStart start f
starts_told start None f e s = absurd (cc)
starts_told start (Some o) f e s = let is : o ≡ f = cc in subst (IsStart start) is s

-- the body stands behind the first byte
pub record IsWritten {D : Type 0} (seen : D → Option (List ℕ)) (crash : D → Crashes) (disk : D) (body : List ℕ) : Type 0 where
  pub rest : List ℕ
  pub told : seen disk ≡ Some (46 ∷ (framed body ++ rest))
  pub only : (c : List ℕ) → (crash disk).may_leave c → c ≡ 46 ∷ (framed body ++ rest)

module _ {D : Type 0} (seen : D → Option (List ℕ)) (crash : D → Crashes)
    (are_crashes : (d : D) → AreCrashes (crash d)) where
  abbrev Step : ℕ → ℕ → D → D → Type 0
  Step at n old new = Passes (Torn at n) (crash old) (crash new)

  written : (E : Type 0) (x : Unit {0}) (old new : D) (bytes body : List ℕ) → bytes ≡ framed body → IsBlank seen crash old → WritesAt {E = E} 1 bytes (seen old) (seen new) (Ok x) → Only (seen new) (crash new).may_leave → IsWritten seen crash new body
  written E x old new bytes body framed_is b writes only =
      let a : After {E = E} 1 bytes (46 ∷ b.tail) (seen new) (Ok x) = told_after 1 bytes (seen old) (seen new) (Ok x) (46 ∷ b.tail) b.told writes in
      let rest = drop (1 + length bytes) (46 ∷ b.tail) in
      let is : a.file ≡ 46 ∷ (framed body ++ rest) = written_behind [] 0 refl 46 b.tail bytes a.file a.holds ∙ ap (λ (l : List ℕ). 46 ∷ (l ++ rest)) framed_is in
      record {
        rest = rest;
        told = a.told ∙ ap (λ (l : List ℕ). Some l) is;
        only = λ c left. only_told (seen new) (crash new).may_leave a.file a.told only c left ∙ is;
      }

  pub making_first : (old new : D) (n : ℕ) (body : List ℕ) → IsBlank seen crash old → Step 1 n old new → LeavesOnly (crash old) (crash new) (IsMaking body)
  making_first old new n body b step =
      one crash are_crashes old new (Torn 1 n) (IsMaking body) step
      (λ d c left torn. inl (fresh_is c (drop 1 c) (torn_behind [] 0 refl 46 n b.tail c (subst (λ (l : List ℕ). Torn 1 n l c) (b.only d left) torn))))

  making_second : (old new : D) (body : List ℕ) → Fits body → IsWritten seen crash old body → Step 0 1 old new → LeavesOnly (crash old) (crash new) (IsMaking body)
  making_second old new body fits w step =
      one crash are_crashes old new (Torn 0 1) (IsMaking body) step
      (λ d c left torn. making_of body w.rest c (get_or c 0 0) fits (torn_gate [] 0 refl 46 (framed body ++ w.rest) c (subst (λ (l : List ℕ). Torn 0 1 l c) (w.only d left) torn)))

  pub making : (E : Type 0) (x : Unit {0}) (old mid new : D) (n : ℕ) (bytes body : List ℕ) → bytes ≡ framed body → Fits body → IsBlank seen crash old → WritesAt {E = E} 1 bytes (seen old) (seen mid) (Ok x) → Only (seen mid) (crash mid).may_leave → Step 1 n old mid → Step 0 1 mid new → LeavesOnly (crash old) (crash new) (IsMaking body)
  making E x old mid new n bytes body framed_is fits b writes only step step2 =
      let w = written E x old mid bytes body framed_is b writes only in
      both crash are_crashes old mid new (IsMaking body) (IsMaking body) (making_first old mid n body b step) (making_second mid new body fits w step2) (λ c p. p)

  opened : {E : Type 0} (result : Result (Unit {0}) E) (old new : D) (body : List ℕ) → Fits body → IsWritten seen crash old body → WritesAt 0 (71 ∷ []) (seen old) (seen new) result → OnOk result (Only (seen new) (crash new).may_leave) → OnOk result (IsMade seen crash new body)
  opened (Err e) old new body fits w writes only = tt
  opened {E} (Ok x) old new body fits w writes only =
      let a : After {E = E} 0 (71 ∷ []) (46 ∷ (framed body ++ w.rest)) (seen new) (Ok x) = told_after 0 (71 ∷ []) (seen old) (seen new) (Ok x) (46 ∷ (framed body ++ w.rest)) w.told writes in
      let is : a.file ≡ 71 ∷ (framed body ++ w.rest) = written_gate [] 0 refl 46 71 (framed body ++ w.rest) a.file a.holds in
      record { file = a.file; told = a.told; image = subst (λ (l : List ℕ). Image l (body ∷ [])) (sym is) (image_first body w.rest fits); only = only_told (seen new) (crash new).may_leave a.file a.told only }

  pub made : (E : Type 0) (x : Unit {0}) {F : Type 0} (result : Result (Unit {0}) F) (old mid new : D) (bytes body : List ℕ) → bytes ≡ framed body → Fits body → IsBlank seen crash old → WritesAt {E = E} 1 bytes (seen old) (seen mid) (Ok x) → Only (seen mid) (crash mid).may_leave → WritesAt 0 (71 ∷ []) (seen mid) (seen new) result → OnOk result (Only (seen new) (crash new).may_leave) → OnOk result (IsMade seen crash new body)
  made E x result old mid new bytes body framed_is fits b writes only opens after =
      opened result mid new body fits (written E x old mid bytes body framed_is b writes only) opens after

  -- a first byte is written where there was at most one
  blank : (E : Type 0) (x : Unit {0}) (old new : D) (f : List ℕ) → seen old ≡ Some f → length f ≤ 1 → WritesAt {E = E} 0 (46 ∷ []) (seen old) (seen new) (Ok x) → Only (seen new) (crash new).may_leave → IsBlank seen crash new
  blank E x old new f told short writes only =
      let a : After {E = E} 0 (46 ∷ []) f (seen new) (Ok x) = told_after 0 (46 ∷ []) (seen old) (seen new) (Ok x) f told writes in
      record { tail = drop 1 f; told = a.told ∙ ap (λ (l : List ℕ). Some l) a.holds; only = λ c left. only_told (seen new) (crash new).may_leave a.file a.told only c left ∙ a.holds }

  abbrev Making : D → List ℕ → List ℕ → Type 0
  Making old body c = (crash old).may_leave c ⊎ IsMaking body c

  -- a look leaves what might have been left before
  pub looked : (old new : D) (body : List ℕ) → Passes Same (crash old) (crash new) → LeavesOnly (crash old) (crash new) (Making old body)
  looked old new body passes = one crash are_crashes old new Same (Making old body) passes (λ d c left is. inl (subst (crash old).may_leave (sym is) left))

  -- a first byte where there was at most one
  dotted : (old new : D) (f body : List ℕ) → ((c : List ℕ) → (crash old).may_leave c → c ≡ f) → length f ≤ 1 → Step 0 1 old new → LeavesOnly (crash old) (crash new) (IsMaking body)
  dotted old new f body only short step =
      one crash are_crashes old new (Torn 0 1) (IsMaking body) step (λ d c left torn. inl (short_fresh c (omega (arith, torn.no_longer, ap length (only d left), short))))

  pub goes_on : (old mid new : D) (body : List ℕ) → LeavesOnly (crash old) (crash mid) (Making old body) → LeavesOnly (crash mid) (crash new) (IsMaking body) → LeavesOnly (crash old) (crash new) (Making old body)
  goes_on old mid new body first second =
      both crash are_crashes old mid new (Making old body) (Making old body) first
      (weaker crash are_crashes mid new (IsMaking body) (Making old body) (λ c m. inr m) second) (λ c p. p)

  -- a look, a first byte where there was at most one, and what goes on from there
  pub dotted_on : (E : Type 0) (x : Unit {0}) (old mid dot new : D) (f body : List ℕ) → seen old ≡ Some f → seen mid ≡ seen old → Starts Short (seen old) → Only (seen mid) (crash mid).may_leave → Passes Same (crash old) (crash mid)
      → WritesAt {E = E} 0 (46 ∷ []) (seen mid) (seen dot) (Ok x) → Only (seen dot) (crash dot).may_leave → Step 0 1 mid dot → (IsBlank seen crash dot → LeavesOnly (crash dot) (crash new) (IsMaking body)) → LeavesOnly (crash old) (crash new) (Making old body)
  dotted_on E x old mid dot new f body told same starts only passes writes after step more =
      let told' = same ∙ told in
      let short = starts_told Short (seen old) f told starts in
      goes_on old dot new body
      (goes_on old mid dot body (looked old mid body passes) (dotted mid dot f body (only_told (seen mid) (crash mid).may_leave f told' only) short step))
      (more (blank E x mid dot f told' short writes after))

-- a file that begins as one that is being made, and is stable
pub blank_begun : {D : Type 0} (seen : D → Option (List ℕ)) (crash : D → Crashes) (disk : D) (f : List ℕ) → seen disk ≡ Some f → ((c : List ℕ) → (crash disk).may_leave c → c ≡ f) → IsStart Begun f → IsBlank seen crash disk
blank_begun seen crash disk f told only begins = record { tail = begins.0; told = told ∙ ap (λ (l : List ℕ). Some l) begins.1; only = λ c left. only c left ∙ begins.1 }
