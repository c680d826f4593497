-- The laws of a disk, for a disk in memory.
use Rattle.std.proofs.Common.{◌≡◌, ℕ, ◌+◌, ◌≤◌, Bool, true, false, cond, leb, leb-true, List, [], ◌∷◌, ◌++◌, length, take, drop, Some, refl, sym, ◌∙◌, ap, subst, arith, append_assoc, length-append, length-drop, length-take}
use Rattle.std.proofs.lemmas.List.{take_all, take_at, drop_at}
use Rattle.desk_traits.specs.Crash.{AreCrashes}
use Rattle.desk_traits.specs.File.{Torn}
use Rattle.desk_traits.specs.DiskMemory.{next, replay, after_call, leaves, MayLeave, LeftSince, crashes_of}
use Rattle.desk_traits.specs.declared.disk_record.DiskCall.{DiskCall}
use Rattle.desk_traits.specs.declared.disk_record.DiskCall.TheVariants.{Looked, Read, Wrote, Synced, LookFailed, ReadFailed, WriteFailed, SyncFailed}

counts : (first : List ℕ) (calls : List DiskCall) (c : List ℕ) → MayLeave first calls c → LeftSince first calls (length calls) c
counts first calls c left = record { k = length calls; from = omega arith; upto = omega arith; left = subst (λ (l : List DiskCall). MayLeave first l c) (sym (take_all (length calls) calls (omega arith))) left }

only : (first : List ℕ) (calls : List DiskCall) (c : List ℕ) → LeftSince first calls (length calls) c → MayLeave first calls c
only first calls c since = subst (λ (l : List DiskCall). MayLeave first l c) (take_all since.k calls (omega (arith, since.from))) since.left

sooner : (first : List ℕ) (calls : List DiskCall) (t u : ℕ) (c : List ℕ) → t ≤ u → LeftSince first calls u c → LeftSince first calls t c
sooner first calls t u c le since = record { k = since.k; from = omega (arith, le, since.from); upto = since.upto; left = since.left }

pub they_are : (first : List ℕ) (calls : List DiskCall) → AreCrashes (crashes_of first calls)
they_are first calls = record { counts_now = counts first calls; only_now = only first calls; earlier = λ t u c le upto since. sooner first calls t u c le since }

-- nothing is torn
pub torn_not : (at n : ℕ) (f : List ℕ) → Torn at n f f
torn_not at n f = record { before = refl; after = refl; no_shorter = omega arith; no_longer = omega arith }

pub torn_put : (at : ℕ) (bytes f : List ℕ) → at ≤ length f → Torn at (length bytes) f (take at f ++ (bytes ++ drop (at + length bytes) f))
torn_put at bytes f le =
    let rest = drop (at + length bytes) f in
    let front : length (take at f) ≡ at = omega (arith, length-take at f) in
    let whole : length (take at f ++ (bytes ++ rest)) ≡ at + (length bytes + length rest) = omega (arith, front, length-append (take at f) (bytes ++ rest), length-append bytes rest) in
    let two : length (take at f ++ bytes) ≡ at + length bytes = omega (arith, front, length-append (take at f) bytes) in
    record {
      before = take_at (take at f) (bytes ++ rest) at front;
      after = ap (λ (l : List ℕ). drop (at + length bytes) l) (sym (append_assoc (take at f) bytes rest)) ∙ drop_at (take at f ++ bytes) rest (at + length bytes) two;
      no_shorter = omega (arith, whole, length-drop (at + length bytes) f);
      no_longer = omega (arith, whole, length-drop (at + length bytes) f);
    }

torn_by : (at : ℕ) (bytes f : List ℕ) (b : Bool) → leb at (length f) ≡ b → Torn at (length bytes) f (cond b (take at f ++ (bytes ++ drop (at + length bytes) f)) f)
torn_by at bytes f true e = torn_put at bytes f (leb-true at (length f) e)
torn_by at bytes f false e = torn_not at (length bytes) f

stays : (call : DiskCall) (file : List ℕ) (P : List ℕ → Type 0) → P file → after_call call file P (next call file)
stays (Wrote at bytes) file P p = (file, p, torn_by at bytes file (leb at (length file)) refl)
stays (WriteFailed at bytes) file P p = (file, p, torn_not at (length bytes) file)
stays Synced file P p = refl
stays Looked file P p = p
stays (Read at count) file P p = p
stays LookFailed file P p = p
stays (ReadFailed at count) file P p = p
stays SyncFailed file P p = p

-- what a read gives is among what a crash may leave
pub seen_left : (file : List ℕ) (P : List ℕ → Type 0) (calls : List DiskCall) → P file → leaves file P calls (replay file calls)
seen_left file P [] p = p
seen_left file P (call ∷ calls) p = seen_left (next call file) (after_call call file P) calls (stays call file P p)

pub seen_may : (first bytes f : List ℕ) (calls : List DiskCall) → bytes ≡ replay first calls → Some bytes ≡ Some f → MayLeave first calls f
seen_may first bytes f calls kept e =
    let is : replay first calls ≡ f = let same : bytes ≡ f = cc in sym kept ∙ same in
    subst (MayLeave first calls) is (seen_left first (λ d. d ≡ first) calls refl)
