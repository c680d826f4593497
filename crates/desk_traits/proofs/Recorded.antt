-- The calls of a disk in memory, one more each time.
use Rattle.std.proofs.Common.{◌≡◌, ◌⊎◌, inl, inr, ⊎_elim, ℕ, ◌+◌, ◌≤◌, ◌<◌, Bool, true, false, cond, leb, List, [], ◌∷◌, ◌++◌, length, take, drop, Some, refl, sym, ◌∙◌, ap, subst, arith, length-append, leb-true, le-leb, ◌-◌, ◌/◌, ◌%◌, ◌==◌, replicate, length-take, drop-drop, append-nil, Result, Ok, Err, OnOk, OnErr}
use borrow.Author.Tests.{leb-false}
use Rattle.std.proofs.lemmas.List.{take_all, take-append-le, length-replicate}
use Rattle.desk_traits.specs.Crash.{Passes, any_crash}
use Rattle.desk_traits.specs.File.{Torn, Same}
use Rattle.desk_traits.specs.DiskMemory.{written, next, replay, after_call, leaves, MayLeave, LeftSince, crashes_of, is_write, is_synced, synced_at, torn_to, crash_after, crash_by, picked}
use Rattle.desk_traits.specs.DiskTold.{Comes}
use Rattle.desk_traits.specs.DiskMemoryLaws.{torn_not, torn_put, seen_left}
use Rattle.desk_traits.specs.declared.disk_crash.Crashed.{Crashed}
use Rattle.desk_traits.specs.declared.disk_record.DiskCall.{DiskCall}
use Rattle.desk_traits.specs.declared.disk_record.DiskCall.TheVariants.{Looked, Read, Wrote, Synced, LookFailed, ReadFailed, WriteFailed, SyncFailed}

pub replay-push : (file : List ℕ) (calls : List DiskCall) (call : DiskCall) → replay file (calls ++ call ∷ []) ≡ next call (replay file calls)
replay-push file [] call = refl
replay-push file (c ∷ calls) call = replay-push (next c file) calls call

leaves-push : (file : List ℕ) (P : List ℕ → Type 0) (calls : List DiskCall) (call : DiskCall) (c : List ℕ) → leaves file P (calls ++ call ∷ []) c → after_call call (replay file calls) (leaves file P calls) c
leaves-push file P [] call c left = left
leaves-push file P (x ∷ calls) call c left = leaves-push (next x file) (after_call x file P) calls call c left

passes_same : (first : List ℕ) (calls : List DiskCall) (step : List ℕ → List ℕ → Type 0) → ((c : List ℕ) → step c c) → Passes step (crashes_of first calls) (crashes_of first calls)
passes_same first calls step stays = record {
  later = omega arith;
  during = λ c since. (c, subst (λ (l : List DiskCall). MayLeave first l c) (take_all since.k calls (omega (arith, since.from))) since.left, stays c);
  joins = λ t c le since. inl since;
  keeps = λ t c le since. since;
}

module _ (first : List ℕ) (calls : List DiskCall) (call : DiskCall) (step : List ℕ → List ℕ → Type 0) (stays : (c : List ℕ) → step c c)
    (steps : (c : List ℕ) → after_call call (replay first calls) (MayLeave first calls) c → (d : List ℕ) × MayLeave first calls d × step d c) where
  long : length (calls ++ call ∷ []) ≡ length calls + 1
  long = omega (arith, length-append calls (call ∷ []))

  short : (k : ℕ) (c : List ℕ) → k ≤ length calls → MayLeave first (take k (calls ++ call ∷ [])) c → MayLeave first (take k calls) c
  short k c le left = subst (λ (l : List DiskCall). MayLeave first l c) (take-append-le k calls (call ∷ []) le) left

  back : (k : ℕ) (c : List ℕ) → k ≤ length calls → MayLeave first (take k calls) c → MayLeave first (take k (calls ++ call ∷ [])) c
  back k c le left = subst (λ (l : List DiskCall). MayLeave first l c) (sym (take-append-le k calls (call ∷ []) le)) left

  during_by : (c : List ℕ) (since : LeftSince first (calls ++ call ∷ []) (length calls) c) → (b : Bool) → leb since.k (length calls) ≡ b → (d : List ℕ) × MayLeave first calls d × step d c
  during_by c since true e =
      let le : since.k ≤ length calls = leb-true since.k (length calls) e in
      (c, subst (λ (l : List DiskCall). MayLeave first l c) (take_all since.k calls (omega (arith, since.from))) (short since.k c le since.left), stays c)
  during_by c since false e =
      let lt : length calls < since.k = leb-false since.k (length calls) e in
      steps c (leaves-push first (λ d. d ≡ first) calls call c (subst (λ (l : List DiskCall). MayLeave first l c) (take_all since.k (calls ++ call ∷ []) (omega (arith, long))) since.left))

  joins_by : (t : ℕ) (c : List ℕ) → t ≤ length calls → (since : LeftSince first (calls ++ call ∷ []) t c) → (b : Bool) → leb since.k (length calls) ≡ b → LeftSince first calls t c ⊎ LeftSince first (calls ++ call ∷ []) (length calls) c
  joins_by t c le since true e =
      let within : since.k ≤ length calls = leb-true since.k (length calls) e in
      inl (record { k = since.k; from = since.from; upto = within; left = short since.k c within since.left })
  joins_by t c le since false e =
      let lt : length calls < since.k = leb-false since.k (length calls) e in
      inr (record { k = since.k; from = omega arith; upto = since.upto; left = since.left })

  pub passes_push : Passes step (crashes_of first calls) (crashes_of first (calls ++ call ∷ []))
  passes_push = record {
    later = omega (arith, long);
    during = λ c since. during_by c since (leb since.k (length calls)) refl;
    joins = λ t c le since. joins_by t c le since (leb since.k (length calls)) refl;
    keeps = λ t c le since. record { k = since.k; from = since.from; upto = omega (arith, long, since.upto); left = back since.k c since.upto since.left };
  }

-- from the calls of a disk to those of a later one
abbrev pub Goes : (List ℕ → List ℕ → Type 0) → List ℕ → List ℕ → List DiskCall → List DiskCall → Type 0
Goes step first first' calls new = Passes step (crashes_of first calls) (crashes_of first' new)

pub goes_push : (step : List ℕ → List ℕ → Type 0) (first first' : List ℕ) (calls calls' new : List DiskCall) (call : DiskCall) → ((c : List ℕ) → step c c)
    → ((c : List ℕ) → after_call call (replay first calls) (MayLeave first calls) c → (d : List ℕ) × MayLeave first calls d × step d c)
    → first' ≡ first → calls' ≡ calls → new ≡ calls' ++ call ∷ [] → Goes step first first' calls new
goes_push step first first' calls calls' new call stays steps e1 e2 is =
    subst (λ (f : List ℕ). Goes step first f calls new) (sym e1)
    (subst (λ (l : List DiskCall). Goes step first first calls l) (sym (is ∙ ap (λ (l : List DiskCall). l ++ call ∷ []) e2)) (passes_push first calls call step stays steps))

pub goes_not : (step : List ℕ → List ℕ → Type 0) (first first' : List ℕ) (calls calls' new : List DiskCall) → ((c : List ℕ) → step c c)
    → first' ≡ first → calls' ≡ calls → new ≡ calls' → Goes step first first' calls new
goes_not step first first' calls calls' new stays e1 e2 is =
    subst (λ (f : List ℕ). Goes step first f calls new) (sym e1)
    (subst (λ (l : List DiskCall). Goes step first first calls l) (sym (is ∙ e2)) (passes_same first calls step stays))

-- a call that is no write leaves what might have been left before
quiet_steps : (call : DiskCall) (file : List ℕ) (P : List ℕ → Type 0) → is_write call ≡ false → P file → (c : List ℕ) → after_call call file P c → (d : List ℕ) × P d × Same d c
quiet_steps (Wrote at bytes) file P quiet p c left = absurd (cc)
quiet_steps (WriteFailed at bytes) file P quiet p c left = absurd (cc)
quiet_steps Synced file P quiet p c left = (file, p, left)
quiet_steps Looked file P quiet p c left = (c, left, refl)
quiet_steps (Read at count) file P quiet p c left = (c, left, refl)
quiet_steps LookFailed file P quiet p c left = (c, left, refl)
quiet_steps (ReadFailed at count) file P quiet p c left = (c, left, refl)
quiet_steps SyncFailed file P quiet p c left = (c, left, refl)

pub goes_quiet : (first first' : List ℕ) (calls new : List DiskCall) (call : DiskCall) → is_write call ≡ false → first' ≡ first → new ≡ calls ++ call ∷ [] → Goes Same first first' calls new
goes_quiet first first' calls new call quiet e is =
    goes_push Same first first' calls calls new call (λ c. refl) (quiet_steps call (replay first calls) (MayLeave first calls) quiet (seen_left first (λ d. d ≡ first) calls refl)) e refl is

-- what came of a call that is no good write
pub goes_noted : (told : Type 0) (first first' : List ℕ) (calls new : List DiskCall) (good failed : DiskCall) (lacked lacked' b : Bool) → is_write good ≡ false → is_write failed ≡ false → first' ≡ first → Comes told calls new good failed lacked lacked' b → Goes Same first first' calls new
goes_noted told first first' calls new good failed lacked lacked' true quiet quiet' e comes =
    ⊎_elim (λ is. goes_quiet first first' calls new good quiet e is.noted) (λ not. goes_not Same first first' calls calls new (λ c. refl) e refl not.unnoted) comes
goes_noted told first first' calls new good failed lacked lacked' false quiet quiet' e comes =
    ⊎_elim (λ is. goes_quiet first first' calls new failed quiet' e is.noted) (λ not. goes_not Same first first' calls calls new (λ c. refl) e refl not.unnoted) comes

-- what a read gives goes on as the record says
next_quiet : (call : DiskCall) (file : List ℕ) → is_write call ≡ false → next call file ≡ file
next_quiet (Wrote at bytes) file quiet = absurd (cc)
next_quiet (WriteFailed at bytes) file quiet = refl
next_quiet Synced file quiet = refl
next_quiet Looked file quiet = refl
next_quiet (Read at count) file quiet = refl
next_quiet LookFailed file quiet = refl
next_quiet (ReadFailed at count) file quiet = refl
next_quiet SyncFailed file quiet = refl

pub kept_quiet : (first file : List ℕ) (calls new : List DiskCall) (call : DiskCall) (noted : Bool) → is_write call ≡ false → file ≡ replay first calls → new ≡ cond noted (calls ++ call ∷ []) calls → file ≡ replay first new
kept_quiet first file calls new call true quiet kept same = kept ∙ sym (ap (replay first) same ∙ replay-push first calls call ∙ next_quiet call (replay first calls) quiet)
kept_quiet first file calls new call false quiet kept same = kept ∙ sym (ap (replay first) same)

pub kept_failed : (first file : List ℕ) (calls new : List DiskCall) (at : ℕ) (bytes : List ℕ) (noted : Bool) → file ≡ replay first calls → new ≡ cond noted (calls ++ WriteFailed at bytes ∷ []) calls → file ≡ replay first new
kept_failed first file calls new at bytes true kept same = kept ∙ sym (ap (replay first) same ∙ replay-push first calls (WriteFailed at bytes))
kept_failed first file calls new at bytes false kept same = kept ∙ sym (ap (replay first) same)

pub kept_wrote : (first old file : List ℕ) (calls new : List DiskCall) (at : ℕ) (b : List ℕ) → at ≤ length old → old ≡ replay first calls → new ≡ calls ++ Wrote at b ∷ []
    → file ≡ take at old ++ (b ++ drop (at + length b) old) → file ≡ replay first new
kept_wrote first old file calls new at b le kept same file_is =
    file_is
    ∙ sym (ap (λ (t : Bool). cond t (take at old ++ (b ++ drop (at + length b) old)) old) (le-leb at (length old) le))
    ∙ ap (written at b) kept
    ∙ sym (ap (replay first) same ∙ replay-push first calls (Wrote at b))

-- after a write, which may have changed nothing
pub kept_put : {T E : Type 0} (r : Result T E) (first old file : List ℕ) (calls new : List DiskCall) (at : ℕ) (b : List ℕ) → at ≤ length old → old ≡ replay first calls
    → OnOk r (file ≡ take at old ++ (b ++ drop (at + length b) old)) → OnOk r (new ≡ calls ++ Wrote at b ∷ []) → OnErr r (file ≡ old) → OnErr r (new ≡ calls) → file ≡ replay first new
kept_put (Ok x) first old file calls new at b le kept file_is calls_are same same_calls = kept_wrote first old file calls new at b le kept calls_are file_is
kept_put (Err e) first old file calls new at b le kept file_is calls_are same same_calls = same ∙ kept ∙ sym (ap (replay first) same_calls)

-- a failed write, which may not be noted for want of memory
pub goes_failed : (first first' : List ℕ) (calls calls' new : List DiskCall) (at : ℕ) (bytes : List ℕ) (noted : Bool) → first' ≡ first → calls' ≡ calls → new ≡ cond noted (calls' ++ WriteFailed at bytes ∷ []) calls'
    → Goes (Torn at (length bytes)) first first' calls new
goes_failed first first' calls calls' new at bytes true e1 e2 is = goes_push (Torn at (length bytes)) first first' calls calls' new (WriteFailed at bytes) (torn_not at (length bytes)) (λ c left. left) e1 e2 is
goes_failed first first' calls calls' new at bytes false e1 e2 is = goes_not (Torn at (length bytes)) first first' calls calls' new (torn_not at (length bytes)) e1 e2 is

pub goes_wrote : (first first' : List ℕ) (calls calls' new : List DiskCall) (at : ℕ) (bytes : List ℕ) → first' ≡ first → calls' ≡ calls → new ≡ calls' ++ Wrote at bytes ∷ []
    → Goes (Torn at (length bytes)) first first' calls new
goes_wrote first first' calls calls' new at bytes e1 e2 is = goes_push (Torn at (length bytes)) first first' calls calls' new (Wrote at bytes) (torn_not at (length bytes)) (λ c left. left) e1 e2 is

-- after a good sync a crash leaves what a read gives
pub only_synced : (first file : List ℕ) (calls new : List DiskCall) → file ≡ replay first calls → new ≡ calls ++ Synced ∷ [] → (c : List ℕ) → MayLeave first new c → c ≡ file
only_synced first file calls new kept same c left =
    leaves-push first (λ d. d ≡ first) calls Synced c (subst (λ (l : List DiskCall). MayLeave first l c) same left) ∙ sym kept

-- the moments of the good syncs
mark : (before at : ℕ) (b : Bool) → before + 1 ≡ at → cond b ((before + 1) ∷ []) [] ≡ cond b (at ∷ []) []
mark before at true is = ap (λ n. n ∷ []) is
mark before at false is = refl

synced_more : (b : Bool) (n : ℕ) (xs ys zs : List ℕ) → xs ≡ ys ++ zs → cond b (n ∷ xs) xs ≡ cond b (n ∷ ys) ys ++ zs
synced_more true n xs ys zs is = ap (λ (l : List ℕ). n ∷ l) is
synced_more false n xs ys zs is = is

synced-push : (before at : ℕ) (calls : List DiskCall) (call : DiskCall) → at ≡ before + length calls + 1 → synced_at before (calls ++ call ∷ []) ≡ synced_at before calls ++ cond (is_synced call) (at ∷ []) []
synced-push before at [] call is = mark before at (is_synced call) (omega (arith, is))
synced-push before at (x ∷ calls) call is = synced_more (is_synced x) (before + 1) _ _ _ (synced-push (before + 1) at calls call (omega (arith, is)))

pub synced_good : (calls new : List DiskCall) → new ≡ calls ++ Synced ∷ [] → Some (synced_at 0 new) ≡ Some (synced_at 0 calls ++ length new ∷ [])
synced_good calls new is = ap (λ (l : List ℕ). Some l) (ap (synced_at 0) is ∙ synced-push 0 (length new) calls Synced (omega (arith, ap length is, length-append calls (Synced ∷ []))))

pub synced_other : (calls calls' new : List DiskCall) (call : DiskCall) → is_synced call ≡ false → calls' ≡ calls → new ≡ calls' ++ call ∷ [] → Some (synced_at 0 new) ≡ Some (synced_at 0 calls)
synced_other calls calls' new call not e is =
    ap (λ (l : List ℕ). Some l) (ap (synced_at 0) (is ∙ ap (λ (l : List DiskCall). l ++ call ∷ []) e) ∙ synced-push 0 (length calls + 1) calls call (omega arith)
    ∙ ap (λ b. synced_at 0 calls ++ cond b ((length calls + 1) ∷ []) []) not ∙ append-nil (synced_at 0 calls))

pub synced_not : (calls calls' new : List DiskCall) → calls' ≡ calls → new ≡ calls' → Some (synced_at 0 new) ≡ Some (synced_at 0 calls)
synced_not calls calls' new e is = ap (λ (l : List DiskCall). Some (synced_at 0 l)) (is ∙ e)

-- of a call that was not good
pub synced_refused : (told : Type 0) (calls new : List DiskCall) (good failed : DiskCall) (lacked lacked' : Bool) → is_synced failed ≡ false → Comes told calls new good failed lacked lacked' false → Some (synced_at 0 new) ≡ Some (synced_at 0 calls)
synced_refused told calls new good failed lacked lacked' not comes = ⊎_elim (λ is. synced_other calls calls new failed not refl is.noted) (λ lacking. synced_not calls calls new refl lacking.unnoted) comes

pub synced_noted : (told : Type 0) (calls new : List DiskCall) (good failed : DiskCall) (lacked lacked' b : Bool) → is_synced good ≡ false → is_synced failed ≡ false → Comes told calls new good failed lacked lacked' b → Some (synced_at 0 new) ≡ Some (synced_at 0 calls)
synced_noted told calls new good failed lacked lacked' true not not' comes = ⊎_elim (λ is. synced_other calls calls new good not refl is.noted) (λ lacking. synced_not calls calls new refl lacking.unnoted) comes
synced_noted told calls new good failed lacked lacked' false not not' comes = synced_refused told calls new good failed lacked lacked' not' comes

-- a good sync was noted
pub noted_good : (told : Type 0) (calls new : List DiskCall) (good failed : DiskCall) (lacked lacked' : Bool) → Comes told calls new good failed lacked lacked' true → new ≡ calls ++ good ∷ []
noted_good told calls new good failed lacked lacked' comes = ⊎_elim (λ is. is.noted) (λ lacking. absurd (let e = lacking.fails in cc)) comes

pub synced_failed : (calls calls' new : List DiskCall) (at : ℕ) (bytes : List ℕ) (noted : Bool) → calls' ≡ calls → new ≡ cond noted (calls' ++ WriteFailed at bytes ∷ []) calls' → Some (synced_at 0 new) ≡ Some (synced_at 0 calls)
synced_failed calls calls' new at bytes true e is = synced_other calls calls' new (WriteFailed at bytes) refl e is
synced_failed calls calls' new at bytes false e is = synced_not calls calls' new e is

-- fewer bytes are torn
pub torn_less : (at m n : ℕ) (f c : List ℕ) → m ≤ n → Torn at m f c → Torn at n f c
torn_less at m n f c le torn =
    let more : (l : List ℕ) → drop (at + n) l ≡ drop (n - m) (drop (at + m) l) = λ l. let sum : at + n ≡ at + m + (n - m) = omega arith in ap (λ (k : ℕ). drop k l) sum ∙ sym (drop-drop (n - m) (at + m) l) in
    record {
      before = torn.before;
      after = more c ∙ ap (λ (l : List ℕ). drop (n - m) l) torn.after ∙ sym (more f);
      no_shorter = torn.no_shorter;
      no_longer = omega (arith, torn.no_longer);
    }

-- some bytes, no more than a range has, at its begin
pub torn_part : (at n : ℕ) (part f new : List ℕ) → at ≤ length f → length part ≤ n → new ≡ take at f ++ (part ++ drop (at + length part) f) → Torn at n f new
torn_part at n part f new within fewer is = torn_less at (length part) n f new fewer (subst (λ (l : List ℕ). Torn at (length part) f l) (sym is) (torn_put at part f within))

torn_by : (at : ℕ) (bytes : List ℕ) (n : ℕ) (f : List ℕ) (b : Bool) → leb at (length f) ≡ b → length bytes ≤ n → Torn at n f (cond b (take at f ++ (bytes ++ drop (at + length bytes) f)) f)
torn_by at bytes n f true e fewer = torn_part at n bytes f _ (leb-true at (length f) e) fewer refl
torn_by at bytes n f false e fewer = torn_not at n f

torn_written : (at n : ℕ) (bytes f : List ℕ) → length bytes ≤ n → Torn at n f (written at bytes f)
torn_written at n bytes f fewer = torn_by at bytes n f (leb at (length f)) refl fewer

torn_choice : (zero one two : Bool) (at n : ℕ) (a b c f : List ℕ) → length a ≤ n → length b ≤ n → length c ≤ n → Torn at n f (cond zero f (cond one (written at a f) (cond two (written at b f) (written at c f))))
torn_choice true one two at n a b c f p q r = torn_not at n f
torn_choice false true two at n a b c f p q r = torn_written at n a f p
torn_choice false false true at n a b c f p q r = torn_written at n b f q
torn_choice false false false at n a b c f p q r = torn_written at n c f r

torn_chosen : (digit at : ℕ) (bytes f : List ℕ) → Torn at (length bytes) f (torn_to digit at bytes f)
torn_chosen digit at bytes f =
    torn_choice (digit == 0) (digit == 1) (digit == 2) at (length bytes) bytes (take (length bytes / 2) bytes) (replicate (length bytes) 71) f
    (omega arith) (omega (arith, length-take (length bytes / 2) bytes)) (omega (arith, length-replicate {A = ℕ} (length bytes) 71))

-- what the pick leaves is among what a crash may leave
pub picked_left : (pick : ℕ) (calls : List DiskCall) (c : Crashed) (P : List ℕ → Type 0) → P c.left → leaves c.seen P calls (crash_by pick calls c).left
picked_left pick [] c P p = p
picked_left pick (Wrote at bytes ∷ calls) c P p = picked_left pick calls (crash_after pick (Wrote at bytes) c) (after_call (Wrote at bytes) c.seen P) (c.left, p, torn_chosen (c.digits % 4) at bytes c.left)
picked_left pick (WriteFailed at bytes ∷ calls) c P p = picked_left pick calls (crash_after pick (WriteFailed at bytes) c) (after_call (WriteFailed at bytes) c.seen P) (c.left, p, torn_chosen (c.digits % 4) at bytes c.left)
picked_left pick (Synced ∷ calls) c P p = picked_left pick calls (crash_after pick Synced c) (after_call Synced c.seen P) refl
picked_left pick (Looked ∷ calls) c P p = picked_left pick calls c P p
picked_left pick (Read at count ∷ calls) c P p = picked_left pick calls c P p
picked_left pick (LookFailed ∷ calls) c P p = picked_left pick calls c P p
picked_left pick (ReadFailed at count ∷ calls) c P p = picked_left pick calls c P p
picked_left pick (SyncFailed ∷ calls) c P p = picked_left pick calls c P p

pub picked_may : (first : List ℕ) (pick : ℕ) (calls : List DiskCall) (file : List ℕ) → file ≡ picked first pick calls → MayLeave first calls file
picked_may first pick calls file is = subst (MayLeave first calls) (sym is) (picked_left pick calls (record { seen = first; left = first; digits = pick }) (λ d. d ≡ first) refl)

-- a write where nothing is told
pub untold_write : (at n : ℕ) → Passes (Torn at n) any_crash any_crash
untold_write at n = record { later = omega arith; during = λ c left. (c, tt, torn_not at n c); joins = λ t c le left. inl tt; keeps = λ t c le left. tt }
