-- What has become of an office since one moment, and then since a later one.
use Rattle.std.proofs.Common.{ℕ, ◌≡◌, inl, inr, ⊎_elim, All, List, [], ◌∷◌, ◌++◌, Option, None, Some, IfSome, length, refl, ap, sym, ◌∙◌, subst, arith, length-append}
use Rattle.std.proofs.lemmas.List.{append-nil, append_assoc}
use Rattle.std.proofs.lemmas.List.Elements.{All-append, All-cons, All-head, All-nil, All-tail, All-weaker}
use Rattle.desk_traits.specs.Crash.{AreCrashes, LeavesOnly}
use Rattle.desk_traits.specs.declared.disk.Disk.{Ghosts as Disks}
use Rattle.desk_traits.proofs.Moments.{both, nothing, weaker}
use Rattle.office_core.specs.State.{State}
use Rattle.office_journal.specs.Changes.{Change, Leaves}
use Rattle.office_journal.specs.Given.{Gave, IsFront, MayPend, history_after}
use Rattle.office_journal.specs.Grown.{StaysSince, Stood}
use Rattle.office_journal.specs.Histories.{History}
use Rattle.office_journal.specs.Kept.{HasHistory, Holds, disk_of, gate_of, state_of}
use Rattle.office_journal.specs.declared.kept.KeptOffice.{KeptOffice}
use Rattle.office_journal.proofs.Fronts.{at_start, behind_append, front_weaker, holding_less, longer, pends_append, pends_weaker, sooner}
use Rattle.office_turns.specs.Happenings.{entries_in, gate_after, gave_of, given_by, state_behind, stood_by}
use Rattle.office_turns.specs.Since.{AreEntriesAt, IsHeld, IsSince}
use Rattle.office_turns.specs.declared.happening.Happening.{Happening}
use Rattle.office_turns.specs.declared.happening.Happening.TheVariants.{Entry, Fault}
use Rattle.office_turns.proofs.Listing.{entries_append, faults_append, gate_append, given_append, lawful_append, state_append, stood_append}

-- this change was pending
abbrev pub Was : Option Change → Change → Type 0
Was was change = was ≡ Some change

-- what is pending is one that was
pub still_pends : (pending : Option Change) → IfSome pending (Was pending)
still_pends None = tt
still_pends (Some change) = refl

-- of what is pending this is said
pub said_of : (P : Change → Type 0) (pending : Option Change) → IfSome pending P → (change : Change) → Was pending change → P change
said_of P pending which change is = subst (λ (o : Option Change). IfSome o P) is which

pub some_less : (P Q : Change → Type 0) → ((change : Change) → P change → Q change) → (pending : Option Change) → IfSome pending P → IfSome pending Q
some_less P Q f None which = tt
some_less P Q f (Some change) which = f change which

module _ {D : Type 0} (d : Disks D)
    (are_crashes : (x : D) → AreCrashes (d.crash x)) where
  -- a crash now leaves the history that a kept office holds, or that with the pending change
  abbrev pub CrashLaw : KeptOffice D d → Type 0
  CrashLaw kept = (file : List ℕ) (h : History) (pending : Option Change) (c : List ℕ) → Holds d.seen d.crash kept file h pending → (d.crash (disk_of kept)).may_leave c → Leaves file h (λ change. pending ≡ Some change) c

  held_at_once : (kept : KeptOffice D d) → CrashLaw kept → (file : List ℕ) (h : History) (was : Option Change) → Holds d.seen d.crash kept file h was → IsHeld d kept kept file h [] was
  held_at_once kept law file h was holds = record {
    pending = was;
    holds = holds;
    which = still_pends was;
    crashes = nothing d.crash are_crashes (disk_of kept) (IsFront (Was was) [] [] file h)
        (λ c left. at_start (Was was) [] file h c (⊎_elim (λ image. inl image) (λ more. inr (more.0, inl more.1, more.2)) (law file h was c holds left)));
    stays = All-nil (λ stood. StaysSince d stood (disk_of kept) (Was was) [] file h);
  }

  -- nothing has happened yet
  pub since_opened : (kept : KeptOffice D d) → CrashLaw kept → IsSince d kept kept []
  since_opened kept law = record {
    state = refl;
    gate = refl;
    entries = omega arith;
    lawful = tt;
    legal = λ file h has. has;
    reads = λ reads. reads;
    later = omega arith;
    counted = omega arith;
    steady = λ none. refl;
    held = held_at_once kept law;
  }

  -- what was answered before stays, and so does what is answered since
  module _ (mid kept : D) (may now : Change → Type 0) (xs ys : List Gave) (file : List ℕ) (h : History) (pend : (change : Change) → now change → MayPend may xs change) where
    front_since : (held : List Gave) (c : List ℕ) → IsFront now ys held file (history_after h xs) c → IsFront may (xs ++ ys) (xs ++ held) file h c
    front_since held c front = sooner may xs ys held file h c (front_weaker now (MayPend may xs) ys held file (history_after h xs) c pend front)

    -- one that holds all that was given before
    holds_before : (held more : List Gave) (c : List ℕ) → xs ≡ held ++ more → IsFront may (xs ++ ys) (xs ++ []) file h c → IsFront may (xs ++ ys) held file h c
    holds_before held more c are front = holding_less may (xs ++ ys) held more file h c (subst (λ (l : List Gave). IsFront may (xs ++ ys) l file h c) (append-nil xs ∙ are) front)

    stays_on : LeavesOnly (d.crash mid) (d.crash kept) (IsFront now ys [] file (history_after h xs)) → (stood : Stood D) → StaysSince d stood mid may xs file h → StaysSince d stood kept may (xs ++ ys) file h
    stays_on run stood stays = record {
      more = stays.more ++ ys;
      are = ap (λ (l : List Gave). l ++ ys) stays.are ∙ append_assoc stood.held stays.more ys;
      later = (let a = stays.later in let b = run.later in omega arith);
      leaves = λ c left. ⊎_elim
          (λ was. longer may xs ys stood.held file h c (stays.leaves c was))
          (λ since. holds_before stood.held stays.more c stays.are (front_since [] c (run.each c since)))
          (run.joins (d.crash stood.disk).moment c stays.later left);
    }

    stays_behind : (held : List Gave) (disk : D) → StaysSince d (record { held = held; disk = disk }) kept now ys file (history_after h xs) → StaysSince d (record { held = xs ++ held; disk = disk }) kept may (xs ++ ys) file h
    stays_behind held disk stays = record {
      more = stays.more;
      are = ap (λ (l : List Gave). xs ++ l) stays.are ∙ sym (append_assoc xs held stays.more);
      later = stays.later;
      leaves = λ c left. front_since held c (stays.leaves c left);
    }

    all_behind : (held : List Gave) (zs : List (Happening D d)) → All (λ stood. StaysSince d stood kept now ys file (history_after h xs)) (stood_by held zs) → All (λ stood. StaysSince d stood kept may (xs ++ ys) file h) (stood_by (xs ++ held) zs)
    all_behind held [] stay = All-nil (λ stood. StaysSince d stood kept may (xs ++ ys) file h)
    all_behind held (Entry p x ∷ zs) stay =
        let P : Stood D → Type 0 = λ stood. StaysSince d stood kept now ys file (history_after h xs) in
        let Q : Stood D → Type 0 = λ stood. StaysSince d stood kept may (xs ++ ys) file h in
        let one = gave_of (Entry p x) ∷ [] in
        let rest = stood_by (held ++ one) zs in
        let stood : Stood D = record { held = held ++ one; disk = disk_of x.value } in
        subst (λ (l : List Gave). All Q (record { held = l; disk = disk_of x.value } ∷ stood_by l zs)) (sym (append_assoc xs held one))
        (All-cons Q (record { held = xs ++ (held ++ one); disk = disk_of x.value }) (stood_by (xs ++ (held ++ one)) zs)
        (stays_behind (held ++ one) (disk_of x.value) (All-head P stood rest stay))
        (all_behind (held ++ one) zs (All-tail P stood rest stay)))
    all_behind held (Fault p ∷ zs) stay =
        let one = gave_of {D = D} {d = d} (Fault p) ∷ [] in
        subst (λ (l : List Gave). All (λ stood. StaysSince d stood kept may (xs ++ ys) file h) (stood_by l zs)) (sym (append_assoc xs held one)) (all_behind (held ++ one) zs stay)

  module _ (opened mid kept : KeptOffice D d) (xs ys : List (Happening D d)) where
    -- the history with the first entries and then the others
    whole : (h : History) → history_after (history_after h (given_by xs)) (given_by ys) ≡ history_after h (given_by (xs ++ ys))
    whole h = sym (behind_append h (given_by xs) (given_by ys)) ∙ ap (history_after h) (sym (given_append xs ys))

    held_on : (file : List ℕ) (h : History) (was : Option Change) → (first : IsHeld d opened mid file h xs was) → IsHeld d mid kept file (history_after h (given_by xs)) ys first.pending → IsHeld d opened kept file h (xs ++ ys) was
    held_on file h was first since =
        let may = Was was in
        let now = Was first.pending in
        let G = given_by xs in
        let H = given_by ys in
        let between = history_after h G in
        let pend = said_of (MayPend may G) first.pending first.which in
        let Q : Stood D → Type 0 = λ stood. StaysSince d stood (disk_of kept) may (G ++ H) file h in
        let run = both d.crash are_crashes (disk_of opened) (disk_of mid) (disk_of kept) (IsFront may G [] file h) (IsFront may (G ++ H) [] file h) first.crashes
        (weaker d.crash are_crashes (disk_of mid) (disk_of kept) (IsFront now H [] file between) (IsFront may (G ++ H) [] file h)
        (λ c left. holds_before (disk_of mid) (disk_of kept) may now G H file h pend [] G c refl (front_since (disk_of mid) (disk_of kept) may now G H file h pend [] c left)) since.crashes)
        (λ c left. longer may G H [] file h c left) in
        let stay : All Q (stood_by [] (xs ++ ys)) = subst (λ (l : List (Stood D)). All Q l) (sym (stood_append [] xs ys))
        (All-append Q (stood_by [] xs) (stood_by G ys)
        (All-weaker (λ stood. StaysSince d stood (disk_of mid) may G file h) Q (stays_on (disk_of mid) (disk_of kept) may now G H file h pend since.crashes) (stood_by [] xs) first.stays)
        (subst (λ (l : List Gave). All Q (stood_by l ys)) (append-nil G) (all_behind (disk_of mid) (disk_of kept) may now G H file h pend [] ys since.stays))) in
        record {
          pending = since.pending;
          holds = subst (λ (g : History). Holds d.seen d.crash kept file g since.pending) (whole h) since.holds;
          which = some_less (MayPend now H) (MayPend may (given_by (xs ++ ys)))
              (λ change is. subst (λ (l : List Gave). MayPend may l change) (sym (given_append xs ys)) (pends_append may G H change (pends_weaker now (MayPend may G) H pend change is))) since.pending since.which;
          crashes = subst (λ (l : List Gave). LeavesOnly (d.crash (disk_of opened)) (d.crash (disk_of kept)) (IsFront may l [] file h)) (sym (given_append xs ys)) run;
          stays = subst (λ (l : List Gave). All (λ stood. StaysSince d stood (disk_of kept) may l file h) (stood_by [] (xs ++ ys))) (sym (given_append xs ys)) stay;
        }

    pub since_both : IsSince d opened mid xs → IsSince d mid kept ys → IsSince d opened kept (xs ++ ys)
    since_both first since = record {
      state = since.state ∙ (ap (λ (s : State). state_behind s (entries_in ys)) first.state ∙ (sym (state_append (state_of opened) (entries_in xs) (entries_in ys)) ∙ ap (state_behind (state_of opened)) (sym (entries_append xs ys))));
      gate = since.gate ∙ (ap (λ (n : ℕ). gate_after n (entries_in ys)) first.gate ∙ (sym (gate_append (gate_of opened) (entries_in xs) (entries_in ys)) ∙ ap (gate_after (gate_of opened)) (sym (entries_append xs ys))));
      entries = (let a = first.entries in let b = since.entries in let e = ap length (entries_append xs ys) in let l = length-append (entries_in xs) (entries_in ys) in omega arith);
      lawful = lawful_append (state_of opened) xs ys first.lawful (subst (λ (s : State). AreEntriesAt s ys) first.state since.lawful);
      legal = λ file h has. subst (λ (g : History). HasHistory kept file g) (whole h) (since.legal file (history_after h (given_by xs)) (first.legal file h has));
      reads = λ reads. since.reads (first.reads reads);
      later = (let a = first.later in let b = since.later in omega arith);
      counted = (let a = first.counted in let b = since.counted in let f = faults_append xs ys in omega arith);
      steady = λ none. (let f = faults_append xs ys in
          let a = first.steady (omega (arith, none, f)) in
          let b = since.steady (omega (arith, none, f)) in b ∙ a);
      held = λ file h was holds.
          let one = first.held file h was holds in
          held_on file h was one (since.held file (history_after h (given_by xs)) one.pending one.holds);
    }
