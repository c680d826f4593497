-- How the history of a kept office grows by the lines of a script, and what of it stays.
use Rattle.std.proofs.Common.{ℕ, ℤ, ◌≡◌, ◌≤◌, ◌⊎◌, inl, inr, ⊎_elim, All, List, [], ◌∷◌, ◌++◌, Option, None, Some, Result, Ok, Err, IfSome, IsSome, refl, ap, sym, ◌∙◌, subst, append_assoc, arith}
use Rattle.std.proofs.lemmas.List.Elements.{All-cons, All-nil}
use Rattle.desk_traits.specs.Crash.{AreCrashes, LeavesOnly}
use Rattle.desk_traits.specs.Faults.{Rose}
use Rattle.desk_traits.specs.declared.clocks.Clock.{Ghosts as Clocks}
use Rattle.desk_traits.specs.declared.disk.Disk.{Ghosts as Disks}
use Rattle.desk_traits.proofs.Moments.{both, ends, nothing, weaker}
use Rattle.office_types.specs.declared.refusal.Refusal.{Refusal}
use Rattle.request_json.specs.declared.asked.Asked.{Asked}
use Rattle.office_core.specs.Agreement.{ReadsAsTheBoard}
use Rattle.office_journal.specs.Changes.{Change, Leaves}
use Rattle.office_journal.specs.Given.{Gave, Gives, IsFront, MayPend, history_after, pends_after, with_given}
use Rattle.office_journal.specs.Grown.{StaysSince, Stood}
use Rattle.office_journal.specs.Histories.{History}
use Rattle.office_journal.specs.Kept.{Holds, disk_of, state_of}
use Rattle.office_journal.specs.Outcomes.{AtAnyMoment, IsAsBefore}
use Rattle.office_journal.specs.Submitting.{MayTouch}
use Rattle.office_journal.specs.declared.answers.Answer.{Answer}
use Rattle.office_journal.specs.declared.answers.Answer.TheVariants.{Accepted, Repeated, Refused, DiskFault, OutOfMemory}
use Rattle.office_journal.specs.declared.kept.KeptOffice.{KeptOffice}
use Rattle.office_journal.proofs.Fronts.{at_start, behind_append, front_weaker, holding_less, pends_append, pends_weaker, sooner}
use Rattle.program_ends.specs.Lines.{fit}
use Rattle.program_ends.specs.Runs.{Answered}
use Rattle.desk_commands.specs.Scripts.{Answers, AnswersAsked, AnswersLine, Goes, IsJudged, LacksMemory, Said, Scripted, Submits, gave_in, given_by, line_asks, stood_in, texts_in}

module _ {D C : Type 0} (d : Disks D) (k : Clocks C) where
  -- what comes of lines
  pub gone : (s z : Scripted (KeptOffice D d) C) (lines : List (List ℕ)) (told : List ℕ) → Answered (Answers d k) s lines told z → (said : List Said) × (told ≡ texts_in said) × Goes d k s lines said z
  gone s z [] told h = ([], h.0, h.1)
  gone s z (line ∷ lines) told h =
      let w = h.3.0 in
      let rest = gone h.1 z lines h.2 h.5 in
      (w ∷ rest.0, h.4 ∙ ap (λ (text : List ℕ). text ++ h.2) h.3.1 ∙ ap (λ (more : List ℕ). w.text ++ more) rest.1, (h.1, h.3.2, rest.2))

-- of an image with one change more, less may be said of the change
pub less : (file : List ℕ) (h : History) (P Q : Change → Type 0) → ((change : Change) → P change → Q change) → (c : List ℕ) → Leaves file h P c → Leaves file h Q c
less file h P Q f c (inl image) = inl image
less file h P Q f c (inr more) = inr (more.0, f more.0 more.1, more.2)

-- what is said of all that may be pending is said of what is
pub pending_may : (pending : Option Change) (may : Change → Type 0) → IfSome pending may → (change : Change) → pending ≡ Some change → may change
pending_may pending may which change is = subst (λ (o : Option Change). IfSome o may) is which

-- what may be pending where the disk failed once more
pub touched : (may : Change → Type 0) (this : Change) (pending next : Option Change) → IfSome pending may → MayTouch pending this next → IfSome next (λ (change : Change). may change ⊎ (change ≡ this))
touched may this pending None which touch = tt
touched may this pending (Some change) which (inl was) = inl (pending_may pending may which change was)
touched may this pending (Some change) which (inr is) = inr is

-- over the disk's count of faults at the start
module _ {D : Type 0} (d : Disks D) (start : ℕ) where
  -- What is carried from line to line: the history that the journal holds, and what a crash now leaves of it; which changes may be pending, and that one is only where the disk failed.
  pub record Carries (file : List ℕ) (h : History) (may : Change → Type 0) (kept : KeptOffice D d) : Type 0 where
    pub pending : Option Change
    pub holds : Holds d.seen d.crash kept file h pending
    pub now : (c : List ℕ) → (d.crash (disk_of kept)).may_leave c → Leaves file h may c
    pub reads : ReadsAsTheBoard (state_of kept)
    pub since : start ≤ d.faults (disk_of kept)
    pub which : IfSome pending may
    pub cause : IsSome pending → Rose start (d.faults (disk_of kept))

  module _ (are_crashes : (x : D) → AreCrashes (d.crash x)) where
    -- a crash at any moment leaves the history, or it with what may be pending or was given
    abbrev pub Leads : List ℕ → History → (Change → Type 0) → Gave → KeptOffice D d → KeptOffice D d → Type 0
    Leads file h may gave kept next = LeavesOnly (d.crash (disk_of kept)) (d.crash (disk_of next)) (Leaves file h (λ change. may change ⊎ Gives gave change))

    abbrev pub GoesOn : List ℕ → History → (Change → Type 0) → Gave → KeptOffice D d → KeptOffice D d → Type 0
    GoesOn file h may gave kept next = Carries file (with_given h gave) (pends_after may gave) next × Leads file h may gave kept next

    module _ (file : List ℕ) (h : History) (may : Change → Type 0) (kept next : KeptOffice D d) (carries : Carries file h may kept) where
      led : (gave : Gave) → AtAnyMoment d.seen d.crash kept next (Gives gave) → Leads file h may gave kept next
      led gave moments =
          let P : Change → Type 0 = λ change. (carries.pending ≡ Some change) ⊎ Gives gave change in
          let Q : Change → Type 0 = λ change. may change ⊎ Gives gave change in
          weaker d.crash are_crashes (disk_of kept) (disk_of next) (Leaves file h P) (Leaves file h Q)
          (less file h P Q (λ change is. ⊎_elim (λ was. inl (pending_may carries.pending may carries.which change was)) (λ gives. inr gives) is))
          (moments file h carries.pending carries.holds)

      -- what a crash leaves in the end
      left_behind : (gave : Gave) → Leads file h may gave kept next → (c : List ℕ) → (d.crash (disk_of next)).may_leave c → Leaves file h (λ change. may change ⊎ Gives gave change) c
      left_behind gave run = ends d.crash are_crashes (disk_of kept) (disk_of next) (Leaves file h (λ change. may change ⊎ Gives gave change)) run

      as_before : IsAsBefore d.seen d.crash kept next → GoesOn file h may Gave.nothing kept next
      as_before same =
          let run = led Gave.nothing same.moments in (
            record {
              pending = carries.pending;
              holds = same.held file h carries.pending carries.holds;
              now = λ c left. less file h (λ change. may change ⊎ Gives Gave.nothing change) may (λ change is. ⊎_elim (λ was. was) (λ never. absurd never) is) c (left_behind Gave.nothing run c left);
              reads = subst ReadsAsTheBoard (sym same.state) carries.reads;
              since = subst (λ (x : D). start ≤ d.faults x) (sym same.disk) carries.since;
              which = carries.which;
              cause = λ some. subst (λ (x : D). Rose start (d.faults x)) (sym same.disk) (carries.cause some);
            },
            run,
          )

      judged_by : (a : Asked) (reading : ℤ) (answer : Answer) (becomes : Submits d a reading kept next answer) → d.faults (disk_of kept) ≤ d.faults (disk_of next) → GoesOn file h may (gave_in d a reading kept next answer becomes) kept next
      judged_by a reading (Accepted text) becomes later =
          let entered = becomes.3 in
          let held = entered.held file h carries.pending carries.holds in (
            record {
              pending = None;
              holds = held.0;
              now = λ c left. inl (record { state = state_of next; history = held.0.history; image = held.0.journal.rests c left });
              reads = entered.reads;
              since = omega (arith, carries.since, later);
              which = tt;
              cause = λ some. absurd (cc);
            },
            led (Gave.added (Change.entry becomes.0)) entered.moments,
          )
      judged_by a reading (Repeated text) becomes later = as_before becomes.1
      judged_by a reading (Refused x) becomes later = as_before becomes.1
      judged_by a reading DiskFault becomes later =
          let this = Change.entry becomes.0 in
          let fault = becomes.2 in
          let held = fault.held file h carries.pending carries.holds in
          let run = led (Gave.faulted this) fault.moments in (
            record {
              pending = held.0;
              holds = held.2;
              now = λ c left. left_behind (Gave.faulted this) run c left;
              reads = subst ReadsAsTheBoard (sym fault.state) carries.reads;
              since = omega (arith, carries.since, later);
              which = touched may this carries.pending held.0 carries.which held.1;
              cause = λ some. omega (arith, carries.since, fault.cause);
            },
            run,
          )
      judged_by a reading OutOfMemory becomes later = as_before becomes

      judged : (a : Asked) (reading : ℤ) (text : List ℕ) (gave : Gave) → IsJudged d a reading kept text next gave → GoesOn file h may gave kept next
      judged a reading text gave is = subst (λ (w : Gave). GoesOn file h may w kept next) (sym is.given) (judged_by a reading is.answer is.becomes is.later)

      -- the office was not asked
      unasked : (gave : Gave) → next ≡ kept → gave ≡ Gave.nothing → GoesOn file h may gave kept next
      unasked gave same none =
          let P : Change → Type 0 = λ change. may change ⊎ Gives Gave.nothing change in
          subst (λ (w : Gave). GoesOn file h may w kept next) (sym none)
          (subst (λ (x : KeptOffice D d). GoesOn file h may Gave.nothing kept x) (sym same)
          (carries, nothing d.crash are_crashes (disk_of kept) (Leaves file h P) (λ c left. less file h may P (λ change was. inl was) c (carries.now c left))))

      asked : (reading : ℤ) (r : Result Asked Refusal) (text : List ℕ) (gave : Gave) → (AnswersAsked d reading kept r text next gave ⊎ LacksMemory d kept text next gave) → GoesOn file h may gave kept next
      asked reading r text gave (inr lacks) = unasked gave lacks.1 lacks.2
      asked reading (Err x) text gave (inl is) = unasked gave is.1 is.2
      asked reading (Ok a) text gave (inl is) = judged a reading text gave is

    module _ {C : Type 0} (k : Clocks C) where
      line_goes : (file : List ℕ) (h : History) (may : Change → Type 0) (s : Scripted (KeptOffice D d) C) (line : Option (List ℕ)) (w : Said) (next : Scripted (KeptOffice D d) C)
          → AnswersLine d k s line w next → Carries file h may s.kept → GoesOn file h may w.gave s.kept next.kept
      line_goes file h may s None w next is carries = asked file h may s.kept next.kept carries is.0 (line_asks None) w.text w.gave is.3
      line_goes file h may s (Some []) w next is carries = unasked file h may s.kept next.kept carries w.gave (ap (λ (x : Scripted (KeptOffice D d) C). x.kept) is.1) is.3
      line_goes file h may s (Some (c ∷ line)) w next is carries = asked file h may s.kept next.kept carries is.0 (line_asks (Some (c ∷ line))) w.text w.gave is.3

      -- behind lines that gave this
      abbrev pub Went : List ℕ → History → (Change → Type 0) → List Gave → KeptOffice D d → KeptOffice D d → Type 0
      Went file h may given kept next = Carries file (history_after h given) (MayPend may given) next × LeavesOnly (d.crash (disk_of kept)) (d.crash (disk_of next)) (IsFront may given [] file h)

      no_lines : (file : List ℕ) (h : History) (may : Change → Type 0) (kept next : KeptOffice D d) → next ≡ kept → Carries file h may kept → Went file h may [] kept next
      no_lines file h may kept next same carries =
          subst (λ (x : KeptOffice D d). Went file h may [] kept x) (sym same) (
            carries,
            nothing d.crash are_crashes (disk_of kept) (IsFront may [] [] file h)
                (λ c left. at_start may [] file h c (less file h may (λ change. may change ⊎ ⊥) (λ change was. inl was) c (carries.now c left))),
          )

      pub lines_go : (file : List ℕ) (h : History) (may : Change → Type 0) (s : Scripted (KeptOffice D d) C) (lines : List (List ℕ)) (said : List Said) (z : Scripted (KeptOffice D d) C)
          → Goes d k s lines said z → Carries file h may s.kept → Went file h may (given_by said) s.kept z.kept
      lines_go file h may s [] [] z goes carries = no_lines file h may s.kept z.kept (ap (λ (x : Scripted (KeptOffice D d) C). x.kept) goes) carries
      lines_go file h may s [] (w ∷ said) z goes carries = absurd goes
      lines_go file h may s (line ∷ lines) [] z goes carries = absurd goes
      lines_go file h may s (line ∷ lines) (w ∷ said) z goes carries =
          let next = goes.0 in
          let gave = w.gave in
          let rest = given_by said in
          let mid = with_given h gave in
          let pends = pends_after may gave in
          let one = line_goes file h may s (fit line) w next goes.1 carries in
          let more = lines_go file mid pends next lines said z goes.2 one.0 in
          let first : List Gave = gave ∷ [] in
          let all : List Gave = gave ∷ rest in (
            more.0,
            both d.crash are_crashes (disk_of s.kept) (disk_of next.kept) (disk_of z.kept) (Leaves file h (λ change. may change ⊎ Gives gave change)) (IsFront may all [] file h) one.1
                (weaker d.crash are_crashes (disk_of next.kept) (disk_of z.kept) (IsFront pends rest [] file mid) (IsFront may all [] file h)
                (λ c front. holding_less may all [] first file h c (sooner may first rest [] file h c front)) more.1)
                (λ c leaves. at_start may all file h c leaves),
          )

      -- what was answered stays
      module _ (file : List ℕ) (first : History) (may : Change → Type 0) (z : Scripted (KeptOffice D d) C) where
        abbrev pub StaysBelow : List Gave → Stood D → Type 0
        StaysBelow given stood = StaysSince d stood (disk_of z.kept) may given file first

        -- as a line had been answered, where the lines behind it went so
        stays_from : (held rest : List Gave) (h : History) (pends : Change → Type 0) (next : KeptOffice D d) → history_after first held ≡ h → ((change : Change) → pends change → MayPend may held change)
            → LeavesOnly (d.crash (disk_of next)) (d.crash (disk_of z.kept)) (IsFront pends rest [] file h) → StaysBelow (held ++ rest) (record { held = held; disk = disk_of next })
        stays_from held rest h pends next is fewer run = record {
          more = rest;
          are = refl;
          later = run.later;
          leaves = λ c left.
              let front = front_weaker pends (MayPend may held) rest [] file h c fewer (run.each c left) in
              holding_less may (held ++ rest) held [] file first c (sooner may held rest [] file first c (subst (λ (g : History). IsFront (MayPend may held) rest [] file g c) (sym is) front));
        }

        pub stays : (held : List Gave) (h : History) (pends : Change → Type 0) (s : Scripted (KeptOffice D d) C) (lines : List (List ℕ)) (said : List Said) (goes : Goes d k s lines said z)
            → history_after first held ≡ h → ((change : Change) → pends change → MayPend may held change) → Carries file h pends s.kept → All (StaysBelow (held ++ given_by said)) (stood_in d k held s lines said z goes)
        stays held h pends s [] [] goes is fewer carries = All-nil (StaysBelow (held ++ []))
        stays held h pends s [] (w ∷ said) goes is fewer carries = absurd goes
        stays held h pends s (line ∷ lines) [] goes is fewer carries = absurd goes
        stays held h pends s (line ∷ lines) (w ∷ said) goes is fewer carries =
            let next = goes.0 in
            let gave = w.gave in
            let rest = given_by said in
            let now = held ++ gave ∷ [] in
            let mid = with_given h gave in
            let then_pends = pends_after pends gave in
            let one = line_goes file h pends s (fit line) w next goes.1 carries in
            let run = (lines_go file mid then_pends next lines said z goes.2 one.0).1 in
            let so : history_after first now ≡ mid = behind_append first held (gave ∷ []) ∙ ap (λ (g : History). with_given g gave) is in
            let fewer_now : (change : Change) → then_pends change → MayPend may now change = λ change p. pends_append may held (gave ∷ []) change (pends_weaker pends (MayPend may held) (gave ∷ []) fewer change p) in
            let behind = stays now mid then_pends next lines said goes.2 so fewer_now one.0 in
            subst (λ (given : List Gave). All (StaysBelow given) (stood_in d k held s (line ∷ lines) (w ∷ said) z goes)) (append_assoc held (gave ∷ []) rest)
            (All-cons (StaysBelow (now ++ rest)) (record { held = now; disk = disk_of next.kept }) (stood_in d k now next lines said z goes.2) (stays_from now rest mid then_pends next.kept so fewer_now run) behind)
