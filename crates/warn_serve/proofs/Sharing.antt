-- How workers' parts are gathered, and what they are to the office that was opened.
use Rattle.std.proofs.Common.{ℕ, ◌≡◌, ◌+◌, ◌-◌, ◌^◌, ◌≤◌, min, List, [], ◌∷◌, ◌++◌, length, refl, ap, sym, ◌∙◌, subst, arith, append-nil, append_assoc}
use Rattle.std.proofs.lemmas.List.{map-append}
use Rattle.std.proofs.lemmas.List.Elements.{All-push}
use mathlib.Core.List.{IsPrefix}
use Rattle.desk_links.specs.Links.{DoorState, PortState, with_door}
use Rattle.turn_lock.specs.Passes.{PassRecord, joined}
use Rattle.warn_http.specs.Calls.{Called}
use Rattle.warn_serve.specs.Gathered.{DoesShare, HasDone, IsFresh, IsGathered, IsPartOf, KeepsWhole, TakesBack, end_after, end_with_losses}
use Rattle.warn_serve.specs.Served.{EndsAs, Part, TellsBehind, passes_of, visits_of}
use Rattle.warn_serve.specs.Sharing.{Gathers}
use Rattle.warn_serve.specs.Workers.{EndsWith, Visit}
use Rattle.warn_serve.specs.declared.serving.ServeEnd.{ServeEnd}
use Rattle.warn_serve.specs.declared.serving.ServeEnd.TheVariants.{Done, PortFault, OutOfMemory}
use Rattle.warn_serve.specs.declared.workers.WorkerEnd.{WorkerEnd}
use Rattle.warn_serve.specs.declared.workers.WorkerEnd.TheVariants.{Done as Worked, PortFault as Failed}
use Rattle.warn_serve.proofs.EvenShares.{serves_share}
use Rattle.warn_serve.proofs.Gathering.{first_share, gathers_from, gathers_none, gathers_on}
use Rattle.warn_serve.proofs.Returning.{door_told, ends_on, ends_short, takes_door, takes_none, takes_on, within_on}

visits_on : {P : Type 0} (parts : List (Part P)) (p : Part P) → visits_of (parts ++ p ∷ []) ≡ visits_of parts ++ p.visits
visits_on [] p = append-nil p.visits
visits_on (q ∷ parts) p = ap (λ (l : List Visit). q.visits ++ l) (visits_on parts p) ∙ sym (append_assoc q.visits (visits_of parts) p.visits)

-- the end, of a port that had not failed before
ends_from : (first mid last : PortState) (shares : ℕ) (visits : List Visit) (end : ServeEnd) → min first.faults (2 ^ 64 - 1) ≤ mid.faults → mid.faults ≤ first.faults → EndsAs mid last shares visits end → EndsAs first last shares visits end
ends_from first mid last shares visits Done later steady e = (e.0, e.1, omega (arith, steady, e.2))
ends_from first mid last shares visits PortFault later steady e = (e.0, omega (arith, later, e.1))
ends_from first mid last shares visits OutOfMemory later steady e = (e.0, omega (arith, steady, e.1))

pub takes_same : (first last : PortState) → last.returned ≡ first.returned → last.links ≡ first.links → first.faults ≤ last.faults → TakesBack first last []
takes_same first last returned links later = record {
  returned = omega arith;
  links = subst (λ (o : _). TellsBehind first.links o []) (sym links) (takes_none first).links;
  later = omega arith;
}

module _ {B E : Type 0} (answers lost : Called → PassRecord B E → PassRecord B E → List ℕ → Type 0) where
  few_returned : (old new : DoorState) (share : ℕ) (visits : List Visit) (worked : WorkerEnd) → EndsWith old new share visits worked → length visits ≤ share
  few_returned old new share visits (Worked lacks) h = omega (arith, h.0)
  few_returned old new share visits Failed h = omega (arith, h.0)

  pub done_by : (whole start pass : PassRecord B E) (first door : DoorState) (share share' most : ℕ) (end : WorkerEnd) → IsFresh whole start first share most → DoesShare answers lost share first door start pass end → share' ≡ share → HasDone answers lost whole share' door pass end
  done_by whole start pass first door share share' most end fresh does same = record {
    start = start;
    is_share = fresh.is_share;
    first = first;
    unused = fresh.unused;
    does = subst (λ (n : ℕ). DoesShare answers lost n first door start pass end) (sym same) does;
  }

  -- what a worker's door took back
  pub done_returned : (whole pass : PassRecord B E) (share : ℕ) (door : DoorState) (end : WorkerEnd) → HasDone answers lost whole share door pass end → door.returned ≤ share
  done_returned whole pass share door end h =
      let work = h.does.worked in
      omega (arith, few_returned h.first door share work.visits end work.ends, work.gives_back.returned, h.unused.none_returned)

  pub gathered_none : (port : PortState) (pass : PassRecord B E) → IsGathered answers lost [] 0 port port pass pass Done
  gathered_none port pass = record { parts = []; given_is = refl; passes = gathers_none pass; served = λ k d less. absurd (omega (arith, less)); back = takes_none port; within = omega arith; ends = (refl, refl, omega arith) }

  -- nobody served a link
  pub gathered_not : (shares : ℕ) (first last : PortState) (pass : PassRecord B E) (end : ServeEnd) → TakesBack first last [] → EndsAs first last shares [] end → IsGathered answers lost [] shares first last pass pass end
  gathered_not shares first last pass end back ends = record { parts = []; given_is = refl; passes = gathers_none pass; served = λ k d less. absurd (omega (arith, less)); back = back; within = omega arith; ends = ends }

  pub gathered_on : (given given' : List ℕ) (shares share total : ℕ) (first mid last : PortState) (old pass new part : PassRecord B E) (door : DoorState) (end next : ServeEnd) (worked : WorkerEnd)
      → IsGathered answers lost given shares first mid old pass end → HasDone answers lost old share door part worked
      → given' ≡ given ++ share ∷ [] → total ≡ shares + share → next ≡ end_after end worked
      → new ≡ joined pass part → IsPrefix pass.seen new.seen → IsPrefix part.seen new.seen
      → last ≡ with_door mid door
      → IsGathered answers lost given' total first last old new next
  gathered_on given given' shares share total first mid last old pass new part door end next worked g h more sum is both begins theirs put =
      let work = h.does.worked in
      let p : Part (PassRecord B E) = record { share = share; pass = part; visits = work.visits; end = worked } in
      let all : visits_of (g.parts ++ p ∷ []) ≡ visits_of g.parts ++ work.visits = visits_on g.parts p in
      let count : door.returned ≡ length work.visits = (let r = work.gives_back.returned in let n = h.unused.none_returned in omega arith) in
      let told = door_told h.first.links door.links _ work.gives_back.links h.unused.no_link in
      record {
        parts = g.parts ++ p ∷ [];
        given_is =
            map-append (λ (q : Part (PassRecord B E)). q.share) g.parts (p ∷ [])
            ∙ ap (λ (l : List ℕ). l ++ share ∷ []) g.given_is ∙ sym more;
        passes = subst (λ (l : List (PassRecord B E)). Gathers old new l) (sym (map-append (λ (q : Part (PassRecord B E)). q.pass) g.parts (p ∷ []))) (gathers_on old pass new part (passes_of g.parts) g.passes both begins theirs);
        served = All-push (IsPartOf answers lost old) g.parts p g.served (record { start = h.start; is_share = h.is_share; visits = work.served; ends = serves_share h.first door share work.visits worked work.ends });
        back = subst (λ (l : List Visit). TakesBack first last l) (sym all) (takes_on first mid last (visits_of g.parts) work.visits g.back (takes_door mid last door work.visits put count told));
        within = subst (λ (l : List Visit). length l ≤ total) (sym all) (subst (λ (n : ℕ). length (visits_of g.parts ++ work.visits) ≤ n) (sym sum) (within_on first mid last h.first door shares share (visits_of g.parts) work.visits h.unused.no_fault (ap (λ (p : PortState). p.faults) put) g.back.later g.within worked work.ends));
        ends =
            subst (λ (l : List Visit). EndsAs first last total l next) (sym all)
            (subst (λ (n : ℕ). EndsAs first last n (visits_of g.parts ++ work.visits) next) (sym sum)
            (subst (λ (e : ServeEnd). EndsAs first last (shares + share) (visits_of g.parts ++ work.visits) e) (sym is)
            (ends_on first mid last h.first door shares share (visits_of g.parts) work.visits h.unused.no_fault (ap (λ (p : PortState). p.faults) put) g.back.later g.within end worked g.ends work.ends)));
      }

  part_before : (old pass : PassRecord B E) (p : Part (PassRecord B E)) → KeepsWhole old pass → IsPartOf answers lost pass p → IsPartOf answers lost old p
  part_before old pass p kept h = record { start = h.start; is_share = first_share old pass h.start kept h.is_share; visits = h.visits; ends = h.ends }

  -- the same with the pass and the port before workers were hired, and with the links that none had to serve
  pub gathered_short : (given : List ℕ) (shares left connections : ℕ) (first mid last : PortState) (old pass new : PassRecord B E) (end next : ServeEnd) → IsGathered answers lost given shares mid last pass new end → KeepsWhole old pass → TakesBack first mid [] → mid.faults ≤ first.faults → shares + left ≡ connections → next ≡ end_with_losses end left → IsGathered answers lost given connections first last old new next
  gathered_short given shares left connections first mid last old pass new end next g kept back steady all is = record {
    parts = g.parts;
    given_is = g.given_is;
    passes = gathers_from old pass new (passes_of g.parts) kept g.passes;
    served = λ k d less. part_before old pass _ kept (g.served k d less);
    back = takes_on first mid last [] (visits_of g.parts) back g.back;
    within = (let h = g.within in omega arith);
    ends = subst (λ (e : ServeEnd). EndsAs first last connections (visits_of g.parts) e) (sym is) (ends_short first last shares left connections (visits_of g.parts) end all g.within (ends_from first mid last shares (visits_of g.parts) end back.later steady g.ends));
  }
