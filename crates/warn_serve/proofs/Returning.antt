-- Doors that go back to their port, and how serving ends by them.
use Rattle.std.proofs.Common.{ℕ, zero, suc, ◌≡◌, ◌+◌, ◌-◌, ◌^◌, ◌≤◌, inl, inr, min, List, [], ◌∷◌, ◌++◌, length, map, refl, ap, sym, ◌∙◌, subst, arith, append_assoc, append-nil, length-append, Option, None, Some, IfSome, option_map, Result, Err}
use Rattle.std.proofs.lemmas.List.{map-append}
use Rattle.desk_links.specs.Links.{DoorState, IsNone, IsUnused, LinkState, PortState, behind, with_door}
use Rattle.desk_links.specs.Listening.{RoseWithFailure}
use Rattle.hazard_types.specs.declared.or.Or.{Or}
use Rattle.warn_serve.specs.Gathered.{TakesBack, end_after, end_with_losses}
use Rattle.warn_serve.specs.Shares.{total_of}
use Rattle.warn_serve.specs.Served.{EndsAs, TellsBehind}
use Rattle.warn_serve.specs.Workers.{EndsWith, Visit, out_of_memory_ends, links_of}
use Rattle.warn_serve.specs.declared.serving.ServeEnd.{ServeEnd}
use Rattle.warn_serve.specs.declared.serving.ServeEnd.TheVariants.{Done, PortFault, OutOfMemory}
use Rattle.warn_serve.specs.declared.workers.WorkerEnd.{WorkerEnd}
use Rattle.warn_serve.specs.declared.workers.WorkerEnd.TheVariants.{Done as Worked, PortFault as Failed}

-- the count of a port that gave no doors: it rose where the port failed, and not where memory ran out
pub counted_so : {T E : Type 0} (before now : ℕ) (r : Result T (Or E)) (e is : Or E) → r ≡ Err e → e ≡ is → RoseWithFailure {T = T} {E = E} before now r → RoseWithFailure {T = T} {E = E} before now (Err is)
counted_so {T = T} {E = E} before now r e is at same h = subst (λ (z : Or E). RoseWithFailure {T = T} {E = E} before now (Err z)) same (subst (λ (z : Result T (Or E)). RoseWithFailure {T = T} {E = E} before now z) at h)

pub total_on : {W : Type 0} (share : W → ℕ) (ws : List W) (w : W) → total_of (map share (ws ++ w ∷ [])) ≡ total_of (map share ws) + share w
total_on share [] w = omega arith
total_on share (x ∷ ws) w = let h = total_on share ws w in omega arith

tells_none : (first : Option (List LinkState)) → TellsBehind first first []
tells_none None = tt
tells_none (Some links) = (links, refl, sym (append-nil links))

tells_on : (first mid last : Option (List LinkState)) (xs ys : List LinkState) → TellsBehind first mid xs → TellsBehind mid last ys → TellsBehind first last (xs ++ ys)
tells_on first mid None xs ys a b = tt
tells_on first mid (Some last) xs ys a b =
    let h : TellsBehind first (Some b.0) xs = subst (λ (o : Option (List LinkState)). TellsBehind first o xs) b.1 a in
    (h.0, h.1, b.2 ∙ (ap (λ (l : List LinkState). l ++ ys) h.2 ∙ append_assoc h.0 xs ys))

-- what a door told
tells_door : (before told : Option (List LinkState)) (xs : List LinkState) → IfSome told (λ links. links ≡ xs) → TellsBehind before (behind before told) xs
tells_door None told xs is = tt
tells_door (Some links) None xs is = tt
tells_door (Some links) (Some more) xs is = (links, refl, ap (λ (l : List LinkState). links ++ l) is)

none_told : (told : Option (List LinkState)) → IsNone told → IfSome told (λ links. links ≡ [])
none_told None none = tt
none_told (Some links) none = none

pub door_told : (old new : Option (List LinkState)) (xs : List LinkState) → new ≡ option_map (λ before. before ++ xs) old → IsNone old → IfSome new (λ links. links ≡ xs)
door_told None new xs is none = subst (λ (o : Option (List LinkState)). IfSome o (λ links. links ≡ xs)) (sym is) tt
door_told (Some links) new xs is none = subst (λ (o : Option (List LinkState)). IfSome o (λ l. l ≡ xs)) (sym is) (ap (λ (l : List LinkState). l ++ xs) none)

pub takes_none : (port : PortState) → TakesBack port port []
takes_none port = record { returned = omega arith; links = tells_none port.links; later = omega arith }

pub takes_on : (first mid last : PortState) (xs ys : List Visit) → TakesBack first mid xs → TakesBack mid last ys → TakesBack first last (xs ++ ys)
takes_on first mid last xs ys a b = record {
  returned = (let x = a.returned in let y = b.returned in let n = length-append xs ys in omega arith);
  links = subst (λ (l : List LinkState). TellsBehind first.links last.links l) (sym (map-append (λ (v : Visit). v.link) xs ys)) (tells_on first.links mid.links last.links (links_of xs) (links_of ys) a.links b.links);
  later = (let x = a.later in let y = b.later in omega arith);
}

pub takes_door : (first last : PortState) (door : DoorState) (visits : List Visit) → last ≡ with_door first door → door.returned ≡ length visits → IfSome door.links (λ links. links ≡ links_of visits) → TakesBack first last visits
takes_door first last door visits is count told = record {
  returned = omega (arith, ap (λ (p : PortState). p.returned) is, count);
  links = subst (λ (o : Option (List LinkState)). TellsBehind first.links o (links_of visits)) (sym (ap (λ (p : PortState). p.links) is)) (tells_door first.links door.links (links_of visits) told);
  later = omega (arith, ap (λ (p : PortState). p.faults) is);
}

-- a door that was not used adds no fault
pub steady_unused : (first mid last : PortState) (door : DoorState) → mid.faults ≤ first.faults → IsUnused door → last ≡ with_door mid door → last.faults ≤ first.faults
steady_unused first mid last door was unused is = omega (arith, was, unused.no_fault, ap (λ (p : PortState). p.faults) is)

-- a door that was not used adds nothing
pub takes_unused : (first mid last : PortState) (door : DoorState) → TakesBack first mid [] → IsUnused door → last ≡ with_door mid door → TakesBack first last []
takes_unused first mid last door was unused is = takes_on first mid last [] [] was (takes_door mid last door [] is unused.none_returned (none_told door.links unused.no_link))

lacks_both : (xs ys : List Visit) → out_of_memory_ends (xs ++ ys) ≡ out_of_memory_ends xs + out_of_memory_ends ys
lacks_both [] ys = omega arith
lacks_both (x ∷ xs) ys = let h = lacks_both xs ys in omega arith

-- the end where for so many links no worker could be had
pub ends_short : (first last : PortState) (shares left connections : ℕ) (visits : List Visit) (end : ServeEnd) → shares + left ≡ connections → length visits ≤ shares → EndsAs first last shares visits end → EndsAs first last connections visits (end_with_losses end left)
ends_short first last shares zero connections visits Done all within e = (omega (arith, all, e.0), e.1, e.2)
ends_short first last shares (suc left) connections visits Done all within e = (inl (omega (arith, all, e.0)), e.2)
ends_short first last shares left connections visits PortFault all within e = (omega (arith, all, e.0), e.1)
ends_short first last shares left connections visits OutOfMemory all within (inl less, steady) = (inl (omega (arith, all, less)), steady)
ends_short first last shares left connections visits OutOfMemory all within (inr lacks, steady) = (inr lacks, steady)

module _ (first mid last : PortState) (old new : DoorState) (shares share : ℕ) (xs ys : List Visit) (sound : old.faults ≡ 0) (faults : last.faults ≡ min (mid.faults + new.faults) (2 ^ 64 - 1)) (later : min first.faults (2 ^ 64 - 1) ≤ mid.faults) (within : length xs ≤ shares) where
  long : length (xs ++ ys) ≡ length xs + length ys
  long = length-append xs ys

  -- the end after one worker more
  pub ends_on : (end : ServeEnd) (worked : WorkerEnd) → EndsAs first mid shares xs end → EndsWith old new share ys worked → EndsAs first last (shares + share) (xs ++ ys) (end_after end worked)
  ends_on Done (Worked zero) e h = (omega (arith, long, e.0, h.0), omega (arith, lacks_both xs ys, e.1, h.1), omega (arith, sound, faults, h.2, e.2))
  ends_on Done (Worked (suc lacks)) e h = (inr (omega (arith, lacks_both xs ys, e.1, h.1)), omega (arith, sound, faults, h.2, e.2))
  ends_on PortFault (Worked lacks) e h = (omega (arith, long, e.0, h.0), omega (arith, e.1, faults))
  ends_on OutOfMemory (Worked lacks) (inl less, steady) h = (inl (omega (arith, long, less, h.0)), omega (arith, sound, faults, h.2, steady))
  ends_on OutOfMemory (Worked lacks) (inr some, steady) h = (inr (omega (arith, lacks_both xs ys, some)), omega (arith, sound, faults, h.2, steady))
  ends_on Done Failed e h = (omega (arith, long, within, h.0), omega (arith, h.1, sound, faults, later))
  ends_on PortFault Failed e h = (omega (arith, long, within, h.0), omega (arith, h.1, sound, faults, later))
  ends_on OutOfMemory Failed e h = (omega (arith, long, within, h.0), omega (arith, h.1, sound, faults, later))

  pub within_on : (worked : WorkerEnd) → EndsWith old new share ys worked → length (xs ++ ys) ≤ shares + share
  within_on (Worked lacks) h = omega (arith, long, within, h.0)
  within_on Failed h = omega (arith, long, within, h.0)
