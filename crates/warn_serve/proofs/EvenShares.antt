-- Shares, as they are given to one worker after another.
use Rattle.std.proofs.Common.{◌≡◌, ℕ, zero, suc, ◌+◌, ◌-◌, ◌*◌, ◌/◌, ◌%◌, ◌<◌, ◌≤◌, List, [], ◌∷◌, ◌++◌, inl, inr, refl, ap, sym, ◌∙◌, subst, arith, append_assoc, append-nil, suc-mul, zero-mul, mod-lt}
use Rattle.std.proofs.Math.Nat.{div-add-mod}
use Rattle.warn_serve.specs.Gathered.{end_with_losses}
use Rattle.warn_serve.specs.Shares.{FallsShort, ServesShare, SharesOut, even_shares, share_at, shares_of, total_of, with_links}
use Rattle.warn_serve.specs.Workers.{EndsWith, Visit}
use Rattle.warn_serve.specs.declared.serving.ServeEnd.{ServeEnd}
use Rattle.warn_serve.specs.declared.serving.ServeEnd.TheVariants.{Done, PortFault, OutOfMemory}
use Rattle.warn_serve.specs.declared.workers.WorkerEnd.{WorkerEnd}
use Rattle.warn_serve.specs.declared.workers.WorkerEnd.TheVariants.{Done as Worked, PortFault as Failed}
use Rattle.desk_links.specs.Links.{DoorState}

total_even : (workers whole more : ℕ) → more ≤ workers → total_of (even_shares workers whole more) ≡ workers * whole + more
total_even zero whole more few = omega (arith, few, zero-mul whole)
total_even (suc workers) whole zero few = let rest = total_even workers whole (zero - 1) (omega arith) in omega (arith, rest, suc-mul workers whole)
total_even (suc workers) whole (suc more) few = let rest = total_even workers whole (suc more - 1) (omega (arith, few)) in omega (arith, rest, suc-mul workers whole)

total_all : (workers connections : ℕ) → 0 < workers → total_of (shares_of workers connections) ≡ connections
total_all workers connections some =
    let less : connections % workers < workers = mod-lt connections some in
    total_even workers (connections / workers) (connections % workers) (omega (arith, less)) ∙ div-add-mod connections workers

skipped : (had rest : List ℕ) (share : ℕ) → share ≡ 0 → with_links (had ++ rest) ≡ with_links (had ++ share ∷ rest)
skipped [] rest zero none = refl
skipped [] rest (suc share) none = absurd (omega (arith, none))
skipped (zero ∷ had) rest share none = skipped had rest share none
skipped (suc x ∷ had) rest share none = ap (λ (l : List ℕ). suc x ∷ l) (skipped had rest share none)

total_pushed : (had : List ℕ) (share : ℕ) → total_of (had ++ share ∷ []) ≡ total_of had + share
total_pushed [] share = omega arith
total_pushed (x ∷ had) share = let h = total_pushed had share in omega arith

-- These shares were given, and so many links are lost that were to be those of workers who could not be had. So many workers are to come, and these get even shares.
pub record IsSharing (had : List ℕ) (lost coming whole more workers connections : ℕ) : Type 0 where
  pub total : total_of had + lost + total_of (even_shares coming whole more) ≡ connections
  pub even : lost ≡ 0 → with_links (had ++ even_shares coming whole more) ≡ with_links (shares_of workers connections)

pub sharing_begun : (workers connections : ℕ) → 0 < workers → IsSharing [] 0 workers (connections / workers) (connections % workers) workers connections
sharing_begun workers connections some = record { total = (let t = total_all workers connections some in omega arith); even = λ none. refl }

module _ (workers connections lost coming later whole more share : ℕ) (one_more : coming ≡ suc later) (share_is : share ≡ share_at whole more) where
  rest_is : even_shares coming whole more ≡ share ∷ even_shares later whole (more - 1)
  rest_is = ap (λ (n : ℕ). even_shares n whole more) one_more ∙ ap (λ (n : ℕ). n ∷ even_shares later whole (more - 1)) (sym share_is)

  total_is : total_of (even_shares coming whole more) ≡ share + total_of (even_shares later whole (more - 1))
  total_is = ap total_of rest_is

  pub share_within : (had : List ℕ) → IsSharing had lost coming whole more workers connections → lost + share ≤ connections
  share_within had s = let t = total_is in let all = s.total in omega arith

  one_on : (had had' : List ℕ) → had' ≡ had ++ share ∷ [] → IsSharing had lost coming whole more workers connections → IsSharing had' lost later whole (more - 1) workers connections
  one_on had had' pushed s = record {
    total = (let t = total_is in let all = s.total in let p = ap total_of pushed ∙ total_pushed had share in omega arith);
    even = λ none.
        ap (λ (l : List ℕ). with_links (l ++ even_shares later whole (more - 1))) pushed
        ∙ ap with_links (append_assoc had (share ∷ []) (even_shares later whole (more - 1)))
        ∙ ap (λ (l : List ℕ). with_links (had ++ l)) (sym rest_is)
        ∙ s.even none;
  }

  one_missed : (had : List ℕ) (lost' : ℕ) → lost' ≡ lost + share → IsSharing had lost coming whole more workers connections → IsSharing had lost' later whole (more - 1) workers connections
  one_missed had lost' is s = record {
    total = (let t = total_is in let all = s.total in omega (arith, is));
    even = λ none.
        skipped had (even_shares later whole (more - 1)) share (omega (arith, is, none))
        ∙ ap (λ (l : List ℕ). with_links (had ++ l)) (sym rest_is)
        ∙ s.even (omega (arith, is, none));
  }

  -- one worker more has its share
  pub sharing_on : (had had' : List ℕ) (more' : ℕ) → had' ≡ had ++ share ∷ [] → more' ≡ more - 1 → IsSharing had lost coming whole more workers connections → IsSharing had' lost later whole more' workers connections
  sharing_on had had' more' pushed fewer s =
      subst (λ (n : ℕ). IsSharing had' lost later whole n workers connections) (sym fewer) (one_on had had' pushed s)

  -- its share is lost
  pub sharing_missed : (had had' : List ℕ) (lost' more' : ℕ) → had' ≡ had → lost' ≡ lost + share → more' ≡ more - 1 → IsSharing had lost coming whole more workers connections → IsSharing had' lost' later whole more' workers connections
  sharing_missed had had' lost' more' same is fewer s =
      subst (λ (l : List ℕ). IsSharing l lost' later whole more' workers connections) (sym same)
      (subst (λ (n : ℕ). IsSharing had lost' later whole n workers connections) (sym fewer) (one_missed had lost' is s))

-- no worker is to come
pub sharing_done : (workers connections lost coming whole more : ℕ) (had : List ℕ) → coming ≡ 0 → IsSharing had lost coming whole more workers connections
    → (total_of had + lost ≡ connections) × (lost ≡ 0 → with_links had ≡ with_links (shares_of workers connections))
sharing_done workers connections lost coming whole more had none s =
    let rest : even_shares coming whole more ≡ [] = ap (λ (n : ℕ). even_shares n whole more) none in (
      (let t = ap total_of rest in let all = s.total in omega arith),
      λ all_had. ap with_links (sym (append-nil had) ∙ ap (λ (l : List ℕ). had ++ l) (sym rest)) ∙ s.even all_had,
    )

short_end : (end : ServeEnd) (lost : ℕ) → FallsShort (end_with_losses end (suc lost))
short_end Done lost = tt
short_end PortFault lost = tt
short_end OutOfMemory lost = tt

-- what was shared out, where so many links are lost
pub shared_out : (workers connections lost : ℕ) (had : List ℕ) (end next : ServeEnd) → total_of had + lost ≡ connections
    → (lost ≡ 0 → with_links had ≡ with_links (shares_of workers connections)) → next ≡ end_with_losses end lost → SharesOut workers connections had next
shared_out workers connections zero had end next total even is = inl (even refl)
shared_out workers connections (suc lost) had end next total even is =
    inr (omega (arith, total), subst FallsShort (sym is) (short_end end lost))

-- how a worker ended, by what its door shows
pub serves_share : (old new : DoorState) (share : ℕ) (visits : List Visit) (end : WorkerEnd)
    → EndsWith old new share visits end → ServesShare share visits end
serves_share old new share visits (Worked lacks) ends = (ends.0, ends.1)
serves_share old new share visits Failed ends = ends.0
