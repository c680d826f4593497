-- How a worker goes on by one link, and how it ends.
use Rattle.std.proofs.Common.{ℕ, ◌≡◌, ◌+◌, ◌<◌, List, [], ◌∷◌, ◌++◌, refl, ap, sym, ◌∙◌, subst, arith, append_assoc, append-nil, length-append, Option, None, Some, option_map}
use Rattle.std.proofs.lemmas.List.{map-append}
use Rattle.desk_traits.specs.Faults.{Rose}
use Rattle.desk_links.specs.Links.{DoorState, LinkState}
use Rattle.warn_http.specs.Calls.{Called}
use Rattle.warn_serve.specs.Workers.{AreVisits, GivesBack, HasNone, HasServed, HasWorked, IsVisit, ServesOne, Visit, count_if_out_of_memory, out_of_memory_ends, links_of}
use Rattle.warn_serve.specs.declared.links.LinkEnd.{LinkEnd}
use Rattle.warn_serve.specs.declared.workers.WorkerEnd.TheVariants.{Done, PortFault}

lacks_append : (visits : List Visit) (v : Visit) → out_of_memory_ends (visits ++ v ∷ []) ≡ out_of_memory_ends visits + count_if_out_of_memory v.end
lacks_append [] v = omega arith
lacks_append (x ∷ visits) v = let h = lacks_append visits v in omega arith

links_append : (visits : List Visit) (v : Visit) → links_of (visits ++ v ∷ []) ≡ links_of visits ++ v.link ∷ []
links_append visits v = map-append (λ (x : Visit). x.link) visits (v ∷ [])

-- lists behind lists
behind_both : (old mid new : Option (List LinkState)) (xs ys zs : List LinkState) → mid ≡ option_map (λ before. before ++ xs) old → new ≡ option_map (λ before. before ++ ys) mid → xs ++ ys ≡ zs → new ≡ option_map (λ before. before ++ zs) old
behind_both None mid new xs ys zs p q e = q ∙ ap (option_map (λ (before : List LinkState). before ++ ys)) p
behind_both (Some was) mid new xs ys zs p q e =
    q ∙ ap (option_map (λ (before : List LinkState). before ++ ys)) p ∙ ap (λ (l : List LinkState). Some l) (append_assoc was xs ys ∙ ap (λ (l : List LinkState). was ++ l) e)

behind_none : (old : Option (List LinkState)) → old ≡ option_map (λ before. before ++ []) old
behind_none None = refl
behind_none (Some was) = ap (λ (l : List LinkState). Some l) (sym (append-nil was))

gives_none : (d : DoorState) → GivesBack d d []
gives_none d = record { given = omega arith; returned = omega arith; links = behind_none d.links }

gives_on : (first mid last : DoorState) (visits : List Visit) (v : Visit) → GivesBack first mid visits → GivesBack mid last (v ∷ []) → GivesBack first last (visits ++ v ∷ [])
gives_on first mid last visits v a b = record {
  given = (let x = a.given in let y = b.given in let n = length-append visits (v ∷ []) in omega arith);
  returned = (let x = a.returned in let y = b.returned in let n = length-append visits (v ∷ []) in omega arith);
  links = behind_both first.links mid.links last.links (links_of visits) (v.link ∷ []) (links_of (visits ++ v ∷ [])) a.links b.links (sym (links_append visits v));
}

module _ {P : Type 0} (answers lost : Called → P → P → List ℕ → Type 0) where
  visits_on : (old mid new : P) (visits : List Visit) (v : Visit) → AreVisits answers lost old visits mid → IsVisit answers lost mid new v → AreVisits answers lost old (visits ++ v ∷ []) new
  visits_on old mid new [] v is h = (new, subst (λ (z : P). IsVisit answers lost z new v) is h, refl)
  visits_on old mid new (x ∷ visits) v a h = (a.0, a.1, visits_on a.0 mid new visits v a.2 h)

  pub served_none : (door : DoorState) (pass : P) → HasServed answers lost 0 0 door door pass pass
  served_none door pass = record { visits = []; served = refl; gives_back = gives_none door; counted = refl; lacked = refl; steady = refl }

  pub served_on : (count lacks more : ℕ) (first mid last : DoorState) (old pass new : P) (end : LinkEnd) → more ≡ count_if_out_of_memory end → HasServed answers lost count lacks first mid old pass → ServesOne answers lost mid last pass new end → HasServed answers lost (count + 1) (lacks + more) first last old new
  served_on count lacks more first mid last old pass new end is h o =
      let v : Visit = record { link = o.link; end = end } in
      record {
        visits = h.visits ++ v ∷ [];
        served = visits_on old pass new h.visits v h.served o.visit;
        gives_back = gives_on first mid last h.visits v h.gives_back o.gives_back;
        counted = (let c = h.counted in let n = length-append h.visits (v ∷ []) in omega arith);
        lacked = (let c = h.lacked in let n = lacks_append h.visits v in omega (arith, is));
        steady = o.steady ∙ h.steady;
      }

  pub worked_all : (share count lacks : ℕ) (first last : DoorState) (old new : P) → HasServed answers lost count lacks first last old new → count ≡ share → HasWorked answers lost share first last old new (Done lacks)
  worked_all share count lacks first last old new h all = record { visits = h.visits; served = h.served; gives_back = h.gives_back; ends = (h.counted ∙ all, sym h.lacked, h.steady) }

  pub worked_part : (share count lacks : ℕ) (first mid last : DoorState) (old pass new : P) → HasServed answers lost count lacks first mid old pass → count < share → HasNone mid last pass new → HasWorked answers lost share first last old new PortFault
  worked_part share count lacks first mid last old pass new h few none = record {
    visits = h.visits;
    served = subst (λ (z : P). AreVisits answers lost old h.visits z) (sym none.unused) h.served;
    gives_back = record {
      given = none.given ∙ h.gives_back.given;
      returned = none.returned ∙ h.gives_back.returned;
      links = none.links ∙ h.gives_back.links;
    };
    ends = ((let c = h.counted in omega (arith, few)), subst (λ (n : ℕ). Rose n last.faults) h.steady none.failed);
  }
