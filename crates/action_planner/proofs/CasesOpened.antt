-- The hazards of the events that a draft opens, in order of places.
use Rattle.std.proofs.Common.{◌≡◌, ◌++◌, ℕ, List, [], ◌∷◌, Bool, true, false, refl, ap, ◌∙◌, cond, filter, length, map}
use Rattle.std.specs.List.{cons_option, filter_map}
use Rattle.hazard_types.specs.declared.hazard.Event.{Event}
use Rattle.hazard_types.specs.declared.hazard.Hazard.{Hazard}
use Rattle.office_types.specs.declared.request.Intent.{Intent}
use Rattle.office_types.specs.declared.request.Intent.TheVariants.{Put, Finish, Restate, Routine}
use Rattle.office_types.specs.declared.request.Target.{Target}
use Rattle.office_types.specs.declared.request.Target.TheVariants.{Fresh, Join}
use Rattle.event_numbers.specs.declared.Count.{Count}
use Rattle.action_planner.specs.Placed.{Placed, event_of_intent, event_of_target, is_opening, is_opening_target, opened, placed, placed_from}
use Rattle.action_planner.specs.Cases.{hazard_of_new, hazard_opened}

abbrev hazards : List Event → List Hazard
hazards events = map (λ (e : Event). e.hazard) events

hazards_step : (b : Bool) (p : Placed) (ps : List Placed) → hazards (map (λ (x : Placed). x.event) (cond b (p ∷ ps) ps)) ≡ cond b (p.event.hazard ∷ hazards (map (λ (x : Placed). x.event) ps)) (hazards (map (λ (x : Placed). x.event) ps))
hazards_step true p ps = refl
hazards_step false p ps = refl

module _ (counts : List Count) (t : ℕ) where
  target_hazard : (earlier : List Intent) (target : Target) (rest : List Hazard) → cond (is_opening_target target) ((event_of_target counts t earlier target).hazard ∷ rest) rest ≡ cons_option (hazard_of_new target) rest
  target_hazard earlier (Fresh h) rest = refl
  target_hazard earlier (Join d) rest = refl

  intent_hazard : (earlier : List Intent) (i : Intent) (rest : List Hazard) → cond (is_opening i) ((event_of_intent counts t earlier i).hazard ∷ rest) rest ≡ cons_option (hazard_opened i) rest
  intent_hazard earlier (Put part) rest = target_hazard earlier part.target rest
  intent_hazard earlier (Finish part) rest = refl
  intent_hazard earlier (Restate part) rest = refl
  intent_hazard earlier (Routine part) rest = refl

  hazards_from : (earlier intents : List Intent) → hazards (opened (placed_from counts t earlier intents)) ≡ filter_map hazard_opened intents
  hazards_from earlier [] = refl
  hazards_from earlier (i ∷ intents) =
      let ps = placed_from counts t (earlier ++ i ∷ []) intents in
      let p : Placed = record { place = length earlier; event = event_of_intent counts t earlier i; intent = i } in
      hazards_step (is_opening i) p (filter (λ (x : Placed). is_opening x.intent) ps)
      ∙ intent_hazard earlier i (hazards (opened ps))
      ∙ ap (cons_option (hazard_opened i)) (hazards_from (earlier ++ i ∷ []) intents)

pub opened_hazards : (counts : List Count) (intents : List Intent) (t : ℕ) → map (λ (e : Event). e.hazard) (opened (placed counts t intents)) ≡ filter_map hazard_opened intents
opened_hazards counts intents t = hazards_from counts t [] intents
