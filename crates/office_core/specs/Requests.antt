-- The parts of requests that the rules speak of.
use Rattle.std.specs.Prelude.{ℕ, Bool, true, false, List, [], ◌∷◌, map, Option, None, Some}
use Rattle.office_types.specs.contracts.request.RequestPartialEq.TheImpl as request_test
use Rattle.hazard_types.specs.declared.hazard.Hazard.{Hazard}
use Rattle.office_types.specs.declared.request.EventTexts.{EventTexts}
use Rattle.office_types.specs.declared.request.Intent.{Intent}
use Rattle.office_types.specs.declared.request.Intent.TheVariants as intent
use Rattle.office_types.specs.declared.request.Request.{Request}
use Rattle.office_types.specs.declared.request.Request.TheVariants.{Issue, Begin, Put, Finish, Restate, Routine, Drop, Take, Discard, Send, Correct}
use Rattle.office_types.specs.declared.request.Target.{Target}
use Rattle.office_types.specs.declared.request.Target.TheVariants.{Fresh, Join}
use Rattle.office_types.specs.declared.request.Texts.{Texts}
use Rattle.action_planner.specs.Texts.{texts_of}

-- the test `==` of requests, which holds of identical ones alone
abbrev pub same_request : Request → Request → Bool
same_request = request_test.eq-value.it

-- the draft that a request is on
abbrev pub draft_of : Request → Option ℕ
draft_of (Issue part) = None
draft_of (Begin category) = None
draft_of (Put id part) = Some id
draft_of (Finish id part) = Some id
draft_of (Restate id part) = Some id
draft_of (Routine id part) = Some id
draft_of (Drop id place) = Some id
draft_of (Take id) = Some id
draft_of (Discard id) = Some id
draft_of (Send id) = Some id
draft_of (Correct number texts) = None

-- what a request puts into a draft; an issue is a put of its own
abbrev pub intent_of : Request → Option Intent
intent_of (Issue part) = Some (intent.Put part)
intent_of (Begin category) = None
intent_of (Put id part) = Some (intent.Put part)
intent_of (Finish id part) = Some (intent.Finish part)
intent_of (Restate id part) = Some (intent.Restate part)
intent_of (Routine id part) = Some (intent.Routine part)
intent_of (Drop id place) = None
intent_of (Take id) = None
intent_of (Discard id) = None
intent_of (Send id) = None
intent_of (Correct number texts) = None

-- the request takes a draft over
abbrev pub takes : Request → Bool
takes (Take id) = true
takes _ = false

abbrev pub hazard_of_target : Target → Hazard
hazard_of_target (Fresh h) = h
hazard_of_target (Join e) = e.hazard

-- the hazard of an intent; that of its event counts
abbrev pub hazard_of : Intent → Hazard
hazard_of (intent.Put part) = hazard_of_target part.target
hazard_of (intent.Finish part) = part.event.hazard
hazard_of (intent.Restate part) = part.event.hazard
hazard_of (intent.Routine part) = part.hazard

abbrev pub texts_in_intent : Option Intent → List Texts
texts_in_intent None = []
texts_in_intent (Some i) = texts_of i ∷ []

-- the sets of texts of a request, in their order
abbrev pub texts_in : Request → List Texts
texts_in (Correct number given) = map (λ (x : EventTexts). x.texts) given
texts_in r = texts_in_intent (intent_of r)
