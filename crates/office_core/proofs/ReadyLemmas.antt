-- What was made and prepared is an accepted request's, and may be committed.
use Rattle.std.proofs.Common.{◌≡◌, ◌≤◌, ℕ, ℤ, List, Option, Some, None, false, refl, subst, sym}
use Rattle.office_types.specs.declared.request.Entry.{Entry}
use Rattle.office_types.specs.declared.request.Request.{Request}
use Rattle.event_numbers.specs.declared.Count.{Count}
use Rattle.request_json.specs.Formed.{HasRequestForm}
use Rattle.office_core.specs.Agreement.{Agrees}
use Rattle.office_core.specs.Keeping.{MayBePlanned, ReadsWell}
use Rattle.office_core.specs.Making.{Making, broken_lines, making_of}
use Rattle.office_core.specs.Prepared.{HasPlace, IsReady, MayTakeMade, Readied, changed, draws}
use Rattle.office_core.specs.Rules.{broken_request, is_repeated, minute_of}
use Rattle.office_core.specs.Sound.{IsSound}
use Rattle.office_core.specs.State.{State}
use Rattle.office_core.specs.Step.{Accepts, IsMade, drafts_after, entry_of, state_after}
use Rattle.office_core.specs.Views.{OfficeView, Room}
use Rattle.office_core.specs.WellMade.{HasRoomForIf, IsWellMadeIf}
use Rattle.office_core.specs.declared.made.Made.{Made}
use Rattle.office_core.proofs.BrokenLemmas.{known_desk}

-- ---- what was made

lines_kept : (s : State) (counts : List Count) (t : ℕ) (making : Making) (made : Option Made) → IsWellMadeIf s counts t making made → broken_lines s t making ≡ None
lines_kept s counts t making None well = well.0
lines_kept s counts t making (Some made) well = well.kept

is_made : (s : State) (counts : List Count) (t : ℕ) (making : Making) (made : Option Made) → IsWellMadeIf s counts t making made → IsMade s t making made
is_made s counts t making None well = well.1
is_made s counts t making (Some made) well = well.product

reads_well : (s : State) (counts : List Count) (t : ℕ) (making : Making) (made : Option Made) → IsWellMadeIf s counts t making made → ReadsWell s t making made
reads_well s counts t making None well = tt
reads_well s counts t making (Some made) well = well.reads

may_take : (s : State) (counts : List Count) (room : Room) (t : ℕ) (making : Making) (made : Option Made) → IsWellMadeIf s counts t making made → HasRoomForIf room made →
    MayTakeMade (record { state = s; counts = counts; room = room }) t made
may_take s counts room t making None well fits = tt
may_take s counts room t making (Some made) well fits = record { lawful = well.lawful; numbers = well.numbers; rows_room = fits.rows; numbers_room = fits.numbers; products_room = fits.products }

-- ---- the laws

abbrev pub KeepsSoundness : Type 0
KeepsSoundness = (s : State) (counts after : List Count) (desk : List ℕ) (seq : ℕ) (r : Request) (reading : ℤ) (t : ℕ) (made : Option Made) →
    IsSound s counts → HasRequestForm r → Accepts s desk seq r reading t made → draws counts after made →
    IsSound (state_after s (entry_of s desk seq r t made) made) after

abbrev pub KeepsAgreement : Type 0
KeepsAgreement = (s : State) (counts after : List Count) (making : Making) (made : Option Made) (e : Entry) →
    IsSound s counts → Agrees s counts → s.last ≤ e.minute → MayBePlanned s counts e.minute making →
    broken_lines s e.minute making ≡ None → ReadsWell s e.minute making made → draws counts after made →
    Agrees (state_after s e made) after

-- ---- the answer

-- what was found out of a request and prepared of it
pub record IsChecked (s : State) (counts : List Count) (room : Room) (desk : List ℕ) (seq : ℕ) (r : Request) (reading : ℤ) (t : ℕ) (made : Option Made) (p : Readied) : Type 0 where
  pub sound : IsSound s counts
  pub agrees : Agrees s counts
  pub form : HasRequestForm r
  pub new : is_repeated s desk seq r ≡ false
  pub request : broken_request s desk seq r reading ≡ None
  pub minute : t ≡ minute_of s reading
  pub later : s.last ≤ t
  pub plan : MayBePlanned s counts t (making_of s r)
  pub well : IsWellMadeIf s counts t (making_of s r) made
  pub fits : HasRoomForIf room made
  pub entry : p.entry ≡ entry_of s desk seq r t made
  pub same : p.made ≡ made
  pub drafts : changed p.change s.drafts ≡ drafts_after s desk r t
  pub place : HasPlace p.change s.drafts

accepts : (s : State) (counts : List Count) (room : Room) (desk : List ℕ) (seq : ℕ) (r : Request) (reading : ℤ) (t : ℕ) (made : Option Made) (p : Readied) →
    IsChecked s counts room desk seq r reading t made p → Accepts s desk seq r reading t made
accepts s counts room desk seq r reading t made p k = record {
  new = k.new;
  request = k.request;
  minute = k.minute;
  lines = lines_kept s counts t (making_of s r) made k.well;
  product = is_made s counts t (making_of s r) made k.well;
}

-- the same of the entry itself
entry_ready : (s : State) (counts : List Count) (room : Room) (desk : List ℕ) (seq : ℕ) (r : Request) (reading : ℤ) (t : ℕ) (made : Option Made) (p : Readied) →
    KeepsSoundness → KeepsAgreement → IsChecked s counts room desk seq r reading t made p →
    IsReady (record { state = s; counts = counts; room = room }) desk seq r reading (record { entry = entry_of s desk seq r t made; change = p.change; made = made })
entry_ready s counts room desk seq r reading t made p soundness agreement k = record {
  accepted = accepts s counts room desk seq r reading t made p k;
  entry = refl;
  may = record {
    desk = known_desk s desk seq r reading k.new k.request;
    drafts = k.drafts;
    place = k.place;
    product = may_take s counts room t (making_of s r) made k.well k.fits;
    sound = λ after drawn. soundness s counts after desk seq r reading t made k.sound k.form (accepts s counts room desk seq r reading t made p k) drawn;
    agrees = λ after drawn. agreement s counts after (making_of s r) made (entry_of s desk seq r t made) k.sound k.agrees k.later k.plan (lines_kept s counts t (making_of s r) made k.well) (reads_well s counts t (making_of s r) made k.well) drawn;
  };
}

-- what was checked of an office's state, numbers and room is ready there
pub ready : (o : OfficeView) (s : State) (counts : List Count) (desk : List ℕ) (seq : ℕ) (r : Request) (reading : ℤ) (t : ℕ) (made : Option Made) (p : Readied) →
    o.state ≡ s → o.counts ≡ counts → KeepsSoundness → KeepsAgreement → IsChecked s counts o.room desk seq r reading t made p → IsReady o desk seq r reading p
ready o s counts desk seq r reading t made p hs hc soundness agreement k =
    let first = entry_ready s counts o.room desk seq r reading t made p soundness agreement k in
    let office : record { state = s; counts = counts; room = o.room } ≡ o = λ i. record { state = sym hs i; counts = sym hc i; room = o.room } in
    let prepared : record { entry = entry_of s desk seq r t made; change = p.change; made = made } ≡ p = λ i. record { entry = sym k.entry i; change = p.change; made = sym k.same i } in
    subst (λ (v : OfficeView). IsReady v desk seq r reading p) office (subst (λ (q : Readied). IsReady (record { state = s; counts = counts; room = o.room }) desk seq r reading q) prepared first)
