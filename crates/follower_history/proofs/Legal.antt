-- The state that a legal history leads to is sound, and its texts agree with its board.
use Rattle.std.proofs.Common.{◌≡◌, ◌∙◌, ◌≤◌, ◌++◌, ℕ, pos, List, [], ◌∷◌, Bool, Option, Some, None, refl, sym, ap, subst, arith, max}
use Rattle.std.proofs.lemmas.List.Elements.{All-nil}
use Rattle.std.specs.Prelude.{IsOk}
use Rattle.hazard_types.specs.declared.codes.Class.{Class}
use Rattle.office_types.specs.declared.request.Edition.{Edition}
use Rattle.office_types.specs.declared.request.Edition.TheVariants.{One}
use Rattle.office_types.specs.declared.request.Entry.{Entry}
use Rattle.office_types.specs.declared.request.Request.{Request}
use Rattle.desk_settings.specs.declared.settings.Settings.{Settings}
use Rattle.event_numbers.specs.declared.Count.{Count}
use Rattle.product_decoder.specs.Decoded.{decode}
use Rattle.product_frame.specs.Splitting.{IsOneProduct}
use Rattle.request_json.specs.Formed.{HasRequestForm}
use Rattle.office_core.specs.Agreement.{Agrees, ReadsAsTheBoard}
use Rattle.office_core.specs.Histories.{Entered, IsLegal, IsNext, LeadFrom}
use Rattle.office_core.specs.Keeping.{MayBePlanned}
use Rattle.office_core.specs.Making.{making_of}
use Rattle.office_core.specs.Prepared.{draws}
use Rattle.office_core.specs.Sound.{IsSound, IsSoundMaking}
use Rattle.office_core.specs.State.{State, first_state, in_edition}
use Rattle.office_core.specs.Step.{Accepts, entry_of, state_after}
use Rattle.office_core.specs.declared.made.Made.{Made}
use Rattle.office_core.proofs.AgreementLaws.{keeps_agreement}
use Rattle.office_core.proofs.SoundFirst.{begins}
use Rattle.office_core.proofs.SoundPlans.{may_be_planned}
use Rattle.office_core.proofs.SoundRequests.{making_is}
use Rattle.office_core.proofs.SoundSteps.{keeps_sound}
use Rattle.follower_history.specs.Fronts.{MayBegin}
use Rattle.follower_history.proofs.Drawn.{drawn_all}
use Rattle.follower_history.proofs.Stays.{HasRanges, makes, ranges_after, turns}

-- what holds of the state after each front of a legal history
record Holds (s : State) : Type 0 where
  counts : List Count
  sound : IsSound s counts
  agrees : Agrees s counts
  ranges : HasRanges s

drawn_if : (counts : List Count) (made : Option Made) → (after : List Count) × draws counts after made
drawn_if counts None = (counts, refl)
drawn_if counts (Some made) = drawn_all counts made.opened

sound_in : (e : Edition) (s : State) (counts : List Count) → IsSound s counts → IsSound (in_edition e s) counts
sound_in e s counts h = record {
  forms = h.forms;
  training = h.training;
  desks = h.desks;
  order = h.order;
  stands = h.stands;
  minute = h.minute;
  rows = h.rows;
  few = h.few;
  drafts = h.drafts;
  touched = h.touched;
  most = h.most;
  products = h.products;
}

agrees_in : (e : Edition) (s : State) (counts : List Count) → Agrees s counts → Agrees (in_edition e s) counts
agrees_in e s counts h = record {
  reads = record { whole = h.reads.whole; apart = h.reads.apart; lives = h.reads.lives; gapless = h.reads.gapless; rows = h.reads.rows };
  numbers = h.numbers;
}

late_enough : (t last : ℕ) → t ≡ max t last → last ≤ t
late_enough t last h = omega (arith, h)

minute_of : (s : State) (e : Entry) (made : Option Made) (counts : List Count) → IsSound (state_after s e made) counts → e.minute ≤ 52000000
unfolding state_after
minute_of s e made counts h = h.minute

-- one entry more
entered : (s : State) (desk : List ℕ) (seq : ℕ) (r : Request) (t : ℕ) (made : Option Made) → Holds s → HasRequestForm r → Accepts s desk seq r (pos t) t made
    → Holds (state_after s (entry_of s desk seq r t made) made)
entered s desk seq r t made h form accepts =
    let e : Entry = entry_of s desk seq r t made in
    let making = making_of s r in
    let drawn = drawn_if h.counts made in
    let own : IsSoundMaking s making = making_is s h.counts desk seq r (pos t) h.sound form accepts.new accepts.request in
    let sound : IsSound (state_after s e made) drawn.0 = keeps_sound s h.counts drawn.0 desk seq r (pos t) t made h.sound form accepts drawn.1 in
    let most : t ≤ 52000000 = minute_of s e made drawn.0 sound in
    let le : s.last ≤ t = late_enough t s.last accepts.minute in
    let turned = turns s h.counts t h.sound le most h.ranges making made own (makes s r form h.ranges.drafts) accepts.lines accepts.product in
    let plan : MayBePlanned s h.counts t making = may_be_planned s h.counts t making h.sound le most own in
    record {
      counts = drawn.0;
      sound = sound;
      agrees = keeps_agreement s h.counts drawn.0 making made e h.sound h.agrees le plan accepts.lines turned.0 drawn.1;
      ranges = ranges_after s desk seq r e made refl refl form h.ranges turned.1;
    }

module _ (fits : List Entered → Entered → Bool) where
  next_holds : (earlier : List Entered) (s : State) (x : Entered) (next : State) → IsNext fits earlier s x next → Holds s → Holds next
  next_holds earlier s x next n h =
      let o = in_edition x.entry.edition s in
      let own : Holds o = record { counts = h.counts; sound = sound_in x.entry.edition s h.counts h.sound; agrees = agrees_in x.entry.edition s h.counts h.agrees; ranges = record { rows = h.ranges.rows; drafts = h.ranges.drafts } } in
      let is : next ≡ state_after o (entry_of o x.entry.desk x.entry.seq x.entry.request x.entry.minute x.made) x.made = n.after ∙ ap (λ (y : Entry). state_after o y x.made) n.entry in
      subst Holds (sym is) (entered o x.entry.desk x.entry.seq x.entry.request x.entry.minute x.made own n.form.request n.accepted)

  led_holds : (earlier history : List Entered) (s after : State) → LeadFrom fits earlier s history after → Holds s → Holds after
  led_holds earlier [] s after led h = subst Holds (sym led) h
  led_holds earlier (x ∷ history) s after led h = led_holds (earlier ++ x ∷ []) history led.0 after led.2 (next_holds earlier s x led.0 led.1 h)

at_first : (settings : Settings) (class : Class) → MayBegin settings class → Holds (first_state settings class One)
at_first settings class may = record {
  counts = [];
  sound = begins settings class One may.forms may.training;
  agrees = record {
    reads = record { whole = All-nil (λ (text : List ℕ). IsOk (decode text)); apart = All-nil IsOneProduct; lives = λ e z. tt; gapless = λ h year. (0, refl); rows = refl };
    numbers = λ h year. refl;
  };
  ranges = record { rows = tt; drafts = tt };
}

pub legal_reads : (fits : List Entered → Entered → Bool) (settings : Settings) (class : Class) (history : List Entered) (s : State) → MayBegin settings class → IsLegal fits settings class history s → ReadsAsTheBoard s
legal_reads fits settings class history s may legal = (led_holds fits [] history (first_state settings class One) s legal (at_first settings class may)).agrees.reads
