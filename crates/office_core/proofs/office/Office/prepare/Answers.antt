-- What was found out of a request on the way, and that what is prepared of it may be committed.
use Rattle.std.proofs.Common.{◌≡◌, ◌∙◌, ◌≤◌, ℕ, ℤ, None, false, ap, subst, sym, rules, to_z, of_z, w64}
use Rattle.std.proofs.lemmas.Int.{to_z-of_z}
use Rattle.office_core.specs.Agreement.{Agrees}
use Rattle.office_core.specs.Making.{making_of}
use Rattle.office_core.specs.Prepared.{HasPlace, IsReady, Readied, changed}
use Rattle.office_core.specs.Rules.{broken_request, drafts_full, is_out, is_repeated, minute_of}
use Rattle.office_core.specs.Sound.{IsSound, IsSoundMaking}
use Rattle.office_core.specs.State.{State}
use Rattle.office_core.specs.Step.{drafts_after, entry_of}
use Rattle.office_core.specs.Views.{OfficeView}
use Rattle.office_core.proofs.BrokenLemmas.{read_in_range, drafts_fit, repeated_request}
use Rattle.office_core.proofs.ReadyLemmas.{IsChecked, ready}
use Rattle.office_core.proofs.office.Office.prepare.Goals as goal
use Rattle.office_core.proofs.office.Office.prepare.Goals.{Else-is_repeated, After-minute_of-t}

read : (c : Else-is_repeated) → to_z w64 (of_z w64 c.args.reading) ≡ c.args.reading
read c = to_z-of_z w64 c.args.reading c.ranges.reading

kept : (c : Else-is_repeated) → broken_request c.args.self.now.state c.args.desk c.args.seq c.args.r.now c.args.reading ≡ None
kept c = subst (λ (z : ℤ). broken_request c.args.self.now.state c.args.desk c.args.seq c.args.r.now z ≡ None) (read c) (sym c.in_ok-refusal.ensures ∙ c.in_default.is)

new : (c : Else-is_repeated) → is_repeated c.args.self.now.state c.args.desk c.args.seq c.args.r.now ≡ false
new c = sym c.if-is_repeated.ensures

in_range : (c : Else-is_repeated) → is_out c.args.reading ≡ false
in_range c = read_in_range c.args.self.now.state c.args.desk c.args.seq c.args.r.now c.args.reading (new c) (kept c)

sound : (c : Else-is_repeated) → IsSound c.args.self.now.state c.args.self.now.counts
sound c = subst (λ (o : OfficeView). IsSound o.state o.counts) c.self.view_is c.self.invariant.0

minute : (c : After-minute_of-t) → c.minute_of-t.result ≡ minute_of c.args.self.now.state c.args.reading
minute c = c.minute_of-t.ensures ∙ ap (minute_of c.args.self.now.state) (to_z-of_z w64 c.args.reading c.ranges.reading)

-- the minute is not before the last one, and in range
in_order : (d : Else-is_repeated) (t : ℕ) → t ≡ minute_of d.args.self.now.state d.args.reading → (d.args.self.now.state.last ≤ t) × (t ≤ 52000000)
in_order d t e = subst (λ (n : ℕ). (d.args.self.now.state.last ≤ n) × (n ≤ 52000000)) (sym e) (d.entries_come_in_order.ensures d.args.self.now.state d.args.self.now.counts d.args.reading (sound d) (in_range d))

making_sound : (c : Else-is_repeated) → IsSoundMaking c.args.self.now.state (making_of c.args.self.now.state c.args.r.now)
making_sound c = c.requests_make_sound_products.ensures c.args.self.now.state c.args.self.now.counts c.args.desk c.args.seq c.args.r.now c.args.reading (sound c) c.requires.form (new c) (kept c)

pub returns-then-is_repeated-clause-again : goal.returns-then-is_repeated-clause-again
returns-then-is_repeated-clause-again c e =
    let s = c.args.self.now.state in
    let still = subst (λ (z : ℤ). broken_request s c.args.desk c.args.seq c.args.r.now z ≡ None) (to_z-of_z w64 c.args.reading c.ranges.reading) (sym c.in_ok-refusal.ensures ∙ c.in_default.is) in
    repeated_request s c.args.desk c.args.seq c.args.r.now c.args.reading c.equality_of_requests_is_identity.ensures.requests (sym c.if-is_repeated.ensures) still

pub minute_of-t-requires : goal.minute_of-t-requires
minute_of-t-requires c = subst (λ (z : ℤ). is_out z ≡ false) (sym (read c)) (in_range c)

pub make-requires-clause-minute : goal.make-requires-clause-minute
make-requires-clause-minute c =
    let g = goal.at.make-requires-clause-minute c in
    (in_order g.Else-is_repeated c.minute_of-t.result (minute g.After-minute_of-t)).1

pub make-requires-clause-sound : goal.make-requires-clause-sound
make-requires-clause-sound c = making_sound (goal.at.make-requires-clause-sound c).Else-is_repeated

pub prepared-requires-clause-room : goal.prepared-requires-clause-room
prepared-requires-clause-room c =
    let s = c.args.self.now.state in
    let d = (goal.at.prepared-requires-clause-room c).Else-is_repeated in
    subst (λ (v : State). drafts_full v c.args.r.now ≡ None) (sym c.reserve.ensures.state) (drafts_fit s c.args.desk c.args.seq c.args.r.now c.args.reading (new d) (kept d))

pub returns-clause-ready : goal.returns-clause-ready
returns-clause-ready c p e =
    let g = goal.at.returns-clause-ready c in
    let s = c.args.self.now.state in
    let t = c.minute_of-t.result in
    let d = g.Else-is_repeated in
    let order = in_order d t (minute g.After-minute_of-t) in
    let same : c.in_ok-p.p ≡ p = search rules in
    let checked : IsChecked s c.args.self.now.counts c.reserve.new.self.room c.args.desk c.args.seq c.args.r.now c.args.reading t c.in_ok-made.made c.in_ok-p.p =
    record {
      sound = sound d;
      agrees = subst (λ (o : OfficeView). Agrees o.state o.counts) c.self.view_is c.self.invariant.1;
      form = c.requires.form;
      new = new d;
      request = kept d;
      minute = minute g.After-minute_of-t;
      later = order.0;
      plan = c.sound_products_may_be_planned.ensures s c.args.self.now.counts t (making_of s c.args.r.now) (sound d) order.0 order.1 (making_sound d);
      well = c.in_ok-made.ensures.made;
      fits = c.in_ok-reserve.ensures.ok;
      entry = subst (λ (v : State). c.in_ok-p.p.entry ≡ entry_of v c.args.desk c.args.seq c.args.r.now t c.in_ok-made.made) c.reserve.ensures.state c.in_ok-p.ensures.entry;
      same = c.in_ok-p.ensures.made;
      drafts = subst (λ (v : State). changed c.in_ok-p.p.change v.drafts ≡ drafts_after v c.args.desk c.args.r.now t) c.reserve.ensures.state c.in_ok-p.ensures.drafts;
      place = subst (λ (v : State). HasPlace c.in_ok-p.p.change v.drafts) c.reserve.ensures.state c.in_ok-p.ensures.place;
    } in
    subst (λ (q : Readied). IsReady c.reserve.new.self c.args.desk c.args.seq c.args.r.now c.args.reading q) same
    (ready c.reserve.new.self s c.args.self.now.counts c.args.desk c.args.seq c.args.r.now c.args.reading t c.in_ok-made.made c.in_ok-p.p c.reserve.ensures.state c.reserve.ensures.counts
    c.accepted_requests_keep_soundness.ensures c.products_keep_the_agreement.ensures checked)
