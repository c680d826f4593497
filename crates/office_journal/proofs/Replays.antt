-- An office that is read from bodies, one after another.
use Rattle.std.proofs.Common.{if◌then◌else◌, ltb, inl, ◌≡◌, ◌≢◌, ◌≤◌, ℕ, pos, ◌+◌, Bool, true, false, List, [], ◌∷◌, ◌++◌, Option, Some, Result, Ok, Err, length, refl, sym, ◌∙◌, ap, subst, arith, inr, leb}
use Rattle.std.proofs.lemmas.Bool.{leb-true, le-leb, ltb-false}
use Rattle.hazard_types.specs.declared.codes.Class.TheVariants.{O}
use Rattle.office_types.specs.declared.refusal.Refusal.{Refusal}
use Rattle.office_types.specs.declared.request.Edition.{Edition}
use Rattle.office_types.specs.declared.request.Edition.TheVariants.{One, Two}
use Rattle.office_types.specs.declared.request.Entry.{Entry}
use Rattle.desk_settings.specs.Reading.{settings_of}
use Rattle.desk_settings.specs.declared.fault.SettingsFault.{SettingsFault}
use Rattle.desk_settings.specs.declared.fault.SettingsFault.TheVariants.{TooLong}
use Rattle.desk_settings.specs.declared.settings.Settings.{Settings}
use Rattle.journal_core.specs.Image.{records}
use Rattle.request_json.proofs.RequestsBack.{text_reads_back}
use Rattle.request_json.specs.Form.{asked_of}
use Rattle.request_json.specs.Formed.{HasForm}
use Rattle.request_json.specs.declared.asked.Asked.{Asked}
use Rattle.office_core.specs.Histories.{Entered, IsNext, LeadFrom, MayFollow}
use Rattle.office_core.specs.Prepared.{IsReady, Readied}
use Rattle.office_core.specs.State.{State, first_state, in_edition}
use Rattle.office_core.specs.Step.{Accepts, entry_of, state_after}
use Rattle.office_core.specs.Views.{OfficeView}
use Rattle.office_core.specs.declared.made.Made.{Made}
use Rattle.office_journal.specs.Bodies.{asked_by, bodies_of, entry_body, mark}
use Rattle.office_journal.specs.Changes.{Change, IsNextEntry, MayChange, body_of, changed}
use Rattle.office_journal.specs.Damage.{FailsAt}
use Rattle.office_journal.specs.Histories.{History, IsHistory, bodies, empty, fits}
use Rattle.office_journal.specs.Parts.{Enters, minute_in, request_in}
use Rattle.office_journal.specs.Submitting.{entered}
use Rattle.office_journal.specs.Replaying.{most}
use Rattle.office_journal.proofs.Growing.{bodies_grow, follows_itself, history_grows, in_own, records_push}
use Rattle.office_journal.proofs.Parting.{AreLines, AreOnce, entered_is, minute_of_body, minute_small, ok_is, request_of_body, some_is}
use Rattle.office_journal.proofs.Telling.{bodies_grew}

-- ---- sizes

pub one_is_less : (e : Edition) → 268435456 ≤ most e
one_is_less One = omega arith
one_is_less Two = omega arith

-- ---- what is prepared

asked_ready : (s : State) (a : Asked) (p : Readied) → p.entry ≡ entry_of s a.desk a.seq a.request p.entry.minute p.made → asked_by p.entry ≡ a
asked_ready s a p e = ap asked_by e

-- what is prepared at the minute of its entry enters
pub ready_enters : (o : OfficeView) (a : Asked) (m : ℕ) (p : Readied) → HasForm a → IsReady o a.desk a.seq a.request (pos m) p → p.entry.minute ≡ m → Enters o.state (entered p)
ready_enters o a m p form ready minute =
    let asked : asked_by p.entry ≡ a = asked_ready o.state a p ready.entry in
    record {
      form = subst HasForm (sym asked) form;
      accepted = subst (λ (b : Asked). Accepts o.state b.desk b.seq b.request (pos p.entry.minute) p.entry.minute p.made) (sym asked)
          (subst (λ (n : ℕ). Accepts o.state a.desk a.seq a.request (pos n) p.entry.minute p.made) (sym minute) ready.accepted);
      entry = ready.entry ∙ ap (λ (b : Asked). entry_of o.state b.desk b.seq b.request p.entry.minute p.made) (sym asked);
    }

module _ (lines : AreLines) (s : State) (x : Entered) (is : Enters s x) (body : List ℕ) (same : entry_body x ≡ body) where
  -- the body of an entry begins with a minute, and the request reads
  pub minute_reads : minute_in body ≡ Some x.entry.minute
  minute_reads = ap minute_in (sym same) ∙ minute_of_body x (minute_small s x is)

  pub asked_reads : asked_of (request_in body) ≡ Ok (asked_by x.entry)
  asked_reads = ap (λ (b : List ℕ). asked_of (request_in b)) (sym same) ∙ ap asked_of (request_of_body lines x) ∙ text_reads_back (asked_by x.entry) is.form

  module _ (a : Asked) (m : ℕ) (asked : asked_of (request_in body) ≡ Ok a) (minute : minute_in body ≡ Some m) where
    -- so the request is accepted as it was
    pub as_accepted : Accepts s a.desk a.seq a.request (pos m) x.entry.minute x.made
    as_accepted =
        let asks : asked_by x.entry ≡ a = ok_is {Y = Refusal} _ _ (sym asked_reads ∙ asked) in
        let at : x.entry.minute ≡ m = some_is _ _ (sym minute_reads ∙ minute) in
        subst (λ (n : ℕ). Accepts s a.desk a.seq a.request (pos n) x.entry.minute x.made) at
        (subst (λ (b : Asked). Accepts s b.desk b.seq b.request (pos x.entry.minute) x.entry.minute x.made) asks is.accepted)

    -- and what is prepared is its entry
    pub as_prepared : AreOnce → (p : Readied) → p.entry ≡ entry_of s a.desk a.seq a.request p.entry.minute p.made → Accepts s a.desk a.seq a.request (pos m) p.entry.minute p.made → entered p ≡ x
    as_prepared once p entry accepted =
        let asks : asked_by x.entry ≡ a = ok_is {Y = Refusal} _ _ (sym asked_reads ∙ asked) in
        let one = once s a.desk a.seq a.request (pos m) p.entry.minute x.entry.minute p.made x.made accepted as_accepted in
        let entries : p.entry ≡ x.entry =
        entry
        ∙ ap (λ (n : ℕ). entry_of s a.desk a.seq a.request n p.made) one.0
        ∙ ap (λ (o : Option Made). entry_of s a.desk a.seq a.request x.entry.minute o) one.1
        ∙ ap (λ (b : Asked). entry_of s b.desk b.seq b.request x.entry.minute x.made) (sym asks)
        ∙ sym is.entry in
        entered_is (entered p) x entries one.1

-- ---- entries of histories

-- entries lead to one state
led_once : (fit : List Entered → Entered → Bool) (earlier hs : List Entered) (s a b : State) → LeadFrom fit earlier s hs a → LeadFrom fit earlier s hs b → a ≡ b
led_once fit earlier [] s a b p q = p ∙ sym q
led_once fit earlier (x ∷ hs) s a b (m, f, p) (n, g, q) =
    led_once fit (earlier ++ x ∷ []) hs m a b p (subst (λ (z : State). LeadFrom fit (earlier ++ x ∷ []) z hs b) (g.after ∙ sym f.after) q)

-- a history has one state
pub state_once : (file : List ℕ) (h : History) (s t : State) → IsHistory file h s → IsHistory file h t → s ≡ t
state_once file h s t is its =
    let settings : its.settings ≡ is.settings = ok_is its.settings is.settings (sym its.read ∙ is.read) in
    let last : is.last ≡ its.last = led_once (fits file) [] h.entries (first_state is.settings O One) is.last its.last is.legal
    (subst (λ (z : Settings). LeadFrom (fits file) [] (first_state z O One) h.entries its.last) settings its.legal) in
    is.state ∙ ap (in_edition h.edition) last ∙ sym its.state

pub edition_now : (file : List ℕ) (h : History) (s : State) → IsHistory file h s → s.edition ≡ h.edition
edition_now file h s is = ap (λ (z : State). z.edition) is.state

-- an entry that may follow enters, and its record fits
pub next_enters : (file : List ℕ) (h : History) (s : State) (x : Entered) → IsHistory file h s → IsNextEntry file h x → Enters s x
next_enters file h s x is next =
    let one : next.state ≡ s = state_once file h next.state s next.history is in
    let own : in_edition x.entry.edition next.state ≡ s = sym (in_own x.entry.edition next.state (edition_now file h next.state next.history ∙ sym next.edition)) ∙ one in
    subst (λ (z : State). Enters z x) own (record { form = next.accepted.form; accepted = next.accepted.accepted; entry = next.accepted.entry })

pub next_fits : (file : List ℕ) (h : History) (x : Entered) (size : ℕ) → IsNextEntry file h x → size ≡ length (records (bodies file h)) → size + 6 + length (entry_body x) ≤ 268435456
next_fits file h x size next is =
    let fitting : length (records (bodies_of file h.entries h.edition)) + 6 + length (entry_body x) ≤ 268435456 =
    leb-true _ _ (subst (λ (e : Edition). leb (length (records (bodies_of file h.entries e)) + 6 + length (entry_body x)) 268435456 ≡ true) next.edition next.accepted.fitting) in
    omega (arith, fitting, is)

module _ (file : List ℕ) (h : History) (s : State) (is : IsHistory file h s) (x : Entered) (enters : Enters s x) (size : ℕ) (now : size ≡ length (records (bodies file h))) (room : size + 6 + length (entry_body x) ≤ 268435456) where
  entered_edition : x.entry.edition ≡ h.edition
  entered_edition = ap (λ (e : Entry). e.edition) enters.entry ∙ edition_now file h s is

  own_edition : s ≡ in_edition x.entry.edition s
  own_edition = in_own x.entry.edition s (sym (ap (λ (e : Entry). e.edition) enters.entry))

  -- an entry whose record fits may follow
  entry_next : IsNext (fits file) h.entries s x (state_after s x.entry x.made)
  entry_next =
      let here : Enters (in_edition x.entry.edition s) x = subst (λ (z : State). Enters z x) own_edition enters in
      let fitting : length (records (bodies_of file h.entries h.edition)) + 6 + length (entry_body x) ≤ 268435456 = omega (arith, room, now) in
      record {
        form = enters.form;
        edition = subst (λ (e : Edition). MayFollow e x.entry.edition) (ap (λ (e : Entry). e.edition) enters.entry) (follows_itself x.entry.edition);
        accepted = here.accepted;
        entry = here.entry;
        fitting = subst (λ (e : Edition). leb (length (records (bodies_of file h.entries e)) + 6 + length (entry_body x)) 268435456 ≡ true) (sym entered_edition) (le-leb _ _ fitting);
        after = ap (λ (z : State). state_after z x.entry x.made) own_edition;
      }

  pub entry_may : MayChange file h (Change.entry x)
  entry_may = record { state = s; history = is; edition = entered_edition; next = state_after s x.entry x.made; accepted = entry_next }

  pub entry_history : IsHistory file (changed h (Change.entry x)) (state_after s x.entry x.made)
  entry_history = history_grows file h s is x (state_after s x.entry x.made) entered_edition entry_next

  pub entry_size : size + (5 + length (entry_body x)) ≡ length (records (bodies file (changed h (Change.entry x))))
  entry_size = omega (arith, now, records_push (bodies file h) (entry_body x), ap (λ (l : List (List ℕ)). length (records l)) (bodies_grow file h (Change.entry x) s is entry_may))

-- the mark goes over to edition Two
pub marked_size : (file : List ℕ) (h : History) (s : State) (size : ℕ) → IsHistory file h s → h.edition ≡ One → size ≡ length (records (bodies file h)) → size + 14 ≡ length (records (bodies file (changed h Change.marked)))
marked_size file h s size is one now = omega (arith, now, records_push (bodies file h) mark, ap (λ (l : List (List ℕ)). length (records l)) (bodies_grow file h Change.marked s is one))

-- ---- the settings' file

not_long : (b : Bool) (r : Result Settings SettingsFault) (settings : Settings) → (if b then Err TooLong else r) ≡ Ok settings → b ≡ false
not_long true r settings e = cc
not_long false r settings e = refl

pub settings_short : (file : List ℕ) (settings : Settings) → settings_of file ≡ Ok settings → length file ≤ 1048576
unfolding settings_of
settings_short file settings e = ltb-false 1048576 (length file) (not_long (ltb 1048576 (length file)) _ settings e)

pub first_history : (file : List ℕ) (settings : Settings) → settings_of file ≡ Ok settings → IsHistory file (empty One) (first_state settings O One)
first_history file settings read = record { settings = settings; read = read; last = first_state settings O One; legal = refl; edition = tt; state = refl }

pub first_size : (file : List ℕ) → 5 + length file ≡ length (records (bodies file (empty One)))
first_size file = omega (arith, records_push [] file)

-- ---- the first body that fails

pub no_settings : (file : List ℕ) (others : List (List ℕ)) → ((settings : Settings) → settings_of file ≢ Ok settings) → FailsAt (file ∷ others) 0
no_settings file others none = record {
  before = [];
  body = file;
  behind = others;
  are = refl;
  place = refl;
  good = inl refl;
  bad = λ all.
      let both : file ≡ all.file = cc (all.are) in
      none all.legal.settings (ap settings_of both ∙ all.legal.read);
}

pub fails_here : (lines : AreLines) (once : AreOnce) (file : List ℕ) (h : History) (s : State) (all before behind : List (List ℕ)) (body : List ℕ) (size : ℕ) → IsHistory file h s → size ≡ length (records (bodies file h))
    → before ≡ bodies file h → all ≡ before ++ body ∷ behind → ((c : Change) → MayChange file h c → body_of c ≢ body) → FailsAt all size
fails_here lines once file h s all before behind body size is now same are none = record {
  before = bodies file h;
  body = body;
  behind = behind;
  are = are ∙ ap (λ (l : List (List ℕ)). l ++ body ∷ behind) same;
  place = now;
  good = inr (record { file = file; history = h; state = s; legal = is; are = refl });
  bad = λ grown. let g = bodies_grew lines once file h s body is grown in none g.change g.may g.is;
}
