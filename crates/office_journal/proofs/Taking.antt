-- Bodies that are taken one after another, and the first that fails.
use Rattle.std.proofs.Common.{◌≡◌, ◌≢◌, ◌≤◌, ◌<◌, ◌+◌, ℕ, pos, Bool, true, false, List, [], ◌∷◌, ◌++◌, Option, None, Some, Ok, length, take, drop, get_or, length-append, refl, sym, ◌∙◌, ap, subst, arith}
use Rattle.std.proofs.lemmas.List.{drop_more, take_more, take-append-drop}
use Rattle.hazard_types.specs.declared.codes.Class.TheVariants.{O}
use Rattle.office_types.specs.declared.request.Edition.{Edition}
use Rattle.office_types.specs.declared.request.Edition.TheVariants.{One, Two}
use Rattle.desk_settings.specs.Reading.{settings_of}
use Rattle.desk_settings.specs.declared.settings.Settings.{Settings}
use Rattle.request_json.specs.Form.{asked_of}
use Rattle.request_json.specs.declared.asked.Asked.{Asked}
use Rattle.office_core.specs.Agreement.{ReadsAsTheBoard}
use Rattle.office_core.specs.Histories.{Entered}
use Rattle.office_core.specs.Prepared.{Readied}
use Rattle.office_core.specs.State.{State, first_state, in_edition}
use Rattle.office_core.specs.Step.{Accepts, entry_of, state_after}
use Rattle.office_core.specs.Views.{OfficeView}
use Rattle.office_journal.specs.Bodies.{entry_body, mark}
use Rattle.office_journal.specs.Changes.{Change, MayChange, body_of, changed}
use Rattle.office_journal.specs.Damage.{FailsAt}
use Rattle.office_journal.specs.Histories.{History, IsHistory, bodies, empty}
use Rattle.office_journal.specs.Parts.{Enters, minute_in, request_in}
use Rattle.office_journal.specs.Replaying.{HasTaken, IsReplayed, Judges, Prepares, Takes, TakesEntry, most}
use Rattle.office_journal.specs.Submitting.{entered}
use Rattle.office_journal.specs.declared.replay.Replayed.{Replayed}
use Rattle.office_journal.proofs.Entering.{begun_next}
use Rattle.office_journal.proofs.Growing.{bodies_grow, history_marked}
use Rattle.office_journal.proofs.Parting.{AreLines, AreOnce, some_is}
use Rattle.office_journal.proofs.Replays.{as_accepted, as_prepared, asked_reads, edition_now, entry_history, entry_may, entry_size, fails_here, first_history, first_size, marked_size, minute_reads, next_enters, next_fits, one_is_less, settings_short}

-- ---- a body is judged

not_none : {X : Type 0} (x : X) → ◌≡◌ {A = Option X} None (Some x) → ⊥
not_none x e = absurd (cc)

-- a body that begins with no minute is that of no entry
pub no_minute : AreLines → (o : OfficeView) (s : State) (body : List ℕ) → minute_in body ≡ None → Judges o s body None
no_minute lines o s body none x is same = not_none x.entry.minute (sym none ∙ minute_reads lines s x is body same)

-- nor is one whose request does not read
pub no_request : AreLines → (o : OfficeView) (s : State) (body : List ℕ) → ((a : Asked) → asked_of (request_in body) ≢ Ok a) → Judges o s body None
no_request lines o s body none x is same = none _ (asked_reads lines s x is body same)

module _ (lines : AreLines) (o : OfficeView) (s : State) (a : Asked) (m : ℕ) (body : List ℕ) (asked : asked_of (request_in body) ≡ Ok a) (minute : minute_in body ≡ Some m) where
  -- nor one whose request is not accepted
  pub not_accepted : Prepares o s a m None → Judges o s body None
  not_accepted none x is same = none x.entry.minute x.made (as_accepted lines s x is body same a m asked minute)

  module _ (once : AreOnce) (kept : o.state ≡ s) (p : Readied) (ready : Prepares o s a m (Some p)) where
    -- an entry with this body is the one that is prepared
    is_prepared : (x : Entered) → Enters s x → entry_body x ≡ body → entered p ≡ x
    is_prepared x is same =
        as_prepared lines s x is body same a m asked minute once p
        (subst (λ (z : State). p.entry ≡ entry_of z a.desk a.seq a.request p.entry.minute p.made) kept ready.entry)
        (subst (λ (z : State). Accepts z a.desk a.seq a.request (pos m) p.entry.minute p.made) kept ready.accepted)

    -- so a body is that of none where another minute is prepared
    pub other_minute : p.entry.minute ≢ m → Judges o s body None
    other_minute other x is same = other (ap (λ (y : Entered). y.entry.minute) (is_prepared x is same) ∙ some_is _ _ (sym (minute_reads lines s x is body same) ∙ minute))

    -- or another body
    pub other_body : (entry_body (entered p) ≡ body → ⊥) → Judges o s body None
    other_body other x is same = other (ap entry_body (is_prepared x is same) ∙ same)

-- ---- a body is taken

pub begins : (file : List ℕ) (settings : Settings) (found : Replayed) → settings_of file ≡ Ok settings → found.office.state ≡ first_state settings O One → ReadsAsTheBoard (first_state settings O One)
    → found.entries ≡ 0 → found.size ≡ 5 + length file → HasTaken (file ∷ []) found
begins file settings found read state reads entries size =
    let begun : found.office.state.begun ≡ 0 = ap (λ (z : State). z.begun) state in
    let edition : found.office.state.edition ≡ One = ap (λ (z : State). z.edition) state in
    let short = settings_short file settings read in
    record {
      file = file;
      history = empty One;
      replayed = record {
        history = subst (λ (z : State). IsHistory file (empty One) z) (sym state) (first_history file settings read);
        reads = subst ReadsAsTheBoard (sym state) reads;
        entries = entries;
        begun = omega (arith, begun, entries);
        recorded = omega (arith, entries);
        size = size ∙ first_size file;
        within = subst (λ (e : Edition). found.size ≤ most e) (sym edition) (omega (arith, size, short));
      };
      are = refl;
    }

-- the entry of what was judged, whose record fits, is taken
module _ (old new : Replayed) (p : Readied) (body : List ℕ) (enters : Enters old.office.state (entered p)) (same : entry_body (entered p) ≡ body) (room : old.size + 6 + length body ≤ 268435456)
    (state : new.office.state ≡ state_after old.office.state p.entry p.made) (reads : ReadsAsTheBoard new.office.state) (entries : new.entries ≡ old.entries + 1) (size : new.size ≡ old.size + (5 + length body)) where
  entry_replayed : (file : List ℕ) (h : History) → IsReplayed file h old → IsReplayed file (changed h (Change.entry (entered p))) new
  entry_replayed file h was =
      let long : length (entry_body (entered p)) ≡ length body = ap length same in
      let fits : old.size + 6 + length (entry_body (entered p)) ≤ 268435456 = omega (arith, room, long) in
      let begun : new.office.state.begun ≤ old.office.state.begun + 1 = subst (λ (z : State). z.begun ≤ old.office.state.begun + 1) (sym state) (begun_next old.office.state p.entry p.made) in
      let grown = entry_size file h old.office.state was.history (entered p) enters old.size was.size fits in
      record {
        history = subst (λ (z : State). IsHistory file (changed h (Change.entry (entered p))) z) (sym state) (entry_history file h old.office.state was.history (entered p) enters old.size was.size fits);
        reads = reads;
        entries = omega (arith, entries, was.entries, length-append h.entries (entered p ∷ []));
        begun = omega (arith, begun, was.begun, entries);
        recorded = omega (arith, entries, size, was.recorded);
        size = omega (arith, size, long, grown);
        within = omega (arith, size, room, one_is_less new.office.state.edition);
      }

  pub entry_taken : TakesEntry old new body true
  entry_taken all taken =
      let was = taken.replayed in
      let long : length (entry_body (entered p)) ≡ length body = ap length same in
      let fits : old.size + 6 + length (entry_body (entered p)) ≤ 268435456 = omega (arith, room, long) in
      let may = entry_may taken.file taken.history old.office.state was.history (entered p) enters old.size was.size fits in
      record {
        file = taken.file;
        history = changed taken.history (Change.entry (entered p));
        replayed = entry_replayed taken.file taken.history was;
        are = ap (λ (l : List (List ℕ)). l ++ body ∷ []) taken.are
            ∙ ap (λ (b : List ℕ). bodies taken.file taken.history ++ b ∷ []) (sym same)
            ∙ sym (bodies_grow taken.file taken.history (Change.entry (entered p)) old.office.state was.history may);
      }

-- no entry has a body whose record has no room
pub no_room : (old new : Replayed) (body : List ℕ) → 268435456 < old.size + 6 + length body → new.size ≡ old.size → TakesEntry old new body false
no_room old new body full size =
    (λ file h x was next same. let fits = next_fits file h x old.size next was.size in let long : length (entry_body x) ≡ length body = ap length same in omega (arith, fits, long, full), size)

-- nor one that is judged to be that of none
pub no_entry : (old new : Replayed) (o : OfficeView) (body : List ℕ) → Judges o old.office.state body None → new.size ≡ old.size → TakesEntry old new body false
no_entry old new o body none size = (λ file h x was next. none x (next_enters file h old.office.state x was.history next), size)

reads_still : (s : State) (e : Edition) → ReadsAsTheBoard s → ReadsAsTheBoard (in_edition e s)
reads_still s e reads = record { whole = reads.whole; apart = reads.apart; lives = reads.lives; gapless = reads.gapless; rows = reads.rows }

-- the mark is taken
pub mark_taken : (old new : Replayed) (body : List ℕ) → body ≡ mark → old.office.state.edition ≡ One → new.office.state ≡ in_edition Two old.office.state → new.entries ≡ old.entries
    → new.size ≡ old.size + (5 + length body) → Takes old new body true
mark_taken old new body is one state entries size all taken =
    let was = taken.replayed in
    let h = taken.history in
    let s = old.office.state in
    let marked : h.edition ≡ One = sym (edition_now taken.file h s was.history) ∙ one in
    let long : length body ≡ 9 = ap length is in
    let begun : new.office.state.begun ≡ s.begun = ap (λ (z : State). z.begun) state in
    let edition : new.office.state.edition ≡ Two = ap (λ (z : State). z.edition) state in
    let few : old.size ≤ 268435456 = subst (λ (e : Edition). old.size ≤ most e) one was.within in
    record {
      file = taken.file;
      history = changed h Change.marked;
      replayed = record {
        history = subst (λ (z : State). IsHistory taken.file (changed h Change.marked) z) (sym state) (history_marked taken.file h s was.history marked);
        reads = subst ReadsAsTheBoard (sym state) (reads_still s Two was.reads);
        entries = entries ∙ was.entries;
        begun = omega (arith, begun, was.begun, entries);
        recorded = omega (arith, entries, size, was.recorded);
        size = omega (arith, size, long, marked_size taken.file h s old.size was.history marked was.size);
        within = subst (λ (e : Edition). new.size ≤ most e) (sym edition) (omega (arith, size, long, few));
      };
      are = ap (λ (l : List (List ℕ)). l ++ body ∷ []) taken.are
          ∙ ap (λ (b : List ℕ). bodies taken.file h ++ b ∷ []) is
          ∙ sym (bodies_grow taken.file h Change.marked s was.history marked);
    }

-- no change has the body
no_change : (old new : Replayed) (body : List ℕ) → ((body ≡ mark) × (old.office.state.edition ≡ One) → ⊥) → TakesEntry old new body false
    → (file : List ℕ) (h : History) → IsReplayed file h old → (c : Change) → MayChange file h c → body_of c ≢ body
no_change old new body other none file h was (Change.entry x) may same = none.0 file h x was may same
no_change old new body other none file h was Change.marked may same = other (sym same, edition_now file h old.office.state was.history ∙ may)

-- what is taken as an entry, where it is not the mark
pub taken_so : AreLines → AreOnce → (old new : Replayed) (body : List ℕ) → ((body ≡ mark) × (old.office.state.edition ≡ One) → ⊥) → (b : Bool) → TakesEntry old new body b → Takes old new body b
taken_so lines once old new body other true takes = takes
taken_so lines once old new body other false takes =
    λ all behind taken.
    subst (λ (n : ℕ). FailsAt (all ++ body ∷ behind) n) (sym takes.1)
    (fails_here lines once taken.file taken.history old.office.state (all ++ body ∷ behind) all behind body old.size taken.replayed.history taken.replayed.size taken.are refl
    (no_change old new body other takes taken.file taken.history taken.replayed))

-- the bodies up to one of those behind a file
pub one_more : (file : List ℕ) (others : List (List ℕ)) (at : ℕ) (body : List ℕ) → at < length others → body ≡ get_or others at body → (file ∷ take at others) ++ body ∷ [] ≡ file ∷ take (at + 1) others
one_more file others at body within is =
    ap (λ (l : List (List ℕ)). file ∷ l) (ap (λ (b : List ℕ). take at others ++ b ∷ []) is ∙ sym (take_more others at body within))

-- and all, parted there
pub parted : (file : List ℕ) (others : List (List ℕ)) (at : ℕ) (body : List ℕ) → at < length others → body ≡ get_or others at body → (file ∷ take at others) ++ body ∷ drop (at + 1) others ≡ file ∷ others
parted file others at body within is =
    ap (λ (l : List (List ℕ)). file ∷ l)
    (ap (λ (b : List ℕ). take at others ++ b ∷ drop (at + 1) others) is
    ∙ ap (λ (l : List (List ℕ)). take at others ++ l) (sym (drop_more others at body within))
    ∙ take-append-drop at others)
