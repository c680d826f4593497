-- Histories that grow by one change, and their bodies.
use Rattle.std.proofs.Common.{◌≡◌, ◌+◌, ℕ, Bool, List, [], ◌∷◌, ◌++◌, length, refl, sym, ◌∙◌, ap, subst, append_assoc, arith, length-append}
use Rattle.std.specs.Int.{w32, to_be_bytes}
use Rattle.journal_core.specs.Image.{records, spelled}
use Rattle.std.proofs.lemmas.List.{append-nil}
use Rattle.office_types.specs.declared.request.Edition.{Edition}
use Rattle.office_types.specs.declared.request.Edition.TheVariants.{One, Two}
use Rattle.office_core.specs.Histories.{Entered, IsNext, LeadFrom, MayFollow}
use Rattle.office_core.specs.State.{State, in_edition}
use Rattle.office_core.specs.Step.{state_after}
use Rattle.office_journal.specs.Bodies.{bodies_from, entry_body, mark, marks}
use Rattle.office_journal.specs.Changes.{Change, MayChange, body_of, changed}
use Rattle.office_journal.specs.Histories.{History, IsHistory, bodies, fits}

length-spelled : (body : List ℕ) → length (spelled body) ≡ 4 + length body
unfolding spelled
length-spelled body = let four : length (to_be_bytes w32 (length body)) ≡ 4 = refl in omega (arith, length-append (to_be_bytes w32 (length body)) body, four)

-- one more record
pub records_push : (bs : List (List ℕ)) (b : List ℕ) → length (records (bs ++ b ∷ [])) ≡ length (records bs) + (5 + length b)
records_push [] b = omega (arith, length-append (spelled b) [], length-spelled b)
records_push (c ∷ bs) b = omega (arith, length-append (spelled c) (records (bs ++ b ∷ [])), length-append (spelled c) (records bs), records_push bs b)

-- the edition of the last of entries that follow an edition
pub last_edition : Edition → List Entered → Edition
last_edition before [] = before
last_edition before (x ∷ entries) = last_edition x.entry.edition entries

pub unmarked : (e : Edition) → marks e e ≡ []
unmarked One = refl
unmarked Two = refl

first_body : (before : Edition) (x : Entered) (now : Edition) → x.entry.edition ≡ now → marks before x.entry.edition ++ (entry_body x ∷ marks x.entry.edition now) ≡ marks before now ++ entry_body x ∷ []
first_body before x now e =
    subst (λ (n : Edition). marks before x.entry.edition ++ (entry_body x ∷ marks x.entry.edition n) ≡ marks before n ++ entry_body x ∷ []) e (ap (λ (l : List (List ℕ)). marks before x.entry.edition ++ (entry_body x ∷ l)) (unmarked x.entry.edition))

pub entry_behind : (before : Edition) (entries : List Entered) (x : Entered) (now : Edition) → x.entry.edition ≡ now → bodies_from before (entries ++ x ∷ []) now ≡ bodies_from before entries now ++ entry_body x ∷ []
entry_behind before [] x now e = first_body before x now e
entry_behind before (y ∷ entries) x now e =
    ap (λ (l : List (List ℕ)). marks before y.entry.edition ++ (entry_body y ∷ l)) (entry_behind y.entry.edition entries x now e)
    ∙ sym (append_assoc (marks before y.entry.edition) (entry_body y ∷ bodies_from y.entry.edition entries now) (entry_body x ∷ []))

pub mark_behind : (before : Edition) (entries : List Entered) → last_edition before entries ≡ One → bodies_from before entries Two ≡ bodies_from before entries One ++ mark ∷ []
unfolding last_edition
mark_behind before [] e = subst (λ (b : Edition). marks b Two ≡ marks b One ++ mark ∷ []) (sym e) refl
mark_behind before (y ∷ entries) e =
    ap (λ (l : List (List ℕ)). marks before y.entry.edition ++ (entry_body y ∷ l)) (mark_behind y.entry.edition entries e)
    ∙ sym (append_assoc (marks before y.entry.edition) (entry_body y ∷ bodies_from y.entry.edition entries One) (mark ∷ []))

pub edition_after : (s : State) (x : Entered) → (state_after (in_edition x.entry.edition s) x.entry x.made).edition ≡ x.entry.edition
unfolding state_after
edition_after s x = refl

pub edition_led : (fit : List Entered → Entered → Bool) (earlier : List Entered) (s : State) (history : List Entered) (after : State) → LeadFrom fit earlier s history after → after.edition ≡ last_edition s.edition history
unfolding last_edition
edition_led fit earlier s [] after led = ap (λ (z : State). z.edition) led
edition_led fit earlier s (x ∷ history) after (next, is, rest) =
    let one : next.edition ≡ x.entry.edition = ap (λ (z : State). z.edition) is.after ∙ edition_after s x in
    edition_led fit (earlier ++ x ∷ []) next history after rest ∙ ap (λ (e : Edition). last_edition e history) one

pub led_on : (fit : List Entered → Entered → Bool) (earlier : List Entered) (s : State) (history : List Entered) (after next : State) (x : Entered) → LeadFrom fit earlier s history after → IsNext fit (earlier ++ history) after x next
    → LeadFrom fit earlier s (history ++ x ∷ []) next
led_on fit earlier s [] after next x led is =
    let at : IsNext fit earlier after x next = subst (λ (l : List Entered). IsNext fit l after x next) (append-nil earlier) is in
    (next, subst (λ (z : State). IsNext fit earlier z x next) led at, refl)
led_on fit earlier s (y ∷ history) after next x (n, first, rest) is =
    (n, first, led_on fit (earlier ++ y ∷ []) n history after next x rest (subst (λ (l : List Entered). IsNext fit l after x next) (sym (append_assoc earlier (y ∷ []) history)) is))

pub follows_itself : (e : Edition) → MayFollow e e
follows_itself One = tt
follows_itself Two = tt

pub two_follows : (e : Edition) → MayFollow e Two
two_follows One = tt
two_follows Two = tt

one_before : (e : Edition) → MayFollow e One → e ≡ One
one_before One may = refl
one_before Two may = absurd may

pub in_own : (e : Edition) (s : State) → s.edition ≡ e → s ≡ in_edition e s
in_own e s is = subst (λ (e : Edition). s ≡ in_edition e s) is refl

-- the bodies of a history that grows are those before and one more
pub bodies_grow : (file : List ℕ) (h : History) (c : Change) (s : State) → IsHistory file h s → MayChange file h c → bodies file (changed h c) ≡ bodies file h ++ body_of c ∷ []
bodies_grow file h (Change.entry x) s is may = ap (λ (l : List (List ℕ)). file ∷ l) (entry_behind One h.entries x h.edition may.edition)
bodies_grow file h Change.marked s is may =
    let one : is.last.edition ≡ One = one_before is.last.edition (subst (λ (e : Edition). MayFollow is.last.edition e) may is.edition) in
    let led : last_edition One h.entries ≡ One = sym (edition_led (fits file) [] _ h.entries is.last is.legal) ∙ one in
    let now : bodies_from One h.entries Two ≡ bodies_from One h.entries h.edition ++ mark ∷ [] = mark_behind One h.entries led ∙ ap (λ (e : Edition). bodies_from One h.entries e ++ mark ∷ []) (sym may) in
    ap (λ (l : List (List ℕ)). file ∷ l) now

module _ (file : List ℕ) (h : History) (s : State) (is : IsHistory file h s) where
  pub history_grows : (x : Entered) (next : State) → x.entry.edition ≡ h.edition → IsNext (fits file) h.entries s x next → IsHistory file (changed h (Change.entry x)) next
  history_grows x next edition accepted =
      let at : IsNext (fits file) h.entries (in_edition h.edition is.last) x next = subst (λ (z : State). IsNext (fits file) h.entries z x next) is.state accepted in
      let from : IsNext (fits file) h.entries is.last x next = record {
        form = at.form;
        edition = subst (λ (e : Edition). MayFollow is.last.edition e) (sym edition) is.edition;
        accepted = at.accepted;
        entry = at.entry;
        fitting = at.fitting;
        after = at.after;
      } in
      let now : next.edition ≡ h.edition = ap (λ (z : State). z.edition) at.after ∙ edition_after is.last x ∙ edition in
      record {
        settings = is.settings;
        read = is.read;
        last = next;
        legal = led_on (fits file) [] _ h.entries is.last next x is.legal from;
        edition = subst (λ (e : Edition). MayFollow e h.edition) (sym now) (follows_itself h.edition);
        state = in_own h.edition next now;
      }

  pub history_marked : h.edition ≡ One → IsHistory file (changed h Change.marked) (in_edition Two s)
  history_marked one = record {
    settings = is.settings;
    read = is.read;
    last = is.last;
    legal = is.legal;
    edition = two_follows is.last.edition;
    state = ap (in_edition Two) is.state;
  }
