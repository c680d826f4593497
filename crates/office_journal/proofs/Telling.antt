-- The bodies of a history tell the history.
use Rattle.std.proofs.Common.{◌≡◌, ◌≢◌, ℕ, Bool, List, [], ◌∷◌, ◌++◌, Result, Ok, refl, sym, ◌∙◌, ap, subst, append_assoc}
use Rattle.std.proofs.lemmas.List.{append-nil}
use Rattle.hazard_types.specs.declared.codes.Class.TheVariants.{O}
use Rattle.office_types.specs.declared.request.Edition.{Edition}
use Rattle.office_types.specs.declared.request.Edition.TheVariants.{One, Two}
use Rattle.desk_settings.specs.declared.fault.SettingsFault.{SettingsFault}
use Rattle.desk_settings.specs.declared.settings.Settings.{Settings}
use Rattle.office_core.specs.Histories.{Entered, IsNext, LeadFrom, MayFollow}
use Rattle.office_core.specs.State.{State, first_state, in_edition}
use Rattle.office_core.specs.Step.{state_after}
use Rattle.office_journal.specs.Bodies.{bodies_from, entry_body, mark, marks}
use Rattle.office_journal.specs.Changes.{Change, MayChange, body_of}
use Rattle.office_journal.specs.Damage.{AreBodies}
use Rattle.office_journal.specs.Histories.{History, IsHistory, bodies, fits}
use Rattle.office_journal.specs.Parts.{Enters}
use Rattle.office_journal.proofs.Growing.{edition_after, follows_itself, unmarked}
use Rattle.office_journal.proofs.Parting.{AreLines, AreOnce, entered_once, not_mark}

heads : {X : Type 0} (a b : X) (xs ys : List X) → a ∷ xs ≡ b ∷ ys → (a ≡ b) × (xs ≡ ys)
heads a b xs ys e = (cc, cc)

not_empty : {X : Type 0} (a : X) (xs : List X) → a ∷ xs ≡ [] → ⊥
not_empty a xs e = cc

-- the edition of the first of entries, or else the one of now
abbrev first_edition : List Entered → Edition → Edition
first_edition [] now = now
first_edition (x ∷ entries) now = x.entry.edition

one_leads : (e : Edition) → MayFollow One e
one_leads One = tt
one_leads Two = tt

-- ---- one body at the front

-- the bodies of two lists of entries are the same: so are the editions and the first bodies
same_front : (before e f : Edition) (a b : List ℕ) (xs ys : List (List ℕ)) → MayFollow before e → MayFollow before f → a ≢ mark → b ≢ mark
    → marks before e ++ (a ∷ xs) ≡ marks before f ++ (b ∷ ys) → (e ≡ f) × (a ≡ b) × (xs ≡ ys)
same_front One One One a b xs ys m n p q same = let h = heads a b xs ys same in (refl, h.0, h.1)
same_front One One Two a b xs ys m n p q same = absurd (p (heads a mark xs (b ∷ ys) same).0)
same_front One Two One a b xs ys m n p q same = absurd (q (sym (heads mark b (a ∷ xs) ys same).0))
same_front One Two Two a b xs ys m n p q same = let h = heads a b xs ys (heads mark mark (a ∷ xs) (b ∷ ys) same).1 in (refl, h.0, h.1)
same_front Two One f a b xs ys m n p q same = absurd m
same_front Two Two One a b xs ys m n p q same = absurd n
same_front Two Two Two a b xs ys m n p q same = let h = heads a b xs ys same in (refl, h.0, h.1)

-- no body of an entry stands where there is none
no_front : (before now e : Edition) (b : List ℕ) (bs : List (List ℕ)) → b ≢ mark → marks before now ≡ marks before e ++ (b ∷ bs) → ⊥
no_front One One One b bs p same = not_empty b bs (sym same)
no_front One One Two b bs p same = not_empty mark (b ∷ bs) (sym same)
no_front One Two One b bs p same = p (sym (heads mark b [] bs same).0)
no_front One Two Two b bs p same = not_empty b bs (sym (heads mark mark [] (b ∷ bs) same).1)
no_front Two One One b bs p same = not_empty b bs (sym same)
no_front Two One Two b bs p same = not_empty b bs (sym same)
no_front Two Two One b bs p same = not_empty b bs (sym same)
no_front Two Two Two b bs p same = not_empty b bs (sym same)

-- ---- entries at one state

module _ (fit : List Entered → Entered → Bool) where
  enters_of : (earlier : List Entered) (s next : State) (x : Entered) → IsNext fit earlier s x next → Enters (in_edition x.entry.edition s) x
  enters_of earlier s next x is = record { form = is.form; accepted = is.accepted; entry = is.entry }

  -- What is left of one list of entries behind another one, where the bodies of the one begin with those of the other.
  record Beyond (earlier hs gs : List Entered) (after last : State) (now final : Edition) (rest : List (List ℕ)) : Type 0 where
    tail : List Entered
    are : gs ≡ hs ++ tail
    led : LeadFrom fit (earlier ++ hs) after tail last
    may : MayFollow now (first_edition tail final)
    left : bodies_from now tail final ≡ rest

  first_may : (earlier gs : List Entered) (s last : State) (before final : Edition) → s.edition ≡ before → LeadFrom fit earlier s gs last → MayFollow last.edition final → MayFollow before (first_edition gs final)
  first_may earlier [] s last before final at led may = subst (λ (e : Edition). MayFollow e final) (ap (λ (z : State). z.edition) led ∙ at) may
  first_may earlier (x ∷ gs) s last before final at (next, is, rest) may = subst (λ (e : Edition). MayFollow e x.entry.edition) at is.edition

  -- nothing stands before: all is left
  all_left : (earlier gs : List Entered) (s after last : State) (before final : Edition) (rest : List (List ℕ)) → s.edition ≡ before → after ≡ s
      → LeadFrom fit earlier s gs last → MayFollow last.edition final → bodies_from before gs final ≡ rest → Beyond earlier [] gs after last before final rest
  all_left earlier gs s after last before final rest at from led may same = record {
    tail = gs;
    are = refl;
    led = subst (λ (l : List Entered). LeadFrom fit l after gs last) (sym (append-nil earlier)) (subst (λ (z : State). LeadFrom fit earlier z gs last) (sym from) led);
    may = first_may earlier gs s last before final at led may;
    left = same;
  }

  -- only the mark stands before
  behind_mark : (earlier gs : List Entered) (s after last : State) (final : Edition) (rest : List (List ℕ)) → s.edition ≡ One → after ≡ s
      → LeadFrom fit earlier s gs last → MayFollow last.edition final → bodies_from One gs final ≡ mark ∷ rest → Beyond earlier [] gs after last Two final rest
  behind_mark earlier [] s after last One rest at from led may same = absurd (not_empty mark rest (sym same))
  behind_mark earlier [] s after last Two rest at from led may same = record {
    tail = [];
    are = refl;
    led = led ∙ sym from;
    may = tt;
    left = (heads mark mark [] rest same).1;
  }
  behind_mark earlier (x ∷ gs) s after last final rest at from led may same = by x.entry.edition refl
    where
      by : (e : Edition) → x.entry.edition ≡ e → Beyond earlier [] (x ∷ gs) after last Two final rest
      by One is = absurd (not_mark x (heads (entry_body x) mark (bodies_from x.entry.edition gs final) rest (subst (λ (e : Edition). marks One e ++ (entry_body x ∷ bodies_from x.entry.edition gs final) ≡ mark ∷ rest) is same)).0)
      by Two is = record {
        tail = x ∷ gs;
        are = refl;
        led = subst (λ (l : List Entered). LeadFrom fit l after (x ∷ gs) last) (sym (append-nil earlier)) (subst (λ (z : State). LeadFrom fit earlier z (x ∷ gs) last) (sym from) led);
        may = subst (λ (e : Edition). MayFollow Two e) (sym is) tt;
        left =
            ap (λ (e : Edition). marks Two e ++ (entry_body x ∷ bodies_from x.entry.edition gs final)) is
            ∙ (heads mark mark (entry_body x ∷ bodies_from x.entry.edition gs final) rest (subst (λ (e : Edition). marks One e ++ (entry_body x ∷ bodies_from x.entry.edition gs final) ≡ mark ∷ rest) is same)).1;
      }

  module _ (lines : AreLines) (once : AreOnce) where
    -- entries whose bodies begin with those of other entries begin with these
    beyond : (before : Edition) (earlier hs gs : List Entered) (s after last : State) (now final : Edition) (rest : List (List ℕ)) → s.edition ≡ before
        → LeadFrom fit earlier s hs after → MayFollow after.edition now → LeadFrom fit earlier s gs last → MayFollow last.edition final
        → bodies_from before gs final ≡ bodies_from before hs now ++ rest → Beyond earlier hs gs after last now final rest
    beyond One earlier [] gs s after last One final rest at led may its last_may same = all_left earlier gs s after last One final rest at led its last_may same
    beyond One earlier [] gs s after last Two final rest at led may its last_may same = behind_mark earlier gs s after last final rest at led its last_may same
    beyond Two earlier [] gs s after last Two final rest at led may its last_may same = all_left earlier gs s after last Two final rest at led its last_may same
    beyond Two earlier [] gs s after last One final rest at led may its last_may same =
        absurd (subst (λ (e : Edition). MayFollow e One) (ap (λ (z : State). z.edition) led ∙ at) may)
    beyond before earlier (y ∷ hs) [] s after last now final rest at led may its last_may same =
        absurd (no_front before final y.entry.edition (entry_body y) (bodies_from y.entry.edition hs now ++ rest) (not_mark y) (same ∙ append_assoc (marks before y.entry.edition) (entry_body y ∷ bodies_from y.entry.edition hs now) rest))
    beyond before earlier (y ∷ hs) (x ∷ gs) s after last now final rest at (n, first, led) may (m, head, its) last_may same =
        let front = same_front before x.entry.edition y.entry.edition (entry_body x) (entry_body y) (bodies_from x.entry.edition gs final) (bodies_from y.entry.edition hs now ++ rest)
        (subst (λ (e : Edition). MayFollow e x.entry.edition) at head.edition) (subst (λ (e : Edition). MayFollow e y.entry.edition) at first.edition) (not_mark x) (not_mark y)
        (same ∙ append_assoc (marks before y.entry.edition) (entry_body y ∷ bodies_from y.entry.edition hs now) rest) in
        let enters : Enters (in_edition y.entry.edition s) x = subst (λ (e : Edition). Enters (in_edition e s) x) front.0 (enters_of earlier s m x head) in
        let one : x ≡ y = entered_once lines once (in_edition y.entry.edition s) x y enters (enters_of earlier s n y first) front.1 in
        let from : LeadFrom fit (earlier ++ x ∷ []) (state_after (in_edition x.entry.edition s) x.entry x.made) gs last = subst (λ (z : State). LeadFrom fit (earlier ++ x ∷ []) z gs last) head.after its in
        let goes : LeadFrom fit (earlier ++ y ∷ []) n gs last =
        subst (λ (z : State). LeadFrom fit (earlier ++ y ∷ []) z gs last) (sym first.after)
        (subst (λ (z : Entered). LeadFrom fit (earlier ++ z ∷ []) (state_after (in_edition z.entry.edition s) z.entry z.made) gs last) one from) in
        let more = beyond y.entry.edition (earlier ++ y ∷ []) hs gs n after last now final rest (ap (λ (z : State). z.edition) first.after ∙ edition_after s y)
        led may goes last_may (ap (λ (e : Edition). bodies_from e gs final) (sym front.0) ∙ front.2) in
        record {
          tail = more.tail;
          are = ap (λ (z : Entered). z ∷ gs) one ∙ ap (λ (l : List Entered). y ∷ l) more.are;
          led = subst (λ (l : List Entered). LeadFrom fit l after more.tail last) (append_assoc earlier (y ∷ []) hs) more.led;
          may = more.may;
          left = more.left;
        }

-- ---- histories

settings_is : (a b : Settings) → ◌≡◌ {A = Result Settings SettingsFault} (Ok a) (Ok b) → a ≡ b
settings_is a b e = cc

history_is : (h g : History) → h.entries ≡ g.entries → h.edition ≡ g.edition → h ≡ g
history_is h g entries edition =
    ap (λ (l : List Entered). record { entries = l; edition = h.edition }) entries ∙ ap (λ (e : Edition). record { entries = g.entries; edition = e }) edition

nothing_left : (now final : Edition) (tail : List Entered) → MayFollow now (first_edition tail final) → bodies_from now tail final ≡ [] → (tail ≡ []) × (now ≡ final)
nothing_left One One [] may none = (refl, refl)
nothing_left One Two [] may none = absurd (not_empty mark [] none)
nothing_left Two One [] may none = absurd may
nothing_left Two Two [] may none = (refl, refl)
nothing_left now final (x ∷ tail) may none = absurd (some_left now x.entry.edition (entry_body x) (bodies_from x.entry.edition tail final) none)
  where
    some_left : (now e : Edition) (b : List ℕ) (bs : List (List ℕ)) → marks now e ++ (b ∷ bs) ≡ [] → ⊥
    some_left One One b bs none = not_empty b bs none
    some_left One Two b bs none = not_empty mark (b ∷ bs) none
    some_left Two One b bs none = not_empty b bs none
    some_left Two Two b bs none = not_empty b bs none

-- one body is left: the mark, or the body of an entry
record IsOneLeft (now final : Edition) (x : Entered) (tail : List Entered) (body : List ℕ) : Type 0 where
  edition : now ≡ x.entry.edition
  is : entry_body x ≡ body
  rest : bodies_from x.entry.edition tail final ≡ []

one_left : (now final : Edition) (x : Entered) (tail : List Entered) (body : List ℕ) (e : Edition) → x.entry.edition ≡ e → MayFollow now e → bodies_from now (x ∷ tail) final ≡ body ∷ [] → IsOneLeft now final x tail body
one_left One final x tail body One is may same =
    let h = heads (entry_body x) body (bodies_from x.entry.edition tail final) [] (subst (λ (e : Edition). marks One e ++ (entry_body x ∷ bodies_from x.entry.edition tail final) ≡ body ∷ []) is same) in
    record { edition = sym is; is = h.0; rest = h.1 }
one_left One final x tail body Two is may same =
    absurd (not_empty (entry_body x) (bodies_from x.entry.edition tail final)
    (heads mark body (entry_body x ∷ bodies_from x.entry.edition tail final) [] (subst (λ (e : Edition). marks One e ++ (entry_body x ∷ bodies_from x.entry.edition tail final) ≡ body ∷ []) is same)).1)
one_left Two final x tail body One is may same = absurd may
one_left Two final x tail body Two is may same =
    let h = heads (entry_body x) body (bodies_from x.entry.edition tail final) [] (subst (λ (e : Edition). marks Two e ++ (entry_body x ∷ bodies_from x.entry.edition tail final) ≡ body ∷ []) is same) in
    record { edition = sym is; is = h.0; rest = h.1 }

mark_left : (now final : Edition) (body : List ℕ) → MayFollow now final → marks now final ≡ body ∷ [] → (now ≡ One) × (final ≡ Two) × (mark ≡ body)
mark_left One One body may same = absurd (not_empty body [] (sym same))
mark_left One Two body may same = (refl, refl, (heads mark body [] [] same).0)
mark_left Two One body may same = absurd may
mark_left Two Two body may same = absurd (not_empty body [] (sym same))

-- a change that a history may take has this body
pub record MayGrow (file : List ℕ) (h : History) (body : List ℕ) : Type 0 where
  pub change : Change
  pub may : MayChange file h change
  pub is : body_of change ≡ body

by_entry : (file : List ℕ) (h : History) (s : State) (is : IsHistory file h s) (final : Edition) (last : State) (x : Entered) (tail : List Entered) (body : List ℕ)
    → LeadFrom (fits file) h.entries is.last (x ∷ tail) last → MayFollow h.edition x.entry.edition → bodies_from h.edition (x ∷ tail) final ≡ body ∷ [] → MayGrow file h body
by_entry file h s is final last x tail body (next, first, led) may same =
    let one = one_left h.edition final x tail body x.entry.edition refl may same in
    let from : IsNext (fits file) h.entries (in_edition h.edition is.last) x next = record {
      form = first.form;
      edition = may;
      accepted = first.accepted;
      entry = first.entry;
      fitting = first.fitting;
      after = first.after;
    } in
    record {
      change = Change.entry x;
      may = record {
        state = s;
        history = is;
        edition = sym one.edition;
        next = next;
        accepted = subst (λ (z : State). IsNext (fits file) h.entries z x next) (sym is.state) from;
      };
      is = one.is;
    }

grown : (file : List ℕ) (h : History) (s : State) (is : IsHistory file h s) (final : Edition) (last : State) (tail : List Entered) (body : List ℕ)
    → LeadFrom (fits file) h.entries is.last tail last → MayFollow h.edition (first_edition tail final) → bodies_from h.edition tail final ≡ body ∷ [] → MayGrow file h body
grown file h s is final last [] body led may same = let m = mark_left h.edition final body may same in record { change = Change.marked; may = m.0; is = m.2 }
grown file h s is final last (x ∷ tail) body led may same = by_entry file h s is final last x tail body led may same

module _ (lines : AreLines) (once : AreOnce) where
  -- another history of the same settings' file whose bodies go on
  history_beyond : (file : List ℕ) (h g : History) (s t : State) (rest : List (List ℕ)) (is : IsHistory file h s) (its : IsHistory file g t) → bodies_from One g.entries g.edition ≡ bodies_from One h.entries h.edition ++ rest
      → Beyond (fits file) [] h.entries g.entries is.last its.last h.edition g.edition rest
  history_beyond file h g s t rest is its same =
      let settings : its.settings ≡ is.settings = settings_is its.settings is.settings (sym its.read ∙ is.read) in
      beyond (fits file) lines once One [] h.entries g.entries (first_state is.settings O One) is.last its.last h.edition g.edition rest refl is.legal is.edition
      (subst (λ (z : Settings). LeadFrom (fits file) [] (first_state z O One) g.entries its.last) settings its.legal) its.edition same

  one_history : (file : List ℕ) (h g : History) (s t : State) → IsHistory file h s → IsHistory file g t → bodies_from One h.entries h.edition ≡ bodies_from One g.entries g.edition → h ≡ g
  one_history file h g s t is its same =
      let all : bodies_from One g.entries g.edition ≡ bodies_from One h.entries h.edition ++ [] = sym same ∙ sym (append-nil _) in
      let far = history_beyond file h g s t [] is its all in
      let none = nothing_left h.edition g.edition far.tail far.may far.left in
      history_is h g (sym (far.are ∙ ap (λ (l : List Entered). h.entries ++ l) none.0 ∙ append-nil h.entries)) none.1

  pub histories_once : (file other : List ℕ) (h g : History) (s t : State) → IsHistory file h s → IsHistory other g t → bodies file h ≡ bodies other g → (file ≡ other) × (h ≡ g)
  histories_once file other h g s t is its same =
      let both = heads file other (bodies_from One h.entries h.edition) (bodies_from One g.entries g.edition) same in
      (both.0, one_history file h g s t is (subst (λ (f : List ℕ). IsHistory f g t) (sym both.0) its) both.1)

  -- where the bodies of a history and one more are those of a history, this is the one history with a change
  pub bodies_grew : (file : List ℕ) (h : History) (s : State) (body : List ℕ) → IsHistory file h s → AreBodies (bodies file h ++ body ∷ []) → MayGrow file h body
  bodies_grew file h s body is all =
      let both = heads file all.file (bodies_from One h.entries h.edition ++ body ∷ []) (bodies_from One all.history.entries all.history.edition) all.are in
      let its : IsHistory file all.history all.state = subst (λ (f : List ℕ). IsHistory f all.history all.state) (sym both.0) all.legal in
      let far = history_beyond file h all.history s all.state (body ∷ []) is its (sym both.1) in
      grown file h s is all.history.edition its.last far.tail body far.led far.may far.left

-- ---- the first bodies of a history

module _ (fit : List Entered → Entered → Bool) where
  -- entries with these bodies
  record Front (earlier : List Entered) (s : State) (before : Edition) (front : List (List ℕ)) : Type 0 where
    entries : List Entered
    last : State
    now : Edition
    led : LeadFrom fit earlier s entries last
    may : MayFollow last.edition now
    are : bodies_from before entries now ≡ front

  no_entries : (earlier : List Entered) (s : State) (before : Edition) → s.edition ≡ before → Front earlier s before []
  no_entries earlier s before at = record { entries = []; last = s; now = before; led = refl; may = subst (λ (e : Edition). MayFollow e before) (sym at) (follows_itself before); are = unmarked before }

  mark_alone : (earlier : List Entered) (s : State) → s.edition ≡ One → Front earlier s One (mark ∷ [])
  mark_alone earlier s at = record { entries = []; last = s; now = Two; led = refl; may = subst (λ (e : Edition). MayFollow e Two) (sym at) tt; are = refl }

  entry_first : (earlier : List Entered) (s next : State) (before : Edition) (x : Entered) (front : List (List ℕ)) → IsNext fit earlier s x next
      → Front (earlier ++ x ∷ []) next x.entry.edition front → Front earlier s before (marks before x.entry.edition ++ (entry_body x ∷ front))
  entry_first earlier s next before x front first f = record {
    entries = x ∷ f.entries;
    last = f.last;
    now = f.now;
    led = (next, first, f.led);
    may = f.may;
    are = ap (λ (l : List (List ℕ)). marks before x.entry.edition ++ (entry_body x ∷ l)) f.are;
  }

  module _ (earlier : List Entered) (s next : State) (x : Entered) (first : IsNext fit earlier s x next) (more behind : List (List ℕ))
      (rec : (front : List (List ℕ)) → more ≡ front ++ behind → Front (earlier ++ x ∷ []) next x.entry.edition front) where
    -- the body of the entry comes first
    body_first : (before e : Edition) (f : List ℕ) (front : List (List ℕ)) → x.entry.edition ≡ e → marks before e ≡ [] → entry_body x ∷ more ≡ f ∷ (front ++ behind) → Front earlier s before (f ∷ front)
    body_first before e f front is none same =
        let h = heads (entry_body x) f more (front ++ behind) same in
        let stands : marks before x.entry.edition ++ (entry_body x ∷ front) ≡ f ∷ front =
        ap (λ (d : Edition). marks before d ++ (entry_body x ∷ front)) is ∙ ap (λ (l : List (List ℕ)). l ++ (entry_body x ∷ front)) none ∙ ap (λ (b : List ℕ). b ∷ front) h.0 in
        subst (λ (l : List (List ℕ)). Front earlier s before l) stands (entry_first earlier s next before x front first (rec front h.1))

    -- the mark comes first
    mark_first : (front : List (List ℕ)) → s.edition ≡ One → x.entry.edition ≡ Two → entry_body x ∷ more ≡ front ++ behind → Front earlier s One (mark ∷ front)
    mark_first [] at is same = mark_alone earlier s at
    mark_first (f ∷ front) at is same =
        let h = heads (entry_body x) f more (front ++ behind) same in
        let stands : marks One x.entry.edition ++ (entry_body x ∷ front) ≡ mark ∷ (f ∷ front) =
        ap (λ (d : Edition). marks One d ++ (entry_body x ∷ front)) is ∙ ap (λ (b : List ℕ). mark ∷ (b ∷ front)) h.0 in
        subst (λ (l : List (List ℕ)). Front earlier s One l) stands (entry_first earlier s next One x front first (rec front h.1))

    front_step : (before e : Edition) (f : List ℕ) (front : List (List ℕ)) → s.edition ≡ before → x.entry.edition ≡ e → marks before e ++ (entry_body x ∷ more) ≡ f ∷ (front ++ behind) → Front earlier s before (f ∷ front)
    front_step One One f front at is same = body_first One One f front is refl same
    front_step One Two f front at is same =
        let h = heads mark f (entry_body x ∷ more) (front ++ behind) same in
        subst (λ (b : List ℕ). Front earlier s One (b ∷ front)) h.0 (mark_first front at is h.1)
    front_step Two One f front at is same = body_first Two One f front is refl same
    front_step Two Two f front at is same = body_first Two Two f front is refl same

  left_nil : (xs ys : List (List ℕ)) → [] ≡ xs ++ ys → [] ≡ xs
  left_nil [] ys e = refl
  left_nil (a ∷ xs) ys e = absurd (not_empty a (xs ++ ys) (sym e))

  -- only the mark stands there
  mark_only : (earlier : List Entered) (s : State) (before now : Edition) (f : List ℕ) (front behind : List (List ℕ)) → s.edition ≡ before → marks before now ≡ f ∷ (front ++ behind) → Front earlier s before (f ∷ front)
  mark_only earlier s One One f front behind at same = absurd (not_empty f (front ++ behind) (sym same))
  mark_only earlier s One Two f front behind at same =
      let h = heads mark f [] (front ++ behind) same in
      let stands : mark ∷ [] ≡ f ∷ front = ap (λ (l : List (List ℕ)). mark ∷ l) (left_nil front behind h.1) ∙ ap (λ (b : List ℕ). b ∷ front) h.0 in
      subst (λ (l : List (List ℕ)). Front earlier s One l) stands (mark_alone earlier s at)
  mark_only earlier s Two One f front behind at same = absurd (not_empty f (front ++ behind) (sym same))
  mark_only earlier s Two Two f front behind at same = absurd (not_empty f (front ++ behind) (sym same))

  fronts : (before : Edition) (earlier hs : List Entered) (s after : State) (now : Edition) (front behind : List (List ℕ)) → s.edition ≡ before
      → LeadFrom fit earlier s hs after → MayFollow after.edition now → bodies_from before hs now ≡ front ++ behind → Front earlier s before front
  fronts before earlier hs s after now [] behind at led may same = no_entries earlier s before at
  fronts before earlier [] s after now (f ∷ front) behind at led may same = mark_only earlier s before now f front behind at same
  fronts before earlier (x ∷ hs) s after now (f ∷ front) behind at (next, first, led) may same =
      front_step earlier s next x first (bodies_from x.entry.edition hs now) behind
      (λ front same. fronts x.entry.edition (earlier ++ x ∷ []) hs next after now front behind (ap (λ (z : State). z.edition) first.after ∙ edition_after s x) led may same)
      before x.entry.edition f front at refl same

-- the first bodies of a history are those of a history
pub front_is : (file : List ℕ) (h : History) (s : State) (body : List ℕ) (front behind : List (List ℕ)) → IsHistory file h s → bodies file h ≡ body ∷ (front ++ behind) → AreBodies (body ∷ front)
front_is file h s body front behind is same =
    let both = heads file body (bodies_from One h.entries h.edition) (front ++ behind) same in
    let f = fronts (fits file) One [] h.entries (first_state is.settings O One) is.last h.edition front behind refl is.legal is.edition both.1 in
    record {
      file = file;
      history = record { entries = f.entries; edition = f.now };
      state = in_edition f.now f.last;
      legal = record { settings = is.settings; read = is.read; last = f.last; legal = f.led; edition = f.may; state = refl };
      are = ap (λ (b : List ℕ). b ∷ front) (sym both.0) ∙ ap (λ (l : List (List ℕ)). file ∷ l) (sym f.are);
    }

-- any first bodies of a history, one at least
pub prefix_is : (file : List ℕ) (h : History) (s : State) (before : List (List ℕ)) (body : List ℕ) (behind : List (List ℕ)) → IsHistory file h s → bodies file h ≡ before ++ body ∷ behind → AreBodies (before ++ body ∷ [])
prefix_is file h s [] body behind is same = front_is file h s body [] behind is same
prefix_is file h s (first ∷ before) body behind is same =
    front_is file h s first (before ++ body ∷ []) behind is (same ∙ ap (λ (l : List (List ℕ)). first ∷ l) (sym (append_assoc before (body ∷ []) behind)))
