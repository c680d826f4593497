-- Histories behind what was given, and what crashes leave of them.
use Rattle.std.proofs.Common.{ℕ, ◌≡◌, ◌⊎◌, inl, inr, ⊎_elim, List, [], ◌∷◌, ◌++◌, refl, ap, sym, ◌∙◌, subst}
use Rattle.std.proofs.lemmas.List.{append-nil, append_assoc}
use Rattle.office_types.specs.declared.request.Edition.{Edition}
use Rattle.office_types.specs.declared.request.Edition.TheVariants.{One, Two}
use Rattle.office_core.specs.Histories.{Entered, MayFollow}
use Rattle.office_journal.specs.Changes.{Change, Leaves}
use Rattle.office_journal.specs.Given.{Gave, GivesNext, IsFront, MayPend, entries_given, history_after, pends_after, with_entry, with_given}
use Rattle.office_journal.specs.Grown.{Follows}
use Rattle.office_journal.specs.Histories.{History}
use Rattle.office_journal.proofs.Carrying.{leaves_less}
use Rattle.office_journal.proofs.Growing.{follows_itself, two_follows}

abbrev pub Any : Change → Type 0
Any change = Unit {0}

pub loosened : (file : List ℕ) (h : History) (P : Change → Type 0) (c : List ℕ) → Leaves file h P c → Leaves file h Any c
loosened file h P c (inl image) = inl image
loosened file h P c (inr more) = inr (more.0, tt, more.2)

-- ---- what was given, and more

pub behind_append : (h : History) (xs ys : List Gave) → history_after h (xs ++ ys) ≡ history_after (history_after h xs) ys
behind_append h [] ys = refl
behind_append h (x ∷ xs) ys = behind_append (with_given h x) xs ys

pub pends_append : (may : Change → Type 0) (xs ys : List Gave) (change : Change) → MayPend (MayPend may xs) ys change → MayPend may (xs ++ ys) change
pends_append may [] ys change pends = pends
pends_append may (x ∷ xs) ys change pends = pends_append (pends_after may x) xs ys change pends

after_weaker : (may more : Change → Type 0) (x : Gave) → ((change : Change) → may change → more change) → (change : Change) → pends_after may x change → pends_after more x change
after_weaker may more Gave.nothing f change pends = f change pends
after_weaker may more (Gave.added this) f change pends = absurd pends
after_weaker may more (Gave.faulted this) f change pends = ⊎_elim (λ was. inl (f change was)) (λ is. inr is) pends

pub pends_weaker : (may more : Change → Type 0) (xs : List Gave) → ((change : Change) → may change → more change) → (change : Change) → MayPend may xs change → MayPend more xs change
pends_weaker may more [] f change pends = f change pends
pends_weaker may more (x ∷ xs) f change pends = pends_weaker (pends_after may x) (pends_after more x) xs (after_weaker may more x f) change pends

entry_first : (x : Gave) (es more : List Entered) → with_entry x (es ++ more) ≡ with_entry x es ++ more
entry_first Gave.nothing es more = refl
entry_first (Gave.added (Change.entry e)) es more = refl
entry_first (Gave.added Change.marked) es more = refl
entry_first (Gave.faulted change) es more = refl

pub entries_given_append : (xs ys : List Gave) → entries_given (xs ++ ys) ≡ entries_given xs ++ entries_given ys
entries_given_append [] ys = refl
entries_given_append (x ∷ xs) ys = ap (with_entry x) (entries_given_append xs ys) ∙ entry_first x (entries_given xs) (entries_given ys)

entry_behind : (h : History) (x : Gave) (rest : List Entered) → (with_given h x).entries ++ rest ≡ h.entries ++ with_entry x rest
entry_behind h Gave.nothing rest = refl
entry_behind h (Gave.added (Change.entry e)) rest = append_assoc h.entries (e ∷ []) rest
entry_behind h (Gave.added Change.marked) rest = refl
entry_behind h (Gave.faulted change) rest = refl

pub entries_behind : (h : History) (xs : List Gave) → (history_after h xs).entries ≡ h.entries ++ entries_given xs
entries_behind h [] = sym (append-nil h.entries)
entries_behind h (x ∷ xs) = entries_behind (with_given h x) xs ∙ entry_behind h x (entries_given xs)

-- ---- later histories

follows_both : (a b c : Edition) → MayFollow a b → MayFollow b c → MayFollow a c
follows_both One b c first second = follows_one c
  where
    follows_one : (e : Edition) → MayFollow One e
    follows_one One = tt
    follows_one Two = tt
follows_both Two One c first second = absurd first
follows_both Two Two c first second = second

edition_with : (h : History) (x : Gave) → MayFollow h.edition (with_given h x).edition
edition_with h Gave.nothing = follows_itself h.edition
edition_with h (Gave.added (Change.entry e)) = follows_itself h.edition
edition_with h (Gave.added Change.marked) = two_follows h.edition
edition_with h (Gave.faulted change) = follows_itself h.edition

edition_behind : (h : History) (xs : List Gave) → MayFollow h.edition (history_after h xs).edition
edition_behind h [] = follows_itself h.edition
edition_behind h (x ∷ xs) = follows_both h.edition (with_given h x).edition (history_after (with_given h x) xs).edition (edition_with h x) (edition_behind (with_given h x) xs)

pub follows_given : (h : History) (xs : List Gave) → Follows h (history_after h xs)
follows_given h xs = record { entries = entries_given xs; behind = entries_behind h xs; edition = edition_behind h xs }

pub follows_self : (h : History) → Follows h h
follows_self h = record { entries = []; behind = sym (append-nil h.entries); edition = follows_itself h.edition }

-- ---- fronts

-- before anything was given
pub at_start : (may : Change → Type 0) (given : List Gave) (file : List ℕ) (h : History) (c : List ℕ) → Leaves file h (λ change. may change ⊎ GivesNext given change) c → IsFront may given [] file h c
at_start may given file h c leaves = record { more = []; rest = given; are = refl; left = leaves }

next_longer : (xs ys : List Gave) (change : Change) → GivesNext xs change → GivesNext (xs ++ ys) change
next_longer [] ys change never = absurd never
next_longer (x ∷ xs) ys change is = is

-- with more behind it
pub longer : (may : Change → Type 0) (xs ys held : List Gave) (file : List ℕ) (h : History) (c : List ℕ) → IsFront may xs held file h c → IsFront may (xs ++ ys) held file h c
longer may xs ys held file h c front =
    let so = held ++ front.more in
    record {
      more = front.more;
      rest = front.rest ++ ys;
      are = ap (λ (l : List Gave). l ++ ys) front.are ∙ append_assoc so front.rest ys;
      left = leaves_less file (history_after h so) (λ change. MayPend may so change ⊎ GivesNext front.rest change) (λ change. MayPend may so change ⊎ GivesNext (front.rest ++ ys) change)
          (λ change is. ⊎_elim (λ was. inl was) (λ next. inr (next_longer front.rest ys change next)) is) c front.left;
    }

-- with more before it
pub sooner : (may : Change → Type 0) (xs ys held : List Gave) (file : List ℕ) (h : History) (c : List ℕ) → IsFront (MayPend may xs) ys held file (history_after h xs) c → IsFront may (xs ++ ys) (xs ++ held) file h c
sooner may xs ys held file h c front =
    let so = held ++ front.more in
    let rest = front.rest in
    let mid = history_after h xs in
    let less : Leaves file (history_after mid so) (λ change. MayPend may (xs ++ so) change ⊎ GivesNext rest change) c =
    leaves_less file (history_after mid so) (λ change. MayPend (MayPend may xs) so change ⊎ GivesNext rest change) (λ change. MayPend may (xs ++ so) change ⊎ GivesNext rest change)
    (λ change is. ⊎_elim (λ was. inl (pends_append may xs so change was)) (λ next. inr next) is) c front.left in
    let all : Leaves file (history_after h (xs ++ so)) (λ change. MayPend may (xs ++ so) change ⊎ GivesNext rest change) c =
    subst (λ (g : History). Leaves file g (λ change. MayPend may (xs ++ so) change ⊎ GivesNext rest change) c) (sym (behind_append h xs so)) less in
    record {
      more = front.more;
      rest = rest;
      are = ap (λ (l : List Gave). xs ++ l) front.are ∙ sym (append_assoc xs so rest) ∙ ap (λ (l : List Gave). l ++ rest) (sym (append_assoc xs held front.more));
      left = subst (λ (l : List Gave). Leaves file (history_after h l) (λ change. MayPend may l change ⊎ GivesNext rest change) c) (sym (append_assoc xs held front.more)) all;
    }

-- one that holds more holds less
pub holding_less : (may : Change → Type 0) (given held more : List Gave) (file : List ℕ) (h : History) (c : List ℕ) → IsFront may given (held ++ more) file h c → IsFront may given held file h c
holding_less may given held more file h c front =
    let rest = front.rest in
    record {
      more = more ++ front.more;
      rest = rest;
      are = front.are ∙ ap (λ (l : List Gave). l ++ rest) (append_assoc held more front.more);
      left = subst (λ (l : List Gave). Leaves file (history_after h l) (λ change. MayPend may l change ⊎ GivesNext rest change) c) (append_assoc held more front.more) front.left;
    }

-- where more may have been pending before
pub front_weaker : (may more : Change → Type 0) (given held : List Gave) (file : List ℕ) (h : History) (c : List ℕ) → ((change : Change) → may change → more change) → IsFront may given held file h c → IsFront more given held file h c
front_weaker may more given held file h c f front =
    let so = held ++ front.more in
    record {
      more = front.more;
      rest = front.rest;
      are = front.are;
      left = leaves_less file (history_after h so) (λ change. MayPend may so change ⊎ GivesNext front.rest change) (λ change. MayPend more so change ⊎ GivesNext front.rest change)
          (λ change is. ⊎_elim (λ was. inl (pends_weaker may more so f change was)) (λ next. inr next) is) c front.left;
    }
