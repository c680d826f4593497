-- How a port deals out its doors, and takes them back.
use Rattle.std.proofs.Common.{◌≡◌, ℕ, ◌+◌, suc, zero, List, [], ◌∷◌, ◌++◌, length, drop, refl, sym, ◌∙◌, ap, arith, append_assoc, append-nil, All, slice_index_or, slice_get, unwrap_or, drop-drop, Result, Ok, Err, IsOk, is_ok, if◌then◌else◌}
use Rattle.std.proofs.lemmas.List.{get_or-drop}
use Rattle.std.proofs.lemmas.Option.{unwrap_or-slice_get}
use Rattle.desk_links.specs.LinkMemory.{LinkInMemory, DoorInMemory, IsIdle, door_with, doors_with, first_list, first_door, dealt, all_links}

first_is : (xs : List (List ℕ)) → first_list xs ≡ slice_index_or xs 0 []
first_is [] = refl
first_is (x ∷ xs) = refl

pub first_told : (xs : List (List ℕ)) (k : ℕ) → first_list (drop k xs) ≡ unwrap_or (slice_get xs k) []
first_told xs k = first_is (drop k xs) ∙ get_or-drop k xs 0 [] ∙ ap (λ (i : ℕ). slice_index_or xs i []) (let e : k + 0 ≡ k = omega arith in e) ∙ sym (unwrap_or-slice_get xs k [])

pub all_tail : {A : Type 0} (P : A → Type 0) (x : A) (xs : List A) → All P (x ∷ xs) → All P xs
all_tail P x xs all k d lt = all (suc k) d (omega (arith, lt))

pub all_none : {A : Type 0} (P : A → Type 0) → All P []
all_none P k d lt = absurd (omega (arith, lt))

pub all_more : {A : Type 0} (P : A → Type 0) (x : A) (xs : List A) → P x → All P xs → All P (x ∷ xs)
all_more P x xs first all zero d lt = first
all_more P x xs first all (suc k) d lt = all k d (omega (arith, lt))

pub all_rest : {A : Type 0} (P : A → Type 0) (xs : List A) → All P xs → All P (drop 1 xs)
all_rest P [] all = all
all_rest P (x ∷ xs) all = all_tail P x xs all

idle : (links : List LinkInMemory) (failing : List ℕ) → IsIdle (door_with links failing)
idle links failing = record { none_given = refl; none_returned = refl; no_fault = refl; no_link = refl }

pub idle_doors : (links : List (List LinkInMemory)) (failing : List (List ℕ)) → All IsIdle (doors_with links failing)
idle_doors [] failing = all_none IsIdle
idle_doors (first ∷ links) failing = all_more IsIdle (door_with first (first_list failing)) (doors_with links (drop 1 failing)) (idle first (first_list failing)) (idle_doors links (drop 1 failing))

first_idle : (doors : List DoorInMemory) → All IsIdle doors → IsIdle (first_door doors)
first_idle [] all = idle [] []
first_idle (door ∷ doors) all = all 0 door (omega arith)

pub dealt_idle : (n : ℕ) (doors : List DoorInMemory) → All IsIdle doors → All IsIdle (dealt n doors)
dealt_idle zero doors all = all_none IsIdle
dealt_idle (suc n) doors all = all_more IsIdle (first_door doors) (dealt n (drop 1 doors)) (first_idle doors all) (dealt_idle n (drop 1 doors) (all_rest IsIdle doors all))

pub dealt_length : (n : ℕ) (doors : List DoorInMemory) → length (dealt n doors) ≡ n
dealt_length zero doors = refl
dealt_length (suc n) doors = ap (λ (k : ℕ). suc k) (dealt_length n (drop 1 doors))

-- one door more was dealt out
pub dealt_on : (list : List DoorInMemory) (m n : ℕ) (whole doors rest : List DoorInMemory) (door : DoorInMemory) → m ≡ suc n → door ≡ first_door doors → rest ≡ drop 1 doors
    → list ++ dealt m doors ≡ whole → (list ++ door ∷ []) ++ dealt n rest ≡ whole
dealt_on list m n whole doors rest door e first others so =
    append_assoc list (door ∷ []) (dealt n rest)
    ∙ ap (λ (t : List DoorInMemory). list ++ t) (ap (λ (d : DoorInMemory). d ∷ dealt n rest) first ∙ ap (λ (r : List DoorInMemory). first_door doors ∷ dealt n r) others ∙ ap (λ (k : ℕ). dealt k doors) (sym e))
    ∙ so

-- one door more was made
pub made_on : (made : List DoorInMemory) (links : List LinkInMemory) (more : List (List LinkInMemory)) (failing : List (List ℕ)) (place : ℕ) (whole : List DoorInMemory) (told : List ℕ) → told ≡ first_list (drop place failing)
    → made ++ doors_with (links ∷ more) (drop place failing) ≡ whole → (made ++ door_with links told ∷ []) ++ doors_with more (drop (place + 1) failing) ≡ whole
made_on made links more failing place whole told first so =
    append_assoc made (door_with links told ∷ []) (doors_with more (drop (place + 1) failing))
    ∙ ap (λ (t : List DoorInMemory). made ++ t) (ap (λ (t : List ℕ). door_with links t ∷ doors_with more (drop (place + 1) failing)) first ∙ ap (λ (t : List (List ℕ)). door_with links (first_list (drop place failing)) ∷ doors_with more t) (next place))
    ∙ so
  where
    next : (k : ℕ) → drop (k + 1) failing ≡ drop 1 (drop k failing)
    next k = ap (λ (i : ℕ). drop i failing) (let e : k + 1 ≡ k + 1 = refl in e) ∙ sym (drop-drop 1 k failing)

-- the links of one door more
pub all_links_on : (back : List (List LinkInMemory)) (links : List LinkInMemory) → all_links (back ++ links ∷ []) ≡ all_links back ++ links
all_links_on [] links = append-nil links
all_links_on (first ∷ back) links = ap (λ (t : List LinkInMemory). first ++ t) (all_links_on back links) ∙ sym (append_assoc first (all_links back) links)

-- no more doors are to be dealt out
pub dealt_end : (list : List DoorInMemory) (m : ℕ) (doors whole : List DoorInMemory) → m ≡ 0 → list ++ dealt m doors ≡ whole → list ≡ whole
dealt_end list m doors whole e so = sym (append-nil list) ∙ ap (λ (k : ℕ). list ++ dealt k doors) (sym e) ∙ so

-- a list that could be put behind another
pub put_behind : {A T E : Type 0} (r : Result T E) (old node new : List A) → IsOk r → new ≡ (if is_ok r then old ++ node else old) → new ≡ old ++ node
put_behind (Ok x) old node new ok is = is
put_behind (Err e) old node new ok is = absurd (cc)

-- all doors were made
pub made_end : (made : List DoorInMemory) (rest : List (List LinkInMemory)) (failing : List (List ℕ)) (whole : List DoorInMemory) → length rest ≡ 0 → made ++ doors_with rest failing ≡ whole → made ≡ whole
made_end made [] failing whole e so = sym (append-nil made) ∙ so
made_end made (first ∷ rest) failing whole e so = absurd (omega (arith, e))

pub first_of_all : {A : Type 0} (P : A → Type 0) (x : A) (xs : List A) → All P (x ∷ xs) → P x
first_of_all P x xs all = all 0 x (omega arith)
