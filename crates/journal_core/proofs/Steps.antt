-- The steps of an append, each a write and a sync.
use Rattle.std.proofs.Common.{◌≡◌, ℕ, ◌+◌, List, [], ◌∷◌, ◌++◌, length, Bool, true, false, Option, None, Some, refl, sym, ◌∙◌, ap, subst, arith, length-append, Result, Ok, Err, OnOk, OnErr, IfSome}
use Rattle.desk_traits.specs.Crash.{AreCrashes, Crashes, Passes, LeavesOnly}
use Rattle.desk_traits.specs.File.{Torn, HasBytes, WritesAt, Only}
use Rattle.journal_core.specs.Image.{spelled, records, Fits, Image, Half}
use Rattle.journal_core.specs.Packet.{framed}
use Rattle.journal_core.specs.Create.{IsMade}
use Rattle.journal_core.proofs.Frames.{length-spelled}
use Rattle.journal_core.specs.Journal.{Rests, StandsFor, IsStaged}
use Rattle.journal_core.proofs.Files.{torn_image, staged_half, torn_half, closed_half, opened_half, records-push}
use Rattle.desk_traits.proofs.Moments.{After, told_after, one, ends}

pub on_err : {T E P : Type 0} (r : Result T E) → P → OnErr r P
on_err (Ok x) p = tt
on_err (Err e) p = p

pub on_ok : {T E P : Type 0} (r : Result T E) → P → OnOk r P
on_ok (Ok x) p = p
on_ok (Err e) p = tt

pub only_told : (o : Option (List ℕ)) (leaves : List ℕ → Type 0) (f : List ℕ) → o ≡ Some f → Only o leaves → (c : List ℕ) → leaves c → c ≡ f
only_told None leaves f e only c left = absurd (cc)
only_told (Some o) leaves f e only c left = let is : o ≡ f = cc in only c left ∙ is

module _ {D : Type 0} (seen : D → Option (List ℕ)) (crash : D → Crashes)
    (seen_is_left : (d : D) (f : List ℕ) → seen d ≡ Some f → (crash d).may_leave f)
    (are_crashes : (d : D) → AreCrashes (crash d)) where
  abbrev Step : ℕ → ℕ → D → D → Type 0
  Step at n old new = Passes (Torn at n) (crash old) (crash new)

  -- the gate is closed again
  module _ (jd : D) (jg : ℕ) (ju : Bool) (new : D) (bodies : List (List ℕ)) where
    pub close_moments : (pending : Option (List ℕ)) → ju ≡ true → StandsFor seen crash jd jg ju bodies pending → Step jg 1 jd new → LeavesOnly (crash jd) (crash new) (Rests bodies pending)
    close_moments None unsure s step = let not : ju ≡ false = s.repair in absurd (cc)
    close_moments (Some body) unsure s step =
        one crash are_crashes jd new (Torn jg 1) (λ c. Half c bodies body) step (λ d c left torn. torn_half bodies jg s.place d c body (s.rests d left) torn)

    pub close_err : {E : Type 0} (result : Result (Unit {0}) E) (pending : Option (List ℕ)) → ju ≡ true → StandsFor seen crash jd jg ju bodies pending → WritesAt jg (46 ∷ []) (seen jd) (seen new) result → Step jg 1 jd new
        → StandsFor seen crash new jg ju bodies pending
    close_err result pending unsure s writes step =
        let a = told_after jg (46 ∷ []) (seen jd) (seen new) result s.file s.told writes in
        record { file = a.file; told = a.told; place = s.place; repair = s.repair; rests = ends crash are_crashes jd new (Rests bodies pending) (close_moments pending unsure s step) }

    pub close_ok : (E : Type 0) (x : Unit {0}) (pending : Option (List ℕ)) → ju ≡ true → StandsFor seen crash jd jg ju bodies pending → WritesAt {E = E} jg (46 ∷ []) (seen jd) (seen new) (Ok x) → Only (seen new) (crash new).may_leave
        → StandsFor seen crash new jg false bodies None
    close_ok E x None unsure s writes only = let not : ju ≡ false = s.repair in absurd (cc)
    close_ok E x (Some body) unsure s writes only =
        let a : After {E = E} jg (46 ∷ []) s.file (seen new) (Ok x) = told_after jg (46 ∷ []) (seen jd) (seen new) (Ok x) s.file s.told writes in
        let image = closed_half bodies jg s.place s.file a.file body (s.rests s.file (seen_is_left jd s.file s.told)) a.holds in
        record { file = a.file; told = a.told; place = s.place; repair = refl; rests = λ c left. subst (λ (l : List ℕ). Image l bodies) (sym (only_told (seen new) (crash new).may_leave a.file a.told only c left)) image }

    -- the body is written behind it
    pub stage_moments : (n : ℕ) → StandsFor seen crash jd jg ju bodies None → Step (jg + 1) n jd new → LeavesOnly (crash jd) (crash new) (λ c. Image c bodies)
    stage_moments n s step =
        one crash are_crashes jd new (Torn (jg + 1) n) (λ c. Image c bodies) step (λ d c left torn. torn_image bodies jg s.place d c n (s.rests d left) torn)

    pub stage_err : {E : Type 0} (result : Result (Unit {0}) E) (bytes : List ℕ) → StandsFor seen crash jd jg ju bodies None → WritesAt (jg + 1) bytes (seen jd) (seen new) result → Step (jg + 1) (length bytes) jd new
        → StandsFor seen crash new jg ju bodies None
    stage_err result bytes s writes step =
        let a = told_after (jg + 1) bytes (seen jd) (seen new) result s.file s.told writes in
        record { file = a.file; told = a.told; place = s.place; repair = s.repair; rests = ends crash are_crashes jd new (λ c. Image c bodies) (stage_moments (length bytes) s step) }

    pub stage_ok : {E : Type 0} (result : Result (Unit {0}) E) (bytes body : List ℕ) → bytes ≡ framed body → Fits body → StandsFor seen crash jd jg ju bodies None → WritesAt (jg + 1) bytes (seen jd) (seen new) result → Step (jg + 1) (length bytes) jd new
        → OnOk result (Only (seen new) (crash new).may_leave) → OnOk result (IsStaged seen crash new jg bodies body)
    stage_ok (Err e) bytes body is fits s writes step only = tt
    stage_ok {E} (Ok x) bytes body is fits s writes step only =
        let a : After {E = E} (jg + 1) bytes s.file (seen new) (Ok x) = told_after (jg + 1) bytes (seen jd) (seen new) (Ok x) s.file s.told writes in
        let holds = subst (λ (l : List ℕ). HasBytes (jg + 1) l s.file a.file) is a.holds in
        let half = staged_half bodies jg s.place s.file a.file body fits (s.rests s.file (seen_is_left jd s.file s.told)) holds in
        record {
          file = a.file;
          told = a.told;
          place = s.place;
          shut = ends crash are_crashes jd new (λ c. Image c bodies) (stage_moments (length bytes) s step);
          rests = λ c left. subst (λ (l : List ℕ). Half l bodies body) (sym (only_told (seen new) (crash new).may_leave a.file a.told only c left)) half;
        }

    -- the gate is opened
    pub open_moments : (body : List ℕ) → IsStaged seen crash jd jg bodies body → Step jg 1 jd new → LeavesOnly (crash jd) (crash new) (λ c. Half c bodies body)
    open_moments body s step =
        one crash are_crashes jd new (Torn jg 1) (λ c. Half c bodies body) step (λ d c left torn. torn_half bodies jg s.place d c body (s.rests d left) torn)

    pub open_err : {E : Type 0} (result : Result (Unit {0}) E) (body : List ℕ) → IsStaged seen crash jd jg bodies body → WritesAt jg (71 ∷ []) (seen jd) (seen new) result → Step jg 1 jd new
        → StandsFor seen crash new jg true bodies (Some body)
    open_err result body s writes step =
        let a = told_after jg (71 ∷ []) (seen jd) (seen new) result s.file s.told writes in
        record { file = a.file; told = a.told; place = s.place; repair = refl; rests = ends crash are_crashes jd new (λ c. Half c bodies body) (open_moments body s step) }

    pub open_ok : (E : Type 0) (x : Unit {0}) (gate : ℕ) (body : List ℕ) → gate ≡ length (records (bodies ++ body ∷ [])) → IsStaged seen crash jd jg bodies body → WritesAt {E = E} jg (71 ∷ []) (seen jd) (seen new) (Ok x) → Only (seen new) (crash new).may_leave
        → StandsFor seen crash new gate false (bodies ++ body ∷ []) None
    open_ok E x gate body gate_is s writes only =
        let a : After {E = E} jg (71 ∷ []) s.file (seen new) (Ok x) = told_after jg (71 ∷ []) (seen jd) (seen new) (Ok x) s.file s.told writes in
        let image = opened_half bodies jg s.place s.file a.file body (s.rests s.file (seen_is_left jd s.file s.told)) a.holds in
        record { file = a.file; told = a.told; place = gate_is; repair = refl; rests = λ c left. subst (λ (l : List ℕ). Image l (bodies ++ body ∷ [])) (sym (only_told (seen new) (crash new).may_leave a.file a.told only c left)) image }

-- one record more
pub length-push : (bodies : List (List ℕ)) (body : List ℕ) (gate n : ℕ) → gate ≡ length (records bodies) → n ≡ length (framed body) → gate + n ≡ length (records (bodies ++ body ∷ []))
length-push bodies body gate n gate_is is =
    let pushed = ap length (records-push bodies body []) in
    omega (arith, gate_is, is, pushed, length-append (records (bodies ++ body ∷ [])) [], length-append (records bodies) (71 ∷ (spelled body ++ [])), length-append (spelled body) [], length-append (spelled body) (46 ∷ []))

only_of : (o : Option (List ℕ)) (leaves : List ℕ → Type 0) (f : List ℕ) → o ≡ Some f → ((c : List ℕ) → leaves c → c ≡ f) → Only o leaves
only_of None leaves f e only = absurd (cc)
only_of (Some o) leaves f e only = λ c left. let is : f ≡ o = cc in only c left ∙ is

-- a journal that was just made
pub made_stands : {D : Type 0} (seen : D → Option (List ℕ)) (crash : D → Crashes) (disk : D) (body : List ℕ) (gate : ℕ) → gate ≡ length body + 5 → IsMade seen crash disk body
    → StandsFor seen crash disk gate false (body ∷ []) None × Only (seen disk) (crash disk).may_leave
made_stands seen crash disk body gate is made = (
  record {
    file = made.file;
    told = made.told;
    place = omega (arith, is, length-spelled body, length-append (spelled body) []);
    repair = refl;
    rests = λ c left. subst (λ (l : List ℕ). Image l (body ∷ [])) (sym (made.only c left)) made.image;
  },
  only_of (seen disk) (crash disk).may_leave made.file made.told made.only,
)

pub if_told : (o : Option (List ℕ)) (P : List ℕ → Type 0) → ((f : List ℕ) → o ≡ Some f → P f) → IfSome o P
if_told None P f = tt
if_told (Some o) P f = f o refl

pub when_told : (o : Option (List ℕ)) (P : List ℕ → Type 0) (f : List ℕ) → o ≡ Some f → IfSome o P → P f
when_told None P f e p = absurd (cc)
when_told (Some o) P f e p = let is : o ≡ f = cc in subst P is p

-- a journal that was just opened
pub image_stands : {D : Type 0} (seen : D → Option (List ℕ)) (crash : D → Crashes) (disk : D) (file : List ℕ) (bodies : List (List ℕ)) (gate : ℕ) → seen disk ≡ Some file → Image file bodies → gate ≡ length (records bodies)
    → ((c : List ℕ) → (crash disk).may_leave c → c ≡ file) → Image file bodies × StandsFor seen crash disk gate false bodies None × Only (seen disk) (crash disk).may_leave
image_stands seen crash disk file bodies gate told image gate_is only = (
  image,
  record { file = file; told = told; place = gate_is; repair = refl; rests = λ c left. subst (λ (l : List ℕ). Image l bodies) (sym (only c left)) image },
  only_of (seen disk) (crash disk).may_leave file told only,
)
