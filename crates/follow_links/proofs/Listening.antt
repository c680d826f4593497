-- What is read of an answer, step by step.
use Rattle.std.proofs.Common.{◌≡◌, ◌∙◌, ◌≤◌, ◌<◌, ◌+◌, ◌-◌, ◌⊎◌, inl, inr, true, ℕ, List, [], ◌∷◌, ◌++◌, length, take, drop, Option, Some, Ok, Err, refl, sym, ap, arith, subst, append-nil, append_assoc, length-append}
use Rattle.std.proofs.lemmas.List.{take_at, take-append-le, take-append-drop}
use Rattle.std.proofs.Math.Seq.{take-append-add}
use Rattle.std.proofs.Math.Decide.{dec_lt}
use Rattle.byte_streams.specs.Flows.{Takes}
use Rattle.httparse.specs.Grammar.{ResponseHead, print_response, ReadsResponse, HasNoResponse, MayBecomeResponse}
use Rattle.follow_links.specs.Answers.{HasBadHead, IsCutHead, WasCutHead, IsFront, is_known}
use Rattle.follow_links.specs.Readings.{HasShape, Says, Gains, Foresees, ReadsMore, ReadsOn, ReadsBody, ReadsHead, ReadsAnswer}
use Rattle.follow_links.specs.declared.answers.Head.{Head}
use Rattle.follow_links.specs.declared.answers.Head.TheVariants.{More, Bad, Whole}
use Rattle.follow_links.specs.declared.answers.Shape.{Shape}
use Rattle.follow_links.specs.declared.reading.Miss.{Miss}
use Rattle.follow_links.specs.declared.reading.Miss.TheVariants as miss
use Rattle.follow_links.proofs.Joining.{takes_more}
use Rattle.follow_links.proofs.Lasts.{nothing_behind, parted}

-- a read that failed behind what was read
pub body_stops : (left mid end : Option (List ℕ)) (old now new : List ℕ) (wanted most : ℕ) (m : Miss)
    → (piece : List ℕ) × Takes left mid piece × (now ≡ old ++ piece) → length now < wanted
    → ReadsMore mid end now new most (Err m) → ReadsBody left end old new wanted (Err m)
body_stops left mid end old now new wanted most miss.Failed p few h =
    (p.0, subst (λ (e : Option (List ℕ)). Takes left e p.0) (sym h.0) p.1, h.1 ∙ p.2, omega (arith, few, ap length h.1))
body_stops left mid end old now new wanted most miss.Bad p few h = absurd h
body_stops left mid end old now new wanted most miss.OutOfMemory p few h = (p.0 ++ h.0, takes_more left mid end p.0 h.0 p.1 h.1)

pub gains_wide : (left left' : Option (List ℕ)) (old new : List ℕ) (most : ℕ) → most ≤ 8192 → Gains left left' old new most → Gains left left' old new 8192
gains_wide left left' old new most le g = record {
  piece = g.piece;
  takes = g.takes;
  behind = g.behind;
  some = g.some;
  few = omega (arith, g.few, le);
}

-- a front of what is no head yet

pub front_none : (front more : List ℕ) → HasNoResponse (front ++ more) → HasNoResponse front
front_none front more none h rest r =
    none h (rest ++ more) (r.0, ap (λ (l : List ℕ). l ++ more) r.1 ∙ append_assoc (print_response h) rest more)

pub front_may : (front more : List ℕ) → MayBecomeResponse (front ++ more) → MayBecomeResponse front
front_may front more may = (more ++ may.0, may.1, (may.2.0, sym (append_assoc front more may.0) ∙ may.2.1))

-- 8,192 bytes that are no head
pub full_is_bad : (bytes : List ℕ) → 8192 ≤ length bytes → length bytes ≤ 8192 → HasNoResponse bytes → (bytes ≡ []) ⊎ MayBecomeResponse bytes → HasBadHead bytes
full_is_bad bytes many few none (inl empty) = absurd (omega (arith, many, ap length empty))
full_is_bad [] many few none (inr may) = absurd (omega (arith, many))
full_is_bad (x ∷ xs) many few none (inr may) =
    let p = parted x xs in
    let none' = subst HasNoResponse p.2 none in
    let may' = subst MayBecomeResponse p.2 may in (
      inr (inl (many, none)),
      (p.0, p.1, p.2, (front_none p.0 (p.1 ∷ []) none', omega (arith, few, ap length p.2, length-append p.0 (p.1 ∷ [])), inr (front_may p.0 (p.1 ∷ []) may'))),
    )

-- the head that the bytes that were read and those that wait begin with ends among the latter
module _ (bytes waiting : List ℕ) (none : HasNoResponse bytes) (s : Shape) (h : ResponseHead) (rest : List ℕ) (reads : ReadsResponse (bytes ++ waiting) h rest) (is : HasShape h s) where
  first_ones : take s.from (bytes ++ waiting) ≡ print_response h
  first_ones = ap (take s.from) reads.1 ∙ take_at (print_response h) rest s.from (sym is.from)

  not_before : s.from ≤ length bytes → ⊥
  not_before le =
      let front : take s.from bytes ≡ print_response h = sym (take-append-le s.from bytes waiting le) ∙ first_ones in
      none h (drop s.from bytes) (reads.0, sym (take-append-drop s.from bytes) ∙ ap (λ (l : List ℕ). l ++ drop s.from bytes) front)

  ends_behind : Dec (length bytes < s.from) → length bytes < s.from
  ends_behind (yes lt) = lt
  ends_behind (no ge) = absurd (not_before (omega (arith, ge)))

  within : s.from ≤ length bytes + length waiting
  within = omega (arith, ap length reads.1, length-append bytes waiting, length-append (print_response h) rest, is.from)

  just_head : length bytes < s.from → bytes ++ take (s.from - length bytes) waiting ≡ print_response h
  just_head lt =
      let parts : length bytes + (s.from - length bytes) ≡ s.from = omega (arith, lt) in
      sym (take-append-add bytes waiting (s.from - length bytes)) ∙ (ap (λ (n : ℕ). take n (bytes ++ waiting)) parts ∙ first_ones)

  whole_foreseen : Foresees bytes waiting (Whole s)
  whole_foreseen =
      let lt = ends_behind (dec_lt (length bytes) s.from) in
      (lt, within, (h, (reads.0, just_head lt ∙ sym (append-nil (print_response h))), is))

pub foreseen : (bytes waiting : List ℕ) (head : Head) → HasNoResponse bytes → Says (bytes ++ waiting) head → Foresees bytes waiting head
foreseen bytes waiting More none says = says
foreseen bytes waiting Bad none says = tt
foreseen bytes waiting (Whole s) none says = whole_foreseen bytes waiting none s says.0 says.1 says.2 says.3

-- a part of a head behind what was read before

pub on_taken : (first mid last : Option (List ℕ)) (now new : List ℕ) → Takes first mid now → Gains mid last now new 8192 → Takes first last new
on_taken first mid last now new t g = subst (Takes first last) (sym g.behind) (takes_more first mid last now g.piece t g.takes)

pub head_stops : (first mid last : Option (List ℕ)) (now new : List ℕ) (m : Miss)
    → Takes first mid now → IsCutHead now → ReadsOn mid last now new (Err m) → ReadsHead first last new (Err m)
head_stops first mid last now new miss.Failed t cut h = (
  subst (λ (e : Option (List ℕ)). Takes first e new) (sym h.0) (subst (Takes first mid) (sym h.1) t),
  subst IsFront (sym h.1) (inl cut),
)
head_stops first mid last now new miss.Bad t cut h = (on_taken first mid last now new t h.0, h.1)
head_stops first mid last now new miss.OutOfMemory t cut h = (now ++ h.0, takes_more first mid last now h.0 t h.1)

one_byte : (piece : List ℕ) → 1 ≤ length piece → length piece ≤ 1 → (byte : ℕ) × (piece ≡ byte ∷ [])
one_byte [] some few = absurd (omega (arith, some))
one_byte (byte ∷ []) some few = (byte, refl)
one_byte (byte ∷ other ∷ more) some few = absurd (omega (arith, few))

-- one byte more
module _ (left mid end : Option (List ℕ)) (now new : List ℕ) where
  pub byte_taken : Takes left mid now → Gains mid end now new 1 → Takes left end new
  byte_taken t g = subst (Takes left end) (sym g.behind) (takes_more left mid end now g.piece t g.takes)

  all_read : (h : ResponseHead) (rest : List ℕ) → HasNoResponse now → Gains mid end now new 1 → ReadsResponse new h rest → ReadsResponse new h []
  all_read h rest none g r =
      let nothing = nothing_behind now g.piece h rest none (omega (arith, g.some, g.few)) (subst (λ (b : List ℕ). ReadsResponse b h rest) g.behind r) in
      subst (ReadsResponse new h) nothing r

  pub few_more : length now < 8192 → Gains mid end now new 1 → length new ≤ 8192
  few_more few g = omega (arith, few, g.few, ap length g.behind, length-append now g.piece)

  -- before it a head could still come
  pub was_cut : HasNoResponse now → length now < 8192 → (now ≡ []) ⊎ MayBecomeResponse now → Gains mid end now new 1 → WasCutHead new
  was_cut none few may g =
      let byte = one_byte g.piece g.some g.few in
      (now, byte.0, g.behind ∙ ap (λ (b : List ℕ). now ++ b) byte.1, (none, few, may))

  pub bad_head : HasNoResponse now → length now < 8192 → (now ≡ []) ⊎ MayBecomeResponse now → Gains mid end now new 1 → Says new Bad → HasBadHead new
  bad_head none few may g (inl never) = (inl never, was_cut none few may g)
  bad_head none few may g (inr b) = (inr (inr (b.0, all_read b.0 b.1 none g b.2, b.3)), was_cut none few may g)

  pub whole_head : HasNoResponse now → length now < 8192 → Gains mid end now new 1 → (s : Shape) → Says new (Whole s)
      → (h : ResponseHead) × ReadsResponse new h [] × (length (print_response h) ≤ 8192) × HasShape h s
  whole_head none few g s w =
      let reads = all_read w.0 w.1 none g w.2 in
      (w.0, reads, omega (arith, few, g.few, ap length g.behind, length-append now g.piece, ap length reads.1, length-append (print_response w.0) []), w.3)

  -- the byte that decides a head
  pub bad_byte : IsCutHead now → Gains mid end now new 1 → Says new Bad → ReadsOn mid end now new (Err miss.Bad)
  bad_byte cut g says = (gains_wide mid end now new 1 (omega arith) g, bad_head cut.0 cut.1 cut.2 g says)

  pub whole_byte : IsCutHead now → Gains mid end now new 1 → (s : Shape) → Says new (Whole s) → ReadsOn mid end now new (Ok (Some s))
  whole_byte cut g s says = (gains_wide mid end now new 1 (omega arith) g, whole_head cut.0 cut.1 g s says)

pub answer_stops : (left mid end : Option (List ℕ)) (bytes new : List ℕ) (s : Shape) (m : Miss)
    → ReadsHead left mid bytes (Ok s) → ReadsBody mid end bytes new (s.from + s.body) (Err m) → ReadsAnswer left end new (Err m)
answer_stops left mid end bytes new s miss.Failed head h =
    let hd = head.1.0 in
    let is : new ≡ print_response hd ++ h.0 = h.2 ∙ ap (λ (b : List ℕ). b ++ h.0) (head.1.1.1 ∙ append-nil (print_response hd)) in (
      subst (Takes left end) (sym h.2) (takes_more left mid end bytes h.0 head.0 h.1),
      inr (record {
        head = hd;
        body = h.0;
        wanted = s.body;
        reads = (head.1.1.0, is);
        short = head.1.2;
        length_is = head.1.3.body;
        known = subst (λ (n : ℕ). is_known n ≡ true) (sym head.1.3.status) head.1.3.known;
        cut = omega (arith, h.3, ap length is, length-append (print_response hd) h.0, head.1.3.from);
      }),
    )
answer_stops left mid end bytes new s miss.Bad head h = absurd h
answer_stops left mid end bytes new s miss.OutOfMemory head h = (bytes ++ h.0, takes_more left mid end bytes h.0 head.0 h.1)
