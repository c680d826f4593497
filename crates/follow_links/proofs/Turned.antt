-- A turn more.
use Rattle.std.proofs.Common.{◌≡◌, ◌∙◌, ◌+◌, ◌-◌, ◌^◌, ◌≤◌, ◌⊎◌, inl, inr, min, ℕ, List, [], ◌∷◌, ◌++◌, length, take, drop, Option, None, Some, refl, sym, ap, arith, subst, append_assoc, append-nil, length-append, length-drop}
use Rattle.std.specs.Prelude.{option_map}
use Rattle.std.specs.List.{AllByRecursion}
use Rattle.std.proofs.lemmas.List.{length-map, length-take}
use Rattle.desk_traits.specs.Faults.{Rose}
use Rattle.byte_streams.specs.Flows.{Takes}
use Rattle.desk_links.specs.Links.{DialerState, IsNew, LinkState, faults_of, with_count, with_one}
use Rattle.product_decoder.specs.ReaderModel.{Reading}
use Rattle.follow_core.specs.Hearing.{place_of}
use Rattle.follow_links.specs.Answers.{Answer}
use Rattle.follow_links.specs.Rounding.{HasFailed, Holds, Talks}
use Rattle.follow_links.specs.Talks.{IsTalk, bodies, after_all, asks_in, fails_in}
use Rattle.follow_links.specs.Rounds.{Turn, NotDialed, Talked, rounds_in, fails, texts_in, IsTalkWritten, AreTold, IsGivenUp, IsLast, EndsAs, RoseBy, StopsBehind, Courses, stop_with}
use Rattle.follow_links.specs.declared.talk.LinkEnd.{LinkEnd}
use Rattle.follow_links.specs.declared.talk.LinkEnd.TheVariants as link
use Rattle.follow_links.specs.declared.rounds.Stop.{Stop}
use Rattle.follow_links.specs.declared.rounds.Stop.TheVariants.{Spent, Ended, Bad, OutOfMemory}
use Rattle.follow_links.proofs.Joining.{written_alone, rose_none, rose_more}
use Rattle.follow_links.proofs.Placing.{after_more}
use Rattle.follow_links.proofs.Talking.{place_after}
use Rattle.follow_links.proofs.Turning.{rounds_more, fails_more, texts_more, ends_more, up_more, told_more, stops_spent}

-- Each turn so far was given up.
pub record Turns (first last : DialerState) (old new : Reading) (rounds rounds' : ℕ) : Type 0 where
  pub turns : List Turn
  pub links : List LinkState
  pub told : AreTold (place_of old) turns links
  pub returned : last.links ≡ option_map (λ before. before ++ links) first.links
  pub up : AllByRecursion IsGivenUp turns
  pub counted : rounds_in turns + rounds' ≡ rounds
  pub rose : RoseBy (fails turns) first.faults last.faults
  pub follower : new ≡ after_all old (texts_in turns)
  pub place : place_of new ≡ place_of old + length (texts_in turns)

none_returned : (b : Option (List LinkState)) → b ≡ option_map (λ before. before ++ []) b
none_returned None = refl
none_returned (Some ls) = ap (λ (l : List LinkState). Some l) (sym (append-nil ls))

pub turns_none : (dialer : DialerState) (f : Reading) (rounds : ℕ) → Turns dialer dialer f f rounds rounds
turns_none dialer f rounds = record {
  turns = [];
  links = [];
  told = tt;
  returned = none_returned dialer.links;
  up = tt;
  counted = omega arith;
  rose = rose_none dialer.faults;
  follower = refl;
  place = omega arith;
}

returned_more : (back mid end : Option (List LinkState)) (links : List LinkState) (l : LinkState) → mid ≡ option_map (λ before. before ++ links) back → end ≡ with_one mid l → end ≡ option_map (λ before. before ++ (links ++ l ∷ [])) back
returned_more None mid end links l h k = k ∙ ap (λ (m : Option (List LinkState)). with_one m l) h
returned_more (Some b) mid end links l h k = k ∙ (ap (λ (m : Option (List LinkState)). with_one m l) h ∙ ap (λ (ls : List LinkState). Some ls) (append_assoc b links (l ∷ [])))

-- the count of a link that failed is added to the dialer's
pub link_rose : (end : LinkEnd) (mid new : ℕ) (fresh left : LinkState) → IsNew fresh → (end ≡ link.Failed → HasFailed fresh left)
    → new ≡ min (mid + faults_of left) (2 ^ 64 - 1) → RoseBy (fails_in end) mid new
link_rose link.Failed mid new fresh left n rose is = one (rose refl)
  where
    one : HasFailed fresh left → RoseBy 1 mid new
    one (inl x) = omega (arith, x, n.no_read_fault, n.no_write_fault, is)
    one (inr x) = omega (arith, x, n.no_read_fault, n.no_write_fault, is)
link_rose link.Spent mid new fresh left n rose is = omega (arith, is)
link_rose link.Closed mid new fresh left n rose is = omega (arith, is)
link_rose link.Ended mid new fresh left n rose is = omega (arith, is)
link_rose link.Bad mid new fresh left n rose is = omega (arith, is)
link_rose link.OutOfMemory mid new fresh left n rose is = omega (arith, is)

-- what was read and written on a link that was new
pub told_link : (place : ℕ) (fresh left : LinkState) (old new : Reading) (rounds rounds' : ℕ) (end : LinkEnd)
    → place ≡ place_of old → IsNew fresh → (t : Holds fresh left old new rounds rounds' end)
    → IsTalkWritten place left t.answers end
told_link place fresh left old new rounds rounds' end is n t = record {
  read = t.read;
  written = t.written;
  reads = subst (λ (c : Option (List ℕ)). Takes c left.input.left t.read) (n.unread ∙ sym t.same) t.takes;
  writes = written_alone fresh.output.taken left.output.taken t.written n.unwritten t.adds;
  talk = subst (λ (p : ℕ). IsTalk p t.read t.written t.answers end) (sym is) t.talk;
}

-- a link that was given up took a round at least
pub takes_round : (place : ℕ) (read written : List ℕ) (answers : List Answer) (end : LinkEnd) → IsTalk place read written answers end → IsGivenUp (Talked answers end) → 1 ≤ length answers + asks_in end
takes_round place read written (a ∷ answers) end talk up = omega arith
takes_round place read written [] link.Closed talk up = absurd talk
takes_round place read written [] link.Failed talk up = omega arith
takes_round place read written [] link.Spent talk up = absurd up
takes_round place read written [] link.Ended talk up = absurd up
takes_round place read written [] link.Bad talk up = absurd up
takes_round place read written [] link.OutOfMemory talk up = absurd up

module _ (first middle : DialerState) (old mid : Reading) (rounds mid_rounds : ℕ) (t : Turns first middle old mid rounds mid_rounds) where
  next_place : place_of mid ≡ place_of old + length (texts_in t.turns)
  next_place = t.place

  -- a dial failed
  pub turns_failed : (last : DialerState) (end_rounds : ℕ) → last.links ≡ middle.links → Rose middle.faults last.faults → end_rounds + 1 ≡ mid_rounds
      → Turns first last old mid rounds end_rounds
  turns_failed last end_rounds same rose one =
      let more = told_more (place_of old) (place_of mid) t.turns t.links (NotDialed ∷ []) [] t.place t.told tt in
      let texts = texts_more t.turns (NotDialed ∷ []) ∙ append-nil (texts_in t.turns) in
      record {
        turns = t.turns ++ NotDialed ∷ [];
        links = t.links ++ [];
        told = more;
        returned = same ∙ (t.returned ∙ ap (λ (ls : List LinkState). option_map (λ before. before ++ ls) first.links) (sym (append-nil t.links)));
        up = up_more t.turns NotDialed t.up tt;
        counted = omega (arith, t.counted, one, rounds_more t.turns (NotDialed ∷ []));
        rose = subst (λ (n : ℕ). RoseBy n first.faults last.faults) (sym (fails_more t.turns (NotDialed ∷ []))) (rose_more (fails t.turns) (fails (NotDialed ∷ [])) first.faults middle.faults last.faults t.rose (omega (arith, rose)));
        follower = t.follower ∙ ap (after_all old) (sym texts);
        place = t.place ∙ ap (λ (ts : List (List ℕ)). place_of old + length ts) (sym texts);
      }

  -- the link of a turn came back
  module _ (l : LinkState) (answers : List Answer) (end : LinkEnd) (new : Reading) (last : DialerState) (end_rounds : ℕ)
      (told : IsTalkWritten (place_of mid) l answers end)
      (kept : last.links ≡ with_one middle.links l)
      (rose : RoseBy (fails_in end) middle.faults last.faults)
      (heard : new ≡ after_all mid (bodies answers))
      (counted : length answers + asks_in end + end_rounds ≡ mid_rounds) where
    abbrev turn : Turn
    turn = Talked answers end

    texts_then : texts_in (t.turns ++ turn ∷ []) ≡ texts_in t.turns ++ bodies answers
    texts_then = texts_more t.turns (turn ∷ []) ∙ ap (λ (ts : List (List ℕ)). texts_in t.turns ++ ts) (append-nil (bodies answers))

    told_then : AreTold (place_of old) (t.turns ++ turn ∷ []) (t.links ++ l ∷ [])
    told_then = told_more (place_of old) (place_of mid) t.turns t.links (turn ∷ []) (l ∷ []) t.place t.told (told, tt)

    rose_then : RoseBy (fails (t.turns ++ turn ∷ [])) first.faults last.faults
    rose_then = subst (λ (n : ℕ). RoseBy n first.faults last.faults) (sym (fails_more t.turns (turn ∷ []))) (rose_more (fails t.turns) (fails (turn ∷ [])) first.faults middle.faults last.faults t.rose (omega (arith, rose)))

    counted_then : rounds_in (t.turns ++ turn ∷ []) + end_rounds ≡ rounds
    counted_then = omega (arith, t.counted, counted, rounds_more t.turns (turn ∷ []))

    follower_then : new ≡ after_all old (texts_in (t.turns ++ turn ∷ []))
    follower_then = heard ∙ (ap (λ (f : Reading). after_all f (bodies answers)) t.follower ∙ (sym (after_more old (texts_in t.turns) (bodies answers)) ∙ ap (after_all old) (sym texts_then)))

    place_then : place_of new ≡ place_of old + length (texts_in (t.turns ++ turn ∷ []))
    place_then =
        let after = ap place_of heard ∙ place_after (place_of mid) told.read told.written answers end mid told.talk refl in
        omega (arith, after, t.place, ap length texts_then, length-append (texts_in t.turns) (bodies answers), length-map answers (λ (a : Answer). a.body))

    pub turns_talked : IsGivenUp (Talked answers end) → Turns first last old new rounds end_rounds
    turns_talked up = record {
      turns = t.turns ++ turn ∷ [];
      links = t.links ++ l ∷ [];
      told = told_then;
      returned = returned_more first.links middle.links last.links t.links l t.returned kept;
      up = up_more t.turns turn t.up up;
      counted = counted_then;
      rose = rose_then;
      follower = follower_then;
      place = place_then;
    }

    pub course_last : (stop : Stop) → IsLast (Talked answers end) stop → (stop ≡ Spent → end_rounds ≡ 0) → Courses first last old new rounds stop
    course_last stop ends spent = record {
      turns = t.turns ++ turn ∷ [];
      links = t.links ++ l ∷ [];
      told = told_then;
      returned = returned_more first.links middle.links last.links t.links l t.returned kept;
      ends = ends_more t.turns (turn ∷ []) stop t.up (inr (refl, ends));
      within = omega (arith, counted_then);
      spent = λ h. omega (arith, counted_then, spent h);
      rose = rose_then;
      follower = follower_then;
      place = place_then;
    }

  -- no turn more is made
  course_behind : (stop : Stop) → StopsBehind stop → (stop ≡ Spent → mid_rounds ≡ 0) → Courses first middle old mid rounds stop
  course_behind stop behind none = record {
    turns = t.turns;
    links = t.links;
    told = t.told;
    returned = t.returned;
    ends = subst (λ (turns : List Turn). EndsAs turns stop) (append-nil t.turns) (ends_more t.turns [] stop t.up behind);
    within = omega (arith, t.counted);
    spent = λ h. omega (arith, t.counted, none h);
    rose = t.rose;
    follower = t.follower;
    place = t.place;
  }

  -- no round is left
  pub course_spent : mid_rounds ≡ 0 → Courses first middle old mid rounds Spent
  course_spent none = course_behind Spent tt (λ h. none)

memory_unspent : OutOfMemory ≡ Spent → ⊥
memory_unspent h = cc

-- a run goes on behind a link that closed or failed
pub up_with : (end : LinkEnd) → stop_with end ≡ None → (end ≡ link.Closed) ⊎ (end ≡ link.Failed)
up_with link.Closed is = inl refl
up_with link.Failed is = inr refl
up_with link.Spent is = absurd (let other : ◌≡◌ {A = Option Stop} (Some Spent) None = is in cc)
up_with link.Ended is = absurd (let other : ◌≡◌ {A = Option Stop} (Some Ended) None = is in cc)
up_with link.Bad is = absurd (let other : ◌≡◌ {A = Option Stop} (Some Bad) None = is in cc)
up_with link.OutOfMemory is = absurd (let other : ◌≡◌ {A = Option Stop} (Some OutOfMemory) None = is in cc)

-- a list that was lent whole and came back as long
pub room_kept : {A : Type 0} (n room : ℕ) (new items : List A) → length new ≡ room → length items ≡ room → n ≡ length items → length (take n (new ++ drop (length new) items)) ≡ room
room_kept n room new items a b c =
    omega (arith, a, b, c, length-take n (new ++ drop (length new) items), length-append new (drop (length new) items), length-drop (length new) items)

-- A link came, a talk was held on it, and it was returned.
module _ (first before dialed last : DialerState) (old mid new : Reading) (rounds mid_rounds end_rounds : ℕ) (fresh left : LinkState) (end : LinkEnd)
    (t : Turns first before old mid rounds mid_rounds)
    (same : dialed.links ≡ before.links)
    (steady : dialed.faults ≡ before.faults)
    (n : IsNew fresh)
    (k : Talks fresh left mid new mid_rounds end_rounds end)
    (put : last ≡ with_count dialed left) where
  told_on : IsTalkWritten (place_of mid) left k.held.answers end
  told_on = told_link (place_of mid) fresh left mid new mid_rounds end_rounds end refl n k.held

  rose_on : RoseBy (fails_in end) before.faults last.faults
  rose_on = link_rose end before.faults last.faults fresh left n k.rose
      (ap (λ (d : DialerState). d.faults) put ∙ ap (λ (m : ℕ). min (m + faults_of left) (2 ^ 64 - 1)) steady)

  kept_on : last.links ≡ with_one before.links left
  kept_on = ap (λ (d : DialerState). d.links) put ∙ ap (λ (b : Option (List LinkState)). with_one b left) same

  up_on : (end ≡ link.Closed) ⊎ (end ≡ link.Failed) → IsGivenUp (Talked k.held.answers end)
  up_on (inl is) = subst (λ (e : LinkEnd). IsGivenUp (Talked k.held.answers e)) (sym is) tt
  up_on (inr is) = subst (λ (e : LinkEnd). IsGivenUp (Talked k.held.answers e)) (sym is) tt

  pub one_round : (end ≡ link.Closed) ⊎ (end ≡ link.Failed) → end_rounds + 1 ≤ mid_rounds
  one_round is = omega (arith, k.held.counted, takes_round (place_of mid) k.held.read k.held.written k.held.answers end k.held.talk (up_on is))

  pub turns_on : (end ≡ link.Closed) ⊎ (end ≡ link.Failed) → Turns first last old new rounds end_rounds
  turns_on is = turns_talked first before old mid rounds mid_rounds t left k.held.answers end new last end_rounds told_on kept_on rose_on k.held.follower k.held.counted (up_on is)

  pub course_on : (stop : Stop) → stop_with end ≡ Some stop → Courses first last old new rounds stop
  course_on stop is =
      course_last first before old mid rounds mid_rounds t left k.held.answers end new last end_rounds told_on kept_on rose_on k.held.follower k.held.counted stop
      is (λ h. k.spent (stops_spent end (is ∙ ap (λ (s : Stop). Some s) h)))

-- memory lacked before the first turn
pub course_none : (dialer : DialerState) (f : Reading) (rounds : ℕ) → Courses dialer dialer f f rounds OutOfMemory
course_none dialer f rounds = course_behind dialer dialer f f rounds rounds (turns_none dialer f rounds) OutOfMemory tt (λ h. absurd (memory_unspent h))
