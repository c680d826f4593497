-- Talks on a link, one after another.
use Rattle.std.proofs.Common.{◌≡◌, ◌≢◌, ◌∙◌, ◌+◌, inl, inr, Ok, Err, ℕ, Bool, true, false, List, [], ◌∷◌, ◌++◌, length, refl, sym, ap, arith, subst, append_assoc, append-nil, length-append}
use Rattle.std.specs.Prelude.{IsErrOf}
use Rattle.std.proofs.lemmas.List.{map-append}
use Rattle.product_decoder.specs.ReaderModel.{Reading}
use Rattle.follow_core.specs.Hearing.{place_of, having_taken}
use Rattle.follow_links.specs.Answers.{Answer}
use Rattle.follow_links.specs.Talks.{IsText, Onward, IsClosed, IsTalk, ask, bodies, after_all}
use Rattle.follow_links.specs.declared.talk.LinkEnd.{LinkEnd}
use Rattle.desk_links.specs.Links.{LinkState}
use Rattle.byte_streams.specs.Flows.{Takes, Adds}
use Rattle.follow_links.specs.Rounding.{HasFailed, Holds, IsAsk, IsLater, RoseIfFailed, Talks}
use Rattle.follow_links.specs.Talks.{Leaves, asks_in}
use Rattle.follow_links.specs.declared.talk.LinkEnd.TheVariants.{Spent, Closed, Failed, Ended, Bad, OutOfMemory}
use Rattle.follow_links.proofs.Placing.{heard_place, after_more}
use Rattle.follow_links.proofs.Joining.{takes_none, takes_more, adds_none, adds_more, rose_later}

not_closed : Spent ≡ Closed → ⊥
not_closed h = cc

onward_more : (b : Bool) (more later : List ℕ) (answers : List Answer) (place : ℕ) (X Z : Type 0)
    → Onward b (IsClosed more later answers Spent) (IsTalk place more later answers Spent) → (IsTalk place more later answers Spent → Z) → Onward b X Z
onward_more true more later answers place X Z h f = absurd (not_closed h.3)
onward_more false more later answers place X Z h f = f h

pub talk_more : (place next : ℕ) (read written : List ℕ) (answers : List Answer) (read' written' : List ℕ) (answers' : List Answer) (end : LinkEnd)
    → next ≡ place + length answers → IsTalk place read written answers Spent → IsTalk next read' written' answers' end
    → IsTalk place (read ++ read') (written ++ written') (answers ++ answers') end
talk_more place next read written [] read' written' answers' end is h more =
    subst (λ (n : ℕ). IsTalk n (read ++ read') (written ++ written') answers' end) (omega (arith, is))
    (subst (λ (r : List ℕ). IsTalk next (r ++ read') (written ++ written') answers' end) (sym h.0)
    (subst (λ (w : List ℕ). IsTalk next read' (w ++ written') answers' end) (sym h.1) more))
talk_more place next read written (a ∷ answers) read' written' answers' end is h more = (
  h.0,
  h.1 ++ read',
  h.2 ++ written',
  h.3,
  ap (λ (r : List ℕ). r ++ read') h.4 ∙ append_assoc h.0 h.1 read',
  ap (λ (w : List ℕ). w ++ written') h.5 ∙ append_assoc (ask place) h.2 written',
  onward_more a.closes h.1 h.2 answers (place + 1) _ _ h.6 (λ t. talk_more (place + 1) next h.1 h.2 answers read' written' answers' end (omega (arith, is)) t more),
)

-- one answer, behind which the link stays open, or closes

pub one_open : (place : ℕ) (read written body : List ℕ) → written ≡ ask place → IsText place read (record { status = 200; body = body; closes = false })
    → IsTalk place read written (record { status = 200; body = body; closes = false } ∷ []) Spent
one_open place read written body is t = (read, [], [], t, sym (append-nil read), is ∙ sym (append-nil (ask place)), (refl, refl))

pub one_closed : (place : ℕ) (read written body : List ℕ) → written ≡ ask place → IsText place read (record { status = 200; body = body; closes = true })
    → IsTalk place read written (record { status = 200; body = body; closes = true } ∷ []) Closed
one_closed place read written body is t = (read, [], [], t, sym (append-nil read), is ∙ sym (append-nil (ask place)), (refl, refl, refl, refl))

-- the place after a talk

onward_place : (b : Bool) (more later : List ℕ) (answers : List Answer) (place : ℕ) (end : LinkEnd) (f : Reading)
    → Onward b (IsClosed more later answers end) (IsTalk place more later answers end)
    → (IsTalk place more later answers end → place_of (after_all f (bodies answers)) ≡ place + length answers)
    → place_of f ≡ place → place_of (after_all f (bodies answers)) ≡ place + length answers
onward_place true more later answers place end f h g is =
    subst (λ (list : List Answer). place_of (after_all f (bodies list)) ≡ place + length list) (sym h.2) (omega (arith, is))
onward_place false more later answers place end f h g is = g h

pub place_after : (place : ℕ) (read written : List ℕ) (answers : List Answer) (end : LinkEnd) (f : Reading)
    → IsTalk place read written answers end → place_of f ≡ place → place_of (after_all f (bodies answers)) ≡ place + length answers
place_after place read written [] end f h is = omega (arith, is)
place_after place read written (a ∷ answers) end f h is =
    let next : place_of (having_taken f (place_of f) a.body) ≡ place + 1 = heard_place f a.body h.3.decodes ∙ ap (λ (n : ℕ). n + 1) is in
    let rest = onward_place a.closes h.1 h.2 answers (place + 1) end (having_taken f (place_of f) a.body) h.6
    (λ t. place_after (place + 1) h.1 h.2 answers end (having_taken f (place_of f) a.body) t next) next in
    omega (arith, rest)

-- Texts were taken so far, and the link is open.
pub record Going (first last : LinkState) (old new : Reading) (rounds rounds' : ℕ) : Type 0 where
  pub held : Holds first last old new rounds rounds' Spent
  pub later : IsLater first last

pub going_none : (link : LinkState) (f : Reading) (rounds : ℕ) → Going link link f f rounds rounds
going_none link f rounds = record {
  held = record {
    answers = [];
    read = [];
    written = [];
    takes = takes_none link.input.left;
    adds = adds_none link.output.taken;
    talk = (refl, refl);
    follower = refl;
    counted = omega arith;
    same = refl;
  };
  later = (omega arith, omega arith);
}

after_bodies : (old mid : Reading) (xs ys : List Answer) → mid ≡ after_all old (bodies xs) → after_all mid (bodies ys) ≡ after_all old (bodies (xs ++ ys))
after_bodies old mid xs ys is =
    ap (λ (f : Reading). after_all f (bodies ys)) is
    ∙ (sym (after_more old (bodies xs) (bodies ys))
    ∙ ap (after_all old) (sym (map-append (λ (b : Answer). b.body) xs ys)))

module _ (first middle last : LinkState) (old mid new : Reading) (rounds mid_rounds end_rounds : ℕ) where
  mid_place : (h : Holds first middle old mid rounds mid_rounds Spent) → place_of mid ≡ place_of old + length h.answers
  mid_place h = ap place_of h.follower ∙ place_after (place_of old) h.read h.written h.answers Spent old h.talk refl

  -- texts more or none, and how the link was left behind them
  held_more : (end : LinkEnd) (answers : List Answer) (read written : List ℕ) → (h : Holds first middle old mid rounds mid_rounds Spent)
      → Takes middle.input.left last.input.left read → Adds middle.output.taken last.output.taken written
      → IsTalk (place_of mid) read written answers end → new ≡ after_all mid (bodies answers)
      → length answers + asks_in end + end_rounds ≡ mid_rounds → last.came ≡ middle.came
      → Holds first last old new rounds end_rounds end
  held_more end answers read written h takes adds talk follower counted same = record {
    answers = h.answers ++ answers;
    read = h.read ++ read;
    written = h.written ++ written;
    takes = takes_more first.input.left middle.input.left last.input.left h.read read h.takes takes;
    adds = adds_more first.output.taken middle.output.taken last.output.taken h.written written h.adds adds;
    talk = talk_more (place_of old) (place_of mid) h.read h.written h.answers read written answers end (mid_place h) h.talk talk;
    follower = follower ∙ after_bodies old mid h.answers answers h.follower;
    counted = omega (arith, h.counted, counted, length-append h.answers answers);
    same = same ∙ h.same;
  }

  pub going_text : Going first middle old mid rounds mid_rounds
      → (a : IsAsk middle last mid new (Ok false)) → RoseIfFailed {T = Bool} middle last (Ok false) → last.came ≡ middle.came → end_rounds + 1 ≡ mid_rounds
      → Going first last old new rounds end_rounds
  going_text g a r same one =
      let body = a.gives.1.0 in
      let talk = one_open (place_of mid) a.read a.written body a.gives.0 a.gives.1.1 in
      record {
        held = held_more Spent (record { status = 200; body = body; closes = false } ∷ []) a.read a.written g.held a.takes a.adds talk a.gives.1.2 (omega (arith, one)) same;
        later = (omega (arith, g.later.0, r.later.0), omega (arith, g.later.1, r.later.1));
      }

  pub going_closed : Going first middle old mid rounds mid_rounds
      → (a : IsAsk middle last mid new (Ok true)) → last.came ≡ middle.came → end_rounds + 1 ≡ mid_rounds
      → Talks first last old new rounds end_rounds Closed
  going_closed g a same one =
      let body = a.gives.1.0 in
      let talk = one_closed (place_of mid) a.read a.written body a.gives.0 a.gives.1.1 in
      record {
        held = held_more Closed (record { status = 200; body = body; closes = true } ∷ []) a.read a.written g.held a.takes a.adds talk a.gives.1.2 (omega (arith, one)) same;
        spent = λ h. absurd (not_spent h);
        rose = λ h. absurd (not_failed h);
      }
    where
      not_spent : Closed ≡ Spent → ⊥
      not_spent h = cc

      not_failed : Closed ≡ Failed → ⊥
      not_failed h = cc

  pub going_spent : Going first middle old mid rounds mid_rounds → mid_rounds ≡ 0
      → Talks first middle old mid rounds mid_rounds Spent
  going_spent g none = record { held = g.held; spent = λ h. none; rose = λ h. absurd (open_still h) }
    where
      open_still : Spent ≡ Failed → ⊥
      open_still h = cc

  pub going_ended : (end : LinkEnd) → Going first middle old mid rounds mid_rounds
      → (a : IsAsk middle last mid new (Err end)) → RoseIfFailed {T = Bool} middle last (Err end) → last.came ≡ middle.came → end_rounds + 1 ≡ mid_rounds
      → Talks first last old new rounds end_rounds end
  going_ended end g a r same one = record {
    held = held_more end [] a.read a.written g.held a.takes a.adds a.gives.0 a.gives.1 (omega (arith, one, asks_one end a.gives.0 a.gives.2)) same;
    spent = λ h. absurd (a.gives.2 h);
    rose = λ h. rose_back (r.rose (failed_is h));
  }
    where
      asks_one : (e : LinkEnd) → Leaves (place_of mid) a.read a.written e → e ≢ Spent → asks_in e ≡ 1
      asks_one Spent h n = absurd (n refl)
      asks_one Closed h n = absurd h
      asks_one Failed h n = refl
      asks_one Ended h n = refl
      asks_one Bad h n = refl
      asks_one OutOfMemory h n = refl

      failed_is : end ≡ Failed → IsErrOf {T = Bool} (Err end) Failed
      failed_is h = ap (λ (e : LinkEnd). Err e) h

      rose_back : HasFailed middle last → HasFailed first last
      rose_back (inl x) = inl (rose_later first.input.faults middle.input.faults last.input.faults g.later.0 x)
      rose_back (inr x) = inr (rose_later first.output.faults middle.output.faults last.output.faults g.later.1 x)

  -- the same, by what the ask answered

  pub going_step : (closes : Bool) → closes ≡ false → Going first middle old mid rounds mid_rounds
      → IsAsk middle last mid new (Ok closes) → RoseIfFailed {T = Bool} middle last (Ok closes) → last.came ≡ middle.came → end_rounds + 1 ≡ mid_rounds
      → Going first last old new rounds end_rounds
  going_step closes is g a r same one =
      going_text g (subst (λ (b : Bool). IsAsk middle last mid new (Ok b)) is a) (subst (λ (b : Bool). RoseIfFailed {T = Bool} middle last (Ok b)) is r) same one

  pub closed_step : (closes : Bool) → closes ≡ true → Going first middle old mid rounds mid_rounds
      → IsAsk middle last mid new (Ok closes) → last.came ≡ middle.came → end_rounds + 1 ≡ mid_rounds
      → Talks first last old new rounds end_rounds Closed
  closed_step closes is g a same one = going_closed g (subst (λ (b : Bool). IsAsk middle last mid new (Ok b)) is a) same one
