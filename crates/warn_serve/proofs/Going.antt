-- How a link goes on by one call, and how it ends.
use Rattle.std.proofs.Common.{ℕ, ◌≡◌, ◌+◌, ◌<◌, inl, List, [], ◌∷◌, ◌++◌, drop, length, refl, ap, sym, ◌∙◌, subst, arith, append_assoc, append-nil, length-append, Option, None, Some}
use Rattle.std.proofs.lemmas.List.{map-append}
use Rattle.desk_links.specs.Links.{LinkState, faults_of}
use Rattle.desk_traits.specs.Faults.{Rose}
use Rattle.byte_streams.specs.Flows.{Adds, Takes}
use Rattle.byte_streams.proofs.Pieces.{adds_both, takes_both}
use Rattle.turn_lock.specs.Passes.{KeepsRights, PassRecord}
use Rattle.warn_http.specs.Calls.{Called, IsCut, most_calls}
use Rattle.warn_http.proofs.Streams.{cut_more, cut_stays}
use Rattle.warn_serve.specs.Links.{Answered, EndsSo, HasCount, HasEnded, IsLater, IsServedLink, Said, answers_of, calls_of}
use Rattle.warn_serve.specs.Steps.{GoesOn, HasGone, IsSteady, StopsSo}
use Rattle.warn_serve.specs.declared.links.LinkEnd.{LinkEnd}
use Rattle.warn_serve.specs.declared.links.LinkEnd.TheVariants.{Closed, Cut, Spent, LinkFault, OutOfMemory}

takes_none : (left : Option (List ℕ)) → Takes left left []
takes_none None = refl
takes_none (Some rest) = refl

pub adds_none : (taken : Option (List ℕ)) → Adds taken taken []
adds_none None = refl
adds_none (Some t) = ap (λ (l : List ℕ). Some l) (sym (append-nil t))

pub answers_append : (said : List Said) (s : Said) → answers_of (said ++ s ∷ []) ≡ answers_of said ++ s.answer
answers_append [] s = append-nil s.answer
answers_append (t ∷ said) s = ap (λ (l : List ℕ). t.answer ++ l) (answers_append said s) ∙ sym (append_assoc t.answer (answers_of said) s.answer)

pub calls_append : (said : List Said) (s : Said) → calls_of (said ++ s ∷ []) ≡ calls_of said ++ s.called ∷ []
calls_append said s = map-append (λ (t : Said). t.called) said (s ∷ [])

steady_none : (l : LinkState) → IsSteady l l
steady_none l = record { came = refl; reads = refl; writes = refl }

steady_on : (old mid new : LinkState) → IsSteady old mid → IsSteady mid new → IsSteady old new
steady_on old mid new a b = record { came = b.came ∙ a.came; reads = b.reads ∙ a.reads; writes = b.writes ∙ a.writes }

later_on : (old mid new : LinkState) → IsSteady old mid → IsLater mid new → IsLater old new
later_on old mid new a b = record { came = b.came ∙ a.came; reads = (let r = b.reads in let s = a.reads in omega arith); writes = (let w = b.writes in let s = a.writes in omega arith) }

later_if_steady : (old new : LinkState) → IsSteady old new → IsLater old new
later_if_steady old new a = record { came = a.came; reads = (let r = a.reads in omega arith); writes = (let w = a.writes in omega arith) }

count_same : (old mid : LinkState) → IsSteady old mid → faults_of mid ≡ faults_of old
count_same old mid a = let r = a.reads in let w = a.writes in omega arith

pub keeps_none : {B E : Type 0} (p : PassRecord B E) → KeepsRights p p
keeps_none p = record { lock = refl; base = refl; first = refl; shares = refl }

pub keeps_on : {B E : Type 0} (p q r : PassRecord B E) → KeepsRights p q → KeepsRights q r → KeepsRights p r
keeps_on p q r a b = record { lock = b.lock ∙ a.lock; base = b.base ∙ a.base; first = b.first ∙ a.first; shares = b.shares ∙ a.shares }

-- an end that comes before the first call comes before the last one
count_of : (end : LinkEnd) (n : ℕ) → HasCount end 0 → n < most_calls → HasCount end n
count_of Closed n early few = few
count_of Cut n early few = few
count_of Spent n early few = absurd (omega (arith, early))
count_of LinkFault n early few = few
count_of OutOfMemory n early few = few

module _ {P : Type 0} (answers : Called → P → P → List ℕ → Type 0) where
  pub answered_on : (old mid new : P) (said : List Said) (s : Said) → Answered answers old said mid → answers s.called mid new s.answer → Answered answers old (said ++ s ∷ []) new
  answered_on old mid new [] s is h = (new, subst (λ (z : P). answers s.called z new s.answer) is h, refl)
  answered_on old mid new (t ∷ said) s a h = (a.0, a.1, answered_on a.0 mid new said s a.2 h)

  pub gone_none : (link : LinkState) (pass : P) → HasGone answers link link pass pass [] 0
  gone_none link pass = record {
    read = [];
    said = [];
    takes = takes_none link.input.left;
    cut = refl;
    answered = refl;
    adds = adds_none link.output.taken;
    counted = refl;
    steady = steady_none link;
  }

  -- one call more
  pub goes_on : (old mid new : LinkState) (pass pass' pass'' : P) (held held' : List ℕ) (n : ℕ) → HasGone answers old mid pass pass' held n → GoesOn answers mid new pass' pass'' held held' → HasGone answers old new pass pass'' held' (n + 1)
  goes_on old mid new pass pass' pass'' held held' n g o =
      let s : Said = record { called = o.one.called; answer = o.answer } in
      let more = cut_stays g.read o.read (calls_of g.said) held g.cut in
      let on = cut_more (g.read ++ o.read) (calls_of g.said) (held ++ o.read) o.one.called more o.one.stands o.stays_open in
      record {
        read = g.read ++ o.read;
        said = g.said ++ s ∷ [];
        takes = takes_both old.input.left mid.input.left new.input.left g.read o.read (g.read ++ o.read) g.takes o.takes refl;
        cut = subst (λ (h : List ℕ). IsCut (g.read ++ o.read) (calls_of (g.said ++ s ∷ [])) h) (sym o.behind) (subst (λ (l : List Called). IsCut (g.read ++ o.read) l (drop o.one.called.used (held ++ o.read))) (sym (calls_append g.said s)) on);
        answered = answered_on pass pass' pass'' g.said s g.answered o.one.judged;
        adds = adds_both old.output.taken mid.output.taken new.output.taken (answers_of g.said) o.answer (answers_of (g.said ++ s ∷ [])) g.adds o.adds (sym (answers_append g.said s));
        counted = (let c = g.counted in let l = length-append g.said (s ∷ []) in omega arith);
        steady = steady_on old mid new g.steady o.steady;
      }

module _ {P : Type 0} (answers lost : Called → P → P → List ℕ → Type 0) where
  -- the end behind so many calls
  pub stops_at : (old mid new : LinkState) (pass pass' pass'' : P) (held : List ℕ) (n : ℕ) (end : LinkEnd) → HasGone answers old mid pass pass' held n → n < most_calls → StopsSo answers lost mid new pass' pass'' held end → IsServedLink answers lost old new pass pass'' end
  stops_at old mid new pass pass' pass'' held n end g few s = record {
    read = g.read ++ s.read;
    written = answers_of g.said ++ s.tail;
    takes = takes_both old.input.left mid.input.left new.input.left g.read s.read (g.read ++ s.read) g.takes s.takes refl;
    adds = adds_both old.output.taken mid.output.taken new.output.taken (answers_of g.said) s.tail (answers_of g.said ++ s.tail) g.adds s.adds refl;
    run = record {
      said = g.said;
      rest = held ++ s.read;
      mid = pass';
      tail = s.tail;
      cut = cut_stays g.read s.read (calls_of g.said) held g.cut;
      answered = g.answered;
      told = refl;
      count = count_of end (length g.said) s.early (let c = g.counted in omega (arith, few));
      ends = subst (λ (m : ℕ). EndsSo answers lost (HasEnded new) (Rose m (faults_of new)) (held ++ s.read) pass' pass'' s.tail end) (count_same old mid g.steady) s.ends;
    };
    later = later_on old mid new g.steady s.later;
  }

  -- the end behind the most calls
  pub spent_at : (old new : LinkState) (pass pass' : P) (held : List ℕ) (n : ℕ) → HasGone answers old new pass pass' held n → n ≡ most_calls → IsServedLink answers lost old new pass pass' Spent
  spent_at old new pass pass' held n g all = record {
    read = g.read;
    written = answers_of g.said;
    takes = g.takes;
    adds = g.adds;
    run = record {
      said = g.said;
      rest = held;
      mid = pass';
      tail = [];
      cut = g.cut;
      answered = g.answered;
      told = sym (append-nil (answers_of g.said));
      count = g.counted ∙ all;
      ends = record { unused = refl; unwritten = refl };
    };
    later = later_if_steady old new g.steady;
  }

  -- no call was read for want of memory
  pub not_begun : (link : LinkState) (pass : P) → IsServedLink answers lost link link pass pass OutOfMemory
  not_begun link pass = record {
    read = [];
    written = [];
    takes = takes_none link.input.left;
    adds = adds_none link.output.taken;
    run = record {
      said = [];
      rest = [];
      mid = pass;
      tail = [];
      cut = refl;
      answered = refl;
      told = refl;
      count = omega arith;
      ends = inl (record { unused = refl; unwritten = refl });
    };
    later = later_if_steady link link (steady_none link);
  }
