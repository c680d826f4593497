-- Each step of the lock keeps its rule.
use Rattle.std.proofs.Common.{◌≡◌, ◌≢◌, ◌⊎◌, ℕ, zero, suc, ◌+◌, ◌%◌, ◌^◌, ◌<◌, ◌≤◌, eqb, List, [], ◌∷◌, ◌++◌, length, get_or, set, sym, refl, ap, ◌∙◌, subst, ⊎_elim, inl, inr, arith, Option, Some, None, length-set, length-append, get_or-set_other, get_or-set_same}
use Rattle.std.specs.Prelude.{IsSome}
use mathlib.Core.Logic.{dite}
use mathlib.Core.Option.{none, some, some-ne-none, some-injective}
use mathlib.Core.Option as maybe
use mathlib.Core.List.{IsPrefix}
use native.Mathlib.Decide.{ℕ_discrete, dec_le}
use lib.ListN.{get_elem?}
use lib.Seq.{set-get_or}
use prog.Atomic.{either}
use Rattle.atomic_table.specs.Table.{State, Me, Act, Valid, carried_after, step, keeps, takes, gives, stepped, Allows, Splits, Joins, opening, Final, Seen}
use Rattle.atomic_table.proofs.Lists.{at_set, at_snoc, at_last, at_longer, set_here, set_else, set_again, exchanged}
use Rattle.turn_lock.specs.declared.view.View.{View}
use Rattle.turn_lock.specs.declared.view.Stage.{Stage}
use Rattle.turn_lock.specs.declared.view.Stage.TheVariants.{Idle, Waits, Serves, Learnt}
use Rattle.turn_lock.specs.Passes.{LockName, longer, base_in, pass_of, Closes}
use Rattle.turn_lock.specs.Turns.{staged, starting, ticket_of, cut, given, both, spent, taught, grown, turn_of, Stands, Lives, IsSpent, IsFree, KeepsTurns, drawn, looked, learns, adds, passed, settles}
use Rattle.turn_lock.proofs.Parts.{has_base, at_index, contains_at, put, put_here, put_else, taken_out, inside, at_snoc', at_both, at_right, prefix_length, prefix_whole, prefix_more, prefix_same, total_set, total_snoc, total_only, total_two, longer_is, shorter_is}

module _ {E : Type 0} where
  abbrev ticket_or : ℕ → Stage E → ℕ
  ticket_or d Idle = d
  ticket_or d (Waits n) = n
  ticket_or d (Serves n held) = n
  ticket_or d (Learnt n) = n

  abbrev held_or : List E → Stage E → List E
  held_or d (Serves n held) = held
  held_or d x = d

  -- what another seat knows stays so when the next ticket is drawn
  others_draw : (owner : ℕ → ℕ) (next serving me seat : ℕ) (log seen : List E) → (x : Stage E) → Stands owner next serving log seat seen x → Stands (put owner next me) (next + 1) serving log seat seen x
  others_draw owner next serving me seat log seen Idle k = tt
  others_draw owner next serving me seat log seen (Waits n) k = let less = k.2 in (put_else owner next me n (λ e. omega arith) ∙ k.0, k.1, omega arith)
  others_draw owner next serving me seat log seen (Serves n held) k = let less = k.2 in (put_else owner next me n (λ e. omega arith) ∙ k.0, k.1, omega arith, k.3)
  others_draw owner next serving me seat log seen (Learnt n) k = let less = k.2 in (put_else owner next me n (λ e. omega arith) ∙ k.0, k.1, omega arith, k.3)

  -- what another seat knows stays so when the turn is passed on
  others_pass : (owner : ℕ → ℕ) (next serving me seat : ℕ) (log seen : List E) → owner serving ≡ me → seat ≢ me → (x : Stage E) → Stands owner next serving log seat seen x → Stands owner next (serving + 1) log seat seen x
  others_pass owner next serving me seat log seen mine other Idle k = tt
  others_pass owner next serving me seat log seen mine other (Waits n) k = let low = k.1 in let apart : n ≢ serving = λ e. other (sym k.0 ∙ (ap owner e ∙ mine)) in (k.0, omega arith, k.2)
  others_pass owner next serving me seat log seen mine other (Serves n held) k = absurd (other (sym k.0 ∙ (ap owner k.1 ∙ mine)))
  others_pass owner next serving me seat log seen mine other (Learnt n) k = absurd (other (sym k.0 ∙ (ap owner k.1 ∙ mine)))

  -- and when the one that has the turn adds to the list
  others_add : (owner : ℕ → ℕ) (next serving me seat : ℕ) (log now seen : List E) → owner serving ≡ me → seat ≢ me → (x : Stage E) → Stands owner next serving log seat seen x → Stands owner next serving now seat seen x
  others_add owner next serving me seat log now seen mine other Idle k = tt
  others_add owner next serving me seat log now seen mine other (Waits n) k = k
  others_add owner next serving me seat log now seen mine other (Serves n held) k = absurd (other (sym k.0 ∙ (ap owner k.1 ∙ mine)))
  others_add owner next serving me seat log now seen mine other (Learnt n) k = absurd (other (sym k.0 ∙ (ap owner k.1 ∙ mine)))

  -- who has the turn has the ticket that is served
  has_turn : (owner : ℕ → ℕ) (next serving : ℕ) (log : List E) (seat : ℕ) (seen : List E) (x : Stage E) → Stands owner next serving log seat seen x → turn_of x ≢ 0 → owner serving ≡ seat
  has_turn owner next serving log seat seen Idle k on = absurd (on refl)
  has_turn owner next serving log seat seen (Waits n) k on = absurd (on refl)
  has_turn owner next serving log seat seen (Serves n held) k on = ap owner (sym k.1) ∙ k.0
  has_turn owner next serving log seat seen (Learnt n) k on = ap owner (sym k.1) ∙ k.0

abbrev chosen : {P : Type 0} → Dec P → ℕ → ℕ → ℕ
chosen (yes _) a b = a
chosen (no _) a b = b

chosen_here : (i j a b : ℕ) → i ≡ j → chosen (ℕ_discrete i j) a b ≡ a
chosen_here i j a b e = go (ℕ_discrete i j)
  where
    go : (d : Dec (i ≡ j)) → chosen d a b ≡ a
    go (yes _) = refl
    go (no n) = absurd (n e)

chosen_else : (i j a b : ℕ) → i ≢ j → chosen (ℕ_discrete i j) a b ≡ b
chosen_else i j a b n = go (ℕ_discrete i j)
  where
    go : (d : Dec (i ≡ j)) → chosen d a b ≡ b
    go (yes e) = absurd (n e)
    go (no _) = refl

module _ {E : Type 0} where
  -- who has not the turn does not stand on what it has seen
  off_stands : (owner : ℕ → ℕ) (next serving : ℕ) (log : List E) (seat : ℕ) (seen now : List E) (x : Stage E) → turn_of x ≡ 0 → Stands owner next serving log seat seen x → Stands owner next serving log seat now x
  off_stands owner next serving log seat seen now Idle z k = tt
  off_stands owner next serving log seat seen now (Waits n) z k = k
  off_stands owner next serving log seat seen now (Serves n held) z k = k
  off_stands owner next serving log seat seen now (Learnt n) z k = absurd (omega arith)

-- the value that is there, or another one
abbrev value_or : {X : Type 0} → X → Option X → X
value_or d None = d
value_or d (Some x) = x

value_is : {X : Type 0} (a b : X) → Some a ≡ Some b → a ≡ b
value_is a b e = ap (value_or a) e

-- a word that its type holds
fits : (a : ℕ) → a < 2 ^ 64 → a % 2 ^ 64 ≡ a
fits a h = omega arith

module _ (T B E : Type 0) (base_of : T → B) (story_of : T → List E) where
  abbrev V : Type 0
  V = View B E

  abbrev S : Type 0
  S = State (Option T) V

  abbrev Homes : Type 0
  Homes = List (maybe.Option (Option T))

  abbrev Rule : S → Type 0
  Rule = KeepsTurns base_of story_of

  abbrev Home : (s : S) → B → List E → Type 0
  Home s b log = (x : T) × (get_elem? s.homes 0 ≡ some (some (Some x))) × (base_of x ≡ b) × (story_of x ≡ log)

  abbrev LivesIn : (s : S) (r : Rule s) → ℕ → V → Type 0
  LivesIn s r = Lives r.base r.first r.owner (get_or s.words 0 0) (get_or s.words 1 0) r.log

  live : (s : S) (r : Rule s) (me : ℕ) (v : V) (b : B) → get_elem? s.views me ≡ some v → v.base ≡ Some b → LivesIn s r me v
  live s r me v b at is = go (r.each me v at)
    where
      full : Option B → ℕ
      full None = 0
      full (Some x) = 1

      go : IsSpent v ⊎ LivesIn s r me v → LivesIn s r me v
      go (inl x) = absurd (let t = ap full (sym is ∙ x.baseless) in omega arith)
      go (inr x) = x

  -- where nobody has the turn after a step of one who had it not, nobody had it before
  still_free : (s : S) (me : ℕ) (words : List ℕ) (homes : Homes) (v w : V) → get_elem? s.views me ≡ some v → turn_of v.stage ≡ 0 → IsFree record { words = words; homes = homes; views = set s.views me w } → IsFree s
  still_free s me words homes v w at away free j u e = dite (ℕ_discrete j me)
      (λ (same : j ≡ me). ap (λ (x : V). turn_of x.stage) (some-injective u v (sym e ∙ (ap (get_elem? s.views) same ∙ at))) ∙ away)
      (λ (other : j ≢ me). free j u (set_else s.views me j w other ∙ e))

  -- the view v of a seat becomes w, with the same entries of its own and shares; the list stays
  moves : (s : S) (r : Rule s) (me : ℕ) (v w : V) (owner : ℕ → ℕ) (words : List ℕ) (homes : Homes) → get_elem? s.views me ≡ some v → w.mine ≡ v.mine → w.shares ≡ v.shares → length v.seen ≤ length w.seen
      → length words ≡ 3 → length homes ≡ 1 → get_or words 0 0 + ticket_of v.stage + get_or s.words 1 0 ≡ get_or words 1 0 + ticket_of w.stage + get_or s.words 0 0 → get_or words 0 0 < 18446744073709551616 → get_or words 2 0 ≡ get_or s.words 2 0
      → Lives r.base r.first owner (get_or words 0 0) (get_or words 1 0) r.log me w
      → ((j : ℕ) (u : V) → j ≢ me → Stands r.owner (get_or s.words 0 0) (get_or s.words 1 0) r.log j u.seen u.stage → Stands owner (get_or words 0 0) (get_or words 1 0) r.log j u.seen u.stage)
      → (IsFree record { words = words; homes = homes; views = set s.views me w } → Home record { words = words; homes = homes; views = set s.views me w } r.base r.log)
      → Rule record { words = words; homes = homes; views = set s.views me w }
  moves s r me v w owner words homes at mine shares seen wide deep ticketed small count known others home = record {
    base = r.base;
    first = r.first;
    log = r.log;
    owner = owner;
    author = r.author;
    rank = r.rank;
    wide = wide;
    deep = deep;
    tickets = (let t = total_set (λ (x : V). ticket_of x.stage) s.views me v w at in let a = r.tickets in omega arith);
    small = small;
    count = count ∙ r.count;
    start = r.start;
    places = (let t = total_set (λ (x : V). length x.mine) s.views me v w at in let k : length w.mine ≡ length v.mine = ap length mine in let a = r.places in omega arith);
    each = λ j u e. ⊎_elim
        (λ (t : (j ≡ me) × (w ≡ u)). inr (subst (λ (x : ℕ × V). Lives r.base r.first owner (get_or words 0 0) (get_or words 1 0) r.log x.0 x.1) (λ i. (sym t.0 i, t.1 i)) known))
        (λ (t : (j ≢ me) × (get_elem? s.views j ≡ some u)). ⊎_elim inl (λ (l : LivesIn s r j u). inr record { based = l.based; began = l.began; prefix = l.prefix; opened = l.opened; met = l.met; shared = l.shared; stands = others j u t.0 l.stands }) (r.each j u t.1))
        (at_set s.views me j w u e);
    theirs = λ j u e i p q. ⊎_elim
        (λ (t : (j ≡ me) × (w ≡ u)).
        let old = r.theirs me v at i p (subst (λ (l : List ℕ). get_elem? l i ≡ some p) (ap (λ (x : V). x.mine) (sym t.1) ∙ mine) q) in
        let most : length w.seen ≡ length u.seen = ap (λ (x : V). length x.seen) t.1 in
        let low = old.3 in
        (old.0 ∙ sym t.0, old.1, old.2, omega arith))
        (λ (t : (j ≢ me) × (get_elem? s.views j ≡ some u)). r.theirs j u t.1 i p q)
        (at_set s.views me j w u e);
    made = λ p low high.
        let t = r.made p low high in
        dite (ℕ_discrete (r.author p) me)
        (λ is.
        let same : t.0 ≡ v = some-injective t.0 v (sym t.1 ∙ (ap (get_elem? s.views) is ∙ at)) in
        (w, ap (get_elem? (set s.views me w)) is ∙ set_here s.views me w (inside s.views me v at), subst (λ (l : List ℕ). get_elem? l (r.rank p) ≡ some p) (ap (λ (x : V). x.mine) same ∙ sym mine) t.2))
        (λ other. (t.0, set_else s.views me (r.author p) w other ∙ t.1, t.2));
    all_shares = (let t = total_set (λ (x : V). x.shares) s.views me v w at in let a = r.all_shares in omega arith);
    home = home;
  }

  -- a step that changes no word and no view
  same : (s : S) (i me : ℕ) (cs : List (ℕ × Option T)) (v : V) → get_elem? s.views me ≡ some v → Rule s → Rule (stepped s i (get_or s.words i 0) me cs v keeps)
  same s i me cs v at r = subst (λ (x : List ℕ × List V). Rule record { words = x.0; homes = s.homes; views = x.1 }) (λ k. (sym (set-get_or s.words i 0) k, sym (set_again s.views me v at) k)) r

  -- where a view has all shares, the others are spent
  others_spent : (s : S) (r : Rule s) (id : ℕ) (v : V) → get_elem? s.views id ≡ some v → v.shares ≡ 1024 → (j : ℕ) (u : V) → j ≢ id → get_elem? s.views j ≡ some u → IsSpent u
  others_spent s r id v at all j u other q = ⊎_elim
      (λ (z : IsSpent u). z)
      (λ (z : LivesIn s r j u).
      let t = total_two (λ (y : V). y.shares) s.views id j v u (λ e. other (sym e)) at q in
      let some_share = z.shared in
      let a = r.all_shares in
      absurd (omega arith))
      (r.each j u q)

  -- and each place from the first length on is its own
  all_mine : (s : S) (r : Rule s) (id : ℕ) (v : V) → get_elem? s.views id ≡ some v → v.shares ≡ 1024 → (p : ℕ) → r.first ≤ p → p < length r.log → get_elem? v.mine (r.rank p) ≡ some p
  all_mine s r id v at all p low high =
      let t = r.made p low high in
      let by_me : r.author p ≡ id = dite (ℕ_discrete (r.author p) id) (λ e. e) (λ other.
      absurd (some-ne-none p (sym t.2 ∙ ap (λ (z : List ℕ). get_elem? z (r.rank p)) (others_spent s r id v at all (r.author p) t.0 other t.1).empty))) in
      let same_view : t.0 ≡ v = some-injective t.0 v (sym t.1 ∙ (ap (get_elem? s.views) by_me ∙ at)) in
      ap (λ (z : V). get_elem? z.mine (r.rank p)) (sym same_view) ∙ t.2

  -- and it has seen the whole list
  seen_whole : (s : S) (r : Rule s) (id : ℕ) (v : V) → get_elem? s.views id ≡ some v → LivesIn s r id v → v.shares ≡ 1024 → r.log ≡ v.seen
  seen_whole s r id v at l all = prefix_whole v.seen r.log l.prefix (go (length r.log) refl)
    where
      go : (n : ℕ) → length r.log ≡ n → n ≤ length v.seen
      go zero e = omega arith
      go (suc p) e = dite (dec_le r.first p)
          (λ (low : r.first ≤ p). let t = (r.theirs id v at (r.rank p) p (all_mine s r id v at all p low (omega arith))).3 in omega arith)
          (λ (above : r.first ≤ p → ⊥). let t = l.opened in omega arith)

  pub starts : (x : T) (n : ℕ) → n ≡ length (story_of x) → Rule (opening (0 ∷ 0 ∷ n ∷ []) (Some x ∷ []) (starting (base_of x) (story_of x)))
  starts x n is = record {
    base = base_of x;
    first = length (story_of x);
    log = story_of x;
    owner = λ _. 0;
    author = λ _. 0;
    rank = λ _. 0;
    wide = refl;
    deep = refl;
    tickets = refl;
    small = omega arith;
    count = is;
    start = omega arith;
    places = omega arith;
    each = λ seat v e. inr (first_lives seat v (only seat v e).0 (only seat v e).1);
    theirs = λ seat v e i p q. absurd (nothing v.mine i p (ap (λ (u : V). u.mine) (sym (only seat v e).1)) q);
    made = λ p low high. absurd (omega arith);
    all_shares = refl;
    home = λ _. (x, refl, refl, refl);
  }
    where
      one : V
      one = starting (base_of x) (story_of x)

      only : (seat : ℕ) (v : V) → get_elem? (one ∷ []) seat ≡ some v → (seat ≡ 0) × (one ≡ v)
      only zero v e = (refl, some-injective one v e)
      only (suc seat) v e = absurd (some-ne-none v (sym e))

      nothing : (l : List ℕ) (i p : ℕ) → l ≡ [] → get_elem? l i ≡ some p → ⊥
      nothing l i p none_there e = some-ne-none p (sym e ∙ ap (λ (z : List ℕ). get_elem? z i) none_there)

      first_lives : (seat : ℕ) (v : V) → seat ≡ 0 → one ≡ v → Lives (base_of x) (length (story_of x)) (λ _. 0) 0 0 (story_of x) seat v
      first_lives seat v z e = subst (Lives (base_of x) (length (story_of x)) (λ _. 0) 0 0 (story_of x) seat) e record { based = refl; began = refl; prefix = prefix_same (story_of x); opened = omega arith; met = (story_of x, refl); shared = omega arith; stands = tt }

  pub draws : (slots id next : ℕ) (v : V) (b : B) → v.stage ≡ Idle → v.base ≡ Some b → next < 18446744073709551615
      → Allows Rule slots id (v, []) 0 (λ n. either (eqb n next) (next + 1) n) (drawn {T = T} (step slots 0 next (next + 1) none) (v, []))
  draws slots id next v b idle is small s r _ at _ =
      let n : ℕ = get_or s.words 0 0 in
      let wide = r.wide in
      let l = live s r id v b at is in
      exchanged n next (next + 1)
      (λ (k : ℕ). (w : V) × (a : Act (Option T)) × Valid s.homes [] a × Rule (stepped s 0 k id [] w a) × drawn (step slots 0 next (next + 1) none) (v, []) n (w, carried_after [] a))
      (λ hit.
      let w : V = staged (Waits n) v in
      let words : List ℕ = set s.words 0 (next + 1) in
      let put_in = get_or-set_same s.words 0 (next + 1) 0 (omega arith) in
      let here : get_or words 0 0 ≡ n + 1 = omega arith in
      let there : get_or words 1 0 ≡ get_or s.words 1 0 = get_or-set_other s.words 0 1 (next + 1) 0 (λ e. omega arith) in
      let low = r.tickets in
      let off : turn_of v.stage ≡ 0 = ap turn_of idle in
      let none_held : ticket_of v.stage ≡ 0 = ap ticket_of idle in (
        w,
        keeps,
        tt,
        moves s r id v w (put r.owner n id) words s.homes at refl refl (omega arith) (length-set s.words 0 (next + 1) ∙ wide) r.deep (omega arith) (omega arith) (get_or-set_other s.words 0 2 (next + 1) 0 (λ e. omega arith))
            (subst (λ (x : ℕ × ℕ). Lives r.base r.first (put r.owner n id) x.0 x.1 r.log id w) (λ k. (sym here k, sym there k))
            record { based = l.based; began = l.began; prefix = l.prefix; opened = l.opened; met = l.met; shared = l.shared; stands = (put_here r.owner n id, omega arith, omega arith) })
            (λ j u _ k. subst (λ (x : ℕ × ℕ). Stands (put r.owner n id) x.0 x.1 r.log j u.seen u.stage) (λ q. (sym here q, sym there q)) (others_draw r.owner n (get_or s.words 1 0) id j r.log u.seen u.stage k))
            (λ free. r.home (still_free s id words s.homes v w at off free)),
        ((λ _. refl), (λ ne. absurd (ne hit))),
      ))
      (λ miss. (v, keeps, tt, same s 0 id [] v at r, ((λ e. absurd (miss e)), (λ _. refl))))

  pub looks : (slots id n : ℕ) (v : V) (b : B) → v.stage ≡ Waits n → v.base ≡ Some b → Allows Rule slots id (v, []) 1 (λ k. k) (looked base_of story_of (step slots 1 0 0 none) (v, []))
  looks slots id n v b waits is s r _ at _ =
      let k : ℕ = get_or s.words 1 0 in
      let top : ℕ = get_or s.words 0 0 in
      let l = live s r id v b at is in
      let mine = subst (Stands r.owner top k r.log id v.seen) waits l.stands in
      let deep = r.deep in
      let off : turn_of v.stage ≡ 0 = ap turn_of waits in
      let held_one : ticket_of v.stage ≡ 1 = ap ticket_of waits in
      dite (ℕ_discrete k n)
      (λ hit.
      let free : IsFree s = (λ j u e. dite (ℕ_discrete (turn_of u.stage) 0) (λ z. z) (λ on. ⊎_elim
      (λ (x : IsSpent u). ap turn_of x.idle)
      (λ (x : LivesIn s r j u).
      let one : j ≡ id = sym (has_turn r.owner top k r.log j u.seen u.stage x.stands on) ∙ (ap r.owner hit ∙ mine.0) in
      ap (λ (y : V). turn_of y.stage) (some-injective u v (sym e ∙ (ap (get_elem? s.views) one ∙ at))) ∙ off)
      (r.each j u e))) in
      let there = r.home free in
      let held : List E = story_of there.0 in
      let w : V = staged (Serves n held) v in (
        w,
        takes 0 (Some there.0),
        there.1,
        subst (λ (ws : List ℕ). Rule record { words = ws; homes = set s.homes 0 none; views = set s.views id w }) (sym (set-get_or s.words 1 0))
            (moves s r id v w r.owner s.words (set s.homes 0 none) at refl refl (omega arith) r.wide (length-set s.homes 0 none ∙ deep) (omega arith) r.small refl
            record { based = l.based; began = l.began; prefix = l.prefix; opened = l.opened; met = l.met; shared = l.shared; stands = (mine.0, sym hit, mine.2, there.3) }
            (λ j u _ x. x)
            (λ none_serves. absurd (let t : turn_of (Serves n held) ≡ 0 = none_serves id w (set_here s.views id w (inside s.views id v at)) in omega arith))),
        (λ m m_is.
            let ticket : n ≡ m = ap (ticket_or 0) (sym waits ∙ m_is) in
            ((λ _. (there.0, (λ i. (staged (Serves (ticket i) held) v, (0, Some there.0) ∷ [])), l.based ∙ ap (λ (z : B). let o : Option B = Some z in o) (sym there.2), subst (IsPrefix v.seen) (sym there.3) l.prefix, (λ all. there.3 ∙ seen_whole s r id v at l all))), (λ ne. absurd (ne (hit ∙ ticket))))),
      ))
      (λ miss. (v, keeps, tt, same s 1 id [] v at r, (λ m m_is. let ticket : n ≡ m = ap (ticket_or 0) (sym waits ∙ m_is) in ((λ e. absurd (miss (e ∙ sym ticket))), (λ _. refl)))))

  pub learns_all : (slots id n : ℕ) (held : List E) (v : V) (b : B) (more : List (ℕ × Option T)) → v.stage ≡ Serves n held → v.base ≡ Some b
      → Allows Rule slots id (v, more) 2 (λ k. k) (learns {T = T} (step slots 2 0 0 none) (v, more))
  learns_all slots id n held v b more serves is s r _ at _ =
      let k : ℕ = get_or s.words 1 0 in
      let top : ℕ = get_or s.words 0 0 in
      let l = live s r id v b at is in
      let mine = subst (Stands r.owner top k r.log id v.seen) serves l.stands in
      let whole : held ≡ r.log = mine.3 in
      let w : V = taught n held v in
      let held_one : ticket_of v.stage ≡ 1 = ap ticket_of serves in
      let longer_now : length v.seen ≤ length held = (let t : length v.seen ≤ length r.log = prefix_length v.seen r.log l.prefix in let e : length held ≡ length r.log = ap length whole in omega arith) in (
        w,
        keeps,
        tt,
        subst (λ (ws : List ℕ). Rule record { words = ws; homes = s.homes; views = set s.views id w }) (sym (set-get_or s.words 2 0))
            (moves s r id v w r.owner s.words s.homes at refl refl longer_now r.wide r.deep (omega arith) r.small refl
            record { based = l.based; began = l.began; prefix = subst (λ (z : List E). IsPrefix z r.log) (sym whole) (prefix_same r.log); opened = (let t = l.opened in omega arith); met = (held, refl); shared = l.shared; stands = (mine.0, mine.1, mine.2, whole) }
            (λ j u _ x. x)
            (λ none_serves. absurd (let st : Stage E = Learnt n in let t : turn_of st ≡ 0 = none_serves id w (set_here s.views id w (inside s.views id v at)) in omega arith))),
        (λ m h m_is.
            let ticket : n ≡ m = ap (ticket_or 0) (sym serves ∙ m_is) in
            let same_held : held ≡ h = ap (held_or []) (sym serves ∙ m_is) in
            ((λ i. (taught (ticket i) (same_held i) v, more)), r.count ∙ ap length (sym whole ∙ same_held))),
      )

  pub passes : (slots id n : ℕ) (v : V) (b : B) (x : T) → v.stage ≡ Learnt n → v.base ≡ Some b → b ≡ base_of x → story_of x ≡ v.seen
      → Allows Rule slots id (v, (0, Some x) ∷ []) 1 (λ k. (k + 1) % 2 ^ 64) (passed (step slots 1 1 0 none) (v, (0, Some x) ∷ []))
  passes slots id n v b x learnt is base story s r _ at small =
      let k : ℕ = get_or s.words 1 0 in
      let top : ℕ = get_or s.words 0 0 in
      let l = live s r id v b at is in
      let mine = subst (Stands r.owner top k r.log id v.seen) learnt l.stands in
      let turn = mine.1 in
      let less = mine.2 in
      let wide = r.wide in
      let deep = r.deep in
      let bound = r.small in
      let y : ℕ = (k + 1) % 2 ^ 64 in
      let next : y ≡ k + 1 = fits (k + 1) (omega arith) in
      let words : List ℕ = set s.words 1 y in
      let here : get_or words 1 0 ≡ k + 1 = get_or-set_same s.words 1 y 0 (omega arith) ∙ next in
      let there : get_or words 0 0 ≡ top = get_or-set_other s.words 1 0 y 0 (λ e. omega arith) in
      let w : V = staged Idle v in
      let held_one : ticket_of v.stage ≡ 1 = ap ticket_of learnt in
      let some_b : b ≡ r.base = value_is b r.base (sym is ∙ l.based) in (
        w,
        gives,
        tt,
        moves s r id v w r.owner words (set s.homes 0 (some (Some x))) at refl refl (omega arith) (length-set s.words 1 y ∙ wide) (length-set s.homes 0 (some (Some x)) ∙ deep) (omega arith)
            (subst (λ (z : ℕ). z < 18446744073709551616) (sym there) r.small) (get_or-set_other s.words 1 2 y 0 (λ e. omega arith))
            record { based = l.based; began = l.began; prefix = l.prefix; opened = l.opened; met = l.met; shared = l.shared; stands = tt }
            (λ j u other q. subst (λ (z : ℕ × ℕ). Stands r.owner z.0 z.1 r.log j u.seen u.stage) (λ i. (sym there i, sym here i)) (others_pass r.owner top k id j r.log u.seen (ap r.owner (sym turn) ∙ mine.0) other u.stage q))
            (λ _. (x, set_here s.homes 0 (some (Some x)) (omega arith), sym base ∙ some_b, story ∙ mine.3)),
        refl,
      )

  -- an entry of one's own stands in the list
  under : (s : S) (r : Rule s) (j : ℕ) (u : V) → get_elem? s.views j ≡ some u → (i p : ℕ) → get_elem? u.mine i ≡ some p → p < length r.log
  under s r j u q i p f = ⊎_elim
      (λ (z : IsSpent u). absurd (let t = inside u.mine i p f in let e : length u.mine ≡ 0 = ap length z.empty in omega arith))
      (λ (z : LivesIn s r j u). let t = r.theirs j u q i p f in let low = t.3 in let le = prefix_length u.seen r.log z.prefix in omega arith)
      (r.each j u q)

  pub adds_one : (slots id n : ℕ) (v : V) (b : B) (x : T) (e : E) → v.stage ≡ Learnt n → v.base ≡ Some b → story_of x ≡ v.seen ++ e ∷ [] → length (story_of x) < 18446744073709551616
      → Allows Rule slots id (v, (0, Some x) ∷ []) 2 (λ k. (k + 1) % 2 ^ 64) (adds story_of (step slots 2 1 0 none) (v, (0, Some x) ∷ []))
  adds_one slots id n v b x e learnt is story short s r _ at small =
      let k : ℕ = get_or s.words 1 0 in
      let top : ℕ = get_or s.words 0 0 in
      let len : ℕ = get_or s.words 2 0 in
      let l = live s r id v b at is in
      let mine = subst (Stands r.owner top k r.log id v.seen) learnt l.stands in
      let wide = r.wide in
      let whole : v.seen ≡ r.log = mine.3 in
      let now : List E = story_of x in
      let more : now ≡ r.log ++ e ∷ [] = story ∙ ap (λ (z : List E). z ++ e ∷ []) whole in
      let long : length now ≡ length r.log + 1 = ap length more ∙ length-append r.log (e ∷ []) in
      let count = r.count in
      let start = r.start in
      let seen_len : length v.seen ≡ length r.log = ap length whole in
      let y : ℕ = (len + 1) % 2 ^ 64 in
      let next : y ≡ len + 1 = fits (len + 1) (omega arith) in
      let words : List ℕ = set s.words 2 y in
      let here : get_or words 2 0 ≡ len + 1 = get_or-set_same s.words 2 y 0 (omega arith) ∙ next in
      let same0 : get_or words 0 0 ≡ top = get_or-set_other s.words 2 0 y 0 (λ q. omega arith) in
      let same1 : get_or words 1 0 ≡ k = get_or-set_other s.words 2 1 y 0 (λ q. omega arith) in
      let w : V = grown now v in
      let at_ticket : r.owner k ≡ id = ap r.owner (sym mine.1) ∙ mine.0 in
      let grows : (xs : List E) → IsPrefix xs r.log → IsPrefix xs now = (λ xs p. subst (IsPrefix xs) (sym more) (prefix_more xs r.log (e ∷ []) p)) in
      let some_tickets = r.tickets in
      let some_places = r.places in
      let more_mine : length w.mine ≡ length v.mine + 1 = length-append v.mine (length v.seen ∷ []) in
      let room : id < length s.views = inside s.views id v at in (
        w,
        keeps,
        tt,
        record {
          base = r.base;
          first = r.first;
          log = now;
          owner = r.owner;
          author = put r.author (length r.log) id;
          rank = put r.rank (length r.log) (length v.mine);
          wide = length-set s.words 2 y ∙ wide;
          deep = r.deep;
          tickets = (let t = total_set (λ (z : V). ticket_of z.stage) s.views id v w at in omega arith);
          small = subst (λ (z : ℕ). z < 18446744073709551616) (sym same0) r.small;
          count = omega arith;
          start = omega arith;
          places = (let t = total_set (λ (z : V). length z.mine) s.views id v w at in omega arith);
          each = λ j u q. ⊎_elim
              (λ (t : (j ≡ id) × (w ≡ u)). inr (subst (λ (z : ℕ × V). Lives r.base r.first r.owner (get_or words 0 0) (get_or words 1 0) now z.0 z.1) (λ i. (sym t.0 i, t.1 i))
              (subst (λ (z : ℕ × ℕ). Lives r.base r.first r.owner z.0 z.1 now id w) (λ i. (sym same0 i, sym same1 i))
              record { based = l.based; began = l.began; prefix = prefix_same now; opened = (let t = l.opened in omega arith); met = (now, refl); shared = l.shared; stands = subst (Stands r.owner top k now id now) (sym learnt) (mine.0, mine.1, mine.2, refl) })))
              (λ (t : (j ≢ id) × (get_elem? s.views j ≡ some u)). ⊎_elim inl
              (λ (o : LivesIn s r j u). inr (subst (λ (z : ℕ × ℕ). Lives r.base r.first r.owner z.0 z.1 now j u) (λ i. (sym same0 i, sym same1 i))
              record { based = o.based; began = o.began; prefix = grows u.seen o.prefix; opened = o.opened; met = o.met; shared = o.shared; stands = others_add r.owner top k id j r.log now u.seen at_ticket t.0 u.stage o.stands }))
              (r.each j u t.1))
              (at_set s.views id j w u q);
          theirs = λ j u q i p f. ⊎_elim
              (λ (t : (j ≡ id) × (w ≡ u)).
              let most : length w.seen ≡ length u.seen = ap (λ (z : V). length z.seen) t.1 in
              ⊎_elim
              (λ (old : get_elem? v.mine i ≡ some p).
              let o = r.theirs id v at i p old in
              let below = o.3 in
              let apart : p ≢ length r.log = (λ z. omega arith) in
              (put_else r.author (length r.log) id p apart ∙ (o.0 ∙ sym t.0), put_else r.rank (length r.log) (length v.mine) p apart ∙ o.1, o.2, omega arith))
              (λ (new : (i ≡ length v.mine) × (length v.seen ≡ p)).
              let p_is : p ≡ length r.log = sym new.1 ∙ seen_len in
              (ap (put r.author (length r.log) id) p_is ∙ (put_here r.author (length r.log) id ∙ sym t.0), ap (put r.rank (length r.log) (length v.mine)) p_is ∙ (put_here r.rank (length r.log) (length v.mine) ∙ sym new.0), omega arith, omega arith))
              (at_snoc' v.mine (length v.seen) p i (subst (λ (z : V). get_elem? z.mine i ≡ some p) (sym t.1) f)))
              (λ (t : (j ≢ id) × (get_elem? s.views j ≡ some u)).
              let o = r.theirs j u t.1 i p f in
              let below = o.3 in
              let least = under s r j u t.1 i p f in
              let apart : p ≢ length r.log = (λ z. omega arith) in
              (put_else r.author (length r.log) id p apart ∙ o.0, put_else r.rank (length r.log) (length v.mine) p apart ∙ o.1, o.2, o.3))
              (at_set s.views id j w u q);
          made = λ p low high. dite (ℕ_discrete p (length r.log))
              (λ (p_is : p ≡ length r.log). (
                w,
                ap (get_elem? (set s.views id w)) (ap (put r.author (length r.log) id) p_is ∙ put_here r.author (length r.log) id) ∙ set_here s.views id w room,
                ap (get_elem? w.mine) (ap (put r.rank (length r.log) (length v.mine)) p_is ∙ put_here r.rank (length r.log) (length v.mine)) ∙ (at_last v.mine (length v.seen) (length v.mine) refl ∙ ap (λ (z : ℕ). let o : maybe.Option ℕ = some z in o) (seen_len ∙ sym p_is)),
              ))
              (λ (apart : p ≢ length r.log).
              let t = r.made p low (omega arith) in
              let author_is = put_else r.author (length r.log) id p apart in
              let rank_is = put_else r.rank (length r.log) (length v.mine) p apart in
              dite (ℕ_discrete (r.author p) id)
              (λ by_me.
              let same_view : t.0 ≡ v = some-injective t.0 v (sym t.1 ∙ (ap (get_elem? s.views) by_me ∙ at)) in (
                w,
                ap (get_elem? (set s.views id w)) (author_is ∙ by_me) ∙ set_here s.views id w room,
                ap (get_elem? w.mine) rank_is ∙ at_longer v.mine (length v.seen ∷ []) (r.rank p) p (ap (λ (z : V). get_elem? z.mine (r.rank p)) (sym same_view) ∙ t.2),
              ))
              (λ by_other. (t.0, ap (get_elem? (set s.views id w)) author_is ∙ (set_else s.views id (r.author p) w by_other ∙ t.1), ap (get_elem? t.0.mine) rank_is ∙ t.2)));
          all_shares = (let t = total_set (λ (z : V). z.shares) s.views id v w at in let a = r.all_shares in omega arith);
          home = λ none_serves. absurd (let t : turn_of v.stage ≡ 0 = none_serves id w (set_here s.views id w room) in let o : turn_of v.stage ≡ 1 = ap turn_of learnt in omega arith);
        },
        (λ x' more' got. let is' : Some x ≡ Some x' = taken_out (Some x) (Some x') [] more' got in λ i. (grown (story_of (value_or x (is' i))) v, (0, Some x) ∷ [])),
      )

  pub splits : (id : ℕ) (v : V) (b : B) → v.base ≡ Some b → 2 ≤ v.shares → Splits Rule id v (cut v) (given v)
  splits id v b is two s r at =
      let l = live s r id v b at is in
      let w : V = cut v in
      let o : V = given v in
      let vs : List V = set s.views id w in
      let size = length-set s.views id w in
      let room : id < length s.views = inside s.views id v at in record {
        base = r.base;
        first = r.first;
        log = r.log;
        owner = r.owner;
        author = r.author;
        rank = r.rank;
        wide = r.wide;
        deep = r.deep;
        tickets = (let t = total_set (λ (z : V). ticket_of z.stage) s.views id v w at in let n = total_snoc (λ (z : V). ticket_of z.stage) vs o in let a = r.tickets in omega arith);
        small = r.small;
        count = r.count;
        start = r.start;
        places = (let t = total_set (λ (z : V). length z.mine) s.views id v w at in let n = total_snoc (λ (z : V). length z.mine) vs o in let a = r.places in omega arith);
        each = λ j u q. ⊎_elim
            (λ (q' : get_elem? vs j ≡ some u). ⊎_elim
            (λ (t : (j ≡ id) × (w ≡ u)). inr (subst (λ (z : ℕ × V). LivesIn s r z.0 z.1) (λ i. (sym t.0 i, t.1 i)) record { based = l.based; began = l.began; prefix = l.prefix; opened = l.opened; met = l.met; shared = omega arith; stands = l.stands }))
            (λ (t : (j ≢ id) × (get_elem? s.views j ≡ some u)). r.each j u t.1)
            (at_set s.views id j w u q'))
            (λ (new : o ≡ u). inr (subst (LivesIn s r j) new record { based = l.based; began = l.began; prefix = l.prefix; opened = l.opened; met = (v.seen, refl); shared = omega arith; stands = tt }))
            (at_snoc vs o u j q);
        theirs = λ j u q i p f. ⊎_elim
            (λ (q' : get_elem? vs j ≡ some u). ⊎_elim
            (λ (t : (j ≡ id) × (w ≡ u)).
            let old = r.theirs id v at i p (subst (λ (z : V). get_elem? z.mine i ≡ some p) (sym t.1) f) in
            let most : length v.seen ≡ length u.seen = ap (λ (z : V). length z.seen) t.1 in
            let low = old.3 in
            (old.0 ∙ sym t.0, old.1, old.2, omega arith))
            (λ (t : (j ≢ id) × (get_elem? s.views j ≡ some u)). r.theirs j u t.1 i p f)
            (at_set s.views id j w u q'))
            (λ (new : o ≡ u). absurd (some-ne-none p (sym (subst (λ (z : V). get_elem? z.mine i ≡ some p) (sym new) f))))
            (at_snoc vs o u j q);
        made = λ p low high.
            let t = r.made p low high in
            dite (ℕ_discrete (r.author p) id)
            (λ by_me.
            let same_view : t.0 ≡ v = some-injective t.0 v (sym t.1 ∙ (ap (get_elem? s.views) by_me ∙ at)) in
            (w, at_longer vs (o ∷ []) (r.author p) w (ap (get_elem? vs) by_me ∙ set_here s.views id w room), ap (λ (z : V). get_elem? z.mine (r.rank p)) (sym same_view) ∙ t.2))
            (λ by_other. (t.0, at_longer vs (o ∷ []) (r.author p) t.0 (set_else s.views id (r.author p) w by_other ∙ t.1), t.2));
        all_shares = (let t = total_set (λ (z : V). z.shares) s.views id v w at in let n = total_snoc (λ (z : V). z.shares) vs o in let a = r.all_shares in omega arith);
        home = λ free. r.home (λ j u q. dite (ℕ_discrete j id)
            (λ (same_seat : j ≡ id).
            let u_is : u ≡ v = some-injective u v (sym q ∙ (ap (get_elem? s.views) same_seat ∙ at)) in
            ap (λ (z : V). turn_of z.stage) u_is ∙ free id w (at_longer vs (o ∷ []) id w (set_here s.views id w room)))
            (λ (other : j ≢ id). free j u (at_longer vs (o ∷ []) j u (set_else s.views id j w other ∙ q))));
      }

  abbrev shift : (ℕ → ℕ) → ℕ → ℕ → (ℕ → ℕ) → ℕ → ℕ
  shift author other more rank p = chosen (ℕ_discrete (author p) other) (more + rank p) (rank p)

  abbrev rename : (ℕ → ℕ) → ℕ → ℕ → ℕ → ℕ
  rename author other id p = chosen (ℕ_discrete (author p) other) id (author p)

  pub joins : (id : ℕ) (v : V) (b : B) (other : ℕ) (u : V) (c : B) → v.base ≡ Some b → u.base ≡ Some c → u.stage ≡ Idle → turn_of v.stage ≡ 0 → Joins Rule id v other u (both v u) spent
  joins id v b other u c is u_is idle off s r at apart there =
      let w : V = both v u in
      let vs : List V = set s.views id w in
      let apart' : other ≢ id = apart in
      let was : get_elem? s.views other ≡ some u = sym (set_else s.views id other w apart') ∙ there in
      let l = live s r id v b at is in
      let m = live s r other u c was u_is in
      let line = longer_is v.seen u.seen r.log l.prefix m.prefix in
      let left = prefix_length v.seen (longer v.seen u.seen) line.1 in
      let right = prefix_length u.seen (longer v.seen u.seen) line.2 in
      let shared = l.shared in
      let room : id < length s.views = inside s.views id v at in
      let room' : other < length vs = inside vs other u there in
      let now : List V = set vs other spent in
      let here : get_elem? now id ≡ some w = set_else vs other id spent (λ e. apart (sym e)) ∙ set_here s.views id w room in record {
        base = r.base;
        first = r.first;
        log = r.log;
        owner = r.owner;
        author = rename r.author other id;
        rank = shift r.author other (length v.mine) r.rank;
        wide = r.wide;
        deep = r.deep;
        tickets = (let t = total_set (λ (z : V). ticket_of z.stage) s.views id v w at in let n = total_set (λ (z : V). ticket_of z.stage) vs other u spent there in let k : ticket_of u.stage ≡ 0 = ap ticket_of idle in let a = r.tickets in omega arith);
        small = r.small;
        count = r.count;
        start = r.start;
        places = (let t = total_set (λ (z : V). length z.mine) s.views id v w at in let n = total_set (λ (z : V). length z.mine) vs other u spent there in let k = length-append v.mine u.mine in let a = r.places in omega arith);
        each = λ j x q. ⊎_elim
            (λ (t : (j ≡ other) × (spent ≡ x)). inl (subst IsSpent t.1 record { baseless = refl; shareless = refl; idle = refl; empty = refl }))
            (λ (t : (j ≢ other) × (get_elem? vs j ≡ some x)). ⊎_elim
            (λ (k : (j ≡ id) × (w ≡ x)). inr (subst (λ (z : ℕ × V). LivesIn s r z.0 z.1) (λ i. (sym k.0 i, k.1 i))
            record { based = l.based; began = l.began; prefix = line.0; opened = (let t = l.opened in omega arith); met = shorter_is v.seen u.seen r.log line; shared = omega arith; stands = off_stands r.owner (get_or s.words 0 0) (get_or s.words 1 0) r.log id v.seen (longer v.seen u.seen) v.stage off l.stands }))
            (λ (k : (j ≢ id) × (get_elem? s.views j ≡ some x)). r.each j x k.1)
            (at_set s.views id j w x t.1))
            (at_set vs other j spent x q);
        theirs = λ j x q i p f. ⊎_elim
            (λ (t : (j ≡ other) × (spent ≡ x)). absurd (some-ne-none p (sym (subst (λ (z : V). get_elem? z.mine i ≡ some p) (sym t.1) f))))
            (λ (t : (j ≢ other) × (get_elem? vs j ≡ some x)). ⊎_elim
            (λ (k : (j ≡ id) × (w ≡ x)).
            let most : length (longer v.seen u.seen) ≡ length x.seen = ap (λ (z : V). length z.seen) k.1 in
            ⊎_elim
            (λ (old : get_elem? v.mine i ≡ some p).
            let o = r.theirs id v at i p old in
            let low = o.3 in
            let not_other : r.author p ≢ other = (λ e. apart (sym e ∙ o.0)) in
            (chosen_else (r.author p) other id (r.author p) not_other ∙ (o.0 ∙ sym k.0), chosen_else (r.author p) other (length v.mine + r.rank p) (r.rank p) not_other ∙ o.1, o.2, omega arith))
            (λ (new : (n : ℕ) × (i ≡ length v.mine + n) × (get_elem? u.mine n ≡ some p)).
            let o = r.theirs other u was new.0 p new.2 in
            let low = o.3 in
            let rank_is = o.1 in
            let i_is = new.1 in
            (chosen_here (r.author p) other id (r.author p) o.0 ∙ sym k.0, chosen_here (r.author p) other (length v.mine + r.rank p) (r.rank p) o.0 ∙ omega arith, o.2, omega arith))
            (at_both v.mine u.mine p i (subst (λ (z : V). get_elem? z.mine i ≡ some p) (sym k.1) f)))
            (λ (k : (j ≢ id) × (get_elem? s.views j ≡ some x)).
            let o = r.theirs j x k.1 i p f in
            let not_other : r.author p ≢ other = (λ e. t.0 (sym o.0 ∙ e)) in
            (chosen_else (r.author p) other id (r.author p) not_other ∙ o.0, chosen_else (r.author p) other (length v.mine + r.rank p) (r.rank p) not_other ∙ o.1, o.2, o.3))
            (at_set s.views id j w x t.1))
            (at_set vs other j spent x q);
        made = λ p low high.
            let t = r.made p low high in
            dite (ℕ_discrete (r.author p) other)
            (λ by_other.
            let same_view : t.0 ≡ u = some-injective t.0 u (sym t.1 ∙ (ap (get_elem? s.views) by_other ∙ was)) in (
              w,
              ap (get_elem? now) (chosen_here (r.author p) other id (r.author p) by_other) ∙ here,
              ap (get_elem? w.mine) (chosen_here (r.author p) other (length v.mine + r.rank p) (r.rank p) by_other) ∙ at_right v.mine u.mine p (r.rank p) (ap (λ (z : V). get_elem? z.mine (r.rank p)) (sym same_view) ∙ t.2),
            ))
            (λ not_other. dite (ℕ_discrete (r.author p) id)
            (λ by_me.
            let same_view : t.0 ≡ v = some-injective t.0 v (sym t.1 ∙ (ap (get_elem? s.views) by_me ∙ at)) in (
              w,
              ap (get_elem? now) (chosen_else (r.author p) other id (r.author p) not_other ∙ by_me) ∙ here,
              ap (get_elem? w.mine) (chosen_else (r.author p) other (length v.mine + r.rank p) (r.rank p) not_other) ∙ at_longer v.mine u.mine (r.rank p) p (ap (λ (z : V). get_elem? z.mine (r.rank p)) (sym same_view) ∙ t.2),
            ))
            (λ not_me. (
              t.0,
              ap (get_elem? now) (chosen_else (r.author p) other id (r.author p) not_other) ∙ (set_else vs other (r.author p) spent not_other ∙ (set_else s.views id (r.author p) w not_me ∙ t.1)),
              ap (get_elem? t.0.mine) (chosen_else (r.author p) other (length v.mine + r.rank p) (r.rank p) not_other) ∙ t.2,
            )));
        all_shares = (let t = total_set (λ (z : V). z.shares) s.views id v w at in let n = total_set (λ (z : V). z.shares) vs other u spent there in let a = r.all_shares in omega arith);
        home = λ free. r.home (λ j x q. dite (ℕ_discrete j other)
            (λ (same_seat : j ≡ other). ap (λ (z : V). turn_of z.stage) (some-injective x u (sym q ∙ (ap (get_elem? s.views) same_seat ∙ was))) ∙ ap turn_of idle)
            (λ (not_other : j ≢ other). dite (ℕ_discrete j id)
            (λ (same_seat : j ≡ id). ap (λ (z : V). turn_of z.stage) (some-injective x v (sym q ∙ (ap (get_elem? s.views) same_seat ∙ at))) ∙ off)
            (λ (not_me : j ≢ id). free j x (set_else vs other j spent not_other ∙ (set_else s.views id j w not_me ∙ q)))));
      }

  -- who has all shares finds the value at home
  pub closes : (s : S) (id : ℕ) (v : V) (b : B) → Rule s → get_elem? s.views id ≡ some v → v.base ≡ Some b → v.stage ≡ Idle → v.shares ≡ 1024 → (lock : LockName) (at_base : IsSome v.base) → (x : T) × (get_elem? s.homes 0 ≡ some (some (Some x))) × Closes (pass_of lock v at_base) (base_of x) (story_of x)
  closes s id v b r at is idle all lock at_base =
      let l = live s r id v b at is in
      let alone = others_spent s r id v at all in
      let there = r.home (λ j u q. dite (ℕ_discrete j id)
      (λ (same_seat : j ≡ id). ap (λ (z : V). turn_of z.stage) (some-injective u v (sym q ∙ (ap (get_elem? s.views) same_seat ∙ at))) ∙ ap turn_of idle)
      (λ (other : j ≢ id). ap turn_of (alone j u other q).idle)) in
      let began = l.began in
      let long : length (story_of there.0) ≡ length r.log = ap length there.3 in
      let short = prefix_length v.seen r.log l.prefix in
      let own = (λ (k : ℕ) (d : ℕ) (less : k < length v.mine). r.theirs id v at k (get_or v.mine k d) (at_index v.mine k d less)) in (
        there.0,
        there.1,
        record {
          same_base = there.2 ∙ value_is r.base (base_in v.base at_base) (sym l.based ∙ has_base v.base at_base);
          begins = subst (IsPrefix v.seen) (sym there.3) l.prefix;
          holds = λ k d less. let t = own k d less in let low = t.2 in let high = t.3 in (omega arith, omega arith);
          once = λ i j d less high one.
              let first_rank : r.rank (get_or v.mine i d) ≡ i = (own i d (omega arith)).1 in
              let later_rank : r.rank (get_or v.mine j d) ≡ j = (own j d high).1 in
              let same_rank : i ≡ j = sym first_rank ∙ (ap r.rank one ∙ later_rank) in
              omega arith;
          all = λ p low high.
              contains_at v.mine (r.rank p) p (all_mine s r id v at all p (omega arith) (omega arith));
          counted =
              (let t = total_only (λ (z : V). length z.mine) s.views id v at (λ j u other q. ap length (alone j u other q).empty) in
              let a = r.places in
              omega arith);
        },
      )

  -- the value that a closed table gives out
  pub gives_out : (ws : List ℕ) (xs : List (Option T)) (y : Option T) (id : ℕ) (v : V) → Final (Seen Rule id v) ws xs → get_elem? xs 0 ≡ some y → v.stage ≡ Idle → v.shares ≡ 1024 → (lock : LockName) (at_base : IsSome v.base) → (x : T) × (y ≡ Some x) × Closes (pass_of lock v at_base) (base_of x) (story_of x)
  gives_out ws xs y id v final got idle all lock at_base =
      let s = final.0 in
      let t = closes s id v (base_in v.base at_base) final.1.0 final.1.1 (has_base v.base at_base) idle all lock at_base in
      (t.0, some-injective y (Some t.0) (sym got ∙ final.4 0 (Some t.0) t.1), t.2)

  pub gives_value : (ws : List ℕ) (xs : List (Option T)) (y : Option T) (z : T) (id : ℕ) (v : V) → Final (Seen Rule id v) ws xs → get_elem? xs 0 ≡ some y → y ≡ Some z → v.stage ≡ Idle → v.shares ≡ 1024 → (lock : LockName) (at_base : IsSome v.base) → Closes (pass_of lock v at_base) (base_of z) (story_of z)
  gives_value ws xs y z id v final got found idle all lock at_base =
      let t = gives_out ws xs y id v final got idle all lock at_base in
      let same_value : t.0 ≡ z = ap (value_or z) (sym t.1 ∙ found) in
      subst (λ (x : T). Closes (pass_of lock v at_base) (base_of x) (story_of x)) same_value t.2

  pub settles_all : (slots id i : ℕ) (m : Me (Option T) V) (b : B) → m.0.base ≡ Some b → Allows Rule slots id m i (λ k. k) (settles {T = T} (step slots i 0 0 none) m)
  settles_all slots id i m b is s r _ at _ = (m.0, keeps, tt, same s i id m.1 m.0 at r, (refl, (λ a b p x y. sym (r.theirs id m.0 at a p x).1 ∙ (r.theirs id m.0 at b p y).1), (live s r id m.0 b at is).met))
