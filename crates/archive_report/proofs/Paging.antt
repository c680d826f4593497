-- Texts that are written in parts.
use Rattle.std.proofs.Common.{◌≡◌, ◌∙◌, inl, inr, ℕ, zero, suc, ◌+◌, ◌<◌, ◌≤◌, List, [], ◌∷◌, ◌++◌, length, take, drop, get_or, flat_map, arith, refl, ap, sym, append_assoc, append-nil, Result, Ok, Err, IfErr, OnOk}
use Rattle.std.proofs.lemmas.Grind.{flat_map-append}
use Rattle.std.proofs.lemmas.List.{take-append-drop}
use Rattle.byte_streams.specs.Flows.{Adds, Outflow}
use Rattle.byte_streams.proofs.Pieces.{adds_both}
use Rattle.program_ends.specs.Ends.{AddsPrefix}
use Rattle.program_ends.proofs.Answering.{adds_none}
use Rattle.program_ends.specs.declared.reading.Stop.{Stop}
use Rattle.program_ends.specs.declared.reading.Stop.TheVariants as stop
use Rattle.archive_report.specs.Pieces.{Halts, Pages}

pub pages_none : (before : Outflow) (out : List ℕ) → Pages before before out out []
pages_none before out = record { written = []; adds = adds_none before.taken; whole = sym (append-nil out) }

pub pages_put : (before after : Outflow) (out out' out2 a b : List ℕ) → Pages before after out out' a → out2 ≡ out' ++ b → Pages before after out out2 (a ++ b)
pages_put before after out out' out2 a b p is = record {
  written = p.written;
  adds = p.adds;
  whole = ap (λ (t : List ℕ). p.written ++ t) is ∙ sym (append_assoc p.written out' b) ∙ ap (λ (t : List ℕ). t ++ b) p.whole ∙ append_assoc out a b;
}

pub pages_both : (before mid after : Outflow) (out out1 out2 a b : List ℕ) → Pages before mid out out1 a → Pages mid after out1 out2 b → Pages before after out out2 (a ++ b)
pages_both before mid after out out1 out2 a b p q = record {
  written = p.written ++ q.written;
  adds = adds_both _ _ _ _ _ _ p.adds q.adds refl;
  whole = append_assoc p.written q.written out2 ∙ ap (λ (t : List ℕ). p.written ++ t) q.whole ∙ sym (append_assoc p.written out1 b) ∙ ap (λ (t : List ℕ). t ++ b) p.whole ∙ append_assoc out a b;
}

-- all that waited was written
pub pages_all : (before after : Outflow) (out out' text : List ℕ) → out' ≡ [] → Pages before after out out' text → Adds before.taken after.taken (out ++ text)
pages_all before after out out' text none p = adds_alike (sym (ap (λ (t : List ℕ). p.written ++ t) none ∙ append-nil p.written) ∙ p.whole) p.adds
  where
    adds_alike : p.written ≡ out ++ text → Adds before.taken after.taken p.written → Adds before.taken after.taken (out ++ text)
    adds_alike is adds = rw is at adds

pub front_none : (before : Outflow) (text : List ℕ) → AddsPrefix before.taken before.taken text
front_none before text = record { front = []; begins = (text, refl); adds = adds_none before.taken }

pub front_alike : (before after : Outflow) (a b : List ℕ) → a ≡ b → AddsPrefix before.taken after.taken a → AddsPrefix before.taken after.taken b
front_alike before after a b is f = record { front = f.front; begins = (f.begins.0, sym is ∙ f.begins.1); adds = f.adds }

-- a front of a text is one of a longer text
pub front_longer : (before after : Outflow) (a more : List ℕ) → AddsPrefix before.taken after.taken a → AddsPrefix before.taken after.taken (a ++ more)
front_longer before after a more f =
    record { front = f.front; begins = (f.begins.0 ++ more, ap (λ (t : List ℕ). t ++ more) f.begins.1 ∙ append_assoc f.front f.begins.0 more); adds = f.adds }

-- pages, and then a front of the text behind them
pub front_then : (before mid after : Outflow) (out out1 a b : List ℕ) → Pages before mid out out1 a → AddsPrefix mid.taken after.taken (out1 ++ b) → AddsPrefix before.taken after.taken (out ++ (a ++ b))
front_then before mid after out out1 a b p f = record {
  front = p.written ++ f.front;
  begins = (
    f.begins.0,
    sym (append_assoc out a b) ∙ ap (λ (t : List ℕ). t ++ b) (sym p.whole) ∙ append_assoc p.written out1 b ∙ ap (λ (t : List ℕ). p.written ++ t) f.begins.1 ∙ sym (append_assoc p.written f.front f.begins.0),
  );
  adds = adds_both _ _ _ _ _ _ p.adds f.adds refl;
}

-- pages of a text are a front of it
pub front_pages : (before after : Outflow) (out out' a b : List ℕ) → Pages before after out out' a → AddsPrefix before.taken after.taken (out ++ (a ++ b))
front_pages before after out out' a b p = front_then before after after out out' a b p (front_none after (out' ++ b))

-- what was written of a whole text, and then a front of the text behind it
pub front_behind : (before mid after : Outflow) (a b : List ℕ) → Adds before.taken mid.taken a → AddsPrefix mid.taken after.taken b → AddsPrefix before.taken after.taken (a ++ b)
front_behind before mid after a b adds f =
    record { front = a ++ f.front; begins = (f.begins.0, ap (λ (t : List ℕ). a ++ t) f.begins.1 ∙ sym (append_assoc a f.front f.begins.0)); adds = adds_both _ _ _ _ _ _ adds f.adds refl }

-- until memory lacked, nothing of the text was written
pub halts_memory : (before : Outflow) (text : List ℕ) → Halts before before text stop.OutOfMemory
halts_memory before text = record { front = front_none before text; reasons = inl refl }

pub halts_then : (before mid after : Outflow) (out out1 a b : List ℕ) (why : Stop) → Pages before mid out out1 a → Halts mid after (out1 ++ b) why → Halts before after (out ++ (a ++ b)) why
halts_then before mid after out out1 a b why p h = record { front = front_then before mid after out out1 a b p h.front; reasons = h.reasons }

pub halts_longer : (before after : Outflow) (out a more : List ℕ) (why : Stop) → Halts before after (out ++ a) why → Halts before after (out ++ (a ++ more)) why
halts_longer before after out a more why h = record { front = front_alike before after ((out ++ a) ++ more) (out ++ (a ++ more)) (append_assoc out a more) (front_longer before after (out ++ a) more h.front); reasons = h.reasons }

pub halts_alike : (before after : Outflow) (a b : List ℕ) (why : Stop) → a ≡ b → Halts before after a why → Halts before after b why
halts_alike before after a b why is h = record { front = front_alike before after a b is h.front; reasons = h.reasons }

-- a later part of a run halted
pub if_err_weaker : {T : Type 0} (r : Result T Stop) (P Q : Stop → Type 0) → ((why : Stop) → P why → Q why) → IfErr r P → IfErr r Q
if_err_weaker (Ok x) P Q f h = tt
if_err_weaker (Err why) P Q f h = f why h

pub on_ok_weaker : {T : Type 0} (r : Result T Stop) (P Q : Type 0) → (P → Q) → OnOk r P → OnOk r Q
on_ok_weaker (Ok x) P Q f h = f h
on_ok_weaker (Err why) P Q f h = tt

-- all that waited was written at once, or a front of it
pub pages_flushed : (before after : Outflow) (out bytes new : List ℕ) → Adds before.taken after.taken bytes → bytes ≡ out → new ≡ [] → Pages before after out new []
pages_flushed before after out bytes new adds is none = record {
  written = bytes;
  adds = adds;
  whole = ap (λ (t : List ℕ). bytes ++ t) none ∙ ap (λ (t : List ℕ). t ++ []) is;
}

pub halts_write : (before after : Outflow) (out bytes : List ℕ) → bytes ≡ out → ((n : ℕ) × (n ≤ length bytes) × Adds before.taken after.taken (take n bytes)) → Halts before after out stop.Write
halts_write before after out bytes is part = record {
  front = record { front = take part.0 bytes; begins = (drop part.0 bytes, sym is ∙ sym (take-append-drop part.0 bytes)); adds = part.2 };
  reasons = inr refl;
}

-- lines one after another

take_next : {X : Type 0} (i : ℕ) (xs : List X) (x : X) → i < length xs → x ≡ get_or xs i x → take (suc i) xs ≡ take i xs ++ x ∷ []
take_next i [] x within is = absurd (omega (arith, within))
take_next zero (y ∷ xs) x within is = ap (λ z. z ∷ []) (sym is)
take_next (suc i) (y ∷ xs) x within is = ap (λ zs. y ∷ zs) (take_next i xs x (omega (arith, within)) is)

next_line : {X : Type 0} (f : X → List ℕ) (xs : List X) (i : ℕ) (x : X) → i < length xs → x ≡ get_or xs i x → flat_map f (take i xs) ++ f x ≡ flat_map f (take (i + 1) xs)
next_line f xs i x within is =
    let next : i + 1 ≡ suc i = omega arith in
    let one : flat_map f (x ∷ []) ≡ f x = append-nil (f x) in
    ap (λ (t : List ℕ). flat_map f (take i xs) ++ t) (sym one) ∙ sym (flat_map-append f (take i xs) (x ∷ []))
    ∙ ap (flat_map f) (sym (ap (λ (n : ℕ). take n xs) next ∙ take_next i xs x within is))

other_lines : {X : Type 0} (f : X → List ℕ) (xs : List X) (i : ℕ) → flat_map f (take i xs) ++ flat_map f (drop i xs) ≡ flat_map f xs
other_lines f xs i = sym (flat_map-append f (take i xs) (drop i xs)) ∙ ap (flat_map f) (take-append-drop i xs)

module _ {X : Type 0} (f : X → List ℕ) (xs : List X) (i : ℕ) (before mid : Outflow) (out out1 : List ℕ) (pages : Pages before mid out out1 (flat_map f (take i xs))) where
  -- one line more, and its turn
  pub line_next : (x : X) (out2 out3 : List ℕ) (after : Outflow) → i < length xs → x ≡ get_or xs i x → out2 ≡ out1 ++ f x → Pages mid after out2 out3 [] → Pages before after out out3 (flat_map f (take (i + 1) xs))
  line_next x out2 out3 after within is put turn =
      let both = pages_both before mid after out out2 out3 (flat_map f (take i xs) ++ f x) [] (pages_put before mid out out1 out2 (flat_map f (take i xs)) (f x) pages put) turn in
      rw (append-nil (flat_map f (take i xs) ++ f x) ∙ next_line f xs i x within is) at both

  -- memory lacked for a line
  pub line_lacks : Halts before mid (out ++ flat_map f xs) stop.OutOfMemory
  line_lacks =
      halts_alike before mid (out ++ (flat_map f (take i xs) ++ flat_map f (drop i xs))) (out ++ flat_map f xs) stop.OutOfMemory (ap (λ (t : List ℕ). out ++ t) (other_lines f xs i))
      (halts_then before mid mid out out1 (flat_map f (take i xs)) (flat_map f (drop i xs)) stop.OutOfMemory pages (halts_memory mid (out1 ++ flat_map f (drop i xs))))

  -- the turn behind a line halted
  pub line_halts : (x : X) (out2 : List ℕ) (after : Outflow) (why : Stop) → i < length xs → x ≡ get_or xs i x → out2 ≡ out1 ++ f x → Halts mid after out2 why → Halts before after (out ++ flat_map f xs) why
  line_halts x out2 after why within is put halts =
      let so_far = pages_put before mid out out1 out2 (flat_map f (take i xs)) (f x) pages put in
      let text = flat_map f (take i xs) ++ f x in
      let more = flat_map f (drop (i + 1) xs) in
      let whole : text ++ more ≡ flat_map f xs = ap (λ (t : List ℕ). t ++ more) (next_line f xs i x within is) ∙ other_lines f xs (i + 1) in
      let front = halts_longer mid after out2 [] more why (halts_alike mid after out2 (out2 ++ []) why (sym (append-nil out2)) halts) in
      halts_alike before after (out ++ (text ++ more)) (out ++ flat_map f xs) why (ap (λ (t : List ℕ). out ++ t) whole)
      (halts_then before mid after out out2 text more why so_far front)

  -- the text of one item more, which was told
  pub part_next : (x : X) (out2 : List ℕ) (after : Outflow) → i < length xs → x ≡ get_or xs i x → Pages mid after out1 out2 (f x) → Pages before after out out2 (flat_map f (take (i + 1) xs))
  part_next x out2 after within is told =
      let both = pages_both before mid after out out1 out2 (flat_map f (take i xs)) (f x) pages told in
      rw (next_line f xs i x within is) at both

  -- or halted
  pub part_halts : (x : X) (after : Outflow) (why : Stop) → i < length xs → x ≡ get_or xs i x → Halts mid after (out1 ++ f x) why → Halts before after (out ++ flat_map f xs) why
  part_halts x after why within is halts =
      let first = flat_map f (take i xs) in
      let more = flat_map f (drop (i + 1) xs) in
      let whole : first ++ (f x ++ more) ≡ flat_map f xs = sym (append_assoc first (f x) more) ∙ ap (λ (t : List ℕ). t ++ more) (next_line f xs i x within is) ∙ other_lines f xs (i + 1) in
      halts_alike before after (out ++ (first ++ (f x ++ more))) (out ++ flat_map f xs) why (ap (λ (t : List ℕ). out ++ t) whole)
      (halts_then before mid after out out1 first (f x ++ more) why pages (halts_longer mid after out1 (f x) more why halts))

-- texts of lists, one after another
pub flat_twice : {X : Type 0} (f : X → List ℕ) (lists : List (List X)) → flat_map (λ (xs : List X). flat_map f xs) lists ≡ flat_map f (flat_map (λ (xs : List X). xs) lists)
flat_twice f [] = refl
flat_twice f (xs ∷ lists) = ap (λ (t : List ℕ). flat_map f xs ++ t) (flat_twice f lists) ∙ sym (flat_map-append f xs (flat_map (λ ys. ys) lists))

-- a text that was put before

pub pages_before : (before after : Outflow) (out out1 out2 a b : List ℕ) → out1 ≡ out ++ a → Pages before after out1 out2 b → Pages before after out out2 (a ++ b)
pages_before before after out out1 out2 a b is p = record {
  written = p.written;
  adds = p.adds;
  whole = p.whole ∙ ap (λ (t : List ℕ). t ++ b) is ∙ append_assoc out a b;
}

pub pages_line : (before after : Outflow) (out out1 out2 a : List ℕ) → out1 ≡ out ++ a → Pages before after out1 out2 [] → Pages before after out out2 a
pages_line before after out out1 out2 a is p = record { written = p.written; adds = p.adds; whole = p.whole ∙ append-nil out1 ∙ is }

pub halts_before : (before after : Outflow) (out out1 a b : List ℕ) (why : Stop) → out1 ≡ out ++ a → Halts before after (out1 ++ b) why → Halts before after (out ++ (a ++ b)) why
halts_before before after out out1 a b why is h = halts_alike before after (out1 ++ b) (out ++ (a ++ b)) why (ap (λ (t : List ℕ). t ++ b) is ∙ append_assoc out a b) h

-- pages, and then all that waited and the text behind it
pub pages_adds : (before mid after : Outflow) (out out1 a b : List ℕ) → Pages before mid out out1 a → Adds mid.taken after.taken (out1 ++ b) → Adds before.taken after.taken (out ++ (a ++ b))
pages_adds before mid after out out1 a b p adds =
    adds_both _ _ _ _ _ _ p.adds adds (sym (append_assoc p.written out1 b) ∙ ap (λ (t : List ℕ). t ++ b) p.whole ∙ append_assoc out a b)

pub adds_alike : (before after : Outflow) (a b : List ℕ) → a ≡ b → Adds before.taken after.taken a → Adds before.taken after.taken b
adds_alike before after a b is adds = rw is at adds
