-- Pieces that are read one after another, and how a run ends.
use Rattle.std.proofs.Common.{ℕ, ◌≡◌, ◌≤◌, ◌+◌, ◌==◌, true, false, cond, List, [], ◌∷◌, ◌++◌, length, take, drop, refl, ap, sym, ◌∙◌, append_assoc, append-nil, Option, Result, Ok, Err, OnOk, IfErr, ◌⊎◌, inl, inr, rules, arith}
use Rattle.std.proofs.lemmas.List.{take-append-drop, take_all}
use Rattle.byte_streams.specs.Flows.{Adds, Takes, IsAtEnd, Inflow, Outflow, Streams, streams}
use Rattle.byte_streams.proofs.Pieces.{adds_both}
use Rattle.program_ends.specs.declared.reading.Stop.{Stop}
use Rattle.program_ends.specs.declared.reading.Stop.TheVariants as stop
use Rattle.program_ends.specs.Lines.{Pending, pending_of, lines_from, rest_from, lines_of, ended_lines, without_return, fit}
use Rattle.program_ends.specs.Pieces.{Extent, extent, HasRead, IsPiece, IsStopped, IsWhole}
use Rattle.program_ends.specs.Runs.{Answered, IsUnbegun, LacksNext}
use Rattle.program_ends.specs.Steps.{Feeds, Halts, HaltsAt, Replies, Runs}
use Rattle.program_ends.proofs.Telling.{begins_self}
use Rattle.program_ends.proofs.Piecewise.{read_none, takes_none, all_within, read_more, read_whole}
use Rattle.program_ends.proofs.Answering.{adds_none, answered_append, answered_one, halts_after, halts_within, halts_next}

pub lines_append : (line a b : List ℕ) → lines_from line (a ++ b) ≡ lines_from line a ++ lines_from (rest_from line a) b
lines_append line [] b = refl
lines_append line (c ∷ a) b =
    let ended = lines_append [] a b in
    let goes_on = lines_append (line ++ c ∷ []) a b in
    elim (c == 10) as (λ t. cond t (without_return line ∷ lines_from [] (a ++ b)) (lines_from (line ++ c ∷ []) (a ++ b))
    ≡ cond t (without_return line ∷ lines_from [] a) (lines_from (line ++ c ∷ []) a) ++ lines_from (cond t (rest_from [] a) (rest_from (line ++ c ∷ []) a)) b)
    [ true ↦ ap (λ ls. without_return line ∷ ls) ended | false ↦ goes_on ]

pub rest_append : (line a b : List ℕ) → rest_from line (a ++ b) ≡ rest_from (rest_from line a) b
rest_append line [] b = refl
rest_append line (c ∷ a) b =
    let ended = rest_append [] a b in
    let goes_on = rest_append (line ++ c ∷ []) a b in
    elim (c == 10) as (λ t. cond t (rest_from [] (a ++ b)) (rest_from (line ++ c ∷ []) (a ++ b)) ≡ rest_from (cond t (rest_from [] a) (rest_from (line ++ c ∷ []) a)) b)
    [ true ↦ ended | false ↦ goes_on ]

-- these bytes were read, and the lines that end in them answered
pub record Ran {A : Type 0} (answers : A → Option (List ℕ) → List ℕ → A → Type 0) (limit : ℕ) (a z : A) (before after : Streams) (line : Pending) (now : Extent) : Type 0 where
  pub seen : List ℕ
  pub written : List ℕ
  pub has : HasRead limit now before.input.left after.input.left seen
  pub adds : Adds before.output.taken after.output.taken written
  pub answered : Answered answers a (lines_from [] seen) written z
  pub line_is : line ≡ pending_of (rest_from [] seen)

-- nothing was read yet
pub ran_none : {A : Type 0} (answers : A → Option (List ℕ) → List ℕ → A → Type 0) (limit : ℕ) (a : A) (before : Streams) (line : Pending) → line ≡ pending_of [] → Ran answers limit a a before before line (extent limit 0)
ran_none answers limit a before line is = record {
  seen = [];
  written = [];
  has = read_none limit before.input.left;
  adds = adds_none before.output.taken;
  answered = (refl, refl);
  line_is = is;
}

-- memory lacked before the first read
pub unbegun : {A T : Type 0} (answers : A → Option (List ℕ) → List ℕ → A → Type 0) (lacks : A → Option (List ℕ) → A → Type 0) (limit : ℕ) (a : A) (before : Streams) → Runs {A = A} {T = T} answers lacks limit a a before before (Err stop.OutOfMemory)
unbegun answers lacks limit a before = record {
  told = [];
  written = [];
  run = record {
    read = [];
    lines = [];
    others = [] ∷ [];
    last = a;
    takes = takes_none before.input.left;
    within = omega arith;
    first = refl;
    answered = (refl, refl);
    whole = inr ([], ap ended_lines (take_all limit [] (omega arith)));
    ended = λ e. absurd (cc);
    read_fault = λ e. absurd (cc);
    too_long = λ e. absurd (cc);
    state = λ _. refl;
    no_memory = λ _. inl (record { none = refl; unread = refl; unanswered = refl; same = refl });
    next = λ _. inl (record { none = refl; unread = refl; unanswered = refl; same = refl });
    reasons = search rules;
  };
  adds = adds_none before.output.taken;
  begins = begins_self [];
  whole = λ _. refl;
  broken = λ e. absurd (cc);
}

-- the lines of what was read, behind those that end within the limit
abbrev behind : (limit : ℕ) (seen read : List ℕ) → List (List ℕ)
behind limit seen read = lines_from (rest_from [] seen) (drop limit read) ++ rest_from [] read ∷ []

lines_parted : (limit : ℕ) (seen read : List ℕ) → seen ≡ take limit read → lines_of read ≡ ended_lines seen ++ behind limit seen read
lines_parted limit seen read is =
    let over = drop limit read in
    let whole : seen ++ over ≡ read = ap (λ (l : List ℕ). l ++ over) is ∙ take-append-drop limit read in
    let all : lines_from [] read ≡ lines_from [] seen ++ lines_from (rest_from [] seen) over = ap (λ (l : List ℕ). lines_from [] l) (sym whole) ∙ lines_append [] seen over in
    ap (λ (l : List (List ℕ)). l ++ rest_from [] read ∷ []) all ∙ append_assoc (lines_from [] seen) _ _

module _ {A : Type 0} (answers : A → Option (List ℕ) → List ℕ → A → Type 0) (lacks : A → Option (List ℕ) → A → Type 0) (limit : ℕ) (a z : A) (before mid : Streams) (line : Pending) (now : Extent) (ran : Ran answers limit a z before mid line now) where
  -- the lines that end in a piece, behind those before
  lines_more : (part : List ℕ) → lines_from [] (ran.seen ++ part) ≡ lines_from [] ran.seen ++ lines_from (rest_from [] ran.seen) part
  lines_more part = lines_append [] ran.seen part

  -- a piece more, whose lines were answered
  pub ran_next : (new : Extent) (part : List ℕ) (y : A) (begun : Pending) (after : Streams)
      → IsPiece now new mid.input.left after.input.left part → Feeds answers z y (rest_from [] ran.seen) part begun mid.output after.output → Ran answers limit a y before after begun new
  ran_next new part y begun after next feeds = record {
    seen = ran.seen ++ part;
    written = ran.written ++ feeds.written;
    has = read_more limit now before.input.left mid.input.left ran.seen ran.has new after.input.left part next;
    adds = adds_both _ _ _ _ _ _ ran.adds feeds.adds refl;
    answered = rw (lines_more part) (answered_append answers lacks a z y (lines_from [] ran.seen) (lines_from (rest_from [] ran.seen) part) ran.written feeds.written ran.answered feeds.answered);
    line_is = feeds.rest ∙ ap pending_of (sym (rest_append [] ran.seen part));
  }

  -- the line for which memory lacked is among those of the bytes
  next_within : {P Q : Type 0} (last y : A) (bytes : List ℕ) (done others : List (List ℕ)) → ended_lines bytes ≡ done ++ others → LacksNext lacks last others y
      → P ⊎ ((line : List ℕ) × (more : List (List ℕ)) × (ended_lines bytes ≡ done ++ line ∷ more)) ⊎ Q
  next_within last y bytes done others first (line, more, is, at) = inr (inl (line, more, first ∙ ap (λ (l : List (List ℕ)). done ++ l) is))

  module _ {T : Type 0} (input : Inflow) (unread : input.left ≡ mid.input.left) where
    -- a read failed
    ends_read : now.total ≤ now.limit → Runs {A = A} {T = T} answers lacks limit a z before (streams input mid.output) (Err stop.Read)
    ends_read low =
        let all = all_within limit now before.input.left mid.input.left ran.seen ran.has low in
        record {
          told = ran.written;
          written = ran.written;
          run = record {
            read = ran.has.read;
            lines = ended_lines ran.seen;
            others = behind limit ran.seen ran.has.read;
            last = z;
            takes = rw unread ran.has.takes;
            within = ran.has.most;
            first = lines_parted limit ran.seen ran.has.read ran.has.front;
            answered = ran.answered;
            whole = inr ([], ap ended_lines (sym ran.has.front) ∙ sym (append-nil (ended_lines ran.seen)));
            ended = λ e. absurd (cc);
            read_fault = λ _. (omega (arith, low, ran.has.limit_is, ran.has.total_is), ap ended_lines all);
            too_long = λ e. absurd (cc);
            state = λ _. refl;
            no_memory = λ e. absurd (cc);
            next = λ e. absurd (cc);
            reasons = search rules;
          };
          adds = ran.adds;
          begins = begins_self ran.written;
          whole = λ _. refl;
          broken = λ e. absurd (cc);
        }

    -- more bytes were read than the limit
    ends_long : now.total ≡ now.limit + 1 → Runs {A = A} {T = T} answers lacks limit a z before (streams input mid.output) (Err stop.TooLong)
    ends_long over = record {
      told = ran.written;
      written = ran.written;
      run = record {
        read = ran.has.read;
        lines = ended_lines ran.seen;
        others = behind limit ran.seen ran.has.read;
        last = z;
        takes = rw unread ran.has.takes;
        within = ran.has.most;
        first = lines_parted limit ran.seen ran.has.read ran.has.front;
        answered = ran.answered;
        whole = inr ([], ap ended_lines (sym ran.has.front) ∙ sym (append-nil (ended_lines ran.seen)));
        ended = λ e. absurd (cc);
        read_fault = λ e. absurd (cc);
        too_long = λ _. (omega (arith, over, ran.has.limit_is, ran.has.total_is), ap ended_lines ran.has.front);
        state = λ _. refl;
        no_memory = λ e. absurd (cc);
        next = λ e. absurd (cc);
        reasons = search rules;
      };
      adds = ran.adds;
      begins = begins_self ran.written;
      whole = λ _. refl;
      broken = λ e. absurd (cc);
    }

  -- there was no further piece
  pub ends_stopped : {T : Type 0} (new : Extent) (input : Inflow) (why : Stop) → IsStopped now new mid.input.left input.left why → Runs {A = A} {T = T} answers lacks limit a z before (streams input mid.output) (Err why)
  ends_stopped new input why stopped = elim stopped.reasons [
    | inl h ↦ rw h.0 (ends_read input stopped.unread h.1)
    | inr h ↦ rw h.0 (ends_long input stopped.unread h.1)
  ]

  -- the input's end was read, and its last line answered
  ends_done : {T : Type 0} (x : T) (after : Streams) → Takes before.input.left after.input.left ran.seen → length ran.seen ≤ limit → IsAtEnd after.input.left → (y : A) → Replies answers z y (fit (rest_from [] ran.seen)) mid.output after.output
      → Runs answers lacks limit a y before after (Ok x)
  ends_done x after takes low at_end y told = record {
    told = ran.written ++ told.text;
    written = ran.written ++ told.text;
    run = record {
      read = ran.seen;
      lines = lines_of ran.seen;
      others = [];
      last = y;
      takes = takes;
      within = omega (arith, low);
      first = sym (append-nil (lines_of ran.seen));
      answered = answered_append answers lacks a z y (lines_from [] ran.seen) (rest_from [] ran.seen ∷ []) ran.written told.text ran.answered (answered_one answers lacks z y (rest_from [] ran.seen) told.text told.answered);
      whole = inl (refl, at_end, low);
      ended = λ _. (at_end, low, refl);
      read_fault = λ e. absurd (cc);
      too_long = λ e. absurd (cc);
      state = λ _. refl;
      no_memory = λ e. absurd (cc);
      next = λ e. absurd (cc);
      reasons = search rules;
    };
    adds = adds_both _ _ _ _ _ _ ran.adds told.adds refl;
    begins = begins_self (ran.written ++ told.text);
    whole = λ _. refl;
    broken = λ e. absurd (cc);
  }

  ends_halted : {T : Type 0} → (bytes : List ℕ) (after : Streams) → Takes before.input.left after.input.left bytes → length bytes ≤ limit + 1 → (y : A) (why : Stop)
      → ((why ≡ stop.OutOfMemory) ⊎ (why ≡ stop.Write)) → (halts : Halts answers lacks a y (lines_of bytes) before.output after.output why)
      → (((halts.others ≡ []) × IsAtEnd after.input.left × (length bytes ≤ limit)) ⊎ ((more : List (List ℕ)) × (ended_lines (take limit bytes) ≡ halts.done ++ more)))
      → (why ≡ stop.OutOfMemory → IsUnbegun a y before.input.left after.input.left bytes halts.done ⊎ ((line : List ℕ) × (more : List (List ℕ)) × (ended_lines (take limit bytes) ≡ halts.done ++ line ∷ more)) ⊎ ((line : List ℕ) × (halts.others ≡ line ∷ []) × IsAtEnd after.input.left × (length bytes ≤ limit)))
      → Runs {A = A} {T = T} answers lacks limit a y before after (Err why)
  ends_halted bytes after takes within y why (inl memory) halts whole next =
      rw memory (record {
        told = halts.told;
        written = halts.written;
        run = record {
          read = bytes;
          lines = halts.done;
          others = halts.others;
          last = halts.last;
          takes = takes;
          within = within;
          first = halts.first;
          answered = halts.answered;
          whole = whole;
          ended = λ e. absurd (cc);
          read_fault = λ e. absurd (cc);
          too_long = λ e. absurd (cc);
          state = λ no. absurd (no refl);
          no_memory = λ _. inr (halts.no_memory memory).1;
          next = λ _. next memory;
          reasons = search rules;
        };
        adds = halts.adds;
        begins = halts.begins;
        whole = λ _. (halts.no_memory memory).0;
        broken = λ e. absurd (cc);
      })
  ends_halted bytes after takes within y why (inr write) halts whole next =
      rw write (record {
        told = halts.told;
        written = halts.written;
        run = record {
          read = bytes;
          lines = halts.done;
          others = halts.others;
          last = halts.last;
          takes = takes;
          within = within;
          first = halts.first;
          answered = halts.answered;
          whole = whole;
          ended = λ e. absurd (cc);
          read_fault = λ e. absurd (cc);
          too_long = λ e. absurd (cc);
          state = λ _. (halts.write_fault write).0;
          no_memory = λ e. absurd (cc);
          next = λ e. absurd (cc);
          reasons = search rules;
        };
        adds = halts.adds;
        begins = halts.begins;
        whole = λ no. absurd (no refl);
        broken = λ _. (halts.write_fault write).1;
      })

  -- the last line was not answered
  last_halts : (y : A) (after : Outflow) (why : Stop) → HaltsAt answers lacks z y (fit (rest_from [] ran.seen)) mid.output after why → ((why ≡ stop.OutOfMemory) ⊎ (why ≡ stop.Write)) → Halts answers lacks a y (lines_of ran.seen) before.output after why
  last_halts y after why at reasons = halts_after answers lacks a z y (lines_from [] ran.seen) (rest_from [] ran.seen ∷ []) ran.written before.output mid.output after why ran.answered ran.adds (halts_next answers lacks z y (rest_from [] ran.seen) [] mid.output after why at reasons)

  module _ (low : length ran.seen ≤ limit) (after : Streams) (at_end : IsAtEnd after.input.left) (y : A) (why : Stop) (at : HaltsAt answers lacks z y (fit (rest_from [] ran.seen)) mid.output after.output why) where
    last_whole : (reasons : (why ≡ stop.OutOfMemory) ⊎ (why ≡ stop.Write))
        → (((last_halts y after.output why at reasons).others ≡ []) × IsAtEnd after.input.left × (length ran.seen ≤ limit)) ⊎ ((more : List (List ℕ)) × (ended_lines (take limit ran.seen) ≡ (last_halts y after.output why at reasons).done ++ more))
    unfolding last_halts halts_after halts_next
    last_whole (inl memory) =
        let lines = lines_from [] ran.seen in
        inr ([], ap ended_lines (take_all limit ran.seen low) ∙ sym (append-nil lines) ∙ sym (append-nil (lines ++ [])))
    last_whole (inr write) = inl (refl, at_end, low)

    last_next : (reasons : (why ≡ stop.OutOfMemory) ⊎ (why ≡ stop.Write))
        → why ≡ stop.OutOfMemory → IsUnbegun a y before.input.left after.input.left ran.seen (last_halts y after.output why at reasons).done ⊎ ((line : List ℕ) × (more : List (List ℕ)) × (ended_lines (take limit ran.seen) ≡ (last_halts y after.output why at reasons).done ++ line ∷ more))
        ⊎ ((line : List ℕ) × ((last_halts y after.output why at reasons).others ≡ line ∷ []) × IsAtEnd after.input.left × (length ran.seen ≤ limit))
    unfolding last_halts halts_after halts_next
    last_next (inl memory) e = inr (inr (rest_from [] ran.seen, refl, at_end, low))
    last_next (inr write) e = absurd (cc)

    ends_last : {T : Type 0} → Takes before.input.left after.input.left ran.seen → Runs {A = A} {T = T} answers lacks limit a y before after (Err why)
    ends_last takes = ends_halted ran.seen after takes (omega (arith, low)) y why at.reasons (last_halts y after.output why at at.reasons) (last_whole at.reasons) (last_next at.reasons)

  -- the input's end was read
  pub ends_reply : {T : Type 0} (r : Result T Stop) (new : Extent) (after : Streams) → IsWhole now new mid.input.left after.input.left → (y : A) → OnOk r (Replies answers z y (fit (rest_from [] ran.seen)) mid.output after.output)
      → IfErr r (HaltsAt answers lacks z y (fit (rest_from [] ran.seen)) mid.output after.output) → Runs answers lacks limit a y before after r
  ends_reply (Ok x) new after whole y told at =
      let all = read_whole limit now before.input.left mid.input.left ran.seen ran.has new after.input.left whole in
      ends_done x after all.0 all.1 whole.ended y told
  ends_reply (Err why) new after whole y told at =
      let all = read_whole limit now before.input.left mid.input.left ran.seen ran.has new after.input.left whole in
      ends_last all.1 after whole.ended y why at all.0

  -- the lines of a piece
  part_halts : (part : List ℕ) (y : A) (after : Outflow) (why : Stop) → Halts answers lacks z y (lines_from (rest_from [] ran.seen) part) mid.output after why → Halts answers lacks a y (ended_lines (ran.seen ++ part)) before.output after why
  part_halts part y after why halts = rw (lines_more part) (halts_after answers lacks a z y (lines_from [] ran.seen) (lines_from (rest_from [] ran.seen) part) ran.written before.output mid.output after why ran.answered ran.adds halts)

  -- a line of a piece was not answered
  pub ends_within : {T : Type 0} (new : Extent) (part : List ℕ) (after : Streams) → IsPiece now new mid.input.left after.input.left part → (y : A) (why : Stop) → Halts answers lacks z y (lines_from (rest_from [] ran.seen) part) mid.output after.output why
      → Runs {A = A} {T = T} answers lacks limit a y before after (Err why)
  unfolding halts_within part_halts
  ends_within new part after next y why halts =
      let has = read_more limit now before.input.left mid.input.left ran.seen ran.has new after.input.left part next in
      let seen = ran.seen ++ part in
      let some = part_halts part y after.output why halts in
      let first : ended_lines (take limit has.read) ≡ some.done ++ some.others = ap ended_lines (sym has.front) ∙ some.first in
      ends_halted has.read after has.takes has.most y why halts.reasons
      (halts_within answers lacks a y (ended_lines seen) (behind limit seen has.read) (lines_of has.read) before.output after.output why (lines_parted limit seen has.read has.front) some)
      (inr (some.others, first)) (λ e. next_within some.last y (take limit has.read) some.done some.others first (some.no_memory e).1)
