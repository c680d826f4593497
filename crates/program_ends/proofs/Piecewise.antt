-- What was read of an input, piece by piece.
use Rattle.std.proofs.Common.{ℕ, ◌≡◌, ◌≤◌, ◌+◌, ◌-◌, List, [], ◌++◌, length, take, refl, ap, sym, ◌∙◌, append-nil, subst, Option, None, Some, Result, Ok, Err, IsErrAnd, arith, length-append}
use Rattle.std.proofs.lemmas.List.{take_all}
use Rattle.std.proofs.Math.Seq.{take-append-add}
use Rattle.byte_streams.specs.Flows.{Inflow, Takes}
use Rattle.byte_streams.proofs.Pieces.{takes_both}
use Rattle.program_ends.specs.declared.reading.Stop.{Stop}
use Rattle.program_ends.specs.Pieces.{Extent, extent, Finds, HasRead, IsPiece, IsWhole}

-- the reason of a result that has it
pub stops_by : {T : Type 0} (result : Result T Stop) (why : Stop) → IsErrAnd result (λ e. e ≡ why) → result ≡ Err why
stops_by (Ok x) why h = absurd h
stops_by (Err e) why h = ap (λ (s : Stop). Err s) h

pub takes_none : (left : Option (List ℕ)) → Takes left left []
takes_none None = refl
takes_none (Some bytes) = refl

-- nothing was read yet
pub read_none : (limit : ℕ) (left : Option (List ℕ)) → HasRead limit (extent limit 0) left left []
read_none limit left = record {
  read = [];
  takes = takes_none left;
  limit_is = refl;
  total_is = refl;
  most = omega arith;
  front = sym (take_all limit [] (omega arith));
}

-- a piece was found, or none
module _ (old new : Extent) (before after : Inflow) (buffer : List ℕ) (found : Option ℕ) (finds : Finds old new before after buffer found) where
  pub found_some : (n : ℕ) → found ≡ Some n → IsPiece old new before.left after.left (take n buffer)
  found_some n is = (subst (Finds old new before after buffer) is finds).1

  pub found_none : found ≡ None → IsWhole old new before.left after.left
  found_none is = subst (Finds old new before after buffer) is finds

module _ (limit : ℕ) (now : Extent) (left mid : Option (List ℕ)) (within : List ℕ) (has : HasRead limit now left mid within) where
  -- within the limit it is all that was read
  pub all_within : now.total ≤ now.limit → within ≡ has.read
  all_within low = has.front ∙ take_all limit has.read (omega (arith, low, has.limit_is, has.total_is))

  -- a piece more was read
  pub read_more : (new : Extent) (left' : Option (List ℕ)) (piece : List ℕ) → IsPiece now new mid left' piece → HasRead limit new left left' (within ++ piece)
  read_more new left' piece next =
      let read = has.read in
      let room = now.limit - now.total in
      let at : limit ≡ length read + room = omega (arith, has.limit_is, has.total_is, next.low) in
      let all : take limit (read ++ next.chunk) ≡ read ++ piece =
      ap (λ (k : ℕ). take k (read ++ next.chunk)) at ∙ take-append-add read next.chunk room ∙ ap (λ (l : List ℕ). read ++ l) (sym next.front) in
      record {
        read = read ++ next.chunk;
        takes = takes_both _ _ _ _ _ _ has.takes next.takes refl;
        limit_is = next.limit_is ∙ has.limit_is;
        total_is = omega (arith, next.total_is, has.total_is, length-append read next.chunk);
        most = omega (arith, next.total_is, next.most, has.total_is, has.limit_is, length-append read next.chunk);
        front = ap (λ (l : List ℕ). l ++ piece) (all_within next.low) ∙ sym all;
      }

  -- the input's end was read
  pub read_whole : (new : Extent) (left' : Option (List ℕ)) → IsWhole now new mid left' → Takes left left' within × (length within ≤ limit)
  read_whole new left' whole =
      let all = all_within whole.low in
      (takes_both _ _ _ _ _ _ has.takes whole.takes (append-nil has.read ∙ sym all), omega (arith, ap length all, whole.low, has.limit_is, has.total_is))
