-- One ask, by what became of it.
use Rattle.std.proofs.Common.{◌≡◌, ◌≢◌, ◌∙◌, ◌≤◌, inl, inr, ℕ, Bool, List, [], take, drop, Option, Result, Ok, Err, refl, sym, ap, arith, subst, append-nil}
use Rattle.std.proofs.lemmas.List.{take-append-drop}
use Rattle.desk_links.specs.Links.{LinkState}
use Rattle.desk_traits.specs.Faults.{Rose}
use Rattle.byte_streams.specs.Flows.{Takes, Adds, Inflow, Outflow}
use Rattle.product_decoder.specs.ReaderModel.{Reading}
use Rattle.follow_core.specs.Hearing.{place_of}
use Rattle.follow_links.specs.Readings.{ReadsAnswer, IsCause}
use Rattle.follow_links.specs.Rounding.{IsAsk, IsTaken, RoseIfFailed, end_of}
use Rattle.follow_links.specs.Talks.{ask}
use Rattle.follow_links.specs.declared.answers.Shape.{Shape}
use Rattle.follow_links.specs.declared.reading.Miss.{Miss}
use Rattle.follow_links.specs.declared.reading.Miss.TheVariants as miss
use Rattle.follow_links.specs.declared.talk.LinkEnd.{LinkEnd}
use Rattle.follow_links.specs.declared.talk.LinkEnd.TheVariants.{Spent, Closed, Failed, Ended, Bad, OutOfMemory}
use Rattle.follow_links.proofs.Joining.{takes_none, adds_none}
use Rattle.http_heads.proofs.Sizes.{none_in_nothing}

nothing_read : (left left' : Option (List ℕ)) → left' ≡ left → Takes left left' []
nothing_read left left' is = subst (λ (l : Option (List ℕ)). Takes left l []) (sym is) (takes_none left)

pub not_asked : (link : LinkState) (f : Reading) → IsAsk link link f f (Err OutOfMemory)
not_asked link f = record {
  read = [];
  written = [];
  takes = takes_none link.input.left;
  adds = adds_none link.output.taken;
  gives = ((ask (place_of f), refl), refl, λ h. cc);
}

pub cut_ask : (first last : LinkState) (f : Reading) (text : List ℕ) (n : ℕ) → text ≡ ask (place_of f) → last.input ≡ first.input → Adds first.output.taken last.output.taken (take n text)
    → IsAsk first last f f (Err Failed)
cut_ask first last f text n is same adds = record {
  read = [];
  written = take n text;
  takes = nothing_read first.input.left last.input.left (ap (λ (i : Inflow). i.left) same);
  adds = adds;
  gives = (((drop n text, sym is ∙ sym (take-append-drop n text)), inl (none_in_nothing, omega arith, inl refl), inl refl), refl, λ h. cc);
}

module _ (first middle last : LinkState) (f : Reading) (text : List ℕ) (is : text ≡ ask (place_of f)) (same : middle.input ≡ first.input) (adds : Adds first.output.taken middle.output.taken text) (unwritten : last.output ≡ middle.output) where
  whole_ask : Adds first.output.taken last.output.taken (ask (place_of f))
  whole_ask = subst (Adds first.output.taken last.output.taken) is (subst (λ (o : Outflow). Adds first.output.taken o.taken text) (sym unwritten) adds)

  from_first : (read : List ℕ) → Takes middle.input.left last.input.left read → Takes first.input.left last.input.left read
  from_first read t = subst (λ (i : Inflow). Takes i.left last.input.left read) same t

  pub missed : (bytes : List ℕ) (m : Miss) → ReadsAnswer middle.input.left last.input.left bytes (Err m) → IsAsk first last f f (Err (end_of m))
  missed bytes miss.Failed h = record {
    read = bytes;
    written = ask (place_of f);
    takes = from_first bytes h.0;
    adds = whole_ask;
    gives = ((([], sym (append-nil (ask (place_of f)))), h.1, inr refl), refl, λ h. cc);
  }
  missed bytes miss.Bad h = record {
    read = bytes;
    written = ask (place_of f);
    takes = from_first bytes h.0;
    adds = whole_ask;
    gives = ((refl, inl h.1), refl, λ h. cc);
  }
  missed bytes miss.OutOfMemory h = record {
    read = h.0;
    written = ask (place_of f);
    takes = from_first h.0 h.1;
    adds = whole_ask;
    gives = (([], sym (append-nil (ask (place_of f)))), refl, λ h. cc);
  }

  pub heard : (bytes : List ℕ) (new : Reading) (result : Result Bool LinkEnd) → Takes middle.input.left last.input.left bytes → IsTaken f new bytes result → IsAsk first last f new result
  heard bytes new (Ok closes) t h = record { read = bytes; written = ask (place_of f); takes = from_first bytes t; adds = whole_ask; gives = (refl, h) }
  heard bytes new (Err Ended) t h = record { read = bytes; written = ask (place_of f); takes = from_first bytes t; adds = whole_ask; gives = ((refl, h.0), h.1, λ h. cc) }
  heard bytes new (Err Bad) t h = record { read = bytes; written = ask (place_of f); takes = from_first bytes t; adds = whole_ask; gives = ((refl, h.0), h.1, λ h. cc) }
  heard bytes new (Err OutOfMemory) t h = record { read = bytes; written = ask (place_of f); takes = from_first bytes t; adds = whole_ask; gives = (([], sym (append-nil (ask (place_of f)))), h, λ h. cc) }
  heard bytes new (Err Spent) t h = absurd h
  heard bytes new (Err Closed) t h = absurd h
  heard bytes new (Err Failed) t h = absurd h

not_failed : (e x : LinkEnd) → e ≡ x → ◌≡◌ {A = Result Bool LinkEnd} (Err e) (Err Failed) → x ≢ Failed → ⊥
not_failed e x is h unlike = unlike (let same : e ≡ Failed = cc in sym is ∙ same)

-- of the misses a failed link alone is told as one
failed_alone : (m : Miss) (e : LinkEnd) → e ≡ end_of m → ◌≡◌ {A = Result Bool LinkEnd} (Err e) (Err Failed) → m ≡ miss.Failed
failed_alone miss.Failed e is h = refl
failed_alone miss.Bad e is h = absurd (not_failed e Bad is h (λ k. cc))
failed_alone miss.OutOfMemory e is h = absurd (not_failed e OutOfMemory is h (λ k. cc))

pub missed_rose : (first middle last : LinkState) (m : Miss) (e : LinkEnd) → e ≡ end_of m → middle.input ≡ first.input → first.output.faults ≤ middle.output.faults → last.output ≡ middle.output
    → IsCause {T = Shape} middle.input.faults last.input.faults (Err m) → RoseIfFailed {T = Bool} first last (Err e)
missed_rose first middle last m e is r w v c = record {
  rose = λ h. inl (subst (λ (i : Inflow). Rose i.faults last.input.faults) r (c.rose (ap (λ (x : Miss). Err x) (failed_alone m e is h))));
  later = (omega (arith, ap (λ (i : Inflow). i.faults) r, c.later), omega (arith, w, ap (λ (o : Outflow). o.faults) v));
}
