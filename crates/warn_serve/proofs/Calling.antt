-- A link that did not fail answers the calls of what was read.
use Rattle.std.proofs.Common.{ℕ, ◌≡◌, ◌<◌, inl, inr, List, [], ◌∷◌, ◌++◌, length, refl, ap, sym, ◌∙◌, subst, arith, append-nil}
use Rattle.warn_http.specs.Calls.{Called, IsCut, IsUnfinished, most_calls, refused, closed, spent, left}
use Rattle.desk_links.specs.Links.{LinkState}
use Rattle.warn_serve.specs.Links.{Answered, IsClosing, IsLinkRun, IsRefusing, IsServedLink, Said, answers_of, calls_of}
use Rattle.warn_serve.specs.Wholes.{AnswersCalls, AnswersLink, IsWhole}
use Rattle.warn_serve.specs.declared.links.LinkEnd.{LinkEnd}
use Rattle.warn_serve.specs.declared.links.LinkEnd.TheVariants.{Closed, Cut, Spent, LinkFault, OutOfMemory}
use Rattle.warn_serve.proofs.Going.{answered_on, answers_append, calls_append}

pub count_calls : (said : List Said) → length (calls_of said) ≡ length said
count_calls [] = refl
count_calls (s ∷ said) = let h = count_calls said in omega arith

module _ {P : Type 0} (answers lost : Called → P → P → List ℕ → Type 0) (at_end failed : Type 0) where
  -- nothing behind the calls
  unsaid : (read written rest tail : List ℕ) (old mid new : P) (said : List Said) → IsCut read (calls_of said) rest → length said < most_calls → IsUnfinished rest → Answered answers old said mid → new ≡ mid → written ≡ answers_of said ++ tail → tail ≡ [] → AnswersCalls answers read written old new
  unsaid read written rest tail old mid new said cut few unfinished answered same told none = record {
    said = said;
    stop = left rest;
    calls = record { open_calls = calls_of said; rest = rest; cut = cut; ends = (refl, refl, (let n = count_calls said in omega (arith, few)), unfinished) };
    answered = subst (λ (z : P). Answered answers old said z) (sym same) answered;
    told = told ∙ ap (λ (l : List ℕ). answers_of said ++ l) none;
  }

  after_closing : (read written rest tail : List ℕ) (old mid new : P) (said : List Said) → IsCut read (calls_of said) rest → length said < most_calls → IsClosing answers lost at_end failed rest mid new tail → Answered answers old said mid → written ≡ answers_of said ++ tail → AnswersCalls answers read written old new
  after_closing read written rest tail old mid new said cut few closing answered told =
      let s : Said = record { called = closing.last_call.called; answer = tail } in
      record {
        said = said ++ s ∷ [];
        stop = closed;
        calls = record { open_calls = calls_of said; rest = rest; cut = cut; ends = (s.called, calls_append said s, (let n = count_calls said in omega (arith, few)), closing.last_call.stands, closing.closes) };
        answered = answered_on answers old mid new said s answered closing.last_call.judged;
        told = told ∙ (sym (answers_append said s) ∙ sym (append-nil (answers_of (said ++ s ∷ []))));
      }

  after_refusing : (read written rest tail : List ℕ) (old mid new : P) (said : List Said) → IsCut read (calls_of said) rest → length said < most_calls → IsRefusing answers lost at_end failed rest mid new tail → Answered answers old said mid → written ≡ answers_of said ++ tail → AnswersCalls answers read written old new
  after_refusing read written rest tail old mid new said cut few refusing answered told = record {
    said = said;
    stop = refused refusing.broken;
    calls = record { open_calls = calls_of said; rest = rest; cut = cut; ends = (refl, (let n = count_calls said in omega (arith, few)), refusing.refused) };
    answered = subst (λ (z : P). Answered answers old said z) (sym refusing.unused) answered;
    told = told ∙ ap (λ (l : List ℕ). answers_of said ++ l) refusing.told;
  }

  pub whole_links : (read written : List ℕ) (old new : P) (end : LinkEnd) → IsWhole end → IsLinkRun answers lost at_end failed read written old new end → AnswersCalls answers read written old new
  whole_links read written old new Closed whole r =
      elim r.ends [
        | inl over ↦ unsaid read written r.rest r.tail old r.mid new r.said r.cut r.count over.2 r.answered over.3.unused r.told over.3.unwritten
        | inr (inl closing) ↦ after_closing read written r.rest r.tail old r.mid new r.said r.cut r.count closing r.answered r.told
        | inr (inr refusing) ↦ after_refusing read written r.rest r.tail old r.mid new r.said r.cut r.count refusing r.answered r.told
      ]
  whole_links read written old new Cut whole r = unsaid read written r.rest r.tail old r.mid new r.said r.cut r.count r.ends.2 r.answered r.ends.3.unused r.told r.ends.3.unwritten
  whole_links read written old new Spent whole r = record {
    said = r.said;
    stop = spent;
    calls = record { open_calls = calls_of r.said; rest = r.rest; cut = r.cut; ends = (refl, count_calls r.said ∙ r.count) };
    answered = subst (λ (z : P). Answered answers old r.said z) (sym r.ends.unused) r.answered;
    told = r.told ∙ ap (λ (l : List ℕ). answers_of r.said ++ l) r.ends.unwritten;
  }
  whole_links read written old new LinkFault whole r = absurd whole
  whole_links read written old new OutOfMemory whole r = absurd whole

pub whole_link : {P : Type 0} (answers lost : Called → P → P → List ℕ → Type 0) (old new : LinkState) (pass pass' : P) (end : LinkEnd) → IsServedLink answers lost old new pass pass' end → IsWhole end → AnswersLink answers old new pass pass'
whole_link answers lost old new pass pass' end served whole = record {
  read = served.read;
  written = served.written;
  takes = served.takes;
  adds = served.adds;
  calls = whole_links answers lost _ _ served.read served.written pass pass' end whole served.run;
}
