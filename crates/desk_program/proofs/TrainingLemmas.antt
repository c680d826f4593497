-- What an accepted issue makes of the training office.
use Rattle.std.proofs.Common.{◌≡◌, ◌≤◌, ◌<◌, ◌==◌, ◌+◌, ◌∙◌, inr, ℕ, ℤ, pos, true, false, List, [], ◌∷◌, length, Option, None, Some, option_map, Result, Ok, Err, IfOk, OnOk, OnErr, refl, ap, sym, subst, arith, length-append}
use Rattle.std.proofs.lemmas.Bool.{ne_eqb}
use Rattle.office_types.specs.declared.request.Entry.{Entry}
use Rattle.office_types.specs.declared.request.PutPart.{PutPart}
use Rattle.office_types.specs.declared.request.Reply.{Reply as Kept}
use Rattle.office_types.specs.declared.request.Request.TheVariants.{Issue}
use Rattle.office_core.specs.Agreement.{ReadsAsTheBoard}
use Rattle.office_core.specs.Rules.{minute_of}
use Rattle.office_core.specs.State.{State, last_number, last_of}
use Rattle.office_core.specs.Step.{Accepts, Repeats, entry_of, state_after}
use Rattle.office_core.specs.declared.made.Made.{Made}
use Rattle.office_types.specs.declared.refusal.Refusal.TheVariants.{LineTooLong}
use Rattle.program_ends.specs.Replies.{bytes_of}
use Rattle.program_ends.specs.declared.reply.Reply.{Reply}
use Rattle.desk_commands.specs.Lines.{refusal_line}
use Rattle.desk_drill.proofs.Keeping.{has_made}
use Rattle.desk_program.specs.Training.{Replies, Trained, AnswersIssue, IsAccepted, IsTraining, dry_desk, next_number}

-- the entry's minute is that of training
pub at_minute : (s : State) (at : ℕ) (t : ℕ) → s.last ≤ at → t ≡ minute_of s (pos at) → t ≡ at
at_minute s at t early is = grind (arith, is, early)

-- the next number is no repetition
pub not_again : (s : State) (at : ℕ) (part : PutPart) (kept : Kept) → IsTraining s at → Repeats s dry_desk (next_number s) (Issue part) kept → ⊥
not_again s at part kept training again =
    let last : last_number s dry_desk ≡ next_number s = ap last_of again.same in
    omega (arith, last, training.numbered)

-- what stands between lines stands behind an accepted one
pub goes_on : (s next : State) (at : ℕ) (part : PutPart) (one : Made) → IsTraining s at → length s.products < 8192
    → next ≡ state_after s (entry_of s dry_desk (next_number s) (Issue part) at (Some one)) (Some one) → last_number next dry_desk ≡ next_number s → ReadsAsTheBoard next → IsTraining next at
unfolding state_after
goes_on s next at part one training few is number reads =
    let products : length next.products ≡ length s.products + 1 = ap (λ (x : State). length x.products) is ∙ length-append s.products (one.sent ∷ []) in
    record {
      numbered = number ∙ sym products;
      few = omega (arith, products, few);
      undrafted = ap (λ (x : State). x.begun) is ∙ training.undrafted;
      timely = omega (arith, ap (λ (x : State). x.last) is);
      reads = reads;
    }

some_text : (made : Option Made) (one : Made) (text : List ℕ) → made ≡ Some one → option_map (λ (m : Made). m.sent.text) made ≡ Some text → text ≡ one.sent.text
some_text None one text is told = absurd (cc)
some_text (Some m) one text is told = cc

-- what was made is told
pub accepted_core : (s next : State) (at : ℕ) (part : PutPart) (made : Option Made) (text : List ℕ) → Accepts s dry_desk (next_number s) (Issue part) (pos at) at made
    → option_map (λ (m : Made). m.sent.text) made ≡ Some text → next ≡ state_after s (entry_of s dry_desk (next_number s) (Issue part) at made) made → IsAccepted at s part text next
accepted_core s next at part made text accepts told after =
    let m = has_made s dry_desk (next_number s) part (pos at) at made accepts in
    record {
      made = m.one;
      accepted = subst (λ (o : Option Made). Accepts s dry_desk (next_number s) (Issue part) (pos at) at o) m.is accepts;
      told = some_text made m.one text m.is told;
      after = subst (λ (o : Option Made). next ≡ state_after s (entry_of s dry_desk (next_number s) (Issue part) at o) o) m.is after;
    }

-- An issue that the office took under the next number, at the minute of training.
pub answers_new : (s' s next : State) (d : List ℕ) (n at : ℕ) (r : ℤ) (part : PutPart) (entry : Entry) (made : Option Made) (text : List ℕ)
    → s' ≡ s → d ≡ dry_desk → n ≡ next_number s → r ≡ pos at → IsTraining s at
    → Accepts s' d n (Issue part) r entry.minute made → entry ≡ entry_of s' d n (Issue part) entry.minute made
    → option_map (λ (m : Made). m.sent.text) made ≡ Some text → next ≡ state_after s' entry made → IsAccepted at s part text next
answers_new s' s next d n at r part entry made text es ed en er training a is told after =
    let a1 : Accepts s d n (Issue part) r entry.minute made = subst (λ (x : State). Accepts x d n (Issue part) r entry.minute made) es a in
    let a2 : Accepts s dry_desk n (Issue part) r entry.minute made = subst (λ (x : List ℕ). Accepts s x n (Issue part) r entry.minute made) ed a1 in
    let a3 : Accepts s dry_desk (next_number s) (Issue part) r entry.minute made = subst (λ (x : ℕ). Accepts s dry_desk x (Issue part) r entry.minute made) en a2 in
    let a4 : Accepts s dry_desk (next_number s) (Issue part) (pos at) entry.minute made = subst (λ (x : ℤ). Accepts s dry_desk (next_number s) (Issue part) x entry.minute made) er a3 in
    let et : entry.minute ≡ at = at_minute s at entry.minute training.timely a4.minute in
    let a5 : Accepts s dry_desk (next_number s) (Issue part) (pos at) at made = subst (λ (x : ℕ). Accepts s dry_desk (next_number s) (Issue part) (pos at) x made) et a4 in
    let f1 : next ≡ state_after s' (entry_of s' d n (Issue part) entry.minute made) made = after ∙ ap (λ (e : Entry). state_after s' e made) is in
    let f2 : next ≡ state_after s (entry_of s d n (Issue part) entry.minute made) made = subst (λ (x : State). next ≡ state_after x (entry_of x d n (Issue part) entry.minute made) made) es f1 in
    let f3 : next ≡ state_after s (entry_of s dry_desk n (Issue part) entry.minute made) made = subst (λ (x : List ℕ). next ≡ state_after s (entry_of s x n (Issue part) entry.minute made) made) ed f2 in
    let f4 : next ≡ state_after s (entry_of s dry_desk (next_number s) (Issue part) entry.minute made) made = subst (λ (x : ℕ). next ≡ state_after s (entry_of s dry_desk x (Issue part) entry.minute made) made) en f3 in
    let f5 : next ≡ state_after s (entry_of s dry_desk (next_number s) (Issue part) at made) made = subst (λ (x : ℕ). next ≡ state_after s (entry_of s dry_desk (next_number s) (Issue part) x made) made) et f4 in
    accepted_core s next at part made text a5 told f5

-- the same, where it was committed or memory lacked
pub answers_if : {E : Type 0} (result : Result Reply E) (s' s next : State) (d : List ℕ) (n at : ℕ) (r : ℤ) (part : PutPart) (entry : Entry) (made : Option Made)
    → s' ≡ s → d ≡ dry_desk → n ≡ next_number s → r ≡ pos at → IsTraining s at
    → Accepts s' d n (Issue part) r entry.minute made → entry ≡ entry_of s' d n (Issue part) entry.minute made
    → IfOk result (λ reply. option_map (λ (m : Made). m.sent.text) made ≡ Some (bytes_of reply)) → OnOk result (next ≡ state_after s' entry made)
    → IfOk result (λ reply. AnswersIssue at s (Ok part) (bytes_of reply) next)
answers_if (Ok reply) s' s next d n at r part entry made es ed en er training a is told after = inr (answers_new s' s next d n at r part entry made (bytes_of reply) es ed en er training a is told after)
answers_if (Err e) s' s next d n at r part entry made es ed en er training a is told after = tt

pub trains_if : {E : Type 0} (result : Result Reply E) (s' s next : State) (d : List ℕ) (n at : ℕ) (r : ℤ) (part : PutPart) (entry : Entry) (made : Option Made)
    → s' ≡ s → d ≡ dry_desk → n ≡ next_number s → r ≡ pos at → IsTraining s at
    → Accepts s' d n (Issue part) r entry.minute made → entry ≡ entry_of s' d n (Issue part) entry.minute made
    → IfOk result (λ reply. option_map (λ (m : Made). m.sent.text) made ≡ Some (bytes_of reply)) → OnOk result (next ≡ state_after s' entry made)
    → OnOk result (last_number next entry.desk ≡ entry.seq) → OnOk result (ReadsAsTheBoard next) → OnErr result (next ≡ s') → IsTraining next at
trains_if (Ok reply) s' s next d n at r part entry made es ed en er training a is told after number reads lacked =
    let done = answers_new s' s next d n at r part entry made (bytes_of reply) es ed en er training a is told after in
    let a1 : Accepts s d n (Issue part) r entry.minute made = subst (λ (x : State). Accepts x d n (Issue part) r entry.minute made) es a in
    let a2 : Accepts s dry_desk n (Issue part) r entry.minute made = subst (λ (x : List ℕ). Accepts s x n (Issue part) r entry.minute made) ed a1 in
    let few = (has_made s dry_desk n part r entry.minute made a2).room in
    let desk : entry.desk ≡ dry_desk = ap (λ (e : Entry). e.desk) is ∙ ed in
    let seq : entry.seq ≡ next_number s = ap (λ (e : Entry). e.seq) is ∙ en in
    let last : last_number next dry_desk ≡ next_number s = subst (λ (x : List ℕ). last_number next x ≡ next_number s) desk (number ∙ seq) in
    goes_on s next at part done.made training few done.after last reads
trains_if (Err e) s' s next d n at r part entry made es ed en er training a is told after number reads lacked =
    subst (λ (x : State). IsTraining x at) (sym (lacked ∙ es)) training

-- a line that is too long is refused, and nothing changes
pub long_line : {E : Type 0} (d : Trained) (line : Option (List ℕ)) (r : Result Reply E) → IsTraining d.state d.at → line ≡ None → IfOk r (λ reply. bytes_of reply ≡ refusal_line LineTooLong) → IfOk r (λ reply. Replies d line (bytes_of reply) d)
long_line d line (Ok reply) t e is = subst (λ (l : Option (List ℕ)). Replies d l (bytes_of reply) d) (sym e) (record { answered = (is, refl); same = refl; reads = t.reads })
long_line d line (Err x) t e is = tt

-- an empty line gets no answer
pub empty_line : (d : Trained) (line : Option (List ℕ)) → IsTraining d.state d.at → line ≡ Some [] → Replies d line [] d
empty_line d line t e = subst (λ (l : Option (List ℕ)). Replies d l [] d) (sym e) (record { answered = (refl, refl); same = refl; reads = t.reads })

pub empty_of : (line : List ℕ) → true ≡ (length line == 0) → line ≡ []
empty_of [] e = refl
empty_of (c ∷ line) e =
    let some : (length (c ∷ line) == 0) ≡ false = ne_eqb (length (c ∷ line)) 0 (λ q. absurd (omega arith)) in
    absurd (let f : true ≡ false = e ∙ some in cc)
