-- A run over lines is one of notices: no other answers are possible, and a reader finds the history of the notices.
use Rattle.std.proofs.Common.{◌≡◌, ◌∙◌, ◌⊎◌, true, false, inl, inr, ◌++◌, ℕ, List, [], ◌∷◌, length, Option, Some, None, Result, Ok, Err, refl, sym, ap, subst, arith}
use Rattle.std.specs.Prelude.{IsTrue}
use Rattle.std.specs.Option.{is_some}
use Rattle.std.specs.List.Sorted.{IsStrictlySortedBy}
use Rattle.byte_streams.specs.Flows.{Streams}
use Rattle.hazard_types.specs.Characters.{is_office}
use Rattle.hazard_types.specs.declared.line.Line.{Line}
use Rattle.segmenter.proofs.LawLemmas.{segments_alike}
use Rattle.notice_json.specs.Form.{command_of}
use Rattle.notice_json.specs.declared.command.Command.{Command}
use Rattle.notice_json.specs.declared.command.Watch.{Watch}
use Rattle.notice_json.specs.declared.refusal.NoticeRefusal.{NoticeRefusal}
use Rattle.notice_json.specs.declared.refusal.NoticeRefusal.TheVariants.{LineTooLong, TooLong}
use Rattle.notice_json.proofs.CommandForms.{commands_have_form}
use Rattle.program_ends.specs.Ends.{IsUsage, own_status}
use Rattle.program_ends.specs.Lines.{fit}
use Rattle.program_ends.specs.Runs.{Answered, IsLinesRun}
use Rattle.program_ends.specs.declared.ends.End.{End}
use Rattle.program_ends.specs.declared.ends.End.TheVariants.{ReadFault, WriteFault, InputTooLong, OutOfMemory}
use Rattle.county_notices.specs.Answers.{AnswersCommand, AnswersLine, IsNoticed, IsTurnedDown, LacksLine, refusal_line}
use Rattle.county_notices.specs.Commands.{Noticed, broken}
use Rattle.county_notices.specs.NoticeHistory.{IsAccepted, IsRefused, IsTooLong, after, first}
use Rattle.county_notices.specs.NoticeRuns.{AreTold, DoesAsAsked, IsNoticeRun, Tells}
use Rattle.county_notices.specs.Notices.{IsNotice, text_of}
use Rattle.county_notices.specs.Reading.{IsHistory, Noted, products_read}
use Rattle.county_notices.specs.Standing.{IsStanding}
use Rattle.county_notices.specs.Words.{parse_issuer}
use Rattle.county_notices.specs.declared.issuer.Issuer.{Issuer}
use Rattle.county_notices.proofs.ApartProducts.{merged}
use Rattle.county_notices.proofs.HistoryLemmas.{history_read}

-- ---- a line has one answer

one_notice : (by : Issuer) (t : ℕ) (watch : Watch) (lines : List Line) (text other : List ℕ) → IsNotice by t watch lines text → IsNotice by t watch lines other → text ≡ other
one_notice by t watch lines text other a b =
    a.value ∙ ap (text_of by t watch) (segments_alike lines a.segments b.segments a.are b.are) ∙ sym b.value

too_long_short : (s : Noticed) (c : Command) (rule : NoticeRefusal) (text : List ℕ) → IsTooLong s c rule → IsAccepted s c text → ⊥
too_long_short s c rule text f g =
    let same : f.text ≡ text = one_notice s.by c.at c.watch _ f.text text f.notice g.notice in
    let lengths : length f.text ≡ length text = ap length same in
    omega (arith, lengths, f.long, g.short)

both_no : {X : Type 0} (o : Option X) (x : X) → o ≡ None → o ≡ Some x → ⊥
both_no o x none some = let never : None ≡ Some x = sym none ∙ some in cc

one_rule : (s : Noticed) (c : Command) (x y : NoticeRefusal) → IsRefused s c x → IsRefused s c y → x ≡ y
one_rule s c x y (inl f) (inl g) = let same : Some x ≡ Some y = sym f ∙ g in cc
one_rule s c x y (inl f) (inr g) = absurd (both_no (broken s c) x g.kept f)
one_rule s c x y (inr f) (inl g) = absurd (both_no (broken s c) y f.kept g)
one_rule s c x y (inr f) (inr g) =
    f.named ∙ ap (λ (text : List ℕ). TooLong (length text)) (one_notice s.by c.at c.watch _ f.text g.text f.notice g.notice) ∙ sym g.named

apart : (s : Noticed) (c : Command) (x : NoticeRefusal) (text : List ℕ) → IsRefused s c x → IsAccepted s c text → ⊥
apart s c x text (inl f) g = both_no (broken s c) x g.kept f
apart s c x text (inr f) g = too_long_short s c x text f g

abbrev Same : List ℕ → Noticed → List ℕ → Noticed → Type 0
Same text next other last = (text ≡ other) × (next ≡ last)

both_are : (text other : List ℕ) (next last : Noticed) (t : List ℕ) (s : Noticed) → text ≡ t → next ≡ s → other ≡ t → last ≡ s → Same text next other last
both_are text other next last t s a b c d = (a ∙ sym c, b ∙ sym d)

command_once : (s : Noticed) (c : Command) (text other : List ℕ) (next last : Noticed) → (IsTurnedDown s c text next ⊎ IsNoticed s c text next) → (IsTurnedDown s c other last ⊎ IsNoticed s c other last) → Same text next other last
command_once s c text other next last (inl f) (inl g) =
    both_are text other next last (refusal_line f.rule) s f.told f.unchanged (g.told ∙ ap refusal_line (one_rule s c g.rule f.rule g.broken f.broken)) g.unchanged
command_once s c text other next last (inl f) (inr g) = absurd (apart s c f.rule other f.broken g.accepted)
command_once s c text other next last (inr f) (inl g) = absurd (apart s c g.rule text g.broken f.accepted)
command_once s c text other next last (inr f) (inr g) =
    (one_notice s.by c.at c.watch _ text other f.accepted.notice g.accepted.notice, f.left ∙ sym g.left)

asked_once : (s : Noticed) (r : Result Command NoticeRefusal) (text other : List ℕ) (next last : Noticed) → AnswersCommand s r text next → AnswersCommand s r other last → Same text next other last
asked_once s (Err x) text other next last f g = both_are text other next last (refusal_line x) s f.0 f.1 g.0 g.1
asked_once s (Ok c) text other next last f g = command_once s c text other next last f g

line_once : (s : Noticed) (line : Option (List ℕ)) (text other : List ℕ) (next last : Noticed) → AnswersLine s line text next → AnswersLine s line other last → Same text next other last
line_once s None text other next last f g = both_are text other next last _ s f.0 f.1 g.0 g.1
line_once s (Some []) text other next last f g = both_are text other next last [] s f.0 f.1 g.0 g.1
line_once s (Some (b ∷ line)) text other next last f g = asked_once s (command_of (b ∷ line)) text other next last f g

answered_once : (s : Noticed) (lines : List (List ℕ)) (told other : List ℕ) (z last : Noticed) → Answered AnswersLine s lines told z → Answered AnswersLine s lines other last → Same told z other last
answered_once s [] told other z last f g = both_are told other z last [] s f.0 f.1 g.0 g.1
answered_once s (line ∷ lines) told other z last f g =
    let one = line_once s (fit line) f.0 g.0 f.1 g.1 f.3 g.3 in
    let rest = answered_once f.1 lines f.2 g.2 z last f.5 (subst (λ (n : Noticed). Answered AnswersLine n lines g.2 last) (sym one.1) g.5) in
    (f.4 ∙ ap (λ (t : List ℕ). t ++ f.2) one.0 ∙ ap (λ (t : List ℕ). g.0 ++ t) rest.0 ∙ sym g.4, rest.1)

-- ---- the notices among the answers

-- those of a line, and of lines
record LineTells (s : Noticed) (line : Option (List ℕ)) (text : List ℕ) (next : Noticed) : Type 0 where
  notes : List Noted
  told : Tells s line text notes next
  history : IsHistory s notes next

record LinesTell (s : Noticed) (lines : List (List ℕ)) (text : List ℕ) (z : Noticed) : Type 0 where
  notes : List Noted
  told : AreTold s lines text notes z
  history : IsHistory s notes z

command_tells : (s : Noticed) (bytes : List ℕ) (r : Result Command NoticeRefusal) (text : List ℕ) (next : Noticed) → command_of bytes ≡ r → AnswersLine s (Some bytes) text next → AnswersCommand s r text next → LineTells s (Some bytes) text next
command_tells s bytes (Err x) text next is answered f =
    record { notes = []; told = inr (record { answered = answered; quiet = inr (x, f.0); unchanged = f.1; noted = refl }); history = f.1 }
command_tells s bytes (Ok c) text next is answered (inl f) =
    record { notes = []; told = inr (record { answered = answered; quiet = inr (f.rule, f.told); unchanged = f.unchanged; noted = refl }); history = f.unchanged }
command_tells s bytes (Ok c) text next is answered (inr f) = record {
  notes = record { command = c; text = text } ∷ [];
  told = inl (record { bytes = bytes; command = c; given = refl; asked = is; noticed = f; noted = refl });
  history = (commands_have_form bytes c is, f.accepted, f.left);
}

line_tells : (s : Noticed) (line : Option (List ℕ)) (text : List ℕ) (next : Noticed) → AnswersLine s line text next → LineTells s line text next
line_tells s None text next f = record { notes = []; told = inr (record { answered = f; quiet = inr (LineTooLong, f.0); unchanged = f.1; noted = refl }); history = f.1 }
line_tells s (Some []) text next f = record { notes = []; told = inr (record { answered = f; quiet = inl f.0; unchanged = f.1; noted = refl }); history = f.1 }
line_tells s (Some (b ∷ line)) text next f = command_tells s (b ∷ line) (command_of (b ∷ line)) text next refl f f

goes_on : (s : Noticed) (notes more : List Noted) (b z : Noticed) → IsHistory s notes b → IsHistory b more z → IsHistory s (notes ++ more) z
goes_on s [] more b z h g = subst (λ (x : Noticed). IsHistory x more z) h g
goes_on s (n ∷ notes) more b z h g = (h.0, h.1, goes_on (after s n.command) notes more b z h.2 g)

lines_tell : (s : Noticed) (lines : List (List ℕ)) (told : List ℕ) (z : Noticed) → Answered AnswersLine s lines told z → LinesTell s lines told z
lines_tell s [] told z f = record { notes = []; told = (f.0, refl, f.1); history = f.1 }
lines_tell s (line ∷ lines) told z f =
    let own = line_tells s (fit line) f.0 f.1 f.3 in
    let more = lines_tell f.1 lines f.2 z f.5 in
    record {
      notes = own.notes ++ more.notes;
      told = (f.0, own.notes, f.1, f.2, more.notes, own.told, f.4, refl, more.told);
      history = goes_on s own.notes more.notes f.1 z own.history more.history;
    }

-- ---- runs

pub begins_standing : (by : Issuer) → IsTrue (is_office by.office) → IsStanding (first by)
unfolding IsStrictlySortedBy
begins_standing by office = record {
  office = office;
  order = tt;
  consistent = record { apart = tt; numbered = tt; ends = tt };
  behind = tt;
  watches = tt;
  minute = omega arith;
}

pub runs : (by : Issuer) (limit : ℕ) (z : Noticed) (before after : Streams) (status : ℕ) → IsTrue (is_office by.office) →
    IsLinesRun AnswersLine LacksLine limit (first by) z before after status → IsNoticeRun by limit before after status
runs by limit z before after status office run =
    let answered = run.run.answered in
    let tell = lines_tell (first by) run.run.lines run.told run.run.last answered in
    let read = history_read (first by) tell.notes run.run.last (begins_standing by office) refl tell.history in
    record {
      left = z;
      run = run;
      only = λ told last other. answered_once (first by) run.run.lines told run.told last run.run.last other answered;
      notes = tell.notes;
      told = tell.told;
      history = tell.history;
      read_back = read;
      desks_numbers = λ desk all own m. merged desk (products_read by.office tell.notes) all own read.others m;
    }

not_two : (end : Option End) → ((end ≡ None) ⊎ (end ≡ Some ReadFault) ⊎ (end ≡ Some WriteFault) ⊎ (end ≡ Some InputTooLong) ⊎ (end ≡ Some OutOfMemory)) → 2 ≡ own_status end → ⊥
not_two end (inl e) own = omega (arith, own, ap own_status e)
not_two end (inr (inl e)) own = omega (arith, own, ap own_status e)
not_two end (inr (inr (inl e))) own = omega (arith, own, ap own_status e)
not_two end (inr (inr (inr (inl e)))) own = omega (arith, own, ap own_status e)
not_two end (inr (inr (inr (inr e)))) own = omega (arith, own, ap own_status e)

pub does_notices : (words : List (List ℕ)) (by : Issuer) (limit : ℕ) (before after : Streams) (status : ℕ) → parse_issuer words ≡ Some by →
    IsNoticeRun by limit before after status → DoesAsAsked words limit before after status
does_notices words by limit before after status is run = record {
  run = rw is run;
  usage = λ two. absurd (not_two run.run.end run.run.run.reasons (sym two ∙ (run.run.telling.told.others (λ eight. omega (arith, two, eight))).0));
  read_fault = run.run.read_fault;
  write_fault = run.run.write_fault;
  complete = λ some none quiet. run.run.complete none quiet;
}

pub does_usage : (words : List (List ℕ)) (limit : ℕ) (before after : Streams) (status : ℕ) → parse_issuer words ≡ None →
    IsUsage before after status → DoesAsAsked words limit before after status
does_usage words limit before after status is run = record {
  run = rw is run;
  usage = λ two. ap (λ (o : Option Issuer). is_some o) is;
  read_fault = λ seven. let own = run.telling.told.others (λ eight. omega (arith, seven, eight)) in let two : status ≡ 2 = own.0 in absurd (omega (arith, seven, two));
  write_fault = λ eight. (run.telling.told.cut eight).0;
  complete = λ some none quiet. let never : true ≡ false = sym some ∙ ap (λ (o : Option Issuer). is_some o) is in cc;
}
