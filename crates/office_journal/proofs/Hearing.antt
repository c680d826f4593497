-- What a desk said last, in the state behind a history.
use Rattle.std.proofs.Common.{◌≡◌, ◌≢◌, ◌⊎◌, ◌∙◌, ◌||◌, ◌==◌, inl, inr, ℕ, ℤ, pos, List, [], ◌∷◌, ◌++◌, map, Bool, true, false, cond, if◌then◌else◌, Option, None, Some, refl, sym, ap, subst}
use Rattle.std.proofs.lemmas.Bool.{and_from, both_ways, eq-eqb}
use Rattle.std.proofs.lemmas.Slice.Eq.{bytes_eq-Decides}
use Rattle.std.specs.List.{AllByRecursion, list_any}
use Rattle.std.specs.Str.{bytes_eq}
use Rattle.desk_traits.specs.Crash.{Crashes}
use Rattle.hazard_types.specs.declared.codes.Class.TheVariants.{O}
use Rattle.office_types.specs.declared.refusal.Refusal.TheVariants as refusal
use Rattle.office_types.specs.declared.request.Edition.TheVariants.{One}
use Rattle.office_types.specs.declared.request.Entry.{Entry}
use Rattle.office_types.specs.declared.request.Reply.{Reply}
use Rattle.office_types.specs.declared.request.Request.{Request}
use Rattle.office_types.proofs.Equality.{request_itself}
use Rattle.desk_settings.specs.declared.settings.Settings.{Settings}
use Rattle.request_json.specs.Replies.{reply_text}
use Rattle.office_core.specs.Histories.{Entered, IsNext, LeadFrom}
use Rattle.office_core.specs.Requests.{same_request}
use Rattle.office_core.specs.Rules.{broken_request, is_kept, is_repeated, unknown_desk}
use Rattle.office_core.specs.State.{State, first_state, in_edition, said_by, said_in, no_requests}
use Rattle.office_core.specs.Step.{Refuses, Repeats, heard_after, state_after}
use Rattle.office_core.specs.declared.heard.DeskRecord.{DeskRecord}
use Rattle.office_core.specs.declared.heard.LastRequest.{LastRequest}
use Rattle.office_core.specs.declared.made.Made.{Made}
use Rattle.office_core.proofs.AnswerLemmas.{not_refused, not_repeated, some_one}
use Rattle.office_core.proofs.BrokenLemmas.{known_desk}
use Rattle.office_journal.specs.Histories.{History, IsHistory, fits}
use Rattle.office_journal.specs.Kept.{state_of}
use Rattle.office_journal.specs.Outcomes.{Becomes, IsAsBefore}
use Rattle.office_journal.specs.SentAgain.{HasOneEffect, IsLastOf}
use Rattle.office_journal.specs.Submitting.{IsOffered}
use Rattle.office_journal.specs.declared.answers.Answer.{Answer}
use Rattle.office_journal.specs.declared.answers.Answer.TheVariants.{Accepted, Repeated, Refused, DiskFault, OutOfMemory}
use Rattle.office_journal.specs.declared.kept.KeptOffice.{KeptOffice}

bytes_one : (xs ys : List ℕ) → bytes_eq xs ys ≡ true → xs ≡ ys
bytes_one xs ys = (bytes_eq-Decides xs ys).0

bytes_itself : (xs : List ℕ) → bytes_eq xs xs ≡ true
bytes_itself xs = (bytes_eq-Decides xs xs).1 refl

-- ---- one desk among those that are heard

abbrev names : List DeskRecord → List (List ℕ)
names heard = map (λ (h : DeskRecord). h.desk) heard

here_or_later : (a b rest : Bool) (h : DeskRecord) (heard more : List DeskRecord) (desk : List ℕ) (said : LastRequest) → bytes_eq h.desk desk ≡ a → bytes_eq desk h.desk ≡ b → (b || rest) ≡ true → (rest ≡ true → said_in more desk ≡ Some said)
    → said_in (cond a (record { desk = h.desk; said = Some said } ∷ heard) (h ∷ more)) desk ≡ Some said
here_or_later true b rest h heard more desk said here there any later = ap (λ (x : Bool). cond x (Some said) (said_in heard desk)) here
here_or_later false true rest h heard more desk said here there any later = absurd (both_ways _ here (subst (λ (x : List ℕ). bytes_eq x desk ≡ true) (bytes_one desk h.desk there) (bytes_itself desk)))
here_or_later false false rest h heard more desk said here there any later = ap (λ (x : Bool). cond x h.said (said_in more desk)) here ∙ later any

said_here : (heard : List DeskRecord) (desk : List ℕ) (said : LastRequest) → list_any (bytes_eq desk) (names heard) ≡ true → said_in (heard_after heard desk said) desk ≡ Some said
said_here [] desk said any = cc
said_here (h ∷ heard) desk said any =
    here_or_later (bytes_eq h.desk desk) (bytes_eq desk h.desk) (list_any (bytes_eq desk) (names heard)) h heard (heard_after heard desk said) desk said refl refl any (said_here heard desk said)

other_step : (a b : Bool) (h : DeskRecord) (heard more : List DeskRecord) (desk d : List ℕ) (said : LastRequest) → bytes_eq h.desk desk ≡ a → bytes_eq h.desk d ≡ b → desk ≢ d → said_in more d ≡ said_in heard d
    → said_in (cond a (record { desk = h.desk; said = Some said } ∷ heard) (h ∷ more)) d ≡ cond b h.said (said_in heard d)
other_step true true h heard more desk d said here there other same = absurd (other (sym (bytes_one h.desk desk here) ∙ bytes_one h.desk d there))
other_step true false h heard more desk d said here there other same = ap (λ (x : Bool). cond x (Some said) (said_in heard d)) there
other_step false true h heard more desk d said here there other same = ap (λ (x : Bool). cond x h.said (said_in more d)) there
other_step false false h heard more desk d said here there other same = ap (λ (x : Bool). cond x h.said (said_in more d)) there ∙ same

said_still : (heard : List DeskRecord) (desk d : List ℕ) (said : LastRequest) → desk ≢ d → said_in (heard_after heard desk said) d ≡ said_in heard d
said_still [] desk d said other = refl
said_still (h ∷ heard) desk d said other =
    other_step (bytes_eq h.desk desk) (bytes_eq h.desk d) h heard (heard_after heard desk said) desk d said refl refl other (said_still heard desk d said other)

name_step : (b : Bool) (h : DeskRecord) (heard more : List DeskRecord) (said : LastRequest) → names more ≡ names heard → names (cond b (record { desk = h.desk; said = Some said } ∷ heard) (h ∷ more)) ≡ names (h ∷ heard)
name_step true h heard more said same = refl
name_step false h heard more said same = ap (λ (ds : List (List ℕ)). h.desk ∷ ds) same

same_names : (heard : List DeskRecord) (desk : List ℕ) (said : LastRequest) → names (heard_after heard desk said) ≡ names heard
same_names [] desk said = refl
same_names (h ∷ heard) desk said = name_step (bytes_eq h.desk desk) h heard (heard_after heard desk said) said (same_names heard desk said)

names_unheard : (desks : List (List ℕ)) → names (map no_requests desks) ≡ desks
names_unheard [] = refl
names_unheard (d ∷ desks) = ap (λ (ds : List (List ℕ)). d ∷ ds) (names_unheard desks)

-- ---- along a history

abbrev said_of : Entry → LastRequest
said_of e = record { seq = e.seq; request = e.request; reply = e.reply }

heard_next : (s : State) (e : Entry) (made : Option Made) → (state_after s e made).heard ≡ heard_after s.heard e.desk (said_of e)
unfolding state_after
heard_next s e made = refl

settings_next : (s : State) (e : Entry) (made : Option Made) → (state_after s e made).settings ≡ s.settings
unfolding state_after
settings_next s e made = refl

-- each desk of the settings is heard
abbrev AreHeard : State → Type 0
AreHeard s = names s.heard ≡ s.settings.desks

-- this is what its desk said last, and the desk is known
record SaidLast (s : State) (x : Entered) : Type 0 where
  said : said_by s x.entry.desk ≡ Some (said_of x.entry)
  known : unknown_desk s x.entry.desk ≡ None

is_known : (b : Bool) → (if b then None else Some refusal.UnknownDesk) ≡ None → b ≡ true
is_known true known = refl
is_known false known = cc

module _ (fit : List Entered → Entered → Bool) (earlier : List Entered) (s : State) (y : Entered) (next : State) (is : IsNext fit earlier s y next) where
  heard : next.heard ≡ heard_after s.heard y.entry.desk (said_of y.entry)
  heard = ap (λ (z : State). z.heard) is.after ∙ heard_next (in_edition y.entry.edition s) y.entry y.made

  settings : next.settings ≡ s.settings
  settings = ap (λ (z : State). z.settings) is.after ∙ settings_next (in_edition y.entry.edition s) y.entry y.made

  heard_then : AreHeard s → AreHeard next
  heard_then all = ap names heard ∙ same_names s.heard y.entry.desk (said_of y.entry) ∙ all ∙ ap (λ (z : Settings). z.desks) (sym settings)

  known_then : (desk : List ℕ) → unknown_desk s desk ≡ None → unknown_desk next desk ≡ None
  known_then desk known = ap (λ (z : Settings). if list_any (bytes_eq desk) z.desks then None else Some refusal.UnknownDesk) settings ∙ known

  known_now : unknown_desk s y.entry.desk ≡ None
  known_now = known_desk (in_edition y.entry.edition s) y.entry.desk y.entry.seq y.entry.request (pos y.entry.minute) is.accepted.new is.accepted.request

  said_then : AreHeard s → SaidLast next y
  said_then all = record {
    said = ap (λ (hs : List DeskRecord). said_in hs y.entry.desk) heard
        ∙ said_here s.heard y.entry.desk (said_of y.entry) (ap (list_any (bytes_eq y.entry.desk)) all ∙ is_known (list_any (bytes_eq y.entry.desk) s.settings.desks) known_now);
    known = known_then y.entry.desk known_now;
  }

  still_said : (x : Entered) → y.entry.desk ≢ x.entry.desk → SaidLast s x → SaidLast next x
  still_said x other last = record {
    said = ap (λ (hs : List DeskRecord). said_in hs x.entry.desk) heard ∙ said_still s.heard y.entry.desk x.entry.desk (said_of y.entry) other ∙ last.said;
    known = known_then x.entry.desk last.known;
  }

module _ (fit : List Entered → Entered → Bool) (x : Entered) where
  led_on : (earlier : List Entered) (s : State) (later : List Entered) (after : State) → LeadFrom fit earlier s later after → AllByRecursion (λ (y : Entered). y.entry.desk ≢ x.entry.desk) later → SaidLast s x → SaidLast after x
  led_on earlier s [] after led others last = subst (λ (z : State). SaidLast z x) (sym led) last
  led_on earlier s (y ∷ later) after (next, is, rest) (other, others) last = led_on (earlier ++ y ∷ []) next later after rest others (still_said fit earlier s y next is x other last)

  led_to : (earlier : List Entered) (s : State) (front later : List Entered) (after : State) → LeadFrom fit earlier s (front ++ x ∷ later) after → AllByRecursion (λ (y : Entered). y.entry.desk ≢ x.entry.desk) later → AreHeard s → SaidLast after x
  led_to earlier s [] later after (next, is, rest) others all = led_on (earlier ++ x ∷ []) next later after rest others (said_then fit earlier s x next is all)
  led_to earlier s (y ∷ front) later after (next, is, rest) others all = led_to (earlier ++ y ∷ []) next front later after rest others (heard_then fit earlier s y next is all)

first_heard : (settings : Settings) → AreHeard (first_state settings O One)
first_heard settings = names_unheard settings.desks

said_last : (file : List ℕ) (h : History) (s : State) (x : Entered) → IsHistory file h s → IsLastOf h x → SaidLast s x
said_last file h s x is last =
    let led : LeadFrom (fits file) [] (first_state is.settings O One) (last.earlier ++ x ∷ last.later) is.last = subst (λ (l : List Entered). LeadFrom (fits file) [] (first_state is.settings O One) l is.last) last.stands is.legal in
    let said = led_to (fits file) x [] (first_state is.settings O One) last.earlier last.later is.last led last.others (first_heard is.settings) in
    subst (λ (z : State). SaidLast z x) (sym is.state) (record { said = said.said; known = said.known })

-- ---- the same request again

kept_so : (o : Option LastRequest) (said : LastRequest) → o ≡ Some said → is_kept o said.seq said.request ≡ true
kept_so o said is = ap (λ (z : Option LastRequest). is_kept z said.seq said.request) is ∙ and_from (said.seq == said.seq) (same_request said.request said.request) (eq-eqb said.seq said.seq refl) (request_itself said.request)

unbroken : (s : State) (desk : List ℕ) (seq : ℕ) (r : Request) (reading : ℤ) → is_repeated s desk seq r ≡ true → unknown_desk s desk ≡ None → broken_request s desk seq r reading ≡ None
unfolding broken_request
unbroken s desk seq r reading again known = rw again known

repeats : (s : State) (x : Entered) → SaidLast s x → Repeats s x.entry.desk x.entry.seq x.entry.request x.entry.reply
repeats s x last = record {
  known = unbroken s x.entry.desk x.entry.seq x.entry.request (pos 0) (kept_so (said_by s x.entry.desk) (said_of x.entry) last.said) last.known;
  same = last.said;
}

same_reply : (s : State) (desk : List ℕ) (seq : ℕ) (r : Request) (one other : Reply) → Repeats s desk seq r one → Repeats s desk seq r other → one ≡ other
same_reply s desk seq r one other a b =
    ap (λ (said : LastRequest). said.reply) (some_one (record { seq = seq; request = r; reply = one }) (record { seq = seq; request = r; reply = other }) (said_by s desk) a.same b.same)

module _ {D : Type 0} {d : _} (seen : D → Option (List ℕ)) (crash : D → Crashes) (faults : D → ℕ) (old new : KeptOffice D d) (desk : List ℕ) (seq : ℕ) (r : Request) (reading : ℤ) (reply : Reply) (again : Repeats (state_of old) desk seq r reply) where
  not_offered : (x : Entered) → IsOffered (state_of old) desk seq r reading x → ⊥
  not_offered x so = not_repeated (state_of old) desk seq r reading x.entry.minute x.made reply again so.accepted

  answered_again : (answer : Answer) → Becomes seen crash faults old new (IsOffered (state_of old) desk seq r reading)
      (λ text. (kept : Reply) × Repeats (state_of old) desk seq r kept × (text ≡ reply_text kept)) (Refuses (state_of old) desk seq r reading) answer
      → ((answer ≡ Repeated (reply_text reply)) ⊎ (answer ≡ OutOfMemory)) × IsAsBefore seen crash old new
  answered_again (Accepted text) (x, so, reply, has) = absurd (not_offered x so)
  answered_again (Repeated text) ((kept, too, is), same) = (inl (ap Repeated (is ∙ ap reply_text (same_reply (state_of old) desk seq r kept reply too again))), same)
  answered_again (Refused x) (inl refuses, same) = absurd (not_refused (state_of old) desk seq r reading x reply again refuses)
  answered_again (Refused x) (inr (full, e, so, long), same) = absurd (not_offered e so)
  answered_again DiskFault (x, so, more) = absurd (not_offered x so)
  answered_again OutOfMemory same = (inr refl, same)

pub one_effect : {D : Type 0} {d : _} (seen : D → Option (List ℕ)) (crash : D → Crashes) (faults : D → ℕ) (old : KeptOffice D d) → HasOneEffect seen crash faults old
one_effect seen crash faults old file h x has last new reading answer becomes =
    answered_again seen crash faults old new x.entry.desk x.entry.seq x.entry.request reading x.entry.reply (repeats (state_of old) x (said_last file h (state_of old) x has.history last)) answer becomes
