-- No entry of a history is later than the calendar of the office.
use Rattle.std.proofs.Common.{◌≡◌, ◌≤◌, ◌++◌, ℕ, pos, Bool, false, List, [], ◌∷◌, refl, ap, sym, ◌∙◌, subst, int_lt, arith}
use Rattle.std.proofs.lemmas.Bool.{ltb-false, or_parts}
use Rattle.office_core.specs.Histories.{Entered, LeadFrom}
use Rattle.office_core.specs.Rules.{is_out}
use Rattle.office_core.specs.State.{State, in_edition}
use Rattle.office_core.specs.Step.{state_after}
use Rattle.office_core.proofs.BrokenLemmas.{read_in_range}
use Rattle.office_journal.specs.Histories.{History, IsHistory, fits}

not_out : (n : ℕ) → is_out (pos n) ≡ false → n ≤ 52000000
not_out n h = ltb-false 52000000 n (or_parts (int_lt (pos n) (pos 0)) (int_lt (pos 52000000) (pos n)) h).1

last_after : (s : State) (x : Entered) → (state_after s x.entry x.made).last ≡ x.entry.minute
unfolding state_after
last_after s x = refl

led_in_time : (fit : List Entered → Entered → Bool) (earlier : List Entered) (s : State) (history : List Entered) (after : State) → s.last ≤ 52000000 → LeadFrom fit earlier s history after → after.last ≤ 52000000
led_in_time fit earlier s [] after le led = subst (λ (z : State). z.last ≤ 52000000) (sym led) le
led_in_time fit earlier s (x ∷ history) after le (next, is, rest) =
    let few : x.entry.minute ≤ 52000000 = not_out x.entry.minute (read_in_range (in_edition x.entry.edition s) x.entry.desk x.entry.seq x.entry.request (pos x.entry.minute) is.accepted.new is.accepted.request) in
    let one : next.last ≡ x.entry.minute = ap (λ (z : State). z.last) is.after ∙ last_after (in_edition x.entry.edition s) x in
    led_in_time fit (earlier ++ x ∷ []) next history after (subst (λ (n : ℕ). n ≤ 52000000) (sym one) few) rest

pub in_time : (file : List ℕ) (h : History) (s : State) → IsHistory file h s → s.last ≤ 52000000
in_time file h s is =
    subst (λ (z : State). z.last ≤ 52000000) (sym is.state) (led_in_time (fits file) [] _ h.entries is.last (omega arith) is.legal)
