-- What is known of a call's bytes while they are not judged again.
use Rattle.std.proofs.Common.{◌≡◌, ℕ, ◌+◌, ◌<◌, ◌≤◌, inl, inr, Bool, true, false, List, [], ◌++◌, length, take, drop, refl, sym, subst, arith, append_assoc, append-nil, length-append, None, Some}
use Rattle.std.proofs.lemmas.Bool.{false≢true}
use Rattle.std.proofs.lemmas.List.{take-append-drop}
use Rattle.httparse.specs.Grammar.{HasNoRequest, print_request}
use Rattle.warn_http.specs.Heads.{has_line_feed}
use Rattle.warn_http.specs.Calls.{HasNoWholeCall, IsCutBody, IsUnfinished}
use Rattle.call_inbox.specs.Watching.{Waits}

-- what the laws of calls say
abbrev pub StaysHeadless : Type 0
StaysHeadless = (bytes more : List ℕ) → HasNoRequest bytes → has_line_feed more ≡ false → HasNoRequest (bytes ++ more)

-- a call that is unfinished, and wants so many bytes more
pub waits_for_body : (bytes : List ℕ) (missing from : ℕ) (by_line : Bool) → by_line ≡ false → IsUnfinished bytes → from ≤ length bytes + missing
    → (IsUnfinished bytes → (n : ℕ) (more : List ℕ) → Some missing ≡ Some n → length more < n → IsUnfinished (bytes ++ more))
    → Waits from by_line bytes
waits_for_body bytes missing from true is unfinished few fewer = absurd (false≢true (sym is))
waits_for_body bytes missing from false is unfinished few fewer = λ more short.
    fewer unfinished missing more refl (omega (arith, short, few))

no_count : (n : ℕ) → None ≡ Some n → ⊥
no_count n e = cc

-- a call that is unfinished, and has no body that is cut
pub waits_for_line : (bytes : List ℕ) (from : ℕ) (by_line : Bool) → by_line ≡ true → IsUnfinished bytes
    → ((cut : IsCutBody bytes) → (n : ℕ) × (None ≡ Some n) × (length bytes + n ≡ length (print_request cut.head) + cut.wants.body))
    → Waits from by_line bytes
waits_for_line bytes from false is unfinished body = absurd (false≢true is)
waits_for_line bytes from true is (inl cut) body = cut.0
waits_for_line bytes from true is (inr cut) body = let b = body cut in absurd (no_count b.0 b.1)

-- some bytes more, by which the bytes are not due
more_waits : (bytes more : List ℕ) (from : ℕ) (by_line : Bool) → StaysHeadless
    → (by_line ≡ true → has_line_feed more ≡ false) → Waits from by_line bytes → Waits from by_line (bytes ++ more)
more_waits bytes more from true stays quiet waits = stays bytes more waits (quiet refl)
more_waits bytes more from false stays quiet waits = λ later short.
    subst IsUnfinished (sym (append_assoc bytes more later))
    (waits (more ++ later) (omega (arith, short, length-append bytes more, length-append more later)))

-- the same of bytes of which the first ones were seen
pub still_waits : (bytes : List ℕ) (seen from : ℕ) (by_line : Bool) → StaysHeadless
    → (by_line ≡ true → has_line_feed (drop seen bytes) ≡ false) → Waits from by_line (take seen bytes) → Waits from by_line bytes
still_waits bytes seen from by_line stays quiet waits =
    subst (Waits from by_line) (take-append-drop seen bytes) (more_waits (take seen bytes) (drop seen bytes) from by_line stays quiet waits)

-- while they are not due, no whole call is there
pub none_while_waiting : (bytes : List ℕ) (from : ℕ) (by_line : Bool)
    → ((b : List ℕ) → IsUnfinished b → HasNoWholeCall b) → ((b : List ℕ) → HasNoRequest b → HasNoWholeCall b)
    → length bytes < from → Waits from by_line bytes → HasNoWholeCall bytes
none_while_waiting bytes from true unfinished headless early waits = headless bytes waits
none_while_waiting bytes from false unfinished headless early waits =
    unfinished bytes (subst IsUnfinished (append-nil bytes) (waits [] (omega (arith, early))))
