use Rattle.std.proofs.Common.{◌≡◌, ◌<◌, ◌≤◌, ◌+◌, ◌*◌, ◌/◌, ◌%◌, ℕ, arith, inl, inr, sym, ap, ◌∙◌}
use Rattle.std.proofs.lemmas.Bool.{cases_order}
use Rattle.hazard_types.specs.declared.calendar.DayStamp.{DayStamp}
use Rattle.hazard_types.specs.Calendar.{civil_of}
use Rattle.hazard_types.specs.Days.{day_stamp_of}
use Rattle.desk_clock.specs.DayStamps.{IsFirst}
use Rattle.desk_clock.proofs.StampTimes.{in_range, on_day, has_stamp, time_on_day}
use Rattle.desk_clock.proofs.day_stamps.resolve_day_stamp.Goals as goal
use Rattle.desk_clock.proofs.day_stamps.resolve_day_stamp.Goals.{then-d-gt31-via-then-d-gt31, then-d-gt31-via-else-d-gt31+then-d-gt23, then-d-gt31-via-else-d-gt31+else-d-gt23+then-d-gt59, else-get-via-then-get+else-day_stamp-d, else-get-via-else-get}

pub returns-then-d-gt31-clause-none : goal.returns-then-d-gt31-clause-none
returns-then-d-gt31-clause-none c = λ _ m later below e.
    let range = in_range m c.args.d below e in
    elim c.then-d-gt31.branch [
      | then-d-gt31-via-then-d-gt31 w ↦ omega arith
      | then-d-gt31-via-else-d-gt31+then-d-gt23 w ↦ omega arith
      | then-d-gt31-via-else-d-gt31+else-d-gt23+then-d-gt59 w ↦ omega arith
    ]

-- the first minute of these days that has the stamp
first_of : (issue day m : ℕ) (d : DayStamp) → d.hour ≤ 23 → d.minute ≤ 59 → m ≡ day * 1440 + (d.hour * 60 + d.minute) → m < 52596000 → issue ≤ m → (civil_of m).day ≡ d.day
    → ((k : ℕ) → issue ≤ k → k / 1440 < day → day_stamp_of k ≡ d → ⊥) → IsFirst issue d m
first_of issue day m d hour minute is below later date none =
    let parts = time_on_day day (d.hour * 60 + d.minute) (omega arith) in
    record {
      stamp = has_stamp m d date (ap (λ (n : ℕ). n % 1440) is ∙ parts.0) minute;
      in_range = below;
      later = later;
      first = λ k from before e. elim (cases_order (k / 1440) day) [
        | inl same ↦ let at = on_day k day d e same in omega arith
        | inr (inl lt) ↦ none k from lt e
        | inr (inr gt) ↦ omega (arith, gt, before, is)
      ];
    }

pub returns-then-day_stamp-d-clause-found : goal.returns-then-day_stamp-d-clause-found
returns-then-day_stamp-d-clause-found c =
    first_of c.args.issue c.loop-day.day c.in-Some.m c.args.d (omega arith) (omega arith) (omega (arith, c.in-Some.ensures)) (omega (arith, c.in-Some.ensures)) (omega arith)
    (sym (ap (λ (s : DayStamp). s.day) c.day_stamp.ensures) ∙ c.if-day_stamp-d.true) c.loop-day.invariant

pub loop-day-preserved : goal.loop-day-preserved
loop-day-preserved c = λ m from below e.
    let known : c.in-Some.m ≡ c.loop-day.day * 1440 + (c.args.d.hour * 60 + c.args.d.minute) = omega (arith, c.in-Some.ensures) in
    elim (cases_order (m / 1440) c.loop-day.day) [
      | inl same ↦
          let at : m ≡ c.in-Some.m = on_day m c.loop-day.day c.args.d e same ∙ sym known in
          elim c.else-get.branch [
            | else-get-via-then-get+else-day_stamp-d w ↦
                w.if-day_stamp-d.false (ap (λ (s : DayStamp). s.day) (w.day_stamp.ensures ∙ ap day_stamp_of (sym at) ∙ e))
            | else-get-via-else-get w ↦ omega arith
          ]
      | inr (inl lt) ↦ c.loop-day.invariant m from lt e
      | inr (inr gt) ↦ omega (arith, gt, below)
    ]
