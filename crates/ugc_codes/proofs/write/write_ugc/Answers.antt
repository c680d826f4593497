use Rattle.std.proofs.Common.{◌≡◌, ℕ, List, ◌<◌, ◌++◌, length, Result, Ok, Err, subst, sym, true, append-nil, []}
use Rattle.std.specs.Prelude.{IfOk, OnOk}
use Rattle.std.specs.List.{All}
use Rattle.std.specs.List.Sorted.{IsStrictlySortedBy}
use Rattle.hazard_types.specs.Places.{Place, IsPlace, by_place}
use Rattle.hazard_types.specs.declared.calendar.DayStamp.{DayStamp}
use Rattle.hazard_types.specs.declared.list.Oom.{Oom}
use Rattle.ugc_codes.specs.Grammar.{IsUgc}
use Rattle.hazard_types.specs.Digits.{is_day_stamp}
use Rattle.ugc_codes.specs.Written.{ugc_text}
use Rattle.ugc_codes.proofs.Lines.{ugc_once}
use Rattle.ugc_codes.proofs.Written.{written_back}
use Rattle.ugc_codes.proofs.write.write_ugc.Goals as goal

back : (zones : List Place) (d : DayStamp) (r : Result (List ℕ) Oom) → IfOk r (λ text. text ≡ ugc_text zones d) → 0 < length zones → OnOk r (All IsPlace zones) → IsStrictlySortedBy by_place zones → is_day_stamp d ≡ true
    → IfOk r (λ text. (rest : List ℕ) → IsUgc (text ++ rest) zones d (length text))
back zones d (Ok text) e some are sorted day = λ rest. subst (λ (t : List ℕ). IsUgc (t ++ rest) zones d (length t)) (sym e) (written_back zones d some are sorted day rest)
back zones d (Err o) e some are sorted day = tt

alone : (zones : List Place) (d : DayStamp) (r : Result (List ℕ) Oom) → IfOk r (λ text. (rest : List ℕ) → IsUgc (text ++ rest) zones d (length text))
    → IfOk r (λ text. (more : List ℕ) (named : List Place) (e : DayStamp) (n : ℕ) → IsUgc (text ++ more) named e n → (named ≡ zones) × (e ≡ d) × (n ≡ length text))
alone zones d (Ok text) h = λ more named e n u.
    let own : IsUgc text zones d (length text) = subst (λ (t : List ℕ). IsUgc t zones d (length text)) (append-nil text) (h []) in
    let same = ugc_once text more zones named d e (length text) n own u in
    (sym same.0, sym same.1, sym same.2)
alone zones d (Err o) h = tt

reads_back : (c : goal.After-write) → IfOk c.write.result (λ text. (rest : List ℕ) → IsUgc (text ++ rest) c.args.zones.now c.args.expiry (length text))
reads_back c =
    let e = c.as_slice.ensures in
    back c.args.zones.now c.args.expiry c.write.result
    (subst (λ (zs : List Place). IfOk c.write.result (λ text. text ≡ ugc_text zs c.args.expiry)) e c.write.ensures.value)
    c.requires.some (subst (λ (zs : List Place). OnOk c.write.result (All IsPlace zs)) e c.write.ensures.places) c.requires.sorted c.requires.expiry

pub returns-clause-back : goal.returns-clause-back
returns-clause-back c = reads_back c

pub returns-clause-alone : goal.returns-clause-alone
returns-clause-alone c = alone c.args.zones.now c.args.expiry c.write.result (reads_back c)
