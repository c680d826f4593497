use Rattle.std.proofs.Common.{◌≡◌, ℕ, ◌+◌, List, Option, length, ap, sym, ◌∙◌, subst, arith, rules}
use Rattle.std.specs.Int.{w32, to_be_bytes}
use Rattle.std.proofs.lemmas.List.{take_at}
use Rattle.desk_traits.specs.File.{Gives}
use Rattle.journal_core.specs.Image.{Fits}
use Rattle.journal_core.proofs.Reading.{steps_cut, steps_whole}
use Rattle.desk_traits.proofs.Moments.{same_both}
use Rattle.journal_core.proofs.adopt.read_record.Goals as goal

pub returns-then-n-at-clause-step : goal.returns-then-n-at-clause-step
returns-then-n-at-clause-step g c =
    let one : length c.read_at.new.into ≡ 1 = search rules in
    let four : length c.read_at-2.new.into ≡ 4 = search rules in
    let head = subst (λ (o : Option (List ℕ)). Gives (c.args.at + 1) c.read_at-2.new.into o) c.read_at.ensures.seen c.in_ok-read_at-2.ensures.told in
    steps_cut c.args.at c.args.n c.from.result (g.D.Disk.seen c.args.disk.now) c.read_at.new.into c.read_at-2.new.into c.requires.length c.requires.place one c.in_ok-read_at.ensures.told c.if-gate-ne71.false head four (c.from.ensures ∙ c.body_length_of-size.ensures.value) (omega arith)

pub returns-then-n-at-clause-crash : goal.returns-then-n-at-clause-crash
returns-then-n-at-clause-crash g c =
    let d = g.D.Disk in
    let m = g.met.D.Disk in
    same_both d.crash m.are_crashes c.args.disk.now c.read_at.new.self c.read_at-2.new.self c.read_at.ensures.crash c.read_at-2.ensures.crash

pub returns-in_err-read_at-3-clause-crash : goal.returns-in_err-read_at-3-clause-crash
returns-in_err-read_at-3-clause-crash g c =
    let d = g.D.Disk in
    let m = g.met.D.Disk in
    same_both d.crash m.are_crashes c.args.disk.now c.read_at-2.new.self c.read_at-3.new.self (same_both d.crash m.are_crashes c.args.disk.now c.read_at.new.self c.read_at-2.new.self c.read_at.ensures.crash c.read_at-2.ensures.crash) c.read_at-3.ensures.crash

pub returns-clause-step : goal.returns-clause-step
returns-clause-step g c =
    let one : length c.read_at.new.into ≡ 1 = search rules in
    let four : length c.read_at-2.new.into ≡ 4 = search rules in
    let head = subst (λ (o : Option (List ℕ)). Gives (c.args.at + 1) c.read_at-2.new.into o) c.read_at.ensures.seen c.in_ok-read_at-2.ensures.told in
    let long : length c.read_at-3.new.into ≡ c.in_ok-body.body.len = search rules in
    let body_is : c.from_vec.result ≡ c.read_at-3.new.into = c.from_vec.ensures ∙ take_at _ _ _ long in
    let size : length c.from_vec.result ≡ c.body_length_of-size.result = search rules in
    let body = subst (λ (o : Option (List ℕ)). Gives (c.args.at + 5) c.read_at-3.new.into o) (c.read_at-2.ensures.seen ∙ c.read_at.ensures.seen) c.in_ok-read_at-3.ensures.told in
    let head_is : to_be_bytes w32 (length c.from_vec.result) ≡ c.read_at-2.new.into = ap (to_be_bytes w32) size ∙ c.body_length_of-size.ensures.back in
    let fits : Fits c.from_vec.result = omega (arith, size) in
    steps_whole c.args.at c.args.n (g.D.Disk.seen c.args.disk.now) c.read_at.new.into c.read_at-2.new.into c.from_vec.result c.requires.length (omega (arith, size)) one c.in_ok-read_at.ensures.told c.if-gate-ne71.false head four head_is (subst (λ (b : List ℕ). Gives (c.args.at + 5) b (g.D.Disk.seen c.args.disk.now)) (sym body_is) body) fits

pub returns-clause-crash : goal.returns-clause-crash
returns-clause-crash g c =
    let d = g.D.Disk in
    let m = g.met.D.Disk in
    same_both d.crash m.are_crashes c.args.disk.now c.read_at-2.new.self c.read_at-3.new.self (same_both d.crash m.are_crashes c.args.disk.now c.read_at.new.self c.read_at-2.new.self c.read_at.ensures.crash c.read_at-2.ensures.crash) c.read_at-3.ensures.crash
