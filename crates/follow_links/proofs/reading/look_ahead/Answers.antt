use Rattle.std.proofs.Common.{◌≡◌, ◌∙◌, ◌++◌, ℕ, List, rules, subst, ap}
use Rattle.std.specs.List.{each_same}
use Rattle.follow_links.specs.Readings.{Says}
use Rattle.follow_links.proofs.Listening.{foreseen}
use Rattle.follow_links.proofs.reading.look_ahead.Goals as goal

pub returns-clause-foresees : goal.returns-clause-foresees
returns-clause-foresees c =
    let same : c.in_ok-both.both ≡ c.args.bytes.now = each_same c.args.bytes.now c.in_ok-both.both c.in_ok-both.ensures.cases in
    let more : c.as_slice.result.now ≡ c.in_ok-both.both ++ c.args.waiting.now = search rules in
    let all = more ∙ ap (λ (l : List ℕ). l ++ c.args.waiting.now) same in
    foreseen c.args.bytes.now c.args.waiting.now c.head_of.result c.requires.none
    (subst (λ (b : List ℕ). Says b c.head_of.result) all c.head_of.ensures.says)
