use Rattle.std.proofs.Common.{◌∙◌, ℕ, List, ◌++◌, ap, append_assoc}
use Rattle.std.specs.Prelude.{codes}
use Rattle.std.proofs.lemmas.Result.{on_ok_weaker}
use Rattle.stats_report.specs.Report.{named}
use Rattle.stats_report.proofs.lines.write_total.Goals as goal

pub returns : goal.returns
returns c =
    let out : List ℕ = c.args.out.now in
    let first : List ℕ = named (codes "total openings ") c.args.openings in
    let second : List ℕ = named (codes " minutes ") c.args.minutes in
    let end : List ℕ = codes "\n" in
    let both = c.in_ok-write_named-2.ensures ∙ ap (λ (t : List ℕ). t ++ second) c.in_ok-write_named.ensures in
    on_ok_weaker c.push.result (λ is. is ∙ ap (λ (t : List ℕ). t ++ end) both ∙ append_assoc (out ++ first) second end ∙ append_assoc out first (second ++ end)) c.push.ensures.ok
