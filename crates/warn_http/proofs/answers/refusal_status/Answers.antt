use Rattle.std.proofs.Common.{ℕ, List, ap, sym, subst}
use Rattle.std.specs.Prelude.{IsTrue}
use Rattle.warn_http.specs.Answers.{is_status}
use Rattle.warn_http.proofs.Statuses.{refusals_have_statuses}
use Rattle.warn_http.proofs.answers.refusal_status.Goals as goal

pub returns-clause-known : goal.returns-clause-known
returns-clause-known c = subst (λ (n : ℕ). IsTrue (is_status n)) (sym (ap (λ (t : List ℕ × List ℕ × ℕ). t.2) c.label-status.ensures)) (refusals_have_statuses c.args.refusal.now)
