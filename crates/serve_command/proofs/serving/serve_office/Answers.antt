use Rattle.std.proofs.Common.{ℕ, ◌≤◌, arith, sym, subst}
use Rattle.warn_serve.specs.Served.{IsServed}
use Rattle.serve_command.proofs.serving.serve_office.Goals as goal

pub returns : goal.returns
returns g c disk opened =
    let d = g.D.Disk in
    let port = g.P.Port.state in
    let first = port c.args.port.now in
    let last = port c.serve-kept.new.port in
    let closed = c.serve-kept.result.0 in
    let served_by : ℕ → ℕ → Type 0 =
    λ workers links. IsServed d (g.C.Clock.gives c.args.means.now.clock.now) c.args.kept closed c.args.serving.now.port workers links first last c.serve-kept.result.1 in
    let served = subst (served_by c.args.serving.now.workers) c.from-2.ensures (subst (λ (n : ℕ). served_by n c.from-2.result) c.from.ensures c.serve-kept.ensures) in
    record {
      opened = c.args.kept;
      first = opened;
      closed = closed;
      end = c.serve-kept.result.1;
      served = served;
      told = c.write_served-status.ensures;
      handed = c.into_disk.ensures;
      history = c.an_opened_office_keeps_its_history.ensures disk c.args.kept served.happenings opened served.since;
      later = subst (λ next. d.faults disk ≤ d.faults next) (sym c.into_disk.ensures) (let a = opened.later in let b = served.since.later in omega arith);
    }
