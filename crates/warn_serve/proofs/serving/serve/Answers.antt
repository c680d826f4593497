use Rattle.std.proofs.Common.{ap, length, ◌∙◌, subst}
use Rattle.office_journal.specs.declared.kept.KeptOffice.{KeptOffice}
use Rattle.office_turns.specs.Since.{IsSince}
use Rattle.warn_serve.proofs.Opened.{served_all, served_none}
use Rattle.warn_serve.proofs.serving.serve.Goals as goal

pub returns-in_default : goal.returns-in_default
returns-in_default g c =
    let happenings = c.open-shared.result.story.happenings.items in
    served_none g.D.Disk (g.C.Clock.gives c.args.clock.now) c.args.kept c.into_kept.result c.args.number c.args.workers c.args.connections (g.P.Port.state c.args.port.now) happenings
    c.open-shared.ensures.happenings
    c.requires.connections.0
    (subst (λ (k : KeptOffice g.row.D.Denot g.D.Disk). IsSince g.D.Disk k c.into_kept.result happenings) c.open-shared.ensures.opened c.into_kept.ensures.since)

pub returns-in-Err : goal.returns-in-Err
returns-in-Err g c =
    let back = c.in-Err.ensures.err in
    let happenings = c.in-Err.shared.story.happenings.items in
    let opened = ap (λ z. z.story.opened.value) back ∙ c.open-shared.ensures.opened in
    served_none g.D.Disk (g.C.Clock.gives c.args.clock.now) c.args.kept c.into_kept-in-Err.result c.args.number c.args.workers c.args.connections (g.P.Port.state c.args.port.now) happenings
    (ap (λ z. z.story.happenings.items) back ∙ c.open-shared.ensures.happenings)
    c.requires.connections.0
    (subst (λ (k : KeptOffice g.row.D.Denot g.D.Disk). IsSince g.D.Disk k c.into_kept-in-Err.result happenings) opened c.into_kept-in-Err.ensures.since)

pub returns : goal.returns
returns g c =
    let port = g.P.Port.state in
    let first = c.in-Ok-start.ensures.ok in
    let gathered = c.serve_port-end.ensures.gathered.1 in
    let closed = c.close-closed.result.story in
    let base = ap (λ z. z.base) first ∙ c.open-shared.ensures.opened in
    let opened = c.close-closed.ensures.same_base ∙ (gathered.passes.base ∙ base) in
    served_all g.D.Disk (g.C.Clock.gives c.args.clock.now) c.args.kept c.into_kept-2.result closed.opened.value c.serve_port-end.ensures.gathered.0 c.args.number c.args.workers c.args.connections (port c.args.port.now) (port c.serve_port-end.new.port) c.serve_port-end.result c.in-Ok-start.made.1 c.serve_port-end.new.pass closed.happenings.items
    base
    (ap (λ z. z.seen) first ∙ c.open-shared.ensures.happenings)
    (ap (λ z. z.first) first ∙ ap length c.open-shared.ensures.happenings)
    (ap (λ z. z.mine) first)
    c.serve_port-end.ensures.listened gathered c.serve_port-end.ensures.gathered.2 c.close-closed.ensures
    (subst (λ (k : KeptOffice g.row.D.Denot g.D.Disk). IsSince g.D.Disk k c.into_kept-2.result closed.happenings.items) opened c.into_kept-2.ensures.since)
