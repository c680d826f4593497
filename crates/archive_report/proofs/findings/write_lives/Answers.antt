-- The lives of the events are all lives.
use Rattle.std.proofs.Common.{◌∙◌, ◌++◌, ℕ, List, flat_map, ap, subst, IfErr, OnOk}
use Rattle.product_decoder.specs.declared.types.Track.{Track}
use Rattle.archive_report.specs.Pieces.{Halts, Pages}
use Rattle.archive_report.specs.Report.{life_line, lives_text}
use Rattle.archive_report.proofs.Paging.{flat_twice}
use Rattle.archive_report.proofs.findings.write_lives.Goals as goal

pub returns-clause-told : goal.returns-clause-told
returns-clause-told g c =
    let all = ap (λ (events : List (List Track)). flat_map lives_text events) c.as_slice.ensures ∙ flat_twice life_line c.in_ok-events.events ∙ ap (λ (lives : List Track). flat_map life_line lives) c.in_ok-events.ensures.value in
    subst (λ (text : List ℕ). OnOk c.write_events.result (Pages (g.K.Sink.outflow c.args.output.now) (g.K.Sink.outflow c.write_events.new.output) c.args.out.now c.write_events.new.out text)) all c.write_events.ensures.told

pub returns-clause-halted : goal.returns-clause-halted
returns-clause-halted g c =
    let all = ap (λ (events : List (List Track)). flat_map lives_text events) c.as_slice.ensures ∙ flat_twice life_line c.in_ok-events.events ∙ ap (λ (lives : List Track). flat_map life_line lives) c.in_ok-events.ensures.value in
    subst (λ (text : List ℕ). IfErr c.write_events.result (Halts (g.K.Sink.outflow c.args.output.now) (g.K.Sink.outflow c.write_events.new.output) (c.args.out.now ++ text))) all c.write_events.ensures.halted
