use Rattle.desk_commands.specs.Held.{scripted}
use Rattle.desk_commands.specs.Scripts.{Answers}
use Rattle.desk_commands.proofs.Mapping.{last_name, shown}
use Rattle.desk_commands.proofs.script.run_over.Goals as goal

pub returns-clause-run : goal.returns-clause-run
returns-clause-run g c =
    shown (λ s. scripted s) _ (Answers g.D.Disk g.C.Clock) (λ x line text y h. h.1) _ (λ x line y never. never) c.args.limit _ _ _ _ _ c.run_lines.ensures

pub returns-clause-references : goal.returns-clause-references
returns-clause-references g c = record {
  kept = last_name (λ s. s.kept.ghost_name) _ (λ x line text y h. h.0.kept) _ (λ x line y never. never) c.args.limit _ _ _ _ _ c.run_lines.ensures;
  clock = last_name (λ s. s.clock.ghost_name) _ (λ x line text y h. h.0.clock) _ (λ x line y never. never) c.args.limit _ _ _ _ _ c.run_lines.ensures;
}
