use Rattle.std.proofs.Common.{List, ℕ, Ok, inl, inr, subst, sym}
use Rattle.desk_commands.proofs.Making.{read_whole}
use Rattle.desk_commands.specs.Commands.{SettingsRead}
use Rattle.desk_commands.proofs.init.run_init.Goals as goal

pub returns-in-Ok-make : goal.returns-in-Ok-make
returns-in-Ok-make g c =
    let source = g.S.Source in
    let took = subst (λ (t : List ℕ). SettingsRead (source.inflow c.args.input.now) (source.inflow c.read_settings.new.input) (Ok t)) (sym c.as_slice.ensures) c.in-Ok.ensures in
    let ensures = c.in-Ok-make.ensures in
    rw c.into_disk.ensures (record {
      read = c.as_slice.result.now;
      takes = took.0;
      within = took.1;
      outcome = inl (took.2, took.3, inl (ensures.made, read_whole c.as_slice.result.now (source.inflow c.read_settings.new.input).left ensures.made.settings.0 ensures.made.settings.1 took.2, c.write_made.ensures));
      later = ensures.later;
      crashes = ensures.crashes;
    })

pub returns : goal.returns
returns g c =
    let source = g.S.Source in
    let took = subst (λ (t : List ℕ). SettingsRead (source.inflow c.args.input.now) (source.inflow c.read_settings.new.input) (Ok t)) (sym c.as_slice.ensures) c.in-Ok.ensures in
    let ensures = c.in-Err-make.ensures in
    record {
      read = c.as_slice.result.now;
      takes = took.0;
      within = took.1;
      outcome = inl (took.2, took.3, inr (c.in-Err-make.end, ensures.made, c.end_at_once-in-Err-make.ensures));
      later = ensures.later;
      crashes = ensures.crashes;
    }
