use Rattle.std.proofs.Common.{refl, sym, ◌∙◌}
use Rattle.program_ends.specs.Lines.{most_bytes}
use Rattle.serve_command.specs.Words.{parse_serve_args}
use Rattle.warn_main.specs.Worlds.{without_port, world}
use Rattle.warn_main.proofs.Portless.{portless}
use Rattle.warn_main.proofs.Served.{absent, ends, given, present}
use Rattle.warn_main.proofs.desk.desk_run.Goals as goal

pub returns-in-Some-clause-promise : goal.returns-in-Some-clause-promise
returns-in-Some-clause-promise g c =
    let served = c.run_serve.ensures in
    let before = world (g.S.Source.inflow c.args.input.now) (g.K.Sink.outflow c.args.output.now) c.args.disk c.args.clock.now (g.P.Port.state c.args.port.now) in
    let after = world (g.S.Source.inflow c.args.input.now) (g.K.Sink.outflow c.run_serve.new.output) c.run_serve.result.disk c.args.clock.now (g.P.Port.state c.run_serve.new.port) in
    let causes = ends g.D.Disk (g.C.Clock.gives c.args.clock.now) c.in-Some.serving before.disk after.disk before.port after.port before.output after.output c.run_serve.result.status served in
    c.what_was_done_keeps_the_promise.ensures c.args.words.now most_bytes before after c.run_serve.result.status (record {
      run = present (parse_serve_args c.args.words.now) c.in-Some.serving _ _ (sym c.parse_serve_args.ensures.value ∙ c.in-Some.is) (record { unread = refl; steady = refl }, refl, served);
      read_fault = λ seven. absurd (causes.unread seven);
      write_fault = causes.write;
      disk_fault = causes.disk;
      port_fault = causes.port;
      complete = λ some reads writes disk port. causes.own writes disk port;
    })

pub returns-in-None-clause-promise : goal.returns-in-None-clause-promise
returns-in-None-clause-promise g c =
    let is = sym c.parse_serve_args.ensures.value ∙ c.in-None.is in
    let alone = c.desk_alone.ensures in
    let before = world (g.S.Source.inflow c.args.input.now) (g.K.Sink.outflow c.args.output.now) c.args.disk c.args.clock.now (g.P.Port.state c.args.port.now) in
    let after = world (g.S.Source.inflow c.desk_alone.new.input) (g.K.Sink.outflow c.desk_alone.new.output) c.desk_alone.result.disk c.desk_alone.new.clock (g.P.Port.state c.args.port.now) in
    c.what_was_done_keeps_the_promise.ensures c.args.words.now most_bytes before after c.desk_alone.result.status (record {
      run = absent (parse_serve_args c.args.words.now) _ _ is (alone, refl);
      read_fault = alone.read_fault;
      write_fault = alone.write_fault;
      disk_fault = alone.disk_fault;
      port_fault = λ ten. absurd (portless g.D.Disk g.C.Clock most_bytes (without_port before) (without_port after) c.desk_alone.result.status c.args.words.now alone ten);
      complete = λ some reads writes disk port. alone.complete (given (parse_serve_args c.args.words.now) is some) reads writes disk;
    })
