use Rattle.std.proofs.Common.{rules, sym, take, drop}
use Rattle.std.proofs.lemmas.List.{take-append-drop}
use Rattle.program_ends.proofs.Telling.{on_err, front_first, front_second, whole_both}
use Rattle.program_ends.proofs.ending.write_both.Goals as goal

pub returns-in_err-write_whole : goal.returns-in_err-write_whole
returns-in_err-write_whole g c =
    let shows = g.K.Sink.outflow in
    let first = c.args.first.now in
    let part = c.in_err-write_whole.ensures.written.part in
    record {
      whole = search rules;
      front = on_err c.from_residual.result _ (front_first (shows c.args.output.now).taken (shows c.write_whole.new.sink).taken first c.args.second.now (take part.0 first) (drop part.0 first) part.2 (sym (take-append-drop part.0 first)));
      cause = search rules;
      steady = search rules;
    }

pub returns : goal.returns
returns g c =
    let shows = g.K.Sink.outflow in
    let second = c.args.second.now in
    let part = c.write_whole-2.ensures.written.part in
    record {
      whole = whole_both c.write_whole-2.result (shows c.args.output.now).taken (shows c.write_whole.new.sink).taken (shows c.write_whole-2.new.sink).taken c.args.first.now second c.in_ok-write_whole.ensures.written.ok c.write_whole-2.ensures.written.ok;
      front = on_err c.write_whole-2.result _
          (front_second (shows c.args.output.now).taken (shows c.write_whole.new.sink).taken (shows c.write_whole-2.new.sink).taken c.args.first.now second (take part.0 second) (drop part.0 second)
          c.in_ok-write_whole.ensures.written.ok part.2 (sym (take-append-drop part.0 second)));
      cause = search rules;
      steady = search rules;
    }
