use Rattle.std.proofs.Common.{rules, sym, take, drop, ◌++◌, codes, List, ℕ}
use Rattle.std.proofs.lemmas.List.{take-append-drop}
use Rattle.program_ends.proofs.Telling.{on_err, front_second, whole_both}
use Rattle.program_ends.proofs.ending.write_line.Goals as goal

pub returns : goal.returns
returns g c =
    let shows = g.K.Sink.outflow in
    let second : List ℕ = codes "\n" in
    let part = c.write_whole.ensures.written.part in
    record {
      whole = whole_both c.write_whole.result (shows c.args.output.now).taken (shows c.write_both.new.output).taken (shows c.write_whole.new.sink).taken (c.args.front.now ++ c.args.value.now) second c.in_ok-write_both.ensures.whole c.write_whole.ensures.written.ok;
      front = on_err c.write_whole.result _
          (front_second (shows c.args.output.now).taken (shows c.write_both.new.output).taken (shows c.write_whole.new.sink).taken (c.args.front.now ++ c.args.value.now) second (take part.0 second) (drop part.0 second)
          c.in_ok-write_both.ensures.whole part.2 (sym (take-append-drop part.0 second)));
      cause = search rules;
      steady = search rules;
    }
