use Rattle.std.proofs.Common.{take, drop}
use Rattle.std.proofs.lemmas.List.{take-append-drop}
use Rattle.warn_serve.specs.Answers.{bytes_of}
use Rattle.warn_serve.proofs.Saying.{failed_write}
use Rattle.warn_serve.proofs.links.finish.Goals as goal

pub returns-in-Err : goal.returns-in-Err
returns-in-Err g c =
    let state = g.L.Link.state in
    let sent = c.in-Err.ensures in
    let bytes = bytes_of c.args.answer.now in (
      failed_write (state c.args.link.now) (state c.write.new.link) sent.input sent.cause.failed,
      take sent.part.0 bytes,
      (drop sent.part.0 bytes, take-append-drop sent.part.0 bytes),
      record { came = sent.came; input = sent.input; adds = sent.part.2; later = sent.cause.later },
    )
