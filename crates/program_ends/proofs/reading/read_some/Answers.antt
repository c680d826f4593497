use Rattle.std.proofs.Common.{rules, ◌≡◌, arith, drop, length-append}
use Rattle.std.proofs.lemmas.List.{length-take, take-append-le}
use Rattle.program_ends.proofs.reading.read_some.Goals as goal

pub returns : goal.returns
returns g c =
    let size = c.read.auto.into in
    let bytes = c.in_ok-count.ensures.read.bytes in
    let into = c.read.new.into in
    let rest = drop c.args.room c.args.buffer.now in
    record {
      taken = (
        omega (arith, bytes.0, size, length-take c.args.room c.args.buffer.now),
        omega (arith, bytes.0, length-append into rest),
        rw (take-append-le c.in_ok-count.count into rest bytes.0) bytes.1,
      );
      ended = λ zero some.
          let none : c.in_ok-count.count ≡ 0 = cc in
          bytes.2 none (omega (arith, some, size, length-take c.args.room c.args.buffer.now, c.requires));
      failed = search rules;
      cause = search rules;
      steady = search rules;
    }
