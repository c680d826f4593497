use Rattle.warn_main.proofs.Opening.{in_memory}
use Rattle.warn_main.proofs.program.run_words.Goals as goal

pub returns-in-Ok-new-clause-ran : goal.returns-in-Ok-new-clause-ran
returns-in-Ok-new-clause-ran g c =
    in_memory g.F.Files.opens g.F.File.Disk _ _ g.C.Clock c.args.outside.now.words
    c.in-Ok.command_line c.deref-2.result.now c.deref.result.now c.place_of.result _ c.in-Ok-new.disk
    c.args.files.now _ _ c.run_over-in-Ok-new.result c.in-Ok.is c.deref-2.ensures.value
    c.deref.ensures.value c.in-Memory.is c.place_of.ensures c.in-Ok-given_words.ensures
    c.run_over-in-Ok-new.ensures.ran
