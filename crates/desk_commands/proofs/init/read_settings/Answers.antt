use Rattle.std.proofs.Common.{arith, take, inl, refl, ◌∙◌, ◌++◌, length-append}
use Rattle.std.proofs.lemmas.List.{length-take}
use Rattle.byte_streams.proofs.Pieces.{takes_both}
use Rattle.program_ends.specs.declared.reading.Stop.TheVariants as stop
use Rattle.desk_commands.proofs.Cutting.{stops_by}
use Rattle.desk_commands.proofs.init.read_settings.Goals as goal

pub returns-in_err-extend : goal.returns-in_err-extend
returns-in_err-extend g c =
    let bytes = c.in-Ok.ensures.taken in
    let text = c.loop-turn.text in
    let chunk = take c.in-Ok.count c.read_some.new.buffer in
    rw (stops_by c.from_residual.result stop.OutOfMemory c.from_residual.ensures.1) (
      (
        text ++ chunk,
        takes_both _ _ _ _ _ _ c.loop-turn.invariant.takes bytes.2 refl,
        omega (arith, c.loop-turn.invariant.within, c.min-room.ensures, c.len.ensures, bytes.0, length-take c.in-Ok.count c.read_some.new.buffer, length-append text chunk),
      ),
      inl (refl, c.in-Ok.ensures.steady ∙ c.loop-turn.invariant.steady),
    )
