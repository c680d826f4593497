use Rattle.std.proofs.Common.{◌≡◌, ◌≤◌, length}
use Rattle.byte_streams.specs.Flows.{Takes}
use Rattle.desk_commands.proofs.init.read_settings.Given as goal

-- the text is what was read, and one more may follow
abbrev pub invariant-loop-turn : goal.invariant-loop-turn
invariant-loop-turn g l =
    let source = g.S.Source in
    record {
      takes : Takes (source.inflow l.fn.input).left (source.inflow l.input).left l.text;
      within : length l.text ≤ 1048576;
      turns : l._turn ≤ length l.text;
      steady : (source.inflow l.input).faults ≡ (source.inflow l.fn.input).faults;
    }
