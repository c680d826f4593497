use Rattle.std.proofs.Common.{◌≡◌, ◌∙◌, ap}
use Rattle.std.proofs.lemmas.Result.{IfOk-weaker}
use Rattle.desk_traits.specs.DiskMemory.{MayLeave, picked}
use Rattle.desk_traits.proofs.Recorded.{picked_may}
use Rattle.desk_traits.proofs.disk_record.MemDisk.crashed.Goals as goal

pub returns-clause-left : goal.returns-clause-left
returns-clause-left c =
    let first = c.args.self.first in
    let pick = c.args.self.pick in
    IfOk-weaker c.file_left.result (λ file. file ≡ picked first pick c.deref.result.now) (λ file. MayLeave first c.args.self.calls.items file)
    (λ file is. picked_may first pick c.args.self.calls.items file (is ∙ ap (picked first pick) c.deref.ensures.value))
    c.file_left.ensures
