use Rattle.office_journal.proofs.Hearing.{one_effect}
use Rattle.office_journal.proofs.kept.KeptOffice.a_request_sent_again_has_one_effect.Goals as goal

pub returns : goal.returns
returns g c = let d = g.D.Disk in one_effect d.seen d.crash d.faults c.args.self.now
