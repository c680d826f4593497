use Rattle.hazard_types.specs.declared.codes.Class.TheVariants.{O}
use Rattle.office_journal.specs.Histories.{fits}
use Rattle.warn_main.proofs.Promising.{promised}
use Rattle.warn_main.proofs.laws.what_was_done_keeps_the_promise.Goals as goal

pub returns : goal.returns
returns g c words limit before after status done =
    let m = g.met.D.Disk in
    promised g.D.Disk before after m.are_crashes g.C.Clock words limit status
    (λ file h s legal. c.requests_stand_once.ensures (fits file) legal.settings O h.entries legal.last legal.legal) done
