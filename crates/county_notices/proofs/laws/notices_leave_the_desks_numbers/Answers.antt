-- Products of other hazards are put in one by one.
use Rattle.county_notices.specs.Reading.{products_read}
use Rattle.county_notices.proofs.ApartProducts.{merged, numbers_kept}
use Rattle.county_notices.proofs.HistoryLemmas.{history_read}
use Rattle.county_notices.proofs.laws.notices_leave_the_desks_numbers.Goals as goal

pub returns-clause-opened : goal.returns-clause-opened
returns-clause-opened c = merged

pub returns-clause-numbers : goal.returns-clause-numbers
returns-clause-numbers c desk others all own other m h year is = numbers_kept h year _ _ is (merged desk others all own other m)

pub returns-clause-notices : goal.returns-clause-notices
returns-clause-notices c s notes z desk all stands none h own m =
    merged desk (products_read s.by.office notes) all own (history_read s notes z stands none h).others m
