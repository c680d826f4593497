use Rattle.event_life.proofs.BoundsLemmas.{con_exactly, cor_exactly}
use Rattle.event_life.proofs.step_laws.con_and_cor_keep_the_period.Goals as goal

pub returns-clause-con : goal.returns-clause-con
returns-clause-con c = con_exactly

pub returns-clause-cor : goal.returns-clause-cor
returns-clause-cor c = cor_exactly
