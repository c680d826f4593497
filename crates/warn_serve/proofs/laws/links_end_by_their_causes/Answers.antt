use Rattle.warn_serve.proofs.Causing.{apart, cause_of, end_alike}
use Rattle.warn_serve.proofs.laws.links_end_by_their_causes.Goals as goal

pub returns : goal.returns
returns g c = record {
  cause = λ clock old new pass pass' end served. cause_of _ _ old new pass pass' end served;
  apart = apart;
  alike = λ clock clock' old new old' new' pass pass' next next' end other one two same. end_alike _ _ _ _ old new old' new' pass pass' next next' end other one two same;
}
