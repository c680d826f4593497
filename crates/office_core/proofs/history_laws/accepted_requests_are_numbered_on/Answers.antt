use Rattle.office_core.proofs.OnceLemmas.{last_is, number_behind, others_stay}
use Rattle.office_core.proofs.history_laws.accepted_requests_are_numbered_on.Goals as goal

pub returns : goal.returns
returns c = record {
  number = λ s counts desk seq r reading t made h. number_behind s desk seq r reading t made h;
  last = λ s counts desk seq r reading t made sound h. last_is s desk seq r reading t made sound.desks h;
  others = λ s counts desk seq r reading t made other sound h differs. others_stay s desk seq r reading t made other sound.desks h differs;
}
