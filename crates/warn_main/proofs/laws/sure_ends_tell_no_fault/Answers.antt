use Rattle.std.proofs.Common.{refl}
use Rattle.warn_main.proofs.Sure.{ends, reads_well, says, serves, writes_well}
use Rattle.warn_main.proofs.laws.sure_ends_tell_no_fault.Goals as goal

pub returns : goal.returns
returns g c = record {
  disk = ends _ (λ x. refl) _;
  lines = says _ (λ x. refl) _;
  calls = λ clock. serves _ (λ x. refl) _;
  input = λ source next. reads_well _ _ _ _ refl refl;
  output = λ sink next. writes_well _ _ _ _ refl refl;
}
