use Rattle.std.proofs.Common.{rules}
use Rattle.std.proofs.lemmas.Nat.{be_bytes_4}
use Rattle.journal_core.proofs.adopt.body_length_of.Goals as goal

pub returns-clause-back : goal.returns-clause-back
returns-clause-back c = be_bytes_4 c.args.head _ (search rules) (search rules) c.from_be_bytes.ensures
