use Rattle.std.proofs.Common.{◌<◌, ℕ, List, length, Result, Ok, Err, subst}
use Rattle.std.specs.Prelude.{IfOk, IsTrue}
use Rattle.hazard_types.specs.Given.{Gives}
use Rattle.hazard_types.specs.declared.or.Or.{Or}
use Rattle.ugc_codes.specs.declared.read.UgcFault.{UgcFault}
use Rattle.ugc_codes.specs.declared.read.UgcRead.{UgcRead}
use Rattle.ugc_codes.specs.Grammar.{IsUgc}
use Rattle.hazard_types.specs.Digits.{is_day_stamp}
use Rattle.ugc_codes.specs.Reading.{ugc_of}
use Rattle.ugc_codes.proofs.Adding.{zones_some}
use Rattle.ugc_codes.proofs.Lines.{read_is_ugc, ugc_is_read, fault_is_read, refused_is_fault}
use Rattle.ugc_codes.proofs.read.read_ugc.Goals as goal

found : (bytes : List ℕ) (r : Result UgcRead (Or UgcFault)) → Gives r (ugc_of bytes) → IfOk r (λ u. IsUgc bytes u.zones u.expiry u.used)
found bytes (Ok u) h = read_is_ugc bytes u h
found bytes (Err e) h = tt

some : (bytes : List ℕ) (r : Result UgcRead (Or UgcFault)) → Gives r (ugc_of bytes) → IfOk r (λ u. 0 < length u.zones)
some bytes (Ok u) h = zones_some bytes u.zones u.expiry u.used (read_is_ugc bytes u h)
some bytes (Err e) h = tt

day : (bytes : List ℕ) (r : Result UgcRead (Or UgcFault)) → Gives r (ugc_of bytes) → IfOk r (λ u. IsTrue (is_day_stamp u.expiry))
day bytes (Ok u) h = let g : IsUgc bytes u.zones u.expiry u.used = read_is_ugc bytes u h in g.day
day bytes (Err e) h = tt

pub returns-clause-found : goal.returns-clause-found
returns-clause-found c = found c.args.bytes.now c.read.result c.read.ensures.exact

pub returns-clause-only : goal.returns-clause-only
returns-clause-only c = λ zones d n u. subst (λ (a : Result UgcRead UgcFault). Gives c.read.result a) (ugc_is_read c.args.bytes.now zones d n u) c.read.ensures.exact

pub returns-clause-fault : goal.returns-clause-fault
returns-clause-fault c = λ f e. refused_is_fault c.args.bytes.now f (subst (λ (r : Result UgcRead (Or UgcFault)). Gives r (ugc_of c.args.bytes.now)) e c.read.ensures.exact)

pub returns-clause-fault_only : goal.returns-clause-fault_only
returns-clause-fault_only c = λ f h. subst (λ (a : Result UgcRead UgcFault). Gives c.read.result a) (fault_is_read c.args.bytes.now f h) c.read.ensures.exact

pub returns-clause-some : goal.returns-clause-some
returns-clause-some c = some c.args.bytes.now c.read.result c.read.ensures.exact

pub returns-clause-expiry : goal.returns-clause-expiry
returns-clause-expiry c = day c.args.bytes.now c.read.result c.read.ensures.exact
