-- What no broken rule tells.
use Rattle.std.proofs.Common.{◌≡◌, ◌≤◌, ◌↔◌, ℕ, Bool, true, false, Option, Some, None, refl, cond, nat_lt}
use Rattle.std.specs.Prelude.{IsTrue}
use Rattle.std.specs.Option.{option_or, is_some}
use Rattle.std.proofs.lemmas.Bool.{ltb-false}
use Rattle.std.specs.Bool.{Decides}
use Rattle.notice_json.specs.declared.command.Command.{Command}
use Rattle.notice_json.specs.declared.refusal.NoticeRefusal.{NoticeRefusal}
use Rattle.county_notices.specs.Commands.{broken_by_itself, time_back, time_out}

-- two tests of one thing are equal
pub same_test : (a b : Bool) (P : Type 0) → (IsTrue a ↔ P) → Decides b P → a ≡ b
same_test true true P h d = refl
same_test false false P h d = refl
same_test true false P h d = let no : false ≡ true = d.1 (h.0 refl) in cc
same_test false true P h d = let no : false ≡ true = h.1 (d.0 refl) in cc

pub none_given : {X : Type 0} (o p : Option X) → option_or o p ≡ None → (o ≡ None) × (p ≡ None)
none_given None p h = (refl, h)
none_given (Some x) p h = cc

pub not_some : {X : Type 0} (o : Option X) → is_some o ≡ false → o ≡ None
not_some None h = refl
not_some (Some x) h = cc

pub not_refused : (b : Bool) (r : NoticeRefusal) → cond b (Some r) None ≡ None → b ≡ false
not_refused true r h = cc
not_refused false r h = refl

pub comes_later : (last : ℕ) (c : Command) → broken_by_itself last c ≡ None → last ≤ c.at
unfolding broken_by_itself
comes_later last c h =
    let p = none_given (time_out c) _ h in
    let q = none_given (time_back last c) _ p.1 in
    ltb-false c.at last (not_refused (nat_lt c.at last) _ q.0)
