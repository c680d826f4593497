-- the products that are left lead to what all of them do
use Rattle.std.proofs.Common.{◌≡◌, ℕ, drop, fold, if◌then◌else◌}
use Rattle.office_types.specs.declared.request.Sent.{Sent}
use Rattle.worked_rows.specs.Days.{are_alike}
use Rattle.worked_rows.proofs.board.series.last_of.Given as goal

abbrev pub invariant-loop-sent : goal.invariant-loop-sent
invariant-loop-sent l = fold (λ (last : ℕ) (s : Sent). if are_alike s.category l.category then s.number else last) l.last (drop l.sent-index l.products) ≡ fold (λ (last : ℕ) (s : Sent). if are_alike s.category l.category then s.number else last) 0 l.products
