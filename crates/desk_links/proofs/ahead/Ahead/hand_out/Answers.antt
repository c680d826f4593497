use Rattle.std.proofs.Common.{◌≡◌, ◌++◌, ◌+◌, ◌-◌, ℕ, List, length, take, drop, arith, sym, ap, ◌∙◌, take-append-drop, drop-drop, length-take}
use Rattle.std.proofs.lemmas.List.{take_at, drop-take}
use Rattle.desk_links.proofs.ahead.Ahead.hand_out.Goals as goal

pub returns-clause-bytes : goal.returns-clause-bytes
returns-clause-bytes c =
    let n = c.min-count.result in
    let from = c.self.inside.from in
    let all = take c.self.inside.to c.self.inside.bytes in
    let room = length-take n c.args.into.now in
    let long : length c.copy_from_slice.new.self ≡ n = omega arith in
    let width = c.self.inside.to - from in
    let whole : from + width ≡ c.self.inside.to = omega arith in
    let copied : c.copy_from_slice.new.self ≡ take n (drop from all) =
    c.copy_from_slice.ensures.after ∙ ap (take n) (sym (drop-take from width c.self.inside.bytes) ∙ ap (λ (k : ℕ). drop from (take k c.self.inside.bytes)) whole) in
    sym c.self.view_is ∙ sym (ap (λ (l : List ℕ). l ++ drop (from + n) all) (take_at c.copy_from_slice.new.self (drop n c.args.into.now) n long ∙ copied)
    ∙ ap (λ (l : List ℕ). take n (drop from all) ++ l) (sym (drop-drop n from all))
    ∙ take-append-drop n (drop from all))
