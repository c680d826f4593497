use Rattle.std.proofs.Common.{◌≡◌, ◌++◌, List, ℕ, decimal, rules, subst}
use Rattle.desk_links.specs.Links.{WritesLink}
use Rattle.desk_traits.specs.declared.faults.Failed.{Failed}
use Rattle.warn_serve.specs.Pieces.{behind_length}
use Rattle.warn_serve.proofs.Fronts.{first_failed, front, then_second}
use Rattle.warn_serve.proofs.pieces.write_head.Goals as goal

pub returns-in_err-write_both : goal.returns-in_err-write_both
returns-in_err-write_both g c =
    let state = g.L.Link.state in
    let sent = c.in_err-write_both.ensures in
    let number : c.as_bytes.result.now ≡ decimal c.args.count = search rules in
    let behind = behind_length c.args.last in
    subst (λ (t : List ℕ). WritesLink {E = Failed} (state c.args.link.now) (state c.write_both.new.link) c.from_residual.result (front ++ t ++ behind)) number
    (first_failed (state c.args.link.now) (state c.write_both.new.link) (front ++ c.as_bytes.result.now) behind c.from_residual.result sent.part sent.came sent.input (search rules) (search rules) (search rules))

pub returns : goal.returns
returns g c =
    let state = g.L.Link.state in
    let number : c.as_bytes.result.now ≡ decimal c.args.count = search rules in
    subst (λ (t : List ℕ). WritesLink {E = Failed} (state c.args.link.now) (state c.write_link.new.link) c.write_link.result t)
    (λ k. front ++ number k ++ c.behind_length.ensures k)
    (then_second (state c.args.link.now) (state c.write_both.new.link) (state c.write_link.new.link) (front ++ c.as_bytes.result.now) c.behind_length.result.now c.write_link.result c.in_ok-write_both.field-0 c.in_ok-write_both.ensures c.write_link.ensures)
