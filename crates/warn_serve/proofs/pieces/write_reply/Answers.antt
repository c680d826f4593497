use Rattle.std.proofs.Common.{◌≡◌, ◌∙◌, ◌++◌, List, ℕ, ap, length, rules, subst}
use Rattle.desk_links.specs.Links.{WritesLink}
use Rattle.desk_traits.specs.declared.faults.Failed.{Failed}
use Rattle.warn_http.specs.Outcomes.{call_answer}
use Rattle.warn_http.specs.declared.outcomes.Outcome.TheVariants.{Replied}
use Rattle.warn_serve.specs.Pieces.{reply_head}
use Rattle.warn_serve.proofs.Fronts.{first_failed, reply_parts, then_second}
use Rattle.warn_serve.proofs.pieces.write_reply.Goals as goal

pub returns-in_err-write_head : goal.returns-in_err-write_head
returns-in_err-write_head g c =
    let state = g.L.Link.state in
    let reply = c.args.reply.now in
    let last = c.args.last in
    let sent = c.in_err-write_head.ensures in
    let count : c.len.result ≡ length reply = search rules in
    let whole : reply_head c.len.result last ++ reply ≡ call_answer Replied reply last = ap (λ (n : ℕ). reply_head n last ++ reply) count ∙ reply_parts reply last in
    subst (λ (t : List ℕ). WritesLink {E = Failed} (state c.args.link.now) (state c.write_head.new.link) c.from_residual.result t) whole
    (first_failed (state c.args.link.now) (state c.write_head.new.link) (reply_head c.len.result last) reply c.from_residual.result sent.part sent.came sent.input (search rules) (search rules) (search rules))

pub returns : goal.returns
returns g c =
    let state = g.L.Link.state in
    let reply = c.args.reply.now in
    let last = c.args.last in
    let count : c.len.result ≡ length reply = search rules in
    let whole : reply_head c.len.result last ++ reply ≡ call_answer Replied reply last = ap (λ (n : ℕ). reply_head n last ++ reply) count ∙ reply_parts reply last in
    let text : c.as_slice.result.now ≡ reply = search rules in
    subst (λ (t : List ℕ). WritesLink {E = Failed} (state c.args.link.now) (state c.write_link.new.link) c.write_link.result t) (ap (λ (t : List ℕ). reply_head c.len.result last ++ t) text ∙ whole)
    (then_second (state c.args.link.now) (state c.write_head.new.link) (state c.write_link.new.link) (reply_head c.len.result last) c.as_slice.result.now c.write_link.result c.in_ok-write_head.field-0 c.in_ok-write_head.ensures c.write_link.ensures)
