use Rattle.std.proofs.Common.{rules, sym, subst, Err}
use Rattle.follow_links.proofs.Asking.{not_asked, cut_ask, missed, heard, missed_rose}
use Rattle.follow_links.specs.Rounding.{IsAsk}
use Rattle.follow_links.specs.declared.talk.LinkEnd.{LinkEnd}
use Rattle.follow_links.proofs.talk.ask_once.Goals as goal

pub returns-in_default-clause-asked : goal.returns-in_default-clause-asked
returns-in_default-clause-asked g c = not_asked (g.L.Link.state c.args.link.now) c.args.follower.now

pub returns-then-is_err-clause-asked : goal.returns-then-is_err-clause-asked
returns-then-is_err-clause-asked g c =
    let state = g.L.Link.state in
    let sent = c.write_link.ensures in
    cut_ask (state c.args.link.now) (state c.write_link.new.link) c.args.follower.now c.as_slice.result.now sent.part.0 (search rules) sent.input sent.part.2

pub returns-in-Ok-read_answer-clause-asked : goal.returns-in-Ok-read_answer-clause-asked
returns-in-Ok-read_answer-clause-asked g c =
    let state = g.L.Link.state in
    heard (state c.args.link.now) (state c.write_link.new.link) (state c.read_answer.new.link) c.args.follower.now c.as_slice.result.now (search rules) c.write_link.ensures.input (search rules) c.read_answer.ensures.beside.0
    c.read_answer.new.bytes c.take_answer.new.follower c.take_answer.result c.in-Ok-read_answer.ensures.read.0 (search rules)

pub returns-clause-asked : goal.returns-clause-asked
returns-clause-asked g c =
    let state = g.L.Link.state in
    subst (λ (e : LinkEnd). IsAsk (state c.args.link.now) (state c.read_answer.new.link) c.args.follower.now c.args.follower.now (Err e)) (sym c.end_of.ensures)
    (missed (state c.args.link.now) (state c.write_link.new.link) (state c.read_answer.new.link) c.args.follower.now c.as_slice.result.now (search rules) c.write_link.ensures.input (search rules) c.read_answer.ensures.beside.0
    c.read_answer.new.bytes c.in-Err.miss c.in-Err.ensures.read)

pub returns-clause-cause : goal.returns-clause-cause
returns-clause-cause g c =
    let state = g.L.Link.state in
    missed_rose (state c.args.link.now) (state c.write_link.new.link) (state c.read_answer.new.link)
    c.in-Err.miss c.end_of.result c.end_of.ensures c.write_link.ensures.input c.write_link.ensures.cause.later c.read_answer.ensures.beside.0 c.in-Err.ensures.cause
