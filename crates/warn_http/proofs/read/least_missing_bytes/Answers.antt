use Rattle.std.proofs.Common.{refl}
use Rattle.warn_http.proofs.Short.{no_cut_head, no_cut_body, missing_body, still_unfinished}
use Rattle.warn_http.proofs.read.least_missing_bytes.Goals as goal

pub returns-in-Some-clause-head : goal.returns-in-Some-clause-head
returns-in-Some-clause-head c = λ cut.
    absurd (no_cut_head c.args.bytes.now c.front_of-front.result.now c.whole_head.new.headers c.in-Some.spans c.front_of-front.ensures.front c.in-Some.ensures.some cut)

pub returns-in-Some-clause-body : goal.returns-in-Some-clause-body
returns-in-Some-clause-body c = λ cut. (
  c.missing.result,
  refl,
  missing_body c.args.bytes.now c.front_of-front.result.now c.whole_head.new.headers c.in-Some.spans c.front_of-front.ensures.front c.in-Some.ensures.some
      c.stated_by-stated.result c.missing.result c.stated_by-stated.ensures c.missing.ensures cut,
)

pub returns-in-Some-clause-fewer : goal.returns-in-Some-clause-fewer
returns-in-Some-clause-fewer c = λ unfinished n more is few.
    let no_head = no_cut_head c.args.bytes.now c.front_of-front.result.now c.whole_head.new.headers c.in-Some.spans c.front_of-front.ensures.front c.in-Some.ensures.some in
    let body = missing_body c.args.bytes.now c.front_of-front.result.now c.whole_head.new.headers c.in-Some.spans c.front_of-front.ensures.front c.in-Some.ensures.some
    c.stated_by-stated.result c.missing.result c.stated_by-stated.ensures c.missing.ensures in
    still_unfinished c.args.bytes.now c.missing.result n no_head body unfinished more is few

pub returns-in-None-clause-body : goal.returns-in-None-clause-body
returns-in-None-clause-body c = λ cut.
    absurd (no_cut_body c.args.bytes.now c.front_of-front.result.now c.front_of-front.ensures.front c.in-None.ensures.none cut)

pub returns-in-None-clause-fewer : goal.returns-in-None-clause-fewer
returns-in-None-clause-fewer c = λ unfinished n more is few. absurd cc
