use Rattle.desk_drill.proofs.Running.{summary_is}
use Rattle.desk_drill.proofs.drill.summary_of.Goals as goal

pub returns : goal.returns
returns c =
    summary_is (record { accepted = c.a_request_has_one_answer.ensures.accepted; apart = c.a_request_has_one_answer.ensures.apart })
    c.args.drill.now.number c.args.drill.now.count c.in_ok-desk.desk c.summary.result c.in_ok-desk.ensures.run c.in_ok-desk.ensures.kept c.summary.ensures
