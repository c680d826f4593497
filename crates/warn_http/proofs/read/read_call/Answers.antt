use Rattle.warn_http.proofs.Causes.{whole_answer, more_answer_to, bad_answer, long_answer}
use Rattle.warn_http.proofs.read.read_call.Goals as goal

pub returns-in-Whole : goal.returns-in-Whole
returns-in-Whole c =
    whole_answer c.args.bytes.now c.front_of-front.result.now c.read_head.new.headers c.in-Whole.spans c.answer.result
    c.front_of-front.ensures.front c.in-Whole.ensures c.answer.ensures

pub returns-in-More : goal.returns-in-More
returns-in-More c =
    more_answer_to c.args.bytes.now c.front_of-front.result.now c.read_head.new.headers c.front_of-front.ensures.front c.in-More.ensures

pub returns-in-Bad : goal.returns-in-Bad
returns-in-Bad c =
    bad_answer c.args.bytes.now c.front_of-front.result.now c.read_head.new.headers c.front_of-front.ensures.front c.in-Bad.ensures

pub returns-in-TooLong : goal.returns-in-TooLong
returns-in-TooLong c =
    long_answer c.args.bytes.now c.front_of-front.result.now c.read_head.new.headers c.front_of-front.ensures.front c.in-TooLong.ensures
