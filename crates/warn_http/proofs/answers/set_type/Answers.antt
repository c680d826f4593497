use Rattle.warn_http.proofs.answers.set_type.Goals as goal

pub returns-in-Json : goal.returns-in-Json
returns-in-Json c = rw c.in-Json.is c.extend.ensures.ok

pub returns-in-Plain : goal.returns-in-Plain
returns-in-Plain c = rw c.in-Plain.is c.extend-in-Plain.ensures.ok
