use Rattle.warn_http.proofs.heads.read_head.Goals as goal

pub returns-in-Err-TooManyHeaders : goal.returns-in-Err-TooManyHeaders
returns-in-Err-TooManyHeaders c = c.with_room.ensures c.parse_request.new.headers
