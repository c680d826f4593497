use Rattle.warn_http.proofs.Feeds.{no_head_in_nothing, still_no_head}
use Rattle.warn_http.proofs.laws.heads_end_with_a_line_feed.Goals as goal

pub returns-clause-empty : goal.returns-clause-empty
returns-clause-empty c = no_head_in_nothing

pub returns-clause-more : goal.returns-clause-more
returns-clause-more c = still_no_head
