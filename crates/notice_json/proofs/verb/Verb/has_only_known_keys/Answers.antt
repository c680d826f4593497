use Rattle.std.proofs.Common.{rules, tests, String, Global, string_bytes, ◌∙◌}
use Rattle.std.proofs.lemmas.Iterator.Search.{all_from_yields_List}
use Rattle.std.proofs.lemmas.Iterator.Consumers.{YieldsList-from_rest}
use Rattle.notice_json.specs.Keys.{has_key}
use Rattle.notice_json.proofs.KeysKnown.{known_of}
use Rattle.notice_json.proofs.verb.Verb.has_only_known_keys.Goals as goal

pub returns : goal.returns
returns c =
    all_from_yields_List (λ (k : String Global). has_key c.args.self (string_bytes k)) _ _ _ c.all.ensures.ran (YieldsList-from_rest _ c.keys.ensures.rest) (λ x b q k. search (rules, tests))
    ∙ known_of c.args.self c.args.members.now.entries
