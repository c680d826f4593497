use Rattle.std.proofs.Common.{rules}
use Rattle.std.proofs.lemmas.Str.{is_utf8-from_IsUtf8, IsUtf8-from_is_utf8}
use Rattle.std.specs.Str.{is_utf8}
use Rattle.json_parts.proofs.NoneRead.{none_where_refused}
use Rattle.json_parts.proofs.reading.read_json.Goals as goal

pub returns-in-Ok : goal.returns-in-Ok
returns-in-Ok c = rw (is_utf8-from_IsUtf8 c.args.bytes.now c.in-Ok.ensures.ok.0) c.in-Ok.ensures.ok.1

pub returns-else-is_memory : goal.returns-else-is_memory
returns-else-is_memory c = none_where_refused (is_utf8 c.args.bytes.now) _ (λ u. c.in-Err.ensures.err (λ m. absurd (search (rules, c.is_memory.ensures.1 m))) (IsUtf8-from_is_utf8 c.args.bytes.now u))
