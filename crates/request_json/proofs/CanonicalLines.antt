-- A canonical text has no line feed.
use Rattle.std.proofs.Common.{◌≢◌, ℕ}
use Rattle.std.specs.List.{All}
use Rattle.serde_json.specs.Data.{object}
use Rattle.json_parts.proofs.Lines.{compact_line}
use Rattle.request_json.specs.Canonical.{asked_members, asked_text}
use Rattle.request_json.specs.declared.asked.Asked.{Asked}

pub asked_line : (a : Asked) → All (λ (b : ℕ). b ≢ 10) (asked_text a)
unfolding asked_text
asked_line a = compact_line (object (asked_members a))
