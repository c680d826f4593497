use Rattle.std.proofs.Common.{◌∙◌, ℕ, Err, ap, subst}
use Rattle.httparse.specs.Spans.{ResponseExceeds}
use Rattle.http_heads.proofs.Sizes.{no_room_for_response}
use Rattle.follow_links.proofs.answers.head_of.Goals as goal

pub unreachable-requires : goal.unreachable-requires
unreachable-requires c =
    no_room_for_response c.args.bytes.now c.requires.short
    (subst (λ (n : ℕ). ResponseExceeds n c.args.bytes.now) c.requires.room (c.parse_response.ensures.too_many (c.in-Err-TooManyHeaders.is ∙ ap (λ z. Err z) c.in-Err-TooManyHeaders.field-0-is)))
