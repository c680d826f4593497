use Rattle.std.proofs.Common.{◌≡◌, List, ℕ, inl, rules, subst, sym, [], Ok, Err, drop, length, ap, ◌∙◌}
use mathlib.Core.List.{append-nil}
use Rattle.httparse.specs.Grammar.{ReadsRequest}
use Rattle.httparse.specs.Outcome.{IfComplete}
use Rattle.httparse.specs.declared.Error.{Error}
use Rattle.httparse.specs.Spans.{IsRequestOf, RequestExceeds}
use Rattle.http_heads.proofs.Sizes.{no_room_for_request}
use Rattle.warn_http.proofs.heads.with_room.Goals as goal

pub returns-in-Ok-Complete : goal.returns-in-Ok-Complete
returns-in-Ok-Complete c = λ headers.
    let t = c.in-Ok-Complete.ensures.complete in
    let u = subst (λ z. IfComplete {E = Error} (Ok z) (IsRequestOf c.args.bytes.now c.parse_request.new.headers)) c.in-Ok-Complete.field-0-is t in
    let reads = u.1.reads in
    let rest : List ℕ = drop c.in-Ok-Complete.field-0-0.len c.args.bytes.now in
    inl (u.0, rest, reads, c.requires.many [] u.0 rest (subst (λ (b : List ℕ). ReadsRequest b u.0 rest) (sym (append-nil c.args.bytes.now)) reads))

pub unreachable-requires : goal.unreachable-requires
unreachable-requires c =
    let room : length c.as_mut_slice.result.now ≡ 2731 = search rules in
    no_room_for_request c.args.bytes.now c.requires.small (subst (λ (n : ℕ). RequestExceeds n c.args.bytes.now) room (c.parse_request.ensures.too_many (c.in-Err-TooManyHeaders.is ∙ ap (λ z. Err z) c.in-Err-TooManyHeaders.field-0-is)))

pub returns : goal.returns
returns c = λ headers. search rules
