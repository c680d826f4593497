use Rattle.std.proofs.Common.{◌≡◌, ◌≤◌, ◌-◌, List, ℕ, length, drop, ap, ◌∙◌, arith}
use Rattle.call_inbox.proofs.Places.{between, between_length, between_skip}
use Rattle.call_inbox.proofs.inbox.Inbox.skip.Goals as goal

pub returns : goal.returns
returns c =
    let i = c.self.inside in
    let size : length (between i.buffer.items i.start i.end) ≡ length c.args.self.now = ap (λ (b : List ℕ). length b) c.self.view_is in
    let inv = c.self.invariant in
    let within : i.end ≤ length i.buffer.items = omega (arith, inv.1, inv.2) in
    let few : c.args.count ≤ i.end - i.start = omega (arith, size, c.requires, between_length i.buffer.items i.start i.end inv.0 within) in
    between_skip i.buffer.items i.start i.end c.args.count few ∙ ap (drop c.args.count) c.self.view_is
