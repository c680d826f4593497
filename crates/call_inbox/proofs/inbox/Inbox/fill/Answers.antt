use Rattle.std.proofs.Common.{List, ℕ, ◌+◌, ◌++◌, take, drop, ap, ◌∙◌, rules}
use Rattle.std.specs.Vec.{with_items}
use Rattle.std.proofs.lemmas.List.{with_items_is, places}
use Rattle.call_inbox.proofs.Places.{between, between_more, kept_still}
use Rattle.call_inbox.proofs.Steps.{on_err, read_nothing}
use Rattle.call_inbox.proofs.inbox.Inbox.fill.Goals as goal

pub returns-in_err-count-clause-read : goal.returns-in_err-count-clause-read
returns-in_err-count-clause-read g c =
    let first = c.self.inside.buffer in
    let moved = c.make_room_behind-start.new.buffer in
    let filled = c.read_behind.new.buffer in
    read_nothing _ _ _ _
    (kept_still first.items _ moved filled _ c.self.inside.start c.self.inside.end c.make_room_behind-start.result.0 c.make_room_behind-start.result.1 _ _
    c.make_room_behind-start.ensures.same c.as_mut_slice.ensures.value c.self.view_is (with_items_is (with_items first moved) filled (search (rules, places)))
    c.make_room_behind-start.ensures.order c.read_behind.ensures.front (c.as_mut_slice-2.ensures.value ∙ with_items_is first moved (search (rules, places))))
    c.in_err-count.ensures.read.bytes c.in_err-count.ensures.read.came c.in_err-count.ensures.read.output

pub returns-clause-read : goal.returns-clause-read
returns-clause-read g c =
    let first = c.self.inside.buffer in
    let moved = c.make_room_behind-start.new.buffer in
    let filled = c.read_behind.new.buffer in
    let start = c.make_room_behind-start.result.0 in
    let end = c.make_room_behind-start.result.1 in
    let n = c.in_ok-count.count in
    let moved_is = with_items_is first moved (search (rules, places)) in
    let filled_is = with_items_is (with_items first moved) filled (search (rules, places)) in
    let stood = c.make_room_behind-start.ensures.same ∙ ap (λ (b : List ℕ). between b c.self.inside.start c.self.inside.end) c.as_mut_slice.ensures.value ∙ c.self.view_is in
    let front = c.read_behind.ensures.front ∙ ap (take end) (c.as_mut_slice-2.ensures.value ∙ moved_is) in
    record {
      read = take n (drop end filled);
      stands = ap (λ (b : List ℕ). between b start (end + n)) filled_is ∙ between_more moved filled start end n c.make_room_behind-start.ensures.order front ∙ ap (λ (b : List ℕ). b ++ take n (drop end filled)) stood;
      takes = c.in_ok-count.ensures.read.bytes.1;
      came = c.in_ok-count.ensures.read.came;
      output = c.in_ok-count.ensures.read.output;
    }

pub returns-in_err-count-clause-unread : goal.returns-in_err-count-clause-unread
returns-in_err-count-clause-unread g c =
    let first = c.self.inside.buffer in
    let moved = c.make_room_behind-start.new.buffer in
    let filled = c.read_behind.new.buffer in
    on_err c.from_residual.result _
    (kept_still first.items _ moved filled _ c.self.inside.start c.self.inside.end c.make_room_behind-start.result.0 c.make_room_behind-start.result.1 _ _
    c.make_room_behind-start.ensures.same c.as_mut_slice.ensures.value c.self.view_is (with_items_is (with_items first moved) filled (search (rules, places)))
    c.make_room_behind-start.ensures.order c.read_behind.ensures.front (c.as_mut_slice-2.ensures.value ∙ with_items_is first moved (search (rules, places))))
