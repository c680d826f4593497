-- Rows stay in order where a row is put.
use Rattle.std.proofs.Common.{Result, Ok, Err, OnOk}
use Rattle.event_life.proofs.Puts.{put-sorted}
use Rattle.hazard_board.proofs.lines.add_row_if_some.Goals as goal

on_ok : {A E : Type 0} (r : Result A E) (P Q : Type 0) → (P → Q) → OnOk r P → OnOk r Q
on_ok (Ok x) P Q f p = f p
on_ok (Err e) P Q f p = tt

pub returns-in-Some-clause-order : goal.returns-in-Some-clause-order
returns-in-Some-clause-order c = on_ok c.put.result _ _ (λ is. rw is (put-sorted c.in-Some.row c.args.rows.now.items c.requires)) c.put.ensures.ok
