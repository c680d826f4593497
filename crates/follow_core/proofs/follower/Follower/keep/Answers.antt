-- The rows are those after the frames that were heard, with the one that is kept.
use Rattle.std.proofs.Common.{◌≡◌, ◌∙◌, ◌++◌, ◌∷◌, [], List, Option, Some, sym, ap, subst}
use Rattle.std.specs.declared.snapshot.Snapshot.{Snapshot}
use Rattle.hazard_types.specs.declared.line.Row.{Row}
use Rattle.event_life.specs.Products.{rows_of}
use Rattle.product_frame.specs.declared.frame.Frame.{Frame}
use Rattle.product_decoder.specs.ReaderModel.{Reading}
use Rattle.row_index.specs.Verdicts.{expand, AreFound}
use Rattle.follow_core.specs.Frames.{products_taken}
use Rattle.follow_core.proofs.Kept.{counted_kept, found_by, rows_kept}
use Rattle.follow_core.proofs.follower.Follower.keep.Goals as goal

-- they found it in the rows that are held
pub leave_runs-requires-clause-found : goal.leave_runs-requires-clause-found
leave_runs-requires-clause-found c =
    let heard : List (Snapshot Frame) = c.self.inside.heard.items in
    let held_is : ◌≡◌ {A = Option (List Row)} c.self.inside.rows (Some c.in-Some.rows) = sym c.take.ensures.value ∙ c.in-Some.is in
    found_by c.self.inside.rows c.in-Some.rows (products_taken c.self.inside.office c.self.inside.class heard) c.args.judged.now held_is c.self.invariant.1
    (subst (λ (was : Reading). AreFound (rows_of was.products) c.args.judged.now) (sym c.self.view_is) c.requires.found)

pub invariant_of-self-2 : goal.invariant_of-self-2
invariant_of-self-2 c =
    let office = c.self.inside.office in
    let class = c.self.inside.class in
    let heard : List (Snapshot Frame) = c.self.inside.heard.items in
    let more : List (Snapshot Frame) = c.push_reserved.new.self.items in
    let s = c.of.result in
    let more_is : more ≡ heard ++ s ∷ [] = c.push_reserved.ensures.items ∙ ap (λ (all : List (Snapshot Frame)). all ++ s ∷ []) c.in_ok-reserve.ensures.items in
    let held_is : ◌≡◌ {A = Option (List Row)} c.self.inside.rows (Some c.in-Some.rows) = sym c.take.ensures.value ∙ c.in-Some.is in (
      counted_kept office class c.self.inside.place heard more s c.self.invariant.0 more_is,
      rows_kept office class c.self.inside.rows c.in-Some.rows c.in_ok-after.after heard more s c.args.frame.now (expand c.args.judged.now) c.args.self.now
          c.self.invariant.1 held_is c.self.view_is c.requires.judged c.in_ok-after.ensures c.of.ensures more_is,
    )
