-- The rows are those after the products, with the one that is kept.
use Rattle.std.proofs.Common.{◌∙◌, ◌<◌, ◌++◌, ◌∷◌, List, [], length, sym, ap, subst}
use Rattle.event_life.specs.Lives.{judged_product}
use Rattle.event_life.specs.Products.{lawful_of, put_all, rows_of}
use Rattle.product_decoder.specs.ReaderModel.{Reading}
use Rattle.product_decoder.specs.Takings.{product_judged}
use Rattle.row_index.specs.declared.verdicts.Run.{Run}
use Rattle.row_index.specs.Verdicts.{expand}
use Rattle.product_decoder.proofs.TakingLemmas.{keep_read, products_keep}
use Rattle.product_decoder.proofs.reader.Reader.keep.Goals as goal

pub invariant_of-self-2 : goal.invariant_of-self-2
invariant_of-self-2 c =
    let view = c.self.view_is in
    let rows_are = c.requires.rows ∙ ap (λ (r : Reading). rows_of r.products) (sym view) in
    let few = subst (λ (r : Reading). length r.products < 4294967295) (sym view) c.requires.few in
    let judged_are = c.requires.judged ∙ ap (λ (r : Reading). judged_product c.args.rows (product_judged r.office r.class c.args.issue (expand c.args.runs))) (sym view) in
    let after_is = c.in_ok-after.ensures ∙ ap (λ (runs : List Run). put_all c.args.rows c.args.issue (lawful_of (expand runs)) c.args.rows) c.as_slice.ensures in
    keep_read c.self.inside.office c.self.inside.class c.self.inside.rows c.args.rows c.in_ok-after.after c.self.inside.taken c.push.new.self c.new-taken.result c.args.issue (expand c.args.runs)
    c.self.invariant rows_are few judged_are after_is c.new-taken.ensures.issue c.new-taken.ensures.judged c.in_ok-push.ensures.ok

pub returns-clause-ok : goal.returns-clause-ok
returns-clause-ok c =
    products_keep c.self.inside.office c.self.inside.class c.self.inside.taken c.push.new.self c.new-taken.result c.args.issue (expand c.args.runs) c.new-taken.ensures.issue c.new-taken.ensures.judged c.in_ok-push.ensures.ok
    ∙ ap (λ (r : Reading). r.products ++ product_judged r.office r.class c.args.issue (expand c.args.runs) ∷ []) c.self.view_is
