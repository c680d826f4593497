use Rattle.std.proofs.Common.{◌≡◌, ◌∙◌, sym, ap, map, drop, [], List}
use Rattle.std.proofs.lemmas.List.{drop_all}
use Rattle.httparse.specs.Spans.{header_bytes}
use Rattle.httparse.specs.declared.spans.HeaderSpan.{HeaderSpan}
use Rattle.warn_http.proofs.Folding.{stated_is, stated_from}
use Rattle.warn_http.proofs.fields.stated_length.Goals as goal

pub returns : goal.returns
returns c =
    let fields : List HeaderSpan = c.args.fields.now in
    let none : drop c.loop-field.field-index fields ≡ [] = drop_all c.loop-field.field-index fields c.loop-field-test.false in
    sym (ap (λ (left : List HeaderSpan). stated_from c.loop-field.found (map (header_bytes c.args.buf.now) left)) none)
    ∙ c.loop-field.invariant ∙ stated_is (map (header_bytes c.args.buf.now) fields)
