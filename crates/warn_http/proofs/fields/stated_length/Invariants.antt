use Rattle.std.proofs.Common.{◌≡◌, map, drop}
use Rattle.httparse.specs.Spans.{header_bytes}
use Rattle.warn_http.specs.declared.fields.Stated.TheVariants.{Absent}
use Rattle.warn_http.proofs.Folding.{stated_from}
use Rattle.warn_http.proofs.fields.stated_length.Given as goal

abbrev pub invariant-loop-field : goal.invariant-loop-field
invariant-loop-field l =
    stated_from l.found (map (header_bytes l.buf) (drop l.field-index l.fields))
    ≡ stated_from Absent (map (header_bytes l.buf) l.fields)
