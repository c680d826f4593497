use Rattle.std.proofs.Common.{◌≡◌, map, drop}
use Rattle.std.specs.List.{list_any}
use Rattle.httparse.specs.Spans.{header_bytes}
use Rattle.http_heads.specs.Fields.{is_named}
use Rattle.http_heads.proofs.has_field.Given as goal

abbrev pub invariant-loop-field : goal.invariant-loop-field
invariant-loop-field l =
    list_any (is_named l.name) (map (header_bytes l.buf) (drop l.field-index l.fields))
    ≡ list_any (is_named l.name) (map (header_bytes l.buf) l.fields)
