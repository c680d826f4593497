-- An H-VTEC text is one line, which a reader takes as it stands.
use Rattle.std.proofs.Common.{◌≡◌, ℕ, List, ap, lit≤, refl}
use Rattle.std.specs.Prelude.{slice_index}
use Rattle.std.proofs.lemmas.Bool.{and_parts}
use Rattle.hazard_types.specs.declared.codes.Severity.{Severity}
use Rattle.hazard_types.specs.declared.codes.Status.{Status}
use Rattle.hazard_types.specs.declared.line.Flood.{Flood}
use Rattle.hazard_types.specs.Letters.{severity_code, status_code}
use Rattle.hazard_types.specs.Tables.{severity_rows, status_rows}
use Rattle.hazard_types.proofs.CodesBack.{each_severity, each_status}
use Rattle.hvtec_string.specs.Columns.{IsHvtec, hvtec_text}
use Rattle.hvtec_string.proofs.Laying.{columns}
use Rattle.product_frame.specs.Text.{line_of}
use Rattle.product_frame.specs.LineRules.{IsOneLine}
use Rattle.product_frame.proofs.VtecLines.{time_line, names_line, letters_line, two_at, one_line, slash_whole}

severity_line : (s : Severity) → IsOneLine (severity_code s)
unfolding severity_rows
severity_line = each_severity (λ s. IsOneLine (severity_code s)) ((refl, tt), ((refl, tt), ((refl, tt), ((refl, tt), ((refl, tt), ((refl, tt), tt))))))

status_line : (s : Status) → IsOneLine (status_code s)
unfolding status_rows
status_line = each_status (λ s. IsOneLine (status_code s)) ((refl, (refl, tt)), ((refl, (refl, tt)), ((refl, (refl, tt)), ((refl, (refl, tt)), tt))))

pub hvtec_line : (h : Flood) → IsHvtec (hvtec_text h) h → IsOneLine (hvtec_text h)
unfolding hvtec_text
hvtec_line h is =
    let cause : IsOneLine h.cause = letters_line h.cause (two_at (hvtec_text h) h.cause 9 54 is.size (lit≤ tt) is.cause) is.are_letters in
    let location : IsOneLine h.site = names_line h.site (and_parts _ _ is.is_location).1 in
    one_line (columns h) ((tt, refl), ((location, refl), ((severity_line h.severity, refl), ((cause, refl), ((time_line h.begin, refl), ((time_line h.crest, refl), ((time_line h.end, refl), ((status_line h.status, refl), tt))))))))

pub hvtec_whole : (h : Flood) → IsHvtec (hvtec_text h) h → line_of (hvtec_text h) ≡ hvtec_text h
hvtec_whole h is = slash_whole (hvtec_text h) 53 is.size (ap (λ (t : List ℕ). slice_index t 7) is.separated) (hvtec_line h is)
