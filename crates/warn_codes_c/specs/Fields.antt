-- The values of codes as C sees them, in structs of a fixed layout.
use Rattle.std.specs.Prelude.{ℕ, Option, Some, None, slice_index}
use Rattle.hazard_types.specs.Orders.{sig_letter}
use Rattle.hazard_types.specs.Letters.{class_code, action_code, severity_code, status_code}
use Rattle.hazard_types.specs.Places.{Place}
use Rattle.hazard_types.specs.declared.line.Vtec.{Vtec}
use Rattle.hazard_types.specs.declared.line.Flood.{Flood}
use Rattle.hazard_types.specs.Names.{kind_code}
use Rattle.warn_codes_c.specs.declared.fields.VtecFields.{VtecFields}
use Rattle.warn_codes_c.specs.declared.fields.FloodFields.{FloodFields}
use Rattle.warn_codes_c.specs.declared.fields.ZoneFields.{ZoneFields}

-- the number of a time: its minutes since 2000-01-01T00:00Z, or the largest number of 32 bits for zeros
abbrev pub time_number : Option ℕ → ℕ
time_number (Some m) = m
time_number None = 4294967295

abbrev pub vtec_fields : Vtec → VtecFields
vtec_fields v = record {
  begin = time_number v.begin;
  end = time_number v.end;
  number = v.etn;
  phenomenon = v.hazard.phen;
  office = v.office;
  action = action_code v.action;
  class = slice_index (class_code v.class) 0;
  significance = sig_letter v.hazard.sig;
}

abbrev pub flood_fields : Flood → FloodFields
flood_fields h = record {
  begin = time_number h.begin;
  crest = time_number h.crest;
  end = time_number h.end;
  location = h.site;
  severity = slice_index (severity_code h.severity) 0;
  cause = h.cause;
  record_status = status_code h.status;
}

abbrev pub zone_fields : Place → ZoneFields
zone_fields p = record { number = p.number; state = p.state; kind = kind_code p.kind }
