-- What a drill keeps between its requests.
use Rattle.std.specs.Prelude.{◌≡◌, ◌≤◌, ◌+◌, ◌++◌, ℕ, List, length, map}
use Rattle.std.specs.List.{AllByRecursion}
use Rattle.hazard_types.specs.declared.codes.Class.TheVariants as classes
use Rattle.office_core.specs.Agreement.{ReadsAsTheBoard, product_in, products_in, texts_of}
use Rattle.office_core.specs.State.{last_number}
use Rattle.product_decoder.specs.Decoded.{decode}
use Rattle.desk_drill.specs.Office.{Drilled, drill_desks, drill_office}
use Rattle.desk_drill.specs.Requests.{Issued, desk_at}
use Rattle.desk_drill.specs.Tellings.{fault_of, faults_in}
use Rattle.desk_drill.specs.declared.requests.DrillRequest.{DrillRequest}
use Rattle.desk_drill.specs.declared.desk.DrillDesk.{DrillDesk}
use Rattle.desk_drill.specs.declared.texts.TextReader.{TextReader}

-- the texts were read, and no others
pub record HasRead (r : TextReader) (texts : List (List ℕ)) : Type 0 where
  pub office : r.reader.office ≡ drill_office
  pub class : r.reader.class ≡ classes.O
  pub products : r.reader.products ≡ products_in drill_office classes.O texts
  pub faults : r.faults ≡ faults_in texts

-- a text more was read
pub record HasReadOne (before : TextReader) (text : List ℕ) (now : TextReader) : Type 0 where
  pub office : now.reader.office ≡ before.reader.office
  pub class : now.reader.class ≡ before.reader.class
  pub products : now.reader.products ≡ before.reader.products ++ product_in before.reader.office before.reader.class (decode text)
  pub faults : now.faults ≡ before.faults + fault_of (decode text)

-- the request of a desk that is told by its place
abbrev pub issued_by : DrillRequest → Issued
issued_by r = record { desk = desk_at r.desk; part = r.part; minute = r.minute }

-- the office and its counts
abbrev pub drilled_of : DrillDesk → Drilled
drilled_of d = record { state = d.office.state; accepted = d.accepted; refused = d.refused; opened = d.opened }

-- The numbers are the desks' last ones, and the minute is the last entry's; each accepted request made a product, whose text was read.
pub record IsKept (d : DrillDesk) : Type 0 where
  pub numbered : d.numbers ≡ map (last_number d.office.state) drill_desks
  -- no desk has a greater number than there are accepted requests
  pub low : AllByRecursion (λ (n : ℕ). n ≤ d.accepted) d.numbers
  pub minute : d.last ≡ d.office.state.last
  pub undrafted : d.office.state.begun ≡ 0
  pub office : d.office.state.settings.office ≡ drill_office
  pub class : d.office.state.class ≡ classes.O
  pub counted : d.accepted ≡ length d.office.state.products
  pub few : length d.office.state.products ≤ 8192
  pub read : HasRead d.texts (texts_of d.office.state)
  pub reads : ReadsAsTheBoard d.office.state
