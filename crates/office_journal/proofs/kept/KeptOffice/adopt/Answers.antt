use Rattle.std.proofs.Common.{◌≡◌, ℕ, List, None, Some, length, sym, ◌∙◌, ap, subst}
use Rattle.desk_traits.specs.File.{Only}
use Rattle.journal_core.specs.Image.{Image, records}
use Rattle.journal_core.specs.Kept.{Keeps, disk_of, gate_of}
use Rattle.journal_core.specs.declared.journal.Journal.{Journal}
use Rattle.office_journal.specs.Adopting.{IsOpened}
use Rattle.office_journal.proofs.Opening.{has_then, holds_then, image_then}
use Rattle.office_journal.proofs.kept.KeptOffice.adopt.Goals as goal

pub returns-in-Ok-office_of-clause-ok : goal.returns-in-Ok-office_of-clause-ok
returns-in-Ok-office_of-clause-ok g c bytes stands =
    let d = g.D.Disk in
    let journal = c.in-Ok.journal in
    let kept = c.in-Ok-office_of.kept in
    let all = c.as_slice.result.now in
    let is : IsOpened journal all kept = c.in-Ok-office_of.ensures in
    let read = c.in-Ok.ensures.ok bytes stands in
    let image = subst (λ (bs : List (List ℕ)). Image bytes bs) (sym c.as_slice.ensures) read.0 in
    let keeps = subst (λ (bs : List (List ℕ)). Keeps d.seen d.crash journal bs None) (sym c.as_slice.ensures) read.1 in (
      is.file,
      is.history,
      image_then journal all kept is bytes image,
      holds_then d.seen d.crash journal all kept is keeps,
      subst (λ (j : Journal g.row.D.Denot d). d.seen (disk_of j) ≡ Some bytes) (sym is.same) (c.in-Ok.ensures.seen ∙ stands),
      subst (λ (j : Journal g.row.D.Denot d). Only (d.seen (disk_of j)) (d.crash (disk_of j)).may_leave) (sym is.same) read.2,
    )

pub returns-in-Ok-office_of-clause-legal : goal.returns-in-Ok-office_of-clause-legal
returns-in-Ok-office_of-clause-legal g c =
    let journal = c.in-Ok.journal in
    let kept = c.in-Ok-office_of.kept in
    let all = c.as_slice.result.now in
    let is : IsOpened journal all kept = c.in-Ok-office_of.ensures in
    let gate : gate_of journal ≡ length (records all) = c.in-Ok.ensures.gate.0 ∙ ap (λ (bs : List (List ℕ)). length (records bs)) (sym c.as_slice.ensures) in
    (is.file, is.history, has_then journal all kept is gate)
