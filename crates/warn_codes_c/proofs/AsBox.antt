-- The handle and the loose box own what a box at the same types owns.
use mathlib.Core.List.{[]}
use mir.Syntax.{impl, tnil, dnil}
use denote.Signature.{Slot, plain}
use Rattle.std_alloc.proofs.BoxSteps.Form.{Bx}
use Rattle.std.specs.contracts.alloc.Global as heap
use Rattle.std.specs.contracts.impls.GlobalAllocator.TheImpl.{ghosts, dict}
use Rattle.std.proofs.alloc.Global.TheLaws as heap_laws
use Rattle.warn_codes_c.specs.contracts.loose.Loose as loose
use Rattle.warn_codes_c.specs.contracts.archive.Archive as archive
use Rattle.warn_codes_c.proofs.archive.Archive.TheLaws as archive_laws
use Rattle.warn_codes_c.specs.contracts.handle.Handle as handle

abbrev pub E : Bx
E = record { row = archive.the_row; laws = archive_laws.the_row_laws; al = record { row = heap.the_row; laws = heap_laws.the_row_laws; g = ghosts; d = dict; drops = impl [] tnil dnil } }

abbrev pub FromLoose : Slot 0
FromLoose = plain (λ _. loose.the_row archive.the_row heap.the_row ghosts)

abbrev pub FromHandle : Slot 0
FromHandle = plain (λ _. handle.the_row)
