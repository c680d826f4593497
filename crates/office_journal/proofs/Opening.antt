-- The office that was opened holds the history of its journal.
use Rattle.std.proofs.Common.{ℕ, List, Option, None, ◌≡◌, length, sym, ◌∙◌, ap, subst}
use Rattle.desk_traits.specs.Crash.{Crashes}
use Rattle.journal_core.specs.Image.{Image, records}
use Rattle.journal_core.specs.Kept.{Keeps, gate_of}
use Rattle.journal_core.specs.declared.journal.Journal.{Journal}
use Rattle.office_journal.specs.Adopting.{IsOpened}
use Rattle.office_journal.specs.Histories.{ImageOf, bodies}
use Rattle.office_journal.specs.Kept.{HasHistory, Holds}
use Rattle.office_journal.specs.declared.kept.KeptOffice.{KeptOffice}

pub holds_then : {D : Type 0} {d : _} (seen : D → Option (List ℕ)) (crash : D → Crashes) (journal : Journal D d) (all : List (List ℕ)) (kept : KeptOffice D d) (is : IsOpened journal all kept)
    → Keeps seen crash journal all None → Holds seen crash kept is.file is.history None
holds_then {D} {d} seen crash journal all kept is keeps = record {
  journal = subst (λ (j : Journal D d). Keeps seen crash j (bodies is.file is.history) None) (sym is.same)
      (subst (λ (bs : List (List ℕ)). Keeps seen crash journal bs None) is.are keeps);
  history = is.state;
  entries = is.entries;
  change = tt;
}

pub image_then : {D : Type 0} {d : _} (journal : Journal D d) (all : List (List ℕ)) (kept : KeptOffice D d) (is : IsOpened journal all kept) (bytes : List ℕ) → Image bytes all → ImageOf bytes is.file is.history
image_then journal all kept is bytes image = record { state = kept.office.state; history = is.state; image = subst (Image bytes) is.are image }

pub has_then : {D : Type 0} {d : _} (journal : Journal D d) (all : List (List ℕ)) (kept : KeptOffice D d) (is : IsOpened journal all kept) → gate_of journal ≡ length (records all) → HasHistory kept is.file is.history
has_then {D} {d} journal all kept is gate = record {
  history = is.state;
  entries = is.entries;
  gate = ap (λ (j : Journal D d). gate_of j) is.same ∙ gate ∙ ap (λ (bs : List (List ℕ)). length (records bs)) is.are;
}
