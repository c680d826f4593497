-- What is kept of a desk is told at its place.
use Rattle.std.proofs.Common.{◌≡◌, ◌∙◌, ℕ, Bool, List, [], ◌∷◌, set, get_or, Some, None, if◌then◌else◌, refl, ap}
use Rattle.std.specs.List.{position}
use Rattle.std.specs.Str.{bytes_eq}
use Rattle.office_core.specs.Step.{heard_after}
use Rattle.office_core.specs.declared.heard.DeskRecord.{DeskRecord}
use Rattle.office_core.specs.declared.heard.LastRequest.{LastRequest}
use Rattle.office_core.proofs.UpdateLemmas.{updated, updated_at, updated_none}

abbrev is_of : List ℕ → DeskRecord → Bool
is_of desk h = bytes_eq h.desk desk

abbrev said_now : LastRequest → DeskRecord → DeskRecord
said_now said h = record { desk = h.desk; said = Some said }

as_updated : (desk : List ℕ) (said : LastRequest) (hs : List DeskRecord) → updated (is_of desk) (said_now said) hs ≡ heard_after hs desk said
as_updated desk said [] = refl
as_updated desk said (h ∷ hs) = ap (λ (rest : List DeskRecord). if bytes_eq h.desk desk then said_now said h ∷ hs else (h ∷ rest)) (as_updated desk said hs)

-- at the place of the desk its last request becomes another
pub heard_at : (desk : List ℕ) (said : LastRequest) (hs : List DeskRecord) (i : ℕ) (y : DeskRecord) → position (λ (h : DeskRecord). bytes_eq h.desk desk) hs ≡ Some i → y ≡ get_or hs i y → set hs i (record { desk = y.desk; said = Some said }) ≡ heard_after hs desk said
heard_at desk said hs i y e is = updated_at (is_of desk) (said_now said) hs i y e is ∙ as_updated desk said hs

-- without the desk all stays
pub heard_none : (desk : List ℕ) (said : LastRequest) (hs : List DeskRecord) → position (λ (h : DeskRecord). bytes_eq h.desk desk) hs ≡ None → hs ≡ heard_after hs desk said
heard_none desk said hs e = updated_none (is_of desk) (said_now said) hs e ∙ as_updated desk said hs
