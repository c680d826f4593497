-- Each refusal has a status of the desk.
use Rattle.std.proofs.Common.{refl}
use Rattle.std.specs.Prelude.{IsTrue}
use Rattle.office_types.specs.Refusals.{label}
use Rattle.office_types.specs.declared.refusal.Refusal.{Refusal}
use Rattle.office_types.specs.declared.refusal.Refusal.TheVariants as refusal
use Rattle.warn_http.specs.Answers.{is_status, status_of}

pub refusals_have_statuses : (r : Refusal) → IsTrue (is_status (status_of r))
unfolding is_status label
refusals_have_statuses refusal.BadHead = refl
refusals_have_statuses refusal.HeadTooLong = refl
refusals_have_statuses refusal.NoRoute = refl
refusals_have_statuses refusal.WrongMethod = refl
refusals_have_statuses refusal.NoLength = refl
refusals_have_statuses refusal.BodyTooLong = refl
refusals_have_statuses refusal.LineTooLong = refl
refusals_have_statuses refusal.NotJson = refl
refusals_have_statuses (refusal.WrongShape field) = refl
refusals_have_statuses refusal.UnknownDesk = refl
refusals_have_statuses (refusal.Reused last) = refl
refusals_have_statuses (refusal.Stale last) = refl
refusals_have_statuses (refusal.Gap last) = refl
refusals_have_statuses (refusal.ClockOut minute) = refl
refusals_have_statuses refusal.NoDraft = refl
refusals_have_statuses (refusal.NotOwner owner) = refl
refusals_have_statuses (refusal.StillActive free_at) = refl
refusals_have_statuses refusal.DraftsFull = refl
refusals_have_statuses refusal.IntentsFull = refl
refusals_have_statuses (refusal.NoIntent place) = refl
refusals_have_statuses (refusal.UnknownZone zone) = refl
refusals_have_statuses refusal.UnknownHazard = refl
refusals_have_statuses (refusal.WrongZoneKind zone) = refl
refusals_have_statuses refusal.WrongCategory = refl
refusals_have_statuses (refusal.BadText field at) = refl
refusals_have_statuses (refusal.TextTooLong field) = refl
refusals_have_statuses refusal.BadZoneList = refl
refusals_have_statuses refusal.NoProduct = refl
refusals_have_statuses refusal.EmptyDraft = refl
refusals_have_statuses (refusal.NoEvent event) = refl
refusals_have_statuses (refusal.NotLive event zone) = refl
refusals_have_statuses (refusal.LeftBefore event zone) = refl
refusals_have_statuses (refusal.Twice event zone) = refl
refusals_have_statuses (refusal.BadPeriod place) = refl
refusals_have_statuses (refusal.BegunMoved event zone) = refl
refusals_have_statuses (refusal.NoOpenEnd place) = refl
refusals_have_statuses (refusal.FloodNeeded place) = refl
refusals_have_statuses (refusal.FloodBarred place) = refl
refusals_have_statuses (refusal.SiteMoved event) = refl
refusals_have_statuses (refusal.Conflict zone first second) = refl
refusals_have_statuses (refusal.NumberHeld event) = refl
refusals_have_statuses (refusal.NumbersSpent hazard) = refl
refusals_have_statuses (refusal.NotLast last) = refl
refusals_have_statuses refusal.NothingToCorrect = refl
refusals_have_statuses refusal.LettersSpent = refl
refusals_have_statuses (refusal.TooManyLines lines) = refl
refusals_have_statuses (refusal.TooLong bytes) = refl
refusals_have_statuses refusal.ProductsFull = refl
refusals_have_statuses refusal.JournalFull = refl
