use Rattle.std.proofs.Common.{◌≡◌, ◌≢◌, ℕ, List, ◌∷◌, Option, None, Ok, sym, ◌∙◌, ap, subst}
use Rattle.desk_settings.specs.Reading.{settings_of}
use Rattle.desk_settings.specs.declared.settings.Settings.{Settings}
use Rattle.office_journal.specs.Damage.{FailsAt}
use Rattle.office_journal.specs.Replaying.{Begins}
use Rattle.office_journal.specs.declared.replay.Replayed.{Replayed}
use Rattle.office_journal.proofs.Replays.{no_settings}
use Rattle.office_journal.proofs.replay.replay.Goals as goal

pub returns-in-None : goal.returns-in-None
returns-in-None c =
    let file = c.as_slice.result.now in
    let begins : Begins file None = subst (λ (found : Option Replayed). Begins file found) c.in-None.is c.in_ok-first.ensures in
    let none : (settings : Settings) → settings_of file ≢ Ok settings = begins in
    let whole : c.args.all.now ≡ file ∷ c.in-Some.others.now = c.in-Some.ensures.cases.0 ∙ ap (λ (b : List ℕ). b ∷ c.in-Some.others.now) (sym c.as_slice.ensures) in
    subst (λ (l : List (List ℕ)). FailsAt l 0) (sym whole) (no_settings file c.in-Some.others.now none)
