use Rattle.std.proofs.Common.{◌<◌, length, sym, subst, rules}
use Rattle.std.proofs.lemmas.List.Sorted.{answers_always}
use Rattle.desk_settings.proofs.ZoneOrder.{Pair}
use Rattle.desk_settings.proofs.LookUps.{Stands, name_found, searched, missed}
use Rattle.desk_settings.proofs.settings.Settings.zone_name.Goals as goal

pub returns-in-Ok-clause-value : goal.returns-in-Ok-clause-value
returns-in-Ok-clause-value c =
    let zones = c.args.self.now.zones in
    let found = rw c.as_slice.ensures at (c.in-Ok.ensures.position (λ (p : Pair). p.0) (answers_always _ _ _ (λ f a r g called. search rules))) in
    let within : c.in-Ok.place < length zones = rw c.as_slice.ensures at c.in-Ok.ensures.bound in
    rw c.as_slice-in-Ok.ensures (sym (searched c.args.zone.now zones c.in-Ok.place c.index-as_slice-place.result c.requires within found))

pub returns-in-Ok-clause-stands : goal.returns-in-Ok-clause-stands
returns-in-Ok-clause-stands c = subst (Stands c.args.self.now.zones c.args.zone.now) (sym (returns-in-Ok-clause-value c)) (name_found c.args.zone.now c.args.self.now.zones)

pub returns-in-Err-clause-value : goal.returns-in-Err-clause-value
returns-in-Err-clause-value c =
    let zones = c.args.self.now.zones in
    let parted = rw c.as_slice.ensures at (c.in-Err.ensures.position (λ (p : Pair). p.0) (answers_always _ _ _ (λ f a r g called. search rules))) in
    sym (missed c.args.zone.now zones c.in-Err.field-0 c.requires parted)

pub returns-in-Err-clause-stands : goal.returns-in-Err-clause-stands
returns-in-Err-clause-stands c = subst (Stands c.args.self.now.zones c.args.zone.now) (sym (returns-in-Err-clause-value c)) (name_found c.args.zone.now c.args.self.now.zones)
