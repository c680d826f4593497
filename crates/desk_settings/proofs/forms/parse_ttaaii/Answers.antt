use Rattle.std.proofs.Common.{◌≡◌, Some, ap, sym, length, arith, rules, true}
use Rattle.desk_settings.specs.Forms.{is_heading}
use Rattle.desk_settings.proofs.ZoneCodes.{six_read}
use Rattle.desk_settings.proofs.forms.parse_ttaaii.Goals as goal

pub returns-then-is_heading : goal.returns-then-is_heading
returns-then-is_heading c =
    let six : length c.args.text.now ≡ 6 = omega arith in
    let test : is_heading c.args.text.now ≡ true = search rules in
    rw test (ap Some (sym (six_read c.args.text.now six)))
