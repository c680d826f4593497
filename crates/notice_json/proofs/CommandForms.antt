-- What is read has its form.
use Rattle.std.proofs.Common.{◌≡◌, ◌≤◌, ◌&&◌, ℕ, Bool, true, false, cond, List, nat_le, Option, Some, option_and_then, Result, Ok, Err, ap, subst, ◌∙◌, arith, codes}
use Rattle.std.specs.Option.{ok_or}
use Rattle.std.proofs.lemmas.Bool.Decides.{nat_tests}
use Rattle.std.proofs.lemmas.Option.{same_Some}
use Rattle.serde_json.specs.Data.{Data, Members}
use Rattle.serde_json.specs.Find.{get, as_number, as_object, as_u64}
use Rattle.hazard_types.specs.Calendar.{stamp_at}
use Rattle.hazard_types.specs.Given.{◌>>=◌}
use Rattle.hazard_types.specs.Places.{Place}
use Rattle.hazard_types.proofs.Inverting.{both, then_ok, ok_or_ok, and_then_some, if_some, stamp_fits}
use Rattle.json_parts.specs.Json.{json_of, given, text_at, zones_field}
use Rattle.json_parts.proofs.Zones.{zones_form}
use Rattle.notice_json.specs.Commands.{watch_at}
use Rattle.notice_json.specs.Form.{end_field, deed_field, command_in, told, command_of}
use Rattle.notice_json.specs.Formed.{IsMinute, HasEnd, HasForm}
use Rattle.notice_json.specs.Keys.{verb_at, all_known}
use Rattle.notice_json.specs.Values.{minute_at, if_counted, number_of}
use Rattle.notice_json.specs.declared.command.Command.{Command}
use Rattle.notice_json.specs.declared.command.Deed.{Deed}
use Rattle.notice_json.specs.declared.command.Deed.TheVariants as deed
use Rattle.notice_json.specs.declared.command.Watch.{Watch}
use Rattle.notice_json.specs.declared.refusal.NoticeRefusal.TheVariants.{NotJson}
use Rattle.notice_json.specs.declared.verb.Verb.{Verb}
use Rattle.notice_json.specs.declared.verb.Verb.TheVariants as verb

same_Ok : {X E : Type 0} (x y : X) → ◌≡◌ {A = Result X E} (Ok x) (Ok y) → x ≡ y
same_Ok x y h = cc

-- ---- fields

minute_form : (key : List ℕ) (d : Data) (m : ℕ) → given (minute_at key d) key ≡ Ok m → IsMinute m
minute_form key d m h =
    let a = and_then_some (text_at key d) stamp_at m (ok_or_ok (minute_at key d) key m h) in
    stamp_fits a.0 m a.2

least : (a b : ℕ) → nat_le a b ≡ true → a ≤ b
least a b h = grind (arith, nat_tests)

counted_form : (o : Option ℕ) (n : ℕ) → option_and_then if_counted o ≡ Some n → (1 ≤ n) × (n ≤ 9999)
counted_form o n h =
    let a = and_then_some o if_counted n h in
    let t = if_some (nat_le 1 a.0 && nat_le a.0 9999) (Some a.0) n a.2 in
    let p = both (nat_le 1 a.0) (nat_le a.0 9999) t.0 in
    let same : a.0 ≡ n = same_Some a.0 n t.1 in
    (subst (λ k. 1 ≤ k) same (least 1 a.0 p.0), subst (λ k. k ≤ 9999) same (least a.0 9999 p.1))

number_form : (d : Data) (n : ℕ) → given (number_of d) (codes "number") ≡ Ok n → (1 ≤ n) × (n ≤ 9999)
number_form d n h = counted_form (option_and_then as_u64 (option_and_then as_number (get (codes "number") d))) n (ok_or_ok (number_of d) (codes "number") n h)

deed_form : (v : Verb) (d : Data) (e : Deed) → deed_field v d ≡ Ok e → HasEnd e
deed_form verb.Open d e h =
    let a = then_ok (end_field d) (λ end. Ok (deed.Open end)) e h in
    subst HasEnd (same_Ok (deed.Open a.0) e a.2) (minute_form (codes "end") d a.0 a.1)
deed_form verb.Join d e h =
    let a = then_ok (end_field d) (λ end. Ok (deed.Join end)) e h in
    subst HasEnd (same_Ok (deed.Join a.0) e a.2) (minute_form (codes "end") d a.0 a.1)
deed_form verb.End d e h = subst HasEnd (same_Ok deed.End e h) tt

-- ---- commands whole

if_ok : {X E : Type 0} (t : Bool) (x : X) (e : E) (y : X) → ◌≡◌ {A = Result X E} (cond t (Ok x) (Err e)) (Ok y) → x ≡ y
if_ok true x e y h = same_Ok x y h
if_ok false x e y h = absurd (cc)

command_chain : (whole : Result Members (List ℕ)) (at : Result ℕ (List ℕ)) (does : Result Verb (List ℕ)) (watch : Result Watch (List ℕ)) (number : Result ℕ (List ℕ)) (zones : Result (List Place) (List ℕ)) (deeds : Verb → Result Deed (List ℕ)) (known : Verb → Members → Bool) (e : List ℕ) (c : Command)
    → (whole >>= λ ms. at >>= λ minute. does >>= λ v. watch >>= λ watch. number >>= λ number. zones >>= λ zones. deeds v >>= λ deed. cond (known v ms) (Ok (record { at = minute; deed = deed; watch = watch; number = number; zones = zones })) (Err e)) ≡ Ok c
    → (at ≡ Ok c.at) × (number ≡ Ok c.number) × (zones ≡ Ok c.zones) × ((v : Verb) × (deeds v ≡ Ok c.deed))
command_chain (Err o) at does watch number zones deeds known e c h = absurd (cc)
command_chain (Ok ms) (Err o) does watch number zones deeds known e c h = absurd (cc)
command_chain (Ok ms) (Ok a) (Err o) watch number zones deeds known e c h = absurd (cc)
command_chain (Ok ms) (Ok a) (Ok v) (Err o) number zones deeds known e c h = absurd (cc)
command_chain (Ok ms) (Ok a) (Ok v) (Ok w) (Err o) zones deeds known e c h = absurd (cc)
command_chain (Ok ms) (Ok a) (Ok v) (Ok w) (Ok n) (Err o) deeds known e c h = absurd (cc)
command_chain (Ok ms) (Ok a) (Ok v) (Ok w) (Ok n) (Ok zs) deeds known e c h =
    let r = then_ok (deeds v) (λ deed. cond (known v ms) (Ok (record { at = a; deed = deed; watch = w; number = n; zones = zs })) (Err e)) c h in
    let made : Command = record { at = a; deed = r.0; watch = w; number = n; zones = zs } in
    let same : made ≡ c = if_ok (known v ms) made e c r.2 in
    (ap (λ (x : Command). Ok x.at) same, ap (λ (x : Command). Ok x.number) same, ap (λ (x : Command). Ok x.zones) same, (v, r.1 ∙ ap (λ (x : Command). Ok x.deed) same))

-- a command that is read of a value has the form
pub command_form : (d : Data) (c : Command) → command_in d ≡ Ok c → HasForm c
unfolding command_in
command_form d c h =
    let verbs = given (option_and_then verb_at (text_at (codes "do") d)) (codes "do") in
    let watches = given (option_and_then watch_at (text_at (codes "hazard") d)) (codes "hazard") in
    let a = command_chain (given (as_object d) (codes ".")) (given (minute_at (codes "at") d) (codes "at")) verbs watches (given (number_of d) (codes "number")) (zones_field d) (λ v. deed_field v d) all_known (codes "?") c h in
    let n = number_form d c.number a.1 in
    record { at = minute_form (codes "at") d c.at a.0; deed = deed_form a.3.0 d c.deed a.3.1; first_number = n.0; last_number = n.1; zones = zones_form d c.zones a.2 }

told_ok : {X : Type 0} (r : Result X (List ℕ)) (x : X) → told r ≡ Ok x → r ≡ Ok x
told_ok (Ok y) x h = cc
told_ok (Err field) x h = absurd (cc)

-- a command that bytes ask has the form
pub commands_have_form : (bytes : List ℕ) (c : Command) → command_of bytes ≡ Ok c → HasForm c
unfolding command_of
commands_have_form bytes c h = let a = then_ok (ok_or (json_of bytes) NotJson) (λ d. told (command_in d)) c h in command_form a.0 c (told_ok (command_in a.0) c a.2)
