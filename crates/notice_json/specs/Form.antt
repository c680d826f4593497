-- Which lines are commands, and what they ask. The first field that is missing or wrong is told, and an unknown key last.
use Rattle.std.specs.Prelude.{ℕ, List, if◌then◌else◌, option_and_then, codes, Result, Ok, Err}
use Rattle.std.specs.Option.{ok_or}
use Rattle.serde_json.specs.Data.{Data}
use Rattle.serde_json.specs.Find.{as_object}
use Rattle.hazard_types.specs.Given.{◌>>=◌}
use Rattle.json_parts.specs.Json.{json_of, given, text_at, zones_field}
use Rattle.notice_json.specs.Commands.{watch_at}
use Rattle.notice_json.specs.Keys.{verb_at, all_known}
use Rattle.notice_json.specs.Values.{minute_at, number_of}
use Rattle.notice_json.specs.declared.command.Command.{Command}
use Rattle.notice_json.specs.declared.command.Deed.{Deed}
use Rattle.notice_json.specs.declared.command.Deed.TheVariants as deed
use Rattle.notice_json.specs.declared.refusal.NoticeRefusal.{NoticeRefusal}
use Rattle.notice_json.specs.declared.refusal.NoticeRefusal.TheVariants.{NotJson, WrongShape}
use Rattle.notice_json.specs.declared.verb.Verb.{Verb}
use Rattle.notice_json.specs.declared.verb.Verb.TheVariants as verb

abbrev pub end_field : Data → Result ℕ (List ℕ)
end_field d = given (minute_at (codes "end") d) (codes "end")

-- what is done, with the end of a watch that is opened or joined
abbrev pub deed_field : Verb → Data → Result Deed (List ℕ)
deed_field verb.Open d = end_field d >>= λ end. Ok (deed.Open end)
deed_field verb.Join d = end_field d >>= λ end. Ok (deed.Join end)
deed_field verb.End d = Ok deed.End

-- a command whole: its fields in their order, and no other keys are there; else the name of the first that is missing or wrong
unfoldable pub command_in : Data → Result Command (List ℕ)
command_in d =
    given (as_object d) (codes ".") >>= λ ms.
    given (minute_at (codes "at") d) (codes "at") >>= λ minute.
    given (option_and_then verb_at (text_at (codes "do") d)) (codes "do") >>= λ v.
    given (option_and_then watch_at (text_at (codes "hazard") d)) (codes "hazard") >>= λ watch.
    given (number_of d) (codes "number") >>= λ number.
    zones_field d >>= λ zones.
    deed_field v d >>= λ deed.
    if all_known v ms then Ok (record { at = minute; deed = deed; watch = watch; number = number; zones = zones }) else Err (codes "?")

-- the name of a field is told as that of a wrong one
abbrev pub told : {X : Type 0} → Result X (List ℕ) → Result X NoticeRefusal
told (Ok x) = Ok x
told (Err field) = Err (WrongShape field)

-- what the bytes of a line ask, or the first fault
unfoldable pub command_of : List ℕ → Result Command NoticeRefusal
command_of bytes = ok_or (json_of bytes) NotJson >>= λ d. told (command_in d)
