-- What lines do, and their keys.
use Rattle.std.specs.Prelude.{ℕ, ◌&&◌, ◌||◌, Bool, true, List, if◌then◌else◌, Option, Some, None, codes}
use Rattle.std.specs.Str.{bytes_eq}
use Rattle.serde_json.specs.Data.{Members, no_members, member}
use Rattle.notice_json.specs.declared.verb.Verb.{Verb}
use Rattle.notice_json.specs.declared.verb.Verb.TheVariants as verb

-- what a line does, as it is written
abbrev pub verb_at : List ℕ → Option Verb
verb_at w =
    if bytes_eq w (codes "open") then Some verb.Open else
    if bytes_eq w (codes "join") then Some verb.Join else
    if bytes_eq w (codes "end") then Some verb.End else None

-- the keys of all lines
abbrev pub is_common : List ℕ → Bool
is_common key = bytes_eq key (codes "at") || bytes_eq key (codes "do") || bytes_eq key (codes "hazard") || bytes_eq key (codes "number") || bytes_eq key (codes "zones")

-- those of a line: an end is given where a watch is opened or joined
abbrev pub has_key : Verb → List ℕ → Bool
has_key verb.Open key = is_common key || bytes_eq key (codes "end")
has_key verb.Join key = is_common key || bytes_eq key (codes "end")
has_key verb.End key = is_common key

abbrev pub all_known : Verb → Members → Bool
all_known v no_members = true
all_known v (member key d ms) = has_key v key && all_known v ms
