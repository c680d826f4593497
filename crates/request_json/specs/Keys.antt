-- The keys of requests, and of the objects in them.
use Rattle.std.specs.Prelude.{ℕ, ◌&&◌, ◌||◌, Bool, true, List, if◌then◌else◌, Option, Some, None, codes}
use Rattle.std.specs.Str.{bytes_eq}
use Rattle.serde_json.specs.Data.{Members, no_members, member}
use Rattle.request_json.specs.declared.keys.Keys.{Keys}
use Rattle.request_json.specs.declared.keys.Keys.TheVariants as keys
use Rattle.request_json.specs.declared.keys.Verb.{Verb}
use Rattle.request_json.specs.declared.keys.Verb.TheVariants as verb

-- the value of `do`
abbrev pub verb_at : List ℕ → Option Verb
verb_at w =
    if bytes_eq w (codes "open") then Some verb.Open else
    if bytes_eq w (codes "issue") then Some verb.Issue else
    if bytes_eq w (codes "put") then Some verb.Put else
    if bytes_eq w (codes "end") then Some verb.End else
    if bytes_eq w (codes "restate") then Some verb.Restate else
    if bytes_eq w (codes "routine") then Some verb.Routine else
    if bytes_eq w (codes "drop") then Some verb.Drop else
    if bytes_eq w (codes "take") then Some verb.Take else
    if bytes_eq w (codes "discard") then Some verb.Discard else
    if bytes_eq w (codes "send") then Some verb.Send else
    if bytes_eq w (codes "correct") then Some verb.Correct else None

-- the keys of all requests
abbrev pub is_common : List ℕ → Bool
is_common key =
    bytes_eq key (codes "desk") || bytes_eq key (codes "seq") || bytes_eq key (codes "do")

-- the keys of all requests that put an event into zones
abbrev pub is_of_put : List ℕ → Bool
is_of_put key =
    bytes_eq key (codes "zones") || bytes_eq key (codes "begin") || bytes_eq key (codes "end")
    || bytes_eq key (codes "flood") || bytes_eq key (codes "texts")

-- the keys of an issue, apart from the common ones
abbrev pub is_of_issue : List ℕ → Bool
is_of_issue key = bytes_eq key (codes "hazard") || is_of_put key

-- the keys of a put into a draft, apart from the common ones
abbrev pub is_of_draft_put : List ℕ → Bool
is_of_draft_put key =
    bytes_eq key (codes "draft")
    || (bytes_eq key (codes "hazard") || (bytes_eq key (codes "event") || is_of_put key))

-- the keys of `end` and `restate`, apart from the common ones
abbrev pub is_of_event : List ℕ → Bool
is_of_event key =
    bytes_eq key (codes "draft")
    || (bytes_eq key (codes "event")
    || (bytes_eq key (codes "zones") || bytes_eq key (codes "texts")))

-- the keys of `routine`, apart from the common ones
abbrev pub is_of_routine : List ℕ → Bool
is_of_routine key =
    bytes_eq key (codes "draft")
    || (bytes_eq key (codes "hazard")
    || (bytes_eq key (codes "zones") || bytes_eq key (codes "texts")))

-- the keys of H-VTEC values
abbrev pub is_of_flood : List ℕ → Bool
is_of_flood key =
    bytes_eq key (codes "site") || bytes_eq key (codes "severity") || bytes_eq key (codes "cause")
    || bytes_eq key (codes "begin") || bytes_eq key (codes "crest") || bytes_eq key (codes "end")
    || bytes_eq key (codes "status")

-- the keys of texts
abbrev pub is_of_texts : List ℕ → Bool
is_of_texts key =
    bytes_eq key (codes "what") || bytes_eq key (codes "area") || bytes_eq key (codes "impacts")
    || bytes_eq key (codes "details")

unfoldable pub has_key : Keys → List ℕ → Bool
has_key keys.Open key = is_common key || bytes_eq key (codes "category")
has_key keys.Issue key = is_common key || is_of_issue key
has_key keys.Training key = bytes_eq key (codes "do") || is_of_issue key
has_key keys.Put key = is_common key || is_of_draft_put key
has_key keys.Event key = is_common key || is_of_event key
has_key keys.Routine key = is_common key || is_of_routine key
has_key keys.Drop key =
    is_common key || (bytes_eq key (codes "draft") || bytes_eq key (codes "place"))
has_key keys.Draft key = is_common key || bytes_eq key (codes "draft")
has_key keys.Correct key =
    is_common key || (bytes_eq key (codes "product") || bytes_eq key (codes "texts"))
has_key keys.Flood key = is_of_flood key
has_key keys.Texts key = is_of_texts key
has_key keys.EventTexts key = bytes_eq key (codes "event") || bytes_eq key (codes "texts")

-- the keys of a request with a verb
abbrev pub keys_of : Verb → Keys
keys_of verb.Open = keys.Open
keys_of verb.Issue = keys.Issue
keys_of verb.Put = keys.Put
keys_of verb.End = keys.Event
keys_of verb.Restate = keys.Event
keys_of verb.Routine = keys.Routine
keys_of verb.Drop = keys.Drop
keys_of verb.Take = keys.Draft
keys_of verb.Discard = keys.Draft
keys_of verb.Send = keys.Draft
keys_of verb.Correct = keys.Correct

abbrev pub all_known : Keys → Members → Bool
all_known ks no_members = true
all_known ks (member key d ms) = has_key ks key && all_known ks ms
