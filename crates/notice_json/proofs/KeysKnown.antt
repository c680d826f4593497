-- The keys of a map are those of its members.
use Rattle.std.proofs.Common.{◌≡◌, ◌&&◌, List, [], ◌∷◌, refl, ap, String, Global, string_bytes}
use Rattle.std.specs.List.{list_all}
use Rattle.std.specs.Map.{keys_of}
use Rattle.serde_json.specs.View.{members_view}
use Rattle.serde_json.proofs.Views.{Entry}
use Rattle.notice_json.specs.Keys.{has_key, all_known}
use Rattle.notice_json.specs.declared.verb.Verb.{Verb}

pub known_of : (v : Verb) (es : List Entry) → list_all (λ (k : String Global). has_key v (string_bytes k)) (keys_of es) ≡ all_known v (members_view es)
known_of v [] = refl
known_of v (e ∷ es) = ap (λ b. has_key v (string_bytes e.0) && b) (known_of v es)
