-- What the head of a call wants, or the rule from F3 on that refuses it (F1 where its Content-Length is wrong).
use Rattle.std.specs.Prelude.{ℕ, Bool, true, false, List, codes, Option, Some, None, Result, Ok, Err, if◌then◌else◌}
use Rattle.std.specs.Str.{bytes_eq}
use Rattle.httparse.specs.Grammar.{RequestHead}
use Rattle.office_types.specs.declared.refusal.Refusal.{Refusal}
use Rattle.office_types.specs.declared.refusal.Refusal.TheVariants.{BadHead, NoRoute, WrongMethod, NoLength, BodyTooLong}
use Rattle.http_heads.specs.Fields.{Pair, has_field}
use Rattle.warn_http.specs.Heads.{fields_of, stated, closes}
use Rattle.warn_http.specs.Routes.{aim_of, method_of}
use Rattle.warn_http.specs.declared.fields.Stated.{Stated}
use Rattle.warn_http.specs.declared.fields.Stated.TheVariants.{Absent, Bytes, TooLong, Wrong}
use Rattle.warn_http.specs.declared.routes.Aim.{Aim}
use Rattle.warn_http.specs.declared.routes.Aim.TheVariants.{Post, Look}
use Rattle.warn_http.specs.declared.wants.Wanted.{Wanted}

abbrev pub wanting : Aim → ℕ → Bool → Wanted
wanting aim body last = record { aim = aim; body = body; last = last }

-- a POST states its length; a body of more than 65,536 bytes is refused
abbrev pub sized : Stated → Aim → Bool → Result Wanted Refusal
sized Absent Post last = Err NoLength
sized Absent (Look query) last = Ok (wanting (Look query) 0 last)
sized (Bytes n) aim last = Ok (wanting aim n last)
sized TooLong aim last = Err BodyTooLong
sized Wrong aim last = Err BadHead

-- a call with Transfer-Encoding is refused
abbrev pub framed : Bool → Stated → Aim → Bool → Result Wanted Refusal
framed true length aim last = Err NoLength
framed false length aim last = sized length aim last

abbrev pub with_method : List ℕ → Bool → Stated → Option Aim → Bool → Result Wanted Refusal
with_method method encoded length None last = Err NoRoute
with_method method encoded length (Some aim) last =
    if bytes_eq method (method_of aim) then framed encoded length aim last else Err WrongMethod

-- a wrong Content-Length comes before all else
abbrev pub judged : List ℕ → Bool → Stated → Option Aim → Bool → Result Wanted Refusal
judged method encoded Wrong aim last = Err BadHead
judged method encoded Absent aim last = with_method method encoded Absent aim last
judged method encoded (Bytes n) aim last = with_method method encoded (Bytes n) aim last
judged method encoded TooLong aim last = with_method method encoded TooLong aim last

-- what method, target, version and fields want
unfoldable pub wanted : List ℕ → List ℕ → ℕ → List Pair → Result Wanted Refusal
wanted method target minor pairs =
    judged method (has_field (codes "transfer-encoding") pairs) (stated pairs) (aim_of target) (closes minor pairs)

abbrev pub wanted_by : RequestHead → Result Wanted Refusal
wanted_by h = wanted h.method h.target h.minor (fields_of h)
