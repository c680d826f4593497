-- The requests of a drill, one after another.
use Rattle.std.specs.Prelude.{ℕ, zero, suc, ◌+◌, ◌*◌, ◌%◌, ◌==◌, List, [], ◌∷◌, map, nat_lt, if◌then◌else◌, None, codes}
use Rattle.std.specs.List.{range_with_len}
use Rattle.hazard_types.specs.Places.{Place}
use Rattle.hazard_types.specs.declared.hazard.Hazard.{Hazard}
use Rattle.hazard_types.specs.declared.hazard.Sig.TheVariants as sig
use Rattle.hazard_types.specs.declared.period.Begin.TheVariants as begin
use Rattle.hazard_types.specs.declared.period.End.TheVariants as end
use Rattle.office_types.specs.declared.request.PutPart.{PutPart}
use Rattle.office_types.specs.declared.request.Target.TheVariants.{Fresh}
use Rattle.hazard_types.specs.declared.zone.Kind.TheVariants as kind
use Rattle.action_planner.specs.Texts.{no_texts}
use Rattle.desk_drill.specs.Draws.{drawn, next_draw}

-- the letters of zone i
abbrev pub letters_at : ℕ → List ℕ
letters_at i = if nat_lt i 999 then codes "AA" else if nat_lt i 1998 then codes "AB" else codes "AC"

-- zone i, from AAZ001 on
abbrev pub zone_at : ℕ → Place
zone_at i = record { state = letters_at i; kind = kind.Z; number = i % 999 + 1 }

-- so many zones from zone i on
unfoldable pub zones_from : ℕ → ℕ → List Place
zones_from i count = map zone_at (range_with_len i count)

-- the four desks, by their places from 0
abbrev pub desk_at : ℕ → List ℕ
desk_at place = if place == 0 then codes "D1" else if place == 1 then codes "D2" else if place == 2 then codes "D3" else codes "D4"

-- the five hazards, by their places from 0
abbrev pub hazard_at : ℕ → Hazard
hazard_at place =
    if place == 0 then record { phen = codes "WS"; sig = sig.W }
    else if place == 1 then record { phen = codes "WW"; sig = sig.Y }
    else if place == 2 then record { phen = codes "HW"; sig = sig.W }
    else if place == 3 then record { phen = codes "WI"; sig = sig.Y }
    else record { phen = codes "FG"; sig = sig.Y }

-- the minute of request i: every five minutes from 180101T0000Z on
abbrev pub minute_at : ℕ → ℕ
minute_at i = 9468000 + 5 * i

-- by what was drawn first and then, at a minute: a hazard in six zones, from now on for 240 minutes, without texts
abbrev pub part_of : ℕ → ℕ → ℕ → PutPart
part_of a b t = record {
  target = Fresh (hazard_at (a % 5));
  zones = zones_from (b % 1995) 6;
  begin = begin.Now;
  end = end.At (t + 240);
  flood = None;
  texts = no_texts;
}

-- an issue of a desk, and the reading of the clock at which it comes
pub record Issued : Type 0 where
  pub desk : List ℕ
  pub part : PutPart
  pub minute : ℕ

-- request i, where this is the state of the draws before it
abbrev pub request_at : ℕ → ℕ → Issued
request_at i x = record {
  desk = desk_at (i % 4);
  part = part_of (drawn (next_draw x)) (drawn (next_draw (next_draw x))) (minute_at i);
  minute = minute_at i;
}

-- so many requests from request i on
abbrev pub requests_from : ℕ → ℕ → ℕ → List Issued
requests_from i x zero = []
requests_from i x (suc count) = request_at i x ∷ requests_from (i + 1) (next_draw (next_draw x)) count

-- the requests of a drill
abbrev pub requests : ℕ → ℕ → List Issued
requests number count = requests_from 0 number count
