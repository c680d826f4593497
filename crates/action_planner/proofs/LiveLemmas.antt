-- What looks at live rows alone finds the same among rows of which the same are live.
use Rattle.std.proofs.Common.{◌≡◌, ◌∙◌, ◌&&◌, ℕ, List, Bool, true, sym, ap, filter}
use Rattle.std.specs.List.{list_any}
use Rattle.std.proofs.lemmas.Map.Views.{any-filter_same}
use Rattle.std.proofs.lemmas.Bool.{and_parts}
use Rattle.hazard_types.specs.Places.{Place}
use Rattle.hazard_types.specs.Same.{same_zone}
use Rattle.hazard_types.specs.declared.codes.Category.{Category}
use Rattle.hazard_types.specs.declared.line.Row.{Row}
use Rattle.event_life.specs.Periods.{is_live}
use Rattle.event_life.specs.Higher.{outranks}
use Rattle.event_life.specs.Shown.{shown_at}
use Rattle.hazard_board.specs.Board.{slice_of, live_in}
use Rattle.hazard_board.proofs.LiveLemmas.{filter_within}
use Rattle.hazard_board.proofs.Places.{live_in_zone}
use Rattle.action_planner.specs.Lines.{goes_on, is_continued, overlays, is_left}
use Rattle.action_planner.specs.Placed.{Placed}

pub beside_live : (c : Category) (t : ℕ) (ps : List Placed) (z : Place) (rows some : List Row) → shown_at t some ≡ live_in z t rows →
    filter (is_continued c t ps) some ≡ filter (is_continued c t ps) (slice_of z rows)
beside_live c t ps z rows some alike =
    let live : (r : Row) → is_continued c t ps r ≡ true → is_live t r ≡ true = λ r h. (and_parts (is_live t r) (goes_on c ps r) h).0 in
    sym (filter_within (is_live t) (is_continued c t ps) some live)
    ∙ ap (filter (is_continued c t ps)) (alike ∙ sym (live_in_zone z t rows))
    ∙ filter_within (is_live t) (is_continued c t ps) (slice_of z rows) live

overlays_live : (t : ℕ) (row r : Row) → overlays t row r ≡ true → is_live t r ≡ true
overlays_live t row r h =
    let p = and_parts (same_zone r.zone row.zone && is_live t r && outranks r.event.hazard row.event.hazard) _ h in
    let q = and_parts (same_zone r.zone row.zone && is_live t r) _ p.0 in
    (and_parts (same_zone r.zone row.zone) _ q.0).1

pub overlaid_live : (t : ℕ) (ps : List Placed) (row : Row) (rows some : List Row) → shown_at t some ≡ live_in row.zone t rows →
    list_any (λ (r : Row). overlays t row r && is_left ps r) some ≡ list_any (λ (r : Row). overlays t row r && is_left ps r) (slice_of row.zone rows)
overlaid_live t ps row rows some alike =
    let q : Row → Bool = λ r. overlays t row r && is_left ps r in
    let live : (r : Row) → q r ≡ true → is_live t r ≡ true = λ r h. overlays_live t row r (and_parts (overlays t row r) (is_left ps r) h).0 in
    sym (any-filter_same q (is_live t) true live some)
    ∙ ap (list_any q) (alike ∙ sym (live_in_zone row.zone t rows))
    ∙ any-filter_same q (is_live t) true live (slice_of row.zone rows)
