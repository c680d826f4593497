-- A row or an event at its seat, and the rows where each that has a UPG line has ended.
use Rattle.std.proofs.Common.{◌≡◌, ◌∙◌, ◌&&◌, ◌||◌, ℕ, suc, ◌<◌, Bool, true, false, List, [], ◌∷◌, ◌++◌, Equal, length, get_or, take, drop, slice_set, map, cond, refl, sym, ap, subst, drop-cons}
use Rattle.std.proofs.lemmas.List.{set_split}
use Rattle.std.specs.List.{list_any}
use Rattle.hazard_types.specs.declared.line.Line.{Line}
use Rattle.hazard_types.specs.declared.line.Row.{Row}
use Rattle.event_life.specs.Products.{by_key, put, is_upgrade, concerns, end_upgraded}
use Rattle.event_life.specs.Seats.{end_if_upgraded}

-- the row takes the place of one with its zone and event
pub tied_seat : (row : Row) (rows : List Row) (i : ℕ) (other : Row) → i < length rows → other ≡ get_or rows i other → by_key row other ≡ Equal → take i rows ++ put row (drop i rows) ≡ put row rows → slice_set rows i row ≡ put row rows
tied_seat row rows i other within is tied left =
    let here : by_key row (get_or rows i other) ≡ Equal = subst (λ (r : Row). by_key row r ≡ Equal) is tied in
    let behind : put row (drop i rows) ≡ row ∷ drop (suc i) rows = rw (drop-cons rows i other within, here) refl in
    set_split rows i row within ∙ sym (ap (λ (after : List Row). take i rows ++ after) behind) ∙ left

with_end : (b : Bool) (r : Row) → cond b (record { event = r.event; zone = r.zone; period = r.period; flood = r.flood; ended = true }) r ≡ record { event = r.event; zone = r.zone; period = r.period; flood = r.flood; ended = b || r.ended }
with_end true r = refl
with_end false r = refl

pub end_upgraded_map : (lines : List Line) (rows : List Row) → end_upgraded lines rows ≡ map (end_if_upgraded lines) rows
end_upgraded_map lines [] = refl
end_upgraded_map lines (r ∷ rows) =
    let upgraded = list_any (λ (line : Line). is_upgrade line.action && concerns r.event r.zone line) lines in
    ap (λ (after : List Row). cond upgraded (record { event = r.event; zone = r.zone; period = r.period; flood = r.flood; ended = true }) r ∷ after) (end_upgraded_map lines rows)
    ∙ ap (λ (after : Row). after ∷ map (end_if_upgraded lines) rows) (with_end upgraded r)
