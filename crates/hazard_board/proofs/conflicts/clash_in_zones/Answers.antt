-- Each zone gives its first clash, and the earliest zone with one decides.
use Rattle.std.proofs.Common.{◌≡◌, ◌∙◌, ◌+◌, not, Bool, true, false, refl, take_all, List, Option, Result, Ok, Err, IfOk, sym, subst, ap, take, rules}
use Rattle.std.specs.BTreeMap.{is_at}
use Rattle.std.specs.List.{list_any}
use Rattle.hazard_types.specs.Places.{Place, by_place}
use Rattle.hazard_types.specs.declared.line.Clash.{Clash}
use Rattle.hazard_types.specs.declared.line.Line.{Line}
use Rattle.hazard_types.specs.declared.list.Oom.{Oom}
use Rattle.hazard_types.proofs.OrderLaws.{by_place_total, by_place_ties}
use Rattle.hazard_board.specs.Board.{slice_of}
use Rattle.hazard_board.specs.ByZone.{LinesByZone, lines_at}
use Rattle.hazard_board.specs.Clashes.{first_clash}
use Rattle.hazard_board.specs.Taken.{rows_taken}
use Rattle.hazard_board.proofs.ByZoneLemmas.{lines_found}
use Rattle.event_life.proofs.Keyed.{has_after}
use Rattle.hazard_board.proofs.QuietRows.{quiet_elsewhere}
use Rattle.hazard_board.proofs.SliceLemmas.{names_zone}
use Rattle.hazard_board.proofs.Turns.{rows_taken-sorted}
use Rattle.hazard_board.proofs.ZoneClashes.{IsFirstIn, first_still, first_new, first_in_all, seen_more, all_own, only_first}
use Rattle.hazard_board.proofs.conflicts.clash_in_zones.Goals as goal
use Rattle.hazard_board.proofs.conflicts.clash_in_zones.Goals.{then-branch+in_ok-found, else-branch}

pub clash_in-requires-then-branch-clause-own : goal.clash_in-requires-then-branch-clause-own
clash_in-requires-then-branch-clause-own c =
    c.lines_in-own.ensures
    ∙ ap (λ (zones : LinesByZone). lines_at zones c.line-item.result.zone) c.in_ok-zones.ensures
    ∙ lines_found c.args.lines.now c.line-item.result.zone

pub clash_in-requires-clause-own : goal.clash_in-requires-clause-own
clash_in-requires-clause-own c = all_own c.in-Some.zone c.args.lines.now (search rules)

-- where all lines are of one zone, its first clash is that of all rows
by_one : (P : Option Clash → Type 0) (Q : Option Clash → Type 0) (r : Result (Option Clash) Oom) → ((found : Option Clash) → P found → Q found) → IfOk r P → IfOk r Q
by_one P Q (Ok found) f is = f found is
by_one P Q (Err e) f is = tt

pub returns-in-Some : goal.returns-in-Some
returns-in-Some c =
    let t = c.args.t in
    let rows = c.args.rows.now.rows in
    let lines = c.args.lines.now in
    let after = rows_taken rows t lines in
    let z = c.in-Some.zone in
    by_one (λ found. found ≡ first_clash t (slice_of z after)) (λ found. found ≡ first_clash t after) c.clash_in.result
    (λ found is. first_in_all t after lines found (rows_taken-sorted rows t lines c.requires.order) (λ y h. quiet_elsewhere t rows lines y c.requires.apart h) (only_first t after lines z found (search rules) is))
    c.clash_in.ensures

not_new : (b : Bool) → not b ≡ false → b ≡ true
not_new true h = refl
not_new false h = cc

pub loop-line-preserved : goal.loop-line-preserved
loop-line-preserved c =
    let t = c.args.t in
    let lines = c.args.lines.now in
    let after = rows_taken c.args.rows.now.rows t lines in
    let i = c.loop-line.line-index in
    let line = c.line-item.result in
    let zone = line.zone in
    let seen : (z : Place) → list_any (is_at (by_place z)) c.insert.new.self.keys ≡ names_zone z (take (i + 1) lines) =
    λ z. ap (list_any (is_at (by_place z))) c.in_ok-insert.ensures.keys
    ∙ has_after by_place by_place_total by_place_ties z zone c.loop-line.seen.keys
    ∙ seen_more lines i line z _ c.loop-line-test.true c.line-item.is (c.loop-line.invariant.1 z) in
    elim c.if-branch.branch [
      | then-branch+in_ok-found w ↦ (
        subst (IsFirstIn t after (take (i + 1) lines)) (sym (w.best-is ∙ w.earlier_clash-best.ensures))
            (first_new t after lines i line c.loop-line-test.true c.line-item.is c.loop-line.best w.in_ok-found.found w.in_ok-found.ensures c.loop-line.invariant.0),
        seen,
      )
      | else-branch w ↦ (
        subst (IsFirstIn t after (take (i + 1) lines)) (sym w.best-is)
            (first_still t after lines i line c.loop-line-test.true c.line-item.is c.loop-line.best
            (sym (c.loop-line.invariant.1 zone) ∙ not_new _ (sym c.in_ok-insert.ensures.added ∙ w.if-branch.false)) c.loop-line.invariant.0),
        seen,
      )
    ]

pub returns : goal.returns
returns c =
    let t = c.args.t in
    let rows = c.args.rows.now.rows in
    let lines = c.args.lines.now in
    first_in_all t (rows_taken rows t lines) lines c.loop-line.best (rows_taken-sorted rows t lines c.requires.order) (λ z h. quiet_elsewhere t rows lines z c.requires.apart h)
    (subst (λ (some : List Line). IsFirstIn t (rows_taken rows t lines) some c.loop-line.best) (take_all c.loop-line.line-index lines c.loop-line-test.false) c.loop-line.invariant.0)
