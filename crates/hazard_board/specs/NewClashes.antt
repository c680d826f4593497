-- Clashes of rows that are new, or not as they were.
use Rattle.std.specs.Prelude.{◌&&◌, ◌||◌, ◌++◌, not, ℕ, Bool, true, false, List, [], Option, Some, None, fold, option_to_list, if◌then◌else◌}
use Rattle.std.specs.List.{list_any}
use Rattle.hazard_types.specs.contracts.line.RowPartialEq.TheImpl as row
use Rattle.hazard_types.specs.declared.line.Line.{Line}
use Rattle.hazard_types.specs.declared.line.Row.{Row}
use Rattle.event_life.specs.Products.{put, row_at}
use Rattle.hazard_board.specs.Clashes.{clash}
use Rattle.hazard_board.specs.Taken.{row_left}
use Rattle.hazard_board.specs.declared.lines.Left.{Left}

-- the row is the one that is found, if any
abbrev pub is_same : Option Row → Row → Bool
is_same None r = false
is_same (Some old) r = row.eq-value.it old r

-- the row is among the rows as it is
abbrev pub stands : List Row → Row → Bool
stands rows r = is_same (row_at rows r.event r.zone) r

-- the two rows clash, in either order
abbrev pub clash_either : ℕ → Row → Row → Bool
clash_either t a b = clash t a b || clash t b a

-- the row clashes with one of some
abbrev pub clashes_among : ℕ → List Row → Row → Bool
clashes_among t some r = list_any (clash_either t r) some

-- a row that is new, or not as it was, and clashes with one of some
abbrev pub new_clash : ℕ → List Row → List Row → Row → Bool
new_clash t rows some r = not (stands rows r) && clashes_among t some r

abbrev pub clashes_if : ℕ → List Row → Option Row → Bool
clashes_if t some None = false
clashes_if t some (Some r) = clashes_among t some r

-- the row, unless it is the one that is held
abbrev pub unless_same : Option Row → Option Row → Option Row
unless_same held None = None
unless_same held (Some r) = if is_same held r then None else Some r

-- the row that a line leaves, where it is new or not as it was
abbrev pub row_changed : List Row → ℕ → Line → Option Row
row_changed rows t line = unless_same (row_at rows line.event line.zone) (row_left rows t line)

-- that row clashes with one of some
abbrev pub left_clashes : ℕ → List Row → List Row → Line → Bool
left_clashes t rows some line = clashes_if t some (row_changed rows t line)

-- a line leaves the row that it meets as it was, or leaves none
abbrev pub stays : Option Row → Option Row → Bool
stays old None = true
stays old (Some r) = is_same old r

-- a row that is left where one is held, and whether it is new or not as it was
abbrev pub left_if : Option Row → Option Row → Option Left
left_if held None = None
left_if held (Some r) = Some (record { row = r; is_new = not (is_same held r) })

-- what a line leaves
abbrev pub left_by : List Row → ℕ → Line → List Left
left_by rows t line = option_to_list (left_if (row_at rows line.event line.zone) (row_left rows t line))

-- what lines leave, each of which meets these rows
abbrev pub lefts : List Row → ℕ → List Line → List Left
lefts rows t lines = fold (λ (some : List Left) (line : Line). some ++ left_by rows t line) [] lines

-- rows with those that are left, put in turn
abbrev pub put_lefts : List Row → List Left → List Row
put_lefts rows some = fold (λ (after : List Row) (left : Left). put left.row after) rows some

-- a row that is left is new or not as it was, and clashes with one of some
abbrev pub is_new_clash : ℕ → List Row → Left → Bool
is_new_clash t some left = left.is_new && clashes_among t some left.row
