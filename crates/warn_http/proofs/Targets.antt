-- What a request target asks for, and the paths of the desk in its own words.
use Rattle.std.proofs.Common.{◌≡◌, ◌≢◌, ℕ, ◌≤◌, ◌⊎◌, inl, inr, Bool, true, false, ◌&&◌, ◌==◌, List, [], ◌∷◌, ◌++◌, length, take, drop, codes, refl, ap, sym, ◌∙◌, subst, arith, Option, Some, None, nat_le, if◌then◌else◌}
use mathlib.Core.List.{append-nil}
use Rattle.std.specs.List.{list_all}
use Rattle.std.specs.Str.{bytes_eq}
use Rattle.std.proofs.lemmas.Bool.{leb-true}
use Rattle.std.proofs.lemmas.Bool.Decides.{eqb_tells}
use Rattle.std.proofs.lemmas.List.{take-append-drop}
use Rattle.std.proofs.lemmas.Slice.Eq.{bytes_eq-Decides}
use Rattle.std.proofs.Math.Seq.{take-append_seam, drop-append_seam}
use Rattle.matchit.specs.Rows.{RowsOf, param_token}
use Rattle.matchit.specs.Router.{RouteOf}
use Rattle.matchit.specs.Seek.{seek, first, step, has_slash}
use Rattle.hazard_types.specs.Calendar.{is_digit}
use Rattle.office_types.specs.declared.request.Query.{Query}
use Rattle.office_types.specs.declared.request.Query.TheVariants.{Board, Product, After, Draft, Preview}
use Rattle.warn_http.specs.Numbers.{are_digits, at_most, number_from, number_of}
use Rattle.warn_http.specs.declared.numbers.Number.{Number}
use Rattle.warn_http.specs.declared.numbers.Number.TheVariants.{NoNumber, TooLarge, Is}
use Rattle.warn_http.specs.Routes.{fixed, open_ended, desk_routes, number_behind, look_by, aim_at, aim_by, aim_of, Writes, IsPath}
use Rattle.warn_http.specs.declared.routes.Place.{Place}
use Rattle.warn_http.specs.declared.routes.Place.TheVariants as place
use Rattle.warn_http.specs.declared.routes.Aim.{Aim}
use Rattle.warn_http.specs.declared.routes.Aim.TheVariants.{Post, Look}
use Rattle.warn_http.proofs.Paths.{takes, steps, through, Has, is_plain, Found, found}

-- ---- digits

front_true : (a b : Bool) → (a && b) ≡ true → a ≡ true
front_true true b e = refl
front_true false b e = e

back_true : (a b : Bool) → (a && b) ≡ true → b ≡ true
back_true true b e = e
back_true false b e = absurd (cc)

differs : (a b : ℕ) → (a ≡ b → ⊥) → (a == b) ≡ false
differs a b apart = of (eqb_tells a b)
  where
    of : (((a == b) ≡ true) × (a ≡ b)) ⊎ (((a == b) ≡ false) × (a ≢ b)) → (a == b) ≡ false
    of (inl same) = absurd (apart same.1)
    of (inr other) = other.0

least : (d : ℕ) → is_digit d ≡ true → 48 ≤ d
least d digit = leb-true 48 d (front_true (nat_le 48 d) (nat_le d 57) digit)

most : (d : ℕ) → is_digit d ≡ true → d ≤ 57
most d digit = leb-true d 57 (back_true (nat_le 48 d) (nat_le d 57) digit)

no_slash : (digits : List ℕ) → list_all is_digit digits ≡ true → has_slash digits ≡ false
no_slash [] all = refl
no_slash (d ∷ digits) all =
    let low = least d (front_true (is_digit d) (list_all is_digit digits) all) in
    let e : (d == 47) ≡ false = differs d 47 (λ same. omega (arith, low, same)) in
    rw e (no_slash digits (back_true (is_digit d) (list_all is_digit digits) all))

-- a digit is no token of a pattern, and no letter
no_token : (d k : ℕ) → is_digit d ≡ true → 97 ≤ k → (k == d) ≡ false
no_token d k digit high = differs k d (λ same. omega (arith, most d digit, same, high))

are_there : (digits : List ℕ) (n : ℕ) → Writes digits n → are_digits digits ≡ true
unfolding number_of
are_there digits n writes = of (are_digits digits) writes
  where
    of : (b : Bool) → (if b then at_most 4294967295 (number_from 0 digits) else NoNumber) ≡ Is n → b ≡ true
    of true e = refl
    of false e = absurd (cc)

-- a route's parameter at the end of its pattern takes the digits of a number
digits_take : (route : RouteOf Place) (rs : RowsOf (RouteOf Place)) (digits : List ℕ) (n : ℕ) → Writes digits n
    → ((d : ℕ) → is_digit d ≡ true → step d rs ≡ []) → step param_token rs ≡ ([], route) ∷ []
    → seek 0 rs digits ≡ Some route
digits_take route rs [] n writes none one = absurd (let e = are_there [] n writes in cc)
digits_take route rs (d ∷ digits) n writes none one =
    let all = back_true _ (list_all is_digit (d ∷ digits)) (are_there (d ∷ digits) n writes) in
    takes route rs d digits (no_slash (d ∷ digits) all)
    (none d (front_true (is_digit d) (list_all is_digit digits) all)) one

-- ---- the number behind a prefix

-- the digits behind a prefix
behind_writes : (prefix path : List ℕ) (n : ℕ) → number_behind prefix path ≡ Is n
    → (digits : List ℕ) × (path ≡ prefix ++ digits) × Writes digits n
unfolding number_behind
behind_writes prefix path n e = of (bytes_eq (take (length prefix) path) prefix) refl e
  where
    of : (b : Bool) → bytes_eq (take (length prefix) path) prefix ≡ b
        → (if b then number_of 4294967295 (drop (length prefix) path) else NoNumber) ≡ Is n
        → (digits : List ℕ) × (path ≡ prefix ++ digits) × Writes digits n
    of true same e =
        let front = (bytes_eq-Decides (take (length prefix) path) prefix).0 same in (
          drop (length prefix) path,
          sym (take-append-drop (length prefix) path) ∙ ap (λ (b : List ℕ). b ++ drop (length prefix) path) front,
          e,
        )
    of false same e = absurd (cc)

writes_behind : (prefix digits : List ℕ) (n : ℕ) → Writes digits n → number_behind prefix (prefix ++ digits) ≡ Is n
unfolding number_behind
writes_behind prefix digits n writes =
    let same : bytes_eq prefix prefix ≡ true = (bytes_eq-Decides prefix prefix).1 refl in
    rw (take-append_seam prefix digits, same, drop-append_seam prefix digits) writes

-- ---- from what is asked for to the path

looks : (query : ℕ → Query) (number : Number) (aim : Aim) → look_by query number ≡ Some aim
    → (n : ℕ) × (number ≡ Is n) × (aim ≡ Look (query n))
looks query NoNumber aim e = absurd (cc)
looks query TooLarge aim e = absurd (cc)
looks query (Is n) aim e = (n, refl, let f : Look (query n) ≡ aim = cc in sym f)

same_value : {one other : List ℕ × RouteOf Place} → one ≡ other → one.1.value ≡ other.1.value
same_value is = ap (λ (r : List ℕ × RouteOf Place). r.1.value) is

-- the row of a route with no parameter is its path
requests_row : (row : List ℕ) (route : RouteOf Place) → Has (row, route) desk_routes → route.value ≡ place.Requests
    → row ≡ codes "/requests"
requests_row row route (inl is) e = absurd (let f = same_value is in cc)
requests_row row route (inr (inl is)) e = absurd (let f = same_value is in cc)
requests_row row route (inr (inr (inl is))) e = absurd (let f = same_value is in cc)
requests_row row route (inr (inr (inr (inl is)))) e = absurd (let f = same_value is in cc)
requests_row row route (inr (inr (inr (inr (inl is))))) e = absurd (let f = same_value is in cc)
requests_row row route (inr (inr (inr (inr (inr (inl is)))))) e = ap (λ (r : List ℕ × RouteOf Place). r.0) is
requests_row row route (inr (inr (inr (inr (inr (inr none)))))) e = absurd none

board_row : (row : List ℕ) (route : RouteOf Place) → Has (row, route) desk_routes → route.value ≡ place.Board
    → row ≡ codes "/board"
board_row row route (inl is) e = ap (λ (r : List ℕ × RouteOf Place). r.0) is
board_row row route (inr (inl is)) e = absurd (let f = same_value is in cc)
board_row row route (inr (inr (inl is))) e = absurd (let f = same_value is in cc)
board_row row route (inr (inr (inr (inl is)))) e = absurd (let f = same_value is in cc)
board_row row route (inr (inr (inr (inr (inl is))))) e = absurd (let f = same_value is in cc)
board_row row route (inr (inr (inr (inr (inr (inl is)))))) e = absurd (let f = same_value is in cc)
board_row row route (inr (inr (inr (inr (inr (inr none)))))) e = absurd none

is_path : (path : List ℕ) (one other : Aim) → one ≡ other → IsPath path one → IsPath path other
is_path path one other e is = subst (IsPath path) e is

-- the number behind a prefix is the one that is looked at
path_behind : (prefix path : List ℕ) (query : ℕ → Query) (aim : Aim)
    → ((n : ℕ) → (digits : List ℕ) × (path ≡ prefix ++ digits) × Writes digits n → IsPath path (Look (query n)))
    → look_by query (number_behind prefix path) ≡ Some aim → IsPath path aim
path_behind prefix path query aim is e =
    let l = looks query (number_behind prefix path) aim e in
    is_path path (Look (query l.0)) aim (sym l.2) (is l.0 (behind_writes prefix path l.0 l.1))

route_path : (path : List ℕ) (route : RouteOf Place) → Found 0 desk_routes path route
    → (value : Place) → route.value ≡ value → (aim : Aim) → aim_at value path ≡ Some aim → IsPath path aim
route_path path route f place.Requests is aim e =
    let row = requests_row f.row route f.there is in
    let plain : is_plain f.row ≡ true = subst (λ (t : List ℕ). is_plain t ≡ true) (sym row) refl in
    let same : Post ≡ aim = cc in
    is_path path Post aim same (f.plain plain refl ∙ row)
route_path path route f place.Board is aim e =
    let row = board_row f.row route f.there is in
    let plain : is_plain f.row ≡ true = subst (λ (t : List ℕ). is_plain t ≡ true) (sym row) refl in
    let same : Look Board ≡ aim = cc in
    is_path path (Look Board) aim same (f.plain plain refl ∙ row)
route_path path route f place.Product is aim e = path_behind (codes "/products/") path Product aim (λ n behind. behind) e
route_path path route f place.After is aim e = path_behind (codes "/products/after/") path After aim (λ n behind. behind) e
route_path path route f place.Draft is aim e = path_behind (codes "/drafts/") path Draft aim (λ n behind. behind) e
route_path path route f place.Preview is aim e = path_behind (codes "/preview/") path Preview aim (λ n behind. behind) e

pub aim_path : (path : List ℕ) (aim : Aim) → aim_of path ≡ Some aim → IsPath path aim
unfolding aim_of
aim_path path aim e = of (first desk_routes path) refl e
  where
    of : (o : Option (RouteOf Place)) → first desk_routes path ≡ o → aim_by o path ≡ Some aim → IsPath path aim
    of None is e = absurd (cc)
    of (Some route) is e = route_path path route (found 0 desk_routes path route is) route.value refl aim e

-- ---- from the path to what is asked for

abbrev pub row_value : List ℕ × RouteOf Place → RouteOf Place
row_value row = row.1

one_more : (token : ℕ) (route : RouteOf Place) (d : ℕ) → is_digit d ≡ true → 97 ≤ token
    → step d ((token ∷ [], route) ∷ []) ≡ []
one_more token route d digit high = rw (no_token d token digit high) refl

by_route : (path : List ℕ) (route : RouteOf Place) (aim : Aim) → first desk_routes path ≡ Some route
    → aim_at route.value path ≡ Some aim → aim_of path ≡ Some aim
unfolding aim_of
by_route path route aim e f = rw e f

number_path : (prefix : List ℕ) (route : RouteOf Place) (query : ℕ → Query) (digits : List ℕ) (n : ℕ)
    → Writes digits n
    → ((d : ℕ) → is_digit d ≡ true → step d (steps prefix desk_routes) ≡ [])
    → step param_token (steps prefix desk_routes) ≡ ([], route) ∷ []
    → aim_at route.value (prefix ++ digits) ≡ look_by query (number_behind prefix (prefix ++ digits))
    → aim_of (prefix ++ digits) ≡ Some (Look (query n))
number_path prefix route query digits n writes none one at =
    by_route (prefix ++ digits) route (Look (query n))
    (through prefix desk_routes digits route (digits_take route (steps prefix desk_routes) digits n writes none one))
    (at ∙ ap (look_by query) (writes_behind prefix digits n writes))

product_path : (path digits : List ℕ) (n : ℕ) → path ≡ codes "/products/" ++ digits → Writes digits n
    → aim_of path ≡ Some (Look (Product n))
product_path path digits n e writes =
    rw e (number_path (codes "/products/") (row_value (open_ended (codes "/products/") (codes "n") place.Product)) Product digits n writes
    (λ d digit. rw (no_token d 97 digit (omega arith), no_token d 256 digit (omega arith)) refl) refl refl)

after_path : (path digits : List ℕ) (n : ℕ) → path ≡ codes "/products/after/" ++ digits → Writes digits n
    → aim_of path ≡ Some (Look (After n))
after_path path digits n e writes =
    rw e (number_path (codes "/products/after/") (row_value (open_ended (codes "/products/after/") (codes "n") place.After)) After digits n writes
    (λ d digit. rw (no_token d 256 digit (omega arith)) refl) refl refl)

draft_path : (path digits : List ℕ) (n : ℕ) → path ≡ codes "/drafts/" ++ digits → Writes digits n
    → aim_of path ≡ Some (Look (Draft n))
draft_path path digits n e writes =
    rw e (number_path (codes "/drafts/") (row_value (open_ended (codes "/drafts/") (codes "id") place.Draft)) Draft digits n writes
    (λ d digit. rw (no_token d 256 digit (omega arith)) refl) refl refl)

preview_path : (path digits : List ℕ) (n : ℕ) → path ≡ codes "/preview/" ++ digits → Writes digits n
    → aim_of path ≡ Some (Look (Preview n))
preview_path path digits n e writes =
    rw e (number_path (codes "/preview/") (row_value (open_ended (codes "/preview/") (codes "id") place.Preview)) Preview digits n writes
    (λ d digit. rw (no_token d 256 digit (omega arith)) refl) refl refl)

ends_here : (front : List ℕ) (route : RouteOf Place) → seek 0 (steps front desk_routes) [] ≡ Some route
    → first desk_routes front ≡ Some route
ends_here front route e =
    subst (λ (p : List ℕ). first desk_routes p ≡ Some route) (append-nil front) (through front desk_routes [] route e)

requests_found : first desk_routes (codes "/requests") ≡ Some (row_value (fixed (codes "/requests") place.Requests))
unfolding seek
requests_found = ends_here (codes "/requests") (row_value (fixed (codes "/requests") place.Requests)) refl

board_found : first desk_routes (codes "/board") ≡ Some (row_value (fixed (codes "/board") place.Board))
unfolding seek
board_found = ends_here (codes "/board") (row_value (fixed (codes "/board") place.Board)) refl

pub path_aim : (path : List ℕ) (aim : Aim) → IsPath path aim → aim_of path ≡ Some aim
path_aim path Post is =
    rw is (by_route (codes "/requests") (row_value (fixed (codes "/requests") place.Requests)) Post requests_found refl)
path_aim path (Look Board) is =
    rw is (by_route (codes "/board") (row_value (fixed (codes "/board") place.Board)) (Look Board) board_found refl)
path_aim path (Look (Product n)) is = product_path path is.0 n is.1 is.2
path_aim path (Look (After n)) is = after_path path is.0 n is.1 is.2
path_aim path (Look (Draft n)) is = draft_path path is.0 n is.1 is.2
path_aim path (Look (Preview n)) is = preview_path path is.0 n is.1 is.2
