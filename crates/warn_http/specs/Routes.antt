-- The routes of the desk, as the router has them, and what a path asks for.
use Rattle.std.specs.Prelude.{◌≡◌, ℕ, ◌+◌, List, [], ◌∷◌, ◌++◌, codes, length, take, drop, Option, Some, None, if◌then◌else◌}
use Rattle.std.specs.Str.{bytes_eq}
use Rattle.matchit.specs.Rows.{RowsOf, param_token}
use Rattle.matchit.specs.Router.{RouteOf}
use Rattle.matchit.specs.Seek.{first}
use Rattle.office_types.specs.declared.request.Query.{Query}
use Rattle.office_types.specs.declared.request.Query.TheVariants.{Board, Product, After, Draft, Preview}
use Rattle.warn_http.specs.Numbers.{number_of}
use Rattle.warn_http.specs.declared.numbers.Number.{Number}
use Rattle.warn_http.specs.declared.numbers.Number.TheVariants.{NoNumber, TooLarge, Is}
use Rattle.warn_http.specs.declared.routes.Place.{Place}
use Rattle.warn_http.specs.declared.routes.Place.TheVariants as place
use Rattle.warn_http.specs.declared.routes.Aim.{Aim}
use Rattle.warn_http.specs.declared.routes.Aim.TheVariants.{Post, Look}

-- a route with no parameter
abbrev pub fixed : List ℕ → Place → List ℕ × RouteOf Place
fixed text value = (text, record { pattern = text; text = text; names = []; value = value })

-- a route that ends in a parameter
abbrev pub open_ended : List ℕ → List ℕ → Place → List ℕ × RouteOf Place
open_ended text name value = (
  text ++ param_token ∷ [],
  record {
    pattern = text ++ param_token ∷ [];
    text = ((text ++ 123 ∷ []) ++ name) ++ 125 ∷ [];
    names = (length text + 1, length text + 1 + length name) ∷ [];
    value = value;
  },
)

-- the router's rows
abbrev pub desk_routes : RowsOf (RouteOf Place)
desk_routes =
    fixed (codes "/board") place.Board
    ∷ open_ended (codes "/drafts/") (codes "id") place.Draft
    ∷ open_ended (codes "/preview/") (codes "id") place.Preview
    ∷ open_ended (codes "/products/after/") (codes "n") place.After
    ∷ open_ended (codes "/products/") (codes "n") place.Product
    ∷ fixed (codes "/requests") place.Requests
    ∷ []

-- the number below 2 ^ 32 that the path writes behind a prefix
unfoldable pub number_behind : List ℕ → List ℕ → Number
number_behind prefix path =
    if bytes_eq (take (length prefix) path) prefix then number_of 4294967295 (drop (length prefix) path) else NoNumber

abbrev pub look_by : (ℕ → Query) → Number → Option Aim
look_by query (Is n) = Some (Look (query n))
look_by query TooLarge = None
look_by query NoNumber = None

-- what is asked for at a place of the table, by the number of the path
abbrev pub aim_at : Place → List ℕ → Option Aim
aim_at place.Requests path = Some Post
aim_at place.Board path = Some (Look Board)
aim_at place.Product path = look_by Product (number_behind (codes "/products/") path)
aim_at place.After path = look_by After (number_behind (codes "/products/after/") path)
aim_at place.Draft path = look_by Draft (number_behind (codes "/drafts/") path)
aim_at place.Preview path = look_by Preview (number_behind (codes "/preview/") path)

abbrev pub aim_by : Option (RouteOf Place) → List ℕ → Option Aim
aim_by None path = None
aim_by (Some route) path = aim_at route.value path

-- what a request target asks for: matchit finds its route, and its number is below 2 ^ 32
unfoldable pub aim_of : List ℕ → Option Aim
aim_of path = aim_by (first desk_routes path) path

-- the method of a call that asks for this
abbrev pub method_of : Aim → List ℕ
method_of Post = codes "POST"
method_of (Look query) = codes "GET"

-- a text writes this number, which is below 2 ^ 32
abbrev pub Writes : List ℕ → ℕ → Type 0
Writes digits n = number_of 4294967295 digits ≡ Is n

-- the paths of the desk, in its own words
abbrev pub IsPath : List ℕ → Aim → Type 0
IsPath path Post = path ≡ codes "/requests"
IsPath path (Look Board) = path ≡ codes "/board"
IsPath path (Look (Product n)) = (digits : List ℕ) × (path ≡ codes "/products/" ++ digits) × Writes digits n
IsPath path (Look (After n)) = (digits : List ℕ) × (path ≡ codes "/products/after/" ++ digits) × Writes digits n
IsPath path (Look (Draft n)) = (digits : List ℕ) × (path ≡ codes "/drafts/" ++ digits) × Writes digits n
IsPath path (Look (Preview n)) = (digits : List ℕ) × (path ≡ codes "/preview/" ++ digits) × Writes digits n
