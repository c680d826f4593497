-- How what a feed holds changes.
use Rattle.std.specs.Prelude.{◌≡◌, ◌<◌, ℕ, List, [], ◌∷◌, ◌++◌, length, drop, Option, Some, None}
use Rattle.product_decoder.specs.declared.held.Held.{Held}
use Rattle.product_decoder.specs.declared.held.Scan.{Scan}
use Rattle.product_decoder.specs.declared.held.Scan.TheVariants.{Heading, Line}
use Rattle.product_decoder.specs.Feeding.{IsQuiet, IsPlain, IsHeaded, IsHeld, IsFound, IsNotFound, Keeps, IsFinished, IsWaiting, ComesFirst, products_in}

abbrev pub Scans : List ℕ → ℕ → Scan → Type 0
Scans bytes from (Heading at end) = IsFound bytes from at end
Scans bytes from (Line at) = IsNotFound bytes from at

-- the bytes that count
abbrev pub rest_of : Held → List ℕ
rest_of h = drop h.from h.bytes.items

abbrev pub HeldIs : Held → Type 0
HeldIs h = IsHeld h.bytes.items h.from h.seen h.looked h.headed

-- whole lines without a heading line were dropped in front
abbrev pub IsTrimmed : List ℕ → List ℕ → Type 0
IsTrimmed old new = (lead : List ℕ) × IsPlain lead × (old ≡ lead ++ new)

-- a heading line and whole lines behind it, then a line that is not whole
abbrev pub IsOne : List ℕ → Type 0
IsOne rest = (lines : List ℕ) × (line : List ℕ) × IsHeaded lines × IsQuiet line × (rest ≡ lines ++ line)

-- it begins with a heading line
abbrev pub IsBegun : List ℕ → Type 0
IsBegun rest = (lines : List ℕ) × (more : List ℕ) × IsHeaded lines × (rest ≡ lines ++ more)

-- whole lines up to the next heading line were given, or there is none
abbrev pub Moves : List ℕ → Option (List ℕ) → List ℕ → Type 0
Moves old None new = (new ≡ old) × IsOne old
Moves old (Some text) new = IsHeaded text × IsBegun new × (old ≡ text ++ new)

-- a product that is finished was given, or none is
abbrev pub TakesWhole : List ℕ → Option (List ℕ) → List ℕ → Type 0
TakesWhole old None new = IsWaiting old new × Keeps old new
TakesWhole old (Some text) new = IsFinished old × ComesFirst old text new × (length new < length old)

-- the next of the stream's last products was given, or nothing is left
abbrev pub TakesLast : List ℕ → Option (List ℕ) → List ℕ → Type 0
TakesLast old None new = (products_in old ≡ []) × (new ≡ [])
TakesLast old (Some text) new = (products_in old ≡ text ∷ products_in new) × (length new < length old)
