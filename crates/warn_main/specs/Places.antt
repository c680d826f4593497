-- Where a command line says that the journal is kept.
use Rattle.std.specs.Prelude.{◌≡◌, ◌≢◌, List, ℕ, Option, None, Some, codes}
use Rattle.warn_main.specs.declared.place.Place.{Place}
use Rattle.warn_main.specs.declared.place.Place.TheVariants.{Unnamed, Memory, File}

-- the word that says it, if there is one: "-" says in memory, and another one in the file of this path
abbrev pub IsPlace : Option (List ℕ) → Place → Type 0
IsPlace None Unnamed = Unit {0}
IsPlace (Some path) Memory = path ≡ codes "-"
IsPlace (Some path) (File named) = (path ≢ codes "-") × (named.now ≡ path)
IsPlace _ _ = ⊥
