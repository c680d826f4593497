-- What the reader of TOML says, as definitions have it.
use Rattle.std.proofs.Common.{◌≡◌, Bool, true, false, cond, Option, None, refl}
use Rattle.toml.specs.Data.{Members}

pub none_where_refused : (u : Bool) (r : Option Members) → (u ≡ true → r ≡ None) → cond u r None ≡ None
none_where_refused true r h = h refl
none_where_refused false r h = refl
