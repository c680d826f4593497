-- What the reader of JSON says, as definitions have it.
use Rattle.std.proofs.Common.{◌≡◌, Bool, true, false, cond, Option, None, refl}
use Rattle.serde_json.specs.Data.{Data}

pub none_where_refused : (u : Bool) (r : Option Data) → (u ≡ true → r ≡ None) → cond u r None ≡ None
none_where_refused true r h = h refl
none_where_refused false r h = refl
