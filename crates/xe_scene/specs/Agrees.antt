-- A result that is what was read, seen through a view.
use Rattle.std.specs.Prelude.{◌≡◌, Result, Ok, Err}

abbrev pub Agrees : {X Y E : Type 0} → (X → Y) → Result X E → Result Y E → Type 0
Agrees view (Ok x) read = read ≡ Ok (view x)
Agrees view (Err e) read = read ≡ Err e
