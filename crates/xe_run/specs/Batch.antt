-- How many steps a turn has at most. This project's choice.
use Rattle.std.specs.Prelude.{ℕ, ◌≤◌}

abbrev pub IsBatch : ℕ → Type 0
IsBatch n = (1 ≤ n) × (n ≤ 1000)
