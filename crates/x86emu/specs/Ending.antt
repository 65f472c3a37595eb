-- What the program ends with. This project's choice.
use Rattle.std.specs.Prelude.{ℕ, Option, Some, None}
use Rattle.xe_run.specs.Output.{number_of}
use Rattle.xe_run.specs.declared.status.Status.{Status}

-- the number of the run's status; where the system doesn't give the words, one that no status has
abbrev pub exit_number : Option Status → ℕ
exit_number (Some status) = number_of status
exit_number None = 6
