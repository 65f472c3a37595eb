use Rattle.std.specs.Prelude.{Bool, true, Option, Some, None}
use Rattle.xe_base.specs.Access.{answers_to}
use Rattle.xe_base.specs.declared.access.Made.{Made}

-- an answer that waits to be taken is one that its access can have
abbrev pub is_fitting : Option Made → Bool
is_fitting None = true
is_fitting (Some m) = answers_to m.access m.answer
