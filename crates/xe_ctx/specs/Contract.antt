-- The words of a row's contract, passed on from one place. Declares nothing.
pub use Rattle.std.specs.Prelude.{ℕ, true, false, IsTrue, Option, IfOk}
pub use Rattle.xe_base.specs.Registers.{is_size}
pub use Rattle.xe_ctx.specs.Operand.{IsOf, IsOperand}
pub use Rattle.xe_ctx.specs.Runs.{HasLeft, IsReady, Runs, RunsWithin, Finishes, DraftsWithin, AtOnce}
pub use Rattle.xe_ctx.specs.View.{cpu_of}
