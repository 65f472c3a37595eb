-- The words of a row's definition, passed on from one place. Declares nothing.
pub use Rattle.std.specs.Prelude.{ℕ, Bool, true, false, not, nat_lt, Option, Some, None}
pub use Rattle.xe_base.specs.declared.access.Fault.{Fault}
pub use Rattle.xe_base.specs.declared.cpu.Cpu.{Cpu}
pub use Rattle.xe_opmap.specs.declared.insn.Insn.{Insn}
pub use Rattle.xe_ctx.specs.Operand.{ax, cx, dx, bx, ah, size_by_opcode, reg_of, opcode_register, reads, writes, ends_with, ends}
unfoldable pub use Rattle.xe_ctx.specs.Operand.{operand_of, read_operand, read_for_write, write_operand}
pub use Rattle.xe_ctx.specs.Tree.{Tree, give, fault}
unfoldable pub use Rattle.xe_ctx.specs.Tree.{◌>>=◌, load, load_for_write, probe, store, load_sys, store_sys, device, point}
