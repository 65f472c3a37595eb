use Rattle.std.specs.Prelude.{◌%◌, ◌^◌, ◌*◌, ◌==◌, nat_lt, slice_index, if◌then◌else◌}
use Rattle.xe_ctx.specs.Definition.{ℕ, Bool, true, false, Cpu, Insn, Tree, ◌>>=◌, ax, dx, device, point, reads, writes, ends}
use Rattle.xe_base.specs.Access.{number_of}
use Rattle.xe_base.specs.Registers.{next_rip}
use Rattle.xe_base.specs.declared.access.Access.{Access}
use Rattle.xe_base.specs.declared.access.Space.TheVariants.{Port}
use Rattle.xe_icpt.specs.declared.point.Point.{Point}
use Rattle.xe_icpt.specs.declared.point.Point.TheVariants.{Io}
use Rattle.xe_ctx.specs.Ports.{port_allowed}
use Rattle.xe_ctx.specs.declared.stop.Finish.{Finish}

-- IN and OUT (SDM volume 2, "IN—Input From Port" and "OUT—Output to Port").

-- the port is an immediate byte with E4 to E7, and DX with EC to EF
abbrev pub names_port : Insn → Bool
names_port insn = nat_lt insn.opcode 0xE8

abbrev pub port_of : Insn → Cpu → ℕ
port_of insn cpu = if names_port insn then insn.imm % 2 ^ 8 else slice_index cpu.gpr dx % 2 ^ 16

-- a byte with an even opcode, else as many bytes as the operand has, and never more than four
abbrev pub port_size : Insn → ℕ
port_size insn = if insn.opcode % 2 == 0 then 1 else (if insn.opsize == 2 then 2 else 4)

-- what is about to happen. Prefixes that repeat aren't looked at
abbrev pub port_point : Insn → Cpu → Bool → Point
port_point insn cpu input = Io (port_of insn cpu) (port_size insn) input false false (names_port insn) insn.adsize 0 (next_rip cpu insn.len)

abbrev pub port_read : ℕ → ℕ → Access
port_read port n = record { space = Port; write = false; address = port; size = n; value = 0 }

abbrev pub port_write : ℕ → ℕ → ℕ → Access
port_write port n value = record { space = Port; write = true; address = port; size = n; value = value % 2 ^ (8 * n) }

-- the program may use the port; what is intercepted comes next, before the device is touched
unfoldable pub port_checked : Insn → Cpu → Bool → Tree (Unit {0})
port_checked insn cpu input = do
  _ ← port_allowed cpu (port_of insn cpu) (port_size insn)
  point (port_point insn cpu input)

abbrev pub in_row : Insn → Cpu → Tree Finish
in_row insn cpu = do
  _ ← port_checked insn cpu true
  a ← device (port_read (port_of insn cpu) (port_size insn))
  ends insn (writes insn cpu (port_size insn) ax (number_of a))

abbrev pub out_row : Insn → Cpu → Tree Finish
out_row insn cpu = do
  _ ← port_checked insn cpu false
  _ ← device (port_write (port_of insn cpu) (port_size insn) (reads insn cpu (port_size insn) ax))
  ends insn cpu
