use Rattle.std.specs.Prelude.{◌*◌, ◌%◌, ◌^◌, ◌==◌, if◌then◌else◌}
use Rattle.xe_base.specs.Access.{number_of}
use Rattle.xe_base.specs.Registers.{next_rip}
use Rattle.xe_base.specs.Segments.{segment_number}
use Rattle.xe_base.specs.declared.access.Access.{Access}
use Rattle.xe_base.specs.declared.access.Space.TheVariants.{Port}
use Rattle.xe_base.specs.declared.segment.SegName.{SegName}
use Rattle.xe_base.specs.declared.segment.SegName.TheVariants.{Es}
use Rattle.xe_icpt.specs.declared.point.Point.{Point}
use Rattle.xe_icpt.specs.declared.point.Point.TheVariants.{Io}
use Rattle.xe_ctx.specs.Definition.{ℕ, Bool, true, false, Cpu, Insn, Tree, ◌>>=◌, give, load, probe, store, device, point, dx, size_by_opcode, reads}
use Rattle.xe_ctx.specs.Ports.{port_allowed}
use Rattle.xe_string.specs.Index.{si, di, source_segment, index, moved}
use Rattle.xe_string.specs.Prefix.{is_repeated}

-- Elements that come from a port or go to one (SDM volume 2, "INS" and "OUTS"). What is intercepted comes behind the checks of the port, and before
-- memory and the device are touched (APM volume 2, "IOIO Intercepts").

-- the bytes of an element: a port has at most 4
abbrev pub port_size : Insn → ℕ
port_size insn = if size_by_opcode insn == 8 then 4 else size_by_opcode insn

-- the port, which DX names
abbrev pub port_of : Insn → Cpu → ℕ
port_of insn cpu = reads insn cpu 2 dx

abbrev pub port_read : ℕ → ℕ → Access
port_read port n = record { space = Port; write = false; address = port; size = n; value = 0 }

abbrev pub port_write : ℕ → ℕ → ℕ → Access
port_write port n value = record { space = Port; write = true; address = port; size = n; value = value }

-- a port is about to be read or written, for the element that lies in this segment
abbrev pub port_point : Insn → Cpu → Bool → SegName → Point
port_point insn cpu input seg = Io (port_of insn cpu) (port_size insn) input true (is_repeated insn) false insn.adsize (segment_number seg) (next_rip cpu insn.len)

-- the port may be used, and isn't intercepted
unfoldable pub port_reached : Insn → Cpu → Bool → SegName → Tree (Unit {0})
port_reached insn cpu input seg = do
  _ ← port_allowed cpu (port_of insn cpu) (port_size insn)
  point (port_point insn cpu input seg)

-- what the port gives to the destination, of n bytes; memory there can be written before the port is read
unfoldable pub received : ℕ → ℕ → ℕ → Tree (Unit {0})
received port offset n = do
  _ ← probe Es offset n
  a ← device (port_read port n)
  store Es offset n (number_of a % 2 ^ (8 * n))

-- INS: from the port to the destination
unfoldable pub ins_element : Insn → Cpu → Tree Cpu
ins_element insn cpu = do
  let n = port_size insn
  _ ← port_reached insn cpu true Es
  _ ← received (port_of insn cpu) (index insn cpu di) n
  give (moved insn cpu di n)

-- OUTS: the source is read before the port is written
unfoldable pub outs_element : Insn → Cpu → Tree Cpu
outs_element insn cpu = do
  let n = port_size insn
  _ ← port_reached insn cpu false (source_segment insn)
  value ← load (source_segment insn) (index insn cpu si) n
  _ ← device (port_write (port_of insn cpu) n value)
  give (moved insn cpu si n)
