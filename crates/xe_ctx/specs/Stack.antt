use Rattle.std.specs.Prelude.{ℕ, ◌+◌, ◌-◌, ◌*◌, ◌%◌, ◌^◌, true, if◌then◌else◌}
use Rattle.xe_base.specs.Registers.{register_value, with_register}
use Rattle.xe_base.specs.State.{is_long, seg_db}
use Rattle.xe_base.specs.declared.cpu.Cpu.{Cpu}
use Rattle.xe_base.specs.declared.segment.SegName.TheVariants.{Ss}
use Rattle.xe_ctx.specs.Tree.{Tree, ◌>>=◌, give, load, store}

-- The stack (SDM volume 1, "Stacks" and "Address-Size Attributes for Stack").

-- the number of RSP
abbrev pub stack_register : ℕ
stack_register = 4

-- the stack size in bytes: 8 in 64-bit mode, elsewhere 4 where DB of SS is 1, else 2
abbrev pub stack_size : Cpu → ℕ
stack_size cpu = if is_long cpu then 8 else (if seg_db cpu.ss then 4 else 2)

-- SP, ESP or RSP: a register of the stack size as an offset in SS
abbrev pub stack_offset : Cpu → ℕ → ℕ
stack_offset cpu register = register_value cpu (stack_size cpu) true register

abbrev pub stack_pointer : Cpu → ℕ
stack_pointer cpu = stack_offset cpu stack_register

-- so many bytes above an offset in SS, and below one; it wraps in the stack size
abbrev pub stack_above : Cpu → ℕ → ℕ → ℕ
stack_above cpu offset n = (offset + n) % 2 ^ (8 * stack_size cpu)

abbrev pub stack_below : Cpu → ℕ → ℕ → ℕ
stack_below cpu offset n = (offset + 2 ^ (8 * stack_size cpu) - n) % 2 ^ (8 * stack_size cpu)

-- the registers with another stack pointer, of which as many bytes are written as the stack size has
unfoldable pub with_stack_pointer : Cpu → ℕ → Cpu
with_stack_pointer cpu offset = with_register cpu (stack_size cpu) true stack_register offset

-- the registers after n bytes were released
abbrev pub released : Cpu → ℕ → Cpu
released cpu n = with_stack_pointer cpu (stack_above cpu (stack_pointer cpu) n)

-- the number in n bytes of the stack, so many bytes above its top
unfoldable pub stack_load : Cpu → ℕ → ℕ → Tree ℕ
stack_load cpu above n = load Ss (stack_above cpu (stack_pointer cpu) above) n

-- the registers after the low n bytes of a number were pushed
unfoldable pub push : Cpu → ℕ → ℕ → Tree Cpu
push cpu n value = do
  _ ← store Ss (stack_below cpu (stack_pointer cpu) n) n (value % 2 ^ (8 * n))
  give (with_stack_pointer cpu (stack_below cpu (stack_pointer cpu) n))
