use Rattle.std.specs.Prelude.{◌==◌, ◌&&◌, if◌then◌else◌}
use Rattle.xe_ctx.specs.Definition.{Bool, true, false, Cpu, Insn, Tree, fault, ax, reads, writes, ends}
use Rattle.xe_base.specs.Exceptions.{plain_exception, divide_error}
use Rattle.xe_flags.specs.Decimals.{bcd_ax, bcd_flags}
use Rattle.xe_flags.specs.declared.decimals.BcdOp.{BcdOp}
use Rattle.xe_flags.specs.declared.decimals.BcdOp.TheVariants.{Daa, Das, Aaa, Aas, Aam, Aad}
use Rattle.xe_ctx.specs.declared.stop.Finish.{Finish}
use Rattle.xe_move.specs.Sized.{low, with_flags}

-- Decimal corrections of AX (SDM volume 2, "DAA", "DAS", "AAA", "AAS", "AAM" and "AAD").

-- AAM alone divides by its immediate
abbrev pub divides : BcdOp → Bool
divides Daa = false
divides Das = false
divides Aaa = false
divides Aas = false
divides Aam = true
divides Aad = false

abbrev pub decimal_row : BcdOp → Insn → Cpu → Tree Finish
decimal_row op insn cpu =
    let word = low 2 (reads insn cpu 2 ax) in
    let imm = low 1 insn.imm in
    if divides op && imm == 0 then fault (plain_exception divide_error)
    else ends insn (writes insn (with_flags cpu (bcd_flags op word imm cpu.rflags)) 2 ax (bcd_ax op word imm cpu.rflags))
