use Rattle.std.proofs.Common.{refl}
use Rattle.xe_base.specs.Bytes.{num}
use Rattle.xe_base.specs.Registers.{register_value, with_register}
use Rattle.xe_base.specs.Reset.{reset_state}
use Rattle.xe_base.specs.Ram.{holds, in_ram, byte_of}
use Rattle.xe_modrm.specs.Prefix.{prefixes_of, prefix_part}
use Rattle.xe_opmap.specs.Encoding.{judged, immediates_part, operand_rest, modrm_part, after_operand, after_modrm, operand_row, row_part, group_cell, group_rest, group_part, cell_part, after_opcode, after_first_byte, decode_part}
use Rattle.xe_opmap.specs.Table.{one_byte_lines, two_byte_lines, lines_of, needs_reg, cell_at}
use Rattle.xe_walk.specs.Walk.{walk, entries}
use Rattle.xe_ctx.specs.Accept.{accepted, accessed}
use Rattle.xe_ctx.specs.Memory.{pieces}
use Rattle.xe_ctx.specs.Translate.{marks, marked}
use Rattle.xe_ctx.specs.Fetch.{code_byte, avail_from, avail}
use Rattle.xe_ctx.specs.Ports.{port_allowed}
use Rattle.xe_sys.specs.Port.{port_checked}
use Rattle.xe_ctx.specs.Privilege.{or_protection}
use Rattle.xe_ctx.specs.Operand.{operand_of, read_operand, write_operand}
use Rattle.xe_ctx.specs.Part.{give, stop, look, ask, ◌>>=◌ as ◌then◌}
use Rattle.xe_ctx.specs.Run.{do_request}
use Rattle.xe_core.specs.Call.{diverges}
use Rattle.xe_core.specs.Step.{step}
use Rattle.xe_core.specs.Turn.{turn_of}
use Rattle.xe_ctx.specs.Tape.{ask as reply}
use Rattle.xe_ctx.specs.Tree.{◌>>=◌, device, point}
use Rattle.xe_move.specs.Source.{read_source}
use Rattle.xe_core.specs.Worked.{WorkedSteps}

pub worked_steps : WorkedSteps
unfolding step turn_of diverges num avail avail_from code_byte walk entries accessed pieces marks marked reset_state holds in_ram byte_of reply ◌>>=◌ device point ask do_request port_checked port_allowed or_protection give stop look ◌then◌ accepted operand_of read_operand write_operand register_value with_register read_source prefixes_of prefix_part judged immediates_part operand_rest modrm_part after_operand after_modrm operand_row row_part group_cell group_rest group_part cell_part after_opcode after_first_byte decode_part one_byte_lines two_byte_lines lines_of needs_reg cell_at
worked_steps = record { mov = refl; input = refl; waits = refl; resumed = refl; hlt = refl; diverges = refl }
