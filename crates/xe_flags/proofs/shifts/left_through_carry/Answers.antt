use Rattle.std.proofs.Common.{◌%◌, ◌+◌, ◌*◌, ◌^◌, arith}
use Rattle.std.specs.Int.{from_bool}
use Rattle.xe_flags.proofs.ShiftLaws.{left_is}
use Rattle.xe_flags.proofs.shifts.left_through_carry.Goals as goal

pub returns-clause-word : goal.returns-clause-word
returns-clause-word g c =
    let e = left_is (g.row.W + 1) (from_bool c.args.carry * 2 ^ g.row.W + c.args.a) (c.args.k % (g.row.W + 1)) (omega arith) in
    cc

pub returns-clause-carry : goal.returns-clause-carry
returns-clause-carry g c =
    let e = left_is (g.row.W + 1) (from_bool c.args.carry * 2 ^ g.row.W + c.args.a) (c.args.k % (g.row.W + 1)) (omega arith) in
    cc
