use Rattle.std.proofs.Common.{◌%◌, arith}
use Rattle.xe_flags.specs.Decimals.{bcd_result}
use Rattle.xe_flags.proofs.DecimalLaws.{byte_minus}
use Rattle.xe_flags.proofs.decimals.decimal_difference.Goals as goal

pub returns-clause-ax : goal.returns-clause-ax
unfolding bcd_result
returns-clause-ax c =
    let e = byte_minus (c.args.ax % 256) c.correction.result (omega arith) in
    cc
