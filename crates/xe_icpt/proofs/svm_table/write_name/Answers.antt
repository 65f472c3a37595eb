use Rattle.std.proofs.Common.{arith, refl}
use Rattle.bitflags.specs.Sets.{find_row}
use Rattle.xe_icpt.specs.SvmNames.{svm_bit}
use Rattle.xe_icpt.proofs.SvmRows.{no-other}
use Rattle.xe_icpt.proofs.svm_table.write_name.Goals as goal

pub returns-in-0 : goal.returns-in-0
unfolding svm_bit find_row
returns-in-0 c = rw c.in-0.is refl

pub returns-in-2 : goal.returns-in-2
unfolding svm_bit find_row
returns-in-2 c = rw c.in-2.is refl

pub returns-in-3 : goal.returns-in-3
unfolding svm_bit find_row
returns-in-3 c = rw c.in-3.is refl

pub returns-in-4 : goal.returns-in-4
unfolding svm_bit find_row
returns-in-4 c = rw c.in-4.is refl

pub returns-in-8 : goal.returns-in-8
unfolding svm_bit find_row
returns-in-8 c = rw c.in-8.is refl

pub unreachable-requires : goal.unreachable-requires
unreachable-requires c = absurd (no-other c.args.n c.requires (λ e. omega arith) (λ e. omega arith) (λ e. omega arith) (λ e. omega arith) (λ e. omega arith))
