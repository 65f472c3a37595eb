use Rattle.std.proofs.Common.{refl}
use Rattle.bitflags.specs.Sets.{find_row}
use Rattle.xe_icpt.specs.SvmNames.{svm_code}
use Rattle.xe_icpt.proofs.svm_table.read_table_code.Goals as goal

pub returns-in-Idtr : goal.returns-in-Idtr
unfolding svm_code find_row
returns-in-Idtr c = rw c.in-Idtr.is refl

pub returns-in-Gdtr : goal.returns-in-Gdtr
unfolding svm_code find_row
returns-in-Gdtr c = rw c.in-Gdtr.is refl

pub returns-in-Ldtr : goal.returns-in-Ldtr
unfolding svm_code find_row
returns-in-Ldtr c = rw c.in-Ldtr.is refl

pub returns-in-Tr : goal.returns-in-Tr
unfolding svm_code find_row
returns-in-Tr c = rw c.in-Tr.is refl
