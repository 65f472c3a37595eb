use Rattle.xe_flow.proofs.Moved.{of_moved}
use Rattle.xe_flow.proofs.stack.pop.Goals as goal

pub stack_operand-target-requires : goal.stack_operand-target-requires
stack_operand-target-requires g c = let e = c.release.ensures in let d = c.requires.draft in rw e (of_moved _ _ _ (rw d c.requires.of_code))
