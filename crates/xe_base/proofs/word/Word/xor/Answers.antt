use Rattle.std.proofs.lemmas.Nat.{xor_lt}
use Rattle.xe_base.proofs.word.Word.xor.Goals as goal

pub invariant_of-result : goal.invariant_of-result
invariant_of-result g c = (c.self.invariant.0, xor_lt _ _ _ c.self.invariant.1 c.other.invariant.1)
