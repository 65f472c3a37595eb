use Rattle.std.proofs.Common.{ap, rules, List, ℕ, Some, drop}
use Rattle.xe_run.proofs.ToldLaws.{read_front}
use Rattle.xe_run.proofs.memory.SteadySourceSource.read.Goals as goal

pub returns-clause-taken : goal.returns-clause-taken
returns-clause-taken c =
    let s = c.args.self.now in
    ap (λ (x : List ℕ). Some x) (read_front s.bytes.items c.deref.result.now c.copy_from_slice.new.self (drop c.min-count.result c.args.buf.now) s.at c.min-count.result c.deref.ensures.value c.copy_from_slice.ensures.after (search rules))
