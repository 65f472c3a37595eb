use Rattle.xe_run.proofs.HexLaws.{IsWriting}
use Rattle.xe_run.proofs.line.write_hex.Given as goal

abbrev pub invariant-loop-at : goal.invariant-loop-at
invariant-loop-at l = IsWriting l.n l.at l.rest l.buf
