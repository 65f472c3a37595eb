use Rattle.std.proofs.Common.{◌≡◌, ◌+◌, ◌-◌, ◌/◌, length, arith}
use Rattle.xe_run.proofs.ToldLaws.{progress_begins, progress_more, progress_ends, progress_fails}
use Rattle.xe_run.proofs.TextLaws.{memory-more, memory-past, memory-whole}
use Rattle.xe_run.proofs.print.print_memory.Goals as goal

pub loop-line-init : goal.loop-line-init
loop-line-init g c =
    let all : (length c.args.bytes.now + 15) / 16 - 0 ≡ (length c.args.bytes.now + 15) / 16 = omega arith in
    record {
      progress = rw (memory-whole c.args.pa c.args.bytes.now, all) (progress_begins _ _);
      count = omega arith;
    }

pub returns-in_err-print-clause-writes : goal.returns-in_err-print-clause-writes
returns-in_err-print-clause-writes g c =
    let lines = (length c.args.bytes.now + 15) / 16 in
    progress_fails _ _ _ _ _ _ _ _ c.from_residual.ensures.0 c.loop-line.invariant.progress (memory-more c.args.pa c.args.bytes.now c.loop-line.line (lines - c.loop-line.line) (lines - (c.loop-line.line + 1)) c.memory_line.result (omega (arith, c.loop-line-test.true)) c.memory_line.ensures) c.in_err-print.ensures.writes

pub loop-line-preserved : goal.loop-line-preserved
loop-line-preserved g c =
    let lines = (length c.args.bytes.now + 15) / 16 in
    record {
      progress = progress_more _ _ _ _ _ _ _ c.loop-line.invariant.progress (memory-more c.args.pa c.args.bytes.now c.loop-line.line (lines - c.loop-line.line) (lines - (c.loop-line.line + 1)) c.memory_line.result (omega (arith, c.loop-line-test.true)) c.memory_line.ensures) c.in_ok-print.ensures.writes;
      count = omega (arith, c.loop-line.invariant.count, c.print.ensures.count);
    }

pub returns-clause-writes : goal.returns-clause-writes
returns-clause-writes g c =
    let lines = (length c.args.bytes.now + 15) / 16 in
    progress_ends _ _ _ _ c.loop-line.invariant.progress (memory-past c.args.pa c.args.bytes.now c.loop-line.line (lines - c.loop-line.line) (omega (arith, c.loop-line-test.false)))
