use Rattle.std.proofs.Common.{◌≡◌, ℕ, ◌+◌, ◌<◌, List, ◌++◌, length, drop, get_or, map, ap, arith}
use Rattle.xe_base.specs.declared.access.Made.{Made}
use Rattle.xe_run.specs.Text.{text, line_of}
use Rattle.xe_run.specs.Drive.{io_event}
use Rattle.xe_run.specs.Reported.{count_at, with_waits_from}
use Rattle.xe_run.specs.Turn.{counted}
use Rattle.xe_run.specs.declared.event.Event.TheVariants.{Io}
use Rattle.xe_run.proofs.ToldLaws.{progress_more, progress_ends, progress_fails}
use Rattle.xe_run.proofs.TextLaws.{waited-drop, waited-past}
use Rattle.xe_run.proofs.print.print_waited.Goals as goal

-- the line of the access at a place, and those behind it
one_line : (xs : List Made) (counts : List ℕ) (i : ℕ) (d : Made) (waits : ℕ) → i < length xs → waits ≡ counted (count_at counts i)
    → text (map io_event (with_waits_from i (drop i xs) counts)) ≡ line_of (Io (get_or xs i d) waits) ++ text (map io_event (with_waits_from (i + 1) (drop (i + 1) xs) counts))
one_line xs counts i d waits lt same = waited-drop xs counts i d (Io (get_or xs i d) waits) lt (ap (λ (n : ℕ). Io (get_or xs i d) n) same)

pub returns-in_err-print_io-clause-writes : goal.returns-in_err-print_io-clause-writes
returns-in_err-print_io-clause-writes g c =
    progress_fails _ _ _ _ _ _ _ _ c.from_residual.ensures.0 c.loop-at.invariant.progress (one_line c.args.accesses.now c.args.waits.now c.loop-at.at _ c.count_at.result c.loop-at-test.true c.count_at.ensures) c.in_err-print_io.ensures.writes

pub loop-at-preserved : goal.loop-at-preserved
loop-at-preserved g c = record {
  progress = progress_more _ _ _ _ _ _ _ c.loop-at.invariant.progress (one_line c.args.accesses.now c.args.waits.now c.loop-at.at _ c.count_at.result c.loop-at-test.true c.count_at.ensures) c.in_ok-print_io.ensures.writes;
  count = omega (arith, c.loop-at.invariant.count, c.print_io.ensures.count);
}

pub returns-clause-writes : goal.returns-clause-writes
returns-clause-writes g c = progress_ends _ _ _ _ c.loop-at.invariant.progress (waited-past c.args.accesses.now c.args.waits.now c.loop-at.at (omega arith))
