use Rattle.std.proofs.Common.{◌≡◌, ◌<◌, ◌≤◌, ◌+◌, ◌^◌, drop, length}
use Rattle.xe_walk.specs.Walk.{walk}
use Rattle.xe_walk.proofs.Descents.{left}
use Rattle.xe_walk.proofs.walk.walk_tables.Given as goal

abbrev pub invariant-loop-level : goal.invariant-loop-level
invariant-loop-level g l = record {
  table : l.table < 2 ^ 40;
  used : length l.used.items ≡ l.level-index;
  same : g.P.Phys.ram l.ram ≡ g.P.Phys.ram l.fn.ram;
  grows : g.P.Phys.reads l.fn.ram ≤ g.P.Phys.reads l.ram;
  reads : g.P.Phys.reads l.ram ≤ g.P.Phys.reads l.fn.ram + l.level-index;
  walk : left (g.P.Phys.ram l.fn.ram) l.cpu l.la l.kind (drop l.level-index l.level-items) l.table l.used.items ≡ walk (g.P.Phys.ram l.fn.ram) l.cpu l.la l.kind;
}
