use Rattle.std.proofs.Common.{◌≡◌, ◌+◌, take, drop}
use Rattle.std.specs.List.{prefix_len}
use Rattle.xe_modrm.specs.Prefix.{is_prefix, prefixes_of}
use Rattle.xe_modrm.specs.Valid.{IsPrefixes}
use Rattle.xe_modrm.proofs.prefix.each_prefix.Given as goal

abbrev pub invariant-loop-i : goal.invariant-loop-i
invariant-loop-i l = record {
  found : l.found ≡ prefixes_of l.size (take l.i l.bytes);
  passed : prefix_len (is_prefix l.size) l.bytes ≡ l.i + prefix_len (is_prefix l.size) (drop l.i l.bytes);
  valid : IsPrefixes l.size l.found;
}
