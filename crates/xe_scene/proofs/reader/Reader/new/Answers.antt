use Rattle.std.proofs.Common.{rules, sym}
use Rattle.std.proofs.lemmas.List.Elements.{All-nil}
use Rattle.xe_scene.specs.Formed.{IsFormed}
use Rattle.xe_scene.proofs.RegionLaws.{layout_none, total_none, last_end_none}
use Rattle.xe_scene.proofs.reader.Reader.new.Goals as goal

pub invariant_of-result : goal.invariant_of-result
invariant_of-result c = record {
  regions = rw c.new.ensures layout_none;
  count = search rules;
  formed = rw c.new-2.ensures.items (All-nil IsFormed);
  ram = rw c.new.ensures (sym total_none);
  ram_most = search rules;
  ram_end = rw c.new.ensures (sym last_end_none);
  items = search rules;
  items_most = search rules;
  steps = search rules;
  steps_most = search rules;
  queues = search rules;
  queues_most = search rules;
  pairs = search rules;
  pairs_most = search rules;
}
