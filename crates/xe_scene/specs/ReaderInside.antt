-- How a reader is kept: beside the scene so far stand the counts that its bounds need, so that a line costs no count of the lines
-- before it.
use Rattle.std.specs.Prelude.{◌≡◌, ◌≤◌, All, length, sum_by, vec_len}
use Rattle.xe_mem.specs.Layout.{IsLayout, end_behind, total}
use Rattle.xe_scene.specs.declared.reader.Reader.TheInside.{Inside}
use Rattle.xe_scene.specs.Content.{Content, item_count, step_count, queues_of, pairs_of}
use Rattle.xe_scene.specs.Formed.{IsFormed}

abbrev pub content : Inside → Content
content r = record { regions = r.regions.items; commands = r.commands.items }

pub record IsCounted (r : Inside) : Type 0 where
  pub regions : IsLayout r.regions.items
  pub count : vec_len r.commands ≤ 4096
  pub formed : All IsFormed r.commands.items
  pub ram : r.ram ≡ total r.regions.items
  pub ram_most : r.ram ≤ 0x100_0000
  pub ram_end : r.ram_end ≡ end_behind 0 r.regions.items
  pub items : r.items ≡ sum_by item_count r.commands.items
  pub items_most : r.items ≤ 4096
  pub steps : r.steps ≡ sum_by step_count r.commands.items
  pub steps_most : r.steps ≤ 1000000
  pub queues : r.queues.items ≡ queues_of r.commands.items
  pub queues_most : length r.queues.items ≤ 256
  pub pairs : r.pairs.items ≡ pairs_of r.commands.items
  pub pairs_most : length r.pairs.items ≤ 64
