use Rattle.std.proofs.Common.{rules, arith, sym, ◌∙◌, ◌≡◌, ◌<◌, ◌≤◌, ◌+◌, ◌^◌, length, true}
use Rattle.xe_mem.specs.Layout.{fits_after, end_behind, total}
use Rattle.xe_mem.proofs.LayoutLaws.{fits-parts}
use Rattle.xe_scene.proofs.RegionLaws.{layout_push, last_end_push, total_push}
use Rattle.xe_scene.proofs.reader.Reader.put_region.Goals as goal

pub overflow_add-self-2 : goal.overflow_add-self-2
overflow_add-self-2 c =
    let parts = fits-parts c.self.inside.ram_end c.args.region (sym c.fits_after.ensures ∙ c.if-not-fits_after.false) in
    omega (arith, parts.below)

pub invariant_of-self : goal.invariant_of-self
invariant_of-self c =
    let i = c.self.invariant in
    let rs = c.self.inside.regions.items in
    let whole : fits_after (end_behind 0 rs) c.args.region ≡ true = rw (← i.ram_end) (sym c.fits_after.ensures ∙ c.if-not-fits_after.false) in
    let few : length rs < 16 = omega (arith, c.len.ensures.value) in
    let small : total rs + c.args.region.len ≤ 2 ^ 24 = rw (← i.ram) (omega (arith, c.saturating_add.ensures)) in
    record {
      regions = rw c.push.ensures.items (layout_push rs c.args.region i.regions whole few small);
      count = i.count;
      formed = i.formed;
      ram = rw (c.push.ensures.items, total_push rs c.args.region, ← i.ram);
      ram_most = search rules;
      ram_end = rw c.push.ensures.items (sym (last_end_push rs c.args.region));
      items = i.items;
      items_most = i.items_most;
      steps = i.steps;
      steps_most = i.steps_most;
      queues = i.queues;
      queues_most = i.queues_most;
      pairs = i.pairs;
      pairs_most = i.pairs_most;
    }
