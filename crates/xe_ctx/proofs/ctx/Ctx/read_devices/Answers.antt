use Rattle.std.proofs.Common.{arith, rules, refl, ap, ◌∙◌, length}
use Rattle.xe_ctx.specs.Chunks.{chunks}
use Rattle.xe_ctx.proofs.Cut.{tiles-chunks, tiles-step, tile-of, tiles-end}
use Rattle.xe_ctx.proofs.Binds.{gathers_none, gathers_step}
use Rattle.xe_ctx.proofs.ctx.Ctx.read_devices.Goals as goal

pub loop-c-init : goal.loop-c-init
loop-c-init g c = record {
  same = search rules;
  open_ = c.requires.open;
  accesses = omega arith;
  bytes = refl;
  tiles = rw c.new-all.ensures (tiles-chunks c.args.pa c.args.n);
  runs = rw c.new-all.ensures (gathers_none _ _ _);
}

pub read_chunk-requires-clause-aligned : goal.read_chunk-requires-clause-aligned
read_chunk-requires-clause-aligned g c =
    let t = tile-of _ _ _ _ _ (record { pa = 0; at = 0; size = 0 }) (c.as_slice-c-items.ensures.value ∙ c.chunks_of-chunks.ensures) c.loop-c-test.true c.loop-c.invariant.tiles in
    t.within.size

pub append-requires : goal.append-requires
append-requires g c =
    let t = tile-of _ _ _ _ _ (record { pa = 0; at = 0; size = 0 }) (c.as_slice-c-items.ensures.value ∙ c.chunks_of-chunks.ensures) c.loop-c-test.true c.loop-c.invariant.tiles in
    let inside = t.within.inside in
    let place = t.place in
    let size = c.in_ok-bytes.ensures.size in
    let same = ap length c.as_slice.ensures.value in
    let n = c.requires.small in
    omega arith

pub loop-c-preserved : goal.loop-c-preserved
loop-c-preserved g c = record {
  same = search rules;
  open_ = c.in_ok-bytes.ensures.open;
  accesses = omega arith;
  bytes = c.in_ok-bytes.ensures.bytes ∙ c.loop-c.invariant.bytes;
  tiles = tiles-step _ _ _ _ _ _ _ (record { pa = 0; at = 0; size = 0 }) (c.as_slice-c-items.ensures.value ∙ c.chunks_of-chunks.ensures) c.loop-c-test.true (ap length c.as_slice.ensures.value ∙ c.in_ok-bytes.ensures.size) c.append.ensures c.loop-c.invariant.tiles;
  runs = gathers_step _ _ _ _ _ _ (record { pa = 0; at = 0; size = 0 }) _ _ _ _ _ (c.as_slice-c-items.ensures.value ∙ c.chunks_of-chunks.ensures) c.loop-c-test.true c.as_slice.ensures.value c.append.ensures c.loop-c.invariant.runs c.in_ok-bytes.ensures.part;
}

pub returns-clause-size : goal.returns-clause-size
returns-clause-size g c = tiles-end (chunks c.args.pa c.args.n) c.loop-c.c-index _ _ (rw (← c.chunks_of-chunks.ensures, ← c.as_slice-c-items.ensures.value) c.loop-c-test.false) c.loop-c.invariant.tiles
