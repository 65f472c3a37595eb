use Rattle.std.proofs.Common.{arith, rules, ◌+◌, ◌-◌}
use Rattle.xe_ctx.proofs.Cut.{first-small, cut-room, cut-step, cut-done}
use Rattle.xe_ctx.proofs.chunk.chunks_of.Goals as goal

pub cut-preserved : goal.cut-preserved
cut-preserved c =
    let small = first-small (c.args.pa + c.cut.at) (c.args.n - c.cut.at) (omega arith) in
    record {
      in_range = omega (arith, c.first_of-size.ensures);
      is = rw (c.push.ensures.items, c.first_of-size.ensures) (cut-step c.cut.all.items c.args.pa c.cut.at c.args.n (omega arith) c.cut.invariant.is);
    }

pub returns : goal.returns
returns c = cut-done c.cut.all.items c.args.pa c.cut.at c.args.n (omega arith) c.cut.invariant.is

pub push-requires : goal.push-requires
push-requires c =
    let room = cut-room c.cut.all.items c.args.pa c.cut.at c.args.n (c.args.n - c.cut.at) c.requires.small (omega arith) c.cut.invariant.is in
    search (rules, room)
