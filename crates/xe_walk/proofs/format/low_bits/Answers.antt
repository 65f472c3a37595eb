use Rattle.std.proofs.Common.{◌≡◌, ◌*◌, ◌%◌, ◌^◌}
use Rattle.std.proofs.lemmas.Nat.{one_shl, and_mask}
use Rattle.xe_walk.proofs.format.low_bits.Goals as goal

pub returns : goal.returns
returns c =
    let e : (1 * 2 ^ c.args.n) % 2 ^ 64 ≡ 2 ^ c.args.n = one_shl c.args.n 64 c.requires in
    rw e (and_mask c.args.x c.args.n)
