use Rattle.std.proofs.Common.{◌%◌, ◌<◌, arith, ap, bit_and}
use Rattle.std.proofs.lemmas.List.Elements.{All-set, All-from_get_or}
use Rattle.xe_opmap.proofs.KnownLaws.{filled}
use Rattle.xe_opmap.specs.Known.{IsPlace}
use Rattle.xe_opmap.proofs.known.Known.keep.Goals as goal

pub split-front_bytes-requires : goal.split-front_bytes-requires
split-front_bytes-requires c = omega (arith, c.requires.ranges.at_most)

pub invariant_of-self : goal.invariant_of-self
invariant_of-self c = All-set IsPlace c.self.inside.places (c.args.rip % 512) _ (filled _ _ _ c.args.bytes.now (All-from_get_or (λ b. b < 256) c.args.bytes.now 0 (λ i h. c.fits-bytes i)) c.told-bytes c.requires.is c.requires.ranges c.split-front_bytes.ensures c.mask-front_mask.ensures c.mask-back_mask.ensures (ap (λ z. bit_and z c.mask-front_mask.result) c.front_of.ensures) (ap (λ z. bit_and z c.mask-back_mask.result) c.back_of.ensures)) c.self.invariant
