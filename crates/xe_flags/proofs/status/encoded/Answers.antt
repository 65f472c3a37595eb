use Rattle.xe_flags.proofs.FlagLaws.{encoded_is}
use Rattle.xe_flags.proofs.status.encoded.Goals as goal

pub returns : goal.returns
returns c = encoded_is _ _ _ _ _ _
