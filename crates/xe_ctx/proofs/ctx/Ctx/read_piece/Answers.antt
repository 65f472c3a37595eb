use Rattle.std.proofs.Common.{◌≡◌, ◌∙◌, sym, ap, rules, true, false, length}
use Rattle.xe_base.proofs.Ram.{length-bytes}
use Rattle.xe_ctx.proofs.Work.{are_ram-patched}
use Rattle.xe_ctx.proofs.Pieces.{piece_ram, piece_out}
use Rattle.xe_ctx.proofs.ctx.Ctx.read_piece.Goals as goal

pub returns-then-not-is_ram-clause-part : goal.returns-then-not-is_ram-clause-part
returns-then-not-is_ram-clause-part g c =
    let f : c.is_ram.result ≡ false = search rules in
    λ at. piece_out _ _ _ _ _ _ (are_ram-patched _ _ _ _ ∙ sym c.is_ram.ensures ∙ f) c.read_devices.ensures.part

pub read-requires-clause-ram : goal.read-requires-clause-ram
read-requires-clause-ram g c = let t : c.is_ram.result ≡ true = search rules in sym c.is_ram.ensures ∙ t

pub returns-clause-size : goal.returns-clause-size
returns-clause-size g c = ap length c.read.ensures ∙ length-bytes _ _ _

pub returns-clause-part : goal.returns-clause-part
returns-clause-part g c =
    let t : c.is_ram.result ≡ true = search rules in
    λ at. piece_ram _ _ _ _ _ (are_ram-patched _ _ _ _ ∙ sym c.is_ram.ensures ∙ t) c.read.ensures
