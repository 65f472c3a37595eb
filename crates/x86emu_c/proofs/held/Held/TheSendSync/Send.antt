-- A machine's block may be freed on any thread, and its value may cross.
use mathlib.Core.List.{List, [], ◌∷◌}
use mir.Raw.{raw}
use base.Shift.{Keyless}
use denote.Memory.{lone}
use denote.RawPtr.{Ptr}
use denote.RattleType.{RattleType}
use denote.Param.Send.{IsSend, owning_send, struct_send, sendable}
use denote.Builtin.{RawPtr}
use denote.Struct.Struct.{exits_of}
use denote.Struct.Owning.{shape, fields, to}
use Rattle.std.proofs.Crossing.{frees}
use Rattle.x86emu_c.proofs.emulator.Emulator.TheSendSync.{the_send}
use Rattle.std_alloc.proofs.SendSync.{quiet, lies}
use Rattle.x86emu_c.specs.Owned.{held, chunk}
use Rattle.x86emu_c.specs.contracts.emulator.Emulator as inner
use Rattle.x86emu_c.specs.contracts.held.Held.{the_row, the_type}

abbrev R : RattleType
R = inner.the_row

inside : IsSend R
inside = the_send

keyless : (p : Ptr) (xs : List R.Denot) → Keyless (held chunk R p xs)
keyless p [] = tt
keyless p (x ∷ xs) = (lies R inside p x, frees.frees (record { memory = record { seal = tt } }) (raw (lone R.mir)) p)

pub send : IsSend the_row
send = let O = the_type in let ps : IsSend RawPtr = search sendable in
    owning_send O (ps, tt) (λ d. keyless d.at d.values) (λ k. quiet (to O) (exits_of k (fields O)) ((struct_send (shape O) (ps, tt)).leaving k))
