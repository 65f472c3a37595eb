use Rattle.std.specs.Prelude.{ℕ, ◌≡◌, ◌+◌, ◌-◌, ◌<◌, ◌≤◌, ◌*◌, ◌^◌, List, length, take, drop, bit_and}
use Rattle.xe_base.specs.declared.cpu.CodeSize.{CodeSize}
use Rattle.xe_base.specs.Bytes.{num}
use Rattle.xe_modrm.specs.Reader.{AreBytes}
use Rattle.xe_opmap.specs.Encoding.{decode_part, finished}
use Rattle.xe_opmap.specs.Valid.{IsDecoded}
use Rattle.xe_opmap.specs.declared.insn.Insn.{Insn}
use Rattle.xe_opmap.specs.declared.known.Place.{Place}
use Rattle.xe_opmap.specs.declared.insn.Decoded.TheVariants as decoded

-- Instructions that were decoded before: what a place of the table says.

-- the bits of so many bytes
abbrev pub IsMask : ℕ → ℕ → Type 0
IsMask n m = m ≡ 2 ^ (8 * n) - 1

-- of so many bytes these many are the first, at most 7, and these the ones behind them
pub record IsSplit (n first rest : ℕ) : Type 0 where
  pub sum : first + rest ≡ n
  pub at_most : first ≤ 7
  pub few : rest ≤ 8
  pub full : 0 < rest → first ≡ 7

-- what the decoder says of each list of 15 bytes whose first 8, and whose last 8, are these numbers
abbrev pub Gives : CodeSize → ℕ → ℕ → Insn → Type 0
Gives size front back insn = (bytes : List ℕ) → AreBytes bytes → length bytes ≡ 15 → num (take 8 bytes) ≡ front → num (drop 7 bytes) ≡ back → finished (decode_part size bytes) ≡ decoded.Insn insn

-- where two numbers are, under the masks, those of a place, the instruction of the place is what the decoder says
pub record IsPlace (p : Place) : Type 0 where
  pub gives : (x y : ℕ) → bit_and x p.front_mask ≡ p.front → bit_and y p.back_mask ≡ p.back → Gives p.size x y p.insn
  pub ranges : (x y : ℕ) → bit_and x p.front_mask ≡ p.front → bit_and y p.back_mask ≡ p.back → IsDecoded p.size (decoded.Insn p.insn)
