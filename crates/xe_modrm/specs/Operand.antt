use Rattle.std.specs.Prelude.{ℕ, Bool, true, false, length, ◌+◌, ◌*◌, ◌/◌, ◌%◌, ◌^◌, ◌==◌, ◌||◌, ◌&&◌, not, nat_lt, List, [], ◌∷◌, Option, Some, None, ℤ, if◌then◌else◌, slice_index}
use Rattle.xe_base.specs.Bytes.{num}
use Rattle.xe_base.specs.Words.{signed}
use Rattle.xe_modrm.specs.Register.{bx, bp, si, di}
use Rattle.xe_base.specs.declared.cpu.CodeSize.{CodeSize}
use Rattle.xe_base.specs.declared.cpu.CodeSize.TheVariants.{B16, B32, B64}
use Rattle.xe_modrm.specs.Reader.{Reader, ◌>>=◌, given, some_bytes, one_byte}
use Rattle.xe_modrm.specs.Prefix.{is_64_bit}
use Rattle.xe_modrm.specs.declared.part.Prefixes.{Prefixes}
use Rattle.xe_modrm.specs.declared.part.ModRm.{ModRm}

-- ModRM and SIB bytes: SDM volume 2, sections 2.1.3 to 2.1.5 with tables 2-1 to 2-3, and for
-- 64-bit code section 2.2.1.

-- addresses of 16 bits: 67 gives the other size in 16-bit and 32-bit code
abbrev pub is_short : CodeSize → Bool → Bool
is_short B16 other = not other
is_short B32 other = other
is_short B64 other = false

-- bit k of REX, as 8 more to a register number
abbrev pub eight : Option ℕ → ℕ → ℕ
eight None k = 0
eight (Some rex) k = 8 * (rex / 2 ^ k % 2)

-- bits 7:6, 5:3 and 2:0 of a ModRM byte; of a SIB byte they are scale, index and base
abbrev pub md_of : ℕ → ℕ
md_of m = m / 64

abbrev pub reg_of : ℕ → ℕ
reg_of m = m / 8 % 8

abbrev pub rm_of : ℕ → ℕ
rm_of m = m % 8

-- a SIB byte follows: rm 4 of a memory operand, whatever REX.B is
abbrev pub has_sib : Bool → ℕ → Bool
has_sib short m = not short && (not (md_of m == 3) && rm_of m == 4)

-- how many bytes the displacement has, by the ModRM byte and the SIB byte
abbrev pub disp_len : Bool → ℕ → ℕ → ℕ
disp_len short m sib =
    if md_of m == 3 then 0
    else (if md_of m == 1 then 1
    else (if md_of m == 2 then (if short then 2 else 4)
    else (if short then (if rm_of m == 6 then 2 else 0)
    else (if rm_of m == 5 || (rm_of m == 4 && rm_of sib == 5) then 4 else 0))))

-- the signed number that the bytes are, the lowest first: of n bytes one of 8 * n bits
abbrev pub signed_of : List ℕ → ℤ
signed_of bytes = signed (8 * length bytes) (num bytes)

-- the registers of a 16-bit address by rm: BX+SI, BX+DI, BP+SI, BP+DI, SI, DI, BP, BX
abbrev pub short_base : ℕ → Option ℕ
short_base m = if md_of m == 0 && rm_of m == 6 then None else Some (slice_index (bx ∷ bx ∷ bp ∷ bp ∷ si ∷ di ∷ bp ∷ bx ∷ []) (rm_of m))

abbrev pub short_index : ℕ → Option ℕ
short_index m = if nat_lt (rm_of m) 4 then Some (if rm_of m % 2 == 0 then si else di) else None

-- the base of a 32-bit or 64-bit address: the register of rm, or with rm 4 that of the SIB byte;
-- none for number 5 at mod 0, where a displacement stands alone
abbrev pub long_base : Option ℕ → ℕ → ℕ → Option ℕ
long_base rex m sib =
    if rm_of m == 4 then (if md_of m == 0 && rm_of sib == 5 then None else Some (rm_of sib + eight rex 0))
    else (if md_of m == 0 && rm_of m == 5 then None else Some (rm_of m + eight rex 0))

-- the index and its scale: index 4 without REX.X is none
abbrev pub long_index : Option ℕ → ℕ → ℕ → Option ℕ
long_index rex m sib = if rm_of m == 4 then (if reg_of sib + eight rex 1 == 4 then None else Some (reg_of sib + eight rex 1)) else None

abbrev pub long_scale : Option ℕ → ℕ → ℕ → ℕ
long_scale rex m sib = if rm_of m == 4 then (if reg_of sib + eight rex 1 == 4 then 1 else 2 ^ md_of sib) else 1

-- what a ModRM byte means together with its SIB byte and displacement
unfoldable pub operand_of : CodeSize → Prefixes → ℕ → ℕ → ℤ → ModRm
operand_of size pre m sib disp =
    let short = is_short size pre.adsize in
    let register = md_of m == 3 in
    record {
      md = md_of m;
      reg = reg_of m + eight pre.rex 2;
      rm = rm_of m + eight pre.rex 0;
      base = if register then None else (if short then short_base m else long_base pre.rex m sib);
      index = if register then None else (if short then short_index m else long_index pre.rex m sib);
      scale = if register || short then 1 else long_scale pre.rex m sib;
      disp = disp;
      rip_relative = is_64_bit size && (md_of m == 0 && rm_of m == 5);
    }

abbrev pub sib_part : Bool → Reader ℕ
sib_part true = one_byte
sib_part false = given 0

abbrev pub disp_part : ℕ → Reader ℤ
disp_part n = some_bytes n >>= λ ds. given (signed_of ds)

-- what follows the ModRM byte m: a SIB byte, a displacement, or nothing
unfoldable pub operand_after : CodeSize → Prefixes → ℕ → Reader ModRm
operand_after size pre m = do
  sib ← sib_part (has_sib (is_short size pre.adsize) m)
  disp ← disp_part (disp_len (is_short size pre.adsize) m sib)
  given (operand_of size pre m sib disp)

-- ModRM byte, SIB byte and displacement
unfoldable pub operand_part : CodeSize → Prefixes → Reader ModRm
operand_part size pre = one_byte >>= operand_after size pre
