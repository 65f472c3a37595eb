use Rattle.std.proofs.Common.{ℕ, ◌≡◌, ◌<◌, ◌≤◌, ◌+◌, ◌*◌, ◌%◌, ◌^◌, ◌⊎◌, inl, inr, List, length, get_or, refl, sym, subst, Bool, true, false, ◌&&◌, arith, if◌then◌else◌}
use Rattle.std.specs.Prelude.{All}
use Rattle.std.proofs.lemmas.List.Elements.{All-get_or, All-from_recursion}
use Rattle.std.proofs.lemmas.Nat.{pow_pos, shr_split, mod_below}
use Rattle.xe_base.specs.State.{pae, lma}
use Rattle.xe_base.specs.declared.cpu.Cpu.{Cpu}
use Rattle.xe_walk.specs.Format.{IsLevel, levels_of, levels_32, levels_pae, levels_4, field, is_large, pse, bits}
use Rattle.xe_walk.specs.declared.format.Level.{Level}

-- Every level of every format is a level.

no : (A : Type 0) → false ≡ true → A
no A h = absurd cc

-- a level of 4-byte or 8-byte entries without large pages, and those with them
small : (shift index_bits size address_bits reserved reserved_large : ℕ) → (size ≡ 4) ⊎ (size ≡ 8) → 2 ^ index_bits * size ≤ 4096 → index_bits ≤ 10 → shift ≤ 48 → (address_bits ≡ 32) ⊎ (address_bits ≡ 40)
    → IsLevel (record { shift = shift; index_bits = index_bits; size = size; address_bits = address_bits; has_large = false; reserved = reserved; reserved_large = reserved_large })
small shift index_bits size address_bits reserved reserved_large s t i h a = record { size = s; table = t; index_bits = i; shift = h; address_bits = a; large = no _ }

-- a level whose entries may map large pages
wide : (shift index_bits size address_bits reserved reserved_large : ℕ) → (large : Bool) → (size ≡ 4) ⊎ (size ≡ 8) → 2 ^ index_bits * size ≤ 4096 → index_bits ≤ 10 → shift ≤ 48 → (address_bits ≡ 32) ⊎ (address_bits ≡ 40)
    → (shift ≡ 21) ⊎ (shift ≡ 22) ⊎ (shift ≡ 30)
    → IsLevel (record { shift = shift; index_bits = index_bits; size = size; address_bits = address_bits; has_large = large; reserved = reserved; reserved_large = reserved_large })
wide shift index_bits size address_bits reserved reserved_large large s t i h a l = record { size = s; table = t; index_bits = i; shift = h; address_bits = a; large = λ _. l }

pub are-32 : (large : Bool) → All IsLevel (levels_32 large)
are-32 large = All-from_recursion IsLevel (levels_32 large) (
  wide 22 10 4 32 0 (bits 21 13) large (inl refl) (omega arith) (omega arith) (omega arith) (inl refl) (inr (inl refl)),
  (small 12 10 4 32 0 0 (inl refl) (omega arith) (omega arith) (omega arith) (inl refl), tt),
)

pub are-pae : All IsLevel levels_pae
are-pae = All-from_recursion IsLevel levels_pae (
  small 30 2 8 40 (bits 63 52 + bits 51 40 + bits 8 5 + bits 2 1) 0 (inr refl) (omega arith) (omega arith) (omega arith) (inr refl),
  (
    wide 21 9 8 40 (bits 62 52 + bits 51 40) (bits 20 13) true (inr refl) (omega arith) (omega arith) (omega arith) (inr refl) (inl refl),
    (small 12 9 8 40 (bits 62 52 + bits 51 40) 0 (inr refl) (omega arith) (omega arith) (omega arith) (inr refl), tt),
  ),
)

pub are-4 : All IsLevel levels_4
are-4 = All-from_recursion IsLevel levels_4 (
  small 39 9 8 40 (bits 51 40 + bits 7 7) 0 (inr refl) (omega arith) (omega arith) (omega arith) (inr refl),
  (
    wide 30 9 8 40 (bits 51 40) (bits 29 13) true (inr refl) (omega arith) (omega arith) (omega arith) (inr refl) (inr (inr refl)),
    (
      wide 21 9 8 40 (bits 51 40) (bits 20 13) true (inr refl) (omega arith) (omega arith) (omega arith) (inr refl) (inl refl),
      (small 12 9 8 40 (bits 51 40) 0 (inr refl) (omega arith) (omega arith) (omega arith) (inr refl), tt),
    ),
  ),
)

choose : (P : List Level → Type 0) (a b : Bool) (x y z : List Level) → P x → P y → P z → P (if a then x else (if b then y else z))
choose P true b x y z p q r = p
choose P false true x y z p q r = q
choose P false false x y z p q r = r

pub are-levels : (cpu : Cpu) → All IsLevel (levels_of cpu)
unfolding levels_of
are-levels cpu = choose (All IsLevel) (lma cpu) (pae cpu) levels_4 levels_pae (levels_32 (pse cpu)) are-4 are-pae (are-32 (pse cpu))

pub levels_length : (cpu : Cpu) → length (levels_of cpu) ≤ 4
unfolding levels_of
levels_length cpu = choose (λ ls. length ls ≤ 4) (lma cpu) (pae cpu) levels_4 levels_pae (levels_32 (pse cpu)) (omega arith) (omega arith) (omega arith)

abbrev pub no_level : Level
no_level = record { shift = 0; index_bits = 0; size = 0; address_bits = 0; has_large = false; reserved = 0; reserved_large = 0 }

pub level-at : (cpu : Cpu) (ls : List Level) (i : ℕ) (d : Level) → ls ≡ levels_of cpu → i < length ls → IsLevel (get_or ls i d)
level-at cpu ls i d e h =
    let P : List Level → Type 0 = λ xs. All IsLevel xs in
    let are : All IsLevel ls = subst P (sym e) (are-levels cpu) in
    All-get_or IsLevel ls i d h are

-- a field lies below its end
pub field-below : (below low x : ℕ) → field below low x < 2 ^ below
field-below below low x = omega (arith, shr_split (x % 2 ^ below) low, pow_pos below, mod_below x (2 ^ below) (pow_pos below))

has-large : (b c : Bool) → (b && c) ≡ true → b ≡ true
has-large true c h = refl
has-large false c h = no _ h

-- a large page has one of three sizes
pub large-shift : (level : Level) (e : ℕ) → IsLevel level → is_large level e ≡ true → (level.shift ≡ 21) ⊎ (level.shift ≡ 22) ⊎ (level.shift ≡ 30)
large-shift level e l h = l.large (has-large _ _ h)

pub large-below : (level : Level) (e : ℕ) → IsLevel level → is_large level e ≡ true → level.shift < 40
large-below level e l h = let s = large-shift level e l h in omega arith
