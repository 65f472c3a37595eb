use Rattle.std.proofs.Common.{ℕ, ◌≡◌, ◌+◌, ◌*◌, ◌/◌, ◌%◌, ◌^◌, ap, arith, nat_eq}
use Rattle.xe_seg.specs.Passing.{AttributesOf}
use Rattle.xe_seg.specs.declared.descriptor.Descriptor.{Descriptor}

kind_is : (x : ℕ) → (x / 2 ^ 40 % 2 ^ 8 + x / 2 ^ 52 % 2 ^ 4 * 2 ^ 8) % 2 ^ 4 ≡ x / 2 ^ 40 % 2 ^ 4
kind_is x = omega arith

s_is : (x : ℕ) → (x / 2 ^ 40 % 2 ^ 8 + x / 2 ^ 52 % 2 ^ 4 * 2 ^ 8) / 2 ^ 4 % 2 ≡ x / 2 ^ 44 % 2
s_is x = omega arith

dpl_is : (x : ℕ) → (x / 2 ^ 40 % 2 ^ 8 + x / 2 ^ 52 % 2 ^ 4 * 2 ^ 8) / 2 ^ 5 % 2 ^ 2 ≡ x / 2 ^ 45 % 2 ^ 2
dpl_is x = omega arith

present_is : (x : ℕ) → (x / 2 ^ 40 % 2 ^ 8 + x / 2 ^ 52 % 2 ^ 4 * 2 ^ 8) / 2 ^ 7 % 2 ≡ x / 2 ^ 47 % 2
present_is x = omega arith

l_is : (x : ℕ) → (x / 2 ^ 40 % 2 ^ 8 + x / 2 ^ 52 % 2 ^ 4 * 2 ^ 8) / 2 ^ 9 % 2 ≡ x / 2 ^ 53 % 2
l_is x = omega arith

db_is : (x : ℕ) → (x / 2 ^ 40 % 2 ^ 8 + x / 2 ^ 52 % 2 ^ 4 * 2 ^ 8) / 2 ^ 10 % 2 ≡ x / 2 ^ 54 % 2
db_is x = omega arith

g_is : (x : ℕ) → (x / 2 ^ 40 % 2 ^ 8 + x / 2 ^ 52 % 2 ^ 4 * 2 ^ 8) / 2 ^ 11 % 2 ≡ x / 2 ^ 55 % 2
g_is x = omega arith

pub attributes_of : (d : Descriptor) → AttributesOf d
attributes_of d = record {
  kind = kind_is d.raw;
  s = ap (λ x. nat_eq x 1) (s_is d.raw);
  dpl = dpl_is d.raw;
  present = ap (λ x. nat_eq x 1) (present_is d.raw);
  l = ap (λ x. nat_eq x 1) (l_is d.raw);
  db = ap (λ x. nat_eq x 1) (db_is d.raw);
  g = ap (λ x. nat_eq x 1) (g_is d.raw);
}
