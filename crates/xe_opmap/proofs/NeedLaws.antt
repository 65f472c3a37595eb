use Rattle.std.proofs.Common.{◌≡◌, Bool, true, false, refl, arith, ap, Option, Some, None, ◌&&◌}
use Rattle.std.specs.Prelude.{not, ◌==◌}
use Rattle.std.proofs.lemmas.Bool.{or_parts}
use Rattle.std.proofs.lemmas.Bool.Decides.{nat_tests}
use Rattle.xe_modrm.specs.declared.part.Prefixes.{Prefixes}
use Rattle.xe_modrm.specs.declared.part.ModRm.{ModRm}
use Rattle.xe_opmap.specs.declared.form.InsnForm.{InsnForm}
use Rattle.xe_opmap.specs.declared.form.OperandKind.{OperandKind}
use Rattle.xe_opmap.specs.declared.form.OperandKind.TheVariants.{Nothing, Any, Memory, MemoryOnly, FromSegment, ToSegment, Control}
use Rattle.xe_opmap.specs.Encoding.{has_modrm, ends_outside, wrong_operand, is_memory, is_wrong, is_control}
use Rattle.xe_opmap.specs.Valid.{Need, Unknown, There, InMemory, FromSeg, ToSeg, OfControl, is_met, serves, is_kind, control_fits}

both : (a b : Bool) → a ≡ true → not b ≡ false → (a && b) ≡ true
both true true e f = refl
both true false e f = cc
both false b e f = cc

-- an operand that was judged is what its row needs
met : (n : Need) (k : OperandKind) (o : Option ModRm) → serves n k ≡ true → is_kind k o ≡ true → wrong_operand k o ≡ false → is_met n o ≡ true
met Unknown k o a b c = refl
met There Nothing o a b c = cc
met There Any None a b c = cc
met There Any (Some m) a b c = refl
met There Memory None a b c = cc
met There Memory (Some m) a b c = refl
met There MemoryOnly None a b c = cc
met There MemoryOnly (Some m) a b c = refl
met There FromSegment None a b c = cc
met There FromSegment (Some m) a b c = refl
met There ToSegment None a b c = cc
met There ToSegment (Some m) a b c = refl
met There Control None a b c = cc
met There Control (Some m) a b c = refl
met InMemory Nothing o a b c = cc
met InMemory Any o a b c = cc
met InMemory Memory None a b c = cc
met InMemory Memory (Some m) a b c = ap not c
met InMemory MemoryOnly None a b c = cc
met InMemory MemoryOnly (Some m) a b c = b
met InMemory FromSegment o a b c = cc
met InMemory ToSegment o a b c = cc
met InMemory Control o a b c = cc
met FromSeg Nothing o a b c = cc
met FromSeg Any o a b c = cc
met FromSeg Memory o a b c = cc
met FromSeg MemoryOnly o a b c = cc
met FromSeg FromSegment None a b c = cc
met FromSeg FromSegment (Some m) a b c = grind (arith, nat_tests)
met FromSeg ToSegment None a b c = cc
met FromSeg ToSegment (Some m) a b c = grind (arith, nat_tests)
met FromSeg Control o a b c = cc
met ToSeg Nothing o a b c = cc
met ToSeg Any o a b c = cc
met ToSeg Memory o a b c = cc
met ToSeg MemoryOnly o a b c = cc
met ToSeg FromSegment o a b c = cc
met ToSeg ToSegment None a b c = cc
met ToSeg ToSegment (Some m) a b c = grind (arith, nat_tests)
met ToSeg Control o a b c = cc
met OfControl Nothing o a b c = cc
met OfControl Any o a b c = cc
met OfControl Memory o a b c = cc
met OfControl MemoryOnly o a b c = cc
met OfControl FromSegment o a b c = cc
met OfControl ToSegment o a b c = cc
met OfControl Control None a b c = cc
met OfControl Control (Some m) a b c = both (m.md == 3) (is_control m.reg) b c

-- what is not wrong has an operand of the row's kind
pub need_is : (n : Need) (pre : Prefixes) (s : InsnForm) (o : Option ModRm) → serves n s.operand ≡ true → is_kind s.operand o ≡ true → is_wrong pre s o ≡ false → is_met n o ≡ true
need_is n pre s o a b c = met n s.operand o a b (or_parts (pre.lock && not (s.lock && is_memory o)) (wrong_operand s.operand o) c).1

-- an operand that was read for a row, and that doesn't end outside
pub kind_is : (k : OperandKind) (m : ModRm) → control_fits k m ≡ true → ends_outside k m ≡ false → is_kind k (Some m) ≡ true
kind_is Nothing m a b = refl
kind_is Any m a b = refl
kind_is Memory m a b = refl
kind_is MemoryOnly m a b = ap not b
kind_is FromSegment m a b = refl
kind_is ToSegment m a b = refl
kind_is Control m a b = a

pub kind_none : (k : OperandKind) → has_modrm k ≡ false → is_kind k None ≡ true
kind_none Nothing e = refl
kind_none Any e = cc
kind_none Memory e = cc
kind_none MemoryOnly e = cc
kind_none FromSegment e = cc
kind_none ToSegment e = cc
kind_none Control e = cc
