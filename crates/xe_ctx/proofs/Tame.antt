use Rattle.std.proofs.Common.{ℕ, ◌≡◌, ◌<◌, ◌-◌, ◌^◌, Bool, true, false, refl, ap, ◌∙◌, arith, if◌then◌else◌, List, slice_index, slice_set}
use Rattle.xe_base.specs.Calm.{fixed_flags}
use Rattle.xe_base.specs.Registers.{next_rip, rip_after, is_high_byte, with_high_byte, written, with_register}
use Rattle.xe_base.specs.State.{Valid, is_long, seg_db}
use Rattle.xe_base.specs.declared.cpu.CodeSize.TheVariants.{B16, B32, B64}
use Rattle.xe_base.specs.declared.cpu.Cpu.{Cpu}
use Rattle.xe_base.proofs.CalmLaws.{calm_keeps_valid}
use Rattle.xe_opmap.specs.declared.insn.Insn.{Insn}
use Rattle.xe_ctx.specs.Finishes.{EachGives, IsSound}
use Rattle.xe_ctx.specs.Operand.{write_operand, ends_with, ends}
use Rattle.xe_ctx.specs.Tree.{Tree, ◌>>=◌, store}
use Rattle.xe_ctx.specs.declared.operand.Operand.{Operand}
use Rattle.xe_ctx.specs.declared.operand.Operand.TheVariants.{Register, Memory}
use Rattle.xe_ctx.specs.declared.stop.Finish.{Finish}
use Rattle.xe_ctx.proofs.FinishLaws.{each_any, each_then}
use Rattle.xe_ctx.specs.Plain.{EndsPlainly}

-- the registers differ in the general ones at most, and in the flags that an instruction may change
pub record Tame (old new : Cpu) : Type 0 where
  pub rest : new ≡ record old { gpr = new.gpr; rflags = new.rflags }
  pub flags : fixed_flags new.rflags ≡ fixed_flags old.rflags

pub tame_same : (cpu : Cpu) → Tame cpu cpu
tame_same cpu = record { rest = refl; flags = refl }

pub tame_flags : {old new : Cpu} (flags : ℕ) → Tame old new → fixed_flags flags ≡ fixed_flags new.rflags → Tame old (record new { rflags = flags })
tame_flags flags t e = record { rest = ap (λ (c : Cpu). record c { rflags = flags }) t.rest; flags = e ∙ t.flags }

pub tame_if : (old a b : Cpu) (c : Bool) → Tame old a → Tame old b → Tame old (if c then a else b)
tame_if old a b true s t = s
tame_if old a b false s t = t

pub tame_gpr : (old new : Cpu) (registers : List ℕ) → Tame old new → Tame old (record new { gpr = registers })
tame_gpr old new registers t = record { rest = ap (λ (c : Cpu). record c { gpr = registers }) t.rest; flags = t.flags }

-- a general register is written
pub tame_register : {old new : Cpu} (n : ℕ) (rex : Bool) (r value : ℕ) → Tame old new → Tame old (with_register new n rex r value)
unfolding with_register
tame_register {old} {new} n rex r value t =
    let high : List ℕ = slice_set new.gpr (r - 4) (with_high_byte (slice_index new.gpr (r - 4)) value) in
    let whole : List ℕ = slice_set new.gpr r (written (is_long new) n (slice_index new.gpr r) value) in
    tame_if old (record new { gpr = high }) (record new { gpr = whole }) (is_high_byte n rex r) (tame_gpr old new high t) (tame_gpr old new whole t)

-- an operand is written
pub tame_operand : (insn : Insn) (old cpu : Cpu) (operand : Operand) (n value : ℕ) → Tame old cpu → EachGives (Tame old) (write_operand insn cpu operand n value)
unfolding write_operand
tame_operand insn old cpu (Register r) n value t = tame_register n _ r value t
tame_operand insn old cpu (Memory seg offset) n value t = each_then (Tame old) (λ x. Unit {0}) (store seg offset n _) _ (each_any _ _ (λ x. tt)) (λ x u. t)

-- ---- the end of an instruction

-- outside 64-bit code the next instruction begins below 2 ^ 32
pub pointer_in : (long db : Bool) (rip len : ℕ) → long ≡ false → rip_after (if long then B64 else (if db then B32 else B16)) rip len < 2 ^ 32
pointer_in true db rip len h = cc
pointer_in false true rip len h = omega arith
pointer_in false false rip len h = omega arith

pub plain_end : (insn : Insn) (cpu after : Cpu) → Tame cpu after → EndsPlainly insn cpu (ends_with insn after)
plain_end insn cpu after t =
    let made : Cpu = record cpu { gpr = after.gpr; rip = next_rip after insn.len; rflags = after.rflags } in
    let rest : record after { rip = next_rip after insn.len } ≡ made = ap (λ (c : Cpu). record c { rip = next_rip after insn.len }) t.rest in
    let same : next_rip after insn.len ≡ next_rip (record cpu { gpr = after.gpr; rflags = after.rflags }) insn.len = ap (λ (c : Cpu). next_rip c insn.len) t.rest in
    let pointer : is_long cpu ≡ false → next_rip after insn.len < 2 ^ 32 = (λ h. rw same (pointer_in (is_long cpu) (seg_db cpu.cs) _ insn.len h)) in
    record { calm = record { rest = rest; flags = t.flags; pointer = pointer }; next = same; more = refl; retire = refl }

-- from a valid state it leads to a valid one
pub plain_sound : (insn : Insn) (cpu : Cpu) → Valid cpu → (f : Finish) → EndsPlainly insn cpu f → IsSound f
plain_sound insn cpu valid f e = let r = e.retire in record { valid = calm_keeps_valid cpu f.cpu valid e.calm; retire = omega arith }

-- what does nothing but ask, and then goes on
pub asked_then : {A B : Type 0} (P : B → Type 0) (m : Tree A) (f : A → Tree B) → ((x : A) → EachGives P (f x)) → EachGives P (m >>= f)
asked_then P m f h = each_then P (λ x. Unit {0}) m f (each_any _ m (λ x. tt)) (λ x u. h x)

-- the last of a row: an operand is written, and the instruction ends
pub written_end : (insn : Insn) (old cpu : Cpu) (operand : Operand) (n value : ℕ) → Tame old cpu → EachGives (EndsPlainly insn old) (write_operand insn cpu operand n value >>= (λ after. ends insn after))
written_end insn old cpu operand n value t = each_then (EndsPlainly insn old) (Tame old) (write_operand insn cpu operand n value) _ (tame_operand insn old cpu operand n value t) (λ after s. plain_end insn old after s)

-- a choice
pub each_if : {A : Type 0} (P : A → Type 0) (c : Bool) (a b : Tree A) → EachGives P a → EachGives P b → EachGives P (if c then a else b)
each_if P true a b x y = x
each_if P false a b x y = y
