use Rattle.std.proofs.Common.{◌≡◌, [], ◌∷◌, Bool, true, false, if◌then◌else◌, refl, arith}
use Rattle.xe_base.specs.Calm.{Calm}
use Rattle.xe_base.specs.Exceptions.{plain_exception, invalid_opcode}
use Rattle.xe_base.specs.State.{Valid}
use Rattle.xe_base.specs.declared.cpu.Cpu.{Cpu}
use Rattle.xe_opmap.specs.declared.insn.Insn.{Insn}
use Rattle.xe_opmap.specs.declared.row.Row.{Row}
use Rattle.xe_opmap.specs.declared.row.Row.TheVariants as row
use Rattle.xe_ctx.specs.Bounds.{TakesAtMost}
use Rattle.xe_ctx.specs.Finishes.{EachGives, IsSound}
use Rattle.xe_ctx.specs.Operand.{IsOf}
use Rattle.xe_ctx.specs.Tree.{Tree, fault}
use Rattle.xe_ctx.specs.declared.stop.Finish.{Finish}
use Rattle.xe_ctx.specs.Plain.{EndsPlainly}
use Rattle.xe_ctx.proofs.BoundLaws.{takes_more}
use Rattle.xe_ctx.proofs.FinishLaws.{each_implies}
use Rattle.xe_move.specs.Rows as moves
use Rattle.xe_move.proofs.CalmRows as move_rows
use Rattle.xe_move.proofs.BoundRows as move_bounds
use Rattle.xe_arith.specs.Rows as arith
use Rattle.xe_arith.proofs.CalmRows as arith_rows
use Rattle.xe_arith.proofs.BoundRows as arith_bounds
use Rattle.xe_flow.specs.Calmly.{EndsCalmly}
use Rattle.xe_flow.specs.Rows as flow
use Rattle.xe_flow.proofs.CalmRows as flow_rows
use Rattle.xe_flow.proofs.BoundRows as flow_bounds
use Rattle.xe_string.specs.Repeat.{EndsElement}
use Rattle.xe_string.specs.Rows as string
use Rattle.xe_string.proofs.CalmRows as string_rows
use Rattle.xe_string.proofs.BoundRows as string_bounds
use Rattle.xe_desc.specs.Rows as desc
use Rattle.xe_desc.proofs.CalmRows as desc_rows
use Rattle.xe_desc.proofs.BoundRows as desc_bounds
use Rattle.xe_far.specs.Rows as far
use Rattle.xe_far.proofs.SoundRows as far_rows
use Rattle.xe_far.proofs.BoundRows as far_bounds
use Rattle.xe_sys.specs.Rows as sys
use Rattle.xe_sys.proofs.SoundRows as sys_rows
use Rattle.xe_sys.proofs.BoundRows as sys_bounds
use Rattle.xe_core.specs.Rows.{table, owners, how_many, is_calm}

-- The laws of the table: a case for each crate.

-- each row is of exactly one crate
pub one_owner : (r : Row) → how_many (owners r) ≡ 1
one_owner row.Add = refl
one_owner row.Or = refl
one_owner row.Adc = refl
one_owner row.Sbb = refl
one_owner row.And = refl
one_owner row.Sub = refl
one_owner row.Xor = refl
one_owner row.Cmp = refl
one_owner row.Pushseg = refl
one_owner row.Popseg = refl
one_owner row.Daa = refl
one_owner row.Das = refl
one_owner row.Aaa = refl
one_owner row.Aas = refl
one_owner row.Aam = refl
one_owner row.Aad = refl
one_owner row.Inc = refl
one_owner row.Dec = refl
one_owner row.Push = refl
one_owner row.Pop = refl
one_owner row.Pusha = refl
one_owner row.Popa = refl
one_owner row.Arpl = refl
one_owner row.Movsxd = refl
one_owner row.Imul = refl
one_owner row.Ins = refl
one_owner row.Outs = refl
one_owner row.Jcc = refl
one_owner row.Test = refl
one_owner row.Xchg = refl
one_owner row.Mov = refl
one_owner row.Movseg = refl
one_owner row.Lea = refl
one_owner row.Nop = refl
one_owner row.Pause = refl
one_owner row.Cbw = refl
one_owner row.Cwd = refl
one_owner row.Callf = refl
one_owner row.Jmpf = refl
one_owner row.Pushf = refl
one_owner row.Popf = refl
one_owner row.Sahf = refl
one_owner row.Lahf = refl
one_owner row.Movs = refl
one_owner row.Cmps = refl
one_owner row.Stos = refl
one_owner row.Lods = refl
one_owner row.Scas = refl
one_owner row.Rol = refl
one_owner row.Ror = refl
one_owner row.Rcl = refl
one_owner row.Rcr = refl
one_owner row.Shl = refl
one_owner row.Shr = refl
one_owner row.Sar = refl
one_owner row.Ret = refl
one_owner row.Les = refl
one_owner row.Lds = refl
one_owner row.Lss = refl
one_owner row.Lfs = refl
one_owner row.Lgs = refl
one_owner row.Enter = refl
one_owner row.Leave = refl
one_owner row.Retf = refl
one_owner row.Iret = refl
one_owner row.Int3 = refl
one_owner row.Int = refl
one_owner row.Into = refl
one_owner row.Xlat = refl
one_owner row.Loopne = refl
one_owner row.Loope = refl
one_owner row.Loop = refl
one_owner row.Jcxz = refl
one_owner row.In = refl
one_owner row.Out = refl
one_owner row.Call = refl
one_owner row.Jmp = refl
one_owner row.Hlt = refl
one_owner row.Cmc = refl
one_owner row.Clc = refl
one_owner row.Stc = refl
one_owner row.Cli = refl
one_owner row.Sti = refl
one_owner row.Cld = refl
one_owner row.Std = refl
one_owner row.Not = refl
one_owner row.Neg = refl
one_owner row.Mul = refl
one_owner row.Div = refl
one_owner row.Idiv = refl
one_owner row.Sldt = refl
one_owner row.Str = refl
one_owner row.Lldt = refl
one_owner row.Ltr = refl
one_owner row.Verr = refl
one_owner row.Verw = refl
one_owner row.Sgdt = refl
one_owner row.Sidt = refl
one_owner row.Lgdt = refl
one_owner row.Lidt = refl
one_owner row.Smsw = refl
one_owner row.Lmsw = refl
one_owner row.Invlpg = refl
one_owner row.Swapgs = refl
one_owner row.Lar = refl
one_owner row.Lsl = refl
one_owner row.Clts = refl
one_owner row.Invd = refl
one_owner row.Wbinvd = refl
one_owner row.Movcr = refl
one_owner row.Wrmsr = refl
one_owner row.Rdtsc = refl
one_owner row.Rdmsr = refl
one_owner row.Cpuid = refl
one_owner row.Cmov = refl
one_owner row.Set = refl
one_owner row.Bt = refl
one_owner row.Bts = refl
one_owner row.Btr = refl
one_owner row.Btc = refl
one_owner row.Shld = refl
one_owner row.Shrd = refl
one_owner row.Cmpxchg = refl
one_owner row.Movzx = refl
one_owner row.Movsx = refl
one_owner row.Popcnt = refl
one_owner row.Bsf = refl
one_owner row.Bsr = refl
one_owner row.Xadd = refl
one_owner row.Cmpxchg8b = refl
one_owner row.Bswap = refl

none-of : (a b c d e f g : Bool) → how_many (a ∷ b ∷ c ∷ d ∷ e ∷ f ∷ g ∷ []) ≡ 1 → a ≡ false → b ≡ false → c ≡ false → d ≡ false → e ≡ false → f ≡ false → g ≡ false → ⊥
none-of true b c d e f g h t u v w x y z = cc
none-of false true c d e f g h t u v w x y z = cc
none-of false false true d e f g h t u v w x y z = cc
none-of false false false true e f g h t u v w x y z = cc
none-of false false false false true f g h t u v w x y z = cc
none-of false false false false false true g h t u v w x y z = cc
none-of false false false false false false true h t u v w x y z = cc
none-of false false false false false false false h t u v w x y z = omega arith

-- so one that is of none isn't there
pub some_owner : (r : Row) → moves.is_row r ≡ false → arith.is_row r ≡ false → flow.is_row r ≡ false → string.is_row r ≡ false → desc.is_row r ≡ false → far.is_row r ≡ false → sys.is_row r ≡ false → ⊥
some_owner r t u v w x y z = none-of (moves.is_row r) (arith.is_row r) (flow.is_row r) (string.is_row r) (desc.is_row r) (far.is_row r) (sys.is_row r) (one_owner r) t u v w x y z

-- a choice of which each way has a property
one : (P : Tree Finish → Type 0) (choice : Bool) (s t : Tree Finish) → (choice ≡ true → P s) → P t → P (if choice then s else t)
one P true s t x y = x refl
one P false s t x y = y

-- the table, of which the rows of each crate have a property
module _ (P : Tree Finish → Type 0) (nothing : P (fault (plain_exception invalid_opcode))) (insn : Insn) (cpu : Cpu) where
  all : (moves.is_row insn.row ≡ true → P (moves.row_of insn cpu)) → (arith.is_row insn.row ≡ true → P (arith.row_of insn cpu)) → (flow.is_row insn.row ≡ true → P (flow.row_of insn cpu)) → (string.is_row insn.row ≡ true → P (string.row_of insn cpu)) → (desc.is_row insn.row ≡ true → P (desc.row_of insn cpu)) → (far.is_row insn.row ≡ true → P (far.row_of insn cpu)) → (sys.is_row insn.row ≡ true → P (sys.row_of insn cpu)) → P (table insn cpu)
  all a b c d e f g = one P (moves.is_row insn.row) _ _ a (one P (arith.is_row insn.row) _ _ b (one P (flow.is_row insn.row) _ _ c (one P (string.is_row insn.row) _ _ d (one P (desc.is_row insn.row) _ _ e (one P (far.is_row insn.row) _ _ f (one P (sys.is_row insn.row) _ _ g nothing))))))

pub sound_table : (insn : Insn) (cpu : Cpu) → IsOf cpu insn → Valid cpu → EachGives IsSound (table insn cpu)
sound_table insn cpu of_ h = all (EachGives IsSound) tt insn cpu
    (λ e. move_rows.rows_sound insn cpu e of_ h)
    (λ e. arith_rows.rows_sound insn cpu e of_ h)
    (λ e. flow_rows.rows_sound insn cpu e of_ h)
    (λ e. string_rows.rows_sound insn cpu e of_ h)
    (λ e. desc_rows.rows_sound insn cpu e of_ h)
    (λ e. far_rows.rows_sound insn cpu e of_ h)
    (λ e. sys_rows.rows_sound insn cpu e of_ h)

pub few_table : (insn : Insn) (cpu : Cpu) → IsOf cpu insn → TakesAtMost 64 256 1014 (table insn cpu)
few_table insn cpu of_ = all (TakesAtMost 64 256 1014) tt insn cpu
    (λ e. takes_more 64 64 10 256 36 1014 (omega arith) (omega arith) (omega arith) (moves.row_of insn cpu) (move_bounds.rows_take_little insn cpu of_))
    (λ e. takes_more 64 64 12 256 38 1014 (omega arith) (omega arith) (omega arith) (arith.row_of insn cpu) (arith_bounds.rows_take_little insn cpu of_))
    (λ e. flow_bounds.rows_take_little insn cpu of_)
    (λ e. takes_more 64 64 9 256 48 1014 (omega arith) (omega arith) (omega arith) (string.row_of insn cpu) (string_bounds.rows_take_little insn cpu of_))
    (λ e. takes_more 64 64 12 256 42 1014 (omega arith) (omega arith) (omega arith) (desc.row_of insn cpu) (desc_bounds.rows_take_little insn cpu of_))
    (λ e. takes_more 64 64 30 256 92 1014 (omega arith) (omega arith) (omega arith) (far.row_of insn cpu) (far_bounds.rows_take_little insn cpu of_))
    (λ e. takes_more 64 64 6 256 30 1014 (omega arith) (omega arith) (omega arith) (sys.row_of insn cpu) (sys_bounds.rows_take_little insn cpu of_))

-- a choice of which the first four ways have a property
four : (P : Tree Finish → Type 0) (a b c d : Bool) (m r f s rest : Tree Finish) → (a ≡ true → P m) → (b ≡ true → P r) → (c ≡ true → P f) → (d ≡ true → P s) → (if a then true else (if b then true else (if c then true else d))) ≡ true → P (if a then m else (if b then r else (if c then f else (if d then s else rest))))
four P true b c d m r f s rest x y z w h = x refl
four P false true c d m r f s rest x y z w h = y refl
four P false false true d m r f s rest x y z w h = z refl
four P false false false true m r f s rest x y z w h = w refl
four P false false false false m r f s rest x y z w h = cc

pub calm_table : (insn : Insn) (cpu : Cpu) → is_calm insn.row ≡ true → IsOf cpu insn → Valid cpu → EachGives (λ (f : Finish). Calm cpu f.cpu) (table insn cpu)
calm_table insn cpu calm of_ h = four (EachGives (λ (f : Finish). Calm cpu f.cpu)) (moves.is_row insn.row) (arith.is_row insn.row) (flow.is_row insn.row) (string.is_row insn.row) _ _ _ _ _
    (λ e. each_implies (EndsPlainly insn cpu) (λ (f : Finish). Calm cpu f.cpu) (λ f p. p.calm) (moves.row_of insn cpu) (move_rows.rows_plain insn cpu e))
    (λ e. each_implies (EndsPlainly insn cpu) (λ (f : Finish). Calm cpu f.cpu) (λ f p. p.calm) (arith.row_of insn cpu) (arith_rows.rows_plain insn cpu e))
    (λ e. each_implies (EndsCalmly cpu) (λ (f : Finish). Calm cpu f.cpu) (λ f p. p.calm) (flow.row_of insn cpu) (flow_rows.rows_calm insn cpu e of_))
    (λ e. each_implies (EndsElement insn cpu) (λ (f : Finish). Calm cpu f.cpu) (λ f p. p.calm) (string.row_of insn cpu) (string_rows.rows_calm insn cpu e h))
    calm
