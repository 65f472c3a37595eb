use Rattle.std.proofs.Common.{ℕ, Bool, lit≤, arith}
use Rattle.xe_base.specs.declared.access.Access.{Access}
use Rattle.xe_base.specs.declared.cpu.Cpu.{Cpu}
use Rattle.xe_base.specs.declared.segment.SegName.{SegName}
use Rattle.xe_opmap.specs.declared.insn.Insn.{Insn}
use Rattle.xe_opmap.specs.declared.row.Row.{Row}
use Rattle.xe_opmap.specs.declared.row.Row.TheVariants as row
use Rattle.xe_ctx.specs.Bounds.{TakesAtMost}
use Rattle.xe_ctx.specs.Operand.{IsOf, ends, size_by_opcode}
use Rattle.xe_ctx.specs.Tree.{◌>>=◌, load, store, probe, device, point}
use Rattle.xe_ctx.proofs.BoundLaws.{takes_then, takes_if}
use Rattle.xe_ctx.proofs.RowBounds.{Small, small-1, small-4, small-of, small-if, takes_port_allowed}
use Rattle.xe_string.specs.Compare.{cmps_element, scas_element}
use Rattle.xe_string.specs.Element.{element}
use Rattle.xe_string.specs.Port.{port_size, port_reached, received, ins_element, outs_element}
use Rattle.xe_string.specs.Repeat.{is_over, repeated}
use Rattle.xe_string.specs.Rows.{row_at, or_undefined, row_of}
use Rattle.xe_string.specs.Transfer.{movs_element, stos_element, lods_element}
use Rattle.xe_string.specs.declared.element.StringOp.{StringOp}

-- ---- single requests

loaded : (seg : SegName) (offset n : ℕ) → Small n → TakesAtMost 1 4 10 (load seg offset n)
unfolding load
loaded seg offset n s = (record { one = lit≤ tt; accesses_ = s.chunks; bytes_ = lit≤ tt }, λ a. tt)

stored : (seg : SegName) (offset n value : ℕ) → Small n → TakesAtMost 1 4 18 (store seg offset n value)
unfolding store
stored seg offset n value s = (let b = s.bytes in record { one = lit≤ tt; accesses_ = s.chunks; bytes_ = omega arith }, λ a. tt)

module _ (insn : Insn) (cpu : Cpu) (of_ : IsOf cpu insn) where
  small : Small (size_by_opcode insn)
  small = small-if _ 1 insn.opsize small-1 (small-of insn.opsize of_.parts.opsize)

  small-port : Small (port_size insn)
  small-port = small-if _ 4 (size_by_opcode insn) small-4 small

  -- ---- the elements

  most-movs : TakesAtMost 6 9 48 (movs_element insn cpu)
  unfolding movs_element
  most-movs = takes_then _ 5 5 38 (λ value. takes_then _ 4 1 20 (λ u. tt) 1 4 18 _ (stored _ _ _ value small)) 1 4 10 _ (loaded _ _ _ small)

  most-stos : TakesAtMost 6 9 48 (stos_element insn cpu)
  unfolding stos_element
  most-stos = takes_then _ 5 5 30 (λ u. tt) 1 4 18 _ (stored _ _ _ _ small)

  most-lods : TakesAtMost 6 9 48 (lods_element insn cpu)
  unfolding lods_element
  most-lods = takes_then _ 5 5 38 (λ value. tt) 1 4 10 _ (loaded _ _ _ small)

  most-cmps : TakesAtMost 6 9 48 (cmps_element insn cpu)
  unfolding cmps_element
  most-cmps = takes_then _ 5 5 38 (λ a. takes_then _ 4 1 28 (λ b. tt) 1 4 10 _ (loaded _ _ _ small)) 1 4 10 _ (loaded _ _ _ small)

  most-scas : TakesAtMost 6 9 48 (scas_element insn cpu)
  unfolding scas_element
  most-scas = takes_then _ 5 5 38 (λ b. tt) 1 4 10 _ (loaded _ _ _ small)

  most-reached : (input : Bool) (seg : SegName) → TakesAtMost 3 4 20 (port_reached insn cpu input seg)
  unfolding port_reached point
  most-reached input seg = takes_then _ 1 0 0 (λ u. (record { one = lit≤ tt; accesses_ = lit≤ tt; bytes_ = lit≤ tt }, λ a. tt)) 2 4 20 _ (takes_port_allowed cpu _ _)

  most-received : (port offset : ℕ) → TakesAtMost 3 5 28 (received port offset (port_size insn))
  unfolding received probe device ◌>>=◌
  most-received port offset = (record { one = lit≤ tt; accesses_ = lit≤ tt; bytes_ = lit≤ tt }, λ a. (record { one = lit≤ tt; accesses_ = lit≤ tt; bytes_ = lit≤ tt }, λ b. stored _ _ _ _ small-port))

  most-ins : TakesAtMost 6 9 48 (ins_element insn cpu)
  unfolding ins_element
  most-ins = takes_then _ 3 5 28 (λ u. takes_then _ 0 0 0 (λ v. tt) 3 5 28 _ (most-received _ _)) 3 4 20 _ (most-reached _ _)

  most-sent : (a : Access) → TakesAtMost 1 1 0 (device a)
  unfolding device
  most-sent a = (record { one = lit≤ tt; accesses_ = lit≤ tt; bytes_ = lit≤ tt }, λ x. tt)

  most-outs : TakesAtMost 6 9 48 (outs_element insn cpu)
  unfolding outs_element
  most-outs = takes_then _ 3 5 28 (λ u. takes_then _ 2 1 18 (λ value. takes_then _ 1 0 18 (λ a. tt) 1 1 0 _ (most-sent _)) 1 4 10 _ (loaded _ _ _ small-port)) 3 4 20 _ (most-reached _ _)

  most-element : (op : StringOp) → TakesAtMost 6 9 48 (element op insn cpu)
  most-element StringOp.Movs = most-movs
  most-element StringOp.Cmps = most-cmps
  most-element StringOp.Stos = most-stos
  most-element StringOp.Lods = most-lods
  most-element StringOp.Scas = most-scas
  most-element StringOp.Ins = most-ins
  most-element StringOp.Outs = most-outs

  -- ---- the rows

  most-repeated : (op : StringOp) → TakesAtMost 64 9 48 (repeated op insn cpu)
  most-repeated op = takes_if 64 9 48 (is_over insn cpu) (ends insn cpu) _ tt (takes_then _ 58 0 0 (λ after. tt) 6 9 48 _ (most-element op))

  taken-at : (r : Row) → TakesAtMost 64 9 48 (or_undefined (row_at r) insn cpu)
  taken-at row.Movs = most-repeated StringOp.Movs
  taken-at row.Cmps = most-repeated StringOp.Cmps
  taken-at row.Stos = most-repeated StringOp.Stos
  taken-at row.Lods = most-repeated StringOp.Lods
  taken-at row.Scas = most-repeated StringOp.Scas
  taken-at row.Ins = most-repeated StringOp.Ins
  taken-at row.Outs = most-repeated StringOp.Outs
  taken-at other = tt

-- the law of the whole crate
pub rows_take_little : (insn : Insn) (cpu : Cpu) → IsOf cpu insn → TakesAtMost 64 9 48 (row_of insn cpu)
rows_take_little insn cpu of_ = taken-at insn cpu of_ insn.row
