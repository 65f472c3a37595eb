use Rattle.std.proofs.Common.{ℕ, lit≤}
use Rattle.xe_base.specs.declared.cpu.Cpu.{Cpu}
use Rattle.xe_seg.specs.declared.descriptor.Descriptor.{Descriptor}
use Rattle.xe_ctx.specs.Bounds.{TakesAtMost}
use Rattle.xe_ctx.specs.Tree.{◌>>=◌, load_sys, store_sys}
use Rattle.xe_ctx.proofs.BoundLaws.{takes_if}
use Rattle.xe_desc.specs.DescriptorTable.{fetch_descriptor, read_descriptor, mark_accessed, is_in_table, is_fresh}

-- What the reading of a descriptor takes at most: requests, accesses and bytes of RAM touched.

pub takes_fetch : (cpu : Cpu) (sel : ℕ) → TakesAtMost 1 4 10 (fetch_descriptor cpu sel)
unfolding fetch_descriptor load_sys ◌>>=◌
takes_fetch cpu sel = (record { one = lit≤ tt; accesses_ = lit≤ tt; bytes_ = lit≤ tt }, λ a. tt)

pub takes_read : (cpu : Cpu) (sel : ℕ) → TakesAtMost 1 4 10 (read_descriptor cpu sel)
unfolding read_descriptor
takes_read cpu sel = takes_if 1 4 10 (is_in_table cpu sel 8) _ _ (takes_fetch cpu sel) tt

pub takes_mark : (cpu : Cpu) (sel : ℕ) (d : Descriptor) → TakesAtMost 1 1 11 (mark_accessed cpu sel d)
unfolding mark_accessed store_sys
takes_mark cpu sel d = takes_if 1 1 11 (is_fresh d) _ _ (record { one = lit≤ tt; accesses_ = lit≤ tt; bytes_ = lit≤ tt }, λ a. tt) tt
