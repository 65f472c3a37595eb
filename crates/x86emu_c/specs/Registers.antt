use Rattle.xe_base.specs.declared.cpu.Cpu.{Cpu}
use Rattle.xe_base.specs.declared.segment.Seg.{Seg}
use Rattle.xe_base.specs.declared.segment.Table.{Table}
use Rattle.x86emu_c.specs.declared.registers.X86emuSegment.{X86emuSegment}
use Rattle.x86emu_c.specs.declared.registers.X86emuTable.{X86emuTable}
use Rattle.x86emu_c.specs.declared.registers.X86emuCpu.{X86emuCpu}

-- The registers that C's structs stand for: each field has its place, and nothing is lost.
abbrev pub seg_of : X86emuSegment → Seg
seg_of s = record { sel = s.selector; base = s.base; limit = s.limit; attr = s.attributes }

abbrev pub table_of : X86emuTable → Table
table_of t = record { base = t.base; limit = t.limit }

abbrev pub cpu_of : X86emuCpu → Cpu
cpu_of c = record {
  gpr = c.gpr;
  rip = c.rip;
  rflags = c.rflags;
  es = seg_of c.es;
  cs = seg_of c.cs;
  ss = seg_of c.ss;
  ds = seg_of c.ds;
  fs = seg_of c.fs;
  gs = seg_of c.gs;
  ldtr = seg_of c.ldtr;
  tr = seg_of c.tr;
  gdtr = table_of c.gdtr;
  idtr = table_of c.idtr;
  cr0 = c.cr0;
  cr2 = c.cr2;
  cr3 = c.cr3;
  cr4 = c.cr4;
  cr8 = c.cr8;
  efer = c.efer;
  kgs = c.kgs;
  cpl = c.cpl;
}
