use Rattle.std.specs.Prelude.{List, map}
use Rattle.xe_mem.specs.declared.region.Region.{Region}
use Rattle.x86emu_c.specs.declared.access.X86emuRegion.{X86emuRegion}

-- the regions that C's structs stand for
abbrev pub region_of : X86emuRegion → Region
region_of r = record { start = r.start; len = r.length }

abbrev pub regions_of : List X86emuRegion → List Region
regions_of = map region_of
