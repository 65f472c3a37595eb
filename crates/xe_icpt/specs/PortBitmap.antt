use Rattle.std.specs.Prelude.{ℕ, zero, suc, ◌/◌, ◌%◌, ◌==◌, List, Bool, if◌then◌else◌, slice_index}
use Rattle.std.specs.Int.{bit_at}
use Rattle.std.specs.FinSet.{empty, insert}
use Rattle.xe_icpt.specs.Ports.{Ports}

-- A set of ports as a bitmap in words of 64 bits: how the code holds it.

-- the port's bit is set in the bitmap
unfoldable pub port_bit : List ℕ → ℕ → Bool
port_bit words port = bit_at (slice_index words (port / 64)) (port % 64) == 1

-- the ports below a number whose bits are set
unfoldable pub ports_below : List ℕ → ℕ → Ports
ports_below words zero = empty
ports_below words (suc n) = if port_bit words n then insert (ports_below words n) n else ports_below words n

-- the set that a bitmap of the 65,536 ports holds
unfoldable pub ports_of : List ℕ → Ports
ports_of words = ports_below words 65536
