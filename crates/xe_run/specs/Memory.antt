-- Sources and sinks in memory, as their callers see them. This project's choice.
use Rattle.std.specs.Prelude.{ℕ, ◌+◌, ◌-◌, ◌==◌, nat_lt, min, Bool, ◌||◌, List, drop, length, vec_len, vec_capacity}
use Rattle.std.specs.List.{list_any}
use Rattle.xe_run.specs.Told.{last_count}
use Rattle.xe_run.specs.declared.memory.ListSource.{ListSource}
use Rattle.xe_run.specs.declared.memory.SteadySource.{SteadySource}
use Rattle.xe_run.specs.declared.memory.VecSink.{VecSink}

-- bytes in memory, the numbers of the calls that fail, counted from 0, and how many calls and faults there were
pub record InMemory : Type 0 where
  pub bytes : List ℕ
  pub failing : List ℕ
  pub calls : ℕ
  pub faults : ℕ

-- before the first call
abbrev pub uncalled : List ℕ → List ℕ → InMemory
uncalled bytes failing = record { bytes = bytes; failing = failing; calls = 0; faults = 0 }

-- a count that rises by one, and stays at its last value
abbrev pub raised : ℕ → ℕ
raised count = min (count + 1) last_count

-- the number of the next call is one of those that fail
abbrev pub fails_next : InMemory → Bool
fails_next m = list_any (λ call. call == m.calls) m.failing

-- after a call that failed: the bytes stay
abbrev pub after_failure : InMemory → InMemory
after_failure m = record m { calls = raised m.calls; faults = raised m.faults }

-- after a call that didn't fail and left these bytes
abbrev pub after_success : InMemory → List ℕ → InMemory
after_success m bytes = record m { bytes = bytes; calls = raised m.calls }

-- a source that may fail; its bytes are those that are left
abbrev pub source_in_memory : ListSource → InMemory
source_in_memory s = record { bytes = drop s.at s.bytes.items; failing = s.failing.items; calls = s.calls; faults = s.faults }

-- what is left of a source that never fails
abbrev pub steadily_left : SteadySource → List ℕ
steadily_left s = drop s.at s.bytes.items

-- a sink; its bytes are those that were written, behind those that it began with
abbrev pub sink_in_memory : VecSink → InMemory
sink_in_memory k = record { bytes = k.bytes.items; failing = k.failing.items; calls = k.calls; faults = k.faults }

-- how many bytes the spare room of a sink holds
abbrev pub room_in : VecSink → ℕ
room_in k = vec_capacity k.bytes - vec_len k.bytes

-- the next write of a piece fails: its number is one of those that do, or the spare room doesn't hold it
abbrev pub write_fails_next : VecSink → List ℕ → Bool
write_fails_next k piece = fails_next (sink_in_memory k) || nat_lt (room_in k) (length piece)
