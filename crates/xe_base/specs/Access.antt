use Rattle.std.specs.Prelude.{ℕ, Bool, true, false, IsTrue, ◌==◌, ◌||◌, ◌&&◌, ◌^◌, ◌*◌, nat_lt, if◌then◌else◌}
use Rattle.xe_base.specs.declared.access.Space.{Space}
use Rattle.xe_base.specs.declared.access.Space.TheVariants.{Mem, Port, Msr, Cpuid}
use Rattle.xe_base.specs.declared.access.Access.{Access}
use Rattle.xe_base.specs.declared.access.Answer.{Answer}
use Rattle.xe_base.specs.declared.access.Answer.TheVariants.{Val, No}
use Rattle.xe_base.specs.declared.access.Made.{Made}

-- the sizes that an access to a space can have, in bytes
abbrev pub is_size_in : Space → ℕ → Bool
is_size_in Mem n = n == 1 || n == 2 || n == 4 || n == 8
is_size_in Port n = n == 1 || n == 2 || n == 4
is_size_in Msr n = n == 8
is_size_in Cpuid n = n == 8

-- an access that a step can make
abbrev pub is_well_formed : Access → Bool
is_well_formed a = is_size_in a.space a.size && (if a.write then nat_lt a.value (2 ^ (8 * a.size)) else a.value == 0)

abbrev pub IsWellFormed : Access → Type 0
IsWellFormed a = IsTrue (is_well_formed a)

-- only model-specific registers answer that there is none
abbrev pub is_msr : Space → Bool
is_msr Mem = false
is_msr Port = false
is_msr Msr = true
is_msr Cpuid = false

-- an answer that a device can give to an access
abbrev pub answers_to : Access → Answer → Bool
answers_to a (Val v) = nat_lt v (2 ^ (8 * a.size))
answers_to a No = is_msr a.space

-- an access that was made, with an answer that it can have
abbrev pub is_well_made : Made → Bool
is_well_made m = is_well_formed m.access && answers_to m.access m.answer

abbrev pub IsWellMade : Made → Type 0
IsWellMade m = IsTrue (is_well_made m)

-- the number of an answer, 0 where there is none
abbrev pub number_of : Answer → ℕ
number_of (Val v) = v
number_of No = 0
