use Rattle.std.specs.Prelude.{◌||◌, ℕ, Bool, false, ◌/◌, ◌%◌, ◌==◌, if◌then◌else◌}
use Rattle.xe_flags.specs.Status.{status_of, differ}
use Rattle.xe_flags.specs.declared.status.Status.{Status}

-- the conditions of "Jcc", "SETcc" and "CMOVcc" (SDM volume 2, appendix B, "Encoding of Conditional Test Field"),
-- by half of their even numbers

-- L of signed numbers
abbrev pub is_less : Status → Bool
is_less s = differ s.sign s.overflow

-- O, B, E, BE, S, P, L and LE, in this order
abbrev pub even_condition : ℕ → Status → Bool
even_condition n s =
    if n == 0 then s.overflow else
    (if n == 1 then s.carry else
    (if n == 2 then s.zero else
    (if n == 3 then s.carry || s.zero else
    (if n == 4 then s.sign else
    (if n == 5 then s.parity else
    (if n == 6 then is_less s else
    (if n == 7 then s.zero || is_less s else false)))))))

-- an odd number negates the one before it
abbrev pub condition : ℕ → ℕ → Bool
condition cc flags = differ (even_condition (cc / 2) (status_of flags)) (cc % 2 == 1)
