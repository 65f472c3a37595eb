use Rattle.std.specs.Prelude.{ℕ, zero, suc, Bool, true, ◌&&◌}

-- each of the numbers below n passes the test
unfoldable pub each : ℕ → (ℕ → Bool) → Bool
each zero test = true
each (suc n) test = test n && each n test
