use Rattle.std.specs.Prelude.{ℕ, List}
use Rattle.xe_base.specs.Bytes.{num}
use Rattle.xe_ctx.specs.Part.{Part, ◌>>=◌, give}

-- a part that gives bytes, as the number that these are
abbrev pub numbered : Part (List ℕ) → Part ℕ
numbered m = m >>= (λ bytes. give (num bytes))
