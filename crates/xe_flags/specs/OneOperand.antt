use Rattle.std.specs.Prelude.{ℕ, ◌-◌, ◌^◌}
use Rattle.xe_flags.specs.Arithmetic.{sum_word, sum_status, difference_word, difference_status}
use Rattle.xe_flags.specs.Status.{status_of, with_status}
use Rattle.xe_flags.specs.declared.one_operand.UnOp.{UnOp}
use Rattle.xe_flags.specs.declared.one_operand.UnOp.TheVariants.{Inc, Dec, Neg, Not}

-- SDM volume 2, "INC", "DEC", "NEG" and "NOT"
unfoldable pub unary_word : ℕ → UnOp → ℕ → ℕ
unary_word W Inc a = sum_word W a 1 0
unary_word W Dec a = difference_word W a 1 0
unary_word W Neg a = difference_word W 0 a 0
unary_word W Not a = 2 ^ W - 1 - a

-- INC and DEC keep the carry, and NOT keeps all flags
unfoldable pub unary_flags : ℕ → UnOp → ℕ → ℕ → ℕ
unary_flags W Inc a flags = with_status flags (record (sum_status W a 1 0) { carry = (status_of flags).carry })
unary_flags W Dec a flags = with_status flags (record (difference_status W a 1 0) { carry = (status_of flags).carry })
unary_flags W Neg a flags = with_status flags (difference_status W 0 a 0)
unary_flags W Not a flags = flags
