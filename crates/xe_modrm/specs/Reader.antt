use Rattle.std.specs.Prelude.{ℕ, ◌≡◌, ◌+◌, ◌≤◌, ◌<◌, nat_lt, List, [], ◌∷◌, length, take, drop, if◌then◌else◌}
use Rattle.std.specs.List.{All}
use Rattle.xe_modrm.specs.declared.part.Part.{Part}
use Rattle.xe_modrm.specs.declared.part.Part.TheVariants.{Got, More}

-- The encoding of an instruction is a sequence of parts (SDM volume 2, section 2.1): each is read
-- at the front of some bytes, and the next part in the bytes after it.

-- how a part is read at the front of some bytes
abbrev pub Reader : Type 0 → Type 0
Reader A = List ℕ → Part A

-- a part that is found n bytes further on, counted from the front
abbrev pub after_bytes : {A : Type 0} → ℕ → Part A → Part A
after_bytes n (Got v m) = Got v (n + m)
after_bytes n More = More

abbrev pub continued : {A B : Type 0} → Part A → List ℕ → (A → Reader B) → Part B
continued (Got v n) bytes g = after_bytes n (g v (drop n bytes))
continued More bytes g = More

-- one part, and then the next in the bytes after it
infixl 10 ◌>>=◌
abbrev pub ◌>>=◌ : {A B : Type 0} → Reader A → (A → Reader B) → Reader B
(f >>= g) bytes = continued (f bytes) bytes g

-- a part of no bytes
abbrev pub given : {A : Type 0} → A → Reader A
given v bytes = Got v 0

-- n bytes
abbrev pub some_bytes : ℕ → Reader (List ℕ)
some_bytes n bytes = if nat_lt (length bytes) n then More else Got (take n bytes) n

abbrev pub one_byte : Reader ℕ
one_byte [] = More
one_byte (b ∷ bs) = Got b 1

-- the whole list, and no less of it, is this part
abbrev pub Decides : {A : Type 0} → Reader A → List ℕ → A → Type 0
Decides f bytes v = f bytes ≡ Got v (length bytes)

-- numbers that are bytes
abbrev pub AreBytes : List ℕ → Type 0
AreBytes xs = All (λ b. b < 256) xs

-- a part takes no more bytes than there are
abbrev pub Within : {A : Type 0} → Part A → List ℕ → Type 0
Within (Got v n) bytes = n ≤ length bytes
Within More bytes = Unit {0}
