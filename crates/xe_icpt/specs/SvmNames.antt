use Rattle.std.specs.Prelude.{ℕ, ◌*◌, List, [], ◌∷◌, codes, Option}
use Rattle.bitflags.specs.Sets.{find_name}

-- the names of the SVM intercepts with their exit codes (AMD64 APM volume 2, appendix "SVM Intercept Exit Codes"; the names are the words that a scenario has for them)
abbrev pub svm_codes : List (List ℕ × ℕ)
svm_codes =
    (codes "read_cr0", 0x00) ∷
    (codes "read_cr2", 0x02) ∷
    (codes "read_cr3", 0x03) ∷
    (codes "read_cr4", 0x04) ∷
    (codes "read_cr8", 0x08) ∷
    (codes "write_cr0", 0x10) ∷
    (codes "write_cr2", 0x12) ∷
    (codes "write_cr3", 0x13) ∷
    (codes "write_cr4", 0x14) ∷
    (codes "write_cr8", 0x18) ∷
    (codes "cr0_sel", 0x65) ∷
    (codes "read_idtr", 0x66) ∷
    (codes "read_gdtr", 0x67) ∷
    (codes "read_ldtr", 0x68) ∷
    (codes "read_tr", 0x69) ∷
    (codes "write_idtr", 0x6a) ∷
    (codes "write_gdtr", 0x6b) ∷
    (codes "write_ldtr", 0x6c) ∷
    (codes "write_tr", 0x6d) ∷
    (codes "rdtsc", 0x6e) ∷
    (codes "pushf", 0x70) ∷
    (codes "popf", 0x71) ∷
    (codes "cpuid", 0x72) ∷
    (codes "iret", 0x74) ∷
    (codes "swint", 0x75) ∷
    (codes "invd", 0x76) ∷
    (codes "pause", 0x77) ∷
    (codes "hlt", 0x78) ∷
    (codes "invlpg", 0x79) ∷
    (codes "ioio", 0x7b) ∷
    (codes "msr", 0x7c) ∷
    (codes "wbinvd", 0x89) ∷
    []

-- the names with their bits: the k-th name has bit k
abbrev pub with_bits : ℕ → List (List ℕ × ℕ) → List (List ℕ × ℕ)
with_bits bit [] = []
with_bits bit (row ∷ rows) = (row.0, bit) ∷ with_bits (2 * bit) rows

abbrev pub svm_table : List (List ℕ × ℕ)
svm_table = with_bits 1 svm_codes

-- the bit of a name, and its exit code; what is no name has neither
unfoldable pub svm_bit : List ℕ → Option ℕ
svm_bit name = find_name svm_table name

unfoldable pub svm_code : List ℕ → Option ℕ
svm_code name = find_name svm_codes name
