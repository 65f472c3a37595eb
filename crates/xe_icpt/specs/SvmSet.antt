use Rattle.std.specs.Prelude.{ℕ, ◌+◌, ◌*◌, ◌==◌, List, [], ◌∷◌, ◌++◌, Bool, true, false, ◌&&◌, codes, refl, Option, Some, None, if◌then◌else◌}
use Rattle.std.specs.List.{list_any}
use Rattle.std.specs.Option.{option_map}
use Rattle.std.specs.Int.RustNames.{bit_and}
use Rattle.std.proofs.Math.Bool.{beq}
use Rattle.std.specs.Coded.{Coded, code_by, coded×, coded_ℕ, coded_bool, coded_list}
use Rattle.std.specs.FinSet.{code}
use Rattle.xe_icpt.specs.declared.exit.Exit.{Exit}
use Rattle.xe_icpt.specs.declared.svm_name.SvmName.{SvmName}
use Rattle.xe_icpt.specs.declared.svm_set.MsrPair.{MsrPair}
use Rattle.xe_icpt.specs.declared.point.TableName.{TableName}
use Rattle.xe_icpt.specs.declared.point.TableName.TheVariants.{Idtr, Gdtr, Ldtr, Tr}
use Rattle.xe_icpt.specs.declared.point.Point.{Point}
use Rattle.xe_icpt.specs.declared.point.Point.TheVariants.{CrRead, CrWrite, Cr0Sel, TableRead, TableWrite, Rdtsc, Pushf, Popf, Cpuid, Iret, Swint, Invd, Pause, Hlt, Invlpg, Io, Msr, Wbinvd}
use Rattle.std.specs.Int.{from_bool}
use Rattle.xe_icpt.specs.Ports.{Ports, has_one_of}
use Rattle.xe_icpt.specs.SvmNames.{svm_bit, svm_code}

-- what a set of SVM intercepts holds: the bits of its names, a set of ports, and pairs of an MSR and a direction
pub record Svm : Type 0 where
  pub names : ℕ
  pub ports : Ports
  pub msrs : List MsrPair

-- how proofs tell two of them apart: a pair is stored as its fields, and so is what a set holds
abbrev pub pair_stored : Coded MsrPair
pair_stored = code_by (ℕ × Bool) (coded× coded_ℕ coded_bool) (λ m. (m.number, m.write)) (λ p. record { number = p.0; write = p.1 }) (λ _. refl)

abbrev pub stored : Coded Svm
stored = code_by (ℕ × (Ports × List MsrPair)) (coded× coded_ℕ (coded× (code coded_ℕ) (coded_list pair_stored))) (λ s. (s.names, (s.ports, s.msrs))) (λ p. record { names = p.0; ports = p.1.0; msrs = p.1.1 }) (λ _. refl)

-- the bits of a set of names
abbrev pub bits_of : SvmName → ℕ
bits_of name = name.0

-- all bits of a name are in the set; what is no name is in none
abbrev pub has_name : Svm → Option ℕ → Bool
has_name set (Some bits) = bit_and set.names bits == bits
has_name set None = false

-- the MSR is in the list with this direction
abbrev pub has_msr : List MsrPair → ℕ → Bool → Bool
has_msr msrs number write = list_any (λ m. (m.number == number) && beq m.write write) msrs

-- a control register's number as the digit at the end of its name
abbrev pub digit : ℕ → List ℕ
digit n = (48 + n) ∷ []

-- a table register as the end of its name
abbrev pub table_name : TableName → List ℕ
table_name Idtr = codes "idtr"
table_name Gdtr = codes "gdtr"
table_name Ldtr = codes "ldtr"
table_name Tr = codes "tr"

-- the name that intercepts a point
abbrev pub svm_name : Point → List ℕ
svm_name (CrRead n reg) = codes "read_cr" ++ digit n
svm_name (CrWrite n reg kind value mem) = codes "write_cr" ++ digit n
svm_name Cr0Sel = codes "cr0_sel"
svm_name (TableRead t) = codes "read_" ++ table_name t
svm_name (TableWrite t) = codes "write_" ++ table_name t
svm_name Rdtsc = codes "rdtsc"
svm_name Pushf = codes "pushf"
svm_name Popf = codes "popf"
svm_name Cpuid = codes "cpuid"
svm_name Iret = codes "iret"
svm_name (Swint vector) = codes "swint"
svm_name Invd = codes "invd"
svm_name Pause = codes "pause"
svm_name Hlt = codes "hlt"
svm_name (Invlpg la) = codes "invlpg"
svm_name (Io port size input string rep imm adsize seg next) = codes "ioio"
svm_name (Msr number write) = codes "msr"
svm_name Wbinvd = codes "wbinvd"

-- what must be set beside the name: for a port access one of its ports, for an MSR its pair
abbrev pub svm_asks : Svm → Point → Bool
svm_asks set (Io port size input string rep imm adsize seg next) = has_one_of set.ports port size
svm_asks set (Msr number write) = has_msr set.msrs number write
svm_asks set _ = true

-- EXITINFO1 of a port access (AMD64 APM volume 2, "IN, OUT and INS, OUTS intercepts"): the direction in bit 0, string in 2, REP in 3, the size as bit 4, 5 or 6, the address size as bit 7, 8 or 9, the segment in 12:10, the port in 31:16
abbrev pub io_word : ℕ → ℕ → Bool → Bool → Bool → ℕ → ℕ → ℕ
io_word port size input string rep adsize seg = from_bool input + 4 * from_bool string + 8 * from_bool rep + 16 * size + 64 * adsize + 1024 * seg + 65536 * port

-- the exit with this code at a point: words of information for ports and MSRs alone
abbrev pub svm_exit : Point → ℕ → Exit
svm_exit (Io port size input string rep imm adsize seg next) code = record { code = code; info1 = io_word port size input string rep adsize seg; info2 = next }
svm_exit (Msr number write) code = record { code = code; info1 = from_bool write; info2 = 0 }
svm_exit p code = record { code = code; info1 = 0; info2 = 0 }

-- the exit that a set of SVM intercepts takes at a point, if it takes one
unfoldable pub svm_hit : Svm → Point → Option Exit
svm_hit set p = if has_name set (svm_bit (svm_name p)) && svm_asks set p then option_map (svm_exit p) (svm_code (svm_name p)) else None
