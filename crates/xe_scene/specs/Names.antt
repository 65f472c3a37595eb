-- The names of commands, registers, intercepts, spaces and directions. Registers have the names of the SDM in lower case, as the trace prints
-- them; the other names are short words, of which a line has many.
use Rattle.std.specs.Prelude.{ℕ, if◌then◌else◌, List, Option, Some, None, Result, Ok, Err, codes}
use Rattle.std.specs.Str.{bytes_eq}
use Rattle.xe_base.specs.declared.access.Space.{Space}
use Rattle.xe_base.specs.declared.access.Space.TheVariants.{Mem, Port, Msr, Cpuid}
use Rattle.xe_icpt.specs.SvmNames.{svm_bit}
use Rattle.xe_icpt.specs.declared.svm_name.SvmName.{SvmName}
use Rattle.xe_scene.specs.declared.reason.Reason.{Reason}
use Rattle.xe_scene.specs.declared.reason.Reason.TheVariants.{UnknownCommand, UnknownName}
use Rattle.xe_scene.specs.declared.names.CommandName.{CommandName}
use Rattle.xe_scene.specs.declared.names.CommandName.TheVariants as commands
use Rattle.xe_scene.specs.declared.command.RegName.{RegName}
use Rattle.xe_scene.specs.declared.command.RegName.TheVariants.{Rax, Rcx, Rdx, Rbx, Rsp, Rbp, Rsi, Rdi, R8, R9, R10, R11, R12, R13, R14, R15, Rip, Rflags, Cr0, Cr2, Cr3, Cr4, Cr8, Efer, Kgs, Cpl}
use Rattle.xe_scene.specs.declared.command.SegReg.{SegReg}
use Rattle.xe_scene.specs.declared.command.SegReg.TheVariants.{Es, Cs, Ss, Ds, Fs, Gs, Ldtr, Tr}
use Rattle.xe_scene.specs.declared.command.DtName.{DtName}
use Rattle.xe_scene.specs.declared.command.DtName.TheVariants.{Gdtr, Idtr}
use Rattle.xe_scene.specs.declared.command.Dir.{Dir}
use Rattle.xe_scene.specs.declared.command.Dir.TheVariants.{Read, Write}

unfoldable pub command_name : List ℕ → Result CommandName Reason
command_name word =
    if bytes_eq word (codes "unicpt") then Ok commands.Unicpt
    else if bytes_eq word (codes "ioport") then Ok commands.Ioport
    else if bytes_eq word (codes "icptmsr") then Ok commands.Icptmsr
    else if bytes_eq word (codes "ram") then Ok commands.Ram
    else if bytes_eq word (codes "reg") then Ok commands.Reg
    else if bytes_eq word (codes "seg") then Ok commands.Seg
    else if bytes_eq word (codes "table") then Ok commands.Table
    else if bytes_eq word (codes "poke") then Ok commands.Poke
    else if bytes_eq word (codes "dev") then Ok commands.Dev
    else if bytes_eq word (codes "icpt") then Ok commands.Icpt
    else if bytes_eq word (codes "batch") then Ok commands.Batch
    else if bytes_eq word (codes "run") then Ok commands.Run
    else if bytes_eq word (codes "call") then Ok commands.Call
    else if bytes_eq word (codes "show") then Ok commands.Show
    else if bytes_eq word (codes "dump") then Ok commands.Dump
    else Err UnknownCommand

unfoldable pub register_name : List ℕ → Result RegName Reason
register_name word =
    if bytes_eq word (codes "rflags") then Ok Rflags
    else if bytes_eq word (codes "rax") then Ok Rax
    else if bytes_eq word (codes "rcx") then Ok Rcx
    else if bytes_eq word (codes "rdx") then Ok Rdx
    else if bytes_eq word (codes "rbx") then Ok Rbx
    else if bytes_eq word (codes "rsp") then Ok Rsp
    else if bytes_eq word (codes "rbp") then Ok Rbp
    else if bytes_eq word (codes "rsi") then Ok Rsi
    else if bytes_eq word (codes "rdi") then Ok Rdi
    else if bytes_eq word (codes "r8") then Ok R8
    else if bytes_eq word (codes "r9") then Ok R9
    else if bytes_eq word (codes "r10") then Ok R10
    else if bytes_eq word (codes "r11") then Ok R11
    else if bytes_eq word (codes "r12") then Ok R12
    else if bytes_eq word (codes "r13") then Ok R13
    else if bytes_eq word (codes "r14") then Ok R14
    else if bytes_eq word (codes "r15") then Ok R15
    else if bytes_eq word (codes "rip") then Ok Rip
    else if bytes_eq word (codes "cr0") then Ok Cr0
    else if bytes_eq word (codes "cr2") then Ok Cr2
    else if bytes_eq word (codes "cr3") then Ok Cr3
    else if bytes_eq word (codes "cr4") then Ok Cr4
    else if bytes_eq word (codes "cr8") then Ok Cr8
    else if bytes_eq word (codes "efer") then Ok Efer
    else if bytes_eq word (codes "kgs") then Ok Kgs
    else if bytes_eq word (codes "cpl") then Ok Cpl
    else Err UnknownName

-- the greatest value of a register
abbrev pub register_most : RegName → ℕ
register_most Rax = 0xffff_ffff_ffff_ffff
register_most Rcx = 0xffff_ffff_ffff_ffff
register_most Rdx = 0xffff_ffff_ffff_ffff
register_most Rbx = 0xffff_ffff_ffff_ffff
register_most Rsp = 0xffff_ffff_ffff_ffff
register_most Rbp = 0xffff_ffff_ffff_ffff
register_most Rsi = 0xffff_ffff_ffff_ffff
register_most Rdi = 0xffff_ffff_ffff_ffff
register_most R8 = 0xffff_ffff_ffff_ffff
register_most R9 = 0xffff_ffff_ffff_ffff
register_most R10 = 0xffff_ffff_ffff_ffff
register_most R11 = 0xffff_ffff_ffff_ffff
register_most R12 = 0xffff_ffff_ffff_ffff
register_most R13 = 0xffff_ffff_ffff_ffff
register_most R14 = 0xffff_ffff_ffff_ffff
register_most R15 = 0xffff_ffff_ffff_ffff
register_most Rip = 0xffff_ffff_ffff_ffff
register_most Rflags = 0xffff_ffff_ffff_ffff
register_most Cr0 = 0xffff_ffff_ffff_ffff
register_most Cr2 = 0xffff_ffff_ffff_ffff
register_most Cr3 = 0xffff_ffff_ffff_ffff
register_most Cr4 = 0xffff_ffff_ffff_ffff
register_most Cr8 = 0xffff_ffff_ffff_ffff
register_most Efer = 0xffff_ffff_ffff_ffff
register_most Kgs = 0xffff_ffff_ffff_ffff
register_most Cpl = 0xff

unfoldable pub segment_name : List ℕ → Result SegReg Reason
segment_name word =
    if bytes_eq word (codes "es") then Ok Es
    else if bytes_eq word (codes "cs") then Ok Cs
    else if bytes_eq word (codes "ss") then Ok Ss
    else if bytes_eq word (codes "ds") then Ok Ds
    else if bytes_eq word (codes "fs") then Ok Fs
    else if bytes_eq word (codes "gs") then Ok Gs
    else if bytes_eq word (codes "ldtr") then Ok Ldtr
    else if bytes_eq word (codes "tr") then Ok Tr
    else Err UnknownName

unfoldable pub table_name : List ℕ → Result DtName Reason
table_name word =
    if bytes_eq word (codes "gdtr") then Ok Gdtr
    else if bytes_eq word (codes "idtr") then Ok Idtr
    else Err UnknownName

unfoldable pub space_of : List ℕ → Result Space Reason
space_of word =
    if bytes_eq word (codes "mem") then Ok Mem
    else if bytes_eq word (codes "port") then Ok Port
    else if bytes_eq word (codes "msr") then Ok Msr
    else if bytes_eq word (codes "cpuid") then Ok Cpuid
    else Err UnknownName

unfoldable pub direction_of : List ℕ → Result Dir Reason
direction_of word =
    if bytes_eq word (codes "r") then Ok Read
    else if bytes_eq word (codes "w") then Ok Write
    else Err UnknownName

-- the intercept with these bits, where there is one
abbrev pub intercept_of : Option ℕ → Result SvmName Reason
intercept_of None = Err UnknownName
intercept_of (Some bits) = Ok (record { 0 = bits })

-- an intercept has the name that the table of intercepts gives it
unfoldable pub intercept_name : List ℕ → Result SvmName Reason
intercept_name word = intercept_of (svm_bit word)
