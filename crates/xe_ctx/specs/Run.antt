use Rattle.std.specs.Prelude.{true, false, Option, Some, None}
use Rattle.xe_base.specs.Bytes.{num, le}
use Rattle.xe_base.specs.declared.access.Answer.{Answer}
use Rattle.xe_base.specs.declared.access.Answer.TheVariants.{Val}
use Rattle.xe_icpt.specs.declared.exit.Exit.{Exit}
use Rattle.xe_ctx.specs.Memory.{locate, system_address, data_kind, system_kind, load_at, store_at, probe_at}
use Rattle.xe_ctx.specs.Ending.{Raises, Exits, Interrupts, HandsOver}
use Rattle.xe_ctx.specs.Part.{Part, Gave, Ends, then_ran, ◌>>=◌, give, stop, look, ask}
use Rattle.xe_ctx.specs.Tree.{Tree, asks, fault, event, handoff, Request, Load, LoadForWrite, Probe, Store, Device, Check, SysLoad, SysStore}
use Rattle.xe_ctx.specs.Tree.{give as gives}

-- a point that is intercepted ends the step
abbrev pub unless_hit : Option Exit → Part (Unit {0})
unless_hit None = give tt
unless_hit (Some e) = stop (Exits e)

-- what a request does; its answer is 0 where nothing is read
unfoldable pub do_request : Request → Part Answer
do_request (Load seg offset n) = do
  la ← locate seg offset n false
  bytes ← load_at (data_kind false) la n
  give (Val (num bytes))
do_request (LoadForWrite seg offset n) = do
  la ← locate seg offset n true
  bytes ← load_at (data_kind true) la n
  give (Val (num bytes))
do_request (Probe seg offset n) = do
  la ← locate seg offset n true
  _ ← probe_at la n
  give (Val 0)
do_request (Store seg offset n value) = do
  la ← locate seg offset n true
  _ ← store_at (data_kind true) la (le n value)
  give (Val 0)
do_request (Device a) = ask a
do_request (Check p) = do
  hit ← look (λ v. v.hits p)
  _ ← unless_hit hit
  give (Val 0)
do_request (SysLoad la n) = do
  at ← system_address la
  bytes ← load_at (system_kind false) at n
  give (Val (num bytes))
do_request (SysStore la n value) = do
  at ← system_address la
  _ ← store_at (system_kind true) at (le n value)
  give (Val 0)

-- the whole part of an instruction
abbrev pub run : {T : Type 0} → Tree T → Part T
run (asks r k) v s = then_ran (do_request r v s) (λ a. run (k a))
run (fault e) v s = Ends (Raises e) v s
run (event e) v s = Ends (Interrupts e) v s
run (handoff h) v s = Ends (HandsOver h) v s
run (gives x) v s = Gave x v s
