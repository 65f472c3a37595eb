use Rattle.std.proofs.Common.{ℕ, ◌≡◌, ◌%◌, ◌^◌, List, Result, Ok, Err, true, false}
use Rattle.xe_base.specs.Bytes.{le}
use Rattle.xe_base.specs.declared.segment.SegName.{SegName}
use Rattle.xe_ctx.specs.Is.{Sight, Does, Is}
use Rattle.xe_ctx.specs.Memory.{locate, data_kind, system_kind, system_bits, system_address, load_at, store_at, probe_at}
use Rattle.xe_ctx.specs.Numbers.{numbered}
use Rattle.xe_ctx.specs.Run.{do_request}
use Rattle.xe_ctx.specs.Tree.{Load, LoadForWrite, Probe, Store, SysLoad, SysStore, load, load_for_write, probe, store, load_sys, store_sys}
use Rattle.xe_ctx.specs.declared.stop.Stop.{Stop}
use Rattle.xe_ctx.proofs.Binds.{does_then, does_stop, does_give, does_look}
use Rattle.xe_ctx.proofs.Numbers.{val_ends, val_stops}
use Rattle.xe_ctx.proofs.Trees.{is_asked, is_halted, run_gives}

-- the calls that move bytes, by their steps
module _ (seg : SegName) (offset n : ℕ) where
  pub load_ends : {la : ℕ} {old mid new : Sight} (res : Result ℕ Stop) → Does (locate seg offset n false) old (Ok la) mid → Does (numbered (load_at (data_kind false) la n)) mid res new → Is (load seg offset n) old res new
  unfolding load do_request
  load_ends (Ok v) d e = is_asked (Load seg offset n) _ (does_then _ d (val_ends _ e)) (run_gives _ _)
  load_ends (Err s) d e = is_halted (Load seg offset n) _ (does_then _ d (val_stops _ e))

  pub load_faults : {s : Stop} {old new : Sight} → Does (locate seg offset n false) old (Err s) new → Is (load seg offset n) old (Err s) new
  unfolding load do_request
  load_faults d = is_halted (Load seg offset n) _ (does_stop _ d)

  pub load_for_write_ends : {la : ℕ} {old mid new : Sight} (res : Result ℕ Stop) → Does (locate seg offset n true) old (Ok la) mid → Does (numbered (load_at (data_kind true) la n)) mid res new → Is (load_for_write seg offset n) old res new
  unfolding load_for_write do_request
  load_for_write_ends (Ok v) d e = is_asked (LoadForWrite seg offset n) _ (does_then _ d (val_ends _ e)) (run_gives _ _)
  load_for_write_ends (Err s) d e = is_halted (LoadForWrite seg offset n) _ (does_then _ d (val_stops _ e))

  pub load_for_write_faults : {s : Stop} {old new : Sight} → Does (locate seg offset n true) old (Err s) new → Is (load_for_write seg offset n) old (Err s) new
  unfolding load_for_write do_request
  load_for_write_faults d = is_halted (LoadForWrite seg offset n) _ (does_stop _ d)

  pub probe_faults : {s : Stop} {old new : Sight} → Does (locate seg offset n true) old (Err s) new → Is (probe seg offset n) old (Err s) new
  unfolding probe do_request
  probe_faults d = is_halted (Probe seg offset n) _ (does_stop _ d)

  pub probe_ends : {la : ℕ} {old mid new : Sight} (res : Result (Unit {0}) Stop) → Does (locate seg offset n true) old (Ok la) mid → Does (probe_at la n) mid res new → Is (probe seg offset n) old res new
  unfolding probe do_request
  probe_ends (Ok u) d e = is_asked (Probe seg offset n) _ (does_then _ d (does_then _ e does_give)) (run_gives _ _)
  probe_ends (Err s) d e = is_halted (Probe seg offset n) _ (does_then _ d (does_stop _ e))

  pub store_faults : (value : ℕ) {s : Stop} {old new : Sight} → Does (locate seg offset n true) old (Err s) new → Is (store seg offset n value) old (Err s) new
  unfolding store do_request
  store_faults value d = is_halted (Store seg offset n value) _ (does_stop _ d)

  whole : (value : ℕ) {la : ℕ} {old mid new : Sight} (res : Result (Unit {0}) Stop) → Does (locate seg offset n true) old (Ok la) mid → Does (store_at (data_kind true) la (le n value)) mid res new → Is (store seg offset n value) old res new
  unfolding store do_request
  whole value (Ok u) d e = is_asked (Store seg offset n value) _ (does_then _ d (does_then _ e does_give)) (run_gives _ _)
  whole value (Err s) d e = is_halted (Store seg offset n value) _ (does_then _ d (does_stop _ e))

  pub store_ends : (value : ℕ) (bytes : List ℕ) {la : ℕ} {old mid new : Sight} (res : Result (Unit {0}) Stop) → bytes ≡ le n value → Does (locate seg offset n true) old (Ok la) mid → Does (store_at (data_kind true) la bytes) mid res new → Is (store seg offset n value) old res new
  store_ends value bytes res is d e = whole value res d (rw is at e)

pub ruleset call_rules = (load_ends, load_faults, load_for_write_ends, load_for_write_faults, probe_faults, probe_ends, store_faults, store_ends)

-- the same of the system's memory
module _ (la n : ℕ) {at : ℕ} {old : Sight} (is_at : at ≡ la % 2 ^ system_bits old.step.start.cpu) where
  cut : Does (system_address la) old (Ok at) old
  unfolding system_address
  cut = rw is_at (does_look _ old)

  pub load_sys_ends : {new : Sight} (res : Result ℕ Stop) → Does (numbered (load_at (system_kind false) at n)) old res new → Is (load_sys la n) old res new
  unfolding load_sys do_request
  load_sys_ends (Ok v) d = is_asked (SysLoad la n) _ (does_then _ cut (val_ends _ d)) (run_gives _ _)
  load_sys_ends (Err s) d = is_halted (SysLoad la n) _ (does_then _ cut (val_stops _ d))

  whole-sys : (value : ℕ) {new : Sight} (res : Result (Unit {0}) Stop) → Does (store_at (system_kind true) at (le n value)) old res new → Is (store_sys la n value) old res new
  unfolding store_sys do_request
  whole-sys value (Ok u) d = is_asked (SysStore la n value) _ (does_then _ cut (does_then _ d does_give)) (run_gives _ _)
  whole-sys value (Err s) d = is_halted (SysStore la n value) _ (does_then _ cut (does_stop _ d))

  pub store_sys_ends : (value : ℕ) (bytes : List ℕ) {new : Sight} (res : Result (Unit {0}) Stop) → bytes ≡ le n value → Does (store_at (system_kind true) at bytes) old res new → Is (store_sys la n value) old res new
  store_sys_ends value bytes res is d = whole-sys value res (rw is at d)

pub ruleset system_rules = (load_sys_ends, store_sys_ends)
