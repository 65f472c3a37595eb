use Rattle.std.proofs.Common.{ℕ, ◌≡◌, ◌<◌, ◌≤◌, ◌+◌, ◌-◌, ◌%◌, List, [], Result, Ok, Err, length, drop, take, arith, true, false}
use Rattle.std.proofs.lemmas.List.{take_all, length-drop, length-take}
use Rattle.xe_base.specs.Bytes.{le}
use Rattle.xe_base.specs.Ram.{Area, put_bytes}
use Rattle.xe_base.proofs.Bytes.{length-le}
use Rattle.xe_walk.specs.declared.rights.Kind.{Kind}
use Rattle.xe_ctx.specs.Chunks.{chunks, is_size, most}
use Rattle.xe_ctx.specs.Is.{Sight, Does}
use Rattle.xe_ctx.specs.Memory.{bits_of, next_page, place, are_ram, write_if, write_bytes, write_place, devices_write, width, store_at}
use Rattle.xe_ctx.specs.Part.{View}
use Rattle.xe_ctx.specs.declared.stop.Stop.{Stop}
use Rattle.xe_ctx.proofs.Binds.{does_then, does_stop, does_look, does_change, each_one, each_first, each_two, each_second}
use Rattle.xe_ctx.proofs.Pieces.{place-one, place-none, place-second, place-two, two-room}

-- a piece
module _ (v : Sight) (pa : ℕ) (bytes : List ℕ) where
  pub write_out : (res : Result (Unit {0}) Stop) (w : Sight) → are_ram v.step.work pa (length bytes) ≡ false → Does (devices_write pa bytes) v res w → Does (write_bytes pa bytes) v res w
  unfolding write_bytes write_if
  write_out res w f r = does_then _ (does_look _ v) (rw f r)

  pub write_ram : (w : List Area) (step : View) → are_ram v.step.work pa (length bytes) ≡ true → w ≡ put_bytes v.step.work pa bytes → step ≡ record v.step { work = w } → Does (write_bytes pa bytes) v (Ok tt) (record v { step = step })
  unfolding write_bytes write_if
  write_ram w step t e is = rw is (does_then _ (does_look _ v) (rw t (does_change _ v w e)))

-- a store of one piece and of two
module _ (kind : Kind) (la : ℕ) (bytes : List ℕ) where
  whole : (pa : ℕ) {old new : Sight} {res : Result (Unit {0}) Stop} → Does (write_bytes pa bytes) old res new → Does (write_place bytes (record { pa = pa; at = 0; n = length bytes })) old res new
  unfolding write_place
  whole pa r = rw (take_all (length bytes) bytes (omega arith)) r

  front : (pa : ℕ) {old new : Sight} {res : Result (Unit {0}) Stop} → Does (write_bytes pa (take (4096 - la % 4096) bytes)) old res new → Does (write_place bytes (record { pa = pa; at = 0; n = 4096 - la % 4096 })) old res new
  unfolding write_place
  front pa r = r

  back : (pa : ℕ) {old new : Sight} {res : Result (Unit {0}) Stop} → Does (write_bytes pa (take (length bytes - (4096 - la % 4096)) (drop (4096 - la % 4096) bytes))) old res new → Does (write_place bytes (record { pa = pa; at = 4096 - la % 4096; n = length bytes - (4096 - la % 4096) })) old res new
  unfolding write_place
  back pa r = r

  pub store_one : length bytes ≤ 4096 - la % 4096 → {pa : ℕ} {old mid new : Sight} → Does (place kind la) old (Ok pa) mid → Does (write_bytes pa bytes) mid (Ok tt) new → Does (store_at kind la bytes) old (Ok tt) new
  unfolding store_at width
  store_one h r t = does_then _ (does_look _ _) (does_then _ (place-one kind _ la (length bytes) h r) (each_one _ _ (whole _ t)))

  pub store_one_stop : length bytes ≤ 4096 - la % 4096 → {pa : ℕ} {s : Stop} {old mid new : Sight} → Does (place kind la) old (Ok pa) mid → Does (write_bytes pa bytes) mid (Err s) new → Does (store_at kind la bytes) old (Err s) new
  unfolding store_at width
  store_one_stop h r t = does_then _ (does_look _ _) (does_then _ (place-one kind _ la (length bytes) h r) (each_first _ _ [] (whole _ t)))

  pub store_no_place : {s : Stop} {old new : Sight} → Does (place kind la) old (Err s) new → Does (store_at kind la bytes) old (Err s) new
  unfolding store_at width
  store_no_place r = does_then _ (does_look _ _) (does_stop _ (place-none kind _ la (length bytes) r))

  module _ (h : 4096 - la % 4096 < length bytes) {next pa : ℕ} {old mid : Sight} (is : next ≡ next_page (bits_of old.step.start.cpu kind) la) (r : Does (place kind la) old (Ok pa) mid) where
    pub store_no_second : {s : Stop} {new : Sight} → Does (place kind next) mid (Err s) new → Does (store_at kind la bytes) old (Err s) new
    unfolding store_at width
    store_no_second t = does_then _ (does_look _ _) (does_stop _ (place-second kind _ la (length bytes) h is r t))

    module _ {pb : ℕ} {both : Sight} (t : Does (place kind next) mid (Ok pb) both) where
      pub store_first_stops : {s : Stop} {new : Sight} → Does (write_bytes pa (take (4096 - la % 4096) bytes)) both (Err s) new → Does (store_at kind la bytes) old (Err s) new
      unfolding store_at width
      store_first_stops x = does_then _ (does_look _ _) (does_then _ (place-two kind _ la (length bytes) h is r t) (each_first _ _ _ (front _ x)))

      module _ {part : Sight} (x : Does (write_bytes pa (take (4096 - la % 4096) bytes)) both (Ok tt) part) where
        pub store_second_stops : {s : Stop} {new : Sight} → Does (write_bytes pb (take (length bytes - (4096 - la % 4096)) (drop (4096 - la % 4096) bytes))) part (Err s) new → Does (store_at kind la bytes) old (Err s) new
        unfolding store_at width
        store_second_stops y = does_then _ (does_look _ _) (does_then _ (place-two kind _ la (length bytes) h is r t) (each_second _ _ _ (front _ x) (back _ y)))

        pub store_two : {new : Sight} → Does (write_bytes pb (take (length bytes - (4096 - la % 4096)) (drop (4096 - la % 4096) bytes))) part (Ok tt) new → Does (store_at kind la bytes) old (Ok tt) new
        unfolding store_at width
        store_two y = does_then _ (does_look _ _) (does_then _ (place-two kind _ la (length bytes) h is r t) (each_two _ _ _ (front _ x) (back _ y)))

        pub store_last : (res : Result (Unit {0}) Stop) {new : Sight} → Does (write_bytes pb (take (length bytes - (4096 - la % 4096)) (drop (4096 - la % 4096) bytes))) part res new → Does (store_at kind la bytes) old res new
        store_last (Ok u) y = store_two y
        store_last (Err e) y = store_second_stops y

  -- how many accesses the two pieces make at most
  pub store-room : (pa pb : ℕ) → is_size (length bytes) ≡ true → length bytes ≤ 16 → 4096 - la % 4096 < length bytes → pa % 4096 ≡ la % 4096 → pb % 4096 ≡ 0 → length (chunks pa (length (take (4096 - la % 4096) bytes))) + length (chunks pb (length (take (length bytes - (4096 - la % 4096)) (drop (4096 - la % 4096) bytes)))) ≤ most (length bytes)
  store-room pa pb s h l p q =
      let a : length (take (4096 - la % 4096) bytes) ≡ 4096 - la % 4096 = omega (arith, length-take (4096 - la % 4096) bytes) in
      let b : length (take (length bytes - (4096 - la % 4096)) (drop (4096 - la % 4096) bytes)) ≡ length bytes - (4096 - la % 4096) = omega (arith, length-take (length bytes - (4096 - la % 4096)) (drop (4096 - la % 4096) bytes), length-drop (4096 - la % 4096) bytes) in
      rw (a, b) (two-room pa pb la (length bytes) s h l p q)

-- the bytes of a number
module _ (n x : ℕ) where
  pub number_out_there : (v : Sight) (pa : ℕ) (res : Result (Unit {0}) Stop) (w : Sight) → are_ram v.step.work pa n ≡ false → Does (devices_write pa (le n x)) v res w → Does (write_bytes pa (le n x)) v res w
  number_out_there v pa res w f r = write_out v pa (le n x) res w (rw (length-le n x) f) r

  pub number_ram : (v : Sight) (pa : ℕ) (w : List Area) (step : View) → are_ram v.step.work pa n ≡ true → w ≡ put_bytes v.step.work pa (le n x) → step ≡ record v.step { work = w } → Does (write_bytes pa (le n x)) v (Ok tt) (record v { step = step })
  number_ram v pa w step t e is = write_ram v pa (le n x) w step (rw (length-le n x) t) e is

  pub number_stored : (kind : Kind) (la : ℕ) → n ≤ 4096 - la % 4096 → {pa : ℕ} {old mid new : Sight} (res : Result (Unit {0}) Stop) → Does (place kind la) old (Ok pa) mid → Does (write_bytes pa (le n x)) mid res new → Does (store_at kind la (le n x)) old res new
  number_stored kind la h (Ok u) r t = store_one kind la (le n x) (rw (length-le n x) h) r t
  number_stored kind la h (Err s) r t = store_one_stop kind la (le n x) (rw (length-le n x) h) r t

  pub number_unstored : (kind : Kind) (la : ℕ) {s : Stop} {old new : Sight} → Does (place kind la) old (Err s) new → Does (store_at kind la (le n x)) old (Err s) new
  number_unstored kind la r = store_no_place kind la (le n x) r

pub ruleset number_store_rules = (number_stored, number_unstored)

pub ruleset store_rules = (store_one, store_one_stop, store_no_place, store_no_second, store_first_stops, store_second_stops, store_two)
