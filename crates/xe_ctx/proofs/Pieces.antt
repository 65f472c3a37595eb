use Rattle.std.proofs.Common.{ℕ, ◌≡◌, ◌<◌, ◌≤◌, ◌+◌, ◌-◌, ◌%◌, List, [], ◌∷◌, ◌++◌, Result, Ok, Err, length, refl, arith, true, false, nat_le, inl, inr}
use Rattle.std.proofs.lemmas.Bool.{cases_lt}
use Rattle.std.proofs.lemmas.Bool.Decides.{nat_tests}
use Rattle.xe_base.specs.Ram.{bytes_of}
use Rattle.xe_walk.specs.declared.rights.Kind.{Kind}
use Rattle.xe_ctx.specs.Chunks.{chunks, is_size, most}
use Rattle.xe_ctx.specs.Is.{Sight, Does}
use Rattle.xe_ctx.specs.Memory.{Piece, data_kind, bits_of, pieces, next_page, place, place_piece, are_ram, read_if, read_place, devices_read, width, load_at, probe_at}
use Rattle.xe_ctx.specs.Part.{gather}
use Rattle.xe_ctx.specs.declared.stop.Stop.{Stop}
use Rattle.xe_ctx.proofs.Binds.{does_then, does_stop, does_give, does_look, gather_one, gather_first, gather_two, gather_second}
use Rattle.xe_ctx.proofs.Cut.{most-two}

-- a piece
module _ (v : Sight) (pa at n : ℕ) where
  pub piece_ram : (bytes : List ℕ) → are_ram v.step.work pa n ≡ true → bytes ≡ bytes_of v.step.work pa n → Does (read_place (record { pa = pa; at = at; n = n })) v (Ok bytes) v
  unfolding read_place read_if
  piece_ram bytes t e = does_then _ (does_look _ v) (rw (t, e) (does_look _ v))

  pub piece_out : (res : Result (List ℕ) Stop) (w : Sight) → are_ram v.step.work pa n ≡ false → Does (devices_read pa n) v res w → Does (read_place (record { pa = pa; at = at; n = n })) v res w
  unfolding read_place read_if
  piece_out res w f r = does_then _ (does_look _ v) (rw f r)

pub ruleset piece_rules = (piece_ram, piece_out)

-- the pieces of an access
module _ (bits la n : ℕ) where
  pub one-piece : n ≤ 4096 - la % 4096 → pieces bits la n ≡ record { la = la; at = 0; n = n } ∷ []
  unfolding pieces
  one-piece h = let k : la % 4096 + n ≤ 4096 = omega arith in let t : nat_le (la % 4096 + n) 4096 ≡ true = grind (arith, nat_tests) in rw t refl

  pub two-pieces : 4096 - la % 4096 < n → pieces bits la n ≡ record { la = la; at = 0; n = 4096 - la % 4096 } ∷ record { la = next_page bits la; at = 4096 - la % 4096; n = n - (4096 - la % 4096) } ∷ []
  unfolding pieces
  two-pieces h = let k : 4096 < la % 4096 + n = omega arith in let t : nat_le (la % 4096 + n) 4096 ≡ false = grind (arith, nat_tests) in rw t refl

-- the translation of one piece
module _ (kind : Kind) (p : Piece) where
  pub placed : {pa : ℕ} {old mid : Sight} → Does (place kind p.la) old (Ok pa) mid → Does (place_piece kind p) old (Ok (record { pa = pa; at = p.at; n = p.n } ∷ [])) mid
  unfolding place_piece
  placed r = does_then _ r does_give

  pub unplaced : {s : Stop} {old mid : Sight} → Does (place kind p.la) old (Err s) mid → Does (place_piece kind p) old (Err s) mid
  unfolding place_piece
  unplaced r = does_stop _ r

-- the translation of all pieces of an access, where addresses have so many bits
module _ (kind : Kind) (bits la n : ℕ) where
  pub place-one : n ≤ 4096 - la % 4096 → {pa : ℕ} {old mid : Sight} → Does (place kind la) old (Ok pa) mid → Does (gather (place_piece kind) (pieces bits la n)) old (Ok (record { pa = pa; at = 0; n = n } ∷ [])) mid
  place-one h r = rw (one-piece bits la n h) (gather_one _ _ (placed kind (record { la = la; at = 0; n = n }) r))

  pub place-none : {s : Stop} {old new : Sight} → Does (place kind la) old (Err s) new → Does (gather (place_piece kind) (pieces bits la n)) old (Err s) new
  place-none r = elim (cases_lt (4096 - la % 4096) n) [
    | inl m ↦ rw (two-pieces bits la n m) (gather_first _ _ _ (unplaced kind (record { la = la; at = 0; n = 4096 - la % 4096 }) r))
    | inr m ↦ rw (one-piece bits la n m) (gather_first _ _ [] (unplaced kind (record { la = la; at = 0; n = n }) r))
  ]

  module _ (h : 4096 - la % 4096 < n) {next pa : ℕ} {old mid : Sight} (is : next ≡ next_page bits la) (r : Does (place kind la) old (Ok pa) mid) where
    pub place-second : {s : Stop} {new : Sight} → Does (place kind next) mid (Err s) new → Does (gather (place_piece kind) (pieces bits la n)) old (Err s) new
    place-second t = rw (two-pieces bits la n h) (gather_second _ _ _ (placed kind (record { la = la; at = 0; n = 4096 - la % 4096 }) r) (unplaced kind (record { la = next_page bits la; at = 4096 - la % 4096; n = n - (4096 - la % 4096) }) (rw (← is) t)))

    pub place-two : {pb : ℕ} {new : Sight} → Does (place kind next) mid (Ok pb) new → Does (gather (place_piece kind) (pieces bits la n)) old (Ok (record { pa = pa; at = 0; n = 4096 - la % 4096 } ∷ record { pa = pb; at = 4096 - la % 4096; n = n - (4096 - la % 4096) } ∷ [])) new
    place-two t = rw (two-pieces bits la n h) (gather_two _ _ _ (placed kind (record { la = la; at = 0; n = 4096 - la % 4096 }) r) (placed kind (record { la = next_page bits la; at = 4096 - la % 4096; n = n - (4096 - la % 4096) }) (rw (← is) t)))

-- a load of one piece and of two
module _ (kind : Kind) (la n : ℕ) where
  pub load_one : n ≤ 4096 - la % 4096 → {pa : ℕ} {bytes : List ℕ} {old mid new : Sight} → Does (place kind la) old (Ok pa) mid → Does (read_place (record { pa = pa; at = 0; n = n })) mid (Ok bytes) new → Does (load_at kind la n) old (Ok bytes) new
  unfolding load_at width
  load_one h r t = does_then _ (does_look _ _) (does_then _ (place-one kind _ la n h r) (gather_one _ _ t))

  pub load_one_stop : n ≤ 4096 - la % 4096 → {pa : ℕ} {s : Stop} {old mid new : Sight} → Does (place kind la) old (Ok pa) mid → Does (read_place (record { pa = pa; at = 0; n = n })) mid (Err s) new → Does (load_at kind la n) old (Err s) new
  unfolding load_at width
  load_one_stop h r t = does_then _ (does_look _ _) (does_then _ (place-one kind _ la n h r) (gather_first _ _ [] t))

  pub load_no_place : {s : Stop} {old new : Sight} → Does (place kind la) old (Err s) new → Does (load_at kind la n) old (Err s) new
  unfolding load_at width
  load_no_place r = does_then _ (does_look _ _) (does_stop _ (place-none kind _ la n r))

  module _ (h : 4096 - la % 4096 < n) {next pa : ℕ} {old mid : Sight} (is : next ≡ next_page (bits_of old.step.start.cpu kind) la) (r : Does (place kind la) old (Ok pa) mid) where
    pub load_no_second : {s : Stop} {new : Sight} → Does (place kind next) mid (Err s) new → Does (load_at kind la n) old (Err s) new
    unfolding load_at width
    load_no_second t = does_then _ (does_look _ _) (does_stop _ (place-second kind _ la n h is r t))

    module _ {pb : ℕ} {both : Sight} (t : Does (place kind next) mid (Ok pb) both) where
      pub load_first_stops : {s : Stop} {new : Sight} → Does (read_place (record { pa = pa; at = 0; n = 4096 - la % 4096 })) both (Err s) new → Does (load_at kind la n) old (Err s) new
      unfolding load_at width
      load_first_stops x = does_then _ (does_look _ _) (does_then _ (place-two kind _ la n h is r t) (gather_first _ _ _ x))

      module _ {gs : List ℕ} {part : Sight} (x : Does (read_place (record { pa = pa; at = 0; n = 4096 - la % 4096 })) both (Ok gs) part) where
        pub load_second_stops : {s : Stop} {new : Sight} → Does (read_place (record { pa = pb; at = 4096 - la % 4096; n = n - (4096 - la % 4096) })) part (Err s) new → Does (load_at kind la n) old (Err s) new
        unfolding load_at width
        load_second_stops y = does_then _ (does_look _ _) (does_then _ (place-two kind _ la n h is r t) (gather_second _ _ _ x y))

        pub load_two : {bs : List ℕ} {new : Sight} → Does (read_place (record { pa = pb; at = 4096 - la % 4096; n = n - (4096 - la % 4096) })) part (Ok bs) new → Does (load_at kind la n) old (Ok (gs ++ bs)) new
        unfolding load_at width
        load_two y = does_then _ (does_look _ _) (does_then _ (place-two kind _ la n h is r t) (gather_two _ _ _ x y))

pub ruleset load_rules = (load_one, load_one_stop, load_no_place, load_no_second, load_first_stops, load_second_stops, load_two)

-- how many accesses the two pieces make at most
pub two-room : (pa pb la n : ℕ) → is_size n ≡ true → n ≤ 16 → 4096 - la % 4096 < n → pa % 4096 ≡ la % 4096 → pb % 4096 ≡ 0 → length (chunks pa (4096 - la % 4096)) + length (chunks pb (n - (4096 - la % 4096))) ≤ most n
two-room pa pb la n s h l p q = most-two pa pb n (4096 - la % 4096) s h l (omega arith) (omega arith)

-- nothing but the checks, for one piece and for two
module _ (la n : ℕ) where
  pub probe_one : n ≤ 4096 - la % 4096 → {pa : ℕ} {old new : Sight} → Does (place (data_kind true) la) old (Ok pa) new → Does (probe_at la n) old (Ok tt) new
  unfolding probe_at width
  probe_one h r = does_then _ (does_look _ _) (does_then _ (place-one (data_kind true) _ la n h r) does_give)

  pub probe_no_place : {s : Stop} {old new : Sight} → Does (place (data_kind true) la) old (Err s) new → Does (probe_at la n) old (Err s) new
  unfolding probe_at width
  probe_no_place r = does_then _ (does_look _ _) (does_stop _ (place-none (data_kind true) _ la n r))

  module _ (h : 4096 - la % 4096 < n) {next pa : ℕ} {old mid : Sight} (is : next ≡ next_page (bits_of old.step.start.cpu (data_kind true)) la) (r : Does (place (data_kind true) la) old (Ok pa) mid) where
    pub probe_no_second : {s : Stop} {new : Sight} → Does (place (data_kind true) next) mid (Err s) new → Does (probe_at la n) old (Err s) new
    unfolding probe_at width
    probe_no_second t = does_then _ (does_look _ _) (does_stop _ (place-second (data_kind true) _ la n h is r t))

    pub probe_two : {pb : ℕ} {new : Sight} → Does (place (data_kind true) next) mid (Ok pb) new → Does (probe_at la n) old (Ok tt) new
    unfolding probe_at width
    probe_two t = does_then _ (does_look _ _) (does_then _ (place-two (data_kind true) _ la n h is r t) does_give)

pub ruleset probe_rules = (probe_one, probe_no_place, probe_no_second, probe_two)
