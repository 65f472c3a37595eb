use Rattle.std.proofs.Common.{ℕ, ◌≡◌, ◌<◌, ◌≤◌, ◌+◌, ◌-◌, Bool, true, ◌&&◌, nat_le, nat_lt, refl, arith, sym, ◌∙◌}
use Rattle.std.proofs.lemmas.Bool.Decides.{nat_tests, Decides-below_and, same_from_decides}
use Rattle.std.specs.Bool.{Decides}
use Rattle.xe_seg.specs.Each.{each}

-- each passes exactly where the test is true of every number below n
pub each_decides : (n : ℕ) (test : ℕ → Bool) → Decides (each n test) ((k : ℕ) → k < n → test k ≡ true)
unfolding each
each_decides n test = Decides-below_and test (λ k. test k ≡ true) (λ m. each m test) (λ k. ((λ h. h), (λ h. h))) refl (λ _. refl) n

pub each_at : (n : ℕ) (test : ℕ → Bool) (k : ℕ) → each n test ≡ true → k < n → test k ≡ true
each_at n test k h l = (each_decides n test).0 h k l

-- a test that says the same
pub each_is : (b : Bool) (n : ℕ) (test : ℕ → Bool) → (b ≡ true → (k : ℕ) → k < n → test k ≡ true) → (((k : ℕ) → k < n → test k ≡ true) → b ≡ true) → b ≡ each n test
each_is b n test to from = same_from_decides b (each n test) (to, from) (each_decides n test)

-- tests that answer alike
pub each_alike : (n : ℕ) (f g : ℕ → Bool) → ((k : ℕ) → f k ≡ g k) → each n f ≡ each n g
each_alike n f g same = each_is (each n f) n g (λ h k l. sym (same k) ∙ each_at n f k h l) (λ h. (each_decides n f).1 (λ k l. same k ∙ h k l))

-- none is left out where there are none
pub each_of_none : (n : ℕ) (test : ℕ → Bool) → n ≡ 0 → true ≡ each n test
each_of_none n test none = each_is true n test (λ _ k l. absurd (omega arith)) (λ _. refl)

-- ---- limits

below_all : (h offset n k : ℕ) → offset ≤ h → nat_le (n - 1) (h - offset) ≡ true → k < n → nat_le (offset + k) h ≡ true
below_all h offset n k l t kn = grind (arith, nat_tests)

last_below : (h offset n : ℕ) → 0 < n → nat_le (offset + (n - 1)) h ≡ true → nat_le (n - 1) (h - offset) ≡ true
last_below h offset n s t = grind (arith, nat_tests)

first_below : (h offset : ℕ) → nat_le (offset + 0) h ≡ true → nat_le offset h ≡ true
first_below h offset t = grind (arith, nat_tests)

pub ends_within : (h offset n : ℕ) → 0 < n → offset ≤ h → nat_le (n - 1) (h - offset) ≡ each n (λ i. nat_le (offset + i) h)
ends_within h offset n s l = each_is (nat_le (n - 1) (h - offset)) n (λ i. nat_le (offset + i) h)
    (λ t k kn. below_all h offset n k l t kn)
    (λ f. last_below h offset n s (f (n - 1) (omega arith)))

pub begins_above : (h offset n : ℕ) → 0 < n → h < offset → nat_le offset h ≡ each n (λ i. nat_le (offset + i) h)
begins_above h offset n s l = each_is (nat_le offset h) n (λ i. nat_le (offset + i) h)
    (λ t k kn. grind (arith, nat_tests))
    (λ f. first_below h offset (f 0 s))

-- ---- limits of data that grows downwards

above_all : (limit h offset k : ℕ) → limit < offset → nat_le (offset + k) h ≡ true → (nat_lt limit (offset + k) && nat_le (offset + k) h) ≡ true
above_all limit h offset k l t = grind (arith, nat_tests)

below_too : (limit h offset k : ℕ) → (nat_lt limit (offset + k) && nat_le (offset + k) h) ≡ true → nat_le (offset + k) h ≡ true
below_too limit h offset k t = grind (arith, nat_tests)

first_above : (limit h offset : ℕ) → (nat_lt limit (offset + 0) && nat_le (offset + 0) h) ≡ true → nat_lt limit offset ≡ true
first_above limit h offset t = grind (arith, nat_tests)

pub ends_between : (limit h offset n : ℕ) → limit < offset → each n (λ i. nat_le (offset + i) h) ≡ each n (λ i. nat_lt limit (offset + i) && nat_le (offset + i) h)
ends_between limit h offset n l = each_is (each n (λ i. nat_le (offset + i) h)) n (λ i. nat_lt limit (offset + i) && nat_le (offset + i) h)
    (λ t k kn. above_all limit h offset k l (each_at n (λ i. nat_le (offset + i) h) k t kn))
    (λ f. (each_decides n (λ i. nat_le (offset + i) h)).1 (λ k kn. below_too limit h offset k (f k kn)))

pub begins_below : (limit h offset n : ℕ) → 0 < n → offset ≤ limit → nat_lt limit offset ≡ each n (λ i. nat_lt limit (offset + i) && nat_le (offset + i) h)
begins_below limit h offset n s l = each_is (nat_lt limit offset) n (λ i. nat_lt limit (offset + i) && nat_le (offset + i) h)
    (λ t k kn. grind (arith, nat_tests))
    (λ f. first_above limit h offset (f 0 s))
