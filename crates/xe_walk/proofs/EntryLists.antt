use Rattle.std.proofs.Common.{ℕ, ◌≡◌, ◌<◌, ◌≤◌, ◌+◌, List, length, drop, get_or, refl, true, false, add-one}
use Rattle.std.proofs.Math.Seq.{drop-cons}
use Rattle.std.proofs.lemmas.List.{drop_all}
use Rattle.xe_base.specs.Bits.{bit}
use Rattle.xe_walk.specs.Rights.{all_have, some_has}
use Rattle.xe_walk.specs.declared.entry.Used.{Used}

-- bits of lists of entries, from an index on

pub all-end : (k : ℕ) (us : List Used) (i : ℕ) → length us ≤ i → all_have k (drop i us) ≡ true
unfolding all_have
all-end k us i h = rw (drop_all i us h) refl

pub all-false : (k : ℕ) (us : List Used) (i : ℕ) (d : Used) → i < length us → bit (get_or us i d).value k ≡ false → all_have k (drop i us) ≡ false
unfolding all_have
all-false k us i d h e = rw (drop-cons us i d h, e) refl

pub all-next : (k : ℕ) (us : List Used) (i : ℕ) (d : Used) → i < length us → bit (get_or us i d).value k ≡ true → all_have k (drop i us) ≡ all_have k (drop (i + 1) us)
unfolding all_have
all-next k us i d h e = rw (drop-cons us i d h, e, add-one) refl

pub some-end : (k : ℕ) (us : List Used) (i : ℕ) → length us ≤ i → some_has k (drop i us) ≡ false
unfolding some_has
some-end k us i h = rw (drop_all i us h) refl

pub some-true : (k : ℕ) (us : List Used) (i : ℕ) (d : Used) → i < length us → bit (get_or us i d).value k ≡ true → some_has k (drop i us) ≡ true
unfolding some_has
some-true k us i d h e = rw (drop-cons us i d h, e) refl

pub some-next : (k : ℕ) (us : List Used) (i : ℕ) (d : Used) → i < length us → bit (get_or us i d).value k ≡ false → some_has k (drop i us) ≡ some_has k (drop (i + 1) us)
unfolding some_has
some-next k us i d h e = rw (drop-cons us i d h, e, add-one) refl
