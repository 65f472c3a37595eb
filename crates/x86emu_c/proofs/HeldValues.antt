-- The machine values of a `Held`. Assumes `Logic`.
use Rattle.std.proofs.Common.{◌≡◌, ℕ, List, [], ◌∷◌, ◌++◌, refl, subst, arith}
use seplogic.Ra.Ura.{Ura}
use mir.Raw.{raw as bare}
use mir.Val.{Val, vptr, vstruct, of_list}
use base.Logic.{never, fst∗}
use types.Logic.{Logic, sem}
use types.Kit.{Item, Goal, Seq, Step, step, ‵, ◌$◌, drop, fsplit, fjoin, fpack, fpick, rewrite, feq_i, feq_l}
use denote.RattleType.{RattleType, Valss}
use denote.Builtin.{RawPtr}
use denote.Memory.{lone}
use denote.RawPtr.{Ptr, block_ptr, null_ptr, ptr_val, in_a_block}
use denote.Steps.{nothing}
use denote.Struct.Struct.{within}
use denote.Struct.Owning.{shape}
use Rattle.std_alloc.specs.Box.Ownership.{box_owns}
use Rattle.x86emu_c.specs.Owned.{chunk, IsOne}
use Rattle.x86emu_c.proofs.LooseValues.{lone_val}
use Rattle.x86emu_c.specs.contracts.emulator.Emulator as inner
use Rattle.x86emu_c.specs.contracts.held.Held as held

pub the_one : {A : Type 0} (xs : List A) → IsOne xs → A
the_one [] p = absurd (omega (arith, p))
the_one (x ∷ []) p = x
the_one (x ∷ y ∷ xs) p = absurd (omega (arith, p))

pub is_the_one : {A : Type 0} (xs : List A) (p : IsOne xs) → xs ≡ the_one xs p ∷ []
unfolding the_one
is_the_one [] p = absurd (omega (arith, p))
is_the_one (x ∷ []) p = refl
is_the_one (x ∷ y ∷ xs) p = absurd (omega (arith, p))

abbrev pub R : RattleType
R = inner.the_row

abbrev pub Held : RattleType
Held = held.the_row

module _ {M : Type 1} {𝓤 : Ura M} {𝓛 : Logic 𝓤} {K : Type 0} {Γ : List (Item 𝓤)} {G : Goal 𝓤 𝓛.H} where
  pub held_in : K → (b o : ℕ) (x : R.Denot)
      → Step K 𝓛 (‵ (Held.own_val (record { at = block_ptr b o; values = x ∷ [] }) (lone_val (vptr b o) ∷ [])) ∷ Γ) G (‵ (box_owns chunk R (block_ptr b o) x) ∷ Γ) G
  held_in t b o x = step (λ s. let v : Val = lone_val (vptr b o) in
      nothing t $ feq_i t (List Val) (vptr b o ∷ []) (vptr b o ∷ []) refl $ fjoin t $ feq_i t (List Val) (v ∷ []) (v ∷ []) refl $ fjoin t $
      fpack t (Valss (RawPtr ∷ [])) (within (shape held.the_type) (block_ptr b o, tt) (v ∷ [])) (vptr b o ∷ [], tt) $ fjoin t $ s)

  pub none_in : K → Step K 𝓛 (‵ (Held.own_val (record { at = null_ptr; values = [] }) (lone_val (ptr_val null_ptr) ∷ [])) ∷ Γ) G Γ G
  none_in t = step (λ s. let v : Val = lone_val (ptr_val null_ptr) in
      nothing t $ nothing t $ feq_i t (List Val) (ptr_val null_ptr ∷ []) (ptr_val null_ptr ∷ []) refl $ fjoin t $ feq_i t (List Val) (v ∷ []) (v ∷ []) refl $ fjoin t $
      fpack t (Valss (RawPtr ∷ [])) (within (shape held.the_type) (null_ptr, tt) (v ∷ [])) (ptr_val null_ptr ∷ [], tt) $ fjoin t $ s)

  pub held_out : K → (d : Held.Denot) (x : R.Denot) (vs : List Val) → d.values ≡ x ∷ []
      → ((b o : ℕ) → d.at ≡ block_ptr b o → vs ≡ lone_val (vptr b o) ∷ [] → Seq K 𝓛 (‵ (box_owns chunk R (block_ptr b o) x) ∷ Γ) G)
      → Seq K 𝓛 (‵ (Held.own_val d vs) ∷ Γ) G
  held_out t d x vs one k =
      rewrite t 0 (λ (xs : List R.Denot). ‵ (Held.own_val (record d { values = xs }) vs)) one refl $
      fsplit t $ fpick t (λ vss. fsplit t $ feq_l t (λ ev. fsplit t $ feq_l t (λ ep. drop t $
      in_a_block t d.at (λ p. box_owns chunk R p x) (fst∗ 𝓤 (never 𝓤) (sem 𝓛 (chunk (bare (lone R.mir)) null_ptr))) (λ b o e. k b o e
      (subst (λ (p : Ptr). vs ≡ vstruct (of_list (ptr_val p ∷ [])) ∷ []) e (subst (λ (ps : List Val). vs ≡ vstruct (of_list (ps ++ [])) ∷ []) ep ev))))))
