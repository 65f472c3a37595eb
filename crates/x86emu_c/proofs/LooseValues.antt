-- The machine values of a `Loose`, and the box that it stands for. Assumes `Logic`.
--     boxed            a box of the program's allocator, for the steps on boxes
--     loose_out        a `Loose` by value is a word and what the box owns.        loose_in     the way back
use Rattle.std.proofs.Common.{◌≡◌, ℕ, List, [], ◌∷◌, ◌++◌, refl, subst}
use seplogic.Ra.Ura.{Ura}
use mir.Syntax.{Dict, impl, tcons, tnil, dnil}
use mir.Raw.{raw as bare}
use mir.Val.{Val, vptr, vstruct, vcons, vnil, of_list}
use base.Logic.{never, fst∗}
use types.Logic.{Logic, sem}
use types.Kit.{Item, Goal, Seq, Step, step, ‵, ◌$◌, drop, fsplit, fjoin, fpick, fpack, feq_i, feq_l}
use denote.RattleType.{RattleType, Valss}
use denote.Builtin.{RawPtr}
use denote.Memory.{lone}
use denote.Exit.{no}
use denote.Param.{layout, arg}
use denote.Param.Laws.{Laws, arg_laws}
use denote.RawPtr.{Ptr, block_ptr, ptr_val, null_ptr, in_a_block}
use denote.Steps.{nothing}
use denote.Struct.Struct.{within}
use denote.Struct.Owning.{shape}
use Rattle.std.specs.contracts.alloc.Global as heap
use Rattle.std.proofs.alloc.Global.TheLaws as heap_laws
use Rattle.std.specs.contracts.impls.GlobalAllocator.TheImpl.{ghosts, dict}
use Rattle.std_alloc.proofs.BoxSteps.Form.{Bx}
use Rattle.std_alloc.specs.Box.Ownership.{box_owns}
use Rattle.x86emu_c.specs.Owned.{chunk}
use Rattle.x86emu_c.specs.contracts.loose.Loose as loose

abbrev pub Z : RattleType
Z = heap.the_row

-- the allocator, as a call passes it
abbrev pub A : RattleType
A = arg (bare (layout Z)) no Z

abbrev pub A-laws : Laws A
A-laws = arg_laws (bare (layout Z)) no Z heap_laws.the_row_laws refl

abbrev pub no_drop : Dict
no_drop = impl ("x86emu_c::Destruct++none::drop" ∷ []) (tcons (layout A) tnil) dnil

abbrev pub boxed : (T : RattleType) → Laws T → Bx
boxed T L = record { row = T; laws = L; al = record { row = A; laws = A-laws; g = ghosts; d = dict; drops = no_drop } }

abbrev pub lone_val : Val → Val
lone_val v = vstruct (vcons v vnil)

module _ (R : RattleType) {M : Type 1} {𝓤 : Ura M} {𝓛 : Logic 𝓤} {K : Type 0} {Γ : List (Item 𝓤)} {G : Goal 𝓤 𝓛.H} where
  pub loose_in : K → (b o : ℕ) (x : R.Denot)
      → Step K 𝓛 (‵ ((loose.the_row R).own_val (record { at = block_ptr b o; value = x }) (lone_val (vptr b o) ∷ [])) ∷ Γ) G (‵ (box_owns chunk R (block_ptr b o) x) ∷ Γ) G
  loose_in t b o x = step (λ s. let v : Val = lone_val (vptr b o) in
      nothing t $ feq_i t (List Val) (vptr b o ∷ []) (vptr b o ∷ []) refl $ fjoin t $ feq_i t (List Val) (v ∷ []) (v ∷ []) refl $ fjoin t $
      fpack t (Valss (RawPtr ∷ [])) (within (shape (loose.the_type R)) (block_ptr b o, tt) (v ∷ [])) (vptr b o ∷ [], tt) $ fjoin t $ s)

  pub loose_out : K → (d : (loose.the_row R).Denot) (vs : List Val)
      → ((b o : ℕ) → d.at ≡ block_ptr b o → vs ≡ lone_val (vptr b o) ∷ [] → Seq K 𝓛 (‵ (box_owns chunk R (block_ptr b o) d.value) ∷ Γ) G)
      → Seq K 𝓛 (‵ ((loose.the_row R).own_val d vs) ∷ Γ) G
  loose_out t d vs k =
      fsplit t $ fpick t (λ vss. fsplit t $ feq_l t (λ ev. fsplit t $ feq_l t (λ ep. drop t $
      in_a_block t d.at (λ p. box_owns chunk R p d.value) (fst∗ 𝓤 (never 𝓤) (sem 𝓛 (chunk (bare (lone R.mir)) null_ptr))) (λ b o e. k b o e
      (subst (λ (p : Ptr). vs ≡ vstruct (of_list (ptr_val p ∷ [])) ∷ []) e (subst (λ (ps : List Val). vs ≡ vstruct (of_list (ps ++ [])) ∷ []) ep ev))))))
