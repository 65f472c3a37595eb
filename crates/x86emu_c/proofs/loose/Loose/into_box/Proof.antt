-- `into_box` calls `from_raw` with the pointer. The allocator has no lifetime, so the call gets a new one for it.
use Rattle.std.proofs.Common.{◌≡◌, List, [], ◌∷◌, ◌++◌, refl, sym, ap, subst}
use mir.Syntax.{a_type, dcons, dnil}
use mir.Val.{Val, vptr}
use mir.MapTy.{inst_fn}
use base.Fraction.{full_share}
use base.Logic.{SProp, ent, emp, id⊢}
use base.Fml.{ftrue, flft}
use prog.Wp.{WpFn}
use types.Kit.{‵, raw, ◌⊛◌, some, later, at_ret, ◌$◌, ◌∵◌, !, qed, by, move, keep, drop, split, split3, join, fsplit, fjoin, pick, suffices, use0, use1, await, rewrite, feq_i}
use types.Run.{stop, fld, of_opd, no_more, and_then, first, blocks, exec, returns, enter}
use types.ByLocal.{alloc_all, pass_all, free_all, look_at, get, get_in, sets, lands_last, env}
use types.Part.{sub, whole}
use types.Tokens.{lft_new}
use contract.BorrowLft.{◌⊑◌}
use contract.Lifetimes.{Lfts}
use contract.Monad.{fact, fact_i}
use contract.Running.{tables, tables_of}
use denote.Exit.{yes, no}
use denote.RattleType.{RattleType, owns}
use denote.Signature.{types_at, plain}
use denote.RawPtr.{block_ptr}
use denote.Steps.{nothing, only}
use denote.Param.{param, layout, bounded}
use denote.Param.NoDrop as none
use denote.Triple.Clauses.{Lasts, lasts}
use denote.Triple.Spec.{triple_of}
use denote.Triple.Call.{calls_at_last}
use denote.Triple.Walked.{Stays, stay_dropped, walk_of, Goes-dropped}
use Rattle.core.proofs.alloc.Calls.{Goes-blank, handle_tells}
use Rattle.core.proofs.alloc.Shapes.{after}
use Rattle.core.proofs.atomic.Steps.{fm}
use Rattle.core.proofs.cell.Inside.{Good}
use Rattle.std.proofs.alloc.Global.TheLaws as heap_laws
use Rattle.std.proofs.impls.GlobalAllocator.TheImpl.Met as heap_met
use Rattle.std.proofs.raw_atomic.Walks.{proved_at, leaves}
use Rattle.std.specs.contracts.impls.GlobalAllocator.TheImpl.{ghosts, dict}
use Rattle.std_alloc.proofs.BoxSteps.Form.{B, box_typed}
use Rattle.std_alloc.proofs.BoxSteps.Steps.{box_out, box_in}
use Rattle.std_alloc.specs.contracts.boxed.Box.from_raw as callee
use Rattle.std_alloc.proofs.boxed.Box.from_raw.Met.{met}
use Rattle.x86emu_c.proofs.LooseValues.{Z, A, A-laws, no_drop, boxed, lone_val, loose_out}
use Rattle.x86emu_c.specs.contracts.loose.Loose as loose
use Rattle.x86emu_c.specs.contracts.loose.Loose.into_box.{ended, clauses}
use Rattle.x86emu_c.specs.contracts.loose.Loose.into_box.Key.{name as #self}
use Rattle.x86emu_c.proofs.loose.Loose.into_box.Statement.{statement}
use Rattle.x86emu_c.proofs.loose.Loose.into_box.Code as code
use Rattle.x86emu_c.proofs.Destruct++none.drop.Code as no_code

pub into_box_spec : {M : Type 1} → statement M
unfolding tables_of no_code.code
into_box_spec {M} 𝓤 𝓛 𝓜 𝓡 wired T L dx glue =
    let H = 𝓛.H in let 𝓣 = tables 𝓤 H 𝓜 𝓡 𝓡.env in let En = ended T dx in let c = clauses T dx 𝓛 𝓜.mem 𝓡.returns in let E = boxed T L in let R : RattleType = param 0 T in let Lr : RattleType = loose.the_row R in
    let inst = bounded (a_type ∷ []) (T, tt) (dcons dx dnil) in let fn = inst_fn inst code.function in let hs : Stays En.signature.params En.kept = (stay_dropped (plain (λ _. Lr)) no, (stay_dropped (plain (λ _. Z)) yes, tt)) in
    let allocator = heap_met.passed 𝓡.env (code.calls-std_heap::GlobalAllocator::allocate 𝓡.env wired) (code.calls-std_heap::GlobalAllocator::deallocate 𝓡.env wired) (code.calls-std_heap::GlobalAllocator::grow 𝓡.env wired)
    (code.calls-std_heap::GlobalAllocator::shrink 𝓡.env wired) M 𝓤 𝓛 𝓜 𝓡 in
    let gone = none.glues "x86emu_c::Destruct++none::drop" 𝓡.env (code.calls-x86emu_c::Destruct++none::drop 𝓡.env wired) A A-laws M 𝓤 𝓛 𝓜 𝓡 in
    proved_at 𝓛 En hs c 𝓜 𝓡 (Goes-blank 𝓛 1 (plain (λ _. Lr)) no (λ κs x f. tt), (Goes-dropped 𝓛 1 (plain (λ _. Z)) yes (λ κs x f. refl), tt)) (#self inst) fn (code.unfolded 𝓤 H 𝓜 𝓡 wired (T, tt) dx) (λ z are.
    let κs = z.0.0 in let qs = z.0.1 in let v = z.0.3.0 in let a = z.0.3.1.0 in let Post : Val → SProp 𝓤 = (walk_of 𝓛 En hs c).post z in let Run : List Val → SProp 𝓤 = λ ws. WpFn 𝓤 H 𝓣.C 𝓣.Λ fn ws Post in
    let own = ‵ (flft κs.0 qs.0) in let asked = raw ((c κs z.0.3).requires z.1) in
    qed 𝓛 (((own ⊛ ‵ ftrue) ⊛ ‵ (owns (types_at En.signature.params κs) z.0.3 z.0.4)) ∷ asked ∷ []) ∵ split ! $ split ! $ move ! (2 ∷ []) $ fsplit ! $ loose_out R ! v z.0.4.0 (λ b o e ws.
    move ! (1 ∷ []) $ fsplit ! $ handle_tells E.al ! a z.0.4.1.0 (λ h hs' fits.
    let us : List Val = lone_val (vptr b o) ∷ h ∷ [] in
    suffices ! (Run us) (subst (λ (ts : List Val). ent 𝓤 (Run us) (Run ts)) (sym (λ i. ws i ++ (hs' i ++ []))) (id⊢ 𝓤 (Run us))) $
    enter ! 𝓣.C 𝓣.Λ fn us Post $ alloc_all ! (λ l. pass_all ! refl ((tt, (tt, tt)), (fits, tt)) $ let Ev = env fn.locals l in
    sets ! (of_opd ! (get_in ! (fld ! refl (stop !)) (sub ! 0 refl (whole !)))) refl (tt, tt) $ first ! $ blocks ! $
    -- [the allocator; nothing; what the box owns; the token; nothing; the bound on T]
    lft_new ! tt (λ α. let toks = own ⊛ ‵ (flft (α ∷ []) full_share) ⊛ ‵ ftrue in let k = triple_of 𝓛 (callee.signature T A ghosts dict no_drop) (callee.spec T A ghosts dict no_drop 𝓛 𝓜.mem 𝓡.returns) in
    let ks : Lfts 2 = (κs.0, (α ∷ [], tt)) in let y : k.Ghost = ((ks, (qs.0, (full_share, tt)), tt, (a, (block_ptr b o, tt)), (h ∷ [], (vptr b o ∷ [], tt))), v.value) in
    nothing ! $ move ! (1 ∷ 0 ∷ []) $ join ! $ move ! (4 ∷ 0 ∷ []) $ join ! $ move ! (2 ∷ []) $ feq_i ! (List Val) (vptr b o ∷ []) (vptr b o ∷ []) refl $ fjoin ! $ move ! (2 ∷ 0 ∷ []) $ fjoin ! $ move ! (1 ∷ 0 ∷ []) $ join ! $
    -- [the tokens with the arguments; what the box owns; nothing; the bound on T]
    move ! (3 ∷ []) $ use1 𝓛 (raw (fact 𝓤 (κs.0 ⊑ T.lives)) ⊛ ‵ ftrue) (id⊢ 𝓤 _) $ split ! $ move ! (3 ∷ []) $
    use0 𝓛 (raw (fact 𝓤 ((α ∷ []) ⊑ A.lives))) (fact_i 𝓤 _ (emp 𝓤) (heap_laws.the_within (α ∷ []))) $ join ! $ move ! (1 ∷ 0 ∷ []) $ join ! $ move ! (2 ∷ 0 ∷ []) $ join ! $
    use1 𝓛 (raw (k.pre y)) (id⊢ 𝓤 _) $
    calls_at_last ! (fm 𝓛 𝓜 𝓡) k (met 𝓤 𝓛 𝓜 𝓡 (code.calls-std_alloc::boxed::Box::from_raw 𝓡.env wired) T A L A-laws ghosts dict no_drop allocator gone) y (and_then ! (get ! refl) (and_then ! (get ! refl) (no_more !))) (λ u.
    use1 𝓛 (later (some (λ (r : (B E).Denot). (toks ⊛ ‵ ((B E).own_val r (u ∷ []))) ⊛ some (λ (ls : Lasts (callee.ended T A ghosts dict no_drop) ks y.0.3). ‵ (lasts (callee.ended T A ghosts dict no_drop) ks y.0.3 ls) ⊛ (raw (fact 𝓤 (r.value ≡ v.value)) ⊛ raw (fact 𝓤 (r.alloc ≡ a))))))) (id⊢ 𝓤 (k.post y u)) $
    await ! tt $ pick ! (λ r. split ! $ move ! (1 ∷ []) $ pick ! (λ _. split3 ! $ drop ! $
    -- [the value is the same; the allocator too; the tokens with the box]
    move ! (2 ∷ []) $ split ! $ move ! (1 ∷ []) $ box_out E ! r (u ∷ []) (λ b' o' h' e' is fits'. box_in E ! r b' o' r.value e' refl $ rewrite ! 0 (λ (xs : List Val). ‵ ((B E).own_val r xs)) (sym is) refl $
    let good : Good (layout (B E)) u = subst (Good (layout (B E))) (sym (ap only is)) (box_typed E h' b' o' fits') in
    lands_last ! refl good $ exec ! 𝓣.C 𝓣.Λ Ev (after 2 fn.body) (at_ret Ev Post) $ sets ! (of_opd ! (get ! refl)) refl good $
    move ! (1 ∷ []) $ split3 ! $ move ! (0 ∷ 2 ∷ []) $ join ! $ nothing ! $ nothing ! $ fjoin ! $ nothing ! $ fjoin ! $
    returns ! (look_at ! 0 refl) $ free_all ! refl $ keep ! (1 ∷ 0 ∷ 3 ∷ 4 ∷ []) $ by ! (leaves 𝓛 En hs c z u r (tt, (tt, tt)) (tt, (tt, tt))))))))))))
