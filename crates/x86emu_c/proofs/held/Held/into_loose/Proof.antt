-- `into_loose` hands the pointer on.
use Rattle.std.proofs.Common.{◌≡◌, List, [], ◌∷◌, ◌++◌, refl, sym, subst}
use mir.Val.{Val, vptr}
use base.Logic.{SProp, ent, emp, id⊢}
use prog.Wp.{WpFn}
use types.Kit.{‵, raw, ◌⊛◌, ◌$◌, ◌∵◌, !, qed, by, move, keep, split, fsplit, fjoin, suffices, use0}
use types.Run.{stop, fld, of_opd, no_more, and_then, returns, enter}
use types.ByLocal.{alloc_all, pass_all, free_all, look_at, get, get_in, sets}
use types.Part.{agg, sub, whole}
use contract.Monad.{fact, fact_i}
use contract.Running.{tables}
use denote.Exit.{yes}
use denote.RattleType.{RattleType, owns}
use denote.Signature.{types_at, plain}
use denote.RawPtr.{block_ptr}
use denote.Steps.{nothing, heard}
use denote.Triple.Entry.{alive}
use denote.Triple.Walked.{Stays, stay_dropped, walk_of, Goes-dropped}
use Rattle.std.proofs.raw_atomic.Walks.{proved_at, leaves}
use Rattle.x86emu_c.proofs.LooseValues.{lone_val, loose_in}
use Rattle.x86emu_c.proofs.HeldValues.{R, Held, the_one, is_the_one, held_out}
use Rattle.x86emu_c.specs.Owned.{IsOne}
use Rattle.x86emu_c.specs.contracts.loose.Loose as loose
use Rattle.x86emu_c.specs.contracts.held.Held.into_loose.{ended, clauses}
use Rattle.x86emu_c.specs.contracts.held.Held.into_loose.Key.{name as #self}
use Rattle.x86emu_c.proofs.held.Held.into_loose.Statement.{statement}
use Rattle.x86emu_c.proofs.held.Held.into_loose.Code as code

pub into_loose_spec : {M : Type 1} → statement M
into_loose_spec 𝓤 𝓛 𝓜 𝓡 wired =
    let H = 𝓛.H in let 𝓣 = tables 𝓤 H 𝓜 𝓡 𝓡.env in let En = ended in let c = clauses 𝓛 𝓜.mem 𝓡.returns in let fn = code.function in
    let Lr : RattleType = loose.the_row R in let hs : Stays En.signature.params En.kept = (stay_dropped (plain (λ _. Held)) yes, tt) in
    proved_at 𝓛 En hs c 𝓜 𝓡 (Goes-dropped 𝓛 0 (plain (λ _. Held)) yes (λ κs x f. refl), tt) #self fn (code.unfolded 𝓤 H 𝓜 𝓡 wired) (λ z are.
    let κs = z.0.0 in let v = z.0.3.0 in let Post : Val → SProp 𝓤 = (walk_of 𝓛 En hs c).post z in let Run : List Val → SProp 𝓤 = λ ws. WpFn 𝓤 H 𝓣.C 𝓣.Λ fn ws Post in
    qed 𝓛 ((raw (alive 𝓛 En.signature κs z.0.1) ⊛ ‵ (owns (types_at En.signature.params κs) z.0.3 z.0.4)) ∷ raw (fact 𝓤 (IsOne v.values)) ∷ []) ∵ move ! (1 ∷ []) $ heard ! (IsOne v.values) (λ p. let x : R.Denot = the_one v.values p in let one : v.values ≡ x ∷ [] = is_the_one v.values p in
    split ! $ move ! (1 ∷ []) $ fsplit ! $ held_out ! v x z.0.4.0 one (λ b o e ws.
    let w : Val = lone_val (vptr b o) in let d : Lr.Denot = record { at = block_ptr b o; value = x } in
    suffices ! (Run (w ∷ [])) (subst (λ (us : List Val). ent 𝓤 (Run (w ∷ [])) (Run us)) (sym (λ i. ws i ++ [])) (id⊢ 𝓤 (Run (w ∷ [])))) $
    enter ! 𝓣.C 𝓣.Λ fn (w ∷ []) Post $ alloc_all ! (λ l. pass_all ! refl ((tt, (tt, tt)), tt) $
    sets ! (of_opd ! (get_in ! (fld ! refl (stop !)) (sub ! 0 refl (whole !)))) refl (tt, tt) $
    sets ! (of_opd ! (get ! refl)) refl (tt, tt) $ sets ! (agg ! (and_then ! (get ! refl) (no_more !))) refl (tt, (tt, tt)) $ loose_in R ! b o x $
    use0 𝓛 (raw (fact 𝓤 (v.values ≡ d.value ∷ []))) (fact_i 𝓤 (v.values ≡ d.value ∷ []) (emp 𝓤) one) $ nothing ! $ nothing ! $ fjoin ! $
    returns ! (look_at ! 0 refl) $ free_all ! refl $ keep ! (4 ∷ 0 ∷ 2 ∷ 1 ∷ []) $ by ! (leaves 𝓛 En hs c z w d (tt, tt) (tt, tt))))))
