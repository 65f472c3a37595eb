use Rattle.std.proofs.Common.{◌≡◌, rules, refl, arith, false}
use Rattle.xe_base.specs.State.{pg}
use Rattle.xe_ctx.specs.Machine.{state_of, work_of}
use Rattle.xe_ctx.proofs.AcceptLaws.{unmarked, no-bytes, translated, one-page, two-pages}
use Rattle.xe_ctx.proofs.machine.Machine.mark_code.Goals as goal
use Rattle.xe_ctx.proofs.machine.Machine.mark_code.Goals.{then-not-pg-via-then-not-pg, then-not-pg-via-else-not-pg+then-len-eq0}

pub returns-then-not-pg-clause-work : goal.returns-then-not-pg-clause-work
returns-then-not-pg-clause-work c = elim c.then-not-pg.branch [
  | then-not-pg-via-then-not-pg w ↦
      let h = w.if-not-pg in
      let off : pg c.args.self.now.cpu ≡ false = search rules in
      unmarked (state_of c.args.self.now) c.args.len _ off
  | then-not-pg-via-else-not-pg+then-len-eq0 w ↦ no-bytes (state_of c.args.self.now) c.args.len _ w.if-len-eq0.true
]

pub mark_page-requires-clause-translated : goal.mark_page-requires-clause-translated
mark_page-requires-clause-translated c =
    translated (state_of c.args.self.now) (state_of c.args.self.now) 0 _ refl (omega (arith, c.requires.had, c.if-len-eq0.false)) c.code_room-la.ensures.address

pub returns-then-len-room-clause-work : goal.returns-then-len-room-clause-work
returns-then-len-room-clause-work c =
    one-page (state_of c.args.self.now) c.args.len _ _ _ (omega (arith, c.if-len-eq0.false)) c.code_room-la.ensures.address c.if-len-room.true c.mark_page.ensures.work

pub mark_page-requires-2-clause-translated : goal.mark_page-requires-2-clause-translated
mark_page-requires-2-clause-translated c =
    translated (state_of c.args.self.now) (state_of c.mark_page.new.self) _ _ c.mark_page.ensures.state (omega (arith, c.requires.had, c.if-len-room.false)) c.code_room-next.ensures.address

pub returns-clause-work : goal.returns-clause-work
returns-clause-work c =
    two-pages (state_of c.args.self.now) (state_of c.mark_page.new.self) c.args.len _ _ (work_of c.args.self.now) (work_of c.mark_page.new.self) _ c.mark_page.ensures.state c.code_room-la.ensures.address c.if-len-room.false c.code_room-next.ensures.address c.mark_page.ensures.work c.mark_page-2.ensures.work
