use Rattle.std.proofs.Common.{◌∙◌, [], refl, rules, sym}
use Rattle.xe_core.specs.Tried.{told_by}
use Rattle.xe_core.proofs.CallLaws.{starts_so, fetched_undone, tried_none, keeps_so, judged-undone, went_no_further, call_ended}
use Rattle.xe_core.proofs.call.find_instruction.Goals as goal

-- no instruction was found
pub give_up-requires-clause-keeps : goal.give_up-requires-clause-keeps
give_up-requires-clause-keeps g c =
    let starts = starts_so _ _ _ _ _ _ c.begin-ctx.ensures.start c.begin-ctx.ensures.state in
    let tried = tried_none _ _ _ starts _ _ c.args.cpu.now [] (sym c.in-Err.ensures.value) c.in-Err.ensures.step in
    keeps_so _ _ _ _ _ _ _ _ _ _ _ _ c.args.rec.now.kept c.begin-ctx.ensures.start c.begin-ctx.ensures.state tried refl

pub give_up-requires-clause-undone : goal.give_up-requires-clause-undone
give_up-requires-clause-undone g c =
    judged-undone _ _ _ (fetched_undone _ _ (sym c.in-Err.ensures.value))

pub returns-in-Err-clause-did : goal.returns-in-Err-clause-did
returns-in-Err-clause-did g c =
    let starts = starts_so _ _ _ _ _ _ c.begin-ctx.ensures.start c.begin-ctx.ensures.state in
    let tried = tried_none _ _ _ starts _ _ c.args.cpu.now [] (sym c.in-Err.ensures.value) c.in-Err.ensures.step in
    let undone = judged-undone _ _ _ (fetched_undone _ _ (sym c.in-Err.ensures.value)) in
    let same = c.in-Err.ensures.same.state ∙ c.begin-ctx.ensures.state in
    record {
      report = told_by _ _ _;
      reports = call_ended _ _ _ _ _ _ _ _ _ _ _ _ c.args.rec.now.kept c.begin-ctx.ensures.start c.begin-ctx.ensures.state tried refl undone c.in-Err.ensures.open.agrees _ _ _ _ refl (search (rules, same)) (search rules) (search rules);
      went = went_no_further _ _ _ _ _ _ undone c.give_up.ensures.told;
    }
