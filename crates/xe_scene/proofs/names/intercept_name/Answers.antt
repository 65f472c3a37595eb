use Rattle.std.proofs.Common.{sym, ◌∙◌}
use Rattle.xe_scene.proofs.InterceptLaws.{no_name, has_name}
use Rattle.xe_scene.proofs.names.intercept_name.Goals as goal

pub returns-in-Ok : goal.returns-in-Ok
returns-in-Ok c = c.ok_or.ensures.value ∙ has_name _ _ _ c.in-Ok.ensures.cases.0 (c.from_name.ensures tt)

pub returns-in-Err : goal.returns-in-Err
returns-in-Err c = sym (no_name _ c.in-Err.ensures.cases.0)
