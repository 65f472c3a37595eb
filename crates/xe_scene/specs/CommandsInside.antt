-- How the commands of a scene are kept, at most so many as a text may have.
use Rattle.std.specs.Prelude.{◌≤◌, All, vec_len}
use Rattle.xe_scene.specs.declared.command.Commands.TheInside.{Inside}
use Rattle.xe_scene.specs.Formed.{IsFormed}

-- each has its words in range
pub record AreCommands (c : Inside) : Type 0 where
  pub few : vec_len c.list ≤ 4096
  pub formed : All IsFormed c.list.items
