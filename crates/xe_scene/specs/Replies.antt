-- What a script replies to one access, and what it counts of its replies. A reply is that of the first item of the queue; a queue
-- without items is ready at once, so that a script needs to name only the devices whose answers matter.
use Rattle.std.specs.Prelude.{ℕ, ◌+◌, min, IsTrue, Option, Some, None, [], ◌∷◌}
use Rattle.xe_base.specs.Access.{answers_to}
use Rattle.xe_base.specs.declared.access.Access.{Access}
use Rattle.xe_ctx.specs.Tape.{unscripted, first_reply}
use Rattle.xe_ctx.specs.declared.bus.Reply.{Reply}
use Rattle.xe_ctx.specs.declared.bus.Reply.TheVariants.{Ready, NotYet, Failed}
use Rattle.xe_scene.specs.declared.command.Item.{Item}
use Rattle.xe_scene.specs.Script.{taped_in}

-- the reply by the first item of the queue, if it has one
abbrev pub reply_to : Access → Option Item → Reply
reply_to a None = Ready (unscripted a)
reply_to a (Some i) = first_reply a (taped_in a.space i ∷ [])

-- an answer is one that the access can have
abbrev pub Fits : Access → Reply → Type 0
Fits a (Ready r) = IsTrue (answers_to a r)
Fits a NotYet = Unit {0}
Fits a Failed = Unit {0}

-- a count of 64 bits with one more; at its last value it stands still
abbrev pub raised : ℕ → ℕ
raised n = min (n + 1) 0xffff_ffff_ffff_ffff

-- after a reply: how often a device wasn't ready, and how often one failed
abbrev pub unready_after : Reply → ℕ → ℕ
unready_after (Ready r) n = n
unready_after NotYet n = raised n
unready_after Failed n = n

abbrev pub faults_after : Reply → ℕ → ℕ
faults_after (Ready r) n = n
faults_after NotYet n = n
faults_after Failed n = raised n
