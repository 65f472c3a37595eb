-- The numbers of the reasons for which a line is refused, as a refusal prints them (docs/SCENARIO.md, "Refusals").
use Rattle.std.specs.Prelude.{ℕ}
use Rattle.xe_scene.specs.declared.reason.Reason.{Reason}
use Rattle.xe_scene.specs.declared.reason.Reason.TheVariants.{Header, BadByte, LongLine, Spacing, UnknownCommand, WordCount, UnknownName, BadNumber, BadBytes, BadRegion, TooMuchRam, LateRam, TooMany, TooLong}

abbrev pub reason_number : Reason → ℕ
reason_number Header = 1
reason_number BadByte = 2
reason_number LongLine = 3
reason_number Spacing = 4
reason_number UnknownCommand = 5
reason_number WordCount = 6
reason_number UnknownName = 7
reason_number BadNumber = 8
reason_number BadBytes = 9
reason_number BadRegion = 10
reason_number TooMuchRam = 11
reason_number LateRam = 12
reason_number TooMany = 13
reason_number TooLong = 14
