-- The task of a line, or its fault.
use Rattle.std.specs.Prelude.{Result, Ok, Err}
use Rattle.command.specs.declared.usage_fault.UsageFault.{UsageFault}
use Rattle.command.specs.declared.line.CommandLine.{CommandLine}
use Rattle.command.specs.Line.{Task, task_of}

abbrev pub task_or_fault : Result CommandLine UsageFault → Result Task UsageFault
task_or_fault (Ok request) = Ok (task_of request)
task_or_fault (Err fault) = Err fault
