-- What a run of the program reads and writes beside files: its input, its output and the output for errors.
use Rattle.std.specs.Prelude.{ℕ, List, Option}
use Rattle.command.specs.declared.output.Printer.{Printer}
use Rattle.command.specs.Output.{Taken, taken_of}

abbrev pub failures_of : {W : Type 0} → Printer W → ℕ
failures_of printer = printer.failures

abbrev pub taken : {O : Type 0} → (contents : O → Option (List ℕ)) → (failures : O → ℕ) → O → Taken
taken contents failures output = taken_of (contents output) (failures output)

-- What contracts see of an output: the bytes that it took, if known, and how many texts couldn't be written.
pub record OutputSeen (O : Type 0) : Type 0 where
  pub contents : O → Option (List ℕ)
  pub failures : O → ℕ

abbrev pub output_seen : {O : Type 0} → (O → Option (List ℕ)) → (O → ℕ) → OutputSeen O
output_seen contents failures = record { contents = contents; failures = failures }

-- the input and the output, and what the output for errors has taken
pub record Streams (I O : Type 0) : Type 0 where
  pub input : I
  pub output : O
  pub errors : Taken

abbrev pub streams : {I O : Type 0} → I → O → Taken → Streams I O
streams input output errors = record { input = input; output = output; errors = errors }
