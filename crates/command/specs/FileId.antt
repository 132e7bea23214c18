-- Which files of the machine were opened.
use Rattle.std.specs.Prelude.{ℕ}
use Rattle.command.specs.declared.trace.Role.{Role}
use Rattle.command.specs.declared.trace.Role.TheVariants.{State, Public, Message, Signature, Random}

-- a role's place in the list of opened files
abbrev pub index_of : Role → ℕ
index_of State = 0
index_of Public = 1
index_of Message = 2
index_of Signature = 3
index_of Random = 4
