use Rattle.std.proofs.Common.{◌++◌, codes, subst}
use Rattle.command.specs.Output.{Prints, could_be_line, signed_lines}
use Rattle.command.specs.Streams.{taken}
use Rattle.command.proofs.answer.print_described.Goals as goal

pub returns-in-HssSignature : goal.returns-in-HssSignature
returns-in-HssSignature g c =
    rw c.in-HssSignature.is
    (subst (λ l. Prints (codes "signature hss\n" ++ signed_lines 0 l ++ could_be_line c.args.could_be)
    (taken g.O.Write.contents g.O.Output.failures c.args.output.now) (taken g.O.Write.contents g.O.Output.failures c.print.new.self) c.print.result)
    c.as_slice.ensures.value c.print.ensures)

pub returns-in-XmssSignature : goal.returns-in-XmssSignature
returns-in-XmssSignature g c = rw c.in-XmssSignature.is c.print_leaf-in-XmssSignature.ensures
