use Rattle.std.proofs.Common.{◌≡◌, ◌∙◌, ◌+◌, ◌++◌, length, take, arith, length-append, length-take-le}
use Rattle.command.proofs.Contents.{reads_key}
use Rattle.typecodes.proofs.Messages.{content_at_end}
use Rattle.command.proofs.Reading.{content_after, fails_later, fills_to_end, fills_whole, reads_err, reads_rest}
use Rattle.command.proofs.files.read_key.Goals as goal

pub returns-then-n-lt69-clause-reads : goal.returns-then-n-lt69-clause-reads
returns-then-n-lt69-clause-reads g c =
    let bytes = take c.in_ok-n.n c.read_into.new.buffer in
    let size = length-take-le c.in_ok-n.n c.read_into.new.buffer c.in_ok-n.ensures.within in (
      bytes,
      content_at_end _ _ bytes c.in_ok-n.ensures.bytes (c.in_ok-n.ensures.end (omega arith)),
      reads_key bytes c.read.result c.read.ensures.ok c.read.ensures.err,
      fills_to_end _ _ bytes _ _ c.in_ok-n.ensures.trace (omega (arith, size)),
    )

pub returns-in_err-length-clause-reads : goal.returns-in_err-length-clause-reads
returns-in_err-length-clause-reads g c =
    let bytes = take c.in_ok-n.n c.read_into.new.buffer in
    let size = length-take-le c.in_ok-n.n c.read_into.new.buffer c.in_ok-n.ensures.within in
    let first = fills_whole _ _ bytes _ _ c.in_ok-n.ensures.trace (omega (arith, size)) in
    reads_err _ _ _ c.from_residual-in_err-length.result c.in_err-length.field-0.0 _ _ c.from_residual-in_err-length.ensures.1
    (fails_later _ _ bytes _ _ _ _ first c.read_into.ensures.role c.in_err-length.ensures.counts)

pub returns-clause-reads : goal.returns-clause-reads
returns-clause-reads g c =
    let bytes = take c.in_ok-n.n c.read_into.new.buffer in
    let size = length-take-le c.in_ok-n.n c.read_into.new.buffer c.in_ok-n.ensures.within in
    let first = fills_whole _ _ bytes _ _ c.in_ok-n.ensures.trace (omega (arith, size)) in
    let (rest, fits, counted, reads) = c.in_ok-length.ensures.counts in
    let all : c.in_ok-n.n + c.in_ok-length.field-0 ≡ length (bytes ++ rest) = omega (arith, counted, length-append bytes rest, size) in (
      bytes ++ rest,
      content_after _ _ bytes rest c.in_ok-n.ensures.bytes fits,
      (all, (λ e. omega (arith, e)), (λ e. omega (arith, e)), (λ e. omega (arith, e))),
      reads_rest _ _ bytes rest _ _ _ first c.read_into.ensures.role reads,
    )

pub returns-in_err-length-clause-content : goal.returns-in_err-length-clause-content
returns-in_err-length-clause-content g c = λ path. c.in_err-length.ensures.content path ∙ c.read_into.ensures.content path

pub returns-clause-content : goal.returns-clause-content
returns-clause-content g c = λ path. c.in_ok-length.ensures.content path ∙ c.read_into.ensures.content path
