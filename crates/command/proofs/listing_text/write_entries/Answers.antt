use Rattle.std.proofs.Common.{rules, subst, sym, length, length-take-le, ◌<◌, arith}
use Rattle.std.specs.Io.KnownBytes.{Appends}
use Rattle.command.specs.Output.{entry_line, entry_lines}
use Rattle.command.proofs.EntryText.{entries_begin, entries_so_far, entry_writes}
use Rattle.command.proofs.listing_text.write_entries.Goals as goal

pub loop-place-init : goal.loop-place-init
loop-place-init g c = entries_begin (g.W.Write.contents c.args.writer.now)

pub loop-place-preserved : goal.loop-place-preserved
loop-place-preserved g c =
    let within : c.loop-place.place < length c.args.entries.now = search rules in
    let entry = c.index-entries-place.result in
    let wrote : Appends (g.W.Write.contents c.loop-place.writer) (g.W.Write.contents c.write_line.new.writer)
    (entry_line c.loop-place.place entry) = search rules in
    subst (λ l. Appends (g.W.Write.contents c.args.writer.now) (g.W.Write.contents c.write_line.new.writer) (entry_lines 0 l))
    (sym (entries_so_far c.args.entries.now c.loop-place.place entry within c.index-entries-place.is))
    (entry_writes _ _ _ _ c.loop-place.place entry (length-take-le c.loop-place.place c.args.entries.now (omega (arith, within)))
    c.loop-place.invariant wrote)
