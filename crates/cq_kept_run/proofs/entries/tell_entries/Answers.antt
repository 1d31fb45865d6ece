-- The line was written, and then flushed.
use Rattle.std.proofs.Common.{ℕ, subst}
use Rattle.std.specs.Io.KnownBytes.{Appends}
use Rattle.std.proofs.KnownBytes.{Appends-kept}
use Rattle.cq_lines.specs.Checks.{inner_of}
use Rattle.cq_kept_run.specs.within.Entries.{entries_text}
use Rattle.cq_kept_run.proofs.Looked.{ok_of}
use Rattle.cq_kept_run.proofs.entries.tell_entries.Goals as goal

pub returns : goal.returns
returns g c =
    let told = c.args.contents.now in
    let old = g.W.Write.contents (inner_of c.args.output.now) in
    let mid = g.W.Write.contents (inner_of c.print_entries.new.output) in
    let new = g.W.Write.contents (inner_of c.finish_writing.new.writer) in
    let line : Appends old mid (entries_text told.bytes c.entry_count-entries.result told.records told.regions) = c.in_ok-print_entries.ensures in
    ok_of c.finish_writing.result
    (Appends-kept old mid new _ (subst (λ (n : ℕ). Appends old mid (entries_text told.bytes n told.records told.regions)) c.entry_count-entries.ensures line) c.finish_writing.ensures.kept)
