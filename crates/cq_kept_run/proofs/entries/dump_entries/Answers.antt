-- The store was told, and then the count.
use Rattle.std.proofs.Common.{ℕ, subst}
use Rattle.std.specs.Io.KnownBytes.{Appends}
use Rattle.std.proofs.KnownBytes.{Appends-kept}
use Rattle.cq_lines.specs.Checks.{inner_of}
use Rattle.cq_kept_run.specs.within.Entries.{count_text}
use Rattle.cq_kept_run.proofs.Looked.{ok_of}
use Rattle.cq_kept_run.proofs.entries.dump_entries.Goals as goal

pub returns : goal.returns
returns g c =
    let stored = g.W.Write.contents (inner_of c.tell_store_of.new.output) in
    let mid = g.W.Write.contents (inner_of c.print_count.new.output) in
    let new = g.W.Write.contents (inner_of c.finish_writing.new.writer) in
    let line : Appends stored mid (count_text c.entry_count-entries.result) = c.in_ok-print_count.ensures in
    ok_of c.finish_writing.result
    (record {
      stored = stored;
      store = c.in_ok-tell_store_of.ensures.told;
      count = Appends-kept stored mid new _ (subst (λ (n : ℕ). Appends stored mid (count_text n)) c.entry_count-entries.ensures line) c.finish_writing.ensures.kept;
    })
