-- It is the last one that waits.
use Rattle.std.proofs.Common.{List, ℕ, ◌∷◌, [], ◌∙◌, ap, sym, append_assoc}
use Rattle.std.specs.Prelude.{◌++◌}
use Rattle.cq_journal.specs.Base.{base_records}
use Rattle.cq_journal.proofs.Copies.{rests_self}
use Rattle.cq_records.specs.Batch.{batch_bytes}
use Rattle.cq_records.specs.Frames.{records}
use Rattle.cq_kept_base.proofs.writer.add_record.Goals as goal

pub returns-then-not-is_text-clause-rests : goal.returns-then-not-is_text-clause-rests
returns-then-not-is_text-clause-rests g c = rests_self c.args.journal.now (λ f. g.met.D.Device.only_now c.args.journal.now.root.log.device.device f) c.requires.journal.regions

pub returns-clause-added : goal.returns-clause-added
returns-clause-added g c =
    let now = base_records c.make_room.new.journal c.make_room.new.base.base in
    ap (λ rs. now ++ rs) c.in_ok-add.ensures.records
    ∙ sym (append_assoc now (records (batch_bytes c.make_room.new.base.batch)) (c.args.text.now ∷ []))
    ∙ ap (λ rs. rs ++ c.args.text.now ∷ []) c.in_ok-make_room.ensures.same
