use Rattle.std.proofs.Common.{◌≡◌, ◌∙◌, ◌++◌, ap, length, subst, sym}
use Rattle.std.specs.Prelude.{OnOk}
use Rattle.std.proofs.lemmas.Result.{on_ok_weaker}
use Rattle.cq_records.specs.Frames.{framed, next_mark}
use Rattle.cq_records.specs.within.Batches.{HasLast}
use Rattle.cq_records.proofs.Framing.{ends_with_one, one_more, still_a_batch}
use Rattle.cq_records.proofs.batch.Batch.add.Goals as goal

pub returns-clause-bytes : goal.returns-clause-bytes
returns-clause-bytes c =
    subst (λ (m : _). OnOk c.push_frame.result (c.push_frame.new.bytes.items ≡ c.args.self.now.bytes.items ++ framed m c.args.text.now)) (c.next_mark-mark.ensures ∙ ap next_mark c.deref.ensures.value) c.push_frame.ensures.ok

pub invariant_of-self-clause-batch : goal.invariant_of-self-clause-batch
invariant_of-self-clause-batch c =
    let added : OnOk c.push_frame.result (c.push_frame.new.bytes.items ≡ c.args.self.now.bytes.items ++ framed (next_mark c.args.self.now.bytes.items) c.args.text.now) =
    subst (λ (m : _). OnOk c.push_frame.result (c.push_frame.new.bytes.items ≡ c.args.self.now.bytes.items ++ framed m c.args.text.now)) (c.next_mark-mark.ensures ∙ ap next_mark c.deref.ensures.value) c.push_frame.ensures.ok in
    still_a_batch c.args.text.now c.requires c.args.self.now.bytes.items c.push_frame.new.bytes.items c.push_frame.result added c.push_frame.ensures.err c.args.self.now.batch

pub invariant_of-self-clause-last_one : goal.invariant_of-self-clause-last_one
invariant_of-self-clause-last_one c =
    let added : OnOk c.push_frame.result (c.push_frame.new.bytes.items ≡ c.args.self.now.bytes.items ++ framed (next_mark c.args.self.now.bytes.items) c.args.text.now) =
    subst (λ (m : _). OnOk c.push_frame.result (c.push_frame.new.bytes.items ≡ c.args.self.now.bytes.items ++ framed m c.args.text.now)) (c.next_mark-mark.ensures ∙ ap next_mark c.deref.ensures.value) c.push_frame.ensures.ok in
    subst (HasLast c.push_frame.new.bytes.items) (sym (ap length c.as_slice.ensures))
    (ends_with_one c.args.text.now c.requires c.args.self.now.bytes.items c.push_frame.new.bytes.items c.push_frame.result added c.push_frame.ensures.err c.args.self.now.batch)

pub returns-clause-records : goal.returns-clause-records
returns-clause-records c =
    let added : OnOk c.push_frame.result (c.push_frame.new.bytes.items ≡ c.args.self.now.bytes.items ++ framed (next_mark c.args.self.now.bytes.items) c.args.text.now) =
    subst (λ (m : _). OnOk c.push_frame.result (c.push_frame.new.bytes.items ≡ c.args.self.now.bytes.items ++ framed m c.args.text.now)) (c.next_mark-mark.ensures ∙ ap next_mark c.deref.ensures.value) c.push_frame.ensures.ok in
    on_ok_weaker c.push_frame.result (λ is. (one_more c.args.text.now c.requires c.args.self.now.bytes.items c.push_frame.new.bytes.items is c.args.self.now.batch).1) added
