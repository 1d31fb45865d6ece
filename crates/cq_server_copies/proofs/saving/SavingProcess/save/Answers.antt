-- A chunk, or that there is no memory.
use Rattle.std.proofs.Common.{◌≡◌, ◌∙◌, [], ◌∷◌, inl, inr, length, refl, subst, sym}
use Rattle.cq_frames.specs.declared.response.Response.TheVariants as responses
use Rattle.cq_process_frames.specs.Frames.{frame}
use Rattle.cq_server_copies.proofs.Chunks.{one-told, same-front, two-told}
use Rattle.cq_server_process.specs.Answers.{StandsSo}
use Rattle.cq_server_copies.proofs.saving.SavingProcess.save.Goals as goal

pub returns-in-Err-clause-tells : goal.returns-in-Err-clause-tells
returns-in-Err-clause-tells c =
    let none : length c.args.end.now.items ≡ 0 = sym c.args.end.now.ok.0 ∙ c.requires.empty in (
      responses.Refused 20 ∷ [],
      (
        one-told c.args.out.now.items c.args.out.now.items c.args.end.now.items c.tell_refused.new.out.items (responses.Refused 20) refl none c.tell_refused.ensures.items,
        inr (record { copy = c.take_copy.ensures.copy; process = c.take_copy.ensures.process; is = refl }),
      ),
    )

pub returns-in-Ok-tell_next-clause-tells : goal.returns-in-Ok-tell_next-clause-tells
returns-in-Ok-tell_next-clause-tells c =
    let none : length c.args.end.now.items ≡ 0 = sym c.args.end.now.ok.0 ∙ c.requires.empty in
    let told = c.in-Ok-tell_next.ensures.ok in
    let saved = responses.Saved c.in-Ok.copy.count told.1.0 in
    let done = responses.Done c.standing.result in (
      saved ∷ done ∷ [],
      (
        two-told c.args.out.now.items c.tell_next.new.out.items c.args.end.now.items c.tell_done.new.out.items saved done told.1.1.1.1 none c.tell_done.ensures.items,
        inl (record {
          before = c.in-Ok.copy;
          begins = c.in-Ok.ensures.begins;
          after = told.0;
          chunk = told.1.0;
          next = told.1.1.0;
          copy = told.1.1.1.0;
          process = c.take_copy.ensures.process;
          standing = c.standing.result;
          stands = subst (λ core. StandsSo core c.standing.result) c.core.ensures (record {
            count = c.standing.ensures.count;
            acked = c.standing.ensures.acked;
            last = c.standing.ensures.last;
            head = c.standing.ensures.head;
            acting = c.standing.ensures.acting;
            full = c.standing.ensures.full;
          });
          is = refl;
        }),
      ),
    )

pub returns-in-Err-NoMemory-clause-tells : goal.returns-in-Err-NoMemory-clause-tells
returns-in-Err-NoMemory-clause-tells c =
    let none : length c.args.end.now.items ≡ 0 = sym c.args.end.now.ok.0 ∙ c.requires.empty in (
      responses.Refused 20 ∷ [],
      (
        one-told c.args.out.now.items c.tell_next.new.out.items c.args.end.now.items c.tell_refused-in-Err-NoMemory.new.out.items (responses.Refused 20) c.in-Err-NoMemory.ensures.err none c.tell_refused-in-Err-NoMemory.ensures.items,
        inr (record { copy = c.take_copy.ensures.copy; process = c.take_copy.ensures.process; is = refl }),
      ),
    )

pub returns-in-Err-TooLong-clause-err : goal.returns-in-Err-TooLong-clause-err
returns-in-Err-TooLong-clause-err c = same-front c.args.out.now.items c.tell_next.new.out.items c.in-Err-TooLong.ensures.err

pub returns-in-Err-clause-front : goal.returns-in-Err-clause-front
returns-in-Err-clause-front c = same-front c.args.out.now.items c.args.out.now.items refl

pub returns-in-Ok-tell_next-clause-front : goal.returns-in-Ok-tell_next-clause-front
returns-in-Ok-tell_next-clause-front c =
    let told = c.in-Ok-tell_next.ensures.ok in
    (frame (responses.Saved c.in-Ok.copy.count told.1.0), told.1.1.1.1)

pub returns-in-Err-NoMemory-clause-front : goal.returns-in-Err-NoMemory-clause-front
returns-in-Err-NoMemory-clause-front c = same-front c.args.out.now.items c.tell_next.new.out.items c.in-Err-NoMemory.ensures.err
