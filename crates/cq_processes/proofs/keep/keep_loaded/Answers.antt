-- What was answered, by the fault of the loop.
use Rattle.std.proofs.Common.{◌≡◌, Err, Result, refl, subst, sym}
use Rattle.cq_frame_loop.specs.declared.fault.LoopFault.{LoopFault}
use Rattle.cq_frame_loop.specs.Loops.{AnswersInput, LeavesReader, LeavesWriter}
use Rattle.cq_server_copies.specs.Loading as loading
use Rattle.cq_processes.proofs.Loaded.{not-loaded, unanswered}
use Rattle.cq_processes.proofs.keep.keep_loaded.Goals as goal

pub returns-in-Ok-clause-keeps : goal.returns-in-Ok-clause-keeps
returns-in-Ok-clause-keeps g c =
    let h = c.in-Ok.ensures.answers in
    (h.0, h.1, h.2, h.3, record { first = c.new-process.result; last = c.answer_frames.new.handler; new = c.new-process.ensures; not_loaded = λ none. cc; unanswered = λ none. cc; answered = h.4 }, h.5)

pub returns-clause-keeps : goal.returns-clause-keeps
returns-clause-keeps g c =
    let h = c.in-Err.ensures.answers in
    let is = sym c.end_of.ensures.fault in
    let answered = subst (λ (r : Result (Unit {0}) LoopFault). AnswersInput loading.Answers loading.Breaks r c.new-process.result c.answer_frames.new.handler h.0 (g.R.Read.remaining c.answer_frames.new.reader) h.1) is h.4 in (
      h.0,
      h.1,
      h.2,
      h.3,
      record {
        first = c.new-process.result;
        last = c.answer_frames.new.handler;
        new = c.new-process.ensures;
        not_loaded = not-loaded c.end_of.result c.has_failed.result c.new-process.result c.answer_frames.new.handler h.0 (g.R.Read.remaining c.answer_frames.new.reader) h.1 c.has_failed.ensures.yes c.end_of.ensures.not_loaded answered;
        unanswered = unanswered c.end_of.result c.has_failed.result c.new-process.result c.answer_frames.new.handler h.0 (g.R.Read.remaining c.answer_frames.new.reader) h.1 c.has_failed.ensures.no c.end_of.ensures.unanswered answered;
        answered = answered;
      },
      subst (λ (r : Result (Unit {0}) LoopFault). LeavesWriter r h.0 (g.W.Sink.has_failed c.answer_frames.new.writer) (g.W.Sink.has_flushed c.answer_frames.new.writer)) is h.5,
    )

pub returns-clause-reader : goal.returns-clause-reader
returns-clause-reader g c = subst (λ (r : Result (Unit {0}) LoopFault). LeavesReader r (g.R.Source.has_failed c.answer_frames.new.reader)) (sym c.end_of.ensures.fault) c.in-Err.ensures.reader
