-- The front and the message, as a frame.
use Rattle.std.proofs.Common.{◌≡◌, ◌≤◌, ◌+◌, ◌∙◌, ◌++◌, ap, sym, length, length-append, append_assoc, arith}
use Rattle.cq_frames.specs.declared.piece.TheConstants.{PIECE_LIMIT}
use Rattle.cq_master_process.specs.Cores.{piece_of}
use Rattle.cq_master_process.proofs.Told.{cut-off, on-put, piece-short}
use Rattle.cq_process_frames.specs.Frames.{front}
use Rattle.cq_process_frames.proofs.Overwriting.{front-short}
use Rattle.cq_master_process.proofs.telling.tell_behind.Goals as goal

pub seal_or_cut-requires-clause-order : goal.seal_or_cut-requires-clause-order
seal_or_cut-requires-clause-order c = let bounds = front-short c.args.to.now in let low = bounds.1 in let long = c.requires.begins in let at = c.len-body.ensures ∙ c.args.out.now.ok.0 in omega arith

pub seal_or_cut-requires-clause-short : goal.seal_or_cut-requires-clause-short
seal_or_cut-requires-clause-short c = let bounds = front-short c.args.to.now in let high = bounds.0 in let long = c.requires.begins in let at = c.len-body.ensures ∙ c.args.out.now.ok.0 in omega arith

pub seal_or_cut-requires-clause-within : goal.seal_or_cut-requires-clause-within
seal_or_cut-requires-clause-within c = let at = c.len-body.ensures ∙ c.args.out.now.ok.0 in let long = ap (λ xs. length xs) c.in-Ok.ensures.ok ∙ length-append c.args.out.now.items (piece_of c.args.message.now) in omega arith

pub returns-in-Ok-clause-told : goal.returns-in-Ok-clause-told
returns-in-Ok-clause-told c = λ old is.
    let at = c.len-body.ensures ∙ c.args.out.now.ok.0 in
    let long = ap (λ xs. length xs) is ∙ length-append old (front c.args.to.now) in
    let ends = c.requires.begins in
    let begins : length old ≡ c.args.start = omega arith in
    c.seal_or_cut.ensures.told old (piece_of c.args.message.now) c.args.to.now (c.in-Ok.ensures.ok ∙ ap (λ xs. xs ++ piece_of c.args.message.now) is) begins (ends ∙ sym at)

pub returns-in-Ok-clause-short : goal.returns-in-Ok-clause-short
returns-in-Ok-clause-short c =
    on-put c.seal_or_cut.result (length c.write_message.new.bytes.items ≤ c.len-body.result + PIECE_LIMIT) (length (piece_of c.args.message.now) ≤ PIECE_LIMIT)
    (λ short. piece-short c.write_message.new.bytes.items c.args.out.now.items (piece_of c.args.message.now) c.len-body.result c.in-Ok.ensures.ok (sym (c.len-body.ensures ∙ c.args.out.now.ok.0)) short) c.seal_or_cut.ensures.short

pub returns-in-Ok-clause-cut : goal.returns-in-Ok-clause-cut
returns-in-Ok-clause-cut c = λ old is.
    let long = ap (λ xs. length xs) is ∙ length-append old (front c.args.to.now) in
    let ends = c.requires.begins in
    let begins : length old ≡ c.args.start = omega arith in
    c.seal_or_cut.ensures.cut old (front c.args.to.now ++ piece_of c.args.message.now) (c.in-Ok.ensures.ok ∙ ap (λ xs. xs ++ piece_of c.args.message.now) is ∙ append_assoc old (front c.args.to.now) (piece_of c.args.message.now)) begins

pub returns-in-Err-clause-cut : goal.returns-in-Err-clause-cut
returns-in-Err-clause-cut c = λ old is.
    let long = ap (λ xs. length xs) is ∙ length-append old (front c.args.to.now) in
    let ends = c.requires.begins in
    let begins : length old ≡ c.args.start = omega arith in
    c.truncate.ensures.items ∙ cut-off old (front c.args.to.now) c.write_message.new.bytes.items c.args.start (c.in-Err.ensures.err ∙ is) begins
