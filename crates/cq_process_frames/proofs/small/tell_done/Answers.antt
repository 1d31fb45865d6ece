-- Its bytes are those of the frame.
use Rattle.std.proofs.Common.{◌∙◌, ◌++◌, ap, [], ◌∷◌}
use Rattle.cq_wire.specs.declared.version.TheConstants.{VERSION}
use Rattle.cq_wire.specs.Layout.{flag, number64}
use Rattle.cq_process_frames.proofs.Responses.{both-behind, done-frame}
use Rattle.cq_process_frames.proofs.small.tell_done.Goals as goal

pub returns-clause-items : goal.returns-clause-items
returns-clause-items c =
    let s = c.args.standing.now in
    let acting = both-behind c.append_flag.new.out.items c.append_flag-2.new.out.items c.append_flag-3.new.out.items (flag s.is_acting) (flag s.is_full) c.append_flag-2.ensures.items c.append_flag-3.ensures.items in
    let head = both-behind c.append_u64-3.new.out.items c.append_flag.new.out.items c.append_flag-3.new.out.items (flag s.is_head) (flag s.is_acting ++ flag s.is_full) c.append_flag.ensures.items acting in
    let last = both-behind c.append_u64-2.new.out.items c.append_u64-3.new.out.items c.append_flag-3.new.out.items (number64 c.get.result) (flag s.is_head ++ (flag s.is_acting ++ flag s.is_full)) c.append_u64-3.ensures.items head in
    let acked = both-behind c.append_u64.new.out.items c.append_u64-2.new.out.items c.append_flag-3.new.out.items (number64 s.acked) (number64 c.get.result ++ (flag s.is_head ++ (flag s.is_acting ++ flag s.is_full))) c.append_u64-2.ensures.items last in
    let count = both-behind c.append.new.out.items c.append_u64.new.out.items c.append_flag-3.new.out.items (number64 s.count) (number64 s.acked ++ (number64 c.get.result ++ (flag s.is_head ++ (flag s.is_acting ++ flag s.is_full)))) c.append_u64.ensures.items acked in
    both-behind c.args.out.now.items c.append.new.out.items c.append_flag-3.new.out.items (29 ∷ 0 ∷ 0 ∷ 0 ∷ VERSION ∷ 5 ∷ [])
    (number64 s.count ++ (number64 s.acked ++ (number64 c.get.result ++ (flag s.is_head ++ (flag s.is_acting ++ flag s.is_full))))) c.append.ensures.items count
    ∙ ap (λ xs. c.args.out.now.items ++ xs) (done-frame s c.get.result c.get.ensures.value)
