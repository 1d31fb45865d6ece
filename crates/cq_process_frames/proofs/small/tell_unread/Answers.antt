-- Its bytes are those of the frame.
use Rattle.std.proofs.Common.{◌∙◌, ◌++◌, ap, [], ◌∷◌}
use Rattle.cq_wire.specs.declared.version.TheConstants.{VERSION}
use Rattle.cq_wire.specs.Layout.{number32}
use Rattle.cq_process_frames.proofs.Responses.{both-behind, unread-frame}
use Rattle.cq_process_frames.proofs.small.tell_unread.Goals as goal

pub returns-clause-items : goal.returns-clause-items
returns-clause-items c =
    both-behind c.args.out.now.items c.append.new.out.items c.append_u32.new.out.items (6 ∷ 0 ∷ 0 ∷ 0 ∷ VERSION ∷ 2 ∷ []) (number32 c.args.code) c.append.ensures.items c.append_u32.ensures.items
    ∙ ap (λ xs. c.args.out.now.items ++ xs) (unread-frame c.args.code)
