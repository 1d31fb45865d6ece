-- The front is there, and the message comes behind it.
use Rattle.std.proofs.Common.{◌≤◌, ◌+◌, ◌∙◌, ap, sym, length, length-append}
use Rattle.cq_base.specs.declared.party.Party.TheVariants.{Server}
use Rattle.cq_chain_wire.specs.Limits.{IsMessage}
use Rattle.cq_frames.specs.declared.piece.TheConstants.{PIECE_LIMIT}
use Rattle.cq_master_process.specs.Cores.{piece_of}
use Rattle.cq_master_process.proofs.Told.{on-put}
use Rattle.cq_process_frames.specs.Frames.{front}
use Rattle.cq_wire.specs.Limits.{IsServer}
use Rattle.cq_master_process.proofs.telling.tell_message.Goals as goal

pub tell_behind-requires-clause-begins : goal.tell_behind-requires-clause-begins
tell_behind-requires-clause-begins c =
    ap (λ n. n + length (front (Server c.args.to))) (c.len-start.ensures ∙ c.args.out.now.ok.0) ∙ sym (ap (λ xs. length xs) c.in-Ok.ensures.ok ∙ length-append c.args.out.now.items (front (Server c.args.to)))

pub returns-in-Ok-clause-told : goal.returns-in-Ok-clause-told
returns-in-Ok-clause-told c = c.tell_behind.ensures.told c.args.out.now.items c.in-Ok.ensures.ok

pub returns-in-Ok-clause-fits : goal.returns-in-Ok-clause-fits
returns-in-Ok-clause-fits c =
    on-put c.tell_behind.result (length (piece_of c.args.message.now) ≤ PIECE_LIMIT) (IsMessage c.args.message.now × (IsServer c.args.to × (length (piece_of c.args.message.now) ≤ PIECE_LIMIT)))
    (λ short. (c.message_fits.ensures, (c.server_fits.ensures, short))) c.tell_behind.ensures.short

pub returns-in-Ok-clause-same : goal.returns-in-Ok-clause-same
returns-in-Ok-clause-same c = c.tell_behind.ensures.cut c.args.out.now.items c.in-Ok.ensures.ok
