-- The process answers, and the entry that came is added.
use Rattle.std.proofs.Common.{Some, sym, ap, subst, ◌∙◌}
use Rattle.cq_kept_entries.specs.Kept.{HasAdded, IsKept, entries_journal}
use Rattle.cq_kept_server.specs.Servers.{device_of, state_of}
use Rattle.cq_kept_server.proofs.Answered.{CountsEntries, arrival_none, arrival_one, on_err, on_ok_added}
use Rattle.cq_kept_server.proofs.Moments.{stops_here}
use Rattle.cq_server_copies.specs.declared.saving.SavingProcess.{SavingProcess}
use Rattle.cq_server_copies.specs.Saving as saving
use Rattle.cq_server_process.specs.Answers.{StandsSo}
use Rattle.cq_kept_server.proofs.server.KeptServer.take_arrival.Goals as goal

pub returns-in_err-pass_command-clause-stops : goal.returns-in_err-pass_command-clause-stops
returns-in_err-pass_command-clause-stops g c =
    let p = state_of c.args.self.now in
    on_err c.from_residual.result (λ ready. stops_here p (state_of c.pass_command.new.self) (λ f. g.met.D.Device.only_now (device_of p) f) (ap (λ it. entries_journal it) c.pass_command.ensures.kept) ready)

pub returns-in_err-pass_command-clause-err : goal.returns-in_err-pass_command-clause-err
returns-in_err-pass_command-clause-err g c = on_err c.from_residual.result c.pass_command.ensures.front

pub returns-then-standing-before-clause-tells : goal.returns-then-standing-before-clause-tells
returns-then-standing-before-clause-tells g c =
    let p = state_of c.args.self.now in
    let q = state_of c.pass_command.new.self in
    let told = c.in_ok-pass_command.ensures.tells in
    let counts = subst (λ core. CountsEntries core c.count-before.result) c.core.ensures c.count-before.ensures in (
      told.0,
      (
        told.1.0,
        arrival_none p q c.args.bytes.now told.0 c.args.stream c.args.clock c.args.request.now c.count-before.result c.standing-standing.result (λ f. g.met.D.Device.only_now (device_of p) f) c.requires.ready
            c.pass_command.ensures.kept (ap (λ s. s.ended) c.pass_command.ensures.streams) c.requires.arrival told.1.1 counts c.standing-standing.ensures c.if-standing-before.true,
      ),
    )

pub returns-clause-tells : goal.returns-clause-tells
returns-clause-tells g c =
    let p = state_of c.args.self.now in
    let q = state_of c.add.new.self in
    let told = c.in_ok-pass_command.ensures.tells in
    let process = c.add.ensures.process in
    let counts = subst (λ core. CountsEntries core c.count-before.result) c.core.ensures c.count-before.ensures in
    let answers = subst (λ (it : SavingProcess). saving.Answers p.process (Some c.args.bytes.now) told.0 it) (sym process) told.1.1 in
    let stands = subst (λ (it : SavingProcess). StandsSo it.process.core c.standing-standing.result) (sym process) c.standing-standing.ensures in
    let ready = c.add.ensures.kept (subst (λ it. IsKept it) (sym c.pass_command.ensures.kept) c.requires.ready) in
    let journal = c.add.ensures.journal ∙ ap (λ it. entries_journal it) c.pass_command.ensures.kept in
    on_ok_added c.add.result (λ more has. c.add.ensures.added more (subst (λ it. HasAdded it more) (sym c.pass_command.ensures.kept) has)) (λ added. (
      told.0,
      (
        told.1.0,
        arrival_one p q c.args.bytes.now told.0 c.args.stream c.args.clock c.args.request.now c.count-before.result c.standing-standing.result (λ f. g.met.D.Device.only_now (device_of p) f) c.requires.ready ready journal
            (ap (λ s. s.ended) (c.add.ensures.streams ∙ c.pass_command.ensures.streams)) c.requires.arrival c.requires.has_room answers counts stands c.if-standing-before.false added,
      ),
    ))

pub returns-clause-err : goal.returns-clause-err
returns-clause-err g c = on_err c.add.result c.pass_command.ensures.front

pub returns-clause-stops : goal.returns-clause-stops
returns-clause-stops g c =
    let p = state_of c.args.self.now in
    on_err c.add.result (λ ready. stops_here p (state_of c.add.new.self) (λ f. g.met.D.Device.only_now (device_of p) f) (c.add.ensures.journal ∙ ap (λ it. entries_journal it) c.pass_command.ensures.kept) ready)
