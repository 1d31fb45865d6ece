-- A frame that is too long.
use Rattle.std.proofs.Common.{Bor, List, ℕ, ◌++◌, Option, ap, refl, subst, sym}
use Rattle.std.specs.Prelude.{option_map}
use Rattle.cq_server_process.specs.Answers.{AnswersBytes, process, unread_as}
use Rattle.cq_server_process.specs.Turns.{frames}
use Rattle.cq_wire.specs.declared.fault.ReadFault.TheVariants.{Bad}
use Rattle.cq_wire.specs.declared.fault.WireFault.TheVariants.{BadNumber}
use Rattle.cq_server_process.proofs.answer.answer.Goals as goal

pub returns-in-None-clause-tells : goal.returns-in-None-clause-tells
returns-in-None-clause-tells c =
    let p = process c.args.links.now c.args.core.now c.args.streams.now.ended in (
      frames (unread_as (Bad BadNumber)),
      (
        ap (λ xs. c.args.out.now.items ++ xs) c.tell_fault.ensures.tells,
        (
          unread_as (Bad BadNumber),
          (refl, subst (λ (frame : Option (Bor (List ℕ))). AnswersBytes (option_map (λ bytes. bytes.now) frame) p p (unread_as (Bad BadNumber))) (sym c.in-None.is) (record { stays = refl; ended = refl; is = refl })),
        ),
      ),
    )
