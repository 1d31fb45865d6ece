-- What the arguments could not be taken for is told by the kind of the error.
use Rattle.std.proofs.Common.{inl, inr, map}
use Rattle.std.specs.Prelude.{string_bytes}
use Rattle.clap.specs.Words.{fault_of}
use Rattle.cq_args.specs.CommandLine.{program_app}
use Rattle.cq_args.specs.ArgFaults.{is_help, is_usage, is_version}
use Rattle.cq_args.proofs.Asked.{all_are_some, has_such}
use Rattle.cq_main.proofs.ProcessTold.{asked_sound}
use Rattle.cq_main.proofs.run.run.Goals as goal

pub returns-in-Err-clause-help : goal.returns-in-Err-clause-help
returns-in-Err-clause-help g c = λ all.
    let kinds = fault_of program_app (map string_bytes c.args.args.now) in
    elim (has_such is_help kinds c.in-Err.error all (c.in-Err.ensures.faults (all_are_some is_help kinds all))) [
      | inl memory ↦ inr (c.tell_error.ensures.silent_for_memory memory, c.tell_error.ensures.memory memory)
      | inr such ↦ c.tell_error.ensures.help such
    ]

pub returns-in-Err-clause-version : goal.returns-in-Err-clause-version
returns-in-Err-clause-version g c = λ all.
    let kinds = fault_of program_app (map string_bytes c.args.args.now) in
    elim (has_such is_version kinds c.in-Err.error all (c.in-Err.ensures.faults (all_are_some is_version kinds all))) [
      | inl memory ↦ inr (c.tell_error.ensures.silent_for_memory memory, c.tell_error.ensures.memory memory)
      | inr such ↦ inl (c.tell_error.ensures.version such)
    ]

pub returns-in-Err-clause-usage : goal.returns-in-Err-clause-usage
returns-in-Err-clause-usage g c = λ all.
    let kinds = fault_of program_app (map string_bytes c.args.args.now) in
    elim (has_such is_usage kinds c.in-Err.error all (c.in-Err.ensures.faults (all_are_some is_usage kinds all))) [
      | inl memory ↦ inr (c.tell_error.ensures.memory memory)
      | inr such ↦ c.tell_error.ensures.usage such
    ]

pub returns-in-Err-clause-silent : goal.returns-in-Err-clause-silent
returns-in-Err-clause-silent g c = λ all.
    let kinds = fault_of program_app (map string_bytes c.args.args.now) in
    elim (has_such is_usage kinds c.in-Err.error all (c.in-Err.ensures.faults (all_are_some is_usage kinds all))) [
      | inl memory ↦ c.tell_error.ensures.silent_for_memory memory
      | inr such ↦ c.tell_error.ensures.silent such
    ]

pub carry_out-requires-clause-sound : goal.carry_out-requires-clause-sound
carry_out-requires-clause-sound g c = λ κs within. asked_sound _ c.in-Ok.invocation c.in-Ok.ensures.asked
