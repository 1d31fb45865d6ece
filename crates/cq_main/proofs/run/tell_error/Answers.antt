-- An error that asks neither for help nor for the version, and is no want of memory, is a fault of the arguments, and nothing goes
-- to the output.
use Rattle.std.proofs.Common.{◌∙◌, ap, refl}
use Rattle.cq_args.specs.ArgFaults.{is_help, is_version}
use Rattle.cq_main.proofs.Told.{no_help, no_version}
use Rattle.cq_main.proofs.run.tell_error.Goals as goal

pub returns-in_default : goal.returns-in_default
returns-in_default g c = record {
  memory = λ is. absurd (c.in_default.not-OutOfMemory (c.kind.ensures ∙ is));
  help = λ is. absurd (no_help c.kind.result c.in_default.not-DisplayHelp (ap is_help c.kind.ensures ∙ is));
  version = λ is. absurd (no_version c.kind.result c.in_default.not-DisplayVersion (ap is_version c.kind.ensures ∙ is));
  usage = λ is. c.refuse.ensures;
  silent = λ is. refl;
  silent_for_memory = λ is. refl;
}
