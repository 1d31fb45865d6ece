-- What is written, and what the rest will be, are the whole.
use Rattle.std.proofs.Common.{◌≡◌, ◌++◌, length}
use Rattle.json.specs.Print.{escape}
use Rattle.cq_answers.proofs.row.Row.put_escaped.Given as goal

abbrev pub invariant-loop-rest : goal.invariant-loop-rest
invariant-loop-rest l = record {
  told : l.self.told ++ escape l.rest ≡ l.fn.self.told ++ escape l.text;
  before : l.self.before ≡ l.fn.self.before;
}

abbrev pub decreases-loop-rest : goal.decreases-loop-rest
decreases-loop-rest l = length l.rest
