-- What was written so far is what stands before the rest.
use Rattle.std.proofs.Common.{◌++◌, ◌∷◌, length}
use denote.Text.{Utf8}
use denote.Shadow.{shadow}
use Rattle.std.specs.String.{string_bytes}
use Rattle.json.specs.Print.{escape}
use Rattle.cq_json.specs.within.FlatText.{run_end, Spelled}
use Rattle.cq_json.proofs.flat_text.read_escaped.Given as goal

abbrev pub invariant-escapes : goal.invariant-escapes
invariant-escapes l = shadow (Utf8 l.rest) × Spelled (escape l.fn.prefix ++ (92 ∷ l.fn.text)) (string_bytes l.out) (run_end l.ended ∷ l.rest)

abbrev pub decreases-escapes : goal.decreases-escapes
decreases-escapes l = length l.rest
