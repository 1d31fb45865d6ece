-- Only white space was passed.
use Rattle.std.proofs.Common.{◌≡◌, true, length}
use denote.Text.{Utf8}
use denote.Shadow.{shadow}
use Rattle.json.specs.Word.{ends_word}
use Rattle.cq_json.specs.within.FlatText.{Same}
use Rattle.cq_json.proofs.flat_text.after_many_spaces.Given as goal

abbrev pub invariant-spaces : goal.invariant-spaces
invariant-spaces l = shadow (Utf8 l.rest) × (Same l.fn.text l.rest × (ends_word l.rest ≡ true → ends_word l.fn.text ≡ true))

abbrev pub decreases-spaces : goal.decreases-spaces
decreases-spaces l = length l.rest
