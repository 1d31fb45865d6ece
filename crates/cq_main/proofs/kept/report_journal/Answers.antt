-- What is told is the fault's line, with or without the place of a byte.
use Rattle.std.proofs.Common.{List, ℕ, ◌∙◌, refl, subst, sym}
use Rattle.std.specs.Io.KnownBytes.{Appends}
use Rattle.cq_lines.specs.Checks.{inner_of}
use Rattle.cq_main.proofs.KeptTold.{is_told}
use Rattle.cq_main.proofs.kept.report_journal.Goals as goal

pub returns-in-Some : goal.returns-in-Some
returns-in-Some g c = (
  refl,
  λ kept.
      let text = is_told c.args.fault.now _ _ _ c.code-code.ensures c.name-name.ensures (sym c.place_of.ensures ∙ c.in-Some.is) in
      subst (λ (told : List ℕ). Appends (g.E.Write.contents (inner_of c.args.errors.now)) (g.E.Write.contents (inner_of c.print.new.self)) told) text (c.print.ensures.bytes kept),
)

pub returns-in-None : goal.returns-in-None
returns-in-None g c = (
  refl,
  λ kept.
      let text = is_told c.args.fault.now _ _ _ c.code-code.ensures c.name-name.ensures (sym c.place_of.ensures ∙ c.in-None.is) in
      subst (λ (told : List ℕ). Appends (g.E.Write.contents (inner_of c.args.errors.now)) (g.E.Write.contents (inner_of c.print-in-None.new.self)) told) text (c.print-in-None.ensures.bytes kept),
)
