-- The byte behind it is escaped.
use Rattle.std.proofs.Common.{[], ◌∷◌, sym, ◌∙◌, ap, append-nil, eq-eqb, true}
use Rattle.cq_kept_base.specs.Stuffed.{unstuffed}
use Rattle.cq_kept_base.proofs.Escapes.{escape_reads, put_none}
use Rattle.cq_kept_base.proofs.stuffing.push_next.Goals as goal

pub returns-then-byte-eq-ESCAPE : goal.returns-then-byte-eq-ESCAPE
returns-then-byte-eq-ESCAPE c = (
  [],
  sym (append-nil c.args.bytes.now.items),
  λ rest. ap (λ e. unstuffed e (c.args.byte ∷ rest)) c.if-is_escaped.false ∙ escape_reads c.args.byte rest (eq-eqb c.args.byte 3 c.if-byte-eq-ESCAPE.true) ∙ sym (put_none (unstuffed true rest)),
)
