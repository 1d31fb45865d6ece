-- Where each piece is plain the text is.
use Rattle.std.proofs.Common.{◌+◌, length, subst, arith}
use Rattle.cq_base.proofs.PlainBytes.{ArePlain, plain_text, with_more}
use Rattle.cq_base.proofs.text.are_plain_bytes.Goals as goal

pub loop-from-preserved : goal.loop-from-preserved
loop-from-preserved c =
    let bytes = c.as_bytes-bytes.result.now in
    let from = c.loop-from.from in
    let to = from + c.min.result in
    record {
      plain = with_more bytes from to c.loop-from.invariant.plain c.if-not-is_plain_piece.ensures;
      some = omega arith;
      within = omega arith;
    }

pub returns : goal.returns
returns c =
    let bytes = c.as_bytes-bytes.result.now in
    let all : ArePlain bytes (length bytes) = λ k below. c.loop-from.invariant.plain k (omega arith) in
    plain_text c.args.text.now c.utf8.text (subst (λ t. ArePlain t (length t)) c.as_bytes-bytes.ensures.value all)
