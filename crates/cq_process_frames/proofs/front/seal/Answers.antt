-- What is filled in makes the frame.
use Rattle.std.proofs.Common.{◌≡◌, ◌+◌, ◌-◌, ◌∙◌, refl, [], ◌∷◌, length, arith}
use Rattle.std.proofs.lemmas.List.{with_items_is}
use Rattle.cq_process_frames.specs.Frames.{mark}
use Rattle.cq_process_frames.proofs.Overwriting.{front-length, front-parts, parts-length, sealed}
use Rattle.cq_process_frames.proofs.front.seal.Goals as goal

pub returns-clause-ok : goal.returns-clause-ok
returns-clause-ok c = λ old piece to is at ends.
    let whole = parts-length c.args.out.now.items old piece to is in
    let front_is = front-length to in
    let is_size : length (mark to) ≡ c.args.body - c.args.start - 24 = omega arith in
    let is_count : length piece ≡ c.len.result - c.args.body = omega (arith, whole, c.len.ensures, c.args.out.now.ok.0) in
    let long : length c.fill.new.bytes ≡ c.args.out.now.len = omega (arith, c.fill.auto.bytes, c.as_mut_slice.ensures.len) in
    with_items_is c.args.out.now c.fill.new.bytes long
    ∙ c.fill.ensures old (0 ∷ 0 ∷ 0 ∷ 0 ∷ []) (mark to) (0 ∷ 0 ∷ 0 ∷ 0 ∷ 0 ∷ 0 ∷ 0 ∷ 0 ∷ []) (0 ∷ 0 ∷ 0 ∷ 0 ∷ 0 ∷ 0 ∷ 0 ∷ 0 ∷ []) (0 ∷ 0 ∷ 0 ∷ 0 ∷ []) piece (c.as_mut_slice.ensures.value ∙ is ∙ front-parts old piece to) at refl is_size refl refl refl
    ∙ sealed old piece to c.args.number _ _ is_size is_count
