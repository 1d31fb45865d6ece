-- The bytes that stand for themselves, and the next one.
use Rattle.std.proofs.Common.{◌≡◌, ℕ, List, ◌++◌, sym, ◌∙◌, ap, subst, append_assoc, arith, take-append-drop}
use Rattle.cq_kept_base.specs.Stuffing.{StandsForItself}
use Rattle.cq_kept_base.proofs.Escapes.{if_ok, run_stuff, stuffs_both}
use Rattle.cq_kept_base.proofs.stuffing.push_front.Goals as goal

pub returns-in-Some-clause-stuffs : goal.returns-in-Some-clause-stuffs
returns-in-Some-clause-stuffs c =
    let old = c.args.text.now.items in
    let mid = c.extend_from_slice.new.self.items in
    let plain = c.split_at.result.0.now in
    let behind = c.split_at.result.1.now in
    let n = c.plain_in_front.result in
    let bytes = c.args.bytes.now in
    let whole : plain ++ behind ≡ bytes = (λ i. (c.split_at.ensures.front i) ++ (c.split_at.ensures.back i)) ∙ take-append-drop n bytes in
    let stands : StandsForItself plain = subst (λ (l : List ℕ). StandsForItself l) (sym c.split_at.ensures.front) c.plain_in_front.ensures.plain in
    if_ok c.push_first.result c.push_first.ensures.stuffs (λ rest w. (
      plain ++ w.0,
      append_assoc plain w.0 rest.now ∙ ap (λ (l : List ℕ). plain ++ l) (w.1 ∙ sym c.in-Some.ensures.cases.0) ∙ whole,
      stuffs_both old mid c.push_first.new.text.items plain w.0 (run_stuff old mid plain stands c.in_ok-extend_from_slice.ensures.items) w.2,
    ))

pub returns-in-Some-clause-fewer : goal.returns-in-Some-clause-fewer
returns-in-Some-clause-fewer c =
    if_ok c.push_first.result c.push_first.ensures.fewer (λ rest fewer. omega (arith, fewer, c.in-Some.ensures.cases.1, c.split_at.ensures.back_len))

pub returns-in-None-clause-stuffs : goal.returns-in-None-clause-stuffs
returns-in-None-clause-stuffs c =
    let old = c.args.text.now.items in
    let mid = c.extend_from_slice.new.self.items in
    let plain = c.split_at.result.0.now in
    let behind = c.split_at.result.1.now in
    let n = c.plain_in_front.result in
    let bytes = c.args.bytes.now in
    let stands : StandsForItself plain = subst (λ (l : List ℕ). StandsForItself l) (sym c.split_at.ensures.front) c.plain_in_front.ensures.plain in (
      plain,
      (λ i. (c.split_at.ensures.front i) ++ (c.split_at.ensures.back i)) ∙ take-append-drop n bytes,
      run_stuff old mid plain stands c.in_ok-extend_from_slice.ensures.items,
    )
