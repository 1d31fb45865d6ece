-- Some bytes more, up to one that is escaped.
use Rattle.std.proofs.Common.{ℕ, List, [], ◌++◌, length, refl, sym, ◌∙◌, ap, append_assoc, append-nil, subst, arith}
use Rattle.cq_kept_base.specs.Stuffing.{Stuffs}
use Rattle.cq_kept_base.proofs.Escapes.{stuffs_both, stuffs_none}
use Rattle.cq_kept_base.proofs.stuffing.stuff.Goals as goal

pub loop-rest-init : goal.loop-rest-init
loop-rest-init c = ([], refl, stuffs_none c.args.text.now.items)

pub loop-rest-smaller : goal.loop-rest-smaller
loop-rest-smaller c = c.in_ok-rest.ensures.fewer

pub loop-rest-preserved : goal.loop-rest-preserved
loop-rest-preserved c =
    let i = c.loop-rest.invariant in
    let w = c.in_ok-rest.ensures.stuffs in (
      i.0 ++ w.0,
      append_assoc i.0 w.0 c.in_ok-rest.rest.now ∙ ap (λ (l : List ℕ). i.0 ++ l) w.1 ∙ i.1,
      stuffs_both c.args.text.now.items c.loop-rest.text.items c.push_front.new.text.items i.0 w.0 i.2 w.2,
    )
