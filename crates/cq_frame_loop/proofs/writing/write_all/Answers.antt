-- A write took more of the text from the front of the rest.
use Rattle.std.proofs.Common.{◌≡◌, ℕ, List, ◌++◌, take, drop, sym, ap, ◌∙◌, append_assoc, take-append-drop}
use Rattle.std.proofs.KnownBytes.{Appends-trans}
use Rattle.cq_frame_loop.proofs.writing.write_all.Goals as goal

prefix_more : (text prefix rest : List ℕ) (n : ℕ) → text ≡ prefix ++ rest → text ≡ (prefix ++ take n rest) ++ drop n rest
prefix_more text prefix rest n is =
    is ∙ ap (λ bytes. prefix ++ bytes) (sym (take-append-drop n rest)) ∙ sym (append_assoc prefix (take n rest) (drop n rest))

pub loop-rest-preserved : goal.loop-rest-preserved
loop-rest-preserved g c =
    let before = c.loop-rest.invariant in
    rw c.split_at.ensures.back
    (before.0 ++ take c.in-Ok.count c.loop-rest.rest.now, Appends-trans _ _ _ _ _ before.1 c.in-Ok.ensures.bytes, prefix_more c.args.text.now before.0 c.loop-rest.rest.now c.in-Ok.count before.2)
