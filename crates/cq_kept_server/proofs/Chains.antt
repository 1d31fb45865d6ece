-- Frames that are answered one after another.
use Rattle.std.proofs.Common.{◌≡◌, ℕ, List, [], ◌∷◌, ◌++◌, refl, sym, ◌∙◌, ap, subst, append_assoc, append-nil}
use Rattle.std.specs.Prelude.{IsTrue, None}
use Rattle.cq_base.specs.declared.ask.Entry.{Entry}
use Rattle.cq_base.specs.Relations.{IsPrefix}
use Rattle.cq_disk.specs.declared.device.Device.{Ghosts}
use Rattle.cq_frame_loop.specs.Chains.{IsChain, Step}
use Rattle.cq_kept_server.specs.declared.server.KeptServer.{KeptServer}
use Rattle.cq_kept_server.specs.Keeping.{Answers, Grows, GrowsBy, LeavesAtLeast, Stops, StopsAt, moments_on, prefix_on}
use Rattle.cq_kept_server.specs.Laws.{CameOf, Keeps, Outlives}
use Rattle.cq_kept_server.specs.Servers.{Has, IsReady, IsSettled, State, device_of, half_of, len_of, state_of}
use Rattle.cq_kept_server.proofs.Settled.{none_waits}
use Rattle.cq_kept_server.proofs.Moments.{OnlyNow, grows_none, prefix_self}

module _ {D : Type 0} {g : Ghosts D} where
  -- one run of frames behind another
  pub both_grow : (p q r : State D g) (first rest new more : List Entry) → half_of q ≡ half_of p → len_of q ≡ len_of p → (a : Grows p q first rest new) → Grows q r a.kept a.added more → Grows p r first rest (new ++ more)
  both_grow p q r first rest new more half len a b =
      let all : b.kept ++ b.added ≡ (a.kept ++ a.added) ++ more = b.all in
      record {
        kept = b.kept;
        added = b.added;
        has = b.has;
        all = all ∙ ap (λ (l : List Entry). l ++ more) a.all ∙ append_assoc (first ++ rest) new more;
        more = prefix_on first a.kept b.kept a.more b.more;
        moments = moments_on p q r first a.kept (a.kept ++ a.added) (b.kept ++ b.added) half len a.more (more, all) a.moments b.moments;
      }

  pub chain_grows : ((device : D) → OnlyNow g device) → (p q : KeptServer D g) (steps : List (Step (KeptServer D g))) → IsReady p → IsChain Answers p steps q → GrowsBy (state_of p) (state_of q) (CameOf p steps)
  chain_grows only p q [] ready same = subst (λ (it : KeptServer D g). GrowsBy (state_of p) (state_of it) (CameOf p [])) same
      (grows_none (state_of p) (state_of p) (CameOf p []) (only (device_of (state_of p))) ready refl refl (λ all has. has) (λ all. refl))
  chain_grows only p q (step ∷ steps) ready chain =
      let one = chain.0 in
      let rest = chain_grows only step.after q steps one.ready chain.1 in
      record {
        half = rest.half ∙ one.goes.half;
        len = rest.len ∙ one.goes.len;
        honest = λ honest. one.goes.honest (rest.honest honest);
        grows = λ honest first later has.
            let a = one.goes.grows (rest.honest honest) first later has in
            let b = rest.grows honest a.1.1.kept a.1.1.added a.1.1.has in (
              a.0 ++ b.0,
              (
                (a.0, (a.1.0, (b.0, (subst (λ (l : List Entry). CameOf step.after steps l b.0) a.1.1.all b.1.0, refl)))),
                both_grow (state_of p) (state_of step.after) (state_of q) first later a.0 b.0 one.goes.half one.goes.len a.1.1 b.1.1,
              ),
            );
      }

  pub chain_ready : (p q : KeptServer D g) (steps : List (Step (KeptServer D g))) → IsReady p → IsChain Answers p steps q → IsReady q
  chain_ready p q [] ready same = subst (λ (it : KeptServer D g). IsReady it) same ready
  chain_ready p q (step ∷ steps) ready chain = chain_ready step.after q steps chain.0.ready chain.1

  pub outlives : ((device : D) → OnlyNow g device) → (first settled last left : KeptServer D g) → Outlives first settled last left
  outlives only first settled last left all steps later ready has chain none chain_later stops honest =
      let settled_ready = chain_ready first settled steps ready chain in
      let last_ready = chain_ready settled last later settled_ready chain_later in
      let a = chain_grows only first settled steps ready chain in
      let b = chain_grows only settled last later settled_ready chain_later in
      let stopped = stops last_ready in
      let honest_last = stopped.honest honest in
      let honest_settled = b.honest honest_last in
      let one = a.grows honest_settled all [] has in
      let grown = one.1.1 in
      let no_more : grown.added ≡ [] = none_waits (state_of settled).kept grown.added none grown.has.added in
      let kept_is : grown.kept ≡ all ++ one.0 = sym (append-nil grown.kept) ∙ ap (λ (l : List Entry). grown.kept ++ l) (sym no_more) ∙ grown.all ∙ ap (λ (l : List Entry). l ++ one.0) (append-nil all) in
      let settled_has : Has (state_of settled) (all ++ one.0) [] = subst (λ (k : List Entry). Has (state_of settled) k []) kept_is (subst (λ (r : List Entry). Has (state_of settled) grown.kept r) no_more grown.has) in
      let two = b.grows honest_last (all ++ one.0) [] settled_has in
      let later_grown = two.1.1 in
      let all_is : later_grown.kept ++ later_grown.added ≡ (all ++ one.0) ++ two.0 = later_grown.all ∙ ap (λ (l : List Entry). l ++ two.0) (append-nil (all ++ one.0)) in
      record {
        told = one.0;
        came = subst (λ (l : List Entry). CameOf first steps l one.0) (append-nil all) one.1.0;
        has = settled_has;
        more = two.0;
        came_later = subst (λ (l : List Entry). CameOf settled later l two.0) (append-nil (all ++ one.0)) two.1.0;
        leaves = subst (λ (l : List Entry). LeavesAtLeast (state_of settled) (state_of left) (all ++ one.0) l) all_is
            (moments_on (state_of settled) (state_of last) (state_of left) (all ++ one.0) later_grown.kept (later_grown.kept ++ later_grown.added) (later_grown.kept ++ later_grown.added) b.half b.len later_grown.more (prefix_self (later_grown.kept ++ later_grown.added))
            later_grown.moments (stopped.leaves honest later_grown.kept later_grown.added later_grown.has));
      }
