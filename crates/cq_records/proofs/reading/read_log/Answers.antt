-- The text of a record more.
use Rattle.std.proofs.Common.{◌≡◌, ◌≤◌, ◌∙◌, ℕ, List, length, drop, sym, ap, subst, arith}
use Rattle.std.specs.Prelude.{true, [], ◌++◌, ◌+◌, IsTrue, IfSome, MatchOption}
use Rattle.cq_disk.proofs.Moments.{runs_on, weakened}
use Rattle.cq_records.specs.Frames.{frames, may_follow, BeginsWith}
use Rattle.cq_records.proofs.Steps.{one_counted, same_end, text_added, still_unsound}
use Rattle.cq_records.proofs.reading.read_log.Goals as goal

pub loop-found-preserved : goal.loop-found-preserved
loop-found-preserved g c =
    let d = g.D.Device in
    let i = c.loop-found.invariant in
    let e = c.next_record.ensures in
    let found = c.in-Some.found in
    let old = d.seen c.args.device.now in
    let now = c.loop-found.device in
    let new = c.next_record.new.device in
    let behind : (found.behind ≡ c.loop-found.at + 9 + length found.text.items) × (found.behind ≤ length (d.seen now)) =
    subst (λ (o : _). IfSome o (λ it. (it.behind ≡ c.loop-found.at + 9 + length it.text.items) × (it.behind ≤ length (d.seen now)))) c.in-Some.is c.in_ok-found.ensures.behind in
    let begins : IsTrue (d.is_honest new) → BeginsWith found.text.items (drop c.loop-found.at old) = λ honest.
    subst (λ (bytes : List ℕ). BeginsWith found.text.items (drop c.loop-found.at bytes)) i.seen
    (subst (λ (o : _). MatchOption o ((frames (drop c.loop-found.at (d.seen now)) ≡ []) × (may_follow c.args.behind (drop c.loop-found.at (d.seen now)) ≡ true)) (λ it. BeginsWith it.text.items (drop c.loop-found.at (d.seen now)))) c.in-Some.is (c.in_ok-found.ensures.found honest)) in
    record {
      within = subst (λ (bytes : List ℕ). found.behind ≤ length bytes) (sym e.seen) behind.1;
      seen = e.seen ∙ i.seen;
      read = λ honest. text_added c.loop-found.at found.behind old found.text.items (begins honest) behind.0 _ _ _ (c.in_ok-extend_from_slice.ensures.items ∙ ap (λ (more : List ℕ). c.loop-found.text.items ++ more) c.deref.ensures.value) (i.read (e.honest honest));
      few = omega (arith, i.few, behind.0);
      end = λ honest.
          sym (same_end c.loop-found.at found.behind old found.text.items (begins honest) behind.0 (subst (λ (bytes : List ℕ). found.behind ≤ length bytes) i.seen behind.1)) ∙ i.end (e.honest honest);
      count = λ honest. one_counted c.loop-found.at found.behind old found.text.items (begins honest) behind.0 c.loop-found.count _ (i.count (e.honest honest));
      damaged = λ honest unsound. i.damaged (e.honest honest) (still_unsound c.loop-found.at found.behind old found.text.items (begins honest) behind.0 unsound);
      crash = λ f left. i.crash f (e.any_moment.each f (g.met.D.Device.counts_now new (d.moment now) f e.any_moment.later left));
      moments = runs_on d.moment d.left_since c.args.device.now now new (d.may_leave c.args.device.now) i.moments (weakened d.moment d.left_since now new _ _ e.any_moment i.crash);
      honest = λ honest. i.honest (e.honest honest);
      keeps = g.met.D.Device.keeps_on _ _ _ i.keeps e.keeps;
      faults = omega (arith, i.faults, e.later);
    }
