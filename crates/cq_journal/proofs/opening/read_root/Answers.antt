-- The root is found, and its half is written over itself.
use Rattle.std.proofs.Common.{◌≡◌, ◌⊎◌, inr, List, ℕ, ◌+◌, ◌≤◌, length, sym, ◌∙◌, ap, subst, arith, rules}
use Rattle.std.specs.Prelude.{Option, Some, None, IfSome, IsErrOf, IsTrue, MatchOption, ⊤}
use Rattle.cq_disk.specs.Device.{LeavesOnly}
use Rattle.cq_disk.proofs.Moments.{runs_on, weakened}
use Rattle.cq_records.specs.declared.fault.ReadFault.TheVariants.{Damaged}
use Rattle.cq_journal.proofs.Refreshed.{all_refreshed}
use Rattle.cq_journal.specs.Found.{IsFound}
use Rattle.cq_journal.specs.Roots.{HasSoundHalves}
use Rattle.cq_journal.specs.declared.opening.Found.{Found}
use Rattle.cq_journal.proofs.Refused.{has_root}
use Rattle.cq_journal.proofs.opening.read_root.Goals as goal

none_of : (half : ℕ) (seen : List ℕ) (H : Type 0) (found : Option Found) → (H → IsFound half seen found) → MatchOption found (H → HasSoundHalves half seen → ⊥) (λ _. ⊤)
none_of half seen H None is = λ honest halves. has_root half seen (is honest) halves
none_of half seen H (Some it) is = tt

pub returns-in_err-found-clause-any_moment : goal.returns-in_err-found-clause-any_moment
returns-in_err-found-clause-any_moment g c = λ honest. c.find_root.ensures.any_moment

pub returns-in_err-refresh_found-clause-any_moment : goal.returns-in_err-refresh_found-clause-any_moment
returns-in_err-refresh_found-clause-any_moment g c = λ honest.
    let d = g.D.Device in
    let device = c.args.region.now.device in
    let mid = c.find_root.new.region in
    let P : List ℕ → Type 0 = λ f. d.may_leave device f ⊎ (f ≡ d.seen device) in
    let start : IfSome c.in_ok-found.found (λ it. (it.start ≡ 0) ⊎ (it.start ≡ mid.len)) =
    subst (λ (n : ℕ). IfSome c.in_ok-found.found (λ it. (it.start ≡ 0) ⊎ (it.start ≡ n))) (sym c.in_ok-found.ensures.place.1) c.in_ok-found.ensures.start in
    let room : mid.len + mid.len ≤ length (d.seen mid.device) = omega (arith, c.requires.room, c.in_ok-found.ensures.place.1, ap length c.find_root.ensures.seen) in
    runs_on d.moment d.left_since device mid.device c.refresh_found.new.device P c.find_root.ensures.any_moment
    (weakened d.moment d.left_since mid.device c.refresh_found.new.device _ P (c.refresh_found.ensures.any_moment honest)
    (λ f is. inr (all_refreshed mid.len (d.seen mid.device) f (d.may_leave mid.device) c.in_ok-found.found start room c.in_ok-found.ensures.durable is ∙ c.find_root.ensures.seen)))

pub returns-in_err-confirm-clause-any_moment : goal.returns-in_err-confirm-clause-any_moment
returns-in_err-confirm-clause-any_moment g c = λ honest.
    let d = g.D.Device in
    let device = c.args.region.now.device in
    let mid = c.find_root.new.region in
    let fresh = c.refresh_found.new.device in
    let P : List ℕ → Type 0 = λ f. d.may_leave device f ⊎ (f ≡ d.seen device) in
    let start : IfSome c.in_ok-found.found (λ it. (it.start ≡ 0) ⊎ (it.start ≡ mid.len)) =
    subst (λ (n : ℕ). IfSome c.in_ok-found.found (λ it. (it.start ≡ 0) ⊎ (it.start ≡ n))) (sym c.in_ok-found.ensures.place.1) c.in_ok-found.ensures.start in
    let room : mid.len + mid.len ≤ length (d.seen mid.device) = omega (arith, c.requires.room, c.in_ok-found.ensures.place.1, ap length c.find_root.ensures.seen) in
    let honest_fresh : IsTrue (d.is_honest fresh) = c.confirm.ensures.honest honest in
    let refreshed : LeavesOnly d.moment d.left_since device fresh P = runs_on d.moment d.left_since device mid.device fresh P c.find_root.ensures.any_moment
    (weakened d.moment d.left_since mid.device fresh _ P (c.refresh_found.ensures.any_moment honest_fresh)
    (λ f is. inr (all_refreshed mid.len (d.seen mid.device) f (d.may_leave mid.device) c.in_ok-found.found start room c.in_ok-found.ensures.durable is ∙ c.find_root.ensures.seen))) in
    runs_on d.moment d.left_since device fresh c.confirm.new.region.device P refreshed
    (weakened d.moment d.left_since fresh c.confirm.new.region.device _ P (c.confirm.ensures.any_moment c.in_ok-refresh_found.ensures.durable)
    (λ f is. inr (is ∙ c.refresh_found.ensures.seen honest_fresh ∙ c.find_root.ensures.seen)))

pub returns-in_err-confirm-clause-damaged : goal.returns-in_err-confirm-clause-damaged
returns-in_err-confirm-clause-damaged g c = λ err honest halves.
    let d = g.D.Device in
    let r = c.args.region.now in
    let fresh = c.refresh_found.new.device in
    let is : IsErrOf c.confirm.result Damaged = search rules in
    let honest_fresh : IsTrue (d.is_honest fresh) = c.confirm.ensures.honest honest in
    let seen_is : d.seen r.device ≡ d.seen fresh = sym (c.refresh_found.ensures.seen honest_fresh ∙ c.find_root.ensures.seen) in
    let len_is : r.len ≡ c.find_root.new.region.len = sym c.in_ok-found.ensures.place.1 in
    c.confirm.ensures.damaged is honest
    (subst (λ (n : ℕ). IsFound n (d.seen fresh) c.in_ok-found.found) len_is
    (subst (λ (s : List ℕ). IsFound r.len s c.in_ok-found.found) seen_is (c.in_ok-found.ensures.found (c.refresh_found.ensures.honest honest_fresh))))
    (subst (λ (n : ℕ). HasSoundHalves n (d.seen fresh)) len_is (subst (λ (s : List ℕ). HasSoundHalves r.len s) seen_is halves))

pub returns-clause-any_moment : goal.returns-clause-any_moment
returns-clause-any_moment g c = λ honest.
    let d = g.D.Device in
    let device = c.args.region.now.device in
    let mid = c.find_root.new.region in
    let fresh = c.refresh_found.new.device in
    let P : List ℕ → Type 0 = λ f. d.may_leave device f ⊎ (f ≡ d.seen device) in
    let start : IfSome c.in_ok-found.found (λ it. (it.start ≡ 0) ⊎ (it.start ≡ mid.len)) =
    subst (λ (n : ℕ). IfSome c.in_ok-found.found (λ it. (it.start ≡ 0) ⊎ (it.start ≡ n))) (sym c.in_ok-found.ensures.place.1) c.in_ok-found.ensures.start in
    let room : mid.len + mid.len ≤ length (d.seen mid.device) = omega (arith, c.requires.room, c.in_ok-found.ensures.place.1, ap length c.find_root.ensures.seen) in
    let honest_fresh : IsTrue (d.is_honest fresh) = c.confirm.ensures.honest honest in
    let refreshed : LeavesOnly d.moment d.left_since device fresh P = runs_on d.moment d.left_since device mid.device fresh P c.find_root.ensures.any_moment
    (weakened d.moment d.left_since mid.device fresh _ P (c.refresh_found.ensures.any_moment honest_fresh)
    (λ f is. inr (all_refreshed mid.len (d.seen mid.device) f (d.may_leave mid.device) c.in_ok-found.found start room c.in_ok-found.ensures.durable is ∙ c.find_root.ensures.seen))) in
    runs_on d.moment d.left_since device fresh c.confirm.new.region.device P refreshed
    (weakened d.moment d.left_since fresh c.confirm.new.region.device _ P (c.confirm.ensures.any_moment c.in_ok-refresh_found.ensures.durable)
    (λ f is. inr (is ∙ c.refresh_found.ensures.seen honest_fresh ∙ c.find_root.ensures.seen)))

pub returns-clause-none : goal.returns-clause-none
returns-clause-none g c =
    let d = g.D.Device in
    let r = c.args.region.now in
    none_of r.len (d.seen r.device) (IsTrue (d.is_honest c.confirm.new.region.device)) c.in_ok-found.found (λ honest. c.in_ok-found.ensures.found (c.refresh_found.ensures.honest (c.confirm.ensures.honest honest)))
