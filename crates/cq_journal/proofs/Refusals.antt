-- The laws of refusals.
use Rattle.std.proofs.Common.{◌≡◌, ◌⊎◌, ⊎_elim, ℕ, zero, suc, List, sym, ◌∙◌, ap, subst}
use Rattle.std.specs.Prelude.{IsTrue}
use Rattle.cq_disk.specs.declared.device.Device.{Ghosts}
use Rattle.cq_disk.proofs.Moments.{weakened}
use Rattle.cq_journal.specs.declared.journal.Journal.{Journal}
use Rattle.cq_journal.specs.Histories.{Inherits}
use Rattle.cq_journal.specs.Intact.{IsIntact}
use Rattle.cq_journal.specs.Journal.{journal_device, journal_half, region_len}
use Rattle.cq_journal.specs.Refusals.{AllGoOn, NoneRefused, OpensIntact, IsOpenedIntact, StaysUnrefused}
use Rattle.cq_journal.proofs.Intact.{at_lengths}

module _ {D : Type 0} {g : Ghosts D} where
  honest_before : (times : ℕ) (old new : Journal D g) → AllGoOn times old new → IsTrue (g.is_honest (journal_device new)) → IsTrue (g.is_honest (journal_device old))
  honest_before zero old new same honest = subst (λ (j : Journal D g). IsTrue (g.is_honest (journal_device j))) same honest
  honest_before (suc times) old new all honest = all.1.honest (honest_before times all.0 new all.2 honest)

  half_before : (times : ℕ) (old new : Journal D g) → AllGoOn times old new → journal_half new ≡ journal_half old
  half_before zero old new same = ap (λ (j : Journal D g). journal_half j) same
  half_before (suc times) old new all = half_before times all.0 new all.2 ∙ all.1.half

  len_before : (times : ℕ) (old new : Journal D g) → AllGoOn times old new → region_len new ≡ region_len old
  len_before zero old new same = ap (λ (j : Journal D g). region_len j) same
  len_before (suc times) old new all = len_before times all.0 new all.2 ∙ all.1.len

  -- the bytes of the last are intact, with its own lengths
  intact_behind : (times : ℕ) (old new : Journal D g) → AllGoOn times old new → IsTrue (g.is_honest (journal_device new)) → IsIntact (journal_half old) (region_len old) (g.seen (journal_device old))
      → IsIntact (journal_half new) (region_len new) (g.seen (journal_device new))
  intact_behind zero old new same honest i = subst (λ (j : Journal D g). IsIntact (journal_half j) (region_len j) (g.seen (journal_device j))) (sym same) i
  intact_behind (suc times) old new all honest i =
      let mid = all.0 in
      intact_behind times mid new all.2 honest
      (at_lengths (journal_half mid) (journal_half old) (region_len mid) (region_len old) (g.seen (journal_device mid)) (sym all.1.half) (sym all.1.len) (all.1.stays (honest_before times mid new all.2 honest) i))

  pub none_refused : (times : ℕ) (old mid new : Journal D g) → NoneRefused times old mid new
  none_refused times old mid new all leaves honest i =
      weakened g.moment g.left_since (journal_device mid) (journal_device new) (IsIntact (journal_half mid) (region_len mid)) (IsIntact (journal_half old) (region_len old))
      (leaves.moments honest (intact_behind times old mid all (leaves.honest honest) i))
      (λ c is. at_lengths (journal_half old) (journal_half mid) (region_len old) (region_len mid) c (half_before times old mid all) (len_before times old mid all) is)

module _ {D : Type 0} (moment : D → ℕ) (left_since : D → ℕ → List ℕ → Type 0) (may_leave : D → List ℕ → Type 0) (seen : D → List ℕ) (half len : ℕ) where
  -- what reads give and each outcome of a crash are intact
  record Stands (d : D) : Type 0 where
    shown : IsIntact half len (seen d)
    medium : (c : List ℕ) → may_leave d c → IsIntact half len c

  goes_on : (first last next : D) → Stands first → OpensIntact moment left_since may_leave seen half len first last → Inherits moment left_since may_leave seen last (moment first) next → Stands next
  goes_on first last next stands opens on =
      let run = opens stands.shown in
      let so : (c : List ℕ) → may_leave first c ⊎ IsIntact half len c → IsIntact half len c = λ c either. ⊎_elim (stands.medium c) (λ is. is) either in
      record { shown = so (seen next) (run.each (seen next) on.shown); medium = λ c may. so c (run.each c (on.medium c may)) }

  again : (times : ℕ) (first new : D) → Stands first → IsOpenedIntact moment left_since may_leave seen half len times first new → Stands new
  again zero first new stands same = subst Stands (sym same) stands
  again (suc times) first new stands all = again times all.1 new (goes_on first all.0 all.1 stands all.2 all.3) all.4

  pub stays_unrefused : (old last first new : D) → StaysUnrefused moment left_since may_leave seen half len old last first new
  stays_unrefused old last first new run on times all =
      (again times first new (record { shown = run.each (seen first) on.shown; medium = λ c may. run.each c (on.medium c may) }) all).shown
