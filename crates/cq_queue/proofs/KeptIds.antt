-- How many ids are kept after a send.
use Rattle.std.proofs.Common.{◌≡◌, ℕ, ◌+◌, ◌∙◌, ap, sym, List, [], ◌∷◌, ◌++◌, length, true, arith, refl}
use Rattle.std.specs.Prelude.{nat_lt}
use Rattle.std.specs.List.{filter}
use Rattle.std.proofs.lemmas.Bool.Decides.{nat_tests}
use Rattle.cq_base.specs.declared.limits.TheConstants.{DEDUPLICATION_WINDOW}
use Rattle.cq_base.specs.queue.Incarnations.{Accepted, Incarnation, is_recent}
use Rattle.cq_base.proofs.Ends.{filter-passes}
use Rattle.cq_base.proofs.Filters.{filter-twice}
use Rattle.cq_queue.specs.within.Kept.{repeated_at, with_message}
use Rattle.cq_queue.specs.Entries.{KeepsIds}

-- where all that are kept are recent, they are those that count
keeps_recent : (moment : ℕ) (kept : Incarnation) → kept.last ≡ moment → filter (is_recent moment) kept.accepted ≡ kept.accepted → KeepsIds moment kept
keeps_recent moment kept last all entries stands = ap length (sym all ∙ stands.recent moment (omega arith))

-- after a send that repeats one
pub keeps-repeated : (moment : ℕ) (kept : Incarnation) → KeepsIds moment (repeated_at moment kept)
keeps-repeated moment kept = keeps_recent moment (repeated_at moment kept) refl (filter-twice (is_recent moment) kept.accepted)

-- an accepted send is recent at its own moment
own_moment : (moment : ℕ) → nat_lt moment (moment + DEDUPLICATION_WINDOW) ≡ true
own_moment moment = grind (arith, nat_tests)

-- so all that are kept after an accepted send are recent
pub all-accepted : (moment : ℕ) (group dedup body : List ℕ) (kept : Incarnation) → filter (is_recent moment) (with_message moment group dedup body kept).accepted ≡ (with_message moment group dedup body kept).accepted
all-accepted moment group dedup body kept =
    let recent = filter (is_recent moment) kept.accepted in
    let a : Accepted = record { dedup = dedup; moment = moment; sequence = kept.sent + 1 } in
    filter-passes (is_recent moment) recent a (own_moment moment) ∙ ap (λ xs. xs ++ a ∷ []) (filter-twice (is_recent moment) kept.accepted)

-- after a send that is accepted
pub keeps-accepted : (moment : ℕ) (group dedup body : List ℕ) (kept : Incarnation) → KeepsIds moment (with_message moment group dedup body kept)
keeps-accepted moment group dedup body kept = keeps_recent moment (with_message moment group dedup body kept) refl (all-accepted moment group dedup body kept)
