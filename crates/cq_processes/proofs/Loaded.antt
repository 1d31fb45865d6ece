-- Why a process ended that begins with a store.
use Rattle.std.proofs.Common.{◌≡◌, ℕ, ◌∙◌, ap, sym, subst, Bool, true, false, List, Option, inl, inr, Result, Err, refl}
use Rattle.std.proofs.lemmas.Bool.{cases_Bool, true≢false}
use Rattle.cq_frame_loop.specs.declared.fault.LoopFault.TheVariants.{Unanswered}
use Rattle.cq_frame_loop.specs.Loops.{AnswersInput}
use Rattle.cq_processes.specs.declared.keep.LoadEnd.{LoadEnd}
use Rattle.cq_processes.specs.declared.keep.LoadEnd.TheVariants as ends
use Rattle.cq_processes.specs.Keeping.{BreaksOffAt, loop_of}
use Rattle.cq_server_copies.specs.declared.loading.LoadingProcess.{LoadingProcess}
use Rattle.cq_server_copies.specs.declared.loading.Stage.{Stage}
use Rattle.cq_server_copies.specs.declared.loading.Stage.TheVariants as stages
use Rattle.cq_server_copies.specs.Loading as loading

abbrev Ended : LoadEnd → LoadingProcess → LoadingProcess → List ℕ → Option (List ℕ) → List ℕ → Type 0
Ended end first last input left output = AnswersInput loading.Answers loading.Breaks (loop_of (Err end)) first last input left output

-- a stage isn't both
not-both : {P : Type 0} (stage : Stage) → stage ≡ stages.Failed → loading.is_serving stage ≡ true → P
not-both stage failed serves = absurd (true≢false (sym serves ∙ ap loading.is_serving failed))

-- an end as a result
abbrev pub ended : LoadEnd → Result (Unit {0}) LoadEnd
ended end = Err end

same-end : (x y : LoadEnd) → ended x ≡ ended y → x ≡ y
same-end x y is = cc

pub not-loaded : (end : LoadEnd) (has_failed : Bool) (first last : LoadingProcess) (input : List ℕ) (left : Option (List ℕ)) (output : List ℕ) → (has_failed ≡ true → last.stage ≡ stages.Failed) → (end ≡ ends.NotLoaded → has_failed ≡ true)
    → Ended end first last input left output → ended end ≡ ended ends.NotLoaded → BreaksOffAt false first input output
not-loaded end has_failed first last input left output failed why answered is =
    let same : end ≡ ends.NotLoaded = same-end end ends.NotLoaded is in
    let at : last.stage ≡ stages.Failed = failed (why same) in
    let off = subst (λ (e : LoadEnd). Ended e first last input left output) same answered in
    (off.0, elim (cases_Bool (loading.is_serving off.0.last.stage)) [ inl serves ↦ not-both last.stage at (off.1.1 serves) | inr none ↦ none ])

pub unanswered : (end : LoadEnd) (has_failed : Bool) (first last : LoadingProcess) (input : List ℕ) (left : Option (List ℕ)) (output : List ℕ) → (has_failed ≡ false → last.stage ≡ stages.Failed → ⊥) → (end ≡ ends.Loop Unanswered → has_failed ≡ false)
    → Ended end first last input left output → ended end ≡ ended (ends.Loop Unanswered) → BreaksOffAt true first input output
unanswered end has_failed first last input left output lives why answered is =
    let same : end ≡ ends.Loop Unanswered = same-end end (ends.Loop Unanswered) is in
    let off = subst (λ (e : LoadEnd). Ended e first last input left output) same answered in
    (off.0, elim (cases_Bool (loading.is_serving off.0.last.stage)) [ inl serves ↦ serves | inr none ↦ absurd (lives (why same) (off.1.0 none)) ])
