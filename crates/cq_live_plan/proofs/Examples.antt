-- Worked steps, each computed by the definitions to what the rules say. The results were worked out by hand.
use Rattle.std.proofs.Common.{◌≡◌, ℕ, List, [], ◌∷◌, Some, None, refl, codes}
use Rattle.cq_base.specs.declared.ask.Ask.{Ask}
use Rattle.cq_base.specs.declared.ask.Ask.TheVariants.{Create, Remove}
use Rattle.cq_live_plan.specs.Steps.{asks_of, crash_of, to_join, joins_of, joiners_of, first_bad}
use Rattle.cq_live_plan.specs.declared.step.LiveStep.{LiveStep}
use Rattle.cq_live_plan.specs.declared.step.LiveStep.TheVariants.{Client, Crash, Join}

abbrev remove : Ask
remove = Remove (codes "q.fifo")

-- a chain of two loses its tail and gets another server
pub a_change : first_bad 2 [] (Client 1 remove ∷ Crash 2 5 ∷ Join 3 10 ∷ []) ≡ None
unfolding first_bad
a_change = refl

-- a third client
pub no_client : first_bad 2 [] (Client 2 remove ∷ Client 3 remove ∷ []) ≡ Some 2
unfolding first_bad
no_client = refl

-- a server that isn't one of the first crashes, or one crashes twice
pub no_first : first_bad 2 [] (Join 3 1 ∷ Crash 3 1 ∷ []) ≡ Some 2
unfolding first_bad
no_first = refl

pub crashed_twice : first_bad 3 [] (Crash 2 5 ∷ Crash 2 6 ∷ []) ≡ Some 2
unfolding first_bad
crashed_twice = refl

-- none of the first is left
pub none_left : first_bad 3 [] (Crash 3 0 ∷ Crash 1 0 ∷ Crash 2 0 ∷ []) ≡ Some 3
unfolding first_bad
none_left = refl

pub only_one : first_bad 1 [] (Crash 1 7 ∷ []) ≡ Some 1
unfolding first_bad
only_one = refl

-- one of the first joins, or a ninth server, or one joins twice
pub joined_before : first_bad 2 [] (Join 2 1 ∷ []) ≡ Some 1
unfolding first_bad
joined_before = refl

pub ninth : first_bad 2 [] (Join 8 1 ∷ Join 9 1 ∷ []) ≡ Some 2
unfolding first_bad
ninth = refl

pub joined_twice : first_bad 2 [] (Join 3 1 ∷ Join 4 1 ∷ Join 3 9 ∷ []) ≡ Some 3
unfolding first_bad
joined_twice = refl

-- what the steps ask for
pub asked : asks_of 2 (Client 2 remove ∷ Crash 2 5 ∷ Client 1 remove ∷ Client 2 remove ∷ []) ≡ remove ∷ remove ∷ []
asked = refl

pub crash_at : crash_of 2 (Crash 1 4 ∷ Join 3 2 ∷ Crash 2 5 ∷ []) ≡ Some 5
crash_at = refl

pub no_crash : crash_of 3 (Crash 1 4 ∷ Join 3 2 ∷ []) ≡ None
no_crash = refl

pub joined : joins_of (Join 4 7 ∷ Crash 2 5 ∷ Join 3 1 ∷ []) ≡ to_join 4 7 ∷ to_join 3 1 ∷ []
joined = refl

pub joiners : joiners_of (Join 4 7 ∷ Crash 2 5 ∷ Join 3 1 ∷ []) ≡ 4 ∷ 3 ∷ []
joiners = refl
