-- Worked wirings that compute.
use Rattle.std.proofs.Common.{◌≢◌, zero, suc, sym, refl, [], ◌∷◌}
use Rattle.std.proofs.lemmas.Option.{same_Some, none-some}
use Rattle.cq_link.specs.Links.{LinkId}
use Rattle.cq_link.specs.Wirings.{AreCrossed}

-- of two parties, each has the other ends of the other's links
two_are_crossed : (aa ab ba bb : LinkId) → AreCrossed (record { outs = aa ∷ ab ∷ []; ins = aa ∷ ba ∷ [] } ∷ record { outs = ba ∷ bb ∷ []; ins = ab ∷ bb ∷ [] } ∷ [])
two_are_crossed aa ab ba bb zero zero = refl
two_are_crossed aa ab ba bb zero (suc zero) = refl
two_are_crossed aa ab ba bb zero (suc (suc j)) = refl
two_are_crossed aa ab ba bb (suc zero) zero = refl
two_are_crossed aa ab ba bb (suc zero) (suc zero) = refl
two_are_crossed aa ab ba bb (suc zero) (suc (suc j)) = refl
two_are_crossed aa ab ba bb (suc (suc i)) zero = refl
two_are_crossed aa ab ba bb (suc (suc i)) (suc zero) = refl
two_are_crossed aa ab ba bb (suc (suc i)) (suc (suc j)) = refl

-- an end of each link at its own party is no wiring of two parties
two_apart_are_not : (aa ab ba bb : LinkId) → ab ≢ ba → AreCrossed (record { outs = aa ∷ ab ∷ []; ins = aa ∷ ab ∷ [] } ∷ record { outs = ba ∷ bb ∷ []; ins = ba ∷ bb ∷ [] } ∷ []) → ⊥
two_apart_are_not aa ab ba bb apart crossed = apart (same_Some ab ba (crossed 0 1))

-- one end too few at a party is no wiring
one_missing_is_not : (aa ab ba bb : LinkId) → AreCrossed (record { outs = aa ∷ ab ∷ []; ins = aa ∷ ba ∷ [] } ∷ record { outs = ba ∷ bb ∷ []; ins = ab ∷ [] } ∷ []) → ⊥
one_missing_is_not aa ab ba bb crossed = none-some bb (sym (crossed 1 1))
