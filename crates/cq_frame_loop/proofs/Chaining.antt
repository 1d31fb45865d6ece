-- Chains of answers, one behind the other.
use Rattle.std.proofs.Common.{◌≡◌, ℕ, List, [], ◌∷◌, ◌++◌, Option, sym, ap, ◌∙◌, subst, append_assoc, append-nil}
use Rattle.std.proofs.lemmas.List.{map-append}
use Rattle.std.proofs.lemmas.List.Concat.{flat_map-append}
use Rattle.cq_frame_loop.specs.Chains.{Relation, Step, IsChain, frames_in, text_in}

-- one answer
abbrev pub one_step : {S : Type 0} → Option (List ℕ) → List ℕ → S → List (Step S)
one_step frame text after = record { frame = frame; text = text; after = after } ∷ []

pub chain-append : {S : Type 0} (answers : Relation S) (first middle last : S) (xs ys : List (Step S)) → IsChain answers first xs middle → IsChain answers middle ys last → IsChain answers first (xs ++ ys) last
chain-append answers first middle last [] ys before behind = subst (λ s. IsChain answers s ys last) (sym before) behind
chain-append answers first middle last (x ∷ xs) ys before behind = (before.0, chain-append answers x.after middle last xs ys before.1 behind)

pub frames_in-append : {S : Type 0} (xs ys : List (Step S)) → frames_in (xs ++ ys) ≡ frames_in xs ++ frames_in ys
frames_in-append {S} xs ys = map-append (λ (step : Step S). step.frame) xs ys

pub text_in-append : {S : Type 0} (xs ys : List (Step S)) → text_in (xs ++ ys) ≡ text_in xs ++ text_in ys
text_in-append {S} xs ys = flat_map-append (λ (step : Step S). step.text) xs ys

-- frames behind those that were answered, which begin with more that were
pub frames-behind : {S : Type 0} (xs ys : List (Step S)) (all some rest : List (Option (List ℕ))) → all ≡ frames_in xs ++ some → some ≡ frames_in ys ++ rest → all ≡ frames_in (xs ++ ys) ++ rest
frames-behind xs ys all some rest before behind =
    before ∙ ap (λ fs. frames_in xs ++ fs) behind ∙ sym (append_assoc (frames_in xs) (frames_in ys) rest) ∙ ap (λ fs. fs ++ rest) (sym (frames_in-append xs ys))

-- what was told before, and then a prefix of what was told behind it
pub text-behind : {S : Type 0} (xs ys : List (Step S)) (told output unsaid more rest : List ℕ) → told ≡ text_in xs → told ≡ output ++ unsaid → unsaid ++ text_in ys ≡ more ++ rest
    → text_in (xs ++ ys) ≡ (output ++ more) ++ rest
text-behind xs ys told output unsaid more rest is parts behind =
    text_in-append xs ys ∙ ap (λ t. t ++ text_in ys) (sym is ∙ parts) ∙ append_assoc output unsaid (text_in ys) ∙ ap (λ t. output ++ t) behind ∙ sym (append_assoc output more rest)

-- more frames behind those whose answers wait
pub frames-on : {S : Type 0} (xs ws ys : List (Step S)) (all some rest : List (Option (List ℕ))) → all ≡ (frames_in xs ++ frames_in ws) ++ some → some ≡ frames_in ys ++ rest → all ≡ (frames_in xs ++ frames_in (ws ++ ys)) ++ rest
frames-on xs ws ys all some rest before behind =
    before ∙ ap (λ fs. (frames_in xs ++ frames_in ws) ++ fs) behind ∙ sym (append_assoc (frames_in xs ++ frames_in ws) (frames_in ys) rest)
    ∙ ap (λ fs. fs ++ rest) (append_assoc (frames_in xs) (frames_in ws) (frames_in ys) ∙ ap (λ fs. frames_in xs ++ fs) (sym (frames_in-append ws ys)))

-- none waits any more
pub frames-settled : {S : Type 0} (xs ws : List (Step S)) (all rest : List (Option (List ℕ))) → all ≡ (frames_in xs ++ frames_in ws) ++ rest → all ≡ (frames_in (xs ++ ws) ++ []) ++ rest
frames-settled xs ws all rest is = is ∙ ap (λ fs. fs ++ rest) (sym (frames_in-append xs ws) ∙ sym (append-nil (frames_in (xs ++ ws))))

-- frames behind those that were answered, of which the last ones wait
pub frames-front : {S : Type 0} (xs ys ws : List (Step S)) (all some rest : List (Option (List ℕ))) → all ≡ frames_in xs ++ some → some ≡ (frames_in ys ++ frames_in ws) ++ rest → all ≡ (frames_in (xs ++ ys) ++ frames_in ws) ++ rest
frames-front xs ys ws all some rest before behind =
    before ∙ ap (λ fs. frames_in xs ++ fs) behind ∙ sym (append_assoc (frames_in xs) (frames_in ys ++ frames_in ws) rest)
    ∙ ap (λ fs. fs ++ rest) (sym (append_assoc (frames_in xs) (frames_in ys) (frames_in ws)) ∙ ap (λ fs. fs ++ frames_in ws) (sym (frames_in-append xs ys)))

-- what is told behind what waits
pub text-on : {S : Type 0} (ws ys : List (Step S)) (unsaid text : List ℕ) → unsaid ≡ text_in ws → text ≡ text_in ys → unsaid ++ text ≡ text_in (ws ++ ys)
text-on ws ys unsaid text is more = ap (λ t. t ++ text) is ∙ ap (λ t. text_in ws ++ t) more ∙ sym (text_in-append ws ys)
