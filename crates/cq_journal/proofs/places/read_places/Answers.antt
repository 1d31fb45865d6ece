-- One place more was read.
use Rattle.std.proofs.Common.{◌≡◌, ◌+◌, ◌-◌, ◌<◌, ◌≤◌, ◌++◌, ◌∷◌, [], ℕ, List, length, take, drop, sym, ◌∙◌, ap, subst, arith, append_assoc, length-drop, drop-drop}
use Rattle.std.proofs.lemmas.List.{append-nil}
use Rattle.cq_journal.specs.declared.number.TheConstants.{NUMBER_LIMIT}
use Rattle.cq_journal.specs.Numbers.{number_of}
use Rattle.cq_journal.specs.Regions.{Each, places_in}
use Rattle.cq_journal.proofs.Refused.{places_none, places_step}
use Rattle.cq_journal.proofs.Regions.{each_more}
use Rattle.cq_journal.proofs.places.read_places.Goals as goal

pub loop-at-preserved : goal.loop-at-preserved
loop-at-preserved c =
    let bytes : List ℕ = c.args.bytes.now in
    let at = c.loop-at.at in
    let inv = c.loop-at.invariant in
    let places : List ℕ = c.loop-at.places.items in
    let place = c.read_number-place.result in
    let pushed : c.push.new.self.items ≡ places ++ place ∷ [] = c.in_ok-push.ensures.items in
    let long : 5 ≤ length (drop at bytes) = omega (arith, length-drop at bytes, c.loop-at-test.true) in
    let five : at + 5 - at ≡ 5 = omega arith in
    let place_is : place ≡ number_of (take 5 (drop at bytes)) = c.read_number-place.ensures.value ∙ ap (λ (n : ℕ). number_of (take n (drop at bytes))) five in
    let step : places_in (drop at bytes) ≡ place ∷ places_in (drop (at + 5) bytes) = places_step (drop at bytes) long ∙ (λ i. sym place_is i ∷ places_in (drop-drop 5 at bytes i)) in
    record {
      within = omega (arith, length-drop at bytes, long);
      read = ap (λ (l : List ℕ). l ++ places_in (drop (at + 5) bytes)) pushed ∙ append_assoc places (place ∷ []) (places_in (drop (at + 5) bytes)) ∙ ap (λ (l : List ℕ). places ++ l) (sym step) ∙ inv.read;
      small = subst (λ (l : List ℕ). Each (λ n. n < NUMBER_LIMIT) l) (sym pushed) (each_more (λ n. n < NUMBER_LIMIT) places place inv.small c.read_number-place.ensures.small);
    }

pub returns-clause-places : goal.returns-clause-places
returns-clause-places c =
    let bytes : List ℕ = c.args.bytes.now in
    let at = c.loop-at.at in
    let places : List ℕ = c.loop-at.places.items in
    let short : length (drop at bytes) < 5 = omega (arith, length-drop at bytes, c.loop-at-test.false) in
    sym (append-nil places) ∙ ap (λ (l : List ℕ). places ++ l) (sym (places_none (drop at bytes) short)) ∙ c.loop-at.invariant.read
