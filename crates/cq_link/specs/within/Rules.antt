-- The rule of an inbox: of each end on which items are put, its list is what was taken of it, followed by what the channel holds of it.
use Rattle.std.specs.Prelude.{◌≡◌, ℕ, Bool, true, false, List, [], ◌∷◌, ◌++◌}
use mathlib.Core.Option.{some}
use lib.ListN.{get_elem?}
use Rattle.cq_link.specs.declared.rule.Tagged.{Tagged}
use Rattle.cq_link.specs.declared.rule.Known.{Known}
use Rattle.cq_link.specs.Tags.{if_of, of, put_by}

module _ {T : Type 0} where
  abbrev pub known : Bool → Bool → Bool → List T → List T → List (Tagged T) → Known T
  known first second takes of_first of_second got = record { first = first; second = second; takes = takes; of_first = of_first; of_second = of_second; got = got }

  -- the same lists under other roles
  abbrev pub in_roles : Bool → Bool → Bool → Known T → Known T
  in_roles first second takes v = known first second takes v.of_first v.of_second v.got

  -- whether the pass is the one that puts on that end
  abbrev pub may_put : Bool → Known T → Bool
  may_put true v = v.second
  may_put false v = v.first

  abbrev pub after_put : Known T → Tagged T → Known T
  after_put v x = known v.first v.second v.takes (v.of_first ++ if_of false x) (v.of_second ++ if_of true x) v.got

  abbrev pub after_take : Known T → Tagged T → Known T
  after_take v x = known v.first v.second v.takes v.of_first v.of_second (v.got ++ x ∷ [])

  -- what a pass knows of the lists that it is to know, where `got` was taken and the channel holds `items`
  abbrev pub Fits : (Bool → ℕ) → ℕ → List (Tagged T) → List (Tagged T) → ℕ → Known T → Type 0
  Fits seats taker got items pass v = ((e : Bool) → may_put e v ≡ true → (seats e ≡ pass) × (put_by e v ≡ of e (got ++ items)))
      × (v.takes ≡ true → (taker ≡ pass) × (v.got ≡ got))

  abbrev pub Delivers : List (Tagged T) → List (Known T) → Type 0
  Delivers items views = (seats : Bool → ℕ) × (taker : ℕ) × (got : List (Tagged T))
      × ((pass : ℕ) (v : Known T) → get_elem? views pass ≡ some v → Fits seats taker got items pass v)

  -- a pass with every role knows what the channel holds of each end
  abbrev pub Total : Known T → List (Tagged T) → Type 0
  Total v items = (e : Bool) → put_by e v ≡ of e (v.got ++ items)

  -- every role is the pass's own
  abbrev pub HasAll : Known T → Type 0
  HasAll v = (v.first ≡ true) × (v.second ≡ true) × (v.takes ≡ true)

  abbrev pub Settled : Known T → Tagged T → Known T → Type 0
  Settled v x w = (w ≡ after_take v x) × ((items : List (Tagged T)) × Total v (x ∷ items))
