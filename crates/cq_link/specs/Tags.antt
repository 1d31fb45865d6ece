-- Items in an inbox, each with the end on which it was put: `true` stands for the second end.
use Rattle.std.specs.Prelude.{Bool, true, false, not, List, [], ◌∷◌, ◌++◌}
use Rattle.cq_link.specs.declared.rule.Tagged.{Tagged}
use Rattle.cq_link.specs.declared.rule.Known.{Known}

abbrev pub same : Bool → Bool → Bool
same true b = b
same false b = not b

module _ {T : Type 0} where
  abbrev pub tagged : Bool → T → Tagged T
  tagged second item = record { second = second; item = item }

  -- the item alone, or nothing
  abbrev pub only : Bool → T → List T
  only true x = x ∷ []
  only false x = []

  -- the item if it was put on that end
  abbrev pub if_of : Bool → Tagged T → List T
  if_of second x = only (same second x.second) x.item

  -- those that were put on that end, in order
  abbrev pub of : Bool → List (Tagged T) → List T
  of second [] = []
  of second (x ∷ xs) = if_of second x ++ of second xs

  -- what the view knows to be put on that end
  abbrev pub put_by : Bool → Known T → List T
  put_by true v = v.of_second
  put_by false v = v.of_first
