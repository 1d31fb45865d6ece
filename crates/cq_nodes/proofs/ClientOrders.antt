-- The answers of one link, in the order in which they closed asks.
use Rattle.std.proofs.Common.{◌≡◌, ◌==◌, ℕ, zero, suc, ◌+◌, arith, ◌∙◌, ap, sym, refl, subst, cond, length, append-nil, append_assoc, List, [], ◌∷◌, ◌++◌, slice_get, Bool, true, false, inl, inr, Option, Some, None}
use Rattle.std.proofs.lemmas.Option.{none-some}
use Rattle.cq_chain.specs.declared.message.Answer.{Answer}
use Rattle.cq_chain.specs.declared.message.Message.{Message}
use Rattle.cq_chain.specs.declared.message.Message.TheVariants as stored
use Rattle.cq_nodes.specs.ClientMoves.{GrewAt}
use Rattle.cq_nodes.specs.ClientNodes.{come_by, CameInOrder}
use Rattle.cq_nodes.specs.Ends.{listed}
use Rattle.cq_nodes.specs.Moves.{Part}
use Rattle.cq_nodes.proofs.Growing.{part_join}

-- with one more behind them
come_more : (link : ℕ) (places : List ℕ) (place : ℕ) (answers : List Answer) (a : Answer) → length places ≡ length answers
    → come_by link (places ++ place ∷ []) (answers ++ a ∷ []) ≡ come_by link places answers ++ cond (link == place) (stored.Answer a ∷ []) []
come_more link [] place [] a count = append-nil (cond (link == place) (stored.Answer a ∷ []) [])
come_more link [] place (b ∷ answers) a count = absurd (omega arith)
come_more link (p ∷ places) place [] a count = absurd (omega arith)
come_more link (p ∷ places) place (b ∷ answers) a count =
    ap (λ us. cond (link == p) (stored.Answer b ∷ []) [] ++ us) (come_more link places place answers a (omega arith))
    ∙ sym (append_assoc (cond (link == p) (stored.Answer b ∷ []) []) (come_by link places answers) (cond (link == place) (stored.Answer a ∷ []) []))

-- one more place for one more answer
more_places : (places : List ℕ) (place : ℕ) (answers : List Answer) (a : Answer) → length places ≡ length answers → length (places ++ place ∷ []) ≡ length (answers ++ a ∷ [])
more_places [] place [] a count = refl
more_places [] place (b ∷ answers) a count = absurd (omega arith)
more_places (p ∷ places) place [] a count = absurd (omega arith)
more_places (p ∷ places) place (b ∷ answers) a count = ap suc (more_places places place answers a (omega arith))

-- a part of a list is one of a longer list
part_longer : (xs ys more : List Message) → Part xs ys → Part xs (ys ++ more)
part_longer xs ys more part = subst (λ us. Part us (ys ++ more)) (append-nil xs) (part_join xs ys [] more part tt)

-- a part of what one end has, in which one more is
chosen_part : (t : Bool) (m : Message) → Part (cond t (m ∷ []) []) (cond t (listed (Some m)) [])
chosen_part true m = inl (refl, tt)
chosen_part false m = tt

module _ {T : Type 0} (taken : T → List Message) where
  pub came_none : (ins : List T) → CameInOrder taken ins []
  came_none ins = record { places = []; count = refl; in_order = λ link end is. tt }

  -- something was taken, or nothing, and no ask closed
  pub came_still : (before after : List T) (place : ℕ) (r : Option Message) (closed : List Answer) → GrewAt taken before after place r → CameInOrder taken before closed → CameInOrder taken after closed
  came_still before after place r closed grew h = record {
    places = h.places;
    count = h.count;
    in_order = λ link end is. let was = grew link end is in
        subst (Part (come_by link h.places closed)) (sym was.2) (part_longer (come_by link h.places closed) (taken was.0) (cond (link == place) (listed r) []) (h.in_order link was.0 was.1));
  }

  -- an answer was taken at that place, and closed an ask
  pub came_one : (before after : List T) (place : ℕ) (m : Message) (closed : List Answer) (a : Answer) → m ≡ stored.Answer a → GrewAt taken before after place (Some m) → CameInOrder taken before closed → CameInOrder taken after (closed ++ a ∷ [])
  came_one before after place m closed a bears grew h = record {
    places = h.places ++ place ∷ [];
    count = more_places h.places place closed a h.count;
    in_order = λ link end is. let was = grew link end is in
        subst (λ xs. Part xs (taken end)) (sym (come_more link h.places place closed a h.count))
        (subst (Part (come_by link h.places closed ++ cond (link == place) (stored.Answer a ∷ []) [])) (sym was.2)
        (part_join (come_by link h.places closed) (taken was.0) (cond (link == place) (stored.Answer a ∷ []) []) (cond (link == place) (listed (Some m)) []) (h.in_order link was.0 was.1)
        (subst (λ (n : Message). Part (cond (link == place) (n ∷ []) []) (cond (link == place) (listed (Some m)) [])) bears (chosen_part (link == place) m))));
  }
