-- One server, or one way, more.
use Rattle.std.proofs.Common.{◌≡◌, ℕ, ◌+◌, ◌∙◌, ◌++◌, List, [], ◌∷◌, ap, sym, refl, take, length, ◌<◌, get_or, suc, append-nil, arith}
use Rattle.std.specs.List.{flat_map}
use Rattle.std.proofs.Math.Seq.{take-suc}
use Rattle.std.proofs.lemmas.List.{flat_map_more}
use Rattle.cq_chain.specs.Masters.{numbers_from}
use Rattle.cq_chain.proofs.Neighbours.{numbers-more, numbers-none}
use Rattle.cq_events.specs.Worlds.{World}
use Rattle.cq_show.specs.Worlds.{servers_at, servers_upto}

pub servers-none : (w : World) → servers_upto w 0 ≡ []
unfolding servers_upto
servers-none w = ap (flat_map (servers_at w)) (numbers-none 1)

pub servers-more : (w : World) (k : ℕ) → servers_upto w (k + 1) ≡ servers_upto w k ++ servers_at w (1 + k)
unfolding servers_upto
servers-more w k = ap (flat_map (servers_at w)) (numbers-more 1 k) ∙ sym (flat_map_more (servers_at w) [] (numbers_from 1 k) (1 + k))

-- the front of a list, with one more element
pub front-more : {X : Type 0} (xs : List X) (i : ℕ) (x : X) → i < length xs → x ≡ get_or xs i x → take (i + 1) xs ≡ take i xs ++ x ∷ []
front-more xs i x inside is =
    let one : i + 1 ≡ suc i = omega arith in
    ap (λ k. take k xs) one ∙ take-suc xs i x inside ∙ ap (λ e. take i xs ++ e ∷ []) (sym is)

-- one element more, of which a list comes
pub mapped-more : {X A : Type 0} (f : X → List A) (before now after : List A) (xs : List X) (i : ℕ) (x : X) → i < length xs → x ≡ get_or xs i x
    → now ≡ before ++ flat_map f (take i xs) → after ≡ now ++ f x → after ≡ before ++ flat_map f (take (i + 1) xs)
mapped-more f before now after xs i x inside is so more =
    more ∙ ap (λ t. t ++ f x) so ∙ flat_map_more f before (take i xs) x ∙ ap (λ t. before ++ flat_map f t) (sym (front-more xs i x inside is))
