-- What is known of the ends of parties, in whatever they are kept, is known of the same ends alone.
use Rattle.std.proofs.Common.{◌≡◌, ℕ, zero, suc, ◌∙◌, ap, refl, sym, subst, List, [], ◌∷◌, map, slice_get, Some}
use Rattle.std.proofs.lemmas.Option.{same_Some, none-some}
use Rattle.cq_base.specs.Relations.{IsPrefix}
use Rattle.cq_chain.specs.declared.message.Message.{Message}
use Rattle.cq_nodes.specs.FreshLinks.{Ends}
use Rattle.cq_live.specs.Ended.{HaveDelivered}

-- an image at a place is that of what stands there
kept_at : {X Y : Type 0} (f : X → Y) (xs : List X) (i : ℕ) (y : Y) → slice_get (map f xs) i ≡ Some y → (x : X) × (slice_get xs i ≡ Some x) × (f x ≡ y)
kept_at f [] i y is = absurd (none-some y is)
kept_at f (x ∷ xs) zero y is = (x, refl, same_Some (f x) y is)
kept_at f (x ∷ xs) (suc i) y is = kept_at f xs i y is

-- the ends of one party alone
abbrev pub row_of : {X P T : Type 0} → (X → List P) → (X → List T) → X → Ends P T
row_of outs ins x = record { outs = outs x; ins = ins x }

module _ {X P T : Type 0} (put : P → List Message) (taken : T → List Message) (outs : X → List P) (ins : X → List T) where
  pub have_delivered : (parties : List X) (rows : List (Ends P T)) → map (row_of outs ins) parties ≡ rows
      → ((i j : ℕ) (a b : X) (out : P) (end : T) → slice_get parties i ≡ Some a → slice_get parties j ≡ Some b → slice_get (outs a) j ≡ Some out → slice_get (ins b) i ≡ Some end → IsPrefix (taken end) (put out))
      → HaveDelivered put taken rows
  have_delivered parties rows same h i j a b out end is there here along =
      let one = kept_at (row_of outs ins) parties i a (ap (λ r. slice_get r i) same ∙ is) in
      let two = kept_at (row_of outs ins) parties j b (ap (λ r. slice_get r j) same ∙ there) in
      h i j one.0 two.0 out end one.1 two.1 (subst (λ r. slice_get r.outs j ≡ Some out) (sym one.2) here) (subst (λ r. slice_get r.ins i ≡ Some end) (sym two.2) along)
