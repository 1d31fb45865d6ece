-- What a map from parties to ends finds and writes.
use Rattle.std.proofs.Common.{◌≡◌, ◌∙◌, ◌||◌, ap, sym, refl, subst, cond, List, [], ◌∷◌, Bool, true, false, Option, Some, None, is_some, inl, inr, Result, Ok, Err, OnErr}
use Rattle.std.proofs.lemmas.Bool.{cases_Bool, true≢false}
use Rattle.std.specs.List.{list_any}
use Rattle.std.specs.Map.{lookup}
use Rattle.cq_base.specs.contracts.party.PartyPartialEq.TheImpl.{eq-value as derived}
use Rattle.cq_base.specs.declared.party.Party.{Party}
use Rattle.cq_base.specs.declared.party.Party.TheVariants.{Master, Clients, Server}
use Rattle.cq_chain.specs.Parties.{same}
use Rattle.cq_events.proofs.Parties.{same-true, same-refl}
use Rattle.cq_process.specs.declared.incoming.Incoming.{Incoming}
use Rattle.cq_process.specs.Outgoing.{End}
use Rattle.cq_process.specs.Links.{ChangesOnly, IsGoneToo, IsOpened, end_of, is_gone, received, received_from}
use Rattle.cq_process.specs.Taking.{nothing}

-- the equality that is derived for parties is that one
party-eq : (a b : Party) → derived.it a b ≡ same a b
party-eq Master Master = refl
party-eq Master Clients = refl
party-eq Master (Server b) = refl
party-eq Clients Master = refl
party-eq Clients Clients = refl
party-eq Clients (Server b) = refl
party-eq (Server a) Master = refl
party-eq (Server a) Clients = refl
party-eq (Server a) (Server b) = refl

lookup-agrees : {K X : Type 0} (f g : K → Bool) → ((k : K) → f k ≡ g k) → (es : List (K × X)) → lookup f es ≡ lookup g es
lookup-agrees f g h [] = refl
lookup-agrees f g h (e ∷ es) = ap (λ b. cond b (Some e.1) (lookup f es)) (h e.0) ∙ ap (λ o. cond (g e.0) (Some e.1) o) (lookup-agrees f g h es)

any-agrees : {K : Type 0} (f g : K → Bool) → ((k : K) → f k ≡ g k) → (ks : List K) → list_any f ks ≡ list_any g ks
any-agrees f g h [] = refl
any-agrees f g h (k ∷ ks) = ap (λ b. b || list_any f ks) (h k) ∙ ap (λ o. g k || o) (any-agrees f g h ks)

-- what a map finds by the derived equality is the end of the party's link
pub found : {E : Type 0} (inside now : List (Party × E)) (party : Party) (end : Option E) → inside ≡ now → end ≡ lookup (derived.it party) inside → end_of now party ≡ end
found inside now party end view is = ap (λ es. end_of es party) (sym view) ∙ sym (lookup-agrees (derived.it party) (same party) (party-eq party) inside) ∙ sym is

-- The end of that party's link is this one now, and the others stay.
abbrev pub Rewrites : {E : Type 0} → List (Party × E) → List (Party × E) → Party → Option E → Type 0
Rewrites old new party end = (other : Party) → end_of new other ≡ cond (same party other) end (end_of old other)

-- what a map writes by the derived equality
pub written : {E : Type 0} (inside now new : List (Party × E)) (party : Party) (end : Option E) → inside ≡ now → ((p : Party) → lookup (derived.it p) new ≡ cond (derived.it party p) end (lookup (derived.it p) inside)) → Rewrites now new party end
written inside now new party end view writes p = sym (lookup-agrees (derived.it p) (same p) (party-eq p) new) ∙ writes p
    ∙ ap (λ b. cond b end (lookup (derived.it p) inside)) (party-eq party p) ∙ ap (λ o. cond (same party p) end o) (lookup-agrees (derived.it p) (same p) (party-eq p) inside ∙ ap (λ es. end_of es p) view)

-- the end that is written
pub here : {E : Type 0} (old new : List (Party × E)) (party : Party) (end : Option E) → Rewrites old new party end → end_of new party ≡ end
here old new party end writes = writes party ∙ ap (λ b. cond b end (end_of old party)) (same-refl party)

-- and the others
pub elsewhere : {E : Type 0} (old new : List (Party × E)) (party : Party) (end : Option E) → Rewrites old new party end → ChangesOnly old new party
elsewhere old new party end writes other differs = writes other ∙ ap (λ b. cond b end (end_of old other)) differs

-- what holds of the ends that are found and written holds of the lists
pub both : {A : Type 0} (P : A → A → Type 0) (a b c d : A) → a ≡ c → b ≡ d → P c d → P a b
both P a b c d e f h = subst (λ o. P o b) (sym e) (subst (λ o. P c o) (sym f) h)

pub on-err : {X E : Type 0} (r : Result X E) (P : Type 0) → P → OnErr r P
on-err (Ok x) P h = tt
on-err (Err e) P h = h

-- an end that isn't found isn't there
pub no-end : {E : Type 0} (ends : List (Party × E)) (party : Party) → end_of ends party ≡ None → is_some (end_of ends party) ≡ true → ⊥
no-end ends party none some = true≢false (sym some ∙ ap is_some none)

pub is-there : {E : Type 0} (ends : List (Party × E)) (party : Party) (end : E) → end_of ends party ≡ Some end → is_some (end_of ends party) ≡ true
is-there ends party end is = ap is_some is

-- whether a map finds it
pub is-found : {E : Type 0} (inside now : List (Party × E)) (party : Party) → inside ≡ now → is_some (lookup (derived.it party) inside) ≡ is_some (end_of now party)
is-found inside now party view = ap is_some (lookup-agrees (derived.it party) (same party) (party-eq party) inside ∙ ap (λ es. end_of es party) view)

pub none-there : {E : Type 0} (end : Option E) → is_some end ≡ false → end ≡ None
none-there None h = refl
none-there (Some e) h = absurd (true≢false h)

-- what a map doesn't find isn't there
pub none-found : {E : Type 0} (inside now : List (Party × E)) (party : Party) (there : Bool) → inside ≡ now → there ≡ is_some (lookup (derived.it party) inside) → there ≡ false → end_of now party ≡ None
none-found inside now party there view is absent = none-there (end_of now party) (sym (is-found inside now party view) ∙ sym is ∙ absent)

-- an end that is there stays
pub opened-same : (end : Option End) → is_some end ≡ true → IsOpened end end
opened-same None h = absurd (true≢false (sym h))
opened-same (Some e) h = refl

-- nothing changes
pub none-changes : {E : Type 0} (ends : List (Party × E)) (party : Party) → ChangesOnly ends ends party
none-changes ends party other differs = refl

-- nothing came from a party whose end is new
pub new-received : (old new : List (Party × Incoming)) (from : Party) (end : Incoming) → end_of old from ≡ None → Rewrites old new from (Some end) → end.taken ≡ 0 → end.pieces ≡ 0 → end.next ≡ nothing → (party : Party) → received_from new party ≡ received_from old party
new-received old new from end absent writes taken pieces next party = elim (cases_Bool (same from party)) [
  | inl e ↦ ap received (writes party ∙ ap (λ b. cond b (Some end) (end_of old party)) e) ∙ (λ i. record { taken = taken i; pieces = pieces i; next = next i }) ∙ sym (ap received (ap (λ p. end_of old p) (sym (same-true from party e)) ∙ absent))
  | inr e ↦ ap received (writes party ∙ ap (λ b. cond b (Some end) (end_of old party)) e)
]

-- ---- parties that are gone

pub is-gone : (gone : List Party) (party : Party) → list_any (derived.it party) gone ≡ is_gone gone party
is-gone gone party = any-agrees (derived.it party) (same party) (party-eq party) gone

pub gone-too : (old new : List Party) (party : Party) → ((p : Party) → list_any (derived.it p) new ≡ cond (derived.it party p) true (list_any (derived.it p) old)) → IsGoneToo old new party
gone-too old new party writes p = sym (is-gone new p) ∙ writes p ∙ ap (λ b. cond b true (list_any (derived.it p) old)) (party-eq party p) ∙ ap (λ o. cond (same party p) true o) (is-gone old p)
