-- What is found of names in the map that keeps them.
use Rattle.std.proofs.Common.{◌≡◌, ℕ, ◌∙◌, ap, sym, subst, List, Option, Some}
use Rattle.std.specs.Prelude.{Result, Ok, Err, IfOk}
use Rattle.cq_base.specs.declared.ask.Ask.{Ask}
use Rattle.cq_base.specs.declared.reply.Reply.{Reply}
use Rattle.cq_store.specs.within.Asked.{IsAnswer}
use Rattle.cq_store.specs.Parts.{IsWithin}
use Rattle.cq_store.specs.Stands.{QueueRecord, name_at, or_unknown}

-- what is found in a map is found under the name
pub found : (inside now : List (List ℕ × QueueRecord)) (key queue : List ℕ) (kept : QueueRecord) → inside ≡ now → key ≡ queue → Some kept ≡ name_at inside key → name_at now queue ≡ Some kept
found inside now key queue kept view same h = ap (λ es. name_at es queue) (sym view) ∙ ap (λ q. name_at inside q) (sym same) ∙ sym h

-- an answer about a name that was found, and written in its place
pub written : (before after : Option QueueRecord) (old new : QueueRecord) (moment : ℕ) (ask : Ask) (reply : Reply) → before ≡ Some old → after ≡ Some new → IsAnswer old new moment ask reply → IsAnswer (or_unknown before) (or_unknown after) moment ask reply
written before after old new moment ask reply is_old is_new h =
    subst (λ o. IsAnswer (or_unknown o) (or_unknown after) moment ask reply) (sym is_old)
    (subst (λ o. IsAnswer old (or_unknown o) moment ask reply) (sym is_new) h)

-- and its bounds
pub bounded : (before after : Option QueueRecord) (old new : QueueRecord) (count later last : ℕ) → before ≡ Some old → after ≡ Some new → (IsWithin count last old → IsWithin later last new) → IsWithin count last (or_unknown before) → IsWithin later last (or_unknown after)
bounded before after old new count later last is_old is_new h within = subst (λ o. IsWithin later last (or_unknown o)) (sym is_new) (h (subst (λ o. IsWithin count last (or_unknown o)) is_old within))

-- what follows of a result follows of what it gives
pub if_ok : {A E : Type 0} (P Q : A → Type 0) (result : Result A E) → ((x : A) → P x → Q x) → IfOk result P → IfOk result Q
if_ok P Q (Ok x) follows h = follows x h
if_ok P Q (Err e) follows h = h
