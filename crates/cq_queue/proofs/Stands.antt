-- What is kept of an incarnation, against what happened to it.
use Rattle.std.proofs.Common.{◌≡◌, ℕ, ◌+◌, ◌≤◌, ◌∙◌, ap, sym, List, [], ◌∷◌, ◌++◌, length, map, None, Some, true, false, arith, subst, refl, length-append}
use Rattle.std.specs.List.{filter, find, last_or}
use Rattle.std.proofs.lemmas.Bool.{false≢true}
use Rattle.std.specs.Option.{option_map}
use Rattle.cq_base.specs.declared.ask.Ask.{Ask}
use Rattle.cq_base.specs.declared.ask.Entry.{Entry}
use Rattle.cq_base.specs.queue.Asks.{Attributes, is_send}
use Rattle.cq_base.specs.queue.Outcomes.{Outcome}
use Rattle.cq_base.specs.queue.Incarnations.{Incarnation, IncarnationStandsFor, EndWithSend, coming, told_of, is_recent, recent_sends, accepted_of, all_accepted, repeated, is_use, is_clocked}
use Rattle.cq_base.specs.queue.Messages.{messages, is_accepted, duplicate, is_duplicated_by, moment_of, remaining}
use Rattle.cq_base.proofs.Ends.{filter-passes, filter-fails}
use Rattle.cq_base.proofs.Numbers.{messages-same}
use Rattle.cq_queue.proofs.Lifetimes.{lifetime-more, lifetime-none}
use Rattle.cq_queue.proofs.Maps.{last_or-more}

-- What is kept stands for what happened.
pub record StandsFor (kept : Incarnation) (xs : List Outcome) : Type 0 where
  pub sent : kept.sent ≡ length (messages xs)
  pub messages : kept.messages ≡ remaining kept.attributes.visibility xs
  pub window : (id : List ℕ) (moment : ℕ) → kept.last ≤ moment → repeated id moment kept.accepted ≡ option_map (λ f. f.count) (duplicate id moment xs)
  pub recent : (moment : ℕ) → kept.last ≤ moment → filter (is_recent moment) kept.accepted ≡ filter (is_recent moment) (all_accepted xs)
  pub trimmed : (moment : ℕ) → EndWithSend xs moment → length kept.accepted ≡ recent_sends moment xs
  pub last : kept.last ≡ moment_of (last_or None (filter is_clocked xs))
  pub used : kept.used ≡ length (filter is_use xs)

-- what stands for entries stands for what they did
pub stands-told : (kept : Incarnation) (entries : List Entry) → IncarnationStandsFor kept entries → StandsFor kept (told_of kept entries)
stands-told kept entries h = record { sent = h.sent; messages = h.messages; window = h.window; recent = h.recent; trimmed = h.trimmed; last = h.last; used = h.used }

-- and the other way round
told-stands : (kept : Incarnation) (entries : List Entry) → StandsFor kept (told_of kept entries) → IncarnationStandsFor kept entries
told-stands kept entries h = record { sent = h.sent; messages = h.messages; window = h.window; recent = h.recent; trimmed = h.trimmed; last = h.last; used = h.used }

-- the same with one more entry
pub stands-more : (kept : Incarnation) (entries : List Entry) (e : Entry) → StandsFor kept (told_of kept entries ++ coming kept.number kept.attributes (told_of kept entries) e ∷ []) → IncarnationStandsFor kept (entries ++ e ∷ [])
stands-more kept entries e h = told-stands kept (entries ++ e ∷ []) (subst (StandsFor kept) (sym (lifetime-more kept.number kept.attributes entries e)) h)

-- the entry of a client's ask at that moment
abbrev pub asked : ℕ → Entry → Ask → Entry
asked moment e ask = record { moment = moment; request = record { client = e.request.client; number = e.request.number; ask = ask } }

-- an entry is that of its ask at its moment
pub entry-asked : (e : Entry) (moment : ℕ) (ask : Ask) → e.moment ≡ moment → e.request.ask ≡ ask → e ≡ asked moment e ask
entry-asked e moment ask at asks = ap (λ m. asked m e e.request.ask) at ∙ ap (asked moment e) asks

-- a send, a receive or a change that takes effect is the last so far
pub clocked-next : (xs : List Outcome) (f : Outcome) → is_clocked f ≡ true → f.entry.moment ≡ moment_of (last_or None (filter is_clocked (xs ++ f ∷ [])))
clocked-next xs f h = sym (ap (λ ys. moment_of (last_or None ys)) (filter-passes is_clocked xs f h) ∙ ap moment_of (last_or-more None (filter is_clocked xs) f))

-- nothing else is
pub clocked-same : (xs : List Outcome) (f : Outcome) → is_clocked f ≡ false → moment_of (last_or None (filter is_clocked xs)) ≡ moment_of (last_or None (filter is_clocked (xs ++ f ∷ [])))
clocked-same xs f h = sym (ap (λ ys. moment_of (last_or None ys)) (filter-fails is_clocked xs f h))

-- a send or a receive is a use more
pub used-next : (xs : List Outcome) (f : Outcome) → is_use f ≡ true → length (filter is_use xs) + 1 ≡ length (filter is_use (xs ++ f ∷ []))
used-next xs f h = sym (ap length (filter-passes is_use xs f h) ∙ length-append (filter is_use xs) (f ∷ []))

-- nothing else is
pub used-same : (xs : List Outcome) (f : Outcome) → is_use f ≡ false → length (filter is_use xs) ≡ length (filter is_use (xs ++ f ∷ []))
used-same xs f h = sym (ap length (filter-fails is_use xs f h))

-- what is no accepted send leaves the count of those
pub sent-same : (xs : List Outcome) (f : Outcome) → is_accepted f ≡ false → length (messages xs) ≡ length (messages (xs ++ f ∷ []))
sent-same xs f h = sym (ap length (messages-same xs f h))

-- and which of them are found, from any later moment on
pub window-same : (kept : Incarnation) (xs : List Outcome) (f : Outcome) (last : ℕ) → StandsFor kept xs → is_accepted f ≡ false → kept.last ≤ last
    → (id : List ℕ) (moment : ℕ) → last ≤ moment → repeated id moment kept.accepted ≡ option_map (λ y. y.count) (duplicate id moment (xs ++ f ∷ []))
unfolding duplicate
window-same kept xs f last stands rejected later id moment from =
    let from_last : kept.last ≤ moment = omega arith in
    stands.window id moment from_last ∙ ap (λ ys. option_map (λ y. y.count) (find (is_duplicated_by id moment) ys)) (sym (messages-same xs f rejected))

-- and which of them are recent
pub recent-same : (kept : Incarnation) (xs : List Outcome) (f : Outcome) (last : ℕ) → StandsFor kept xs → is_accepted f ≡ false → kept.last ≤ last
    → (moment : ℕ) → last ≤ moment → filter (is_recent moment) kept.accepted ≡ filter (is_recent moment) (all_accepted (xs ++ f ∷ []))
recent-same kept xs f last stands rejected later moment from =
    let from_last : kept.last ≤ moment = omega arith in
    stands.recent moment from_last ∙ ap (λ ys. filter (is_recent moment) (map accepted_of ys)) (sym (messages-same xs f rejected))

-- lists that end with one thing each, and are the same, end with the same
pub last-same : {X : Type 0} (xs : List X) (x : X) (ys : List X) (y : X) → xs ++ x ∷ [] ≡ ys ++ y ∷ [] → x ≡ y
last-same xs x ys y same = some_is (sym (last_or-more None xs x) ∙ ap (last_or None) same ∙ last_or-more None ys y)
  where
    some_is : Some x ≡ Some y → x ≡ y
    some_is e = cc

-- no outcomes end with nothing
none_last : (xs : List Outcome) (f : Outcome) → [] ≡ xs ++ f ∷ [] → ⊥
none_last xs f same = none_is (ap (last_or None) same ∙ last_or-more None xs f)
  where
    none_is : None ≡ Some f → ⊥
    none_is e = cc

-- outcomes of which the last is of another ask don't end with a send
pub trimmed-other : (kept : Incarnation) (xs : List Outcome) (f : Outcome) → is_send f.entry.request.ask ≡ false → (moment : ℕ) → EndWithSend (xs ++ f ∷ []) moment → length kept.accepted ≡ recent_sends moment (xs ++ f ∷ [])
trimmed-other kept xs f other moment ends = absurd (false≢true (sym other ∙ ap (λ g. is_send g.entry.request.ask) (last-same xs f ends.before ends.send ends.is) ∙ ends.sends))

-- where all that are kept at a send are recent, they are those that count
pub trimmed-send : (kept : Incarnation) (xs : List Outcome) (f : Outcome) → kept.last ≡ f.entry.moment → filter (is_recent f.entry.moment) kept.accepted ≡ kept.accepted
    → ((moment : ℕ) → kept.last ≤ moment → filter (is_recent moment) kept.accepted ≡ filter (is_recent moment) (all_accepted (xs ++ f ∷ [])))
    → (moment : ℕ) → EndWithSend (xs ++ f ∷ []) moment → length kept.accepted ≡ recent_sends moment (xs ++ f ∷ [])
trimmed-send kept xs f last all recent moment ends =
    let at = ap (λ g. g.entry.moment) (last-same xs f ends.before ends.send ends.is) ∙ ends.at_moment in
    subst (λ m. length kept.accepted ≡ recent_sends m (xs ++ f ∷ [])) at (ap length (sym all ∙ recent f.entry.moment (omega arith)))

-- what is kept of an incarnation to which nothing came
abbrev empty : ℕ → Attributes → Incarnation
empty number attributes = record { number = number; attributes = attributes; sent = 0; messages = []; accepted = []; last = 0; used = 0 }

-- nothing happened
nothing_told : (number : ℕ) (attributes : Attributes) → StandsFor (empty number attributes) []
unfolding messages duplicate remaining
nothing_told number attributes = record { sent = refl; messages = refl; window = λ id moment later. refl; recent = λ moment later. refl; trimmed = λ moment ends. absurd (none_last ends.before ends.send ends.is); last = refl; used = refl }

-- it stands for no entries
pub stands-none : (number : ℕ) (attributes : Attributes) → IncarnationStandsFor (empty number attributes) []
stands-none number attributes = told-stands (empty number attributes) [] (subst (StandsFor (empty number attributes)) (sym (lifetime-none number attributes)) (nothing_told number attributes))
