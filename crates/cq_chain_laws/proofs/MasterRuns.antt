-- What a process of a master does of frames one after another.
use Rattle.std.proofs.Common.{◌≡◌, ◌∙◌, ℕ, ◌+◌, ◌==◌, ◌&&◌, ap, sym, refl, subst, cond, List, [], ◌∷◌, ◌++◌, map, append-nil, append_assoc, Bool, true, false, Option, Some, None, Ok, inl, inr}
use Rattle.std.proofs.lemmas.Bool.{and_parts, eqb-true, true≢false}
use Rattle.std.proofs.lemmas.List.Concat.{flat_map-append}
use Rattle.cq_base.specs.declared.party.Party.{Party}
use Rattle.cq_base.specs.declared.party.Party.TheVariants as parties
use Rattle.cq_chain.specs.declared.message.Message.{Message}
use Rattle.cq_events.specs.Actions.{Action, put_to, taken_from}
use Rattle.cq_events.proofs.Parties.{same-turned}
use Rattle.cq_frame_loop.specs.Chains.{IsChain, Step}
use Rattle.cq_frames.specs.declared.command.Command.{Command}
use Rattle.cq_frames.specs.declared.command.Command.TheVariants as commands
use Rattle.cq_frames.specs.declared.number.PieceNumber.{PieceNumber}
use Rattle.cq_frames.specs.declared.response.Response.{Response}
use Rattle.cq_frames.specs.Reading.{command_at}
use Rattle.cq_master_process.specs.declared.process.MasterProcess.{MasterProcess}
use Rattle.cq_master_process.specs.Answering.{Answers}
use Rattle.cq_master_process.specs.Cores.{ActsAll, alone}
use Rattle.cq_master_process.specs.Links.{gone_of, put_of, taken_of, with_one}
use Rattle.cq_master_process.specs.Putting.{Sent, action_of}
use Rattle.cq_master_process.specs.Steps.{Does, is_in_turn}
use Rattle.cq_process_laws.specs.Passing.{Numbered, brought_by, brought_in, number_at, piece_for, pieces_for, refusal_of}
use Rattle.cq_process_laws.proofs.Numbering.{put-both, taken-both}
use Rattle.cq_wire.specs.Reading.{whole_at}
use Rattle.cq_chain_laws.specs.Laws.{MasterRunsAreActions}
use Rattle.cq_chain_laws.specs.Masters.{AreDone, Done, actions_in, brought_from, told_in}
use Rattle.cq_chain_laws.proofs.Coming.{Taken, taken-more, taken-none, taken-one}
use Rattle.cq_chain_laws.proofs.Mastering.{Carries, Comes, Doing, IsRefusal, Rests, acts-both, behind, doing, first_of, responses_all}
use Rattle.cq_chain_laws.proofs.Putting.{Left, all-left, left-gone, left-none, left-told}

-- ---- a command by itself

-- it puts nothing
first-puts : (to : Party) (p : MasterProcess) (command : Command) (q : MasterProcess) (h : Does p command q) → put_to to (first_of p command q h) ≡ []
first-puts to p (commands.Arrive stream clock request) q h = refl
first-puts to p (commands.Ask query) q h = refl
first-puts to p (commands.Take parties.Master number piece) q h = refl
first-puts to p (commands.Take parties.Clients number piece) q h = refl
first-puts to p (commands.Take (parties.Server from) number piece) q h = refl
first-puts to p (commands.Detect server) q h = refl
first-puts to p (commands.Join server) q h = refl
first-puts to p (commands.More other) q h = refl
first-puts to p (commands.Gone server) q h = refl
first-puts to p commands.Save q h = refl
first-puts to p (commands.Load chunk) q h = refl

first-put-of : (p : MasterProcess) (command : Command) (q : MasterProcess) → Does p command q → put_of q.links ≡ put_of p.links
first-put-of p (commands.Arrive stream clock request) q h = absurd h
first-put-of p (commands.Ask query) q h = absurd h
first-put-of p (commands.Take parties.Master number piece) q h = absurd h
first-put-of p (commands.Take parties.Clients number piece) q h = absurd h
first-put-of p (commands.Take (parties.Server from) number piece) q h = h.takes.put
first-put-of p (commands.Detect server) q h = h.put
first-put-of p (commands.Join server) q h = h.put
first-put-of p (commands.More other) q h = h.put
first-put-of p (commands.Gone server) q h = h.put
first-put-of p commands.Save q h = absurd h
first-put-of p (commands.Load chunk) q h = absurd h

-- who isn't gone wasn't before
same-gone : (p q : MasterProcess) (id : ℕ) → gone_of q.links ≡ gone_of p.links → gone_of q.links id ≡ false → gone_of p.links id ≡ false
same-gone p q id is here = sym (ap (λ (f : ℕ → Bool). f id) is) ∙ here

one-gone : (p q : MasterProcess) (server id : ℕ) → gone_of q.links ≡ with_one (gone_of p.links) server → gone_of q.links id ≡ false → gone_of p.links id ≡ false
one-gone p q server id is here = go (server == id) (sym (ap (λ (f : ℕ → Bool). f id) is) ∙ here) where
  go : (t : Bool) → cond t true (gone_of p.links id) ≡ false → gone_of p.links id ≡ false
  go true e = absurd (true≢false e)
  go false e = e

first-gone : (p : MasterProcess) (command : Command) (q : MasterProcess) (id : ℕ) → Does p command q → gone_of q.links id ≡ false → gone_of p.links id ≡ false
first-gone p (commands.Arrive stream clock request) q id h here = absurd h
first-gone p (commands.Ask query) q id h here = absurd h
first-gone p (commands.Take parties.Master number piece) q id h here = absurd h
first-gone p (commands.Take parties.Clients number piece) q id h here = absurd h
first-gone p (commands.Take (parties.Server from) number piece) q id h here = same-gone p q id h.takes.gone here
first-gone p (commands.Detect server) q id h here = same-gone p q id h.gone here
first-gone p (commands.Join server) q id h here = same-gone p q id h.gone here
first-gone p (commands.More other) q id h here = same-gone p q id h.gone here
first-gone p (commands.Gone server) q id h here = one-gone p q server id h.gone here
first-gone p commands.Save q id h here = absurd h
first-gone p (commands.Load chunk) q id h here = absurd h

-- ---- what is told besides

refusal-none : (to : Party) (one : Response) → IsRefusal one → pieces_for to (one ∷ []) ≡ []
refusal-none to one (code, inl is) = ap (λ r. pieces_for to (r ∷ [])) is
refusal-none to one (code, inr is) = ap (λ r. pieces_for to (r ∷ [])) is

behind-none : (to : Party) (waits : Option ℕ) → pieces_for to (behind waits) ≡ []
behind-none to None = refl
behind-none to (Some id) = refl

behind-refusal : (so_far : Option ℕ) (waits : Option ℕ) (told : List Response) → refusal_of so_far (told ++ behind waits) ≡ None
behind-refusal so_far None [] = refl
behind-refusal so_far (Some id) [] = refl
behind-refusal so_far waits (one ∷ told) = behind-refusal _ waits told

-- ---- one server, to which it puts

module _ (to : ℕ) where
  abbrev LeftAt : MasterProcess → List Message → List Numbered → Type 0
  LeftAt p messages pieces = Left (gone_of p.links to) (put_of p.links to) messages pieces

  left-same : (p q : MasterProcess) (messages : List Message) (pieces : List Numbered) → (gone_of q.links to ≡ false → gone_of p.links to ≡ false) → put_of q.links ≡ put_of p.links → LeftAt p messages pieces → LeftAt q messages pieces
  left-same p q messages pieces lives put h =
      subst (λ (f : ℕ → ℕ). Left (gone_of q.links to) (f to) messages pieces) (sym put) (left-gone (gone_of p.links to) (gone_of q.links to) (put_of p.links to) messages pieces lives h)

  left-rests : (p q : MasterProcess) (told : List Response) (acts : List Action) (messages : List Message) (pieces : List Numbered) → Rests p q told acts → LeftAt p messages pieces
      → LeftAt q (messages ++ put_to (parties.Server to) acts) (pieces ++ pieces_for (parties.Server to) told)
  left-rests p q told acts messages pieces r h =
      let no_puts : messages ++ put_to (parties.Server to) acts ≡ messages = ap (λ ds. messages ++ put_to (parties.Server to) ds) r.none ∙ append-nil messages in
      let no_pieces : pieces ++ pieces_for (parties.Server to) told ≡ pieces = ap (λ ts. pieces ++ pieces_for (parties.Server to) ts) r.is ∙ ap (λ ps. pieces ++ ps) (refusal-none (parties.Server to) r.refusal r.so) ∙ append-nil pieces in
      subst (λ ms. LeftAt q ms (pieces ++ pieces_for (parties.Server to) told)) (sym no_puts) (subst (λ ps. LeftAt q messages ps) (sym no_pieces)
      (left-same p q messages pieces (λ here. same-gone p q to r.keeps.gone here) r.keeps.put h))

  left-carries : (p : MasterProcess) (bytes : List ℕ) (q : MasterProcess) (told : List Response) (acts : List Action) (messages : List Message) (pieces : List Numbered) → Carries p bytes q told acts → LeftAt p messages pieces
      → LeftAt q (messages ++ put_to (parties.Server to) acts) (pieces ++ pieces_for (parties.Server to) told)
  left-carries p bytes q told acts messages pieces c h =
      let party = parties.Server to in
      let put = responses_all (gone_of c.mid.links) (put_of c.mid.links) c.messages in
      let at_mid = left-same p c.mid messages pieces (λ here. first-gone p c.command c.mid to c.does here) (first-put-of p c.command c.mid c.does) h in
      let all = all-left (gone_of c.mid.links) to c.messages (put_of c.mid.links) messages pieces c.puts.fits at_mid in
      let same_puts : put_to party acts ≡ put_to party (map action_of c.messages) =
      ap (put_to party) c.are_acts ∙ put-both party (first_of p c.command c.mid c.does) (map action_of c.messages) ∙ ap (λ ms. ms ++ put_to party (map action_of c.messages)) (first-puts party p c.command c.mid c.does) in
      let same_pieces : pieces_for party told ≡ pieces_for party put =
      ap (pieces_for party) c.are_told ∙ flat_map-append (piece_for party) put (behind c.waits) ∙ ap (λ ps. pieces_for party put ++ ps) (behind-none party c.waits) ∙ append-nil (pieces_for party put) in
      subst (λ ms. LeftAt q (messages ++ ms) (pieces ++ pieces_for party told)) (sym same_puts) (subst (λ ps. LeftAt q (messages ++ put_to party (map action_of c.messages)) (pieces ++ ps)) (sym same_pieces)
      (subst (λ (f : ℕ → Bool). Left (f to) (put_of q.links to) (messages ++ put_to party (map action_of c.messages)) (pieces ++ pieces_for party put)) (sym c.puts.gone)
      (subst (λ (f : ℕ → ℕ). Left (gone_of c.mid.links to) (f to) (messages ++ put_to party (map action_of c.messages)) (pieces ++ pieces_for party put)) (sym c.puts.put) all)))

  left-step : (p : MasterProcess) (frame : Option (List ℕ)) (q : MasterProcess) (told : List Response) (acts : List Action) (messages : List Message) (pieces : List Numbered) → Comes p frame q told acts → LeftAt p messages pieces
      → LeftAt q (messages ++ put_to (parties.Server to) acts) (pieces ++ pieces_for (parties.Server to) told)
  left-step p None q told acts messages pieces r h = left-rests p q told acts messages pieces r h
  left-step p (Some bytes) q told acts messages pieces (inl c) h = left-carries p bytes q told acts messages pieces c h
  left-step p (Some bytes) q told acts messages pieces (inr r) h = left-rests p q told acts messages pieces r h

-- ---- one server, from which it takes

-- puts take nothing
puts-none : (from : Party) (xs : List Sent) → taken_from from (map action_of xs) ≡ []
puts-none from [] = refl
puts-none from (x ∷ xs) = puts-none from xs

turn-is : (p : MasterProcess) (from : ℕ) (number : PieceNumber) → is_in_turn p from number ≡ true → number ≡ number_at (taken_of p.links from + 1) 0
turn-is p from number h = go (gone_of p.links from) h where
  go : (t : Bool) → cond t false ((number.index == 0) && (number.message == taken_of p.links from + 1)) ≡ true → number ≡ number_at (taken_of p.links from + 1) 0
  go true e = absurd (true≢false (sym e))
  go false e =
      let both = and_parts (number.index == 0) (number.message == taken_of p.links from + 1) e in
      let message_is = eqb-true number.message (taken_of p.links from + 1) both.1 in
      let index_is = eqb-true number.index 0 both.0 in
      λ i. record { message = message_is i; index = index_is i }

module _ (from : ℕ) where
  abbrev TakenAt : MasterProcess → List Message → List Numbered → Type 0
  TakenAt p messages came = Taken (taken_of p.links from) messages came

  taken-same : (p q : MasterProcess) (messages : List Message) (came more : List Numbered) → taken_of q.links ≡ taken_of p.links → TakenAt p messages came → TakenAt q (messages ++ []) (came ++ more)
  taken-same p q messages came more is h = subst (λ (f : ℕ → ℕ). Taken (f from) (messages ++ []) (came ++ more)) (sym is) (taken-more (taken_of p.links from) messages came more h)

  -- a message of a server is taken: of this one, or of another
  taken-message : (p q : MasterProcess) (other : ℕ) (number : PieceNumber) (piece : List ℕ) (h : Does p (commands.Take (parties.Server other) number piece) q) (messages : List Message) (came : List Numbered) → TakenAt p messages came
      → TakenAt q (messages ++ taken_from (parties.Server from) (first_of p (commands.Take (parties.Server other) number piece) q h)) (came ++ brought_by (parties.Server from) None (Ok (commands.Take (parties.Server other) number piece)))
  taken-message p q other number piece h messages came taken = go (from == other) refl where
    go : (t : Bool) → from == other ≡ t → TakenAt q (messages ++ (cond t (h.message ∷ []) [] ++ [])) (came ++ cond t ((number, piece) ∷ []) [])
    go true e =
        let is = eqb-true from other e in
        let number_is : number ≡ number_at (taken_of p.links from + 1) 0 = turn-is p other number h.in_turn ∙ ap (λ id. number_at (taken_of p.links id + 1) 0) (sym is) in
        let counts : taken_of q.links from ≡ taken_of p.links from + 1 =
        ap (λ (f : ℕ → ℕ). f from) h.takes.taken ∙ ap (λ t. cond t (taken_of p.links from + 1) (taken_of p.links from)) (same-turned (parties.Server other) (parties.Server from) ∙ e) in
        subst (λ n. Taken n (messages ++ h.message ∷ []) (came ++ (number, piece) ∷ [])) (sym counts)
        (taken-one (taken_of p.links from) messages came ((number, piece) ∷ []) h.message piece h.fits h.read (inl (λ i. (sym number_is i, piece))) taken)
    go false e =
        let counts : taken_of q.links from ≡ taken_of p.links from = ap (λ (f : ℕ → ℕ). f from) h.takes.taken ∙ ap (λ t. cond t (taken_of p.links from + 1) (taken_of p.links from)) (same-turned (parties.Server other) (parties.Server from) ∙ e) in
        subst (λ n. Taken n (messages ++ []) (came ++ [])) (sym counts) (taken-more (taken_of p.links from) messages came [] taken)

  -- what a command is by itself
  taken-first : (p : MasterProcess) (command : Command) (q : MasterProcess) (h : Does p command q) (messages : List Message) (came : List Numbered) → TakenAt p messages came
      → TakenAt q (messages ++ taken_from (parties.Server from) (first_of p command q h)) (came ++ brought_by (parties.Server from) None (Ok command))
  taken-first p (commands.Arrive stream clock request) q h messages came taken = absurd h
  taken-first p (commands.Ask query) q h messages came taken = absurd h
  taken-first p (commands.Take parties.Master number piece) q h messages came taken = absurd h
  taken-first p (commands.Take parties.Clients number piece) q h messages came taken = absurd h
  taken-first p (commands.Take (parties.Server other) number piece) q h messages came taken = taken-message p q other number piece h messages came taken
  taken-first p (commands.Detect server) q h messages came taken = taken-same p q messages came [] h.taken taken
  taken-first p (commands.Join server) q h messages came taken = taken-same p q messages came [] h.taken taken
  taken-first p (commands.More to) q h messages came taken = taken-same p q messages came [] h.taken taken
  taken-first p (commands.Gone server) q h messages came taken = taken-same p q messages came [] h.taken taken
  taken-first p commands.Save q h messages came taken = absurd h
  taken-first p (commands.Load chunk) q h messages came taken = absurd h

  taken-rests : (p q : MasterProcess) (told : List Response) (acts : List Action) (messages : List Message) (came more : List Numbered) → Rests p q told acts → TakenAt p messages came
      → TakenAt q (messages ++ taken_from (parties.Server from) acts) (came ++ more)
  taken-rests p q told acts messages came more r h = subst (λ ds. TakenAt q (messages ++ taken_from (parties.Server from) ds) (came ++ more)) (sym r.none) (taken-same p q messages came more r.keeps.taken h)

  taken-carries : (p : MasterProcess) (bytes : List ℕ) (q : MasterProcess) (told : List Response) (acts : List Action) (messages : List Message) (came : List Numbered) → Carries p bytes q told acts → TakenAt p messages came
      → TakenAt q (messages ++ taken_from (parties.Server from) acts) (came ++ brought_in (parties.Server from) (Some bytes) told)
  taken-carries p bytes q told acts messages came c h =
      let party = parties.Server from in
      let put = responses_all (gone_of c.mid.links) (put_of c.mid.links) c.messages in
      let mine = first_of p c.command c.mid c.does in
      let same_takes : taken_from party acts ≡ taken_from party mine =
      ap (taken_from party) c.are_acts ∙ taken-both party mine (map action_of c.messages) ∙ ap (λ ms. taken_from party mine ++ ms) (puts-none party c.messages) ∙ append-nil (taken_from party mine) in
      let same_pieces : brought_in party (Some bytes) told ≡ brought_by party None (Ok c.command) =
      ap (λ refusal. brought_by party refusal (whole_at command_at bytes)) (ap (refusal_of None) c.are_told ∙ behind-refusal None c.waits put) ∙ ap (brought_by party None) c.read in
      subst (λ ms. TakenAt q (messages ++ ms) (came ++ brought_in party (Some bytes) told)) (sym same_takes) (subst (λ ps. TakenAt q (messages ++ taken_from party mine) (came ++ ps)) (sym same_pieces)
      (subst (λ (f : ℕ → ℕ). Taken (f from) (messages ++ taken_from party mine) (came ++ brought_by party None (Ok c.command))) (sym c.puts.taken) (taken-first p c.command c.mid c.does messages came h)))

  taken-step : (p : MasterProcess) (frame : Option (List ℕ)) (q : MasterProcess) (told : List Response) (acts : List Action) (messages : List Message) (came : List Numbered) → Comes p frame q told acts → TakenAt p messages came
      → TakenAt q (messages ++ taken_from (parties.Server from) acts) (came ++ brought_in (parties.Server from) frame told)
  taken-step p None q told acts messages came r h = taken-rests p q told acts messages came [] r h
  taken-step p (Some bytes) q told acts messages came (inl c) h = taken-carries p bytes q told acts messages came c h
  taken-step p (Some bytes) q told acts messages came (inr r) h = taken-rests p q told acts messages came (brought_in (parties.Server from) (Some bytes) told) r h

-- it takes nothing from anybody else
first-servers : (p : MasterProcess) (command : Command) (q : MasterProcess) (h : Does p command q) → (taken_from parties.Master (first_of p command q h) ≡ []) × (taken_from parties.Clients (first_of p command q h) ≡ [])
first-servers p (commands.Arrive stream clock request) q h = (refl, refl)
first-servers p (commands.Ask query) q h = (refl, refl)
first-servers p (commands.Take parties.Master number piece) q h = (refl, refl)
first-servers p (commands.Take parties.Clients number piece) q h = (refl, refl)
first-servers p (commands.Take (parties.Server from) number piece) q h = (refl, refl)
first-servers p (commands.Detect server) q h = (refl, refl)
first-servers p (commands.Join server) q h = (refl, refl)
first-servers p (commands.More to) q h = (refl, refl)
first-servers p (commands.Gone server) q h = (refl, refl)
first-servers p commands.Save q h = (refl, refl)
first-servers p (commands.Load chunk) q h = (refl, refl)

none-both : (from : Party) (xs ys : List Action) → taken_from from xs ≡ [] → taken_from from ys ≡ [] → taken_from from (xs ++ ys) ≡ []
none-both from xs ys h k = taken-both from xs ys ∙ ap (λ ms. ms ++ taken_from from ys) h ∙ k

abbrev TakesNone : List Action → Type 0
TakesNone acts = (taken_from parties.Master acts ≡ []) × (taken_from parties.Clients acts ≡ [])

carries-servers : (p : MasterProcess) (bytes : List ℕ) (q : MasterProcess) (told : List Response) (acts : List Action) → Carries p bytes q told acts → TakesNone acts
carries-servers p bytes q told acts c =
    let mine = first_of p c.command c.mid c.does in
    let first = first-servers p c.command c.mid c.does in (
      ap (taken_from parties.Master) c.are_acts ∙ none-both parties.Master mine (map action_of c.messages) first.0 (puts-none parties.Master c.messages),
      ap (taken_from parties.Clients) c.are_acts ∙ none-both parties.Clients mine (map action_of c.messages) first.1 (puts-none parties.Clients c.messages),
    )

rests-servers : (p q : MasterProcess) (told : List Response) (acts : List Action) → Rests p q told acts → TakesNone acts
rests-servers p q told acts r = (ap (taken_from parties.Master) r.none, ap (taken_from parties.Clients) r.none)

step-servers : (p : MasterProcess) (frame : Option (List ℕ)) (q : MasterProcess) (told : List Response) (acts : List Action) → Comes p frame q told acts → TakesNone acts
step-servers p None q told acts r = rests-servers p q told acts r
step-servers p (Some bytes) q told acts (inl c) = carries-servers p bytes q told acts c
step-servers p (Some bytes) q told acts (inr r) = rests-servers p q told acts r

-- ---- all frames

-- what was done of each, with all that it left
pub record AllDone (p : MasterProcess) (steps : List (Step MasterProcess)) (q : MasterProcess) : Type 0 where
  pub done : List Done
  pub each : AreDone p steps done
  pub acts : ActsAll (actions_in done) p.core q.core
  pub out : (to : ℕ) (messages : List Message) (pieces : List Numbered) → Left (gone_of p.links to) (put_of p.links to) messages pieces
      → Left (gone_of q.links to) (put_of q.links to) (messages ++ put_to (parties.Server to) (actions_in done)) (pieces ++ pieces_for (parties.Server to) (told_in done))
  pub into : (from : ℕ) (messages : List Message) (came : List Numbered) → Taken (taken_of p.links from) messages came
      → Taken (taken_of q.links from) (messages ++ taken_from (parties.Server from) (actions_in done)) (came ++ brought_from (parties.Server from) steps done)
  pub servers : TakesNone (actions_in done)

none-done : (p q : MasterProcess) → p ≡ q → AllDone p [] q
none-done p q is = subst (λ r. AllDone p [] r) is (record {
  done = [];
  each = tt;
  acts = λ m outbox h. h;
  out = λ to ms ps h. subst (λ xs. Left (gone_of p.links to) (put_of p.links to) xs (ps ++ [])) (sym (append-nil ms)) (subst (λ xs. Left (gone_of p.links to) (put_of p.links to) ms xs) (sym (append-nil ps)) h);
  into = λ from ms ps h. taken-more (taken_of p.links from) ms ps [] h;
  servers = (refl, refl);
})

more-done : (p : MasterProcess) (step : Step MasterProcess) (steps : List (Step MasterProcess)) (q : MasterProcess) → Doing p step.frame step.text step.after → AllDone step.after steps q → AllDone p (step ∷ steps) q
more-done p step steps q one rest = record {
  done = record { told = one.told; actions = one.acts } ∷ rest.done;
  each = (record { as_frames = one.as_frames; acts = one.did }, rest.each);
  acts = acts-both one.acts (actions_in rest.done) (alone p.core) (alone step.after.core) (alone q.core) one.did rest.acts;
  out = λ to ms ps h. out to ms ps (rest.out to (ms ++ put_to (parties.Server to) one.acts) (ps ++ pieces_for (parties.Server to) one.told) (left-step to p step.frame step.after one.told one.acts ms ps one.comes h));
  into = λ from ms ps h. into from ms ps (rest.into from (ms ++ taken_from (parties.Server from) one.acts) (ps ++ brought_in (parties.Server from) step.frame one.told) (taken-step from p step.frame step.after one.told one.acts ms ps one.comes h));
  servers = let here = step-servers p step.frame step.after one.told one.acts one.comes in (
    none-both parties.Master one.acts (actions_in rest.done) here.0 rest.servers.0,
    none-both parties.Clients one.acts (actions_in rest.done) here.1 rest.servers.1,
  );
} where
  out : (to : ℕ) (ms : List Message) (ps : List Numbered)
      → Left (gone_of q.links to) (put_of q.links to) ((ms ++ put_to (parties.Server to) one.acts) ++ put_to (parties.Server to) (actions_in rest.done)) ((ps ++ pieces_for (parties.Server to) one.told) ++ pieces_for (parties.Server to) (told_in rest.done))
      → Left (gone_of q.links to) (put_of q.links to) (ms ++ put_to (parties.Server to) (one.acts ++ actions_in rest.done)) (ps ++ pieces_for (parties.Server to) (one.told ++ told_in rest.done))
  out to ms ps h =
      let party = parties.Server to in
      subst (λ xs. Left (gone_of q.links to) (put_of q.links to) xs (ps ++ pieces_for party (one.told ++ told_in rest.done)))
      (append_assoc ms (put_to party one.acts) (put_to party (actions_in rest.done)) ∙ ap (λ xs. ms ++ xs) (sym (put-both party one.acts (actions_in rest.done))))
      (subst (λ xs. Left (gone_of q.links to) (put_of q.links to) ((ms ++ put_to party one.acts) ++ put_to party (actions_in rest.done)) xs)
      (append_assoc ps (pieces_for party one.told) (pieces_for party (told_in rest.done)) ∙ ap (λ xs. ps ++ xs) (sym (flat_map-append (piece_for party) one.told (told_in rest.done)))) h)

  into : (from : ℕ) (ms : List Message) (ps : List Numbered)
      → Taken (taken_of q.links from) ((ms ++ taken_from (parties.Server from) one.acts) ++ taken_from (parties.Server from) (actions_in rest.done)) ((ps ++ brought_in (parties.Server from) step.frame one.told) ++ brought_from (parties.Server from) steps rest.done)
      → Taken (taken_of q.links from) (ms ++ taken_from (parties.Server from) (one.acts ++ actions_in rest.done)) (ps ++ (brought_in (parties.Server from) step.frame one.told ++ brought_from (parties.Server from) steps rest.done))
  into from ms ps h =
      let party = parties.Server from in
      subst (λ xs. Taken (taken_of q.links from) xs (ps ++ (brought_in party step.frame one.told ++ brought_from party steps rest.done)))
      (append_assoc ms (taken_from party one.acts) (taken_from party (actions_in rest.done)) ∙ ap (λ xs. ms ++ xs) (sym (taken-both party one.acts (actions_in rest.done))))
      (subst (λ xs. Taken (taken_of q.links from) ((ms ++ taken_from party one.acts) ++ taken_from party (actions_in rest.done)) xs) (append_assoc ps (brought_in party step.frame one.told) (brought_from party steps rest.done)) h)

all-done : (p q : MasterProcess) (steps : List (Step MasterProcess)) → IsChain Answers p steps q → AllDone p steps q
all-done p q [] h = none-done p q h
all-done p q (step ∷ steps) h = more-done p step steps q (doing p step.frame step.text step.after h.0) (all-done step.after q steps h.1)

pub master-runs-are-actions : MasterRunsAreActions
master-runs-are-actions size first last steps new chain =
    let all = all-done first last steps chain in
    record {
      done = all.done;
      each = all.each;
      stands = (new.core, λ p. tt);
      acts = all.acts;
      out = λ to. left-told (gone_of last.links to) (put_of last.links to) (put_to (parties.Server to) (actions_in all.done)) (pieces_for (parties.Server to) (told_in all.done))
          (all.out to [] [] (subst (λ n. Left (gone_of first.links to) n [] []) (sym (new.put to)) (left-none (gone_of first.links to))));
      into = λ from. (all.into from [] [] (subst (λ n. Taken n [] []) (sym (new.taken from)) taken-none)).each;
      servers = all.servers;
    }
