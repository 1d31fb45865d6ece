-- Lines that are run as they are read: what was written before a chunk, and what its lines add to that.
use Rattle.std.specs.Io.KnownBytes.{IsAtEnd}
use Rattle.std.proofs.Common.{◌≡◌, ℕ, ◌≤◌, subst, Bool, true, false, cond, List, [], ◌∷◌, ◌++◌, length, Option, None, Some, IfSome, Result, Ok, Err, inl, inr, refl, sym, ap, ◌∙◌, append_assoc, append-nil}
use Rattle.cq_base.specs.Relations.{IsPrefix}
use Rattle.cq_lines.specs.Lines.{ended_part}
use Rattle.cq_lines.specs.Grammars.{Grammar, Parsed, Yields, parse_text}
use Rattle.cq_lines.specs.Faults.{ends_by_memory}
use Rattle.cq_lines.specs.Progress.{Progress, nothing_read, without_values, parse_after, with_earlier, MeetsFault, FeedsChunk, HasRead, AreFirstValues}
use Rattle.cq_lines.specs.declared.fault.ScriptFault.{ScriptFault}
use Rattle.cq_lines.specs.declared.fault.ScriptFault.TheVariants.{BadLine, LineTooLong, TooManyLines, ReadFailed, WriteFailed, NoMemory}
use Rattle.cq_lines.specs.declared.limits.Limits.{Limits}
use Rattle.cq_lines.specs.declared.text.TheConstants.{BYTES_LIMIT}
use Rattle.cq_lines.proofs.Earlier.{first_values, first_before_chunk, fed_values, fed_on, fed_fault, fed_end}
use Rattle.cq_lines.proofs.Chunks.{nothing_is_read}
use Rattle.cq_lines.proofs.Endings.{no_fault_yet}
use Rattle.cq_world.specs.Stands.{StandsFor}
use Rattle.cq_events.specs.Worlds.{World, first_world}
use Rattle.cq_world.specs.declared.sim.Sim.{Sim}
use Rattle.cq_script.specs.declared.script_line.ScriptLine.{ScriptLine}
use Rattle.cq_script.specs.Output.{after_line, events_of, output, text_from, text_of}
use Rattle.cq_script.specs.Laws.{TextIsOfTheRun}
use Rattle.cq_script.specs.Replays.{WritesScript, IsToldOfOneObject}
use Rattle.cq_script.specs.Runs.{WritesPrefix, EndsWriting}
use Rattle.cq_script.specs.within.Played.{after_lines, IsPrefixOfText, IsPrefixOfEnded, FailsAtFault, RunsText, IsPlayed, StopsAtFault, Plays}
use Rattle.cq_script.proofs.RunTold.{text_is_of_the_run}
use Rattle.cq_world.proofs.OfLaws.Headlines.{headline_holds}

-- ---- prefixes

pub prefix-trans : {X : Type 0} → (whole text prefix : List X) → IsPrefix text whole → IsPrefix prefix text → IsPrefix prefix whole
prefix-trans whole text prefix first second =
    (second.0 ++ first.0, first.1 ∙ ap (λ t. t ++ first.0) second.1 ∙ append_assoc prefix second.0 first.0)

pub prefix_of_part : (f : ScriptFault) (text written : List ℕ) → WritesPrefix (Err f) text written → IsPrefix written text
prefix_of_part (BadLine n) text written part = absurd part
prefix_of_part (LineTooLong n) text written part = absurd part
prefix_of_part TooManyLines text written part = absurd part
prefix_of_part ReadFailed text written part = absurd part
prefix_of_part WriteFailed text written part = part
prefix_of_part NoMemory text written part = part

pub prefix_of_all : (text written : List ℕ) → written ≡ text → IsPrefix written text
prefix_of_all text written all = ([], sym all ∙ sym (append-nil written))

-- ---- text in two parts

text_from-split : (w : World) (xs ys : List ScriptLine) → text_from w (xs ++ ys) ≡ text_from w xs ++ text_from (after_lines w xs) ys
unfolding text_from after_lines
text_from-split w [] ys = refl
text_from-split w (x ∷ xs) ys =
    ap (λ text. output w x ++ text) (text_from-split (after_line w x.event) xs ys)
    ∙ sym (append_assoc (output w x) (text_from (after_line w x.event) xs) (text_from (after_lines (after_line w x.event) xs) ys))

pub after_lines-append : (w : World) (xs ys : List ScriptLine) → after_lines w (xs ++ ys) ≡ after_lines (after_lines w xs) ys
unfolding after_lines
after_lines-append w [] ys = refl
after_lines-append w (x ∷ xs) ys = after_lines-append (after_line w x.event) xs ys

text_of-split : (size : ℕ) (xs ys : List ScriptLine) → text_of size (xs ++ ys) ≡ text_of size xs ++ text_from (after_lines (first_world size) xs) ys
unfolding text_of
text_of-split size xs ys = text_from-split (first_world size) xs ys

pub prefix_of_lines : (size : ℕ) (lines more : List ScriptLine) (written : List ℕ) → IsPrefix lines more → IsPrefix written (text_of size lines) → IsPrefix written (text_of size more)
prefix_of_lines size lines more written read part =
    let all = ap (text_of size) read.1 ∙ text_of-split size lines read.0 in
    prefix-trans (text_of size more) (text_of size lines) written (text_from (after_lines (first_world size) lines) read.0, all) part

-- the text of the lines of a chunk comes behind what was written
pub text_of-more : (size : ℕ) (lines new : List ScriptLine) (written output : List ℕ) → written ≡ text_of size lines
    → output ≡ text_from (after_lines (first_world size) lines) new → written ++ output ≡ text_of size (lines ++ new)
text_of-more size lines new written output text more = rw (text, more) (sym (text_of-split size lines new))

pub prefix_of-more : (size : ℕ) (lines new : List ScriptLine) (written output : List ℕ) → written ≡ text_of size lines
    → IsPrefix output (text_from (after_lines (first_world size) lines) new) → IsPrefix (written ++ output) (text_of size (lines ++ new))
prefix_of-more size lines new written output text more = (
  more.0,
  text_of-split size lines new ∙ ap (λ t. t ++ text_from (after_lines (first_world size) lines) new) (sym text)
      ∙ ap (λ t. written ++ t) more.1 ∙ sym (append_assoc written output more.0),
)

pub part_of-more : (size : ℕ) (f : ScriptFault) (lines new : List ScriptLine) (written output : List ℕ) → written ≡ text_of size lines
    → WritesPrefix (Err f) (text_from (after_lines (first_world size) lines) new) output → WritesPrefix (Err f) (text_of size (lines ++ new)) (written ++ output)
part_of-more size (BadLine n) lines new written output text more = absurd more
part_of-more size (LineTooLong n) lines new written output text more = absurd more
part_of-more size TooManyLines lines new written output text more = absurd more
part_of-more size ReadFailed lines new written output text more = absurd more
part_of-more size WriteFailed lines new written output text more = prefix_of-more size lines new written output text more
part_of-more size NoMemory lines new written output text more = prefix_of-more size lines new written output text more

-- a fault of the writing, or want of memory
runs_short : (grammar : Grammar ScriptLine) (limits : Limits) (size : ℕ) (f : ScriptFault) (text input written : List ℕ) (left : Option (List ℕ)) → WritesPrefix (Err f) text written
    → IsPrefixOfText grammar limits size input left written → RunsText grammar limits size (Err f) input left written
runs_short grammar limits size (BadLine n) text input written left part prefix = absurd part
runs_short grammar limits size (LineTooLong n) text input written left part prefix = absurd part
runs_short grammar limits size TooManyLines text input written left part prefix = absurd part
runs_short grammar limits size ReadFailed text input written left part prefix = absurd part
runs_short grammar limits size WriteFailed text input written left part prefix = prefix
runs_short grammar limits size NoMemory text input written left part prefix = prefix

-- ---- what was read

writes_parsed : (size : ℕ) (parsed : Parsed ScriptLine) (lines : List ScriptLine) (fault : Option ScriptFault) (written : List ℕ)
    → parsed ≡ record { values = lines; fault = fault } → written ≡ text_of size lines → WritesScript size parsed fault written
writes_parsed size parsed lines fault written is all = rw is (record { fault_is = refl; text_is = all })

yields_values : (r : Result (Unit {0}) ScriptFault) (lines : List ScriptLine) (parsed : Parsed ScriptLine) → ends_by_memory r ≡ false → Yields r lines parsed → parsed.values ≡ lines
yields_values (Ok _) lines parsed lasts is = ap (λ (x : Parsed ScriptLine). x.values) is
yields_values (Err (BadLine n)) lines parsed lasts is = ap (λ (x : Parsed ScriptLine). x.values) is
yields_values (Err (LineTooLong n)) lines parsed lasts is = ap (λ (x : Parsed ScriptLine). x.values) is
yields_values (Err TooManyLines) lines parsed lasts is = ap (λ (x : Parsed ScriptLine). x.values) is
yields_values (Err ReadFailed) lines parsed lasts is = absurd is
yields_values (Err WriteFailed) lines parsed lasts is = absurd is
yields_values (Err NoMemory) lines parsed lasts is = cc

module _ (grammar : Grammar ScriptLine) (limits : Limits) (size : ℕ) where
  prefix_of_input : (lines : List ScriptLine) (input written : List ℕ) (left : Option (List ℕ)) → AreFirstValues grammar limits lines input → IsPrefix written (text_of size lines)
      → IsPrefixOfText grammar limits size input left written
  prefix_of_input lines input written None first part = tt
  prefix_of_input lines input written (Some more) first part = prefix_of_lines size lines (parse_text grammar limits (input ++ more)).values written (first.prefix more) part

  prefix_of_ended : (lines : List ScriptLine) (input written : List ℕ) → AreFirstValues grammar limits lines input → IsPrefix written (text_of size lines) → IsPrefixOfEnded grammar limits size input written
  prefix_of_ended lines input written first part = prefix_of_lines size lines (parse_text grammar limits (ended_part input)).values written first.ended part

  stops_at_writing : (f : ScriptFault) (lines : List ScriptLine) (input written : List ℕ) → AreFirstValues grammar limits lines input → WritesPrefix (Err f) (text_of size lines) written
      → StopsAtFault grammar limits size f input written
  stops_at_writing f lines input written first part =
      let prefix = prefix_of_part f (text_of size lines) written part in
      record {
        runs = λ left. runs_short grammar limits size f (text_of size lines) input written left part (prefix_of_input lines input written left first prefix);
        prefix = λ left. prefix_of_input lines input written left first prefix;
        ended = prefix_of_ended lines input written first prefix;
      }

  -- ---- one more chunk

  lines_before : (input written : List ℕ) (old : Progress ScriptLine) (sim : Sim) (played : IsPlayed grammar limits size input old sim written) → played.lines ++ old.values ≡ played.lines
  lines_before input written old sim played = ap (λ xs. played.lines ++ xs) played.none_left ∙ append-nil played.lines

  -- memory ran out while the chunk was read, and none of its lines is run
  pub plays_none : (r : Result (Unit {0}) ScriptFault) (input chunk written : List ℕ) (old new : Progress ScriptLine) (sim later : Sim) → ends_by_memory r ≡ true
      → IsPlayed grammar limits size input old sim written → Plays grammar limits size r (input ++ chunk) new later (written ++ [])
  plays_none (Ok _) input chunk written old new sim later out played = cc
  plays_none (Err (BadLine n)) input chunk written old new sim later out played = cc
  plays_none (Err (LineTooLong n)) input chunk written old new sim later out played = cc
  plays_none (Err TooManyLines) input chunk written old new sim later out played = cc
  plays_none (Err ReadFailed) input chunk written old new sim later out played = cc
  plays_none (Err WriteFailed) input chunk written old new sim later out played = cc
  plays_none (Err NoMemory) input chunk written old new sim later out played =
      let first = subst (λ lines. AreFirstValues grammar limits lines (input ++ chunk)) (lines_before input written old sim played) (first_before_chunk grammar limits (with_earlier played.lines old) input chunk played.read) in
      stops_at_writing NoMemory played.lines (input ++ chunk) (written ++ []) first (prefix_of_all _ (written ++ []) (append-nil written ∙ played.text))

  -- the writing ended before all of the chunk was written
  pub plays_prefix : (r : Result (Unit {0}) ScriptFault) (f : ScriptFault) (input chunk written output : List ℕ) (old new : Progress ScriptLine) (sim : Sim) → ends_by_memory r ≡ false
      → FeedsChunk grammar r old chunk new → (played : IsPlayed grammar limits size input old sim written)
      → WritesPrefix (Err f) (text_from (after_lines (first_world size) played.lines) new.values) output → StopsAtFault grammar limits size f (input ++ chunk) (written ++ output)
  plays_prefix r f input chunk written output old new sim lasts feeds played part =
      stops_at_writing f (played.lines ++ new.values) (input ++ chunk) (written ++ output) (fed_values grammar limits played.lines r old new input chunk lasts played.read feeds)
      (part_of-more size f played.lines new.values written output played.text part)

  fails_at_fault : (f : ScriptFault) (old new : Progress ScriptLine) (lines : List ScriptLine) (input chunk written : List ℕ) (left : Option (List ℕ)) → HasRead grammar limits input (with_earlier lines old)
      → MeetsFault grammar f old chunk new → written ≡ text_of size (lines ++ new.values) → FailsAtFault grammar limits size f (input ++ chunk) left written
  fails_at_fault f old new lines input chunk written left read fault text = record {
    here = writes_parsed size _ (lines ++ new.values) (Some f) written (ap (parse_text grammar limits) (sym (append-nil (input ++ chunk))) ∙ always []) text;
    whole = later left;
  } where
    always : (more : List ℕ) → parse_text grammar limits ((input ++ chunk) ++ more) ≡ record { values = lines ++ new.values; fault = Some f }
    always = fed_fault grammar limits lines f old new input chunk read fault

    later : (left : Option (List ℕ)) → IfSome left (λ more. WritesScript size (parse_text grammar limits ((input ++ chunk) ++ more)) (Some f) written)
    later None = tt
    later (Some more) = writes_parsed size _ (lines ++ new.values) (Some f) written (always more) text

  runs_to_fault : (f : ScriptFault) (old new : Progress ScriptLine) (lines : List ScriptLine) (input chunk written : List ℕ) (left : Option (List ℕ)) → ends_by_memory (Err f) ≡ false
      → HasRead grammar limits input (with_earlier lines old) → FeedsChunk grammar (Err f) old chunk new → written ≡ text_of size (lines ++ new.values)
      → RunsText grammar limits size (Err f) (input ++ chunk) left written
  runs_to_fault (BadLine n) old new lines input chunk written left lasts read feeds text = fails_at_fault (BadLine n) old new lines input chunk written left read feeds text
  runs_to_fault (LineTooLong n) old new lines input chunk written left lasts read feeds text = fails_at_fault (LineTooLong n) old new lines input chunk written left read feeds text
  runs_to_fault TooManyLines old new lines input chunk written left lasts read feeds text = inl (fails_at_fault TooManyLines old new lines input chunk written left read feeds text)
  runs_to_fault ReadFailed old new lines input chunk written left lasts read feeds text = absurd feeds
  runs_to_fault WriteFailed old new lines input chunk written left lasts read feeds text = absurd feeds
  runs_to_fault NoMemory old new lines input chunk written left lasts read feeds text = cc

  -- all lines that end in the chunk are run and written
  pub plays_chunk : (r : Result (Unit {0}) ScriptFault) (input chunk written output : List ℕ) (old new : Progress ScriptLine) (sim later : Sim) → ends_by_memory r ≡ false
      → FeedsChunk grammar r old chunk new → (played : IsPlayed grammar limits size input old sim written)
      → output ≡ text_from (after_lines (first_world size) played.lines) new.values
      → StandsFor later (after_lines (after_lines (first_world size) played.lines) new.values)
      → Plays grammar limits size r (input ++ chunk) (without_values new) later (written ++ output)
  plays_chunk (Ok _) input chunk written output old new sim later lasts feeds played all stands = record {
    lines = played.lines ++ new.values;
    none_left = refl;
    read = subst (λ lines. HasRead grammar limits (input ++ chunk) (record { limits = new.limits; values = lines; lines = new.lines; partial = new.partial })) (sym (append-nil (played.lines ++ new.values)))
        (fed_on grammar limits played.lines old new input chunk played.read feeds);
    stands = rw (after_lines-append (first_world size) played.lines new.values) stands;
    text = text_of-more size played.lines new.values written output played.text all;
  }
  plays_chunk (Err f) input chunk written output old new sim later lasts feeds played all stands =
      let text = text_of-more size played.lines new.values written output played.text all in
      let first = fed_values grammar limits played.lines (Err f) old new input chunk lasts played.read feeds in
      let prefix = prefix_of_all (text_of size (played.lines ++ new.values)) (written ++ output) text in
      record {
        runs = λ left. runs_to_fault f old new played.lines input chunk (written ++ output) left lasts played.read feeds text;
        prefix = λ left. prefix_of_input (played.lines ++ new.values) (input ++ chunk) (written ++ output) left first prefix;
        ended = prefix_of_ended (played.lines ++ new.values) (input ++ chunk) (written ++ output) first prefix;
      }

  -- ---- the end

  -- what is claimed at the end
  abbrev pub EndsRun : Result (Unit {0}) ScriptFault → List ℕ → Option (List ℕ) → List ℕ → Type 0
  EndsRun r input left written = RunsText grammar limits size r input left written × IsPrefixOfText grammar limits size input left written

  prefix_at_end : (lines : List ScriptLine) (input written : List ℕ) (left : Option (List ℕ)) → IsAtEnd left → (parse_text grammar limits input).values ≡ lines → IsPrefix written (text_of size lines)
      → IsPrefixOfText grammar limits size input left written
  prefix_at_end lines input written None end is part = tt
  prefix_at_end lines input written (Some more) end is part = rw (end, append-nil input, is) part

  fails_at_last : (f : ScriptFault) (lines : List ScriptLine) (input written : List ℕ) (left : Option (List ℕ)) → IsAtEnd left → parse_text grammar limits input ≡ record { values = lines; fault = Some f }
      → written ≡ text_of size lines → FailsAtFault grammar limits size f input left written
  fails_at_last f lines input written left end is text = record { here = writes_parsed size _ lines (Some f) written is text; whole = later left end } where
    later : (left : Option (List ℕ)) → IsAtEnd left → IfSome left (λ more. WritesScript size (parse_text grammar limits (input ++ more)) (Some f) written)
    later None end = tt
    later (Some more) end = rw (end, append-nil input) (writes_parsed size _ lines (Some f) written is text)

  runs_to_end : (r : Result (Unit {0}) ScriptFault) (lines : List ScriptLine) (input written : List ℕ) (left : Option (List ℕ)) → IsAtEnd left → ends_by_memory r ≡ false
      → Yields r lines (parse_text grammar limits input) → written ≡ text_of size lines → RunsText grammar limits size r input left written
  runs_to_end (Ok _) lines input written left end lasts is text = (end, writes_parsed size _ lines None written is text)
  runs_to_end (Err (BadLine n)) lines input written left end lasts is text = fails_at_last (BadLine n) lines input written left end is text
  runs_to_end (Err (LineTooLong n)) lines input written left end lasts is text = fails_at_last (LineTooLong n) lines input written left end is text
  runs_to_end (Err TooManyLines) lines input written left end lasts is text = inl (fails_at_last TooManyLines lines input written left end is text)
  runs_to_end (Err ReadFailed) lines input written left end lasts is text = absurd is
  runs_to_end (Err WriteFailed) lines input written left end lasts is text = absurd is
  runs_to_end (Err NoMemory) lines input written left end lasts is text = cc

  -- memory ran out while the last line was read
  pub ends_unread : (r : Result (Unit {0}) ScriptFault) (input written : List ℕ) (left : Option (List ℕ)) (old : Progress ScriptLine) (sim : Sim) → ends_by_memory r ≡ true
      → IsPlayed grammar limits size input old sim written → EndsRun r input left (written ++ [])
  ends_unread (Ok _) input written left old sim out played = cc
  ends_unread (Err (BadLine n)) input written left old sim out played = cc
  ends_unread (Err (LineTooLong n)) input written left old sim out played = cc
  ends_unread (Err TooManyLines) input written left old sim out played = cc
  ends_unread (Err ReadFailed) input written left old sim out played = cc
  ends_unread (Err WriteFailed) input written left old sim out played = cc
  ends_unread (Err NoMemory) input written left old sim out played =
      let first = subst (λ lines. AreFirstValues grammar limits lines input) (lines_before input written old sim played) (first_values grammar limits (with_earlier played.lines old) input played.read) in
      let is = prefix_of_input played.lines input (written ++ []) left first (prefix_of_all _ (written ++ []) (append-nil written ∙ played.text)) in
      (is, is)

  -- the writing ended before all of the last line was written
  pub ends_prefix : (r : Result (Unit {0}) ScriptFault) (f : ScriptFault) (input written output : List ℕ) (left : Option (List ℕ)) (old new : Progress ScriptLine) (sim : Sim)
      → IsAtEnd left → ends_by_memory r ≡ false → Yields r new.values (parse_after grammar old []) → (played : IsPlayed grammar limits size input old sim written)
      → WritesPrefix (Err f) (text_from (after_lines (first_world size) played.lines) new.values) output → EndsRun (Err f) input left (written ++ output)
  ends_prefix r f input written output left old new sim end lasts is played part =
      let lines = yields_values r (played.lines ++ new.values) (parse_text grammar limits input) lasts (fed_end grammar limits played.lines r old new input played.read is) in
      let whole = part_of-more size f played.lines new.values written output played.text part in
      let prefix = prefix_at_end (played.lines ++ new.values) input (written ++ output) left end lines (prefix_of_part f _ (written ++ output) whole) in
      (runs_short grammar limits size f (text_of size (played.lines ++ new.values)) input (written ++ output) left whole prefix, prefix)

  -- all was run and written
  pub ends_whole : (r : Result (Unit {0}) ScriptFault) (input written output : List ℕ) (left : Option (List ℕ)) (old new : Progress ScriptLine) (sim : Sim)
      → IsAtEnd left → ends_by_memory r ≡ false → Yields r new.values (parse_after grammar old []) → (played : IsPlayed grammar limits size input old sim written)
      → output ≡ text_from (after_lines (first_world size) played.lines) new.values → EndsRun r input left (written ++ output)
  ends_whole r input written output left old new sim end lasts is played all =
      let yields = fed_end grammar limits played.lines r old new input played.read is in
      let lines = yields_values r (played.lines ++ new.values) (parse_text grammar limits input) lasts yields in
      let text = text_of-more size played.lines new.values written output played.text all in (
        runs_to_end r (played.lines ++ new.values) input (written ++ output) left end lasts yields text,
        prefix_at_end (played.lines ++ new.values) input (written ++ output) left end lines (prefix_of_all _ (written ++ output) text),
      )

  -- ---- a read that failed

  -- where a read failed, or memory ran out, all lines that have ended are written
  pub ends_at_read : (failed : Bool) (f : ScriptFault) (input written : List ℕ) (left : Option (List ℕ)) (progress : Progress ScriptLine) (sim : Sim) → f ≡ cond failed ReadFailed NoMemory
      → IsPlayed grammar limits size input progress sim written
      → RunsText grammar limits size (Err f) input left written × IsPrefixOfText grammar limits size input left written × IsPrefixOfEnded grammar limits size input written
  ends_at_read failed f input written left progress sim is played = go failed is where
    first : AreFirstValues grammar limits played.lines input
    first = subst (λ lines. AreFirstValues grammar limits lines input) (lines_before input written progress sim played) (first_values grammar limits (with_earlier played.lines progress) input played.read)

    prefix : IsPrefixOfText grammar limits size input left written
    prefix = prefix_of_input played.lines input written left first (prefix_of_all _ written played.text)

    ended : IsPrefixOfEnded grammar limits size input written
    ended = prefix_of_ended played.lines input written first (prefix_of_all _ written played.text)

    whole : WritesScript size (parse_text grammar limits (ended_part input)) None written
    whole = writes_parsed size _ played.lines None written (played.read.ended ∙ ap (λ lines. record { values = lines; fault = None }) (lines_before input written progress sim played)) played.text

    go : (t : Bool) → f ≡ cond t ReadFailed NoMemory
        → RunsText grammar limits size (Err f) input left written × IsPrefixOfText grammar limits size input left written × IsPrefixOfEnded grammar limits size input written
    go true so = rw so ((whole, (no_fault_yet grammar limits (with_earlier played.lines progress) input played.read).goes_on), prefix, ended)
    go false so = rw so (prefix, prefix, ended)

  -- the bytes can't be counted any more
  pub ends_uncounted : (input written : List ℕ) (left : Option (List ℕ)) (progress : Progress ScriptLine) (sim : Sim) → BYTES_LIMIT ≤ length input → IsPlayed grammar limits size input progress sim written
      → RunsText grammar limits size (Err TooManyLines) input left written × IsPrefixOfText grammar limits size input left written × IsPrefixOfEnded grammar limits size input written
  ends_uncounted input written left progress sim many played =
      let first = subst (λ lines. AreFirstValues grammar limits lines input) (lines_before input written progress sim played) (first_values grammar limits (with_earlier played.lines progress) input played.read) in
      let prefix = prefix_of_input played.lines input written left first (prefix_of_all _ written played.text) in
      let yet = no_fault_yet grammar limits (with_earlier played.lines progress) input played.read in
      (inr (record { yet = yet; prefix = prefix; many = many }), prefix, prefix_of_ended played.lines input written first (prefix_of_all _ written played.text))

  -- ---- the start

  pub nothing_played : (sim : Sim) → StandsFor sim (first_world size) → IsPlayed grammar limits size [] (nothing_read limits) sim []
  unfolding after_lines text_of text_from
  nothing_played sim stands = record { lines = []; none_left = refl; read = nothing_is_read grammar limits; stands = stands; text = refl }

  pub nothing_run : (left : Option (List ℕ)) → RunsText grammar limits size (Err NoMemory) [] left [] × IsPrefixOfText grammar limits size [] left [] × IsPrefixOfEnded grammar limits size [] []
  nothing_run None = (tt, tt, (_, refl))
  nothing_run (Some more) = ((_, refl), (_, refl), (_, refl))

  -- ---- behind what was run before

  pub nothing_behind : (before written : List ℕ) (progress : Progress ScriptLine) (sim : Sim) → IsPlayed grammar limits size before progress sim written → IsPlayed grammar limits size (before ++ []) progress sim (written ++ [])
  nothing_behind before written progress sim played =
      subst (λ input. IsPlayed grammar limits size input progress sim (written ++ [])) (sym (append-nil before)) (subst (λ output. IsPlayed grammar limits size before progress sim output) (sym (append-nil written)) played)

  pub played_behind : (before input chunk written output more : List ℕ) (progress : Progress ScriptLine) (sim : Sim) → IsPlayed grammar limits size ((before ++ input) ++ chunk) progress sim ((written ++ output) ++ more)
      → IsPlayed grammar limits size (before ++ (input ++ chunk)) progress sim (written ++ (output ++ more))
  played_behind before input chunk written output more progress sim played =
      subst (λ bytes. IsPlayed grammar limits size bytes progress sim (written ++ (output ++ more))) (append_assoc before input chunk)
      (subst (λ text. IsPlayed grammar limits size ((before ++ input) ++ chunk) progress sim text) (append_assoc written output more) played)

  -- what was written comes behind what was written before
  pub runs_behind : (r : Result (Unit {0}) ScriptFault) (input written output more : List ℕ) (left : Option (List ℕ)) → RunsText grammar limits size r input left ((written ++ output) ++ more)
      → IsPrefixOfText grammar limits size input left ((written ++ output) ++ more) → EndsRun r input left (written ++ (output ++ more))
  runs_behind r input written output more left runs prefix = subst (λ text. EndsRun r input left text) (append_assoc written output more) (runs, prefix)

  pub ends_behind : (f : ScriptFault) (before input chunk written output more : List ℕ) (left : Option (List ℕ)) → StopsAtFault grammar limits size f ((before ++ input) ++ chunk) ((written ++ output) ++ more)
      → RunsText grammar limits size (Err f) (before ++ (input ++ chunk)) left (written ++ (output ++ more)) × IsPrefixOfText grammar limits size (before ++ (input ++ chunk)) left (written ++ (output ++ more))
      × IsPrefixOfEnded grammar limits size (before ++ (input ++ chunk)) (written ++ (output ++ more))
  ends_behind f before input chunk written output more left stops =
      let all = subst (λ bytes. StopsAtFault grammar limits size f bytes (written ++ (output ++ more))) (append_assoc before input chunk)
      (subst (λ text. StopsAtFault grammar limits size f ((before ++ input) ++ chunk) text) (append_assoc written output more) stops) in
      (all.runs left, all.prefix left, all.ended)

  -- the text of the lines that have ended is what was written
  pub ended_text : (input written : List ℕ) (progress : Progress ScriptLine) (sim : Sim) → IsPlayed grammar limits size input progress sim written → WritesScript size (parse_text grammar limits (ended_part input)) None written
  ended_text input written progress sim played =
      writes_parsed size _ played.lines None written (played.read.ended ∙ ap (λ lines. record { values = lines; fault = None }) (lines_before input written progress sim played)) played.text

  -- ---- what is claimed of all

  -- the flush failed
  pub runs_unflushed : (f : ScriptFault) (failed : Bool) (input : List ℕ) (left : Option (List ℕ)) (written : List ℕ) → EndsWriting (Err f) failed
      → IsPrefixOfText grammar limits size input left written → RunsText grammar limits size (Err f) input left written
  runs_unflushed (BadLine n) failed input left written ends prefix = absurd ends
  runs_unflushed (LineTooLong n) failed input left written ends prefix = absurd ends
  runs_unflushed TooManyLines failed input left written ends prefix = absurd ends
  runs_unflushed ReadFailed failed input left written ends prefix = absurd ends
  runs_unflushed WriteFailed failed input left written ends prefix = prefix
  runs_unflushed NoMemory failed input left written ends prefix = prefix

pub failed_read : (failed : Bool) (f : ScriptFault) → f ≡ cond failed ReadFailed NoMemory → f ≡ ReadFailed → failed ≡ true
failed_read true f is so = refl
failed_read false f is so = let never = sym is ∙ so in cc

pub no_failed_write : (failed : Bool) (f : ScriptFault) → f ≡ cond failed ReadFailed NoMemory → ¬ (f ≡ WriteFailed)
no_failed_write true f is = λ so. let never = sym is ∙ so in cc
no_failed_write false f is = λ so. let never = sym is ∙ so in cc

-- the text of any lines is told of a run of which the headline holds
pub lines_of_one_object : (size : ℕ) (lines : List ScriptLine) (written : List ℕ) → 1 ≤ size → IsPrefix written (text_of size lines) → IsToldOfOneObject size lines written
unfolding TextIsOfTheRun
lines_of_one_object size lines written some part = record {
  text = subst (λ text. IsPrefix written text) (text_is_of_the_run size lines) part;
  headline = headline_holds size (events_of lines) some;
}
