-- Chunks: each is read line by line, and what was read of all of them is a text.
use Rattle.std.proofs.Common.{◌≡◌, ℕ, ◌+◌, ◌||◌, Bool, true, false, List, [], ◌∷◌, ◌++◌, Option, None, Some, Result, Ok, Err, nat_eq, nat_le, refl, sym, ap, ◌∙◌, append_assoc, append-nil}
use Rattle.std.proofs.lemmas.List.Folds.{list_any-append}
use Rattle.cq_lines.specs.Lines.{lines_of, has_line_feed, ended_part}
use Rattle.cq_lines.specs.Grammars.{Grammar, Parsed, IsOpen, parse_line, parse_from, parse_text}
use Rattle.cq_lines.specs.Progress.{Progress, nothing_read, parse_after, Continues, ReadsOn, MeetsFault, FeedsChunk, HasRead}
use Rattle.cq_lines.specs.within.Steps.{goes, stops, line_completed, part_of, line_end, Follows}
use Rattle.cq_lines.specs.declared.fault.ScriptFault.{ScriptFault}
use Rattle.cq_lines.specs.declared.fault.ScriptFault.TheVariants.{BadLine, LineTooLong, TooManyLines, ReadFailed, WriteFailed, NoMemory}
use Rattle.cq_lines.specs.declared.limits.Limits.{Limits}
use Rattle.cq_lines.proofs.Continuing.{Continues-trans, Continues-append, continues_by_line, continues_by_part, stops_at_line, stops_at_part, end_between_lines, open_part, values_part, fault_values_part}

-- ---- the bytes through the last line feed

pub has_line_feed-append : (xs ys : List ℕ) → has_line_feed (xs ++ ys) ≡ (has_line_feed xs || has_line_feed ys)
has_line_feed-append xs ys = list_any-append (λ b. nat_eq b 10) xs ys

pub or-right : (a b : Bool) → b ≡ true → (a || b) ≡ true
or-right true b is = refl
or-right false b is = is

pub or-left : (a b : Bool) → b ≡ false → (a || b) ≡ a
or-left true b is = refl
or-left false b is = is

pub ended_part-more : (b : ℕ) (bs : List ℕ) → has_line_feed (b ∷ bs) ≡ true → ended_part (b ∷ bs) ≡ b ∷ ended_part bs
unfolding ended_part
ended_part-more b bs some = rw some refl

pub ended_part-over : (b : ℕ) (bs : List ℕ) → has_line_feed (b ∷ bs) ≡ false → ended_part (b ∷ bs) ≡ []
unfolding ended_part
ended_part-over b bs none = rw none refl

-- where a line ends in `ys`, all of `xs` has ended
pub ended_part-behind : (xs ys : List ℕ) → has_line_feed ys ≡ true → ended_part (xs ++ ys) ≡ xs ++ ended_part ys
ended_part-behind [] ys some = refl
ended_part-behind (x ∷ xs) ys some =
    ended_part-more x (xs ++ ys) (has_line_feed-append (x ∷ xs) ys ∙ or-right (has_line_feed (x ∷ xs)) (has_line_feed ys) some)
    ∙ ap (λ bytes. x ∷ bytes) (ended_part-behind xs ys some)

ended_part-none : (bytes : List ℕ) → has_line_feed bytes ≡ false → ended_part bytes ≡ []
unfolding ended_part
ended_part-none [] none = refl
ended_part-none (b ∷ bs) none = ended_part-over b bs none

ended_part-before_cases : (x : ℕ) (xs ys : List ℕ) (some : Bool) → has_line_feed (x ∷ xs) ≡ some → has_line_feed ys ≡ false
    → ended_part (xs ++ ys) ≡ ended_part xs → ended_part (x ∷ (xs ++ ys)) ≡ ended_part (x ∷ xs)
ended_part-before_cases x xs ys true some none go =
    ended_part-more x (xs ++ ys) (has_line_feed-append (x ∷ xs) ys ∙ or-left (has_line_feed (x ∷ xs)) (has_line_feed ys) none ∙ some)
    ∙ ap (λ bytes. x ∷ bytes) go ∙ sym (ended_part-more x xs some)
ended_part-before_cases x xs ys false some none go =
    ended_part-over x (xs ++ ys) (has_line_feed-append (x ∷ xs) ys ∙ or-left (has_line_feed (x ∷ xs)) (has_line_feed ys) none ∙ some)
    ∙ sym (ended_part-over x xs some)

-- where none does, `ys` has no part in it
pub ended_part-before : (xs ys : List ℕ) → has_line_feed ys ≡ false → ended_part (xs ++ ys) ≡ ended_part xs
unfolding ended_part
ended_part-before [] ys none = ended_part-none ys none
ended_part-before (x ∷ xs) ys none = ended_part-before_cases x xs ys _ refl none (ended_part-before xs ys none)

pub ended_part-line_feed : (xs : List ℕ) → ended_part (xs ++ 10 ∷ []) ≡ xs ++ 10 ∷ []
unfolding ended_part
ended_part-line_feed xs = ended_part-behind xs (10 ∷ []) refl

pub ended_part-lines : (xs line later : List ℕ) → ended_part ((xs ++ (line ++ 10 ∷ [])) ++ later) ≡ (xs ++ (line ++ 10 ∷ [])) ++ ended_part later
ended_part-lines xs line later =
    ap ended_part (ap (λ bytes. bytes ++ later) (sym (append_assoc xs line (10 ∷ []))) ∙ append_assoc (xs ++ line) (10 ∷ []) later)
    ∙ ended_part-behind (xs ++ line) (10 ∷ later) refl ∙ ap (λ bytes. (xs ++ line) ++ bytes) (ended_part-more 10 later refl)
    ∙ sym (append_assoc (xs ++ line) (10 ∷ []) (ended_part later)) ∙ ap (λ bytes. bytes ++ ended_part later) (append_assoc xs line (10 ∷ []))

-- ---- one chunk

module _ {T : Type 0} (grammar : Grammar T) where
  -- `done` of the chunk has been read from `a` to `s`, line by line, and `left` is the rest.
  pub record StandsAt (a : Progress T) (chunk : List ℕ) (s : Progress T) (left : List ℕ) : Type 0 where
    pub done : List ℕ
    pub is : chunk ≡ done ++ left
    pub continues : Continues grammar a done s []
    pub whole : ended_part done ≡ done
    pub between : has_line_feed done ≡ true → s.partial ≡ []
    pub start : has_line_feed done ≡ false → s ≡ a

  pub stands_at_start : (a : Progress T) (chunk : List ℕ) → StandsAt a chunk a chunk
  unfolding ended_part
  stands_at_start a chunk = record { done = []; is = refl; continues = λ more. refl; whole = refl; between = λ some. cc; start = λ none. refl }

  stands_at-continues : (a s : Progress T) (chunk left : List ℕ) → StandsAt a chunk s left → Continues grammar a chunk s left
  stands_at-continues a s chunk left at = λ more. ap (λ bytes. parse_after grammar a (bytes ++ more)) at.is ∙ ap (parse_after grammar a) (append_assoc at.done left more) ∙ at.continues (left ++ more)

  continues_by : (a s : Progress T) (done left : List ℕ) → Continues grammar a done s [] → Continues grammar a (done ++ left) s left
  continues_by a s done left continues = λ more. ap (parse_after grammar a) (append_assoc done left more) ∙ continues (left ++ more)

  between-completed : (s t : Progress T) (outcome : Result (Option T) ScriptFault) → line_completed s outcome ≡ goes t → t.partial ≡ []
  between-completed s t (Err f) is = cc
  between-completed s t (Ok value) is = cc

  between-cases : (s t : Progress T) (part : List ℕ) (many : Bool) → nat_le s.limits.line_count s.lines ≡ many → line_end grammar s part ≡ goes t → t.partial ≡ []
  unfolding line_end
  between-cases s t part true is_many is =
      let never = rw is_many at is in
      cc
  between-cases s t part false is_many is = between-completed s t (parse_line grammar s.limits.line_len (s.lines + 1) (s.partial ++ part)) (rw is_many at is)

  line_feed_behind : (xs line : List ℕ) → has_line_feed (xs ++ (line ++ 10 ∷ [])) ≡ true
  line_feed_behind xs line =
      has_line_feed-append xs (line ++ 10 ∷ [])
      ∙ or-right (has_line_feed xs) (has_line_feed (line ++ 10 ∷ [])) (has_line_feed-append line (10 ∷ []) ∙ or-right (has_line_feed line) true refl)

  -- behind one line more
  pub stands_behind_line : (a s new : Progress T) (chunk rest line later : List ℕ) → StandsAt a chunk s rest → rest ≡ line ++ 10 ∷ later → has_line_feed line ≡ false
      → line_end grammar s line ≡ goes new → StandsAt a chunk new later
  stands_behind_line a s new chunk rest line later at is none goes_on = record {
    done = at.done ++ (line ++ 10 ∷ []);
    is = at.is ∙ ap (λ bytes. at.done ++ bytes) (is ∙ sym (append_assoc line (10 ∷ []) later)) ∙ sym (append_assoc at.done (line ++ 10 ∷ []) later);
    continues = Continues-append grammar a s new at.done (line ++ 10 ∷ []) at.continues (continues_by_line grammar s new line [] none goes_on);
    whole = ap ended_part (sym (append_assoc at.done line (10 ∷ []))) ∙ ended_part-line_feed (at.done ++ line) ∙ append_assoc at.done line (10 ∷ []);
    between = λ some. between-cases s new line _ refl goes_on;
    start = λ never. let feed = line_feed_behind at.done line in cc;
  }

  -- at a fault the values are those of the lines of the chunk that have ended
  ended_before_fault : (f : ScriptFault) (a s new : Progress T) (chunk line later : List ℕ) (at : StandsAt a chunk s (line ++ 10 ∷ later)) → has_line_feed line ≡ false
      → ((more : List ℕ) → parse_after grammar a ((at.done ++ (line ++ 10 ∷ [])) ++ more) ≡ record { values = new.values; fault = Some f })
      → (parse_after grammar a (ended_part chunk)).values ≡ new.values
  ended_before_fault f a s new chunk line later at none stop =
      let whole : chunk ≡ (at.done ++ (line ++ 10 ∷ [])) ++ later =
      at.is ∙ ap (λ bytes. at.done ++ bytes) (sym (append_assoc line (10 ∷ []) later)) ∙ sym (append_assoc at.done (line ++ 10 ∷ []) later) in
      let split = ended_part-lines at.done line later in
      ap (λ (x : Parsed T). x.values) (ap (λ bytes. parse_after grammar a (ended_part bytes)) whole ∙ ap (parse_after grammar a) split ∙ stop (ended_part later))

  meets_line_fault : (f : ScriptFault) (a s new : Progress T) (chunk line later : List ℕ) → StandsAt a chunk s (line ++ 10 ∷ later) → has_line_feed line ≡ false → has_line_feed chunk ≡ true
      → ((xs left : List ℕ) → Continues grammar a xs s (line ++ 10 ∷ left) → (more : List ℕ) → parse_after grammar a (xs ++ more) ≡ record { values = new.values; fault = Some f })
      → MeetsFault grammar f a chunk new
  meets_line_fault f a s new chunk line later at none some stop = record {
    here = stop chunk later (stands_at-continues a s chunk (line ++ 10 ∷ later) at);
    ended = λ some. ended_before_fault f a s new chunk line later at none (stop (at.done ++ (line ++ 10 ∷ [])) [] (continues_by a s at.done (line ++ 10 ∷ []) at.continues));
    unended = λ never. cc;
  }

  line_feed_within : (a s : Progress T) (chunk line later : List ℕ) → StandsAt a chunk s (line ++ 10 ∷ later) → has_line_feed chunk ≡ true
  line_feed_within a s chunk line later at =
      ap has_line_feed at.is ∙ has_line_feed-append at.done (line ++ 10 ∷ later)
      ∙ or-right (has_line_feed at.done) (has_line_feed (line ++ 10 ∷ later)) (has_line_feed-append line (10 ∷ later) ∙ or-right (has_line_feed line) true refl)

  pub feeds_line_fault : (f : ScriptFault) (a s new : Progress T) (chunk rest line later : List ℕ) → StandsAt a chunk s rest → rest ≡ line ++ 10 ∷ later
      → has_line_feed line ≡ false → Follows (Err f) new (line_end grammar s line) → FeedsChunk grammar (Err f) a chunk new
  feeds_line_fault (BadLine n) a s new chunk rest line later at is none fault =
      let here = rw is at at in
      meets_line_fault (BadLine n) a s new chunk line later here none (line_feed_within a s chunk line later here) (λ xs left continues. stops_at_line grammar (BadLine n) a s new xs line left continues none fault)
  feeds_line_fault (LineTooLong n) a s new chunk rest line later at is none fault =
      let here = rw is at at in
      meets_line_fault (LineTooLong n) a s new chunk line later here none (line_feed_within a s chunk line later here) (λ xs left continues. stops_at_line grammar (LineTooLong n) a s new xs line left continues none fault)
  feeds_line_fault TooManyLines a s new chunk rest line later at is none fault =
      let here = rw is at at in
      meets_line_fault TooManyLines a s new chunk line later here none (line_feed_within a s chunk line later here) (λ xs left continues. stops_at_line grammar TooManyLines a s new xs line left continues none fault)
  feeds_line_fault ReadFailed a s new chunk rest line later at is none fault = absurd fault
  feeds_line_fault WriteFailed a s new chunk rest line later at is none fault = absurd fault
  feeds_line_fault NoMemory a s new chunk rest line later at is none fault = tt

  line_feed_before : (a s : Progress T) (chunk left : List ℕ) (at : StandsAt a chunk s left) → has_line_feed left ≡ false → has_line_feed at.done ≡ has_line_feed chunk
  line_feed_before a s chunk left at none = sym (or-left (has_line_feed at.done) (has_line_feed left) none) ∙ sym (has_line_feed-append at.done left) ∙ ap has_line_feed (sym at.is)

  -- so they are where the rest has no line feed
  ended_at_part : (a s : Progress T) (chunk left : List ℕ) → StandsAt a chunk s left → has_line_feed left ≡ false → has_line_feed chunk ≡ true
      → parse_after grammar a (ended_part chunk) ≡ record { values = s.values; fault = None }
  ended_at_part a s chunk left at none some =
      let before : has_line_feed at.done ≡ true = line_feed_before a s chunk left at none ∙ some in
      let bytes : ended_part chunk ≡ at.done ++ [] = ap ended_part at.is ∙ ended_part-before at.done left none ∙ at.whole ∙ sym (append-nil at.done) in
      ap (parse_after grammar a) bytes ∙ at.continues [] ∙ end_between_lines grammar s (at.between before)

  open_at_part : (a s : Progress T) (done : List ℕ) (some : Bool) → has_line_feed done ≡ some → (has_line_feed done ≡ true → s.partial ≡ []) → (has_line_feed done ≡ false → s ≡ a)
      → IsOpen (parse_after grammar a []).fault → IsOpen (parse_after grammar s []).fault
  open_at_part a s done true is between start yet = rw (end_between_lines grammar s (between is)) tt
  open_at_part a s done false is between start yet = rw (start is) yet

  meets_part_fault : (f : ScriptFault) (a s new : Progress T) (chunk part : List ℕ) → StandsAt a chunk s part → has_line_feed part ≡ false
      → part_of grammar s part ≡ stops (record { values = new.values; fault = Some f })
      → ((more : List ℕ) → parse_after grammar a (chunk ++ more) ≡ record { values = new.values; fault = Some f }) → MeetsFault grammar f a chunk new
  meets_part_fault f a s new chunk part at none is stop = record {
    here = stop;
    ended = λ some. ap (λ (x : Parsed T). x.values) (ended_at_part a s chunk part at none some) ∙ sym (fault_values_part grammar s new f part is);
    unended = λ no. fault_values_part grammar s new f part is ∙ ap (λ (t : Progress T). t.values) (at.start (line_feed_before a s chunk part at none ∙ no));
  }

  -- that rest
  pub feeds_part : (r : Result (Unit {0}) ScriptFault) (a s new : Progress T) (chunk part : List ℕ) → StandsAt a chunk s part → has_line_feed part ≡ false
      → Follows r new (part_of grammar s part) → FeedsChunk grammar r a chunk new
  feeds_part (Err (BadLine n)) a s new chunk part at none is =
      meets_part_fault (BadLine n) a s new chunk part at none is (stops_at_part grammar (BadLine n) a s new chunk part (stands_at-continues a s chunk part at) none is)
  feeds_part (Err (LineTooLong n)) a s new chunk part at none is =
      meets_part_fault (LineTooLong n) a s new chunk part at none is (stops_at_part grammar (LineTooLong n) a s new chunk part (stands_at-continues a s chunk part at) none is)
  feeds_part (Err TooManyLines) a s new chunk part at none is =
      meets_part_fault TooManyLines a s new chunk part at none is (stops_at_part grammar TooManyLines a s new chunk part (stands_at-continues a s chunk part at) none is)
  feeds_part (Err ReadFailed) a s new chunk part at none is = absurd is
  feeds_part (Err WriteFailed) a s new chunk part at none is = absurd is
  feeds_part (Err NoMemory) a s new chunk part at none is = tt
  feeds_part (Ok _) a s new chunk part at none is = record {
    continues = Continues-trans grammar a s new chunk part [] (stands_at-continues a s chunk part at) (continues_by_part grammar s new part none is);
    ended = λ some. ended_at_part a s chunk part at none some ∙ ap (λ values. record { values = values; fault = None }) (sym (values_part grammar s new part is));
    unended = λ no. values_part grammar s new part is ∙ ap (λ (t : Progress T). t.values) (at.start (line_feed_before a s chunk part at none ∙ no));
    stays_open = λ yet. open_part grammar s new part is (open_at_part a s at.done _ refl at.between at.start yet);
  }

-- ---- all chunks

module _ {T : Type 0} (grammar : Grammar T) (limits : Limits) where
  pub parse_after-start : (bytes : List ℕ) → parse_after grammar (nothing_read limits) bytes ≡ parse_text grammar limits bytes
  unfolding parse_after parse_text
  parse_after-start bytes = refl

  -- before the first one
  pub nothing_is_read : HasRead grammar limits [] (nothing_read limits)
  unfolding parse_after parse_text parse_from ended_part lines_of
  nothing_is_read = record { continues = λ more. refl; ended = refl; stays_open = tt }

  ended_with_chunk : (s new : Progress T) (input chunk : List ℕ) (some : Bool) → has_line_feed chunk ≡ some → HasRead grammar limits input s → ReadsOn grammar s chunk new
      → parse_text grammar limits (ended_part (input ++ chunk)) ≡ record { values = new.values; fault = None }
  ended_with_chunk s new input chunk false none read more =
      ap (parse_text grammar limits) (ended_part-before input chunk none) ∙ read.ended ∙ ap (λ values. record { values = values; fault = None }) (sym (more.unended none))
  ended_with_chunk s new input chunk true some read more =
      ap (parse_text grammar limits) (ended_part-behind input chunk some) ∙ sym (parse_after-start (input ++ ended_part chunk)) ∙ read.continues (ended_part chunk) ∙ more.ended some

  -- behind one chunk more
  pub chunk_is_read : (s new : Progress T) (input chunk : List ℕ) → HasRead grammar limits input s → ReadsOn grammar s chunk new → HasRead grammar limits (input ++ chunk) new
  chunk_is_read s new input chunk read more = record {
    continues = Continues-append grammar (nothing_read limits) s new input chunk read.continues more.continues;
    ended = ended_with_chunk s new input chunk _ refl read more;
    stays_open = more.stays_open read.stays_open;
  }
