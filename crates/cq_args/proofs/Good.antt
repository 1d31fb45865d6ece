-- Good arguments are taken, and what is found in them is what they ask for.
use Rattle.std.proofs.Common.{ℕ, zero, suc, ◌+◌, ◌-◌, ◌<◌, ◌≤◌, ◌&&◌, ◌^◌, Bool, true, false, cond, nat_le, List, [], ◌∷◌, Option, Some, None, length, refl, codes, ap, sym, subst, ◌≡◌, ◌≢◌, ◌∙◌, get_or, arith}
use Rattle.std.specs.Prelude.{option_map}
use Rattle.std.specs.Str.{all_ascii_digits, bytes_eq}
use Rattle.std.specs.Str.Parse.{digits_value, without_leading_plus}
use Rattle.std.proofs.lemmas.Bool.{leb-true, ne_eqb}
use Rattle.std.proofs.lemmas.Slice.Eq.{bytes_eq-Decides}
use Rattle.std.proofs.lemmas.Str.Parse.{IsNumeralModel, not_in_digits, numerals_by_value, tells_all_ascii_digits, without_leading_plus_none}
use Rattle.clap.specs.Values.{IsUnsignedIn}
use Rattle.clap.specs.Words.{Row, Text, subcommand_of, takes}
use Rattle.clap.specs.declared.builder.value_parser.ValueParser.TheVariants.{Unsigned}
use Rattle.clap.proofs.OnLiterals.{clap_on_literals}
use Rattle.clap.proofs.ValueTestLemmas.{Accepts-accepts, accepts-Accepts}
use Rattle.cq_args.proofs.Asked.{some_same}
use Rattle.cq_args.proofs.Live.{IsRead, IsValue, is_value, reads_both, reads_both_turned, reads_none, reads_servers, reads_turns}
use Rattle.cq_args.specs.declared.invocation.Invocation.{Invocation}
use Rattle.cq_args.specs.declared.invocation.Invocation.TheVariants.{Live, Replay, Session}
use Rattle.cq_args.specs.CommandLine.{LacksJournalIn, ReadsTurns, asked_invocation, asked_live, asked_servers, digit_of, live_of, most_turns, name_in, name_of, program_app, servers_rule, size_of, text_in, turns_of, turns_rule, turns_text}

-- the arguments are taken, and the parse finds the command, the digit and the turns of the invocation
pub record IsGood (args : List Text) (invocation : Invocation) : Type 0 where
  pub taken : takes program_app args ≡ true
  pub name : name_in (subcommand_of program_app args) ≡ name_of invocation
  pub text : text_in (subcommand_of program_app args) ≡ Some ((48 + size_of invocation) ∷ [])
  pub low : 1 ≤ size_of invocation
  pub high : size_of invocation ≤ 8
  pub turns : ReadsTurns (turns_text (subcommand_of program_app args)) invocation
  pub lacks : LacksJournalIn (subcommand_of program_app args) invocation

-- ---- numbers

digit_within : (byte : ℕ) (low high : Bool) → nat_le 49 byte ≡ low → nat_le byte 56 ≡ high → (servers : ℕ)
    → cond (low && high) (Some (byte - 48)) None ≡ Some servers → (byte ≡ 48 + servers) × (1 ≤ servers) × (servers ≤ 8)
digit_within byte true true is_low is_high servers asked =
    let low = leb-true 49 byte is_low in
    let high = leb-true byte 56 is_high in
    let same : byte - 48 ≡ servers = some_same asked in
    (omega arith, omega arith, omega arith)
digit_within byte true false is_low is_high servers asked = cc
digit_within byte false high is_low is_high servers asked = cc

is_digit : (number : Text) (servers : ℕ) → digit_of number ≡ Some servers → (number ≡ (48 + servers) ∷ []) × (1 ≤ servers) × (servers ≤ 8)
is_digit [] servers asked = cc
is_digit (byte ∷ []) servers asked =
    let found = digit_within byte _ _ refl refl servers asked in
    (ap (λ b. b ∷ []) found.0, found.1, found.2)
is_digit (byte ∷ other ∷ rest) servers asked = cc

-- that digit is a value of `--servers`
digit_value_of : (servers : ℕ) → 1 ≤ servers → servers ≤ 8 → IsValue (servers_rule (codes "3")) ((48 + servers) ∷ [])
digit_value_of zero low high = absurd (omega arith)
digit_value_of (suc zero) low high = is_value _ _ refl refl
digit_value_of (suc (suc zero)) low high = is_value _ _ refl refl
digit_value_of (suc (suc (suc zero))) low high = is_value _ _ refl refl
digit_value_of (suc (suc (suc (suc zero)))) low high = is_value _ _ refl refl
digit_value_of (suc (suc (suc (suc (suc zero))))) low high = is_value _ _ refl refl
digit_value_of (suc (suc (suc (suc (suc (suc zero)))))) low high = is_value _ _ refl refl
digit_value_of (suc (suc (suc (suc (suc (suc (suc zero))))))) low high = is_value _ _ refl refl
digit_value_of (suc (suc (suc (suc (suc (suc (suc (suc zero)))))))) low high = is_value _ _ refl refl
digit_value_of (suc (suc (suc (suc (suc (suc (suc (suc (suc n))))))))) low high = absurd (omega arith)

-- the text is a value of `--turns`, which is read as that number
record IsTurns (text : Text) (turns : ℕ) : Type 0 where
  is : IsValue turns_rule text
  reads : turns ≡ digits_value 10 (without_leading_plus text)

digits : IsNumeralModel (λ ds. all_ascii_digits ds ≡ true) (digits_value 10)
digits = numerals_by_value (λ ds. all_ascii_digits ds ≡ true) tells_all_ascii_digits

some_digit : (text : Text) → 1 ≤ digits_value 10 text → 0 < length text
some_digit [] low = absurd (omega arith)
some_digit (digit ∷ rest) low = omega arith

no_sign : (text : Text) (sign : ℕ) → sign < 48 → all_ascii_digits text ≡ true → 0 < length text → get_or text 0 0 ≢ sign
no_sign text sign low all some = not_in_digits digits text sign all (λ within. omega (arith, within.0)) 0 some

digits_are_turns : (text : Text) → all_ascii_digits text ≡ true → 1 ≤ digits_value 10 text → digits_value 10 text ≤ most_turns
    → IsTurns text (digits_value 10 text)
digits_are_turns text all low high =
    let some = some_digit text low in
    let bare : without_leading_plus text ≡ text = without_leading_plus_none text (no_sign text 43 (omega arith) all some) in
    let small : digits_value 10 text < 2 ^ 64 = omega arith in
    let numeral : IsUnsignedIn 1 most_turns text = rw bare ((some, digits.to text all), small, low, high) in
    record {
      is = is_value turns_rule text (ne_eqb _ _ (no_sign text 45 (omega arith) all some)) (Accepts-accepts false (Unsigned 1 most_turns) text numeral);
      reads = ap (digits_value 10) (sym bare);
    }

turns_within : (text : Text) (all low high : Bool) → all_ascii_digits text ≡ all → nat_le 1 (digits_value 10 text) ≡ low
    → nat_le (digits_value 10 text) most_turns ≡ high → (turns : ℕ) → cond (all && (low && high)) (Some (digits_value 10 text)) None ≡ Some turns
    → IsTurns text turns
turns_within text true true true all low high turns asked =
    subst (IsTurns text) (some_same asked) (digits_are_turns text all (leb-true _ _ low) (leb-true _ _ high))
turns_within text true true false all low high turns asked = cc
turns_within text true false is_high all low high turns asked = cc
turns_within text false is_low is_high all low high turns asked = cc

are_turns : (text : Text) (turns : ℕ) → turns_of text ≡ Some turns → IsTurns text turns
are_turns text turns asked = turns_within text _ _ _ refl refl refl turns asked

most_are_turns : IsTurns (codes "1000000000") most_turns
most_are_turns = record { is = is_value _ _ refl refl; reads = refl }

-- ---- `replay` and `session`

-- the arguments are taken, and what is found in them is the name of the command and the text of that digit
abbrev Finds : List Text → Invocation → Type 0
Finds args invocation =
    (takes program_app args ≡ true) × (name_in (subcommand_of program_app args) ≡ name_of invocation)
    × (text_in (subcommand_of program_app args) ≡ Some ((48 + size_of invocation) ∷ [])) × LacksJournalIn (subcommand_of program_app args) invocation

is_good_replay : (args : List Text) (servers : ℕ) → Finds args (Replay servers) → 1 ≤ servers → servers ≤ 8 → IsGood args (Replay servers)
is_good_replay args servers finds low high = record { taken = finds.0; name = finds.1; text = finds.2; low = low; high = high; turns = tt; lacks = finds.3 }

is_good_session : (args : List Text) (servers : ℕ) → Finds args (Session servers) → 1 ≤ servers → servers ≤ 8 → IsGood args (Session servers)
is_good_session args servers finds low high = record { taken = finds.0; name = finds.1; text = finds.2; low = low; high = high; turns = tt; lacks = finds.3 }

finds_none : Finds [] (Replay 1)
unfolding clap_on_literals
finds_none = (refl, refl, refl, tt)

-- both commands, alone
finds_name : Finds (codes "replay" ∷ []) (Replay 1) × Finds (codes "session" ∷ []) (Session 1)
unfolding clap_on_literals
finds_name = ((refl, refl, refl, tt), (refl, refl, refl, (refl, refl, refl, refl)))

-- the arguments behind a command that ask for that many servers
abbrev for_servers : ℕ → List Text
for_servers servers = codes "--servers" ∷ ((48 + servers) ∷ []) ∷ []

-- both commands, on that many servers
abbrev FindsServers : ℕ → Type 0
FindsServers n = Finds (codes "replay" ∷ for_servers n) (Replay n) × Finds (codes "session" ∷ for_servers n) (Session n)

finds_servers : (n : ℕ) → 1 ≤ n → n ≤ 8 → FindsServers n
unfolding clap_on_literals
finds_servers zero low high = absurd (omega arith)
finds_servers (suc zero) low high = ((refl, refl, refl, tt), (refl, refl, refl, (refl, refl, refl, refl)))
finds_servers (suc (suc zero)) low high = ((refl, refl, refl, tt), (refl, refl, refl, (refl, refl, refl, refl)))
finds_servers (suc (suc (suc zero))) low high = ((refl, refl, refl, tt), (refl, refl, refl, (refl, refl, refl, refl)))
finds_servers (suc (suc (suc (suc zero)))) low high = ((refl, refl, refl, tt), (refl, refl, refl, (refl, refl, refl, refl)))
finds_servers (suc (suc (suc (suc (suc zero))))) low high = ((refl, refl, refl, tt), (refl, refl, refl, (refl, refl, refl, refl)))
finds_servers (suc (suc (suc (suc (suc (suc zero)))))) low high = ((refl, refl, refl, tt), (refl, refl, refl, (refl, refl, refl, refl)))
finds_servers (suc (suc (suc (suc (suc (suc (suc zero))))))) low high = ((refl, refl, refl, tt), (refl, refl, refl, (refl, refl, refl, refl)))
finds_servers (suc (suc (suc (suc (suc (suc (suc (suc zero)))))))) low high = ((refl, refl, refl, tt), (refl, refl, refl, (refl, refl, refl, refl)))
finds_servers (suc (suc (suc (suc (suc (suc (suc (suc (suc n))))))))) low high = absurd (omega arith)

-- the arguments behind a command ask for so many servers: none for one, or a digit
data AreServers (options : List Text) (servers : ℕ) : Type 0 where
  are_none : options ≡ [] → servers ≡ 1 → AreServers options servers
  are_some : options ≡ for_servers servers → 1 ≤ servers → servers ≤ 8 → AreServers options servers

servers_named : (option number : Text) (same : Bool) → bytes_eq option (codes "--servers") ≡ same → (servers : ℕ)
    → cond same (digit_of number) None ≡ Some servers → AreServers (option ∷ number ∷ []) servers
servers_named option number true is servers asked =
    let digit = is_digit number servers asked in
    are_some (rw ((bytes_eq-Decides option (codes "--servers")).0 is, digit.0) refl) digit.1 digit.2
servers_named option number false is servers asked = cc

are_servers : (options : List Text) (servers : ℕ) → asked_servers options ≡ Some servers → AreServers options servers
are_servers [] servers asked = are_none refl (sym (some_same asked))
are_servers (option ∷ []) servers asked = cc
are_servers (option ∷ number ∷ []) servers asked = servers_named option number _ refl servers asked
are_servers (option ∷ number ∷ other ∷ rest) servers asked = cc

good_replay : (options : List Text) (servers : ℕ) → AreServers options servers → IsGood (codes "replay" ∷ options) (Replay servers)
good_replay options servers (are_none none one) = rw (none, one) (is_good_replay _ 1 finds_name.0 (omega arith) (omega arith))
good_replay options servers (are_some some low high) = rw some (is_good_replay _ servers (finds_servers servers low high).0 low high)

good_session : (options : List Text) (servers : ℕ) → AreServers options servers → IsGood (codes "session" ∷ options) (Session servers)
good_session options servers (are_none none one) = rw (none, one) (is_good_session _ 1 finds_name.1 (omega arith) (omega arith))
good_session options servers (are_some some low high) = rw some (is_good_session _ servers (finds_servers servers low high).1 low high)

-- ---- `live`

no_session : (found : Option (Text × List Row)) (servers turns : ℕ) → LacksJournalIn found (Live servers turns)
no_session None servers turns = tt
no_session (Some found) servers turns = tt

is_good_live : (options : List Text) (servers turns : ℕ) (text : Text) → IsRead options ((48 + servers) ∷ []) text → IsTurns text turns
    → 1 ≤ servers → servers ≤ 8 → IsGood (codes "live" ∷ options) (Live servers turns)
is_good_live options servers turns text read number low high =
    let accepted : IsUnsignedIn 1 most_turns text = accepts-Accepts false (Unsigned 1 most_turns) text number.is.passes in
    record {
      taken = read.taken;
      name = read.name;
      text = read.size;
      low = low;
      high = high;
      turns = (text, read.limit, accepted.0, number.reads, rw number.reads accepted.3);
      lacks = no_session _ servers turns;
    }

-- a live run on so many servers, for so many turns, of these two texts
both_known : (servers turns : Option ℕ) (invocation : Invocation) → live_of servers turns ≡ Some invocation
    → (s : ℕ) × (t : ℕ) × (servers ≡ Some s) × (turns ≡ Some t) × (Live s t ≡ invocation)
both_known (Some s) (Some t) invocation asked = (s, t, refl, refl, some_same asked)
both_known (Some s) None invocation asked = cc
both_known None turns invocation asked = cc

good_servers : (number : Text) (invocation : Invocation) → live_of (digit_of number) (Some most_turns) ≡ Some invocation → IsGood (codes "live" ∷ codes "--servers" ∷ number ∷ []) invocation
good_servers number invocation asked =
    let known = both_known (digit_of number) (Some most_turns) invocation asked in
    let digit = is_digit number known.0 known.2 in
    let value = digit_value_of known.0 digit.1 digit.2 in
    let most : IsTurns (codes "1000000000") known.1 = subst (IsTurns (codes "1000000000")) (some_same known.3) most_are_turns in
    subst (λ (text : Text). IsGood (codes "live" ∷ codes "--servers" ∷ text ∷ []) invocation) (sym digit.0)
    (subst (IsGood _) known.4 (is_good_live _ known.0 known.1 _ (reads_servers _ value) most digit.1 digit.2))

good_turns : (number : Text) (invocation : Invocation) → live_of (Some 3) (turns_of number) ≡ Some invocation → IsGood (codes "live" ∷ codes "--turns" ∷ number ∷ []) invocation
good_turns number invocation asked =
    let known = both_known (Some 3) (turns_of number) invocation asked in
    let turns = are_turns number known.1 known.3 in
    let three : 3 ≡ known.0 = some_same known.2 in
    subst (IsGood _) known.4 (rw (← three) (is_good_live _ 3 known.1 number (reads_turns number turns.is) turns (omega arith) (omega arith)))

good_both : (one two : Text) (invocation : Invocation) → live_of (digit_of one) (turns_of two) ≡ Some invocation
    → IsGood (codes "live" ∷ codes "--servers" ∷ one ∷ codes "--turns" ∷ two ∷ []) invocation × IsGood (codes "live" ∷ codes "--turns" ∷ two ∷ codes "--servers" ∷ one ∷ []) invocation
good_both one two invocation asked =
    let known = both_known (digit_of one) (turns_of two) invocation asked in
    let digit = is_digit one known.0 known.2 in
    let value = digit_value_of known.0 digit.1 digit.2 in
    let turns = are_turns two known.1 known.3 in (
      subst (λ (text : Text). IsGood (codes "live" ∷ codes "--servers" ∷ text ∷ codes "--turns" ∷ two ∷ []) invocation) (sym digit.0)
          (subst (IsGood _) known.4 (is_good_live _ known.0 known.1 two (reads_both _ two value turns.is) turns digit.1 digit.2)),
      subst (λ (text : Text). IsGood (codes "live" ∷ codes "--turns" ∷ two ∷ codes "--servers" ∷ text ∷ []) invocation) (sym digit.0)
          (subst (IsGood _) known.4 (is_good_live _ known.0 known.1 two (reads_both_turned _ two value turns.is) turns digit.1 digit.2)),
    )

by_one : (option number : Text) (servers turns : Bool) → bytes_eq option (codes "--servers") ≡ servers → bytes_eq option (codes "--turns") ≡ turns
    → (invocation : Invocation) → cond servers (live_of (digit_of number) (Some most_turns)) (cond turns (live_of (Some 3) (turns_of number)) None) ≡ Some invocation
    → IsGood (codes "live" ∷ option ∷ number ∷ []) invocation
by_one option number true turns is_servers is_turns invocation asked =
    rw ((bytes_eq-Decides option (codes "--servers")).0 is_servers) (good_servers number invocation asked)
by_one option number false true is_servers is_turns invocation asked =
    rw ((bytes_eq-Decides option (codes "--turns")).0 is_turns) (good_turns number invocation asked)
by_one option number false false is_servers is_turns invocation asked = cc

-- which options the first and the second are
by_two : (first one second two : Text) (a b c d : Bool)
    → bytes_eq first (codes "--servers") ≡ a → bytes_eq second (codes "--turns") ≡ b → bytes_eq first (codes "--turns") ≡ c → bytes_eq second (codes "--servers") ≡ d
    → (invocation : Invocation) → cond (a && b) (live_of (digit_of one) (turns_of two)) (cond (c && d) (live_of (digit_of two) (turns_of one)) None) ≡ Some invocation
    → IsGood (codes "live" ∷ first ∷ one ∷ second ∷ two ∷ []) invocation
by_two first one second two true true c d is_a is_b is_c is_d invocation asked =
    rw ((bytes_eq-Decides first (codes "--servers")).0 is_a, (bytes_eq-Decides second (codes "--turns")).0 is_b) (good_both one two invocation asked).0
by_two first one second two true false true true is_a is_b is_c is_d invocation asked =
    rw ((bytes_eq-Decides first (codes "--turns")).0 is_c, (bytes_eq-Decides second (codes "--servers")).0 is_d) (good_both two one invocation asked).1
by_two first one second two false b true true is_a is_b is_c is_d invocation asked =
    rw ((bytes_eq-Decides first (codes "--turns")).0 is_c, (bytes_eq-Decides second (codes "--servers")).0 is_d) (good_both two one invocation asked).1
by_two first one second two true false true false is_a is_b is_c is_d invocation asked = cc
by_two first one second two true false false d is_a is_b is_c is_d invocation asked = cc
by_two first one second two false b true false is_a is_b is_c is_d invocation asked = cc
by_two first one second two false b false d is_a is_b is_c is_d invocation asked = cc

good_live : (options : List Text) (invocation : Invocation) → asked_live options ≡ Some invocation → IsGood (codes "live" ∷ options) invocation
good_live [] invocation asked =
    subst (IsGood (codes "live" ∷ [])) (some_same asked) (is_good_live [] 3 most_turns _ reads_none most_are_turns (omega arith) (omega arith))
good_live (option ∷ []) invocation asked = cc
good_live (option ∷ number ∷ []) invocation asked = by_one option number _ _ refl refl invocation asked
good_live (first ∷ one ∷ second ∷ []) invocation asked = cc
good_live (first ∷ one ∷ second ∷ two ∷ []) invocation asked = by_two first one second two _ _ _ _ refl refl refl refl invocation asked
good_live (first ∷ one ∷ second ∷ two ∷ other ∷ rest) invocation asked = cc

-- ---- all of them

sized_invocation : (of : ℕ → Invocation) (servers : Option ℕ) (invocation : Invocation) → option_map of servers ≡ Some invocation
    → (s : ℕ) × (servers ≡ Some s) × (of s ≡ invocation)
sized_invocation of (Some s) invocation asked = (s, refl, some_same asked)
sized_invocation of None invocation asked = cc

by_name : (arg : Text) (options : List Text) (replay session live : Bool)
    → bytes_eq arg (codes "replay") ≡ replay → bytes_eq arg (codes "session") ≡ session → bytes_eq arg (codes "live") ≡ live
    → (invocation : Invocation) → cond replay (option_map Replay (asked_servers options))
    (cond session (option_map Session (asked_servers options)) (cond live (asked_live options) None)) ≡ Some invocation
    → IsGood (arg ∷ options) invocation
by_name arg options true session live is_replay is_session is_live invocation asked =
    let sized = sized_invocation Replay (asked_servers options) invocation asked in
    rw ((bytes_eq-Decides arg (codes "replay")).0 is_replay, ← sized.2) (good_replay options sized.0 (are_servers options sized.0 sized.1))
by_name arg options false true live is_replay is_session is_live invocation asked =
    let sized = sized_invocation Session (asked_servers options) invocation asked in
    rw ((bytes_eq-Decides arg (codes "session")).0 is_session, ← sized.2) (good_session options sized.0 (are_servers options sized.0 sized.1))
by_name arg options false false true is_replay is_session is_live invocation asked =
    rw ((bytes_eq-Decides arg (codes "live")).0 is_live) (good_live options invocation asked)
by_name arg options false false false is_replay is_session is_live invocation asked = cc

pub is_good : (args : List Text) (invocation : Invocation) → asked_invocation args ≡ Some invocation → IsGood args invocation
is_good [] invocation asked = subst (IsGood []) (some_same asked) (is_good_replay [] 1 finds_none (omega arith) (omega arith))
is_good (arg ∷ options) invocation asked = by_name arg options _ _ _ refl refl refl invocation asked

-- what is taken from what good arguments have as their matches is what they ask for
pub is_found : {taken : Option Invocation} (found : Option (Text × List Row)) (args : List Text) (invocation : Invocation)
    → found ≡ subcommand_of program_app args → asked_invocation args ≡ Some invocation
    → ((c : Invocation) → text_in found ≡ Some ((48 + size_of c) ∷ []) → 1 ≤ size_of c → size_of c ≤ 8 → name_in found ≡ name_of c
    → ReadsTurns (turns_text found) c → LacksJournalIn found c → taken ≡ Some c)
    → taken ≡ Some invocation
is_found found args invocation is asked takes =
    let good = is_good args invocation asked in
    takes invocation (ap text_in is ∙ good.text) good.low good.high (ap name_in is ∙ good.name) (rw is good.turns) (subst (λ it. LacksJournalIn it invocation) (sym is) good.lacks)
