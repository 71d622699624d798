-- What tokens say stands where they stand: members and definitions stand one behind another.
use Rattle.std.proofs.Common.{◌≡◌, ℕ, ◌≤◌, ◌<◌, List, [], ◌∷◌, ◌++◌, length, refl, sym, ap, subst, ◌∙◌, arith}
use Rattle.std.specs.List.{AllByRecursion}
use Rattle.sudoers_text.specs.declared.token.Mode.{Mode}
use Rattle.sudoers_text.specs.declared.token.Token.{Token}
use Rattle.sudoers_text.specs.Token.{HasTokens}
use Rattle.sudoers_text.specs.LineMode.{line_mode}
use Rattle.sudoers_text.specs.Ascend.{AreOrderedSpans, AreOrderedTokens}
use Rattle.sudoers_grammar.specs.declared.node.Kind.{Kind}
use Rattle.sudoers_grammar.specs.declared.node.Kind.TheVariants.{User, Runas, Host, Cmnd}
use Rattle.sudoers_grammar.specs.Node.{Digest, Member, Def}
use Rattle.sudoers_grammar.specs.Node as node
use Rattle.sudoers_grammar.specs.Piece.{TokenWithBytes, tokens_with_bytes}
use Rattle.sudoers_grammar.specs.Grammar.{Many, MarkThenRule, Separated, Perhaps, start_of_first_token, stop_of_last_token, stop_of_last_member, IsMember, IsDigest, IsCommand, IsAliasMemberList, IsDef, IsAliasLine}
use Rattle.sudoers_grammar.specs.Line.{LineReadsAsNode}
use Rattle.sudoers_grammar.specs.Ascend.{AreOrderedMembers, DefinitionContainsItsMembers, AreOrderedAliasDefinitions}

abbrev pub AreOrderedPieces : ℕ → ℕ → List TokenWithBytes → Type 0
AreOrderedPieces = AreOrderedSpans (λ (t : TokenWithBytes). t.start) (λ (t : TokenWithBytes). t.stop)

-- ---- places

pub ordered_spans_end_no_earlier_than_start : {X : Type 0} (begins ends : X → ℕ) (from to : ℕ) (xs : List X) → AreOrderedSpans begins ends from to xs → from ≤ to
ordered_spans_end_no_earlier_than_start begins ends from to [] a = a
ordered_spans_end_no_earlier_than_start begins ends from to (x ∷ xs) a = omega (arith, a.0, a.1, ordered_spans_end_no_earlier_than_start begins ends (ends x) to xs a.2)

ordered_spans_are_ordered_in_wider_bounds : {X : Type 0} (begins ends : X → ℕ) (from less to more : ℕ) (xs : List X) → less ≤ from → to ≤ more → AreOrderedSpans begins ends from to xs → AreOrderedSpans begins ends less more xs
ordered_spans_are_ordered_in_wider_bounds begins ends from less to more [] l m a = omega (arith, l, m, a)
ordered_spans_are_ordered_in_wider_bounds begins ends from less to more (x ∷ xs) l m a =
    (omega (arith, l, a.0), a.1, ordered_spans_are_ordered_in_wider_bounds begins ends (ends x) (ends x) to more xs (omega arith) m a.2)

-- The pieces of a line stand where its tokens stand.
pieces_of_ordered_tokens_are_ordered : (line : List ℕ) (from to : ℕ) (ts : List Token) → AreOrderedTokens from to ts → AreOrderedPieces from to (tokens_with_bytes line ts)
pieces_of_ordered_tokens_are_ordered line from to [] a = a
pieces_of_ordered_tokens_are_ordered line from to (t ∷ ts) a = (a.0, a.1, pieces_of_ordered_tokens_are_ordered line t.stop to ts a.2)

-- ---- one after another

-- What is read from pieces between two places stands there, before those that are left, and has this of its own.
record StandsBetweenPlaces {X : Type 0} (begins ends : X → ℕ) (Own : X → Type 0) (from to : ℕ) (x : X) (rest : List TokenWithBytes) : Type 0 where
  begun : from ≤ begins x
  some : begins x < ends x
  own : Own x
  left : AreOrderedPieces (ends x) to rest

abbrev KeepsSpanBetweenPlaces : (X : Type 0) → (X → ℕ) → (X → ℕ) → (X → Type 0) → (List TokenWithBytes → X → List TokenWithBytes → Type 0) → Type 0
KeepsSpanBetweenPlaces X begins ends Own P = (from to : ℕ) (ts rest : List TokenWithBytes) (x : X) → AreOrderedPieces from to ts → P ts x rest → StandsBetweenPlaces begins ends Own from to x rest

-- where the last of them ends, or else here
abbrev end_of_last_or_start : {X : Type 0} → (X → ℕ) → ℕ → List X → ℕ
end_of_last_or_start ends at [] = at
end_of_last_or_start ends at (x ∷ xs) = end_of_last_or_start ends (ends x) xs

record AreOrderedWithRest {X : Type 0} (begins ends : X → ℕ) (Own : X → Type 0) (from to : ℕ) (xs : List X) (rest : List TokenWithBytes) : Type 0 where
  ascend : AreOrderedSpans begins ends from (end_of_last_or_start ends from xs) xs
  each : AllByRecursion Own xs
  left : AreOrderedPieces (end_of_last_or_start ends from xs) to rest

mark_then_rule_keeps_span : {X : Type 0} (begins ends : X → ℕ) (Own : X → Type 0) (P : List TokenWithBytes → X → List TokenWithBytes → Type 0) (b : ℕ) → KeepsSpanBetweenPlaces X begins ends Own P → KeepsSpanBetweenPlaces X begins ends Own (MarkThenRule b P)
mark_then_rule_keeps_span begins ends Own P b keeps from to ts rest x a is =
    let there : AreOrderedPieces from to (is.mark ∷ is.behind) = subst (AreOrderedPieces from to) is.split a in
    let stands = keeps is.mark.stop to is.behind rest x there.2 is.is in
    record { begun = omega (arith, there.0, there.1, stands.begun); some = stands.some; own = stands.own; left = stands.left }

many_rule_reads_ordered_spans : {X : Type 0} (begins ends : X → ℕ) (Own : X → Type 0) (P : List TokenWithBytes → X → List TokenWithBytes → Type 0) → KeepsSpanBetweenPlaces X begins ends Own P
    → (from to : ℕ) (ts rest : List TokenWithBytes) (xs : List X) → AreOrderedPieces from to ts → Many P ts xs rest → AreOrderedWithRest begins ends Own from to xs rest
many_rule_reads_ordered_spans begins ends Own P keeps from to ts rest [] a is =
    record { ascend = omega arith; each = tt; left = subst (AreOrderedPieces from to) is a }
many_rule_reads_ordered_spans begins ends Own P keeps from to ts rest (x ∷ xs) a is =
    let first = keeps from to ts is.0 x a is.1 in
    let others = many_rule_reads_ordered_spans begins ends Own P keeps (ends x) to is.0 rest xs first.left is.2 in
    record { ascend = (first.begun, first.some, others.ascend); each = (first.own, others.each); left = others.left }

separated_rule_reads_ordered_spans : {X : Type 0} (begins ends : X → ℕ) (Own : X → Type 0) (P : List TokenWithBytes → X → List TokenWithBytes → Type 0) (b : ℕ) → KeepsSpanBetweenPlaces X begins ends Own P
    → (from to : ℕ) (ts rest : List TokenWithBytes) (xs : List X) → AreOrderedPieces from to ts → Separated b P ts xs rest → AreOrderedWithRest begins ends Own from to xs rest
separated_rule_reads_ordered_spans begins ends Own P b keeps from to ts rest [] a is = absurd is
separated_rule_reads_ordered_spans begins ends Own P b keeps from to ts rest (x ∷ xs) a is =
    let first = keeps from to ts is.0 x a is.1 in
    let others = many_rule_reads_ordered_spans begins ends Own (MarkThenRule b P) (mark_then_rule_keeps_span begins ends Own P b keeps) (ends x) to is.0 rest xs first.left is.2 in
    record { ascend = (first.begun, first.some, others.ascend); each = (first.own, others.each); left = others.left }

-- ---- members

abbrev start_of_member : Member → ℕ
start_of_member m = m.start

abbrev stop_of_member : Member → ℕ
stop_of_member m = m.stop

abbrev HasNoOwnCondition : {X : Type 0} → X → Type 0
HasNoOwnCondition x = Unit {0}

record IsOrderedBehindSigns (from to : ℕ) (ts : List TokenWithBytes) (last : TokenWithBytes) (rest : List TokenWithBytes) : Type 0 where
  begun : from ≤ start_of_first_token ts
  some : start_of_first_token ts < last.stop
  left : AreOrderedPieces last.stop to rest

piece_after_signs_is_ordered : (signs : List TokenWithBytes) (last : TokenWithBytes) (rest : List TokenWithBytes) (from to : ℕ) → AreOrderedPieces from to (signs ++ last ∷ rest) → IsOrderedBehindSigns from to (signs ++ last ∷ rest) last rest
piece_after_signs_is_ordered [] last rest from to a = record { begun = a.0; some = a.1; left = a.2 }
piece_after_signs_is_ordered (s ∷ signs) last rest from to a =
    let later = piece_after_signs_is_ordered signs last rest s.stop to a.2 in
    record { begun = a.0; some = omega (arith, a.1, later.begun, later.some); left = later.left }

member_rule_keeps_span : (k : Kind) → KeepsSpanBetweenPlaces Member start_of_member stop_of_member HasNoOwnCondition (IsMember k)
member_rule_keeps_span k from to ts rest m a is =
    let there = piece_after_signs_is_ordered is.signs is.last rest from to (subst (AreOrderedPieces from to) is.split a) in
    let start : m.start ≡ start_of_first_token (is.signs ++ is.last ∷ rest) = is.start ∙ ap start_of_first_token is.split in
    record {
      begun = omega (arith, start, there.begun);
      some = omega (arith, start, is.stop, there.some);
      own = tt;
      left = subst (λ n. AreOrderedPieces n to rest) (sym is.stop) there.left;
    }

-- ---- commands

-- pieces were passed, of which the first begins here
record HasPassedOrderedPieces (from to : ℕ) (start : ℕ) (rest : List TokenWithBytes) : Type 0 where
  at : ℕ
  begun : from ≤ start
  some : start < at
  left : AreOrderedPieces at to rest

digest_passes_ordered_pieces : (from to : ℕ) (ts : List TokenWithBytes) (d : Digest) (rest : List TokenWithBytes) → AreOrderedPieces from to ts → IsDigest ts d rest → HasPassedOrderedPieces from to (start_of_first_token ts) rest
digest_passes_ordered_pieces from to ts d rest a is =
    let there : AreOrderedPieces from to (is.word ∷ is.colon ∷ is.digest ∷ rest) = subst (AreOrderedPieces from to) is.split a in
    let start : start_of_first_token ts ≡ is.word.start = ap start_of_first_token is.split in
    record {
      at = is.digest.stop;
      begun = omega (arith, start, there.0);
      some = omega (arith, start, there.1, there.2.0, there.2.1, there.2.2.0, there.2.2.1);
      left = there.2.2.2;
    }

-- between these places pieces are left
record HasOrderedPiecesLeft (from to : ℕ) (rest : List TokenWithBytes) : Type 0 where
  at : ℕ
  later : from ≤ at
  left : AreOrderedPieces at to rest

digests_leave_ordered_pieces : (ds : List Digest) (from to : ℕ) (ts rest : List TokenWithBytes) → AreOrderedPieces from to ts → Many (MarkThenRule 44 IsDigest) ts ds rest → HasOrderedPiecesLeft from to rest
digests_leave_ordered_pieces [] from to ts rest a is = record { at = from; later = omega arith; left = subst (AreOrderedPieces from to) is a }
digests_leave_ordered_pieces (d ∷ ds) from to ts rest a is =
    let there : AreOrderedPieces from to (is.1.mark ∷ is.1.behind) = subst (AreOrderedPieces from to) is.1.split a in
    let passes = digest_passes_ordered_pieces is.1.mark.stop to is.1.behind d is.0 there.2 is.1.is in
    let others = digests_leave_ordered_pieces ds passes.at to is.0 rest passes.left is.2 in
    record { at = others.at; later = omega (arith, there.0, there.1, passes.begun, passes.some, others.later); left = others.left }

-- Behind digests, or none, a word follows, which ends further on than the first piece begins.
word_after_digests_is_ordered : (ds : List Digest) (from to : ℕ) (ts behind signs rest : List TokenWithBytes) (word : TokenWithBytes) → AreOrderedPieces from to ts → Perhaps (Separated 44 IsDigest) ts ds behind → behind ≡ signs ++ (word ∷ rest) → IsOrderedBehindSigns from to ts word rest
word_after_digests_is_ordered [] from to ts behind signs rest word a is split =
    subst (λ ts. IsOrderedBehindSigns from to ts word rest) (sym (is ∙ split)) (piece_after_signs_is_ordered signs word rest from to (subst (AreOrderedPieces from to) (is ∙ split) a))
word_after_digests_is_ordered (d ∷ ds) from to ts behind signs rest word a is split =
    let first = digest_passes_ordered_pieces from to ts d is.0 a is.1 in
    let others = digests_leave_ordered_pieces ds first.at to is.0 behind first.left is.2 in
    let there = piece_after_signs_is_ordered signs word rest others.at to (subst (AreOrderedPieces others.at to) split others.left) in
    record { begun = first.begun; some = omega (arith, first.some, others.later, there.begun, there.some); left = there.left }

record IsOrderedBehindArgs (stop to : ℕ) (word : TokenWithBytes) (args rest : List TokenWithBytes) : Type 0 where
  later : stop ≤ stop_of_last_token word args
  left : AreOrderedPieces (stop_of_last_token word args) to rest

rest_after_arguments_is_ordered : (word : TokenWithBytes) (args rest : List TokenWithBytes) (to : ℕ) → AreOrderedPieces word.stop to (args ++ rest) → IsOrderedBehindArgs word.stop to word args rest
rest_after_arguments_is_ordered word [] rest to a = record { later = omega arith; left = a }
rest_after_arguments_is_ordered word (arg ∷ args) rest to a =
    let there = rest_after_arguments_is_ordered arg args rest to a.2 in
    record { later = omega (arith, a.0, a.1, there.later); left = there.left }

command_rule_keeps_span : KeepsSpanBetweenPlaces Member start_of_member stop_of_member HasNoOwnCondition IsCommand
command_rule_keeps_span from to ts rest m a is =
    let there = word_after_digests_is_ordered m.digests from to ts is.behind is.signs (is.args ++ rest) is.word a is.digests is.split in
    let last = rest_after_arguments_is_ordered is.word is.args rest to there.left in
    record {
      begun = omega (arith, is.start, there.begun);
      some = omega (arith, is.start, is.stop, there.some, last.later);
      own = tt;
      left = subst (λ n. AreOrderedPieces n to rest) (sym is.stop) last.left;
    }

-- ---- definitions

last_member_end_is_list_stop : (ms : List Member) (m : Member) (at : ℕ) → end_of_last_or_start stop_of_member at (m ∷ ms) ≡ stop_of_last_member (m ∷ ms)
last_member_end_is_list_stop [] m at = refl
last_member_end_is_list_stop (n ∷ ms) m at = last_member_end_is_list_stop ms n m.stop

-- The members of a list stand between its beginning and its end.
record AreOrderedMembersWithRest (from to : ℕ) (ms : List Member) (rest : List TokenWithBytes) : Type 0 where
  ascend : AreOrderedMembers from (stop_of_last_member ms) ms
  left : AreOrderedPieces (stop_of_last_member ms) to rest

separated_members_are_ordered : (P : List TokenWithBytes → Member → List TokenWithBytes → Type 0) → KeepsSpanBetweenPlaces Member start_of_member stop_of_member HasNoOwnCondition P
    → (from to : ℕ) (ts rest : List TokenWithBytes) (ms : List Member) → AreOrderedPieces from to ts → Separated 44 P ts ms rest → AreOrderedMembersWithRest from to ms rest
separated_members_are_ordered P keeps from to ts rest [] a is = absurd is
separated_members_are_ordered P keeps from to ts rest (m ∷ ms) a is =
    let all = separated_rule_reads_ordered_spans start_of_member stop_of_member HasNoOwnCondition P 44 keeps from to ts rest (m ∷ ms) a is in
    let stop = last_member_end_is_list_stop ms m from in
    record {
      ascend = subst (λ n. AreOrderedMembers from n (m ∷ ms)) stop all.ascend;
      left = subst (λ n. AreOrderedPieces n to rest) stop all.left;
    }

members_of_list_are_ordered : (k : Kind) (from to : ℕ) (ts rest : List TokenWithBytes) (ms : List Member) → AreOrderedPieces from to ts → IsAliasMemberList k ts ms rest → AreOrderedMembersWithRest from to ms rest
members_of_list_are_ordered User = separated_members_are_ordered (IsMember User) (member_rule_keeps_span User)
members_of_list_are_ordered Runas = separated_members_are_ordered (IsMember Runas) (member_rule_keeps_span Runas)
members_of_list_are_ordered Host = separated_members_are_ordered (IsMember Host) (member_rule_keeps_span Host)
members_of_list_are_ordered Cmnd = separated_members_are_ordered IsCommand command_rule_keeps_span

abbrev start_of_definition : Def → ℕ
start_of_definition d = d.start

abbrev stop_of_definition : Def → ℕ
stop_of_definition d = d.stop

definition_rule_keeps_span : (k : Kind) → KeepsSpanBetweenPlaces Def start_of_definition stop_of_definition DefinitionContainsItsMembers (IsDef k)
definition_rule_keeps_span k from to ts rest d a is =
    let there : AreOrderedPieces from to (is.name ∷ is.equals ∷ is.behind) = subst (AreOrderedPieces from to) is.split a in
    let list = members_of_list_are_ordered k is.equals.stop to is.behind rest d.members there.2.2 is.members in
    let later = ordered_spans_end_no_earlier_than_start start_of_member stop_of_member is.equals.stop (stop_of_last_member d.members) d.members list.ascend in
    record {
      begun = omega (arith, is.start, there.0);
      some = omega (arith, is.start, is.stop, there.1, there.2.0, there.2.1, later);
      own = ordered_spans_are_ordered_in_wider_bounds start_of_member stop_of_member is.equals.stop d.start (stop_of_last_member d.members) d.stop d.members
          (omega (arith, is.start, there.1, there.2.0, there.2.1)) (omega (arith, is.stop)) list.ascend;
      left = subst (λ n. AreOrderedPieces n to rest) (sym is.stop) list.left;
    }

definitions_of_alias_line_are_ordered : (k : Kind) (from to : ℕ) (ts rest : List TokenWithBytes) (ds : List Def) → AreOrderedPieces from to ts → IsAliasLine k ts ds rest → AreOrderedAliasDefinitions from to ds
definitions_of_alias_line_are_ordered k from to ts rest ds a is =
    let there : AreOrderedPieces from to (is.word ∷ is.behind) = subst (AreOrderedPieces from to) is.split a in
    let all = separated_rule_reads_ordered_spans start_of_definition stop_of_definition DefinitionContainsItsMembers (IsDef k) 58 (definition_rule_keeps_span k) is.word.stop to is.behind rest ds there.2 is.defs in
    let stop = end_of_last_or_start stop_of_definition is.word.stop ds in
    let within = ordered_spans_end_no_earlier_than_start (λ (t : TokenWithBytes). t.start) (λ (t : TokenWithBytes). t.stop) stop to rest all.left in
    (ordered_spans_are_ordered_in_wider_bounds start_of_definition stop_of_definition is.word.stop from stop to ds (omega (arith, there.0, there.1)) within all.ascend, all.each)

-- ---- lines

-- the tokens of a line stand one behind another
abbrev pub TokensOfLinesAreOrdered : Type 0
TokensOfLinesAreOrdered = (mode : Mode) (line : List ℕ) (tokens : List Token) → HasTokens mode line tokens → AreOrderedTokens 0 (length line) tokens

pub alias_definitions_of_line_are_ordered : TokensOfLinesAreOrdered → (line : List ℕ) (k : Kind) (defs : List Def) → LineReadsAsNode line (node.Alias k defs) → AreOrderedAliasDefinitions 0 (length line) defs
alias_definitions_of_line_are_ordered law line k defs is =
    definitions_of_alias_line_are_ordered k 0 (length line) (tokens_with_bytes line is.tokens) is.reads.0 defs
    (pieces_of_ordered_tokens_are_ordered line 0 (length line) is.tokens (law (line_mode line) line is.tokens is.has)) is.reads.1
