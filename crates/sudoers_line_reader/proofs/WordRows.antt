-- What the word of a command says, as a row.
use Rattle.std.proofs.Common.{◌≡◌, ℕ, Bool, true, false, not, if◌then◌else◌, List, [], ◌∷◌, Option, Some, None, option_and_then, refl, sym, ap, subst, ◌∙◌}
use Rattle.sudoers_grammar.specs.declared.node.Atom.{Atom}
use Rattle.sudoers_grammar.specs.Node.{Digest, Member}
use Rattle.sudoers_grammar.specs.declared.command_arguments.ArglessCommand.{ArglessCommand}
use Rattle.std.proofs.lemmas.Option.{same_Some}
use Rattle.sudoers_grammar.specs.Piece.{TokenWithBytes, is_some, is_mark_of_byte, has_last_byte, digest_kind_of_token}
use Rattle.sudoers_grammar.specs.Grammar.{Separated, IsDigest}
use Rattle.sudoers_grammar.specs.Atom.{command_atom_without_args, is_command_allowing_digests}
use Rattle.sudoers_grammar.specs.Arguments.{has_digests_only_if_allowed, argless_command_of_atom}
use Rattle.sudoers_line_rows.specs.declared.rows.AtomRow.{AtomRow}
use Rattle.sudoers_line_rows.specs.declared.rows.RowRange.{RowRange}
use Rattle.sudoers_line_reader.specs.declared.command_words.CommandStartRow.{CommandStartRow}
use Rattle.sudoers_line_rows.specs.declared.rows.Tables.{Tables}
use Rattle.sudoers_line_reader.specs.Descent.{member_of_token_and_atom, command_start_if_allowed, command_start_of_token, command_open_to_arguments, is_argument_token, member_with_arguments_reader, member_with_optional_arguments_reader, has_meaning_by, digest_reader, optional_digests_reader}
use Rattle.sudoers_line_reader.specs.Reader.{ReadOutcome, Read, Halt, is_next_token, pure, separated_list_reader}
use Rattle.sudoers_line_reader.proofs.Keeps.{OutcomeFollowsRule as ToldBy, passing_token_chooses_first_reader, failing_token_chooses_second_reader}
use Rattle.sudoers_line_reader.proofs.DigestLaws.{digest_list_reader_follows_rule}
use Rattle.sudoers_line_rows.proofs.Growth.{table_growth_is_transitive}
use Rattle.sudoers_line_rows.specs.Tables.{TablesHaveGrown, RowMeaningLasts, atom_in_tables, digests_of_range_in_tables}
use Rattle.sudoers_line_reader.specs.internal.Answer.{ReportsDigestPresence, command_start_of_word_row}

-- ---- digests

pub no_digests_are_always_allowed : (ds : List Digest) (a : Atom) → ReportsDigestPresence false ds → has_digests_only_if_allowed ds a ≡ true
no_digests_are_always_allowed [] a h = refl
no_digests_are_always_allowed (d ∷ ds) a h = absurd h

pub digests_are_allowed_if_command_allows : (ds : List Digest) (a : Atom) → ReportsDigestPresence true ds → has_digests_only_if_allowed ds a ≡ is_command_allowing_digests a
digests_are_allowed_if_command_allows [] a h = absurd h
digests_are_allowed_if_command_allows (d ∷ ds) a h = refl

-- ---- the word

pub token_without_atom_is_no_command_start : (b : Bool) (ds : List Digest) (t : TokenWithBytes) → command_atom_without_args t.kind t.text ≡ None → command_start_of_token b ds t ≡ None
token_without_atom_is_no_command_start b ds t e = ap (option_and_then (command_start_if_allowed b ds t)) e

pub command_not_allowing_digests_is_refused : (b : Bool) (ds : List Digest) (t : TokenWithBytes) (a : Atom) → command_atom_without_args t.kind t.text ≡ Some a → has_digests_only_if_allowed ds a ≡ false → command_start_of_token b ds t ≡ None
command_not_allowing_digests_is_refused b ds t a e s = ap (option_and_then (command_start_if_allowed b ds t)) e ∙ rw s refl

pub command_allowing_digests_is_command_start : (b : Bool) (ds : List Digest) (t : TokenWithBytes) (a : Atom) → command_atom_without_args t.kind t.text ≡ Some a → has_digests_only_if_allowed ds a ≡ true → command_start_of_token b ds t ≡ Some (command_open_to_arguments t a, member_of_token_and_atom b ds t a)
command_allowing_digests_is_command_start b ds t a e s = ap (option_and_then (command_start_if_allowed b ds t)) e ∙ rw s refl

abbrev pub command_start_row_of_parts : ℕ → Bool → RowRange → AtomRow → Bool → CommandStartRow
command_start_row_of_parts stop b range atom has = record { member = record { start = 0; stop = stop; negated = b; digests = range; atom = atom }; has_room = has }

swapped_branches_negate_the_test : (c : Bool) (o : Option ArglessCommand) → (if c then None else o) ≡ (if not c then o else None)
swapped_branches_negate_the_test true o = refl
swapped_branches_negate_the_test false o = refl

pub command_start_is_that_of_its_row : (t u : Tables) (b : Bool) (range : RowRange) (piece : TokenWithBytes) (atom : AtomRow) (stop : ℕ) (has : Bool) → TablesHaveGrown t u → RowMeaningLasts digests_of_range_in_tables t range → stop ≡ piece.stop → has ≡ not (has_last_byte 47 piece.text)
    → (command_open_to_arguments piece (atom_in_tables u atom), member_of_token_and_atom b (digests_of_range_in_tables t range) piece (atom_in_tables u atom)) ≡ command_start_of_word_row u (command_start_row_of_parts stop b range atom has)
command_start_is_that_of_its_row t u b range piece atom stop has g lasts e f = λ i. (
  (swapped_branches_negate_the_test (has_last_byte 47 piece.text) (argless_command_of_atom (atom_in_tables u atom)) ∙ ap (λ (c : Bool). if c then argless_command_of_atom (atom_in_tables u atom) else None) (sym f)) i,
  record { start = 0; stop = sym e i; negated = b; digests = sym (lasts u g) i; atom = atom_in_tables u atom },
)

pub command_start_row_lasts_in_grown_tables : (t u : Tables) (b : Bool) (range : RowRange) (atom : AtomRow) (stop : ℕ) (has : Bool) → TablesHaveGrown t u → RowMeaningLasts digests_of_range_in_tables t range → RowMeaningLasts atom_in_tables u atom → RowMeaningLasts command_start_of_word_row u (command_start_row_of_parts stop b range atom has)
command_start_row_lasts_in_grown_tables t u b range atom stop has g lasts kept v h = λ i. (
  (if has then argless_command_of_atom (kept v h i) else None),
  record { start = 0; stop = stop; negated = b; digests = (lasts v (table_growth_is_transitive t u v g h) ∙ sym (lasts u g)) i; atom = kept v h i },
)

-- ---- behind the word

pub closed_command_is_read_without_arguments : (w : Option ArglessCommand × Member) (ts : List TokenWithBytes) → is_some w.0 ≡ false → member_with_optional_arguments_reader w ts ≡ Read w.1 ts
unfolding member_with_optional_arguments_reader
closed_command_is_read_without_arguments (None, m) ts e = refl
closed_command_is_read_without_arguments (Some p, m) ts e = absurd cc

pub command_before_no_argument_is_read_alone : (w : Option ArglessCommand × Member) (ts : List TokenWithBytes) → is_next_token is_argument_token ts ≡ false → member_with_optional_arguments_reader w ts ≡ Read w.1 ts
unfolding member_with_optional_arguments_reader
command_before_no_argument_is_read_alone (None, m) ts e = refl
command_before_no_argument_is_read_alone (Some p, m) ts e = rw e refl

pub open_command_is_read_with_arguments : (w : Option ArglessCommand × Member) (p : ArglessCommand) (ts : List TokenWithBytes) → w.0 ≡ Some p → is_next_token is_argument_token ts ≡ true → member_with_optional_arguments_reader w ts ≡ member_with_arguments_reader p w.1 ts
unfolding member_with_optional_arguments_reader
open_command_is_read_with_arguments (None, m) p ts f e = absurd cc
open_command_is_read_with_arguments (Some q, m) p ts f e = rw e (ap (λ (x : ArglessCommand). member_with_arguments_reader x m ts) (same_Some q p f))

pub program_under_condition_is_some : (c : Bool) (o : Option ArglessCommand) → is_some (if c then o else None) ≡ true → (p : ArglessCommand) × (o ≡ Some p) × ((if c then o else None) ≡ Some p)
program_under_condition_is_some true (Some p) e = (p, refl, refl)
program_under_condition_is_some true None e = absurd cc
program_under_condition_is_some false o e = absurd cc

-- ---- whether there are digests

read_digest_list_reports_digests : (o : ReadOutcome (List Digest)) (ts : List TokenWithBytes) (ds : List Digest) (left : List TokenWithBytes) → ToldBy (separated_list_reader 44 digest_reader) (Separated 44 IsDigest) (is_mark_of_byte 44) ts o → o ≡ Read ds left → ReportsDigestPresence true ds
read_digest_list_reports_digests (Read [] rest) ts ds left h e = absurd h.now
read_digest_list_reports_digests (Read (d ∷ more) rest) ts ds left h e = subst (ReportsDigestPresence true) (let same : d ∷ more ≡ ds = cc in same) tt
read_digest_list_reports_digests (Halt rest) ts ds left h e = absurd cc

digest_presence_is_told_by_next_token : (b : Bool) (ts : List TokenWithBytes) (ds : List Digest) (left : List TokenWithBytes) → is_next_token (has_meaning_by digest_kind_of_token) ts ≡ b → optional_digests_reader ts ≡ Read ds left → ReportsDigestPresence b ds
unfolding optional_digests_reader
digest_presence_is_told_by_next_token true ts ds left c e = read_digest_list_reports_digests (separated_list_reader 44 digest_reader ts) ts ds left (digest_list_reader_follows_rule.tells ts) (sym (passing_token_chooses_first_reader (has_meaning_by digest_kind_of_token) (separated_list_reader 44 digest_reader) (pure []) ts c) ∙ e)
digest_presence_is_told_by_next_token false ts ds left c e =
    let f : Read [] ts ≡ Read ds left = sym (failing_token_chooses_second_reader (has_meaning_by digest_kind_of_token) (separated_list_reader 44 digest_reader) (pure []) ts c) ∙ e in
    subst (ReportsDigestPresence false) (let same : [] ≡ ds = cc in same) tt

-- It is told by the first token whether there are digests.
pub first_token_tells_presence_of_digests : (ts : List TokenWithBytes) (ds : List Digest) (left : List TokenWithBytes) (b : Bool) → b ≡ is_next_token (has_meaning_by digest_kind_of_token) ts → optional_digests_reader ts ≡ Read ds left → ReportsDigestPresence b ds
first_token_tells_presence_of_digests ts ds left b e read = digest_presence_is_told_by_next_token b ts ds left (sym e) read
