-- Arguments and commands.
use Rattle.std.proofs.Common.{◌≡◌, ℕ, Bool, true, false, not, ◌||◌, List, [], ◌∷◌, ◌++◌, Option, Some, None, option_and_then, inl, inr, refl, sym, ap, ◌∙◌, subst}
use Rattle.std.proofs.lemmas.Bool.{and_parts}
use Rattle.std.proofs.lemmas.Option.{same_Some}
use Rattle.std.specs.List.{AllByRecursion}
use Rattle.sudoers_text.specs.declared.token.TokenKind.TheVariants as kind
use Rattle.sudoers_grammar.specs.declared.node.Args.{Args}
use Rattle.sudoers_grammar.specs.declared.node.Args.TheVariants.{Any}
use Rattle.sudoers_grammar.specs.declared.node.Atom.{Atom}
use Rattle.sudoers_grammar.specs.declared.node.Atom.TheVariants as atom
use Rattle.sudoers_grammar.specs.Node.{Digest, Member}
use Rattle.sudoers_grammar.specs.declared.node.DigestKind.{DigestKind}
use Rattle.sudoers_grammar.specs.declared.command_arguments.ArglessCommand.{ArglessCommand}
use Rattle.sudoers_grammar.specs.Piece.{TokenWithBytes, is_mark_of_byte, is_arg, digest_kind_of_token, has_first_byte, has_last_byte}
use Rattle.sudoers_grammar.specs.Atom.{command_atom_without_args, command_atom_with_args, args_of_argument_tokens, command_atom_of_tokens}
use Rattle.sudoers_grammar.specs.Grammar.{Separated, is_odd_count_of_tokens, stop_of_last_token, IsMark, IsArg, IsCommand, AreCommands, IsScopeCommand}
use Rattle.sudoers_grammar.specs.Arguments.{args_with_one_more, has_digests_only_if_allowed, argless_command_of_atom, atom_of_command_and_args}
use Rattle.sudoers_line_reader.proofs.Tokens.{mark_is_no_other_mark, command_atom_has_kind_of_member_token, command_is_no_digest_kind, mark_is_no_digest_kind, member_token_is_no_mark, mark_is_no_argument, some_of_second_branch_has_false_test, some_of_first_branch_has_true_test}
use Rattle.sudoers_line_reader.proofs.Gathered.{args_with_further_tokens, args_added_one_by_one_are_all_args, token_makes_command_with_any_args, allowed_digests_ignore_arguments, member_with_digests_is_allowed_them, allowed_digests_may_be_had_by_member}
use Rattle.sudoers_line_reader.proofs.Gathered.{command_with_args_has_argless_command}
use Rattle.sudoers_line_reader.specs.Reader.{is_next_token, ◌>>=◌, pure, passing_token_reader, repetition_reader, separated_list_reader}
use Rattle.sudoers_line_reader.specs.Descent.{is_argument_token, is_argument_token_but_no_regex, has_meaning_by, member_of_token_and_atom, member_with_start, digest_reader, optional_digests_reader, command_open_to_arguments, args_and_stop_with_one_more, member_with_arguments, member_with_arguments_reader, member_with_optional_arguments_reader, command_start_if_allowed, command_start_of_token, command_after_digests_reader, command_reader, digestless_scope_command_reader}
use Rattle.sudoers_line_reader.proofs.Keeps.{GrammarRule, NextTokenFailsTest, ReaderFollowsRule, is_token_of_empty_test, next_token_fails_empty_test, IsEmptyReadingOf, IsOneTokenWithMeaning, HasSampleToken, one_token_reader_follows_rule, IsOnePassingToken, passing_token_reader_follows_rule, IsSequenceOfRules, IsEitherOfRules, IsRuleWithStart, NeverTakesNoTokens, reader_with_start_follows_rule, BeginsWithPassingToken, choice_reader_follows_either_rule}
use Rattle.sudoers_line_reader.proofs.Repeats.{left_fold_of_list, IsFoldOfRepeatedRule, many_lawful, passing_token_reader_consumes_tokens, separated_lawful}
use Rattle.sudoers_line_reader.proofs.Parts.{sequence_of_readers_follows_rules, sequence_after_ended_reader_follows_rule, reader_follows_rule_saying_the_same, pure_reader_follows_rule_with_any_test, mapped_reader_follows_rule, tokens_failing_either_test_fail_both, both_false_implies_false_or, is_some_of_none_is_false}
use Rattle.sudoers_line_reader.proofs.MemberLaws.{repeated_tokens_are_passing_front, passing_front_is_repeated_tokens, AreNegationSigns, negation_signs_are_marks_of_odd_count, negation_marks_are_negation_signs, negation_reader_follows_rule, token_of_word_all}
use Rattle.sudoers_line_reader.proofs.DigestLaws.{AreOptionalDigests, may_continue_digest_list, optional_digests_reader_follows_rule}

-- ---- Arg*

abbrev sample_argument_token : TokenWithBytes
sample_argument_token = record { kind = kind.Arg; text = []; start = 0; stop = 0; last = false }

abbrev AreFurtherArguments : TokenWithBytes → GrammarRule (Args × ℕ)
AreFurtherArguments t = IsFoldOfRepeatedRule args_and_stop_with_one_more (IsOnePassingToken is_argument_token) (args_with_one_more Any t.text, t.stop)

further_arguments_reader_follows_rule : (t : TokenWithBytes) → ReaderFollowsRule (repetition_reader args_and_stop_with_one_more is_argument_token (passing_token_reader is_argument_token) (args_with_one_more Any t.text, t.stop)) (AreFurtherArguments t) is_argument_token
further_arguments_reader_follows_rule t = many_lawful args_and_stop_with_one_more is_argument_token (passing_token_reader is_argument_token) (IsOnePassingToken is_argument_token) is_token_of_empty_test is_argument_token (passing_token_reader_consumes_tokens is_argument_token) (λ zs st. st) (λ zs st. next_token_fails_empty_test zs) (λ zs e. next_token_fails_empty_test zs)
    (λ ts u rest h. ap (is_next_token is_argument_token) h.0 ∙ h.1) (passing_token_reader_follows_rule is_argument_token sample_argument_token refl) (args_with_one_more Any t.text, t.stop)

abbrev pub AreCommandArguments : ArglessCommand → Member → GrammarRule Member
AreCommandArguments p m = IsSequenceOfRules (IsOnePassingToken is_argument_token_but_no_regex) (λ t. IsSequenceOfRules (AreFurtherArguments t) (λ r. IsEmptyReadingOf (member_with_arguments p m r)))

arguments_reader_follows_rule : (p : ArglessCommand) (m : Member) → ReaderFollowsRule (member_with_arguments_reader p m) (AreCommandArguments p m) is_argument_token
unfolding member_with_arguments_reader
arguments_reader_follows_rule p m = sequence_after_ended_reader_follows_rule (passing_token_reader_follows_rule is_argument_token_but_no_regex sample_argument_token refl) (λ t. mapped_reader_follows_rule (member_with_arguments p m) (further_arguments_reader_follows_rule t))

arguments_begin_with_argument_token : (p : ArglessCommand) (m : Member) → BeginsWithPassingToken is_argument_token (AreCommandArguments p m)
arguments_begin_with_argument_token p m ts x rest (t, mid, (e, is), later) = ap (is_next_token is_argument_token) e ∙ (and_parts (is_arg t.kind) (not (has_first_byte 94 t.text)) is).0

abbrev pub AreOptionalArguments : Option ArglessCommand × Member → GrammarRule Member
AreOptionalArguments (None, m) = IsEmptyReadingOf m
AreOptionalArguments (Some p, m) = IsEitherOfRules (AreCommandArguments p m) (IsEmptyReadingOf m)

optional_arguments_reader_follows_rule : (w : Option ArglessCommand × Member) → ReaderFollowsRule (member_with_optional_arguments_reader w) (AreOptionalArguments w) is_argument_token
unfolding member_with_optional_arguments_reader
optional_arguments_reader_follows_rule (None, m) = pure_reader_follows_rule_with_any_test is_argument_token m
optional_arguments_reader_follows_rule (Some p, m) =
    choice_reader_follows_either_rule is_argument_token (member_with_arguments_reader p m) (pure m) (AreCommandArguments p m) (IsEmptyReadingOf m) is_argument_token (arguments_begin_with_argument_token p m) (λ ts x rest is st. ap (is_next_token is_argument_token) is.0 ∙ st) (arguments_reader_follows_rule p m) (pure_reader_follows_rule_with_any_test is_argument_token m)

folded_arguments_are_args_and_stop : (xs : List TokenWithBytes) (r : Args) (stop : ℕ) (t : TokenWithBytes) → t.stop ≡ stop → left_fold_of_list args_and_stop_with_one_more (r, stop) xs ≡ (args_with_further_tokens r xs, stop_of_last_token t xs)
folded_arguments_are_args_and_stop [] r stop t e = ap (λ (n : ℕ). (r, n)) (sym e)
folded_arguments_are_args_and_stop (x ∷ xs) r stop t e = folded_arguments_are_args_and_stop xs (args_with_one_more r x.text) x.stop x refl

-- ---- "!"* CmdAtom Arg*

-- a command behind these digests, without where it begins
pub record IsCommandAfterDigests (ds : List Digest) (ts : List TokenWithBytes) (m : Member) (rest : List TokenWithBytes) : Type 0 where
  pub signs : List TokenWithBytes
  pub word : TokenWithBytes
  pub args : List TokenWithBytes
  pub split : ts ≡ signs ++ (word ∷ (args ++ rest))
  pub are_signs : AllByRecursion (IsMark 33) signs
  pub are_args : AllByRecursion IsArg args
  pub atom : command_atom_of_tokens word args ≡ Some m.atom
  pub suits : has_digests_only_if_allowed ds m.atom ≡ true
  pub negated : m.negated ≡ is_odd_count_of_tokens signs
  pub digests : m.digests ≡ ds
  pub start : m.start ≡ 0
  pub stop : m.stop ≡ stop_of_last_token word args

abbrev IsCommandAfterDigestsSequence : List Digest → GrammarRule Member
IsCommandAfterDigestsSequence ds = IsSequenceOfRules AreNegationSigns (λ b. IsSequenceOfRules (IsOneTokenWithMeaning (command_start_of_token b ds)) AreOptionalArguments)

pub record IsStartingWordOfCommand (b : Bool) (ds : List Digest) (t : TokenWithBytes) (w : Option ArglessCommand × Member) : Type 0 where
  pub atom : Atom
  pub bare : command_atom_without_args t.kind t.text ≡ Some atom
  pub suits : has_digests_only_if_allowed ds atom ≡ true
  pub made : w ≡ (command_open_to_arguments t atom, member_of_token_and_atom b ds t atom)

starting_word_stands_by_atom : (b : Bool) (ds : List Digest) (t : TokenWithBytes) (w : Option ArglessCommand × Member) (o : Option Atom) → command_atom_without_args t.kind t.text ≡ o → option_and_then (command_start_if_allowed b ds t) o ≡ Some w → IsStartingWordOfCommand b ds t w
starting_word_stands_by_atom b ds t w None e has_meaning_by = absurd cc
starting_word_stands_by_atom b ds t w (Some a) e has_meaning_by =
    let f = some_of_first_branch_has_true_test (has_digests_only_if_allowed ds a) (Some (command_open_to_arguments t a, member_of_token_and_atom b ds t a)) w has_meaning_by in
    record { atom = a; bare = e; suits = f.0; made = sym (same_Some (command_open_to_arguments t a, member_of_token_and_atom b ds t a) w f.1) }

command_start_has_starting_word : (b : Bool) (ds : List Digest) (t : TokenWithBytes) (w : Option ArglessCommand × Member) → command_start_of_token b ds t ≡ Some w → IsStartingWordOfCommand b ds t w
command_start_has_starting_word b ds t w has_meaning_by = starting_word_stands_by_atom b ds t w (command_atom_without_args t.kind t.text) refl has_meaning_by

allowed_atom_of_token_is_command_start : (b : Bool) (ds : List Digest) (t : TokenWithBytes) (a : Atom) → command_atom_without_args t.kind t.text ≡ Some a → has_digests_only_if_allowed ds a ≡ true → command_start_of_token b ds t ≡ Some (command_open_to_arguments t a, member_of_token_and_atom b ds t a)
allowed_atom_of_token_is_command_start b ds t a e s = ap (option_and_then (command_start_if_allowed b ds t)) e ∙ rw s refl

open_command_ends_in_no_slash : (t : TokenWithBytes) (a : Atom) (p : ArglessCommand) → command_open_to_arguments t a ≡ Some p → (has_last_byte 47 t.text ≡ false) × (argless_command_of_atom a ≡ Some p)
open_command_ends_in_no_slash t a p e = some_of_second_branch_has_false_test (has_last_byte 47 t.text) (argless_command_of_atom a) p e

false_is_that_whose_negation_is_true : (b : Bool) → not b ≡ true → b ≡ false
false_is_that_whose_negation_is_true true e = absurd cc
false_is_that_whose_negation_is_true false e = refl

negation_of_false_is_true : (b : Bool) → b ≡ false → not b ≡ true
negation_of_false_is_true b e = ap not e

starting_word_alone_is_command : (ds : List Digest) (b : Bool) (t : TokenWithBytes) (w : Option ArglessCommand × Member) (word : IsStartingWordOfCommand b ds t w) (xs ts rest : List TokenWithBytes) (m : Member) → ts ≡ xs ++ (t ∷ rest)
    → AllByRecursion (IsMark 33) xs → b ≡ is_odd_count_of_tokens xs → m ≡ member_of_token_and_atom b ds t word.atom → IsCommandAfterDigests ds ts m rest
starting_word_alone_is_command ds b t w word xs ts rest m split are odds same = record {
  signs = xs;
  word = t;
  args = [];
  split = split;
  are_signs = are;
  are_args = tt;
  atom = word.bare ∙ ap (λ (y : Member). Some y.atom) (sym same);
  suits = ap (λ (y : Member). has_digests_only_if_allowed ds y.atom) same ∙ word.suits;
  negated = ap (λ (y : Member). y.negated) same ∙ odds;
  digests = ap (λ (y : Member). y.digests) same;
  start = ap (λ (y : Member). y.start) same;
  stop = ap (λ (y : Member). y.stop) same;
}

starting_word_with_arguments_is_command : (ds : List Digest) (b : Bool) (t : TokenWithBytes) (w : Option ArglessCommand × Member) (word : IsStartingWordOfCommand b ds t w) (p : ArglessCommand) → command_open_to_arguments t word.atom ≡ Some p
    → (xs ts mid rest : List TokenWithBytes) (m : Member) → ts ≡ xs ++ (t ∷ mid) → AllByRecursion (IsMark 33) xs → b ≡ is_odd_count_of_tokens xs → AreCommandArguments p (member_of_token_and_atom b ds t word.atom) mid m rest → IsCommandAfterDigests ds ts m rest
starting_word_with_arguments_is_command ds b t w word p roomy xs ts mid rest m split are odds (a, behind, (e, first), (r, end, (more, repetition_reader, gathered), (f, same))) =
    let all = repeated_tokens_are_passing_front is_argument_token more behind end repetition_reader in
    let tests = and_parts (is_arg a.kind) (not (has_first_byte 94 a.text)) first in
    let parts = open_command_ends_in_no_slash t word.atom p roomy in
    let makes = token_makes_command_with_any_args t.kind t.text word.atom p word.bare parts.1 in
    let r_is : r ≡ (args_with_further_tokens Any (a ∷ more), stop_of_last_token a more) = gathered ∙ folded_arguments_are_args_and_stop more (args_with_one_more Any a.text) a.stop a refl in
    let args_are : r.0 ≡ args_of_argument_tokens (a ∷ more) = ap (λ (x : Args × ℕ). x.0) r_is ∙ args_added_one_by_one_are_all_args a more in
    let atom_is : m.atom ≡ atom_of_command_and_args p (args_of_argument_tokens (a ∷ more)) = ap (λ (y : Member). y.atom) same ∙ ap (atom_of_command_and_args p) args_are in
    record {
      signs = xs;
      word = t;
      args = a ∷ more;
      split = split ∙ ap (λ (l : List TokenWithBytes). xs ++ (t ∷ l)) (e ∙ ap (λ (l : List TokenWithBytes). a ∷ l) (all.0 ∙ ap (λ (l : List TokenWithBytes). more ++ l) f));
      are_signs = are;
      are_args = (tests.0, all.1);
      atom = rw (false_is_that_whose_negation_is_true (has_first_byte 94 a.text) tests.1) (makes.1 (args_of_argument_tokens (a ∷ more)) parts.0 ∙ ap (λ (x : Atom). Some x) (sym atom_is));
      suits = ap (has_digests_only_if_allowed ds) atom_is ∙ allowed_digests_ignore_arguments ds p Any (args_of_argument_tokens (a ∷ more)) (ap (has_digests_only_if_allowed ds) (sym makes.0) ∙ word.suits);
      negated = ap (λ (y : Member). y.negated) same ∙ odds;
      digests = ap (λ (y : Member). y.digests) same;
      start = ap (λ (y : Member). y.start) same;
      stop = ap (λ (y : Member). y.stop) same ∙ ap (λ (x : Args × ℕ). x.1) r_is;
    }

starting_word_by_openness_is_command : (ds : List Digest) (b : Bool) (t : TokenWithBytes) (w : Option ArglessCommand × Member) (word : IsStartingWordOfCommand b ds t w) (o : Option ArglessCommand) → command_open_to_arguments t word.atom ≡ o
    → (xs ts mid rest : List TokenWithBytes) (m : Member) → ts ≡ xs ++ (t ∷ mid) → AllByRecursion (IsMark 33) xs → b ≡ is_odd_count_of_tokens xs → AreOptionalArguments (o, member_of_token_and_atom b ds t word.atom) mid m rest → IsCommandAfterDigests ds ts m rest
starting_word_by_openness_is_command ds b t w word None roomy xs ts mid rest m split are odds (e, same) = starting_word_alone_is_command ds b t w word xs ts rest m (split ∙ ap (λ (l : List TokenWithBytes). xs ++ (t ∷ l)) e) are odds same
starting_word_by_openness_is_command ds b t w word (Some p) roomy xs ts mid rest m split are odds (inl h) = starting_word_with_arguments_is_command ds b t w word p roomy xs ts mid rest m split are odds h
starting_word_by_openness_is_command ds b t w word (Some p) roomy xs ts mid rest m split are odds (inr (e, same)) = starting_word_alone_is_command ds b t w word xs ts rest m (split ∙ ap (λ (l : List TokenWithBytes). xs ++ (t ∷ l)) e) are odds same

sequence_is_command_after_digests : (ds : List Digest) (ts : List TokenWithBytes) (m : Member) (rest : List TokenWithBytes) → IsCommandAfterDigestsSequence ds ts m rest → IsCommandAfterDigests ds ts m rest
sequence_is_command_after_digests ds ts m rest (b, mid, signed, (w, behind, (t, e, has_meaning_by), h)) =
    let s = negation_signs_are_marks_of_odd_count ts b mid signed in
    let word = command_start_has_starting_word b ds t w has_meaning_by in
    starting_word_by_openness_is_command ds b t w word (command_open_to_arguments t word.atom) refl s.0 ts behind rest m (s.1 ∙ ap (λ (l : List TokenWithBytes). s.0 ++ l) e) s.2 s.3 (subst (λ (x : Option ArglessCommand × Member). AreOptionalArguments x behind m rest) word.made h)

same_member_has_no_optional_arguments : (o : Option ArglessCommand) (m n : Member) (rest : List TokenWithBytes) → n ≡ m → AreOptionalArguments (o, m) rest n rest
same_member_has_no_optional_arguments None m n rest e = (refl, e)
same_member_has_no_optional_arguments (Some p) m n rest e = inr (refl, e)

command_without_arguments_is_sequence : (ds : List Digest) (ts : List TokenWithBytes) (m : Member) (rest : List TokenWithBytes) (h : IsCommandAfterDigests ds ts m rest) → h.args ≡ [] → IsCommandAfterDigestsSequence ds ts m rest
command_without_arguments_is_sequence ds ts m rest h none =
    let t = h.word in
    let b = is_odd_count_of_tokens h.signs in
    let bare : command_atom_without_args t.kind t.text ≡ Some m.atom = ap (command_atom_of_tokens t) (sym none) ∙ h.atom in
    let same : m ≡ member_of_token_and_atom b ds t m.atom = λ i. record { start = h.start i; stop = (h.stop ∙ ap (stop_of_last_token t) none) i; negated = h.negated i; digests = h.digests i; atom = m.atom } in (
      b,
      t ∷ rest,
      negation_marks_are_negation_signs ts h.signs (t ∷ rest) (h.split ∙ ap (λ (l : List TokenWithBytes). h.signs ++ (t ∷ (l ++ rest))) none) h.are_signs,
      ((command_open_to_arguments t m.atom, member_of_token_and_atom b ds t m.atom), rest, (t, refl, allowed_atom_of_token_is_command_start b ds t m.atom bare h.suits), same_member_has_no_optional_arguments (command_open_to_arguments t m.atom) (member_of_token_and_atom b ds t m.atom) m rest same),
    )

command_with_arguments_is_sequence : (ds : List Digest) (ts : List TokenWithBytes) (m : Member) (rest : List TokenWithBytes) (h : IsCommandAfterDigests ds ts m rest) (a : TokenWithBytes) (more : List TokenWithBytes) → h.args ≡ a ∷ more → IsCommandAfterDigestsSequence ds ts m rest
command_with_arguments_is_sequence ds ts m rest h a more some =
    let t = h.word in
    let b = is_odd_count_of_tokens h.signs in
    let says = some_of_second_branch_has_false_test (has_first_byte 94 a.text) (command_atom_with_args t.kind t.text (args_of_argument_tokens (a ∷ more))) m.atom (ap (command_atom_of_tokens t) (sym some) ∙ h.atom) in
    let named = command_with_args_has_argless_command t.kind t.text (args_of_argument_tokens (a ∷ more)) m.atom says.1 in
    let p = named.named in
    let are : AllByRecursion IsArg (a ∷ more) = subst (AllByRecursion IsArg) some h.are_args in
    let m0 = member_of_token_and_atom b ds t (atom_of_command_and_args p Any) in
    let roomy : command_open_to_arguments t (atom_of_command_and_args p Any) ≡ Some p = named.takes in
    let fits : has_digests_only_if_allowed ds (atom_of_command_and_args p Any) ≡ true = allowed_digests_ignore_arguments ds p (args_of_argument_tokens (a ∷ more)) Any (ap (has_digests_only_if_allowed ds) named.made ∙ h.suits) in
    let word : command_start_of_token b ds t ≡ Some (Some p, m0) = allowed_atom_of_token_is_command_start b ds t (atom_of_command_and_args p Any) named.bare fits ∙ ap (λ (o : Option ArglessCommand). Some (o, m0)) roomy in
    let r : Args × ℕ = (args_with_further_tokens Any (a ∷ more), stop_of_last_token a more) in
    let atom_is : m.atom ≡ atom_of_command_and_args p r.0 = sym named.made ∙ ap (atom_of_command_and_args p) (sym (args_added_one_by_one_are_all_args a more)) in
    let same : m ≡ member_with_arguments p m0 r = λ i. record { start = h.start i; stop = (h.stop ∙ ap (stop_of_last_token t) some) i; negated = h.negated i; digests = h.digests i; atom = atom_is i } in (
      b,
      t ∷ ((a ∷ more) ++ rest),
      negation_marks_are_negation_signs ts h.signs (t ∷ ((a ∷ more) ++ rest)) (h.split ∙ ap (λ (l : List TokenWithBytes). h.signs ++ (t ∷ (l ++ rest))) some) h.are_signs,
      (
        (Some p, m0),
        (a ∷ more) ++ rest,
        (t, refl, word),
        inl (
          a,
          more ++ rest,
          (refl, rw are.0 (negation_of_false_is_true (has_first_byte 94 a.text) says.0)),
          (r, rest, (more, passing_front_is_repeated_tokens is_argument_token more (more ++ rest) rest refl are.1, sym (folded_arguments_are_args_and_stop more (args_with_one_more Any a.text) a.stop a refl)), (refl, same)),
        ),
      ),
    )

command_by_its_arguments_is_sequence : (ds : List Digest) (ts : List TokenWithBytes) (m : Member) (rest : List TokenWithBytes) (h : IsCommandAfterDigests ds ts m rest) (args : List TokenWithBytes) → h.args ≡ args → IsCommandAfterDigestsSequence ds ts m rest
command_by_its_arguments_is_sequence ds ts m rest h [] e = command_without_arguments_is_sequence ds ts m rest h e
command_by_its_arguments_is_sequence ds ts m rest h (a ∷ more) e = command_with_arguments_is_sequence ds ts m rest h a more e

command_after_digests_is_sequence : (ds : List Digest) (ts : List TokenWithBytes) (m : Member) (rest : List TokenWithBytes) → IsCommandAfterDigests ds ts m rest → IsCommandAfterDigestsSequence ds ts m rest
command_after_digests_is_sequence ds ts m rest h = command_by_its_arguments_is_sequence ds ts m rest h h.args refl

digests_are_allowed_for_atom_all : (ds : List Digest) → has_digests_only_if_allowed ds atom.All ≡ true
digests_are_allowed_for_atom_all [] = refl
digests_are_allowed_for_atom_all (d ∷ ds) = refl

token_of_word_all_is_command_atom : command_atom_without_args token_of_word_all.kind token_of_word_all.text ≡ Some atom.All
unfolding command_atom_without_args
token_of_word_all_is_command_atom = refl

command_start_has_sample_token : (b : Bool) (ds : List Digest) → HasSampleToken (command_start_of_token b ds)
command_start_has_sample_token b ds = record { piece = token_of_word_all; what = (command_open_to_arguments token_of_word_all atom.All, member_of_token_and_atom b ds token_of_word_all atom.All); is = allowed_atom_of_token_is_command_start b ds token_of_word_all atom.All token_of_word_all_is_command_atom (digests_are_allowed_for_atom_all ds) }

command_start_is_no_negation_sign : (b : Bool) (ds : List Digest) (mid : List TokenWithBytes) (w : Option ArglessCommand × Member) (rest : List TokenWithBytes) → IsOneTokenWithMeaning (command_start_of_token b ds) mid w rest → NextTokenFailsTest (is_mark_of_byte 33) mid
command_start_is_no_negation_sign b ds mid w rest (t, e, has_meaning_by) =
    let word = command_start_has_starting_word b ds t w has_meaning_by in
    ap (is_next_token (is_mark_of_byte 33)) e ∙ member_token_is_no_mark 33 t (command_atom_has_kind_of_member_token t.kind t.text word.atom word.bare)

pub command_after_digests_reader_follows_rule : (ds : List Digest) → ReaderFollowsRule (command_after_digests_reader ds) (IsCommandAfterDigests ds) is_argument_token
unfolding command_after_digests_reader
command_after_digests_reader_follows_rule ds = reader_follows_rule_saying_the_same (sequence_is_command_after_digests ds) (command_after_digests_is_sequence ds)
    (sequence_of_readers_follows_rules (λ b mid m rest h st. command_start_is_no_negation_sign b ds mid h.0 h.1 h.2) negation_reader_follows_rule (λ b. sequence_after_ended_reader_follows_rule (one_token_reader_follows_rule (command_start_of_token b ds) (command_start_has_sample_token b ds)) optional_arguments_reader_follows_rule))

-- ---- (Digest ("," Digest)*)? "!"* CmdAtom Arg*

empty_list_has_no_inner_token : (xs : List TokenWithBytes) (t : TokenWithBytes) (rest : List TokenWithBytes) → [] ≡ xs ++ (t ∷ rest) → ⊥
empty_list_has_no_inner_token [] t rest e = cc
empty_list_has_no_inner_token (x ∷ xs) t rest e = cc

-- what does not begin a command's word: what no mark is and no bare command
pub command_after_digests_fails_other_tests : (test : TokenWithBytes → Bool) → ((t : TokenWithBytes) → is_mark_of_byte 33 t ≡ true → test t ≡ false) → ((t : TokenWithBytes) (a : Atom) → command_atom_without_args t.kind t.text ≡ Some a → test t ≡ false)
    → (ds : List Digest) (ts : List TokenWithBytes) (m : Member) (rest : List TokenWithBytes) → IsCommandAfterDigests ds ts m rest → NextTokenFailsTest test ts
command_after_digests_fails_other_tests test mark word ds ts m rest h = ap (is_next_token test) h.split ∙ at h.signs h.are_signs
  where
    bare_first : (args : List TokenWithBytes) → command_atom_of_tokens h.word args ≡ Some m.atom → (a : Atom) × (command_atom_without_args h.word.kind h.word.text ≡ Some a)
    bare_first [] e = (m.atom, e)
    bare_first (a ∷ more) e =
        let says = some_of_second_branch_has_false_test (has_first_byte 94 a.text) (command_atom_with_args h.word.kind h.word.text (args_of_argument_tokens (a ∷ more))) m.atom e in
        let named = command_with_args_has_argless_command h.word.kind h.word.text (args_of_argument_tokens (a ∷ more)) m.atom says.1 in
        (atom_of_command_and_args named.named Any, named.bare)

    at : (xs : List TokenWithBytes) → AllByRecursion (IsMark 33) xs → is_next_token test (xs ++ (h.word ∷ (h.args ++ rest))) ≡ false
    at [] are = let b = bare_first h.args h.atom in word h.word b.0 b.1
    at (x ∷ xs) are = mark x are.0

command_after_digests_begins_no_digest : (ds : List Digest) (ts : List TokenWithBytes) (m : Member) (rest : List TokenWithBytes) → IsCommandAfterDigests ds ts m rest → NextTokenFailsTest may_continue_digest_list ts
command_after_digests_begins_no_digest = command_after_digests_fails_other_tests may_continue_digest_list
    (λ t e. both_false_implies_false_or (has_meaning_by digest_kind_of_token t) (is_mark_of_byte 44 t) (is_some_of_none_is_false (digest_kind_of_token t) (mark_is_no_digest_kind 33 t e)) (mark_is_no_other_mark 33 44 t e refl))
    (λ t a e. both_false_implies_false_or (has_meaning_by digest_kind_of_token t) (is_mark_of_byte 44 t) (is_some_of_none_is_false (digest_kind_of_token t) (command_is_no_digest_kind t a e)) (member_token_is_no_mark 44 t (command_atom_has_kind_of_member_token t.kind t.text a e)))

abbrev IsCommandSequence : GrammarRule Member
IsCommandSequence = IsSequenceOfRules AreOptionalDigests IsCommandAfterDigests

command_sequence_is_command : (ts : List TokenWithBytes) (m : Member) (rest : List TokenWithBytes) → IsRuleWithStart IsCommandSequence member_with_start ts m rest → IsCommand ts m rest
command_sequence_is_command ts m rest (x, (ds, mid, are, h), pure_reader_follows_rule_with_any_test) =
    let same : m.digests ≡ ds = ap (λ (y : Member). y.digests) pure_reader_follows_rule_with_any_test ∙ h.digests in
    let atom_is : m.atom ≡ x.atom = ap (λ (y : Member). y.atom) pure_reader_follows_rule_with_any_test in
    record {
      behind = mid;
      digests = subst (λ (l : List Digest). AreOptionalDigests ts l mid) (sym same) are;
      signs = h.signs;
      word = h.word;
      args = h.args;
      split = h.split;
      are_signs = h.are_signs;
      are_args = h.are_args;
      atom = h.atom ∙ ap (λ (a : Atom). Some a) (sym atom_is);
      suits = allowed_digests_may_be_had_by_member m.digests m (ap (λ (l : List Digest). has_digests_only_if_allowed l m.atom) same ∙ ap (has_digests_only_if_allowed ds) atom_is ∙ h.suits);
      negated = ap (λ (y : Member). y.negated) pure_reader_follows_rule_with_any_test ∙ h.negated;
      start = ap (λ (y : Member). y.start) pure_reader_follows_rule_with_any_test;
      stop = ap (λ (y : Member). y.stop) pure_reader_follows_rule_with_any_test ∙ h.stop;
    }

command_is_command_sequence : (ts : List TokenWithBytes) (m : Member) (rest : List TokenWithBytes) → IsCommand ts m rest → IsRuleWithStart IsCommandSequence member_with_start ts m rest
command_is_command_sequence ts m rest h = (member_with_start 0 m, (m.digests, h.behind, h.digests, bare), λ i. record { start = h.start i; stop = m.stop; negated = m.negated; digests = m.digests; atom = m.atom })
  where
    bare : IsCommandAfterDigests m.digests h.behind (member_with_start 0 m) rest
    bare = record {
      signs = h.signs;
      word = h.word;
      args = h.args;
      split = h.split;
      are_signs = h.are_signs;
      are_args = h.are_args;
      atom = h.atom;
      suits = member_with_digests_is_allowed_them m.digests m h.suits;
      negated = h.negated;
      digests = refl;
      start = refl;
      stop = h.stop;
    }

-- what does not begin a command
pub command_fails_other_tests : (test : TokenWithBytes → Bool) → ((t : TokenWithBytes) → is_mark_of_byte 33 t ≡ true → test t ≡ false) → ((t : TokenWithBytes) (a : Atom) → command_atom_without_args t.kind t.text ≡ Some a → test t ≡ false)
    → ((t : TokenWithBytes) (k : DigestKind) → digest_kind_of_token t ≡ Some k → test t ≡ false) → (ts : List TokenWithBytes) (m : Member) (rest : List TokenWithBytes) → IsCommand ts m rest → NextTokenFailsTest test ts
unfolding command_is_command_sequence
command_fails_other_tests test mark word digest_reader ts m rest h = at m.digests h.digests
  where
    at : (ds : List Digest) → AreOptionalDigests ts ds h.behind → NextTokenFailsTest test ts
    at [] e = ap (is_next_token test) e ∙ (let f = command_is_command_sequence ts m rest h in command_after_digests_fails_other_tests test mark word m.digests h.behind f.0 rest f.1.3)
    at (d ∷ ds) (mid, first, more) = ap (is_next_token test) first.split ∙ digest_reader first.word d.kind first.is_kind

command_sequence_takes_tokens : NeverTakesNoTokens IsCommandSequence
command_sequence_takes_tokens x ([], mid, are, h) = empty_list_has_no_inner_token h.signs h.word (h.args ++ []) (are ∙ h.split)
command_sequence_takes_tokens x (d ∷ ds, mid, (next, digest_reader, more), h) = let e = digest_reader.split in cc

pub command_reader_follows_rule : ReaderFollowsRule command_reader IsCommand is_argument_token
unfolding command_reader
command_reader_follows_rule = reader_follows_rule_saying_the_same command_sequence_is_command command_is_command_sequence
    (reader_with_start_follows_rule (optional_digests_reader >>= command_after_digests_reader) IsCommandSequence member_with_start is_argument_token command_sequence_takes_tokens (sequence_of_readers_follows_rules (λ ds mid m rest h st. command_after_digests_begins_no_digest ds mid m rest h) optional_digests_reader_follows_rule command_after_digests_reader_follows_rule))

comma_is_no_argument : (zs : List TokenWithBytes) → is_next_token (is_mark_of_byte 44) zs ≡ true → NextTokenFailsTest is_argument_token zs
comma_is_no_argument [] e = refl
comma_is_no_argument (z ∷ zs) e = mark_is_no_argument 44 z e

abbrev pub may_continue_command_list : TokenWithBytes → Bool
may_continue_command_list t = is_mark_of_byte 44 t || is_argument_token t

pub command_list_reader_follows_rule : ReaderFollowsRule (separated_list_reader 44 command_reader) AreCommands may_continue_command_list
command_list_reader_follows_rule = separated_lawful 44 command_reader IsCommand is_argument_token may_continue_command_list (λ zs st. (tokens_failing_either_test_fail_both (is_mark_of_byte 44) is_argument_token zs st).0) (λ zs st. (tokens_failing_either_test_fail_both (is_mark_of_byte 44) is_argument_token zs st).1) comma_is_no_argument command_reader_follows_rule

-- ---- a command of a scope

scope_command_sequence_is_scope_command : (ts : List TokenWithBytes) (m : Member) (rest : List TokenWithBytes) → IsRuleWithStart (IsCommandAfterDigests []) member_with_start ts m rest → IsScopeCommand ts m rest
scope_command_sequence_is_scope_command ts m rest (x, h, pure_reader_follows_rule_with_any_test) = (ap (λ (y : Member). y.digests) pure_reader_follows_rule_with_any_test ∙ h.digests, command_sequence_is_command ts m rest (x, ([], ts, refl, h), pure_reader_follows_rule_with_any_test))

scope_command_is_scope_command_sequence : (ts : List TokenWithBytes) (m : Member) (rest : List TokenWithBytes) → IsScopeCommand ts m rest → IsRuleWithStart (IsCommandAfterDigests []) member_with_start ts m rest
unfolding command_is_command_sequence
scope_command_is_scope_command_sequence ts m rest (none, h) =
    let f = command_is_command_sequence ts m rest h in
    let no : AreOptionalDigests ts [] f.1.1 = subst (λ (l : List Digest). AreOptionalDigests ts l f.1.1) none f.1.2 in
    (f.0, subst (λ (l : List TokenWithBytes). IsCommandAfterDigests [] l f.0 rest) (sym no) (subst (λ (ds : List Digest). IsCommandAfterDigests ds f.1.1 f.0 rest) none f.1.3), f.2)

command_without_digests_takes_tokens : NeverTakesNoTokens (IsCommandAfterDigests [])
command_without_digests_takes_tokens x h = empty_list_has_no_inner_token h.signs h.word (h.args ++ []) h.split

pub scope_command_reader_follows_rule : ReaderFollowsRule digestless_scope_command_reader IsScopeCommand is_argument_token
unfolding digestless_scope_command_reader
scope_command_reader_follows_rule = reader_follows_rule_saying_the_same scope_command_sequence_is_scope_command scope_command_is_scope_command_sequence (reader_with_start_follows_rule (command_after_digests_reader []) (IsCommandAfterDigests []) member_with_start is_argument_token command_without_digests_takes_tokens (command_after_digests_reader_follows_rule []))

pub scope_command_list_reader_follows_rule : ReaderFollowsRule (separated_list_reader 44 digestless_scope_command_reader) (Separated 44 IsScopeCommand) may_continue_command_list
scope_command_list_reader_follows_rule = separated_lawful 44 digestless_scope_command_reader IsScopeCommand is_argument_token may_continue_command_list (λ zs st. (tokens_failing_either_test_fail_both (is_mark_of_byte 44) is_argument_token zs st).0) (λ zs st. (tokens_failing_either_test_fail_both (is_mark_of_byte 44) is_argument_token zs st).1) comma_is_no_argument scope_command_reader_follows_rule
