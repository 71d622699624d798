-- Signs, members and their lists.
use Rattle.std.proofs.Common.{◌≡◌, Bool, true, false, not, codes, List, [], ◌∷◌, ◌++◌, Some, option_map, refl, sym, ap, ◌∙◌}
use Rattle.std.specs.List.{AllByRecursion}
use Rattle.sudoers_text.specs.declared.token.TokenKind.TheVariants as kind
use Rattle.sudoers_grammar.specs.declared.node.Kind.{Kind}
use Rattle.sudoers_grammar.specs.declared.node.Kind.TheVariants.{User, Runas, Host, Cmnd}
use Rattle.sudoers_grammar.specs.declared.node.Atom.TheVariants as atom
use Rattle.sudoers_grammar.specs.Node.{Member}
use Rattle.sudoers_grammar.specs.Piece.{TokenWithBytes, is_mark_of_byte}
use Rattle.sudoers_grammar.specs.Atom.{atom_of_token, user_atom_of_token, user_atom_of_word, host_atom_of_token, host_atom_without_escapes, command_atom_without_args}
use Rattle.sudoers_grammar.specs.Grammar.{Many, IsMark, is_odd_count_of_tokens, start_of_first_token, IsMember, AreMembers}
use Rattle.sudoers_line_reader.proofs.Tokens.{is_kind_of_member_token, atom_of_token_has_kind_of_member_token, member_token_is_no_mark}
use Rattle.sudoers_line_reader.proofs.Gathered.{sign_toggled_by_each_token, toggled_false_is_odd_count}
use Rattle.sudoers_line_reader.specs.Reader.{is_next_token, ◌>>=◌, one_token_reader, passing_token_reader}
use Rattle.sudoers_line_reader.specs.Descent.{sign_toggled_by_mark, negation_reader, member_of_token_and_atom, member_with_start, member_of_single_token, member_reader, member_list_reader}
use Rattle.sudoers_line_reader.proofs.Keeps.{GrammarRule, NextTokenFailsTest, ReaderFollowsRule, is_token_of_empty_test, next_token_fails_empty_test, IsOneTokenWithMeaning, HasSampleToken, one_token_reader_follows_rule, IsOnePassingToken, IsSequenceOfRules, IsRuleWithStart, NeverTakesNoTokens, reader_with_start_follows_rule}
use Rattle.sudoers_line_reader.proofs.Repeats.{left_fold_of_list, IsFoldOfRepeatedRule, many_lawful, passing_token_reader_consumes_tokens, mark_reader_follows_rule, separated_lawful}
use Rattle.sudoers_line_reader.proofs.Parts.{sequence_of_readers_follows_rules, reader_follows_rule_saying_the_same, mapped_some_is_value_of_some}

-- ---- tokens one behind another

pub repeated_tokens_are_passing_front : (test : TokenWithBytes → Bool) (xs ts rest : List TokenWithBytes) → Many (IsOnePassingToken test) ts xs rest → (ts ≡ xs ++ rest) × AllByRecursion (λ t. test t ≡ true) xs
repeated_tokens_are_passing_front test [] ts rest h = (h, tt)
repeated_tokens_are_passing_front test (x ∷ xs) ts rest (mid, (e, is), later) =
    let r = repeated_tokens_are_passing_front test xs mid rest later in
    (e ∙ ap (λ (l : List TokenWithBytes). x ∷ l) r.0, (is, r.1))

pub passing_front_is_repeated_tokens : (test : TokenWithBytes → Bool) (xs ts rest : List TokenWithBytes) → ts ≡ xs ++ rest → AllByRecursion (λ t. test t ≡ true) xs → Many (IsOnePassingToken test) ts xs rest
passing_front_is_repeated_tokens test [] ts rest e h = e
passing_front_is_repeated_tokens test (x ∷ xs) ts rest e h = (xs ++ rest, (e, h.0), passing_front_is_repeated_tokens test xs (xs ++ rest) rest refl h.1)

-- ---- "!"*

pub AreNegationSigns : GrammarRule Bool
AreNegationSigns = IsFoldOfRepeatedRule sign_toggled_by_mark (IsOnePassingToken (is_mark_of_byte 33)) false

folded_signs_are_toggled_sign : (ts : List TokenWithBytes) (b : Bool) → left_fold_of_list sign_toggled_by_mark b ts ≡ sign_toggled_by_each_token b ts
folded_signs_are_toggled_sign [] b = refl
folded_signs_are_toggled_sign (t ∷ ts) b = folded_signs_are_toggled_sign ts (not b)

folded_signs_are_odd_count : (ts : List TokenWithBytes) → left_fold_of_list sign_toggled_by_mark false ts ≡ is_odd_count_of_tokens ts
folded_signs_are_odd_count ts = folded_signs_are_toggled_sign ts false ∙ toggled_false_is_odd_count ts

pub negation_reader_follows_rule : ReaderFollowsRule negation_reader AreNegationSigns (is_mark_of_byte 33)
unfolding AreNegationSigns negation_reader
negation_reader_follows_rule = many_lawful sign_toggled_by_mark (is_mark_of_byte 33) (passing_token_reader (is_mark_of_byte 33)) (IsOnePassingToken (is_mark_of_byte 33)) is_token_of_empty_test (is_mark_of_byte 33) (passing_token_reader_consumes_tokens (is_mark_of_byte 33)) (λ zs st. st) (λ zs st. next_token_fails_empty_test zs) (λ zs e. next_token_fails_empty_test zs)
    (λ ts t rest h. ap (is_next_token (is_mark_of_byte 33)) h.0 ∙ h.1) (mark_reader_follows_rule 33) false

-- what signs are, and how many
pub negation_signs_are_marks_of_odd_count : (ts : List TokenWithBytes) (b : Bool) (rest : List TokenWithBytes) → AreNegationSigns ts b rest → (xs : List TokenWithBytes) × (ts ≡ xs ++ rest) × AllByRecursion (IsMark 33) xs × (b ≡ is_odd_count_of_tokens xs)
unfolding AreNegationSigns
negation_signs_are_marks_of_odd_count ts b rest (xs, h, e) = let all = repeated_tokens_are_passing_front (is_mark_of_byte 33) xs ts rest h in (xs, all.0, all.1, e ∙ folded_signs_are_odd_count xs)

pub negation_marks_are_negation_signs : (ts xs rest : List TokenWithBytes) → ts ≡ xs ++ rest → AllByRecursion (IsMark 33) xs → AreNegationSigns ts (is_odd_count_of_tokens xs) rest
unfolding AreNegationSigns
negation_marks_are_negation_signs ts xs rest e all = (xs, passing_front_is_repeated_tokens (is_mark_of_byte 33) xs ts rest e all, sym (folded_signs_are_odd_count xs))

-- ---- "!"* Atom

abbrev pub token_of_word_all : TokenWithBytes
token_of_word_all = record { kind = kind.Word; text = codes "ALL"; start = 0; stop = 0; last = false }

token_of_word_all_is_atom_all : (k : Kind) → atom_of_token k token_of_word_all ≡ Some atom.All
unfolding atom_of_token user_atom_of_token user_atom_of_word host_atom_of_token host_atom_without_escapes command_atom_without_args
token_of_word_all_is_atom_all User = refl
token_of_word_all_is_atom_all Runas = refl
token_of_word_all_is_atom_all Host = refl
token_of_word_all_is_atom_all Cmnd = refl

single_token_member_has_sample_token : (k : Kind) (b : Bool) → HasSampleToken (member_of_single_token k b)
single_token_member_has_sample_token k b = record { piece = token_of_word_all; what = member_of_token_and_atom b [] token_of_word_all atom.All; is = ap (option_map (member_of_token_and_atom b [] token_of_word_all)) (token_of_word_all_is_atom_all k) }

abbrev IsMemberAfterSigns : Kind → GrammarRule Member
IsMemberAfterSigns k = IsSequenceOfRules AreNegationSigns (λ b. IsOneTokenWithMeaning (member_of_single_token k b))

member_after_signs_is_member : (k : Kind) (ts : List TokenWithBytes) (m : Member) (rest : List TokenWithBytes) → IsRuleWithStart (IsMemberAfterSigns k) member_with_start ts m rest → IsMember k ts m rest
member_after_signs_is_member k ts m rest (x, (b, mid, signed, (t, e, says)), made) =
    let s = negation_signs_are_marks_of_odd_count ts b mid signed in
    let a = mapped_some_is_value_of_some (member_of_token_and_atom b [] t) (atom_of_token k t) x says in
    let same : m ≡ member_with_start (start_of_first_token ts) (member_of_token_and_atom b [] t a.0) = made ∙ ap (member_with_start (start_of_first_token ts)) a.2 in
    record {
      signs = s.0;
      last = t;
      split = s.1 ∙ ap (λ (l : List TokenWithBytes). s.0 ++ l) e;
      are_signs = s.2;
      atom = a.1 ∙ ap (λ (y : Member). Some y.atom) (sym same);
      negated = ap (λ (y : Member). y.negated) same ∙ s.3;
      digests = ap (λ (y : Member). y.digests) same;
      start = ap (λ (y : Member). y.start) same;
      stop = ap (λ (y : Member). y.stop) same;
    }

member_is_made_of_signs_and_atom : (k : Kind) (ts : List TokenWithBytes) (m : Member) (rest : List TokenWithBytes) (h : IsMember k ts m rest) → m ≡ member_with_start (start_of_first_token ts) (member_of_token_and_atom (is_odd_count_of_tokens h.signs) [] h.last m.atom)
member_is_made_of_signs_and_atom k ts m rest h = λ i. record { start = h.start i; stop = h.stop i; negated = h.negated i; digests = h.digests i; atom = m.atom }

member_is_member_after_signs : (k : Kind) (ts : List TokenWithBytes) (m : Member) (rest : List TokenWithBytes) → IsMember k ts m rest → IsRuleWithStart (IsMemberAfterSigns k) member_with_start ts m rest
member_is_member_after_signs k ts m rest h =
    (member_of_token_and_atom (is_odd_count_of_tokens h.signs) [] h.last m.atom, (is_odd_count_of_tokens h.signs, h.last ∷ rest, negation_marks_are_negation_signs ts h.signs (h.last ∷ rest) h.split h.are_signs, (h.last, refl, ap (option_map (member_of_token_and_atom (is_odd_count_of_tokens h.signs) [] h.last)) h.atom)), member_is_made_of_signs_and_atom k ts m rest h)

atom_begins_with_no_negation_sign : (k : Kind) (b : Bool) (mid : List TokenWithBytes) (m : Member) (rest : List TokenWithBytes) → IsOneTokenWithMeaning (member_of_single_token k b) mid m rest → NextTokenFailsTest (is_mark_of_byte 33) mid
atom_begins_with_no_negation_sign k b mid m rest (t, e, says) =
    let a = mapped_some_is_value_of_some (member_of_token_and_atom b [] t) (atom_of_token k t) m says in
    ap (is_next_token (is_mark_of_byte 33)) e ∙ member_token_is_no_mark 33 t (atom_of_token_has_kind_of_member_token k t a.0 a.1)

member_after_signs_takes_tokens : (k : Kind) → NeverTakesNoTokens (IsMemberAfterSigns k)
member_after_signs_takes_tokens k x (b, mid, signed, (t, e, says)) = let s = negation_signs_are_marks_of_odd_count [] b mid signed in none s.0 (s.1 ∙ ap (λ (l : List TokenWithBytes). s.0 ++ l) e)
  where
    none : (xs : List TokenWithBytes) → [] ≡ xs ++ t ∷ [] → ⊥
    none [] e = cc
    none (y ∷ ys) e = cc

-- what a member begins with
pub member_begins_with_sign_or_member_token : (test : TokenWithBytes → Bool) (b : Bool) → ((t : TokenWithBytes) → is_mark_of_byte 33 t ≡ true → test t ≡ b) → ((t : TokenWithBytes) → is_kind_of_member_token t.kind ≡ true → test t ≡ b)
    → (k : Kind) (ts : List TokenWithBytes) (m : Member) (rest : List TokenWithBytes) → IsMember k ts m rest → is_next_token test ts ≡ b
member_begins_with_sign_or_member_token test b mark plain k ts m rest h = ap (is_next_token test) h.split ∙ at h.signs h.are_signs
  where
    at : (xs : List TokenWithBytes) → AllByRecursion (IsMark 33) xs → is_next_token test (xs ++ h.last ∷ rest) ≡ b
    at [] are = plain h.last (atom_of_token_has_kind_of_member_token k h.last m.atom h.atom)
    at (x ∷ xs) are = mark x are.0

pub members_begin_with_sign_or_member_token : (test : TokenWithBytes → Bool) (b : Bool) → ((t : TokenWithBytes) → is_mark_of_byte 33 t ≡ true → test t ≡ b) → ((t : TokenWithBytes) → is_kind_of_member_token t.kind ≡ true → test t ≡ b)
    → (k : Kind) (ts : List TokenWithBytes) (ms : List Member) (rest : List TokenWithBytes) → AreMembers k ts ms rest → is_next_token test ts ≡ b
members_begin_with_sign_or_member_token test b mark plain k ts [] rest h = absurd h
members_begin_with_sign_or_member_token test b mark plain k ts (m ∷ ms) rest (mid, is, more) = member_begins_with_sign_or_member_token test b mark plain k ts m mid is

pub member_reader_follows_rule : (k : Kind) → ReaderFollowsRule (member_reader k) (IsMember k) is_token_of_empty_test
unfolding member_reader
member_reader_follows_rule k = reader_follows_rule_saying_the_same (member_after_signs_is_member k) (member_is_member_after_signs k)
    (reader_with_start_follows_rule (negation_reader >>= (λ b. one_token_reader (member_of_single_token k b))) (IsMemberAfterSigns k) member_with_start is_token_of_empty_test (member_after_signs_takes_tokens k)
    (sequence_of_readers_follows_rules (λ b mid m rest h st. atom_begins_with_no_negation_sign k b mid m rest h) negation_reader_follows_rule (λ b. one_token_reader_follows_rule (member_of_single_token k b) (single_token_member_has_sample_token k b))))

pub member_list_reader_follows_rule : (k : Kind) → ReaderFollowsRule (member_list_reader k) (AreMembers k) (is_mark_of_byte 44)
unfolding member_list_reader
member_list_reader_follows_rule k = separated_lawful 44 (member_reader k) (IsMember k) is_token_of_empty_test (is_mark_of_byte 44) (λ zs st. st) (λ zs st. next_token_fails_empty_test zs) (λ zs e. next_token_fails_empty_test zs) (member_reader_follows_rule k)
