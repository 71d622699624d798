-- Runas parts, options, tags, commands with them, host groups and user specifications.
use Rattle.std.proofs.Common.{◌≡◌, ℕ, Bool, true, false, not, codes, ◌||◌, List, [], ◌∷◌, Option, Some, None, refl, sym, ap, ◌∙◌, subst}
use Rattle.sudoers_text.specs.declared.token.TokenKind.TheVariants as kind
use Rattle.sudoers_text.specs.Value.{value_of_word}
use Rattle.sudoers_grammar.specs.Number.{is_time_stamp_text}
use Rattle.sudoers_grammar.specs.declared.node.Kind.TheVariants.{User, Runas, Host}
use Rattle.sudoers_grammar.specs.declared.node.OptionName.{OptionName}
use Rattle.sudoers_grammar.specs.declared.node.OptionName.TheVariants as option_of
use Rattle.sudoers_grammar.specs.declared.node.Tag.{Tag}
use Rattle.sudoers_grammar.specs.declared.node.Tag.TheVariants as tag_is
use Rattle.sudoers_grammar.specs.Node.{Member, RunasSpec, CmdSpec, HostGroup, Node}
use Rattle.sudoers_grammar.specs.Node as node
use Rattle.sudoers_grammar.specs.Piece.{TokenWithBytes, is_some, is_mark_of_byte, option_of_token, tag_and_sign_of_token}
use Rattle.sudoers_grammar.specs.Atom.{option_value_of_token}
use Rattle.sudoers_grammar.specs.Fault.{sample_time_stamp}
use Rattle.sudoers_grammar.specs.Grammar.{Many, MarkThenRule, Separated, Perhaps, AreMembers, IsRunas, PerhapsRunas, IsOption, IsTag, IsCommand, IsCmdSpec, IsHostGroup}
use Rattle.sudoers_line_reader.proofs.Tokens.{is_kind_of_member_token, member_token_is_no_mark, mark_is_no_other_mark, mark_is_no_argument, word_is_no_mark, option_token_has_word_kind, tag_token_has_word_kind, digest_kind_token_has_word_kind, tag_is_no_option, digest_kind_is_no_option, digest_kind_is_no_tag, command_is_no_option, command_is_no_tag, command_atom_has_kind_of_member_token, mark_is_no_option, mark_is_no_tag}
use Rattle.sudoers_line_reader.specs.Reader.{TokenReader, is_next_token, ◌>>=◌, pure, one_token_reader, passing_token_reader, repetition_reader, snoc, reader_after_mark, separated_list_reader, ReaderConsumesTokens}
use Rattle.sudoers_line_reader.specs.Descent.{is_argument_token, has_meaning_by, member_list_reader, is_inside_runas_users, runas_users_reader, runas_groups_reader, runas_reader, option_reader, tag_reader, cmd_spec_reader, host_group_reader, user_spec_reader}
use Rattle.sudoers_line_reader.proofs.Keeps.{GrammarRule, NextTokenFailsTest, ReaderFollowsRule, is_token_of_empty_test, next_token_fails_empty_test, IsEmptyReadingOf, pure_reader_follows_rule, IsOneTokenWithMeaning, HasSampleToken, one_token_reader_follows_rule, IsOnePassingToken, IsSequenceOfRules, BeginsWithPassingToken}
use Rattle.sudoers_line_reader.proofs.Repeats.{one_token_reader_consumes_tokens, sequence_reader_consumes_tokens, rest_after_reader_is_no_longer, mark_reader_follows_rule, reader_after_mark_follows_rule, mark_then_rule_begins_with_mark, separated_lawful, all_lawful, repetition_fails_test_its_items_fail}
use Rattle.sudoers_line_reader.proofs.Parts.{sequence_of_readers_follows_rules, sequence_after_ended_reader_follows_rule, reader_follows_rule_saying_the_same, mapped_reader_follows_rule, list_or_nothing_reader_follows_rule, IsOptionalByRule, optional_reader_follows_rule, tokens_failing_either_test_fail_both, both_false_implies_false_or, is_some_of_none_is_false}
use Rattle.sudoers_line_reader.proofs.MemberLaws.{members_begin_with_sign_or_member_token, member_list_reader_follows_rule}
use Rattle.sudoers_line_reader.proofs.CommandLaws.{may_continue_command_list, command_fails_other_tests, command_reader_follows_rule}

-- ---- "(" List? (":" List)? ")"

abbrev may_continue_runas_users : TokenWithBytes → Bool
may_continue_runas_users t = is_inside_runas_users t || is_mark_of_byte 44 t

abbrev may_continue_runas_groups : TokenWithBytes → Bool
may_continue_runas_groups t = is_mark_of_byte 58 t || is_mark_of_byte 44 t

member_token_is_inside_runas_users : (t : TokenWithBytes) → is_kind_of_member_token t.kind ≡ true → is_inside_runas_users t ≡ true
member_token_is_inside_runas_users t e = ap not (both_false_implies_false_or (is_mark_of_byte 41 t) (is_mark_of_byte 58 t) (member_token_is_no_mark 41 t e) (member_token_is_no_mark 58 t e))

negation_sign_is_inside_runas_users : (t : TokenWithBytes) → is_mark_of_byte 33 t ≡ true → is_inside_runas_users t ≡ true
negation_sign_is_inside_runas_users t e = ap not (both_false_implies_false_or (is_mark_of_byte 41 t) (is_mark_of_byte 58 t) (mark_is_no_other_mark 33 41 t e refl) (mark_is_no_other_mark 33 58 t e refl))

runas_users_reader_follows_rule : ReaderFollowsRule runas_users_reader (Perhaps (AreMembers Runas)) may_continue_runas_users
unfolding runas_users_reader
runas_users_reader_follows_rule = list_or_nothing_reader_follows_rule may_continue_runas_users (λ zs st. (tokens_failing_either_test_fail_both is_inside_runas_users (is_mark_of_byte 44) zs st).0) (λ zs st. (tokens_failing_either_test_fail_both is_inside_runas_users (is_mark_of_byte 44) zs st).1)
    (members_begin_with_sign_or_member_token is_inside_runas_users true negation_sign_is_inside_runas_users member_token_is_inside_runas_users Runas) (λ ts rest h. h) (member_list_reader_follows_rule Runas)

runas_groups_reader_follows_rule : ReaderFollowsRule runas_groups_reader (Perhaps (MarkThenRule 58 (AreMembers Runas))) may_continue_runas_groups
unfolding runas_groups_reader
runas_groups_reader_follows_rule = list_or_nothing_reader_follows_rule may_continue_runas_groups (λ zs st. (tokens_failing_either_test_fail_both (is_mark_of_byte 58) (is_mark_of_byte 44) zs st).0) (λ zs st. (tokens_failing_either_test_fail_both (is_mark_of_byte 58) (is_mark_of_byte 44) zs st).1)
    (mark_then_rule_begins_with_mark 58 (AreMembers Runas)) (λ ts rest h. h.is) (reader_after_mark_follows_rule 58 (member_list_reader Runas) (AreMembers Runas) (is_mark_of_byte 44) (member_list_reader_follows_rule Runas))

abbrev runas_of_users_and_groups : List Member → List Member → RunasSpec
runas_of_users_and_groups us gs = record { users = us; groups = gs }

abbrev IsClosingOfRunas : List Member → List Member → GrammarRule RunasSpec
IsClosingOfRunas us gs = IsSequenceOfRules (IsOnePassingToken (is_mark_of_byte 41)) (λ _. IsEmptyReadingOf (runas_of_users_and_groups us gs))

abbrev AreGroupsAndClosingOfRunas : List Member → GrammarRule RunasSpec
AreGroupsAndClosingOfRunas us = IsSequenceOfRules (Perhaps (MarkThenRule 58 (AreMembers Runas))) (IsClosingOfRunas us)

abbrev IsRunasSequence : GrammarRule RunasSpec
IsRunasSequence = IsSequenceOfRules (IsOnePassingToken (is_mark_of_byte 40)) (λ _. IsSequenceOfRules (Perhaps (AreMembers Runas)) AreGroupsAndClosingOfRunas)

runas_sequence_is_runas : (ts : List TokenWithBytes) (r : RunasSpec) (rest : List TokenWithBytes) → IsRunasSequence ts r rest → IsRunas ts r rest
runas_sequence_is_runas ts r rest (t, inner, (e, is), (us, behind_users, hu, (gs, behind_groups, hg, (u, end, (f, iu), (g, er))))) = record {
  opening = t;
  inside = inner;
  behind_users = behind_users;
  behind_groups = behind_groups;
  closing = u;
  split = e;
  is_open = is;
  users = subst (λ (l : List Member). Perhaps (AreMembers Runas) inner l behind_users) (sym (ap (λ (x : RunasSpec). x.users) er)) hu;
  groups = subst (λ (l : List Member). Perhaps (MarkThenRule 58 (AreMembers Runas)) behind_users l behind_groups) (sym (ap (λ (x : RunasSpec). x.groups) er)) hg;
  split_groups = f ∙ ap (λ (l : List TokenWithBytes). u ∷ l) g;
  is_close = iu;
}

runas_is_runas_sequence : (ts : List TokenWithBytes) (r : RunasSpec) (rest : List TokenWithBytes) → IsRunas ts r rest → IsRunasSequence ts r rest
runas_is_runas_sequence ts r rest h =
    (h.opening, h.inside, (h.split, h.is_open), (r.users, h.behind_users, h.users, (r.groups, h.behind_groups, h.groups, (h.closing, rest, (h.split_groups, h.is_close), (refl, refl)))))

closing_mark_ends_users_and_groups : (t : TokenWithBytes) → is_mark_of_byte 41 t ≡ true → (may_continue_runas_users t ≡ false) × (may_continue_runas_groups t ≡ false)
closing_mark_ends_users_and_groups t e = (rw e (mark_is_no_other_mark 41 44 t e refl), both_false_implies_false_or (is_mark_of_byte 58 t) (is_mark_of_byte 44 t) (mark_is_no_other_mark 41 58 t e refl) (mark_is_no_other_mark 41 44 t e refl))

colon_ends_runas_users : (t : TokenWithBytes) → is_mark_of_byte 58 t ≡ true → may_continue_runas_users t ≡ false
colon_ends_runas_users t e = rw (e, mark_is_no_other_mark 58 41 t e refl) (mark_is_no_other_mark 58 44 t e refl)

runas_groups_continue_no_users : (us gs : List Member) (mid behind : List TokenWithBytes) (r : RunasSpec) (rest : List TokenWithBytes) → Perhaps (MarkThenRule 58 (AreMembers Runas)) mid gs behind → IsClosingOfRunas us gs behind r rest → NextTokenFailsTest may_continue_runas_users mid
runas_groups_continue_no_users us [] mid behind r rest e (u, end, (f, iu), g) = ap (is_next_token may_continue_runas_users) (e ∙ f) ∙ (closing_mark_ends_users_and_groups u iu).0
runas_groups_continue_no_users us (g ∷ gs) mid behind r rest is h = ap (is_next_token may_continue_runas_users) is.split ∙ colon_ends_runas_users is.mark is.is_mark

pub runas_reader_follows_rule : ReaderFollowsRule runas_reader IsRunas is_token_of_empty_test
unfolding runas_reader
runas_reader_follows_rule = reader_follows_rule_saying_the_same runas_sequence_is_runas runas_is_runas_sequence
    (sequence_after_ended_reader_follows_rule (mark_reader_follows_rule 40) (λ _. sequence_of_readers_follows_rules (λ us mid r rest h st. runas_groups_continue_no_users us h.0 mid h.1 r rest h.2 h.3) runas_users_reader_follows_rule
    (λ us. sequence_of_readers_follows_rules (λ gs mid r rest h st. ap (is_next_token may_continue_runas_groups) h.2.0 ∙ (closing_mark_ends_users_and_groups h.0 h.2.1).1) runas_groups_reader_follows_rule (λ gs. sequence_after_ended_reader_follows_rule (mark_reader_follows_rule 41) (λ _. pure_reader_follows_rule (runas_of_users_and_groups us gs))))))

pub runas_begins_with_opening_mark : BeginsWithPassingToken (is_mark_of_byte 40) IsRunas
runas_begins_with_opening_mark ts r rest h = ap (is_next_token (is_mark_of_byte 40)) h.split ∙ h.is_open

-- ---- OptionName "=" value

option_has_sample_token : HasSampleToken option_of_token
unfolding option_of_token
option_has_sample_token = record { piece = record { kind = kind.Word; text = codes "ROLE"; start = 0; stop = 0; last = false }; what = option_of.Role; is = refl }

sample_time_stamp_is_sample_option_value : (o : OptionName) → option_value_of_token o sample_time_stamp ≡ Some (codes "2030010100Z") → HasSampleToken (option_value_of_token o)
sample_time_stamp_is_sample_option_value o e = record { piece = sample_time_stamp; what = codes "2030010100Z"; is = e }

-- A time stamp does as the value of each option.
option_value_has_sample_token : (o : OptionName) → HasSampleToken (option_value_of_token o)
unfolding option_value_of_token is_time_stamp_text value_of_word
option_value_has_sample_token option_of.Role = sample_time_stamp_is_sample_option_value option_of.Role refl
option_value_has_sample_token option_of.Type = sample_time_stamp_is_sample_option_value option_of.Type refl
option_value_has_sample_token option_of.ApparmorProfile = sample_time_stamp_is_sample_option_value option_of.ApparmorProfile refl
option_value_has_sample_token option_of.Privs = sample_time_stamp_is_sample_option_value option_of.Privs refl
option_value_has_sample_token option_of.Limitprivs = sample_time_stamp_is_sample_option_value option_of.Limitprivs refl
option_value_has_sample_token option_of.Notbefore = sample_time_stamp_is_sample_option_value option_of.Notbefore refl
option_value_has_sample_token option_of.Notafter = sample_time_stamp_is_sample_option_value option_of.Notafter refl
option_value_has_sample_token option_of.Timeout = sample_time_stamp_is_sample_option_value option_of.Timeout refl
option_value_has_sample_token option_of.Cwd = sample_time_stamp_is_sample_option_value option_of.Cwd refl
option_value_has_sample_token option_of.Chroot = sample_time_stamp_is_sample_option_value option_of.Chroot refl

abbrev IsOptionSequence : GrammarRule (OptionName × List ℕ)
IsOptionSequence = IsSequenceOfRules (IsOneTokenWithMeaning option_of_token) (λ o. IsSequenceOfRules (IsOnePassingToken (is_mark_of_byte 61)) (λ _. IsSequenceOfRules (IsOneTokenWithMeaning (option_value_of_token o)) (λ v. IsEmptyReadingOf (o, v))))

option_sequence_is_option : (ts : List TokenWithBytes) (x : OptionName × List ℕ) (rest : List TokenWithBytes) → IsOptionSequence ts x rest → IsOption ts x rest
option_sequence_is_option ts x rest (o, mid, (t, e, named), (q, reader_after_mark, (f, equals), (v, end, (u, g, valued), (h, same)))) = record {
  name = t;
  equals = q;
  value = u;
  split = e ∙ ap (λ (l : List TokenWithBytes). t ∷ l) (f ∙ ap (λ (l : List TokenWithBytes). q ∷ l) (g ∙ ap (λ (l : List TokenWithBytes). u ∷ l) h));
  is_name = named ∙ ap (λ (y : OptionName × List ℕ). Some y.0) (sym same);
  is_equals = equals;
  is_value = subst (λ (y : OptionName × List ℕ). option_value_of_token y.0 u ≡ Some y.1) (sym same) valued;
}

option_is_option_sequence : (ts : List TokenWithBytes) (x : OptionName × List ℕ) (rest : List TokenWithBytes) → IsOption ts x rest → IsOptionSequence ts x rest
option_is_option_sequence ts x rest h = (x.0, h.equals ∷ h.value ∷ rest, (h.name, h.split, h.is_name), (h.equals, h.value ∷ rest, (refl, h.is_equals), (x.1, rest, (h.value, refl, h.is_value), (refl, refl))))

option_reader_follows_rule : ReaderFollowsRule option_reader IsOption is_token_of_empty_test
unfolding option_reader
option_reader_follows_rule = reader_follows_rule_saying_the_same option_sequence_is_option option_is_option_sequence
    (sequence_after_ended_reader_follows_rule (one_token_reader_follows_rule option_of_token option_has_sample_token) (λ o. sequence_after_ended_reader_follows_rule (mark_reader_follows_rule 61) (λ _. mapped_reader_follows_rule (λ v. (o, v)) (one_token_reader_follows_rule (option_value_of_token o) (option_value_has_sample_token o)))))

option_begins_with_option_name : BeginsWithPassingToken (has_meaning_by option_of_token) IsOption
option_begins_with_option_name ts x rest h = ap (is_next_token (has_meaning_by option_of_token)) h.split ∙ ap is_some h.is_name

-- ---- Tag ":"

tag_has_sample_token : HasSampleToken tag_and_sign_of_token
unfolding tag_and_sign_of_token
tag_has_sample_token = record { piece = record { kind = kind.Word; text = codes "EXEC"; start = 0; stop = 0; last = false }; what = (tag_is.Exec, true); is = refl }

tag_sequence_is_tag : (ts : List TokenWithBytes) (g : Tag × Bool) (rest : List TokenWithBytes) → IsSequenceOfRules (IsOneTokenWithMeaning tag_and_sign_of_token) (λ g. IsSequenceOfRules (IsOnePassingToken (is_mark_of_byte 58)) (λ _. IsEmptyReadingOf g)) ts g rest → IsTag ts g rest
tag_sequence_is_tag ts g rest (x, mid, (t, e, has_meaning_by), (c, reader_after_mark, (f, colon), (h, same))) = record {
  word = t;
  colon = c;
  split = e ∙ ap (λ (l : List TokenWithBytes). t ∷ l) (f ∙ ap (λ (l : List TokenWithBytes). c ∷ l) h);
  is_tag = has_meaning_by ∙ ap (λ (y : Tag × Bool). Some y) (sym same);
  is_colon = colon;
}

tag_is_tag_sequence : (ts : List TokenWithBytes) (g : Tag × Bool) (rest : List TokenWithBytes) → IsTag ts g rest → IsSequenceOfRules (IsOneTokenWithMeaning tag_and_sign_of_token) (λ g. IsSequenceOfRules (IsOnePassingToken (is_mark_of_byte 58)) (λ _. IsEmptyReadingOf g)) ts g rest
tag_is_tag_sequence ts g rest h = (g, h.colon ∷ rest, (h.word, h.split, h.is_tag), (h.colon, rest, (refl, h.is_colon), (refl, refl)))

tag_reader_follows_rule : ReaderFollowsRule tag_reader IsTag is_token_of_empty_test
unfolding tag_reader
tag_reader_follows_rule = reader_follows_rule_saying_the_same tag_sequence_is_tag tag_is_tag_sequence (sequence_after_ended_reader_follows_rule (one_token_reader_follows_rule tag_and_sign_of_token tag_has_sample_token) (λ g. sequence_after_ended_reader_follows_rule (mark_reader_follows_rule 58) (λ _. pure_reader_follows_rule g)))

tag_begins_with_tag_word : BeginsWithPassingToken (has_meaning_by tag_and_sign_of_token) IsTag
tag_begins_with_tag_word ts g rest h = ap (is_next_token (has_meaning_by tag_and_sign_of_token)) h.split ∙ ap is_some h.is_tag

-- ---- Runas? Option* (Tag ":")* Command

token_then_reader_consumes_tokens : {X Y : Type 0} (f : TokenWithBytes → Option X) (g : X → TokenReader Y) (IsG : X → GrammarRule Y) → ((x : X) → ReaderFollowsRule (g x) (IsG x) is_token_of_empty_test) → ReaderConsumesTokens (one_token_reader f >>= g)
token_then_reader_consumes_tokens f g IsG h = sequence_reader_consumes_tokens (one_token_reader f) g (one_token_reader_consumes_tokens f) (λ x. rest_after_reader_is_no_longer (g x) (IsG x) is_token_of_empty_test (h x))

pub option_reader_consumes_tokens : ReaderConsumesTokens option_reader
unfolding option_reader
option_reader_consumes_tokens = token_then_reader_consumes_tokens option_of_token (λ o. passing_token_reader (is_mark_of_byte 61) >>= (λ _. one_token_reader (option_value_of_token o) >>= (λ v. pure (o, v)))) (λ o. IsSequenceOfRules (IsOnePassingToken (is_mark_of_byte 61)) (λ _. IsSequenceOfRules (IsOneTokenWithMeaning (option_value_of_token o)) (λ v. IsEmptyReadingOf (o, v))))
    (λ o. sequence_after_ended_reader_follows_rule (mark_reader_follows_rule 61) (λ _. mapped_reader_follows_rule (λ v. (o, v)) (one_token_reader_follows_rule (option_value_of_token o) (option_value_has_sample_token o))))

pub tag_reader_consumes_tokens : ReaderConsumesTokens tag_reader
unfolding tag_reader
tag_reader_consumes_tokens = token_then_reader_consumes_tokens tag_and_sign_of_token (λ g. passing_token_reader (is_mark_of_byte 58) >>= (λ _. pure g)) (λ g. IsSequenceOfRules (IsOnePassingToken (is_mark_of_byte 58)) (λ _. IsEmptyReadingOf g)) (λ g. sequence_after_ended_reader_follows_rule (mark_reader_follows_rule 58) (λ _. pure_reader_follows_rule g))

options_reader_follows_rule : ReaderFollowsRule (repetition_reader snoc (has_meaning_by option_of_token) option_reader []) (Many IsOption) (has_meaning_by option_of_token)
options_reader_follows_rule = all_lawful (has_meaning_by option_of_token) option_reader IsOption option_reader_consumes_tokens option_begins_with_option_name option_reader_follows_rule

tags_reader_follows_rule : ReaderFollowsRule (repetition_reader snoc (has_meaning_by tag_and_sign_of_token) tag_reader []) (Many IsTag) (has_meaning_by tag_and_sign_of_token)
tags_reader_follows_rule = all_lawful (has_meaning_by tag_and_sign_of_token) tag_reader IsTag tag_reader_consumes_tokens tag_begins_with_tag_word tag_reader_follows_rule

mark_begins_no_argument : (b : ℕ) (zs : List TokenWithBytes) → is_next_token (is_mark_of_byte b) zs ≡ true → NextTokenFailsTest is_argument_token zs
mark_begins_no_argument b [] e = refl
mark_begins_no_argument b (z ∷ zs) e = mark_is_no_argument b z e

abbrev cmd_spec_of_parts : Option RunasSpec → List (OptionName × List ℕ) → List (Tag × Bool) → Member → CmdSpec
cmd_spec_of_parts r os gs m = record { runas = r; options = os; tags = gs; member = m }

abbrev AreTagsAndCommand : Option RunasSpec → List (OptionName × List ℕ) → GrammarRule CmdSpec
AreTagsAndCommand r os = IsSequenceOfRules (Many IsTag) (λ gs. IsSequenceOfRules IsCommand (λ m. IsEmptyReadingOf (cmd_spec_of_parts r os gs m)))

abbrev AreOptionsTagsAndCommand : Option RunasSpec → GrammarRule CmdSpec
AreOptionsTagsAndCommand r = IsSequenceOfRules (Many IsOption) (AreTagsAndCommand r)

abbrev IsCmdSpecSequence : GrammarRule CmdSpec
IsCmdSpecSequence = IsSequenceOfRules (IsOptionalByRule IsRunas) AreOptionsTagsAndCommand

perhaps_runas_is_optional_runas : (o : Option RunasSpec) (ts rest : List TokenWithBytes) → PerhapsRunas ts o rest → IsOptionalByRule IsRunas ts o rest
perhaps_runas_is_optional_runas None ts rest h = h
perhaps_runas_is_optional_runas (Some r) ts rest h = h

optional_runas_is_perhaps_runas : (o : Option RunasSpec) (ts rest : List TokenWithBytes) → IsOptionalByRule IsRunas ts o rest → PerhapsRunas ts o rest
optional_runas_is_perhaps_runas None ts rest h = h
optional_runas_is_perhaps_runas (Some r) ts rest h = h

cmd_spec_sequence_is_cmd_spec : (ts : List TokenWithBytes) (c : CmdSpec) (rest : List TokenWithBytes) → IsCmdSpecSequence ts c rest → IsCmdSpec ts c rest
cmd_spec_sequence_is_cmd_spec ts c rest (r, behind_runas, hr, (os, behind_options, ho, (gs, behind_tags, hg, (m, end, hm, (e, same))))) = record {
  behind_runas = behind_runas;
  behind_options = behind_options;
  behind_tags = behind_tags;
  runas = subst (λ (o : Option RunasSpec). PerhapsRunas ts o behind_runas) (sym (ap (λ (x : CmdSpec). x.runas) same)) (optional_runas_is_perhaps_runas r ts behind_runas hr);
  options = subst (λ (l : List (OptionName × List ℕ)). Many IsOption behind_runas l behind_options) (sym (ap (λ (x : CmdSpec). x.options) same)) ho;
  tags = subst (λ (l : List (Tag × Bool)). Many IsTag behind_options l behind_tags) (sym (ap (λ (x : CmdSpec). x.tags) same)) hg;
  member = subst (λ (x : Member). IsCommand behind_tags x rest) (sym (ap (λ (x : CmdSpec). x.member) same)) (subst (IsCommand behind_tags m) e hm);
}

cmd_spec_is_cmd_spec_sequence : (ts : List TokenWithBytes) (c : CmdSpec) (rest : List TokenWithBytes) → IsCmdSpec ts c rest → IsCmdSpecSequence ts c rest
cmd_spec_is_cmd_spec_sequence ts c rest h =
    (c.runas, h.behind_runas, perhaps_runas_is_optional_runas c.runas ts h.behind_runas h.runas, (c.options, h.behind_options, h.options, (c.tags, h.behind_tags, h.tags, (c.member, rest, h.member, (refl, refl)))))

option_fails_other_tests : (test : TokenWithBytes → Bool) → ((t : TokenWithBytes) (o : OptionName) → option_of_token t ≡ Some o → test t ≡ false) → (ts : List TokenWithBytes) (x : OptionName × List ℕ) (rest : List TokenWithBytes) → IsOption ts x rest → NextTokenFailsTest test ts
option_fails_other_tests test other ts x rest h = ap (is_next_token test) h.split ∙ other h.name x.0 h.is_name

tag_fails_other_tests : (test : TokenWithBytes → Bool) → ((t : TokenWithBytes) (g : Tag × Bool) → tag_and_sign_of_token t ≡ Some g → test t ≡ false) → (ts : List TokenWithBytes) (g : Tag × Bool) (rest : List TokenWithBytes) → IsTag ts g rest → NextTokenFailsTest test ts
tag_fails_other_tests test other ts g rest h = ap (is_next_token test) h.split ∙ other h.word g h.is_tag

command_begins_with_no_tag : (ts : List TokenWithBytes) (m : Member) (rest : List TokenWithBytes) → IsCommand ts m rest → NextTokenFailsTest (has_meaning_by tag_and_sign_of_token) ts
command_begins_with_no_tag = command_fails_other_tests (has_meaning_by tag_and_sign_of_token) (λ t e. is_some_of_none_is_false (tag_and_sign_of_token t) (mark_is_no_tag 33 t e)) (λ t a e. is_some_of_none_is_false (tag_and_sign_of_token t) (command_is_no_tag t a e)) (λ t k e. is_some_of_none_is_false (tag_and_sign_of_token t) (digest_kind_is_no_tag t k e))

command_begins_with_no_option : (ts : List TokenWithBytes) (m : Member) (rest : List TokenWithBytes) → IsCommand ts m rest → NextTokenFailsTest (has_meaning_by option_of_token) ts
command_begins_with_no_option = command_fails_other_tests (has_meaning_by option_of_token) (λ t e. is_some_of_none_is_false (option_of_token t) (mark_is_no_option 33 t e)) (λ t a e. is_some_of_none_is_false (option_of_token t) (command_is_no_option t a e)) (λ t k e. is_some_of_none_is_false (option_of_token t) (digest_kind_is_no_option t k e))

command_begins_with_no_other_mark : (b : ℕ) → ((t : TokenWithBytes) → is_mark_of_byte 33 t ≡ true → is_mark_of_byte b t ≡ false) → (ts : List TokenWithBytes) (m : Member) (rest : List TokenWithBytes) → IsCommand ts m rest → NextTokenFailsTest (is_mark_of_byte b) ts
command_begins_with_no_other_mark b sign = command_fails_other_tests (is_mark_of_byte b) sign (λ t a e. member_token_is_no_mark b t (command_atom_has_kind_of_member_token t.kind t.text a e)) (λ t k e. word_is_no_mark b t (digest_kind_token_has_word_kind t k e))

tags_and_command_begin_with_no_option : (r : Option RunasSpec) (os : List (OptionName × List ℕ)) (mid : List TokenWithBytes) (c : CmdSpec) (rest : List TokenWithBytes) → AreTagsAndCommand r os mid c rest → NextTokenFailsTest (has_meaning_by option_of_token) mid
tags_and_command_begin_with_no_option r os mid c rest (gs, reader_after_mark, hg, (m, end, hm, e)) =
    repetition_fails_test_its_items_fail IsTag (has_meaning_by option_of_token) (tag_fails_other_tests (has_meaning_by option_of_token) (λ t g e. is_some_of_none_is_false (option_of_token t) (tag_is_no_option t g e))) gs mid reader_after_mark hg (command_begins_with_no_option reader_after_mark m end hm)

options_begin_with_no_opening_mark : (r : Option RunasSpec) (mid : List TokenWithBytes) (c : CmdSpec) (rest : List TokenWithBytes) → AreOptionsTagsAndCommand r mid c rest → NextTokenFailsTest (is_mark_of_byte 40) mid
options_begin_with_no_opening_mark r mid c rest (os, behind_options, ho, (gs, reader_after_mark, hg, (m, end, hm, e))) =
    repetition_fails_test_its_items_fail IsOption (is_mark_of_byte 40) (option_fails_other_tests (is_mark_of_byte 40) (λ t o e. word_is_no_mark 40 t (option_token_has_word_kind t o e))) os mid behind_options ho
    (repetition_fails_test_its_items_fail IsTag (is_mark_of_byte 40) (tag_fails_other_tests (is_mark_of_byte 40) (λ t g e. word_is_no_mark 40 t (tag_token_has_word_kind t g e))) gs behind_options reader_after_mark hg (command_begins_with_no_other_mark 40 (λ t e. mark_is_no_other_mark 33 40 t e refl) reader_after_mark m end hm))

pub cmd_spec_reader_follows_rule : ReaderFollowsRule cmd_spec_reader IsCmdSpec is_argument_token
unfolding cmd_spec_reader
cmd_spec_reader_follows_rule = reader_follows_rule_saying_the_same cmd_spec_sequence_is_cmd_spec cmd_spec_is_cmd_spec_sequence
    (sequence_of_readers_follows_rules (λ r mid c rest h st. options_begin_with_no_opening_mark r mid c rest h) (optional_reader_follows_rule (is_mark_of_byte 40) (λ zs st. st) (λ zs st. next_token_fails_empty_test zs) runas_begins_with_opening_mark runas_reader_follows_rule)
    (λ r. sequence_of_readers_follows_rules (λ os mid c rest h st. tags_and_command_begin_with_no_option r os mid c rest h) options_reader_follows_rule
    (λ os. sequence_of_readers_follows_rules (λ gs mid c rest h st. command_begins_with_no_tag mid h.0 h.1 h.2) tags_reader_follows_rule (λ gs. mapped_reader_follows_rule (cmd_spec_of_parts r os gs) command_reader_follows_rule))))

-- ---- Hosts "=" CmdSpec ("," CmdSpec)*

cmd_spec_list_reader_follows_rule : ReaderFollowsRule (separated_list_reader 44 cmd_spec_reader) (Separated 44 IsCmdSpec) may_continue_command_list
cmd_spec_list_reader_follows_rule = separated_lawful 44 cmd_spec_reader IsCmdSpec is_argument_token may_continue_command_list (λ zs st. (tokens_failing_either_test_fail_both (is_mark_of_byte 44) is_argument_token zs st).0) (λ zs st. (tokens_failing_either_test_fail_both (is_mark_of_byte 44) is_argument_token zs st).1) (mark_begins_no_argument 44) cmd_spec_reader_follows_rule

abbrev host_group_of_hosts_and_commands : List Member → List CmdSpec → HostGroup
host_group_of_hosts_and_commands hs cs = record { hosts = hs; commands = cs }

abbrev IsHostGroupSequence : GrammarRule HostGroup
IsHostGroupSequence = IsSequenceOfRules (AreMembers Host) (λ hs. IsSequenceOfRules (IsOnePassingToken (is_mark_of_byte 61)) (λ _. IsSequenceOfRules (Separated 44 IsCmdSpec) (λ cs. IsEmptyReadingOf (host_group_of_hosts_and_commands hs cs))))

host_group_sequence_is_host_group : (ts : List TokenWithBytes) (g : HostGroup) (rest : List TokenWithBytes) → IsHostGroupSequence ts g rest → IsHostGroup ts g rest
host_group_sequence_is_host_group ts g rest (hs, behind_hosts, hh, (q, reader_after_mark, (e, equals), (cs, end, hc, (f, same)))) = record {
  behind_hosts = behind_hosts;
  equals = q;
  behind = reader_after_mark;
  hosts = subst (λ (l : List Member). AreMembers Host ts l behind_hosts) (sym (ap (λ (x : HostGroup). x.hosts) same)) hh;
  split = e;
  is_equals = equals;
  commands = subst (λ (l : List CmdSpec). Separated 44 IsCmdSpec reader_after_mark l rest) (sym (ap (λ (x : HostGroup). x.commands) same)) (subst (Separated 44 IsCmdSpec reader_after_mark cs) f hc);
}

host_group_is_host_group_sequence : (ts : List TokenWithBytes) (g : HostGroup) (rest : List TokenWithBytes) → IsHostGroup ts g rest → IsHostGroupSequence ts g rest
host_group_is_host_group_sequence ts g rest h = (g.hosts, h.behind_hosts, h.hosts, (h.equals, h.behind, (h.split, h.is_equals), (g.commands, rest, h.commands, (refl, refl))))

pub host_group_reader_follows_rule : ReaderFollowsRule host_group_reader IsHostGroup may_continue_command_list
unfolding host_group_reader
host_group_reader_follows_rule = reader_follows_rule_saying_the_same host_group_sequence_is_host_group host_group_is_host_group_sequence
    (sequence_of_readers_follows_rules (λ hs mid g rest h st. ap (is_next_token (is_mark_of_byte 44)) h.2.0 ∙ mark_is_no_other_mark 61 44 h.0 h.2.1 refl) (member_list_reader_follows_rule Host) (λ hs. sequence_after_ended_reader_follows_rule (mark_reader_follows_rule 61) (λ _. mapped_reader_follows_rule (host_group_of_hosts_and_commands hs) cmd_spec_list_reader_follows_rule)))

-- ---- Users Group (":" Group)*

abbrev pub may_continue_host_group_list : TokenWithBytes → Bool
may_continue_host_group_list t = is_mark_of_byte 58 t || may_continue_command_list t

pub colon_continues_no_command_list : (zs : List TokenWithBytes) → is_next_token (is_mark_of_byte 58) zs ≡ true → NextTokenFailsTest may_continue_command_list zs
colon_continues_no_command_list [] e = refl
colon_continues_no_command_list (z ∷ zs) e = both_false_implies_false_or (is_mark_of_byte 44 z) (is_argument_token z) (mark_is_no_other_mark 58 44 z e refl) (mark_is_no_argument 58 z e)

host_group_list_reader_follows_rule : ReaderFollowsRule (separated_list_reader 58 host_group_reader) (Separated 58 IsHostGroup) may_continue_host_group_list
host_group_list_reader_follows_rule = separated_lawful 58 host_group_reader IsHostGroup may_continue_command_list may_continue_host_group_list (λ zs st. (tokens_failing_either_test_fail_both (is_mark_of_byte 58) may_continue_command_list zs st).0) (λ zs st. (tokens_failing_either_test_fail_both (is_mark_of_byte 58) may_continue_command_list zs st).1) colon_continues_no_command_list host_group_reader_follows_rule

abbrev pub IsUserSpecSequence : GrammarRule Node
IsUserSpecSequence = IsSequenceOfRules (AreMembers User) (λ us. IsSequenceOfRules (Separated 58 IsHostGroup) (λ gs. IsEmptyReadingOf (node.Spec us gs)))

host_groups_begin_with_no_comma : (ts : List TokenWithBytes) (gs : List HostGroup) (rest : List TokenWithBytes) → Separated 58 IsHostGroup ts gs rest → NextTokenFailsTest (is_mark_of_byte 44) ts
host_groups_begin_with_no_comma ts [] rest h = absurd h
host_groups_begin_with_no_comma ts (g ∷ gs) rest (mid, is, more) = members_begin_with_sign_or_member_token (is_mark_of_byte 44) false (λ t e. mark_is_no_other_mark 33 44 t e refl) (member_token_is_no_mark 44) Host ts g.hosts is.behind_hosts is.hosts

pub user_spec_reader_follows_rule : ReaderFollowsRule user_spec_reader IsUserSpecSequence may_continue_host_group_list
unfolding user_spec_reader
user_spec_reader_follows_rule = sequence_of_readers_follows_rules (λ us mid n rest h st. host_groups_begin_with_no_comma mid h.0 h.1 h.2) (member_list_reader_follows_rule User) (λ us. mapped_reader_follows_rule (node.Spec us) host_group_list_reader_follows_rule)
