-- What is asked of the members of a list: which atoms match it, and of which that is not known.
use Rattle.std.specs.Prelude.{◌&&◌, ◌||◌, not, Bool, false}
use Rattle.sudoers_grammar.specs.declared.node.Atom.{Atom}
use Rattle.sudoers_match_member.specs.declared.people_and_commands.CommandLine.{CommandLine}
use Rattle.sudoers_match_member.specs.declared.people_and_commands.Who.{Who}
use Rattle.sudoers_match_member.specs.Hits.{is_user_atom_match, is_runas_group_atom_match, is_host_atom_match, is_command_atom_match}
use Rattle.sudoers_match_list.specs.Flat.{SignedAtom, has_no_digests}
use Rattle.sudoers_undecided.specs.declared.member_question.MemberQuestion.{MemberQuestion}
use Rattle.sudoers_undecided.specs.declared.member_question.MemberQuestion.TheVariants as question
use Rattle.sudoers_undecided.specs.ListSway.{is_bare_and_undecided}
use Rattle.sudoers_undecided.specs.MatchTests.{has_no_interfaces, is_address_or_network_atom, is_netgroup_atom, is_netgroup_or_non_unix_group_atom, is_same_last_name_elsewhere}

abbrev pub is_atom_matched_by_question : MemberQuestion → Atom → Bool
is_atom_matched_by_question (question.User person) = is_user_atom_match person.now
is_atom_matched_by_question (question.Host who) = is_host_atom_match who.now
is_atom_matched_by_question (question.RunasGroup group) = is_runas_group_atom_match group.now
is_atom_matched_by_question (question.Command command) = is_command_atom_match command.now
is_atom_matched_by_question question.Nobody = λ a. false

abbrev pub is_host_atom_undecided : Who → Atom → Bool
is_host_atom_undecided who a = is_netgroup_atom a || (is_address_or_network_atom a && has_no_interfaces who.interfaces)

abbrev pub is_command_undecided : CommandLine → SignedAtom → Bool
is_command_undecided c s = (is_command_atom_match c s.atom && not (has_no_digests s.digests)) || is_same_last_name_elsewhere c s.atom

abbrev pub is_undecided_by_question : MemberQuestion → SignedAtom → Bool
is_undecided_by_question (question.User person) = is_bare_and_undecided is_netgroup_or_non_unix_group_atom
is_undecided_by_question (question.Host who) = is_bare_and_undecided (is_host_atom_undecided who.now)
is_undecided_by_question (question.RunasGroup group) = is_bare_and_undecided is_netgroup_or_non_unix_group_atom
is_undecided_by_question (question.Command command) = is_command_undecided command.now
is_undecided_by_question question.Nobody = λ s. false
