-- Ways to decide what matches a request.
use Rattle.std.specs.Prelude.{◌≡◌, ◌&&◌, ◌||◌, not, Bool, true, false, List, [], ◌∷◌}
use Rattle.std.specs.Str.{bytes_eq}
use Rattle.sudoers_grammar.specs.declared.node.Atom.{Atom}
use Rattle.sudoers_grammar.specs.declared.node.Atom.TheVariants as atom
use Rattle.sudoers_match_member.specs.declared.people_and_commands.Group.{Group}
use Rattle.sudoers_match_member.specs.declared.network.Interface.{Interface}
use Rattle.sudoers_match_member.specs.declared.request.Request.{Request}
use Rattle.sudoers_match_member.specs.declared.people_and_commands.CommandLine.{CommandLine}
use Rattle.sudoers_match_member.specs.declared.wildcards.GlobMode.TheVariants as mode
use Rattle.sudoers_match_member.specs.Hits.{is_user_atom_match, is_runas_group_atom_match, is_host_atom_match, is_command_atom_match, path_split_at_last_slash, is_command_args_match, is_command_path_match}
use Rattle.sudoers_match_list.specs.Flat.{SignedAtom, has_no_digests}
use Rattle.sudoers_match.specs.Answer.{command_with_joined_arguments_of_request, is_request_command_hit}

-- A test for each list: which atoms match the user, the host, the user as whom a command is to run and a group as which it is, and which
-- signed atoms match the command.
pub record MatchTests : Type 0 where
  pub user : Atom → Bool
  pub host : Atom → Bool
  pub target : Atom → Bool
  pub group : Group → Atom → Bool
  pub command : SignedAtom → Bool

-- the tests of answers: what they cannot decide matches nothing
abbrev pub match_tests_of_request : Request → MatchTests
match_tests_of_request r = record {
  user = is_user_atom_match r.who.user;
  host = is_host_atom_match r.who;
  target = is_user_atom_match r.target;
  group = is_runas_group_atom_match;
  command = is_request_command_hit r;
}

-- The other tests decide as these do all that is not undecided.
pub record AgreesOnDecidedAtoms (undecided tests other : MatchTests) : Type 0 where
  pub user : (a : Atom) → undecided.user a ≡ false → other.user a ≡ tests.user a
  pub host : (a : Atom) → undecided.host a ≡ false → other.host a ≡ tests.host a
  pub target : (a : Atom) → undecided.target a ≡ false → other.target a ≡ tests.target a
  pub group : (g : Group) (a : Atom) → undecided.group g a ≡ false → other.group g a ≡ tests.group g a
  pub command : (s : SignedAtom) → undecided.command s ≡ false → other.command s ≡ tests.command s

-- What is undecided matches nothing.
pub record MatchesNoUndecidedAtom (undecided tests : MatchTests) : Type 0 where
  pub user : (a : Atom) → undecided.user a ≡ true → tests.user a ≡ false
  pub host : (a : Atom) → undecided.host a ≡ true → tests.host a ≡ false
  pub target : (a : Atom) → undecided.target a ≡ true → tests.target a ≡ false
  pub group : (g : Group) (a : Atom) → undecided.group g a ≡ true → tests.group g a ≡ false
  pub command : (s : SignedAtom) → undecided.command s ≡ true → tests.command s ≡ false

-- ---- what files cannot decide

abbrev pub is_netgroup_atom : Atom → Bool
is_netgroup_atom (atom.Netgroup name) = true
is_netgroup_atom other = false

abbrev pub is_netgroup_or_non_unix_group_atom : Atom → Bool
is_netgroup_or_non_unix_group_atom (atom.Netgroup name) = true
is_netgroup_or_non_unix_group_atom (atom.NonUnix name) = true
is_netgroup_or_non_unix_group_atom other = false

abbrev pub is_address_or_network_atom : Atom → Bool
is_address_or_network_atom (atom.Address address) = true
is_address_or_network_atom (atom.Network address mask) = true
is_address_or_network_atom other = false

abbrev pub has_no_interfaces : List Interface → Bool
has_no_interfaces [] = true
has_no_interfaces (i ∷ is) = false

-- Netgroups and non-Unix groups; addresses and networks where no interface is known; commands with digests whose path and arguments match.
abbrev pub undecided_by_files : Request → MatchTests
undecided_by_files r = record {
  user = is_netgroup_or_non_unix_group_atom;
  host = λ a. is_netgroup_atom a || (is_address_or_network_atom a && has_no_interfaces r.who.interfaces);
  target = is_netgroup_or_non_unix_group_atom;
  group = λ g. is_netgroup_or_non_unix_group_atom;
  command = λ s. is_command_atom_match (command_with_joined_arguments_of_request r) s.atom && not (has_no_digests s.digests);
}

-- ---- and what the name of a command does not decide

-- a path with the same last name that does not match, while its arguments do
abbrev pub is_same_last_name_elsewhere : CommandLine → Atom → Bool
is_same_last_name_elsewhere c (atom.Path path args) =
    (bytes_eq (path_split_at_last_slash path).1 (path_split_at_last_slash c.path).1 && is_command_args_match mode.Args c.args args) && not (is_command_path_match c.path path)
is_same_last_name_elsewhere c other = false

-- The same, and commands whose path has the last name of the command that is asked for, in another folder: both may be one file.
abbrev pub undecided_by_files_or_paths : Request → MatchTests
undecided_by_files_or_paths r = record {
  user = (undecided_by_files r).user;
  host = (undecided_by_files r).host;
  target = (undecided_by_files r).target;
  group = (undecided_by_files r).group;
  command = λ s. (undecided_by_files r).command s || is_same_last_name_elsewhere (command_with_joined_arguments_of_request r) s.atom;
}
