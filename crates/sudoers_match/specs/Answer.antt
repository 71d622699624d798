-- The answer to a request: that of the last matching row (sudoers(5): the last match is used).
use Rattle.std.specs.Prelude.{◌≡◌, ◌&&◌, ℕ, Bool, true, List, [], ◌∷◌, ◌++◌, Option, Some, None, if◌then◌else◌}
use Rattle.std.specs.Option.{option_map, option_or}
use Rattle.sudoers_grammar.specs.declared.node.Atom.{Atom}
use Rattle.sudoers_grammar.specs.declared.node.Kind.TheVariants.{User, Host}
use Rattle.sudoers_tree.specs.Line.{Line}
use Rattle.sudoers_match_member.specs.declared.people_and_commands.CommandLine.{CommandLine}
use Rattle.sudoers_match_member.specs.Hits.{is_user_atom_match, is_host_atom_match, is_command_atom_match}
use Rattle.sudoers_match_list.specs.Flat.{SignedAtom, is_all_atom, has_no_digests}
use Rattle.sudoers_match.specs.declared.tags.CommandTags.{CommandTags}
use Rattle.sudoers_match_member.specs.declared.request.Request.{Request}
use Rattle.sudoers_match.specs.declared.answer_of_row.Answer.{Answer as AnswerHeld}
use Rattle.sudoers_match.specs.Allows.{ListAllows}
use Rattle.sudoers_match.specs.Heads.{final_tags_of}
use Rattle.sudoers_match.specs.Last.{IsLastItemWith}
use Rattle.sudoers_match.specs.Moment.{is_in_option_time_bounds}
use Rattle.sudoers_match.specs.Rows.{PrivilegeRow, AreRowsPerFlatAtomOfPolicy}
use Rattle.sudoers_match.specs.Runas.{RunasSpecAllows}
use Rattle.sudoers_match.specs.Values.{OptionValues, final_values_of_options, option_values_of_view}

abbrev pub words_each_after_space : List (List ℕ) → List ℕ
words_each_after_space [] = []
words_each_after_space (word ∷ words) = 32 ∷ word ++ words_each_after_space words

-- the words, joined by single spaces
abbrev pub words_joined_with_spaces : List (List ℕ) → List ℕ
words_joined_with_spaces [] = []
words_joined_with_spaces (word ∷ words) = word ++ words_each_after_space words

-- the greatest length of joined arguments
abbrev pub joined_arguments_limit : ℕ
joined_arguments_limit = 65536

abbrev pub command_with_joined_arguments_of_request : Request → CommandLine
command_with_joined_arguments_of_request r = record { path = r.command; args = words_joined_with_spaces r.args }

-- The atom is the command by this test. With a digest it matches nothing, since no file is read.
abbrev pub is_command_hit_by_test : (Atom → Bool) → SignedAtom → Bool
is_command_hit_by_test test s = test s.atom && has_no_digests s.digests

-- the test of the command that is asked for
abbrev pub is_request_command_match : Request → Atom → Bool
is_request_command_match r = is_command_atom_match (command_with_joined_arguments_of_request r)

abbrev pub is_request_command_hit : Request → SignedAtom → Bool
is_request_command_hit r = is_command_hit_by_test (is_request_command_match r)

-- The row's users, hosts, Runas_Spec and moment match the request, and its atom is the command by this test.
pub record RowFitsRequestByTest (lines : List Line) (test : Atom → Bool) (r : Request) (row : PrivilegeRow) : Type 0 where
  pub user : ListAllows User lines (is_user_atom_match r.who.user) row.users
  pub host : ListAllows Host lines (is_host_atom_match r.who) row.hosts
  pub runas : RunasSpecAllows lines r.who r.target r.target_group row.head.runas
  pub moment : is_in_option_time_bounds r.moment (final_values_of_options row.head.options) ≡ true
  pub command : is_command_hit_by_test test row.atom ≡ true

-- The row's users, hosts, Runas_Spec, moment and command match the request.
abbrev pub RowFitsRequest : List Line → Request → PrivilegeRow → Type 0
RowFitsRequest lines r = RowFitsRequestByTest lines (is_request_command_match r) r

-- what an answer says
pub record Answer : Type 0 where
  pub allow : Bool
  pub spec : ℕ
  pub host_group : ℕ
  pub command : ℕ
  pub tags : CommandTags
  pub options : OptionValues

-- `ALL` turns SETENV on where neither SETENV nor NOSETENV stands.
abbrev pub tags_with_setenv_by_all : Bool → CommandTags → CommandTags
tags_with_setenv_by_all by_all tags = record {
  exec = tags.exec;
  follow = tags.follow;
  intercept = tags.intercept;
  log_input = tags.log_input;
  log_output = tags.log_output;
  mail = tags.mail;
  passwd = tags.passwd;
  setenv = option_or tags.setenv (if by_all then Some true else None);
}

-- the answer that a row gives
abbrev pub answer_of_fitting_row : PrivilegeRow → Answer
answer_of_fitting_row row = record {
  allow = row.atom.allow;
  spec = row.spec;
  host_group = row.host_group;
  command = row.command;
  tags = tags_with_setenv_by_all (is_all_atom row.atom.atom) (final_tags_of row.head.tags);
  options = final_values_of_options row.head.options;
}

-- Of these rows the last that fits, by this test of the command, gives the answer.
pub record IsAnswerOfRowsByTest (lines : List Line) (test : Atom → Bool) (r : Request) (rows : List PrivilegeRow) (answer : Option Answer) : Type 0 where
  pub last : Option PrivilegeRow
  pub is_last : IsLastItemWith (RowFitsRequestByTest lines test r) rows last
  pub says : answer ≡ option_map answer_of_fitting_row last

abbrev pub IsAnswerOfRows : List Line → Request → List PrivilegeRow → Option Answer → Type 0
IsAnswerOfRows lines r = IsAnswerOfRowsByTest lines (is_request_command_match r) r

-- Of all rows the last that fits, by this test of the command, gives the answer; there is none where no row fits.
pub record IsAnswerByCommandTest (lines : List Line) (test : Atom → Bool) (r : Request) (answer : Option Answer) : Type 0 where
  pub rows : List PrivilegeRow
  pub are_rows : AreRowsPerFlatAtomOfPolicy lines rows
  pub answers : IsAnswerOfRowsByTest lines test r rows answer

-- Of all rows the last that fits gives the answer.
abbrev pub IsAnswerToRequest : List Line → Request → Option Answer → Type 0
IsAnswerToRequest lines r = IsAnswerByCommandTest lines (is_request_command_match r) r

-- the value of an answer
abbrev pub answer_of_view : AnswerHeld → Answer
answer_of_view a = record {
  allow = a.allow;
  spec = a.spec;
  host_group = a.host_group;
  command = a.command;
  tags = a.tags;
  options = option_values_of_view a.options;
}
