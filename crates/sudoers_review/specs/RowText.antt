-- How a row is printed, its aliases replaced.
use Rattle.std.specs.Prelude.{ℕ, Bool, true, false, not, List, [], ◌++◌, codes, map, Option, Some, None}
use Rattle.std.specs.Option.{option_map}
use Rattle.sudoers_grammar.specs.Node.{Member, RunasSpec, CmdSpec}
use Rattle.sudoers_grammar.specs.declared.node.Kind.TheVariants.{User, Host}
use Rattle.sudoers_grammar.specs.declared.node.OptionName.{OptionName}
use Rattle.sudoers_grammar.specs.declared.node.OptionName.TheVariants as option
use Rattle.sudoers_grammar.specs.declared.node.Tag.{Tag}
use Rattle.sudoers_grammar.specs.declared.node.Tag.TheVariants as tag
use Rattle.sudoers_match_list.specs.Flat.{SignedAtom}
use Rattle.sudoers_match.specs.declared.tags.CommandTags.{CommandTags}
use Rattle.sudoers_match.specs.Heads.{given_options_in_order}
use Rattle.sudoers_match.specs.Values.{OptionValues}
use Rattle.sudoers_cvt_spell.specs.Commands.{printed_runas_options_tags_and_command}
use Rattle.sudoers_cvt_spell.specs.Members.{printed_member_list}
use Rattle.sudoers_cvt_rules.specs.Effective.{given_tags_in_order}
use Rattle.laws_compare.specs.Content.{FlatRunasSpec, Grant, FlatPrivilegeRow}

-- the member that says this; it has no place
abbrev pub member_of_signed_atom : SignedAtom → Member
member_of_signed_atom s = record { start = 0; stop = 0; negated = not s.allow; digests = s.digests; atom = s.atom }

abbrev pub members_of_signed_atoms : List SignedAtom → List Member
members_of_signed_atoms fs = map member_of_signed_atom fs

abbrev pub members_of_optional_list : Option (List SignedAtom) → List Member
members_of_optional_list None = []
members_of_optional_list (Some fs) = members_of_signed_atoms fs

abbrev pub runas_spec_of_flat : FlatRunasSpec → RunasSpec
runas_spec_of_flat spec = record { users = members_of_optional_list spec.users; groups = members_of_optional_list spec.groups }

abbrev pub value_of_option : OptionValues → OptionName → Option (List ℕ)
value_of_option values option.Role = values.role
value_of_option values option.Type = values.kind
value_of_option values option.ApparmorProfile = values.apparmor_profile
value_of_option values option.Privs = values.privs
value_of_option values option.Limitprivs = values.limitprivs
value_of_option values option.Notbefore = values.notbefore
value_of_option values option.Notafter = values.notafter
value_of_option values option.Timeout = values.timeout
value_of_option values option.Cwd = values.cwd
value_of_option values option.Chroot = values.chroot

abbrev pub value_of_tag : CommandTags → Tag → Option Bool
value_of_tag tags tag.Exec = tags.exec
value_of_tag tags tag.Follow = tags.follow
value_of_tag tags tag.Intercept = tags.intercept
value_of_tag tags tag.LogInput = tags.log_input
value_of_tag tags tag.LogOutput = tags.log_output
value_of_tag tags tag.Mail = tags.mail
value_of_tag tags tag.Passwd = tags.passwd
value_of_tag tags tag.Setenv = tags.setenv

-- the command of a row, with all that is said of it
abbrev pub command_of_grant : Grant → CmdSpec
command_of_grant grant = record {
  runas = option_map runas_spec_of_flat grant.runas;
  options = given_options_in_order (value_of_option grant.options);
  tags = given_tags_in_order (value_of_tag grant.tags);
  member = member_of_signed_atom grant.atom;
}

-- USERS HOSTS = (RUNAS) OPTIONS TAGS: COMMAND
abbrev pub printed_row : FlatPrivilegeRow → List ℕ
printed_row row =
    printed_member_list true User (members_of_signed_atoms row.users) ++ codes " " ++ printed_member_list false Host (members_of_signed_atoms row.hosts)
    ++ codes " = " ++ printed_runas_options_tags_and_command (command_of_grant row.grant)
