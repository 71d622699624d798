-- The values of options (sudoers(5), Option_Spec).
use Rattle.std.specs.Prelude.{ℕ, ◌==◌, List, Option, Some, None, if◌then◌else◌}
use Rattle.std.specs.Option.{option_map, option_or}
use Rattle.std.specs.Borrow.{Bor}
use Rattle.sudoers_grammar.specs.declared.node.OptionName.{OptionName}
use Rattle.sudoers_grammar.specs.declared.node.OptionName.TheVariants as option
use Rattle.sudoers_match.specs.declared.options.CommandOptions.{CommandOptions}
use Rattle.sudoers_match.specs.Heads.{final_value_of_option, ordinal_of_option}

-- the value of each option, if it is set
pub record OptionValues : Type 0 where
  pub role : Option (List ℕ)
  pub kind : Option (List ℕ)
  pub apparmor_profile : Option (List ℕ)
  pub privs : Option (List ℕ)
  pub limitprivs : Option (List ℕ)
  pub notbefore : Option (List ℕ)
  pub notafter : Option (List ℕ)
  pub timeout : Option (List ℕ)
  pub cwd : Option (List ℕ)
  pub chroot : Option (List ℕ)

abbrev pub final_values_of_options : List (OptionName × List ℕ) → OptionValues
final_values_of_options options = record {
  role = final_value_of_option options option.Role;
  kind = final_value_of_option options option.Type;
  apparmor_profile = final_value_of_option options option.ApparmorProfile;
  privs = final_value_of_option options option.Privs;
  limitprivs = final_value_of_option options option.Limitprivs;
  notbefore = final_value_of_option options option.Notbefore;
  notafter = final_value_of_option options option.Notafter;
  timeout = final_value_of_option options option.Timeout;
  cwd = final_value_of_option options option.Cwd;
  chroot = final_value_of_option options option.Chroot;
}

abbrev pub option_value_of_view : Option (Bor (List ℕ)) → Option (List ℕ)
option_value_of_view o = option_map (λ (text : Bor (List ℕ)). text.now) o

abbrev pub option_values_of_view : CommandOptions → OptionValues
option_values_of_view o = record {
  role = option_value_of_view o.role;
  kind = option_value_of_view o.kind;
  apparmor_profile = option_value_of_view o.apparmor_profile;
  privs = option_value_of_view o.privs;
  limitprivs = option_value_of_view o.limitprivs;
  notbefore = option_value_of_view o.notbefore;
  notafter = option_value_of_view o.notafter;
  timeout = option_value_of_view o.timeout;
  cwd = option_value_of_view o.cwd;
  chroot = option_value_of_view o.chroot;
}

-- A device of the proof, which no public contract cites: the values with one more.
abbrev pub values_with_option_set : OptionName → List ℕ → OptionValues → OptionValues
values_with_option_set name text values = record {
  role = option_or (if ordinal_of_option option.Role == ordinal_of_option name then Some text else None) values.role;
  kind = option_or (if ordinal_of_option option.Type == ordinal_of_option name then Some text else None) values.kind;
  apparmor_profile = option_or (if ordinal_of_option option.ApparmorProfile == ordinal_of_option name then Some text else None) values.apparmor_profile;
  privs = option_or (if ordinal_of_option option.Privs == ordinal_of_option name then Some text else None) values.privs;
  limitprivs = option_or (if ordinal_of_option option.Limitprivs == ordinal_of_option name then Some text else None) values.limitprivs;
  notbefore = option_or (if ordinal_of_option option.Notbefore == ordinal_of_option name then Some text else None) values.notbefore;
  notafter = option_or (if ordinal_of_option option.Notafter == ordinal_of_option name then Some text else None) values.notafter;
  timeout = option_or (if ordinal_of_option option.Timeout == ordinal_of_option name then Some text else None) values.timeout;
  cwd = option_or (if ordinal_of_option option.Cwd == ordinal_of_option name then Some text else None) values.cwd;
  chroot = option_or (if ordinal_of_option option.Chroot == ordinal_of_option name then Some text else None) values.chroot;
}
