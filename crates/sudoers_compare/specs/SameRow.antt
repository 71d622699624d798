-- Whether two rows say the same, decided. That they are the same if this says so is proved, and so is the converse.
use Rattle.std.specs.Prelude.{ℕ, ◌&&◌, ◌||◌, Bool, true, false, List, Option, Some, None}
use Rattle.std.specs.Str.{bytes_eq}
use Rattle.sudoers_line_rows.specs.Alike.{is_same_bool}
use Rattle.sudoers_match_list.specs.Flat.{SignedAtom}
use Rattle.sudoers_match.specs.declared.tags.CommandTags.{CommandTags}
use Rattle.sudoers_match.specs.Values.{OptionValues}
use Rattle.laws_compare.specs.Content.{FlatRunasSpec, Grant, FlatPrivilegeRow}
use Rattle.laws_compare.specs.Decided.{is_covering_row, is_same_flat_list, is_same_signed_atom}
use Rattle.sudoers_compare.specs.declared.same_row.CountedChanges.{CountedChanges}
use Rattle.sudoers_compare.specs.declared.same_row.CountedChanges.TheVariants as counted

-- both are absent, or both are there and alike
abbrev pub are_options_alike : {X : Type 0} → (X → X → Bool) → Option X → Option X → Bool
are_options_alike alike None None = true
are_options_alike alike None (Some y) = false
are_options_alike alike (Some x) None = false
are_options_alike alike (Some x) (Some y) = alike x y

abbrev pub is_same_optional_flat_list : Option (List SignedAtom) → Option (List SignedAtom) → Bool
is_same_optional_flat_list fs gs = are_options_alike is_same_flat_list fs gs

abbrev pub are_same_runas_lists : FlatRunasSpec → FlatRunasSpec → Bool
are_same_runas_lists a b = is_same_optional_flat_list a.users b.users && is_same_optional_flat_list a.groups b.groups

abbrev pub is_same_flat_runas_spec : Option FlatRunasSpec → Option FlatRunasSpec → Bool
is_same_flat_runas_spec a b = are_options_alike are_same_runas_lists a b

abbrev pub is_same_option_value : Option (List ℕ) → Option (List ℕ) → Bool
is_same_option_value a b = are_options_alike bytes_eq a b

abbrev pub are_same_option_values : OptionValues → OptionValues → Bool
are_same_option_values a b =
    is_same_option_value a.role b.role && is_same_option_value a.kind b.kind && is_same_option_value a.apparmor_profile b.apparmor_profile
    && is_same_option_value a.privs b.privs && is_same_option_value a.limitprivs b.limitprivs && is_same_option_value a.notbefore b.notbefore
    && is_same_option_value a.notafter b.notafter && is_same_option_value a.timeout b.timeout && is_same_option_value a.cwd b.cwd
    && is_same_option_value a.chroot b.chroot

abbrev pub is_same_tag : Option Bool → Option Bool → Bool
is_same_tag a b = are_options_alike is_same_bool a b

abbrev pub are_same_tags : CommandTags → CommandTags → Bool
are_same_tags a b =
    is_same_tag a.exec b.exec && is_same_tag a.follow b.follow && is_same_tag a.intercept b.intercept && is_same_tag a.log_input b.log_input
    && is_same_tag a.log_output b.log_output && is_same_tag a.mail b.mail && is_same_tag a.passwd b.passwd && is_same_tag a.setenv b.setenv

abbrev pub is_same_grant : Grant → Grant → Bool
is_same_grant a b =
    is_same_flat_runas_spec a.runas b.runas && are_same_option_values a.options b.options && are_same_tags a.tags b.tags
    && is_same_signed_atom a.atom b.atom

-- The rows say the same.
abbrev pub is_same_flat_row : FlatPrivilegeRow → FlatPrivilegeRow → Bool
is_same_flat_row a b = is_same_flat_list a.users b.users && is_same_flat_list a.hosts b.hosts && is_same_grant a.grant b.grant

-- What the grants say of a command is the same: the sign, the tags and the options.
abbrev pub have_same_effect : Grant → Grant → Bool
have_same_effect a b = is_same_bool a.atom.allow b.atom.allow && are_same_tags a.tags b.tags && are_same_option_values a.options b.options

-- The old row allows all that the new one says something of, with the same sign, tags and options.
abbrev pub is_narrowed_row : FlatPrivilegeRow → FlatPrivilegeRow → Bool
is_narrowed_row old new = old.grant.atom.allow && have_same_effect old.grant new.grant && is_covering_row old new

-- The new row is the old one. If only changes count that may grant something, the old one may also be narrowed.
abbrev pub is_unchanged_row : CountedChanges → FlatPrivilegeRow → FlatPrivilegeRow → Bool
is_unchanged_row counted.All old new = is_same_flat_row old new
is_unchanged_row counted.Granting old new = is_same_flat_row old new || is_narrowed_row old new
