-- What matches a member of a list: one case for each form (sudoers(5), User_List, Host_List, Cmnd_List).
use Rattle.std.specs.Prelude.{ℕ, ◌==◌, ◌&&◌, ◌||◌, not, Bool, true, false, List, [], ◌∷◌, codes, Some, None, if◌then◌else◌}
use Rattle.std.specs.List.{list_any}
use Rattle.std.specs.Str.{bytes_eq, str_eq_ignore_ascii_case}
use Rattle.sudoers_grammar.specs.declared.node.Args.{Args}
use Rattle.sudoers_grammar.specs.declared.node.Args.TheVariants as args
use Rattle.sudoers_grammar.specs.declared.node.Atom.{Atom}
use Rattle.sudoers_grammar.specs.declared.node.Atom.TheVariants as atom
use Rattle.sudoers_grammar.specs.Piece.{has_last_byte}
use Rattle.sudoers_match_member.specs.declared.people_and_commands.CommandLine.{CommandLine}
use Rattle.sudoers_match_member.specs.declared.people_and_commands.Group.{Group}
use Rattle.sudoers_match_member.specs.declared.people_and_commands.Person.{Person}
use Rattle.sudoers_match_member.specs.declared.people_and_commands.Who.{Who}
use Rattle.sudoers_match_member.specs.declared.wildcards.GlobMode.{GlobMode}
use Rattle.sudoers_match_member.specs.declared.wildcards.GlobMode.TheVariants as mode
use Rattle.sudoers_match_member.specs.Folded.{bytes_case_folded_if_wanted}
use Rattle.sudoers_match_member.specs.Wildcard.{is_empty, is_pattern_match}
use Rattle.sudoers_match_member.specs.Network.{is_any_interface_hit}

-- one name, letter case ignored
abbrev pub is_name_equal_ignoring_case : List ℕ → List ℕ → Bool
is_name_equal_ignoring_case a b = str_eq_ignore_ascii_case a b

-- ---- users, and the users as whom a command runs

-- one of the groups has this name, or this number
abbrev pub is_name_among_groups : List Group → List ℕ → Bool
is_name_among_groups groups name = list_any (λ (g : Group). is_name_equal_ignoring_case name g.name) groups

abbrev pub is_number_among_groups : List Group → ℕ → Bool
is_number_among_groups groups number = list_any (λ (g : Group). number == g.gid) groups

-- An alias is asked here only where it is not defined; it is then compared as a name.
abbrev pub is_user_atom_match : Person → Atom → Bool
is_user_atom_match p atom.All = true
is_user_atom_match p (atom.Alias name) = is_name_equal_ignoring_case name p.name
is_user_atom_match p (atom.Name name) = is_name_equal_ignoring_case name p.name
is_user_atom_match p (atom.Id n) = n == p.uid
is_user_atom_match p (atom.Group name) = is_name_among_groups p.groups name
is_user_atom_match p (atom.GroupId n) = is_number_among_groups p.groups n
is_user_atom_match p (atom.NonUnix name) = false
is_user_atom_match p (atom.Netgroup name) = false
is_user_atom_match p (atom.Host name) = false
is_user_atom_match p (atom.Address address) = false
is_user_atom_match p (atom.Network address mask) = false
is_user_atom_match p atom.Listing = false
is_user_atom_match p (atom.Path path args) = false
is_user_atom_match p (atom.Sudoedit args) = false

-- ---- the groups as which a command runs

abbrev pub is_runas_group_atom_match : Group → Atom → Bool
is_runas_group_atom_match g atom.All = true
is_runas_group_atom_match g (atom.Alias name) = is_name_equal_ignoring_case name g.name
is_runas_group_atom_match g (atom.Name name) = is_name_equal_ignoring_case name g.name
is_runas_group_atom_match g (atom.Id n) = n == g.gid
is_runas_group_atom_match g (atom.Group name) = is_name_equal_ignoring_case name g.name
is_runas_group_atom_match g (atom.GroupId n) = n == g.gid
is_runas_group_atom_match g (atom.NonUnix name) = false
is_runas_group_atom_match g (atom.Netgroup name) = false
is_runas_group_atom_match g (atom.Host name) = false
is_runas_group_atom_match g (atom.Address address) = false
is_runas_group_atom_match g (atom.Network address mask) = false
is_runas_group_atom_match g atom.Listing = false
is_runas_group_atom_match g (atom.Path path args) = false
is_runas_group_atom_match g (atom.Sudoedit args) = false

-- ---- hosts

abbrev pub has_dot : List ℕ → Bool
has_dot pattern = list_any (λ b. b == 46) pattern

-- A pattern with a dot is compared with the long name, one without with the short name, letter case ignored.
abbrev pub is_host_name_match : Who → List ℕ → Bool
is_host_name_match w pattern = is_pattern_match mode.Args (bytes_case_folded_if_wanted true pattern) (bytes_case_folded_if_wanted true (if has_dot pattern then w.long_host else w.short_host))

abbrev pub is_host_atom_match : Who → Atom → Bool
is_host_atom_match w atom.All = true
is_host_atom_match w (atom.Alias name) = is_host_name_match w name
is_host_atom_match w (atom.Host pattern) = is_host_name_match w pattern
is_host_atom_match w (atom.Address address) = is_any_interface_hit address None w.interfaces
is_host_atom_match w (atom.Network address mask) = is_any_interface_hit address (Some mask) w.interfaces
is_host_atom_match w (atom.Name name) = false
is_host_atom_match w (atom.Id n) = false
is_host_atom_match w (atom.Group name) = false
is_host_atom_match w (atom.GroupId n) = false
is_host_atom_match w (atom.NonUnix name) = false
is_host_atom_match w (atom.Netgroup name) = false
is_host_atom_match w atom.Listing = false
is_host_atom_match w (atom.Path path args) = false
is_host_atom_match w (atom.Sudoedit args) = false

-- ---- commands

-- the text up to its last slash, and what stands behind that
abbrev pub path_split_at_last_slash : List ℕ → List ℕ × List ℕ
path_split_at_last_slash [] = ([], [])
path_split_at_last_slash (b ∷ bs) =
    if b == 47 || not (is_empty (path_split_at_last_slash bs).0) then (b ∷ (path_split_at_last_slash bs).0, (path_split_at_last_slash bs).1) else ([], b ∷ bs)

-- A path that ends in a slash is a directory, and matches the files directly in it.
abbrev pub is_command_path_match : List ℕ → List ℕ → Bool
is_command_path_match path pattern =
    if has_last_byte 47 pattern
    then not (is_empty (path_split_at_last_slash path).1) && is_pattern_match mode.Path pattern (path_split_at_last_slash path).0
    else is_pattern_match mode.Path pattern path

-- no arguments in the pattern stand for any, and `""` stands for none
abbrev pub is_command_args_match : GlobMode → List ℕ → Args → Bool
is_command_args_match m text args.Any = true
is_command_args_match m text args.Nothing = is_empty text
is_command_args_match m text (args.Pattern pattern) = is_pattern_match m pattern text

-- An alias that is not defined matches no command. Wildcards in the arguments of `sudoedit` match no slash.
abbrev pub is_command_atom_match : CommandLine → Atom → Bool
is_command_atom_match c atom.All = true
is_command_atom_match c atom.Listing = bytes_eq c.path (codes "list")
is_command_atom_match c (atom.Path pattern args) = is_command_path_match c.path pattern && is_command_args_match mode.Args c.args args
is_command_atom_match c (atom.Sudoedit args) = bytes_eq c.path (codes "sudoedit") && is_command_args_match mode.Path c.args args
is_command_atom_match c (atom.Alias name) = false
is_command_atom_match c (atom.Name name) = false
is_command_atom_match c (atom.Id n) = false
is_command_atom_match c (atom.Group name) = false
is_command_atom_match c (atom.GroupId n) = false
is_command_atom_match c (atom.NonUnix name) = false
is_command_atom_match c (atom.Netgroup name) = false
is_command_atom_match c (atom.Host name) = false
is_command_atom_match c (atom.Address address) = false
is_command_atom_match c (atom.Network address mask) = false
