-- User specifications in which a name is replaced by another.
use Rattle.std.proofs.Common.{◌≡◌, ℕ, Bool, true, false, ◌&&◌, List, [], ◌∷◌, ◌++◌, map, refl, ap, ◌∙◌, Option, Some, None}
use Rattle.std.specs.Prelude.{if◌then◌else◌, codes}
use Rattle.std.specs.List.{AllByRecursion, flat_map}
use Rattle.std.specs.Str.{bytes_eq}
use Rattle.sudoers_text.specs.Word.{is_name}
use Rattle.sudoers_text.specs.Renamed.{IsDefinableName}
use Rattle.sudoers_grammar.specs.declared.node.Kind.TheVariants.{User, Runas, Host, Cmnd}
use Rattle.sudoers_grammar.specs.Piece.{TokenWithBytes, is_word, alias_kind_of_token, include_is_dir_of_token, is_given_word, value_of_matching_row, alias_kinds_by_keyword, include_is_dir_by_word}
use Rattle.sudoers_grammar.specs.Node.{Member, RunasSpec, CmdSpec, HostGroup}
use Rattle.sudoers_grammar.specs.Grammar.{Many, MarkThenRule, AreMembers, IsRunas, PerhapsRunas, IsOption, IsTag, IsCmdSpec, IsHostGroup, BeginsNoAliasIncludeOrDefaults, BeginsSpec, IsUserSpec}
use Rattle.sudoers_grammar.specs.Renamed.{member_with_alias_renamed, alias_offsets_in_member, members_with_alias_renamed, alias_offsets_in_members, runas_with_alias_renamed, alias_offsets_in_runas, runas_option_with_alias_renamed, alias_offsets_in_runas_option, command_with_alias_renamed, alias_offsets_in_command, host_group_with_alias_renamed, alias_offsets_in_host_group}
use Rattle.sudoers_grammar.proofs.AliasWords.{name_differs_from_word_without_name}
use Rattle.sudoers_grammar.proofs.RenamedPieces.{NameChange, alias_renaming_of_change, piece_with_moved_offsets, piece_with_new_name, AreTokensRenamedUpToRest, done, keep, swap, IsRuleKeptByRenaming, renamings_of_adjacent_parts_are_joined, renaming_without_later_names_is_joined, renaming_of_equal_tokens_is_same, renaming_keeps_many_rule, moved_mark_is_mark, renaming_keeps_mark_then_rule, renaming_keeps_separated_rule, renaming_keeps_perhaps_rule, lists_without_names_are_read_again}
use Rattle.sudoers_grammar.proofs.RenamedMembers.{renaming_keeps_members}
use Rattle.sudoers_grammar.proofs.RenamedCommands.{renaming_keeps_option, renaming_keeps_tag, renaming_keeps_command_member}

renaming_keeps_runas : (c : NameChange) → IsDefinableName c.fresh → IsRuleKeptByRenaming RunasSpec c IsRunas (runas_with_alias_renamed (alias_renaming_of_change c)) (alias_offsets_in_runas c.old)
renaming_keeps_runas c fresh ts rest left r is =
    let g = member_with_alias_renamed (alias_renaming_of_change c) Runas in
    let s = alias_offsets_in_member c.old Runas in
    let groups =
    renaming_keeps_perhaps_rule c (MarkThenRule 58 (AreMembers Runas)) g s
    (renaming_keeps_mark_then_rule c 58 (AreMembers Runas) (map g) (flat_map s) (renaming_keeps_members c Runas fresh)) is.behind_users is.behind_groups
    (piece_with_moved_offsets c is.closing ∷ left) r.groups is.groups in
    let users = renaming_keeps_perhaps_rule c (AreMembers Runas) g s (renaming_keeps_members c Runas fresh) is.inside is.behind_users groups.new r.users is.users in
    let pu = alias_offsets_in_members c.old Runas r.users in
    let pg = alias_offsets_in_members c.old Runas r.groups in
    let ends =
    renaming_of_equal_tokens_is_same c [] is.behind_groups (is.closing ∷ rest) rest (piece_with_moved_offsets c is.closing ∷ left) left is.split_groups
    (keep [] is.closing rest rest left left (done rest left)) in
    let behind = renaming_without_later_names_is_joined c pg is.behind_users is.behind_groups rest groups.new (piece_with_moved_offsets c is.closing ∷ left) left groups.renames ends in
    let inside = renamings_of_adjacent_parts_are_joined c pu pg is.inside is.behind_users rest users.new groups.new left users.renames behind in
    record {
      new = piece_with_moved_offsets c is.opening ∷ users.new;
      is = record {
        opening = piece_with_moved_offsets c is.opening;
        inside = users.new;
        behind_users = groups.new;
        behind_groups = piece_with_moved_offsets c is.closing ∷ left;
        closing = piece_with_moved_offsets c is.closing;
        split = refl;
        is_open = moved_mark_is_mark c 40 is.opening is.is_open;
        users = users.is;
        groups = groups.is;
        split_groups = refl;
        is_close = moved_mark_is_mark c 41 is.closing is.is_close;
      };
      renames =
          renaming_of_equal_tokens_is_same c (pu ++ pg) ts (is.opening ∷ is.inside) rest (piece_with_moved_offsets c is.opening ∷ users.new) left is.split
          (keep (pu ++ pg) is.opening is.inside rest users.new left inside);
    }

renaming_keeps_perhaps_runas : (c : NameChange) → IsDefinableName c.fresh
    → IsRuleKeptByRenaming (Option RunasSpec) c PerhapsRunas (runas_option_with_alias_renamed (alias_renaming_of_change c)) (alias_offsets_in_runas_option c.old)
renaming_keeps_perhaps_runas c fresh ts rest left None is = record {
  new = left;
  is = refl;
  renames = renaming_of_equal_tokens_is_same c [] ts rest rest left left is (done rest left);
}
renaming_keeps_perhaps_runas c fresh ts rest left (Some r) is =
    let all = renaming_keeps_runas c fresh ts rest left r is in
    record { new = all.new; is = all.is; renames = all.renames }

renaming_keeps_command_specification : (c : NameChange) → IsDefinableName c.fresh → IsRuleKeptByRenaming CmdSpec c IsCmdSpec (command_with_alias_renamed (alias_renaming_of_change c)) (alias_offsets_in_command c.old)
renaming_keeps_command_specification c fresh ts rest left s is =
    let member = renaming_keeps_command_member c fresh is.behind_tags rest left s.member is.member in
    let tags =
    lists_without_names_are_read_again c (Many IsTag) (renaming_keeps_many_rule c IsTag (λ g. g) (λ g. []) (renaming_keeps_tag c)) is.behind_options is.behind_tags member.new s.tags is.tags in
    let options =
    lists_without_names_are_read_again c (Many IsOption) (renaming_keeps_many_rule c IsOption (λ o. o) (λ o. [])
    (renaming_keeps_option c)) is.behind_runas is.behind_options tags.new s.options is.options in
    let runas = renaming_keeps_perhaps_runas c fresh ts is.behind_runas options.new s.runas is.runas in
    let pm = alias_offsets_in_member c.old Cmnd s.member in
    let pr = alias_offsets_in_runas_option c.old s.runas in
    record {
      new = runas.new;
      is = record {
        behind_runas = options.new;
        behind_options = tags.new;
        behind_tags = member.new;
        runas = runas.is;
        options = options.is;
        tags = tags.is;
        member = member.is;
      };
      renames = renamings_of_adjacent_parts_are_joined c pr pm ts is.behind_runas rest runas.new options.new left runas.renames
          (renamings_of_adjacent_parts_are_joined c [] pm is.behind_runas is.behind_options rest options.new tags.new left options.renames
          (renamings_of_adjacent_parts_are_joined c [] pm is.behind_options is.behind_tags rest tags.new member.new left tags.renames member.renames));
    }

renaming_keeps_host_group : (c : NameChange) → IsDefinableName c.fresh → IsRuleKeptByRenaming HostGroup c IsHostGroup (host_group_with_alias_renamed (alias_renaming_of_change c)) (alias_offsets_in_host_group c.old)
renaming_keeps_host_group c fresh ts rest left g is =
    let commands =
    renaming_keeps_separated_rule c 44 IsCmdSpec (command_with_alias_renamed (alias_renaming_of_change c)) (alias_offsets_in_command c.old)
    (renaming_keeps_command_specification c fresh) is.behind rest left g.commands is.commands in
    let hosts = renaming_keeps_members c Host fresh ts is.behind_hosts (piece_with_moved_offsets c is.equals ∷ commands.new) g.hosts is.hosts in
    let ph = alias_offsets_in_members c.old Host g.hosts in
    let pc = flat_map (alias_offsets_in_command c.old) g.commands in
    record {
      new = hosts.new;
      is = record {
        behind_hosts = piece_with_moved_offsets c is.equals ∷ commands.new;
        equals = piece_with_moved_offsets c is.equals;
        behind = commands.new;
        hosts = hosts.is;
        split = refl;
        is_equals = moved_mark_is_mark c 61 is.equals is.is_equals;
        commands = commands.is;
      };
      renames = renamings_of_adjacent_parts_are_joined c ph pc ts is.behind_hosts rest hosts.new (piece_with_moved_offsets c is.equals ∷ commands.new) left hosts.renames
          (renaming_of_equal_tokens_is_same c pc is.behind_hosts (is.equals ∷ is.behind) rest (piece_with_moved_offsets c is.equals ∷ commands.new) left is.split
          (keep pc is.equals is.behind rest commands.new left commands.renames));
    }

-- ---- how a specification begins

word_in_no_row_has_no_value : {X : Type 0} (rows : List (List ℕ × X)) (w : List ℕ) → AllByRecursion (λ (row : List ℕ × X). bytes_eq w row.0 ≡ false) rows
    → value_of_matching_row rows w ≡ None
word_in_no_row_has_no_value [] w all = refl
word_in_no_row_has_no_value (row ∷ rows) w all = ap (λ (t : Bool). if t then Some row.1 else value_of_matching_row rows w) all.0 ∙ word_in_no_row_has_no_value rows w all.1

moved_token_keeps_non_spec_start : (c : NameChange) (t : TokenWithBytes) → BeginsNoAliasIncludeOrDefaults t → BeginsNoAliasIncludeOrDefaults (piece_with_moved_offsets c t)
unfolding alias_kind_of_token include_is_dir_of_token is_given_word
moved_token_keeps_non_spec_start c t is = record { no_kind = is.no_kind; no_include = is.no_include; no_defaults = is.no_defaults }

tested_none_is_none : {X : Type 0} (b : Bool) (o : Option X) → o ≡ None → (if b then o else None) ≡ None
tested_none_is_none true o e = e
tested_none_is_none false o e = refl

renamed_token_begins_non_spec_line : (c : NameChange) (t : TokenWithBytes) → IsDefinableName c.fresh → BeginsNoAliasIncludeOrDefaults (piece_with_new_name c t)
unfolding alias_kind_of_token include_is_dir_of_token is_given_word
renamed_token_begins_non_spec_line c t fresh =
    let no : (word : List ℕ) → is_name word ≡ false → bytes_eq c.fresh word ≡ false = λ word e. name_differs_from_word_without_name c.fresh word fresh.0 e in
    record {
      no_kind =
          tested_none_is_none (is_word t.kind) (value_of_matching_row alias_kinds_by_keyword c.fresh)
          (word_in_no_row_has_no_value alias_kinds_by_keyword c.fresh (
            no (codes "User_Alias") refl,
            (
              no
                  (codes "Runas_Alias") refl,
              (no (codes "Host_Alias") refl, (no (codes "Cmnd_Alias") refl, (no (codes "Cmd_Alias") refl, tt))),
            ),
          ));
      no_include =
          tested_none_is_none (is_word t.kind) (value_of_matching_row include_is_dir_by_word c.fresh)
          (word_in_no_row_has_no_value include_is_dir_by_word c.fresh
          (no (codes "#include") refl, (no (codes "#includedir") refl, (no (codes "@include") refl, (no (codes "@includedir") refl, tt)))));
      no_defaults = ap (λ (b : Bool). is_word t.kind && b) (no (codes "Defaults") refl) ∙ and_none (is_word t.kind);
    }
  where
    and_none : (b : Bool) → (b && false) ≡ false
    and_none true = refl
    and_none false = refl

renaming_keeps_specification_start : (c : NameChange) (ps : List ℕ) (ts rest us left : List TokenWithBytes) → IsDefinableName c.fresh → AreTokensRenamedUpToRest c ps ts rest us left → BeginsSpec left
    → BeginsSpec ts → BeginsSpec us
renaming_keeps_specification_start c ps ts rest us left fresh (done a b) after is = after
renaming_keeps_specification_start c ps ts rest us left fresh (keep places t a b x y r) after is = moved_token_keeps_non_spec_start c t is
renaming_keeps_specification_start c ps ts rest us left fresh (swap place places t a b x y k n p r) after is = renamed_token_begins_non_spec_line c t fresh

pub renaming_keeps_user_specification : (c : NameChange) (ts rest left : List TokenWithBytes) (us : List Member) (gs : List HostGroup) → IsDefinableName c.fresh → BeginsSpec left
    → IsUserSpec ts us gs rest
    → (new : List TokenWithBytes) × IsUserSpec new (members_with_alias_renamed (alias_renaming_of_change c) User us) (map (host_group_with_alias_renamed (alias_renaming_of_change c)) gs) left
    × AreTokensRenamedUpToRest c (alias_offsets_in_members c.old User us ++ flat_map (alias_offsets_in_host_group c.old) gs) ts rest new left
renaming_keeps_user_specification c ts rest left us gs fresh after is =
    let groups =
    renaming_keeps_separated_rule c 58 IsHostGroup (host_group_with_alias_renamed (alias_renaming_of_change c)) (alias_offsets_in_host_group c.old) (renaming_keeps_host_group c fresh) is.behind rest left gs is.groups in
    let users = renaming_keeps_members c User fresh ts is.behind groups.new us is.users in
    let all =
    renamings_of_adjacent_parts_are_joined c (alias_offsets_in_members c.old User us)
    (flat_map (alias_offsets_in_host_group c.old) gs) ts is.behind rest users.new groups.new left users.renames groups.renames in (
      users.new,
      record {
        behind = groups.new;
        begins = renaming_keeps_specification_start c (alias_offsets_in_members c.old User us ++ flat_map (alias_offsets_in_host_group c.old) gs) ts rest users.new left fresh all after is.begins;
        users = users.is;
        groups = groups.is;
      },
      all,
    )
