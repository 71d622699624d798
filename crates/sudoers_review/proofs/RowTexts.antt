-- A row is printed as its members, its Runas_Spec and its settings are.
use Rattle.std.proofs.Common.{◌≡◌, ℕ, Bool, true, false, not, ◌&&◌, List, [], ◌∷◌, ◌++◌, map, codes, Option, Some, None, refl, sym, ap, ap₂, ◌∙◌, append_assoc}
use Rattle.std.specs.List.{flat_map}
use Rattle.std.specs.Option.{option_map}
use Rattle.sudoers_grammar.specs.Node.{Digest, Member, RunasSpec}
use Rattle.sudoers_grammar.specs.declared.node.Kind.{Kind}
use Rattle.sudoers_grammar.specs.declared.node.Kind.TheVariants.{Runas, Cmnd}
use Rattle.sudoers_grammar.specs.declared.node.Atom.{Atom}
use Rattle.sudoers_grammar.specs.declared.node.OptionName.{OptionName}
use Rattle.sudoers_grammar.specs.declared.node.Tag.{Tag}
use Rattle.sudoers_line_rows.specs.declared.row_lists.RowsOfTable.{RowsOfTable}
use Rattle.sudoers_line_rows.specs.declared.rows.MemberRow.{MemberRow}
use Rattle.sudoers_line_rows.specs.View.{member_of_view, runas_of_view}
use Rattle.sudoers_match_list.specs.Flat.{signed_atom_of_member}
use Rattle.sudoers_match.specs.declared.command_settings.CommandSettings.{CommandSettings}
use Rattle.sudoers_match.specs.declared.tags.CommandTags.{CommandTags}
use Rattle.sudoers_match.specs.Heads.{AccumulatedCommandSettings, final_value_of_option, final_value_of_tag, final_tags_of, given_options_in_order}
use Rattle.sudoers_match.specs.IsHead.{HoldsCommandSettings}
use Rattle.sudoers_match.specs.Values.{OptionValues, final_values_of_options, option_values_of_view}
use Rattle.sudoers_cvt_spell.specs.Commands.{printed_runas_lists, printed_runas_prefix, printed_options, printed_tags, printed_runas_options_tags_and_command}
use Rattle.sudoers_cvt_spell.specs.Members.{negation_sign, printed_atom, printed_digests, printed_member, printed_member_list}
use Rattle.sudoers_cvt_rules.specs.Effective.{effective_command, given_tags_in_order}
use Rattle.sudoers_compare.specs.declared.flat_row.FlatRow.{FlatRow}
use Rattle.sudoers_compare.specs.declared.flat_row.FlatRunasView.{FlatRunasView}
use Rattle.sudoers_compare.specs.FlatRow.{flat_runas_spec_of_view, grant_of_view, optional_signed_atoms_of_view}
use Rattle.sudoers_review.specs.RowText.{command_of_grant, member_of_signed_atom, members_of_optional_list, members_of_signed_atoms, runas_spec_of_flat, value_of_option, value_of_tag}
use Rattle.sudoers_review.specs.RowViews.{members_of_optional_view, runas_of_flat_view}

-- ---- members

sign_turned_twice_is_printed_alike : (first : Bool) (k : Kind) (digests : List Digest) (atom : Atom) (negated : Bool)
    → printed_digests digests ++ negation_sign (not (not negated)) ++ printed_atom (first && not (not (not negated))) k atom
    ≡ printed_digests digests ++ negation_sign negated ++ printed_atom (first && not negated) k atom
sign_turned_twice_is_printed_alike first k digests atom true = refl
sign_turned_twice_is_printed_alike first k digests atom false = refl

-- a member that says what its signed atom does
abbrev member_again : Member → Member
member_again m = member_of_signed_atom (signed_atom_of_member m)

abbrev members_again : List Member → List Member
members_again ms = members_of_signed_atoms (map signed_atom_of_member ms)

pub member_is_printed_alike : (first : Bool) (k : Kind) (m : Member) → printed_member first k (member_again m) ≡ printed_member first k m
member_is_printed_alike first k m = sign_turned_twice_is_printed_alike first k m.digests m.atom m.negated

next_members_are_printed_alike : (k : Kind) (ms : List Member)
    → flat_map (λ (n : Member). codes ", " ++ printed_member false k n) (members_again ms) ≡ flat_map (λ (n : Member). codes ", " ++ printed_member false k n) ms
next_members_are_printed_alike k [] = refl
next_members_are_printed_alike k (m ∷ ms) =
    ap₂ (λ (one rest : List ℕ). (codes ", " ++ one) ++ rest) (member_is_printed_alike false k m) (next_members_are_printed_alike k ms)

pub members_are_printed_alike : (first : Bool) (k : Kind) (ms : List Member) → printed_member_list first k (members_again ms) ≡ printed_member_list first k ms
members_are_printed_alike first k [] = refl
members_are_printed_alike first k (m ∷ ms) = ap₂ (λ (one rest : List ℕ). one ++ rest) (member_is_printed_alike first k m) (next_members_are_printed_alike k ms)

-- ---- the Runas_Spec

runas_lists_are_printed_alike : (us gs : List Member) → printed_runas_lists (members_again us) (members_again gs) ≡ printed_runas_lists us gs
runas_lists_are_printed_alike [] [] = refl
runas_lists_are_printed_alike (u ∷ us) [] = members_are_printed_alike false Runas (u ∷ us)
runas_lists_are_printed_alike [] (g ∷ gs) = ap (λ (text : List ℕ). codes ": " ++ text) (members_are_printed_alike false Runas (g ∷ gs))
runas_lists_are_printed_alike (u ∷ us) (g ∷ gs) =
    ap₂ (λ (one other : List ℕ). one ++ codes " : " ++ other) (members_are_printed_alike false Runas (u ∷ us)) (members_are_printed_alike false Runas (g ∷ gs))

optional_list_is_members_again : (list : Option (RowsOfTable MemberRow)) → members_of_optional_list (optional_signed_atoms_of_view list) ≡ members_again (members_of_optional_view list)
optional_list_is_members_again None = refl
optional_list_is_members_again (Some members) = refl

runas_is_printed_alike : (runas : Option FlatRunasView)
    → printed_runas_prefix (option_map runas_spec_of_flat (option_map flat_runas_spec_of_view runas)) ≡ printed_runas_prefix (option_map runas_of_flat_view runas)
runas_is_printed_alike None = refl
runas_is_printed_alike (Some spec) =
    let lists : printed_runas_lists (members_of_optional_list (optional_signed_atoms_of_view spec.users)) (members_of_optional_list (optional_signed_atoms_of_view spec.groups))
    ≡ printed_runas_lists (members_of_optional_view spec.users) (members_of_optional_view spec.groups) =
    ap₂ printed_runas_lists (optional_list_is_members_again spec.users) (optional_list_is_members_again spec.groups)
    ∙ runas_lists_are_printed_alike (members_of_optional_view spec.users) (members_of_optional_view spec.groups) in
    ap (λ (text : List ℕ). (codes "(" ++ text ++ codes ")") ++ codes " ") lists

-- ---- the command

abbrev printed_settings : Option RunasSpec → OptionValues → CommandTags → Member → List ℕ
printed_settings runas options tags member =
    printed_runas_prefix runas ++ printed_options (given_options_in_order (value_of_option options)) ++ printed_tags (given_tags_in_order (value_of_tag tags))
    ++ printed_member false Cmnd member

final_options_are_given_alike : (options : List (OptionName × List ℕ))
    → given_options_in_order (final_value_of_option options) ≡ given_options_in_order (value_of_option (final_values_of_options options))
final_options_are_given_alike options = refl

final_tags_are_given_alike : (tags : List (Tag × Bool)) → given_tags_in_order (final_value_of_tag tags) ≡ given_tags_in_order (value_of_tag (final_tags_of tags))
final_tags_are_given_alike tags = refl

effective_command_is_printed_by_values : (h : AccumulatedCommandSettings) (m : Member)
    → printed_runas_options_tags_and_command (effective_command (h, m)) ≡ printed_settings h.runas (final_values_of_options h.options) (final_tags_of h.tags) m
effective_command_is_printed_by_values h m =
    let text : List (OptionName × List ℕ) → List (Tag × Bool) → List ℕ = λ options tags. printed_runas_prefix h.runas ++ printed_options options ++ printed_tags tags ++ printed_member false Cmnd m in
    ap₂ text (final_options_are_given_alike h.options) (final_tags_are_given_alike h.tags)

pub settings_of_row_are_printed_as_its_grant : (held : CommandSettings) (row : FlatRow) (h : AccumulatedCommandSettings) → HoldsCommandSettings held h
    → option_map runas_of_view held.runas ≡ option_map runas_of_flat_view row.runas → held.options ≡ row.options → held.tags ≡ row.tags
    → printed_runas_options_tags_and_command (effective_command (h, member_of_view row.member)) ≡ printed_runas_options_tags_and_command (command_of_grant (grant_of_view row))
settings_of_row_are_printed_as_its_grant held row h holds runas options tags =
    let m : Member = member_of_view row.member in
    let same_runas : h.runas ≡ option_map runas_of_flat_view row.runas = sym holds.runas ∙ runas in
    let same_options : final_values_of_options h.options ≡ option_values_of_view row.options = sym holds.options ∙ ap option_values_of_view options in
    let same_tags : final_tags_of h.tags ≡ row.tags = sym holds.tags ∙ tags in
    effective_command_is_printed_by_values h m
    ∙ ap (λ r. printed_settings r (final_values_of_options h.options) (final_tags_of h.tags) m) same_runas
    ∙ ap₂ (λ values said. printed_settings (option_map runas_of_flat_view row.runas) values said m) same_options same_tags
    ∙ ap (λ (text : List ℕ). text
    ++ printed_options (given_options_in_order (value_of_option (option_values_of_view row.options))) ++ printed_tags (given_tags_in_order (value_of_tag row.tags))
    ++ printed_member false Cmnd m) (sym (runas_is_printed_alike row.runas))
    ∙ ap (λ (text : List ℕ). printed_runas_prefix (option_map runas_spec_of_flat (option_map flat_runas_spec_of_view row.runas))
    ++ printed_options (given_options_in_order (value_of_option (option_values_of_view row.options))) ++ printed_tags (given_tags_in_order (value_of_tag row.tags)) ++ text)
    (sym (member_is_printed_alike false Cmnd m))

-- ---- a row

pub row_parts_are_grouped : (o users space hosts equals command : List ℕ)
    → ((((o ++ users) ++ space) ++ hosts) ++ equals) ++ command ≡ o ++ (users ++ space ++ hosts ++ equals ++ command)
row_parts_are_grouped o users space hosts equals command = simp append_assoc
