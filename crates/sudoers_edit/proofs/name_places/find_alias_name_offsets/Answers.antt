use Rattle.sudoers_edit.proofs.Common.{AliasMember, List, ap₂, flat_map, name_offset_if_alias_member_matches, ℕ, ◌++◌, ◌∙◌}
use Rattle.sudoers_edit.proofs.StartLemmas.{line_alias_offsets_are_name_offsets}
use Rattle.sudoers_tree.proofs.ListedMembers.{members_of_kind_are_listed_members}
use Rattle.sudoers_edit.proofs.name_places.find_alias_name_offsets.Goals as goal

pub returns-in_ok-append_offsets_of_matching_aliases-in_default : goal.returns-in_ok-append_offsets_of_matching_aliases-in_default
returns-in_ok-append_offsets_of_matching_aliases-in_default c =
    c.in_ok-append_offsets_of_matching_aliases-in_default.ensures
    ∙ ap₂ (λ (xs : List ℕ) (found : List AliasMember). xs ++ flat_map (name_offset_if_alias_member_matches c.args.kind c.args.name.now) found) c.new-starts.ensures.items (c.as_slice.ensures.value ∙ c.in_ok-aliases-in_default.ensures)
    ∙ line_alias_offsets_are_name_offsets c.args.kind c.args.name.now c.args.node.now members_of_kind_are_listed_members c.in_default.not-Alias
