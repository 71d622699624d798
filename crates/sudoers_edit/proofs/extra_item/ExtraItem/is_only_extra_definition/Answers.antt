use Rattle.sudoers_edit.proofs.Common.{alias_definitions_of_view, ap, node_of_view}
use Rattle.sudoers_edit.proofs.MoreLemmas.{compared_parts_make_one_definition_more}
use Rattle.sudoers_edit.proofs.extra_item.ExtraItem.is_only_extra_definition.Goals as goal

pub returns-in-Alias-Alias : goal.returns-in-Alias-Alias
returns-in-Alias-Alias c =
    compared_parts_make_one_definition_more c.args.self.at c.args.self.from c.args.self.to c.in-Alias-Alias.kind c.in-Alias-Alias.other (alias_definitions_of_view c.in-Alias-Alias.more) (alias_definitions_of_view c.in-Alias-Alias.less)
    (node_of_view c.args.more.now) (node_of_view c.args.less.now) c.is_same_kind-same.result c.are_lists_alike_without-alike.result c.has_owned_byte_offsets_in_both_lists-owned.result
    (ap node_of_view c.in-Alias-Alias.is-0) (ap node_of_view c.in-Alias-Alias.is-1) c.is_same_kind-same.ensures c.are_lists_alike_without-alike.ensures c.has_owned_byte_offsets_in_both_lists-owned.ensures
