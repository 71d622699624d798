-- One member or definition more, as the code compares two lines.
use Rattle.sudoers_edit.proofs.Common.{Bool, Def, Kind, List, Node, Some, are_lists_alike, extents_of_definitions, are_owned_byte_offsets_in_both_lists, has_one_definition_more, is_equal_kind, is_same_def, refl, remove, ℕ, ◌&&◌}
use Rattle.sudoers_edit.proofs.Common.{◌≡◌}
use Rattle.sudoers_grammar.specs.Node as node

pub compared_parts_make_one_definition_more : (at from to : ℕ) (k j : Kind) (more less : List Def) (n m : Node) (a b c : Bool) → n ≡ node.Alias k more → m ≡ node.Alias j less → a ≡ is_equal_kind k j
    → b ≡ are_lists_alike is_same_def (remove more at) less → c ≡ are_owned_byte_offsets_in_both_lists at from to (extents_of_definitions more) (extents_of_definitions less)
    → ((a && b) && c) ≡ has_one_definition_more at from to (Some n) (Some m)
compared_parts_make_one_definition_more at from to k j more less n m a b c is was kind alike owned = rw (is, was, kind, alike, owned) refl
