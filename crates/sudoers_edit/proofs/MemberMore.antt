-- Members put into the list of an alias and taken out of it.
use Rattle.sudoers_edit.proofs.Common.{Def, Kind, List, Node, None, Option, Some, [], ap, arith, extents_of_definition_members, has_one_member_more, owned_bytes_start, refl, slice_get, suc, sym, true, zero, ℕ, ◌≡◌}
use Rattle.sudoers_grammar.specs.Node as node
use Rattle.sudoers_edit.proofs.ExtentLemmas.{conjunction_implies_both, AreExactlyOwnedBytes, exact_owned_bytes_have_start_and_stop}
use Rattle.sudoers_edit.proofs.PlaceLemmas.{HaveSameDefinitionNames, definitions_without_member_have_same_names, equal_kinds_are_identical}
use Rattle.sudoers_edit.proofs.SpliceLemmas.{owned_start_implies_number_within_items}

-- ONE MEMBER MORE

pub record HasOneMemberMore (def at from to : ℕ) (n m : Node) : Type 0 where
  pub k : Kind
  pub more : List Def
  pub less : List Def
  pub is : n ≡ node.Alias k more
  pub was : m ≡ node.Alias k less
  pub names : HaveSameDefinitionNames more less
  pub owned : AreExactlyOwnedBytes at from to (extents_of_definition_members (slice_get more def)) (extents_of_definition_members (slice_get less def))

pub line_with_one_member_more_has_parts : (def at from to : ℕ) (n m : Node) → has_one_member_more def at from to (Some n) (Some m) ≡ true → HasOneMemberMore def at from to n m
line_with_one_member_more_has_parts def at from to (node.Alias k more) (node.Alias j less) h =
    let outer = conjunction_implies_both _ _ h in
    let inner = conjunction_implies_both _ _ outer.0 in
    record {
      k = k;
      more = more;
      less = less;
      is = refl;
      was = ap (λ i. node.Alias i less) (sym (equal_kinds_are_identical k j inner.0));
      names = definitions_without_member_have_same_names more less def at inner.1;
      owned = exact_owned_bytes_have_start_and_stop at from to (extents_of_definition_members (slice_get more def)) (extents_of_definition_members (slice_get less def)) outer.1;
    }
line_with_one_member_more_has_parts def at from to (node.Alias k more) node.Blank h = absurd (cc)
line_with_one_member_more_has_parts def at from to (node.Alias k more) node.Comment h = absurd (cc)
line_with_one_member_more_has_parts def at from to (node.Alias k more) (node.Include d p) h = absurd (cc)
line_with_one_member_more_has_parts def at from to (node.Alias k more) (node.Defaults s p) h = absurd (cc)
line_with_one_member_more_has_parts def at from to (node.Alias k more) (node.Spec u g) h = absurd (cc)
line_with_one_member_more_has_parts def at from to node.Blank m h = absurd (cc)
line_with_one_member_more_has_parts def at from to node.Comment m h = absurd (cc)
line_with_one_member_more_has_parts def at from to (node.Include d p) m h = absurd (cc)
line_with_one_member_more_has_parts def at from to (node.Defaults s p) m h = absurd (cc)
line_with_one_member_more_has_parts def at from to (node.Spec u g) m h = absurd (cc)

-- of which definition that is
pub owned_members_belong_to_some_definition : (o : Option Def) (at from : ℕ) → owned_bytes_start at (extents_of_definition_members o) ≡ Some from → (d : Def) × (o ≡ Some d)
owned_members_belong_to_some_definition (Some d) at from h = (d, refl)
owned_members_belong_to_some_definition None zero from h = absurd (cc)
owned_members_belong_to_some_definition None (suc at) from h = let within = owned_start_implies_number_within_items [] (suc at) from h in absurd (omega (arith, within))
