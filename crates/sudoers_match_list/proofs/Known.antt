-- What is known of flat lists in a policy, in which each definition has its own number.
use Rattle.sudoers_match_list.proofs.Common.{IsFlatListOf, Kind, Line, List, ListLeadsToCyclicAlias, Member, SignedAtom, definitions_of_lines, inl, inr, length, map, signed_atom_of_member, ◌∙◌, ◌≡◌}
use Rattle.sudoers_tree.specs.Policy.{AreValidWalkLines}
use Rattle.sudoers_check.proofs.Linked.{definition_in_valid_lines_has_number}
use Rattle.sudoers_match_list.specs.Flattened.{fully_expanded_list}
use Rattle.sudoers_match_list.proofs.Cycles.{not_to_cycle}
use Rattle.sudoers_match_list.proofs.Depth.{is_flat, replaced}
use Rattle.sudoers_match_list.proofs.Exists.{flat_or_cycle}
use Rattle.sudoers_match_list.proofs.Named.{is_round, round_is}
use Rattle.sudoers_match_list.proofs.Unique.{one_flat}

module _ (k : Kind) (lines : List Line) (policy : AreValidWalkLines lines) (ms : List Member) (fs : List SignedAtom) (f : IsFlatListOf k lines ms fs) where
  -- a list that has a flat list leads to no cyclic alias
  pub no_cycle : ListLeadsToCyclicAlias k lines ms → ⊥
  no_cycle l = not_to_cycle k lines ms fs f (is_round k lines (definition_in_valid_lines_has_number lines policy) ms l)

  -- its flat list is what replacing its aliases comes to
  pub flat_is : fs ≡ map signed_atom_of_member (fully_expanded_list k lines ms)
  flat_is = elim (flat_or_cycle k lines ms) [
    | inl g ↦
        let n = length (definitions_of_lines lines) in
        one_flat k lines ms fs g.0 f (is_flat k lines n ms g.0 g.1) ∙ replaced k lines n ms g.0 g.1
    | inr l ↦ absurd (no_cycle (round_is k lines ms l))
  ]
