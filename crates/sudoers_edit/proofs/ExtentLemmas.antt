-- How one more in a line is taken out again, and how one that was taken out comes back.
use Rattle.sudoers_edit.proofs.Common.{Bool, ByteExtent, Def, EditFault, Kind, LineTexts, List, Node, Result, Some, arith, extents_of_definitions, false, are_owned_byte_offsets_in_both_lists, has_one_definition_more, le-ltb}
use Rattle.sudoers_edit.proofs.Common.{length, lt-leb, ne_eqb, owned_bytes_start, owned_bytes_stop, refl, result_with_bytes_to_drop_item, result_with_offset_to_add_item, true, ℕ, ◌&&◌, ◌≡◌}
use Rattle.sudoers_grammar.specs.Node as node
use Rattle.sudoers_edit.proofs.SpliceLemmas.{option_told_equal_is_number, owned_start_implies_number_within_items, owned_stop_implies_one_of_several}

-- TRUTH

pub conjunction_implies_both : (a b : Bool) → (a && b) ≡ true → (a ≡ true) × (b ≡ true)
conjunction_implies_both true b h = (refl, h)
conjunction_implies_both false b h = absurd (cc)

-- What it means that one owns these bytes exactly.
pub record AreExactlyOwnedBytes (at from to : ℕ) (more less : List ByteExtent) : Type 0 where
  pub begins : owned_bytes_start at more ≡ Some from
  pub stops : owned_bytes_stop at more ≡ Some to
  pub fits : owned_bytes_start at less ≡ Some from

pub exact_owned_bytes_have_start_and_stop : (at from to : ℕ) (more less : List ByteExtent) → are_owned_byte_offsets_in_both_lists at from to more less ≡ true → AreExactlyOwnedBytes at from to more less
exact_owned_bytes_have_start_and_stop at from to more less h =
    let outer = conjunction_implies_both _ _ h in
    let inner = conjunction_implies_both _ _ outer.0 in
    record {
      begins = option_told_equal_is_number from (owned_bytes_start at more) inner.0;
      stops = option_told_equal_is_number to (owned_bytes_stop at more) inner.1;
      fits = option_told_equal_is_number from (owned_bytes_start at less) outer.1;
    }

-- ONE MORE AMONG OTHERS

pub result_at_splice_offset_is_next : (at from : ℕ) (xs : List ByteExtent) (next : ℕ → Result LineTexts EditFault) → owned_bytes_start at xs ≡ Some from → result_with_offset_to_add_item at xs next ≡ next from
result_at_splice_offset_is_next at from xs next here = rw (le-ltb (length xs) at (owned_start_implies_number_within_items xs at from here), here) refl

pub result_at_owned_bytes_is_next : (at from to : ℕ) (xs : List ByteExtent) (next : ℕ → ℕ → Result LineTexts EditFault) → owned_bytes_start at xs ≡ Some from → owned_bytes_stop at xs ≡ Some to
    → result_with_bytes_to_drop_item at xs next ≡ next from to
result_at_owned_bytes_is_next at from to xs next here there =
    let within = owned_stop_implies_one_of_several xs at to there in
    rw (lt-leb (length xs) at within.0, ne_eqb (length xs) 1 (λ e. absurd (omega (arith, e, within.1))), here, there) refl

-- DEFINITIONS

pub record HasOneDefinitionMore (at from to : ℕ) (n m : Node) : Type 0 where
  pub k : Kind
  pub j : Kind
  pub more : List Def
  pub less : List Def
  pub is : n ≡ node.Alias k more
  pub was : m ≡ node.Alias j less
  pub owned : AreExactlyOwnedBytes at from to (extents_of_definitions more) (extents_of_definitions less)

pub line_with_one_definition_more_has_parts : (at from to : ℕ) (n m : Node) → has_one_definition_more at from to (Some n) (Some m) ≡ true → HasOneDefinitionMore at from to n m
line_with_one_definition_more_has_parts at from to (node.Alias k more) (node.Alias j less) h =
    record { k = k; j = j; more = more; less = less; is = refl; was = refl; owned = exact_owned_bytes_have_start_and_stop at from to (extents_of_definitions more) (extents_of_definitions less) (conjunction_implies_both _ _ h).1 }
line_with_one_definition_more_has_parts at from to (node.Alias k more) node.Blank h = absurd (cc)
line_with_one_definition_more_has_parts at from to (node.Alias k more) node.Comment h = absurd (cc)
line_with_one_definition_more_has_parts at from to (node.Alias k more) (node.Include d p) h = absurd (cc)
line_with_one_definition_more_has_parts at from to (node.Alias k more) (node.Defaults s p) h = absurd (cc)
line_with_one_definition_more_has_parts at from to (node.Alias k more) (node.Spec u g) h = absurd (cc)
line_with_one_definition_more_has_parts at from to node.Blank m h = absurd (cc)
line_with_one_definition_more_has_parts at from to node.Comment m h = absurd (cc)
line_with_one_definition_more_has_parts at from to (node.Include d p) m h = absurd (cc)
line_with_one_definition_more_has_parts at from to (node.Defaults s p) m h = absurd (cc)
line_with_one_definition_more_has_parts at from to (node.Spec u g) m h = absurd (cc)
