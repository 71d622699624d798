-- A device of the proof, which no public contract cites: what is left to be written of a list whose aliases are replaced.
use Rattle.std.specs.Prelude.{◌≡◌, ◌≤◌, ◌+◌, ℕ, zero, suc, List, [], ◌∷◌, ◌++◌, map, Option, Some, None}
use Rattle.sudoers_grammar.specs.declared.node.Kind.{Kind}
use Rattle.sudoers_grammar.specs.Node.{Member}
use Rattle.sudoers_line_rows.specs.declared.rows.Tables.{Tables}
use Rattle.sudoers_line_rows.specs.Tables.{member_in_tables}
use Rattle.sudoers_tree.specs.Line.{Line}
use Rattle.sudoers_match_list.specs.Flat.{alias_members_of_atom}
use Rattle.sudoers_match_list.specs.Flattened.{member_under_negation, list_expanded_n_times}
use Rattle.sudoers_match_list.specs.declared.flatten.PendingListPart.{PendingListPart}

-- what is written of a part
abbrev pub expanded_members_of_part : Kind → List Line → Tables → PendingListPart → List Member
expanded_members_of_part k lines t p = list_expanded_n_times p.times k lines (map (member_under_negation p.negated) (map (member_in_tables t) p.rows.now))

-- what is written of parts, of the last first
abbrev pub members_left_to_write : Kind → List Line → Tables → List PendingListPart → List Member
members_left_to_write k lines t [] = []
members_left_to_write k lines t (p ∷ ps) = members_left_to_write k lines t ps ++ expanded_members_of_part k lines t p

-- ---- how many steps are left

-- the steps that a member takes, where the members of its alias take so many
abbrev pub expansion_steps_of_member : (List Member → ℕ) → Option (List Member) → ℕ
expansion_steps_of_member inner None = 1
expansion_steps_of_member inner (Some ms) = 1 + inner ms

-- one step more than its members take
abbrev pub expansion_steps_of_list : (Member → ℕ) → List Member → ℕ
expansion_steps_of_list each [] = 1
expansion_steps_of_list each (m ∷ ms) = each m + expansion_steps_of_list each ms

-- the steps that a list takes whose aliases are replaced so many times
abbrev pub expansion_steps : ℕ → Kind → List Line → List Member → ℕ
expansion_steps zero k lines ms = expansion_steps_of_list (λ m. 1) ms
expansion_steps (suc n) k lines ms = expansion_steps_of_list (λ (m : Member). expansion_steps_of_member (expansion_steps n k lines) (alias_members_of_atom k lines m.atom)) ms

abbrev pub expansion_steps_of_part : Kind → List Line → Tables → PendingListPart → ℕ
expansion_steps_of_part k lines t p = expansion_steps p.times k lines (map (member_in_tables t) p.rows.now)

abbrev pub expansion_steps_left : Kind → List Line → Tables → List PendingListPart → ℕ
expansion_steps_left k lines t [] = 0
expansion_steps_left k lines t (p ∷ ps) = expansion_steps_of_part k lines t p + expansion_steps_left k lines t ps

-- The part says what comes of a member whose aliases are replaced so many times, and takes fewer steps.
pub record IsPendingPartInPlaceOfAliasMember (k : Kind) (lines : List Line) (t : Tables) (times : ℕ) (m : Member) (part : PendingListPart) : Type 0 where
  pub same : expanded_members_of_part k lines t part ≡ list_expanded_n_times times k lines (m ∷ [])
  pub fewer : expansion_steps_of_part k lines t part + 2 ≤ expansion_steps times k lines (m ∷ [])
