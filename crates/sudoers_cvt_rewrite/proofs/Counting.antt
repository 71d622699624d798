-- How many members rules have.
use Rattle.sudoers_cvt_rewrite.proofs.Common.{Bool, CmdSpec, CvtFault, IsTooManyMembersOrNoMemoryFault, Kind, Line, List, Member, None, Option, RunasSpec, Some, [], arith, commands_and_effective_runas_member_count, definitions_of_lines, false, inl}
use Rattle.sudoers_cvt_rewrite.proofs.Common.{inr, length, list_expanded_if, map, runas_member_count_or_inherited, true, ℕ, ◌++◌, ◌∷◌, ◌≤◌}
use Rattle.sudoers_tree.specs.Policy.{AreValidWalkLines}
use Rattle.sudoers_cvt_rewrite.specs.Expand.{command_with_runas_and_member}
use Rattle.sudoers_cvt_rewrite.proofs.Lists.{longer}
use Rattle.sudoers_cvt_rewrite.proofs.Members.{aliases_of_valid_lines_have_members}

pub refusal_of_fewer_is_refusal_of_more : (expand : Bool) (n m : ℕ) (fault : CvtFault) → IsTooManyMembersOrNoMemoryFault expand n fault → n ≤ m → IsTooManyMembersOrNoMemoryFault expand m fault
refusal_of_fewer_is_refusal_of_more expand n m fault (inl e) le = inl e
refusal_of_fewer_is_refusal_of_more expand n m fault (inr (e, is, less)) le = inr (e, is, omega arith)

-- Each of the commands counts.
pub commands_per_member_count_at_least_members : (runas : Option RunasSpec) (c : CmdSpec) (rest : List CmdSpec) (before : ℕ) (ms : List Member)
    → length ms ≤ commands_and_effective_runas_member_count before (map (command_with_runas_and_member runas c) ms ++ rest)
commands_per_member_count_at_least_members runas c rest before [] = omega arith
commands_per_member_count_at_least_members runas c rest before (m ∷ ms) =
    let more = commands_per_member_count_at_least_members runas c rest (runas_member_count_or_inherited before runas) ms in
    omega (arith, more)

-- The Runas_Spec counts, if there is a command.
pub commands_per_member_count_at_least_runas : (runas : Option RunasSpec) (c : CmdSpec) (rest : List CmdSpec) (before : ℕ) (ms : List Member) → 1 ≤ length ms
    → runas_member_count_or_inherited 0 runas ≤ commands_and_effective_runas_member_count before (map (command_with_runas_and_member runas c) ms ++ rest)
commands_per_member_count_at_least_runas runas c rest before [] some = absurd (omega arith)
commands_per_member_count_at_least_runas None c rest before (m ∷ ms) some = omega arith
commands_per_member_count_at_least_runas (Some r) c rest before (m ∷ ms) some = omega arith

-- A list with a member has one when its aliases are replaced.
pub expanded_member_list_is_not_empty : (expand : Bool) (k : Kind) (lines : List Line) (m : Member) → AreValidWalkLines lines → 1 ≤ length (list_expanded_if expand k lines (m ∷ []))
expanded_member_list_is_not_empty true k lines m policy = longer k lines (aliases_of_valid_lines_have_members k lines policy) (length (definitions_of_lines lines)) (m ∷ [])
expanded_member_list_is_not_empty false k lines m policy = omega arith
