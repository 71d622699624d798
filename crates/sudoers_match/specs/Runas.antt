-- As whom a command may run (sudoers(5), Runas_Spec, runas_default).
use Rattle.std.specs.Prelude.{◌≡◌, ℕ, Bool, true, false, List, [], ◌∷◌, Option, Some, None}
use Rattle.sudoers_grammar.specs.declared.node.Kind.TheVariants.{Runas}
use Rattle.sudoers_grammar.specs.Node.{Member, RunasSpec}
use Rattle.sudoers_tree.specs.Line.{Line}
use Rattle.sudoers_match_member.specs.declared.people_and_commands.Group.{Group}
use Rattle.sudoers_match_member.specs.declared.people_and_commands.Person.{Person}
use Rattle.sudoers_match_member.specs.declared.people_and_commands.Who.{Who}
use Rattle.sudoers_match_member.specs.Hits.{is_number_among_groups, is_user_atom_match, is_runas_group_atom_match, is_name_equal_ignoring_case}
use Rattle.sudoers_match_list.specs.declared.verdict.Verdict.{Verdict}
use Rattle.sudoers_match_list.specs.declared.verdict.Verdict.TheVariants.{Allow, Deny, Unsaid}
use Rattle.sudoers_match_list.specs.Flat.{IsListVerdict}
use Rattle.sudoers_match.specs.Allows.{ListAllows}
use Rattle.sudoers_match.specs.Default.{IsRunasDefault}

-- No group is asked for, or it is one of these.
abbrev pub is_group_absent_or_among : List Group → Option Group → Bool
is_group_absent_or_among groups None = true
is_group_absent_or_among groups (Some g) = is_number_among_groups groups g.gid

-- what a list of groups says decides; where it says nothing, a group of the target's own is as good
abbrev pub is_allowed_by_verdict_or_own_group : Verdict → Bool → Bool
is_allowed_by_verdict_or_own_group Allow own = true
is_allowed_by_verdict_or_own_group Unsaid own = own
is_allowed_by_verdict_or_own_group Deny own = false

-- No group is asked for, or the list allows it, or says nothing of it and it is one of the target's.
abbrev pub RunasGroupsAllow : List Line → Person → Option Group → List Member → Type 0
RunasGroupsAllow lines target None groups = Unit {0}
RunasGroupsAllow lines target (Some g) groups =
    (verdict : Verdict) × IsListVerdict Runas lines (is_runas_group_atom_match g) groups verdict × (is_allowed_by_verdict_or_own_group verdict (is_group_absent_or_among target.groups (Some g)) ≡ true)

-- `()`: as the user himself, with one of his groups. `(:G)`: as the user himself, with a group of the list. `(U)`: as a user of the
-- list, with one of the target's groups. `(U:G)`: as a user of the one list, with a group of the other.
abbrev pub RunasListsAllow : List Line → Person → Person → Option Group → List Member → List Member → Type 0
RunasListsAllow lines user target group [] [] = (target.uid ≡ user.uid) × (is_group_absent_or_among user.groups group ≡ true)
RunasListsAllow lines user target group [] (g ∷ gs) = (target.uid ≡ user.uid) × RunasGroupsAllow lines target group (g ∷ gs)
RunasListsAllow lines user target group (u ∷ us) [] = ListAllows Runas lines (is_user_atom_match target) (u ∷ us) × (is_group_absent_or_among target.groups group ≡ true)
RunasListsAllow lines user target group (u ∷ us) (g ∷ gs) =
    ListAllows Runas lines (is_user_atom_match target) (u ∷ us) × RunasGroupsAllow lines target group (g ∷ gs)

-- The command may run as the target, with the group that is asked for. Without a Runas_Spec it runs as runas_default.
abbrev pub RunasSpecAllows : List Line → Who → Person → Option Group → Option RunasSpec → Type 0
RunasSpecAllows lines who target group (Some s) = RunasListsAllow lines who.user target group s.users s.groups
RunasSpecAllows lines who target group None =
    (name : List ℕ) × IsRunasDefault lines who name × (is_name_equal_ignoring_case name target.name ≡ true) × (is_group_absent_or_among target.groups group ≡ true)
