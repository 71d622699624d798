-- A walk through aliases that decides each of them once, by the number of its definition. Contracts of `AliasVerdictCache`
-- and of its callers cite it.
use Rattle.std.specs.Prelude.{◌≡◌, ◌≢◌, ◌<◌, ◌≤◌, ◌+◌, ◌-◌, ℕ, Bool, List, [], ◌∷◌, ◌++◌, length, take, Option, Some, None, slice_get, slice_set}
use Rattle.sudoers_grammar.specs.declared.node.Kind.{Kind}
use Rattle.sudoers_grammar.specs.declared.node.Atom.{Atom}
use Rattle.sudoers_grammar.specs.declared.node.Atom.TheVariants as atom
use Rattle.sudoers_grammar.specs.Node.{Member}
use Rattle.sudoers_line_rows.specs.View.{members_of_view}
use Rattle.sudoers_tree.specs.Line.{Line}
use Rattle.sudoers_tree.specs.Definition.{PlacedDefinition, definitions_of_lines}
use Rattle.sudoers_check.specs.Chain.{ListHasElement, IsReachedByChainOfSteps}
use Rattle.sudoers_check.specs.Chains.{alias_names_among_members}
use Rattle.sudoers_check.specs.Numbers.{number_of_definition, numbers_of_defined_names}
use Rattle.sudoers_match_list.specs.declared.numbered_alias.AliasNumberAndMembers.{AliasNumberAndMembers}
use Rattle.sudoers_match_list.specs.declared.verdict.MemberHit.{MemberHit}
use Rattle.sudoers_match_list.specs.declared.verdict.LastHitOrCycle.{LastHitOrCycle}
use Rattle.sudoers_match_list.specs.declared.verdict.LastHitOrCycle.TheVariants.{Latest, Cyclic}
use Rattle.sudoers_match_list.specs.declared.alias_verdicts.AliasDecisionState.{AliasDecisionState}
use Rattle.sudoers_match_list.specs.declared.alias_verdicts.AliasDecisionState.TheVariants.{New, Open, Decided}
use Rattle.sudoers_match_list.specs.declared.alias_verdicts.AliasSearchStep.{AliasSearchStep}
use Rattle.sudoers_match_list.specs.declared.alias_verdicts.AliasVerdictCache.{AliasVerdictCache}
use Rattle.sudoers_match_list.specs.Flat.{IsLastHitOfList, later_hit_if_any}
use Rattle.sudoers_match_list.specs.Cycle.{ListLeadsToCyclicAlias}

-- the number of the alias that the atom names in a list of this kind, if it is defined
abbrev pub alias_number_of_atom : Kind → List Line → Atom → Option ℕ
alias_number_of_atom kd lines (atom.Alias name) = number_of_definition kd name (definitions_of_lines lines)
alias_number_of_atom kd lines other = None

abbrev pub members_of_optional_definition : Option PlacedDefinition → List Member
members_of_optional_definition None = []
members_of_optional_definition (Some d) = d.def.members

-- the members of the definition with this number
abbrev pub members_of_definition_number : List Line → ℕ → List Member
members_of_definition_number lines n = members_of_optional_definition (slice_get (definitions_of_lines lines) n)

-- the numbers of the aliases among members
abbrev pub alias_numbers_in_list : Kind → List Line → List Member → List ℕ
alias_numbers_in_list kd lines ms = numbers_of_defined_names kd (alias_names_among_members ms) (definitions_of_lines lines)

-- one is a member of the other
abbrev pub HasAliasAsMember : Kind → List Line → ℕ → ℕ → Type 0
HasAliasAsMember kd lines j k = ListHasElement (alias_numbers_in_list kd lines (members_of_definition_number lines j)) k

abbrev pub IsAliasCyclic : Kind → List Line → ℕ → Type 0
IsAliasCyclic kd lines k = IsReachedByChainOfSteps (HasAliasAsMember kd lines) (HasAliasAsMember kd lines k) k

-- The list leads to an alias that finds itself.
pub record ListLeadsToAliasCycle (kd : Kind) (lines : List Line) (ms : List Member) : Type 0 where
  pub alias : ℕ
  pub reached : IsReachedByChainOfSteps (HasAliasAsMember kd lines) (ListHasElement (alias_numbers_in_list kd lines ms)) alias
  pub cyclic : IsAliasCyclic kd lines alias

-- no or more steps lead from v to the alias
abbrev pub LeadsToAliasInAnySteps : Kind → List Line → ℕ → ℕ → Type 0
LeadsToAliasInAnySteps kd lines v = IsReachedByChainOfSteps (HasAliasAsMember kd lines) (λ x. v ≡ x)

-- The step has the verdict of the members before the next.
pub record HoldsHitOfMembersBeforeNext (kd : Kind) (lines : List Line) (test : Atom → Bool) (s : AliasSearchStep) : Type 0 where
  pub members_are : members_of_view s.members ≡ members_of_definition_number lines s.alias
  pub within : s.next ≤ length (members_of_definition_number lines s.alias)
  pub latest : IsLastHitOfList kd lines test (take s.next (members_of_definition_number lines s.alias)) s.latest

pub record IsConsistentAliasSearch (kd : Kind) (lines : List Line) (test : Atom → Bool) (standings : List AliasDecisionState) (way : List AliasSearchStep) : Type 0 where
  pub size : length standings ≡ length (definitions_of_lines lines)
  pub decided : (k : ℕ) (hit : Option MemberHit) → slice_get standings k ≡ Some (Decided hit) → IsLastHitOfList kd lines test (members_of_definition_number lines k) hit
  pub steps : (p : ℕ) (s : AliasSearchStep) → slice_get way p ≡ Some s → HoldsHitOfMembersBeforeNext kd lines test s
  pub opened : (p : ℕ) (s : AliasSearchStep) → slice_get way p ≡ Some s → slice_get standings s.alias ≡ Some Open
  pub on_way : (k : ℕ) → slice_get standings k ≡ Some Open → (p : ℕ) × (s : AliasSearchStep) × (slice_get way p ≡ Some s) × (s.alias ≡ k)
  pub apart : (p q : ℕ) (s t : AliasSearchStep) → slice_get way p ≡ Some s → slice_get way q ≡ Some t → s.alias ≡ t.alias → p ≡ q
  pub paths : (p q : ℕ) (s t : AliasSearchStep) → slice_get way p ≡ Some s → slice_get way q ≡ Some t → p ≤ q → LeadsToAliasInAnySteps kd lines s.alias t.alias

abbrev pub AreStepsReachedFromRoot : Kind → List Line → ℕ → List AliasSearchStep → Type 0
AreStepsReachedFromRoot kd lines root way = (p : ℕ) (s : AliasSearchStep) → slice_get way p ≡ Some s → LeadsToAliasInAnySteps kd lines root s.alias

-- how many steps are left for aliases that were not met, and for those on the way
abbrev pub steps_left_for_new_aliases : List AliasDecisionState → List PlacedDefinition → ℕ
steps_left_for_new_aliases [] ds = 0
steps_left_for_new_aliases (s ∷ ss) [] = 0
steps_left_for_new_aliases (New ∷ ss) (d ∷ ds) = 2 + length d.def.members + steps_left_for_new_aliases ss ds
steps_left_for_new_aliases (Open ∷ ss) (d ∷ ds) = steps_left_for_new_aliases ss ds
steps_left_for_new_aliases (Decided hit ∷ ss) (d ∷ ds) = steps_left_for_new_aliases ss ds

abbrev pub steps_left_on_stack : List Line → List AliasSearchStep → ℕ
steps_left_on_stack lines [] = 0
steps_left_on_stack lines (s ∷ way) = 1 + (length (members_of_definition_number lines s.alias) - s.next) + steps_left_on_stack lines way

abbrev pub search_steps_left : List Line → List AliasDecisionState → List AliasSearchStep → ℕ
search_steps_left lines standings way = steps_left_for_new_aliases standings (definitions_of_lines lines) + steps_left_on_stack lines way

abbrev pub IsAliasMet : List AliasDecisionState → ℕ → Type 0
IsAliasMet standings k = slice_get standings k ≢ Some New

-- What a step keeps and comes to.
pub record IsSearchStepProgress (kd : Kind) (lines : List Line) (test : Atom → Bool) (standings : List AliasDecisionState) (way : List AliasSearchStep) (standings_new : List AliasDecisionState) (way_new : List AliasSearchStep) : Type 0 where
  pub kept : IsConsistentAliasSearch kd lines test standings_new way_new
  pub met : (k : ℕ) → IsAliasMet standings k → IsAliasMet standings_new k
  pub less : search_steps_left lines standings_new way_new < search_steps_left lines standings way
  pub rooted : (root : ℕ) → AreStepsReachedFromRoot kd lines root way → AreStepsReachedFromRoot kd lines root way_new

abbrev pub first_step_of_alias : AliasNumberAndMembers → AliasSearchStep
first_step_of_alias a = record { alias = a.number; members = a.members; next = 0; latest = None }

abbrev pub step_after_member : AliasSearchStep → Option MemberHit → AliasSearchStep
step_after_member s hit = record { alias = s.alias; members = s.members; next = s.next + 1; latest = later_hit_if_any s.latest hit }

-- These are the number and the members of an alias.
pub record AreNumberAndMembersOfAlias (lines : List Line) (number : ℕ) (members : List Member) : Type 0 where
  pub within : number < length (definitions_of_lines lines)
  pub members_are : members ≡ members_of_definition_number lines number

-- The alias is entered.
pub record EntersAliasOntoStack (alias : AliasNumberAndMembers) (old new : AliasVerdictCache) : Type 0 where
  pub standings : new.standings.items ≡ slice_set old.standings.items alias.number Open
  pub way : new.way.items ≡ old.way.items ++ first_step_of_alias alias ∷ []

-- All that is on the way was met and is reached from the alias, which was met too.
pub record IsSearchFromAlias (kd : Kind) (lines : List Line) (test : Atom → Bool) (alias : ℕ) (new : AliasVerdictCache) : Type 0 where
  pub kept : IsConsistentAliasSearch kd lines test new.standings.items new.way.items
  pub rooted : AreStepsReachedFromRoot kd lines alias new.way.items
  pub alias_met : IsAliasMet new.standings.items alias

-- An alias leads to one that is cyclic.
pub record AliasLeadsToCycle (kd : Kind) (lines : List Line) (alias : ℕ) : Type 0 where
  pub cyclic : ℕ
  pub reached : LeadsToAliasInAnySteps kd lines alias cyclic
  pub is_cyclic : IsAliasCyclic kd lines cyclic

-- No alias is open.
abbrev pub IsValidVerdictCache : Kind → List Line → (Atom → Bool) → AliasVerdictCache → Type 0
IsValidVerdictCache kd lines test verdicts = (verdicts.way.items ≡ []) × IsConsistentAliasSearch kd lines test verdicts.standings.items []

abbrev pub IsLastHitOrCycleOfAlias : Kind → List Line → (Atom → Bool) → ℕ → AliasVerdictCache → LastHitOrCycle → Type 0
IsLastHitOrCycleOfAlias kd lines test alias verdicts (Latest hit) = IsValidVerdictCache kd lines test verdicts × IsLastHitOfList kd lines test (members_of_definition_number lines alias) hit
IsLastHitOrCycleOfAlias kd lines test alias verdicts Cyclic = AliasLeadsToCycle kd lines alias

abbrev pub IsLastHitOrCycleOfList : Kind → List Line → (Atom → Bool) → List Member → AliasVerdictCache → LastHitOrCycle → Type 0
IsLastHitOrCycleOfList kd lines test ms verdicts (Latest hit) = IsValidVerdictCache kd lines test verdicts × IsLastHitOfList kd lines test ms hit
IsLastHitOrCycleOfList kd lines test ms verdicts Cyclic = ListLeadsToCyclicAlias kd lines ms
