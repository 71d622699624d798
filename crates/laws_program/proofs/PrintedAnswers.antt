-- Printed rules answer as the policy.
use Rattle.laws_program.proofs.Common.{◌≡◌, ◌↔◌, ℕ, true, List, Option, Ok, Atom, Kind, Member, Line, AreWalkLinesWithoutNul, policy_lines_of_text, Who, atom_read_back, MemberIsReadBackAs, AreItemsPairwiseRelated}
use Rattle.laws_program.proofs.Common.{NodeIsReadBackAs, IsPointwiseRelated, HaveSameFlatListAfterRewrite, HaveMappedAliasesMappedMembers, IsMemberWithAtomMapped, Request, KeepsAtomMatches, AreAllRunasDefaultsAlike, AreUserSpecsAlike}
use Rattle.laws_program.proofs.Common.{AreSpecUsersAndHostsAlike, Answer, IsAnswerToRequest, IsRunasDefault, ArePlacesOfMatchingHostGroups, user_specs_of_lines, HostGroupPlace, rules_of_policy_lines, rule_nodes_in_print_order}
use Rattle.laws_program.proofs.Common.{printed_rules, is_printed_within_limits, nodes_of_lines}
use Rattle.laws_program.proofs.Aliases.{members_same_but_place_are_rewritten, aliases_agree_in_lines_read_of_print}
use Rattle.laws_program.proofs.PrintedSpecs.{specs_equal, specs_for_same}
use Rattle.laws_program.proofs.Second.{PrintedRulesAreRead, lines_read_of_print_are_rules}
use Rattle.laws_program.proofs.SettingsAlike.{settings_alike}

-- what the laws of lower crates say
abbrev pub AgreeingAliasesGiveSameFlatLists : Type 0
AgreeingAliasesGiveSameFlatLists = (write : Atom → Atom) (k : Kind) (lines others : List Line) → HaveMappedAliasesMappedMembers write k lines others → (ms ns : List Member)
    → IsPointwiseRelated (IsMemberWithAtomMapped write) ms ns → HaveSameFlatListAfterRewrite write k lines others ms ns

abbrev pub AlikeSettingsGiveSameRunasDefault : Type 0
AlikeSettingsGiveSameRunasDefault = (write : Atom → Atom) (lines others : List Line) → KeepsAtomMatches write → AreAllRunasDefaultsAlike write lines others
    → (who : Who) (name : List ℕ) → IsRunasDefault lines who name ↔ IsRunasDefault others who name

abbrev pub AlikeSpecsHaveSameHostGroups : Type 0
AlikeSpecsHaveSameHostGroups = (write : Atom → Atom) (lines others : List Line) → KeepsAtomMatches write → IsPointwiseRelated (AreSpecUsersAndHostsAlike write lines others) (user_specs_of_lines lines) (user_specs_of_lines others)
    → (who : Who) (places : List HostGroupPlace) → ArePlacesOfMatchingHostGroups lines who places ↔ ArePlacesOfMatchingHostGroups others who places

abbrev pub AlikeSpecsGiveSameAnswers : Type 0
AlikeSpecsGiveSameAnswers = (write : Atom → Atom) (lines others : List Line) → KeepsAtomMatches write → AreAllRunasDefaultsAlike write lines others
    → IsPointwiseRelated (AreUserSpecsAlike write lines others) (user_specs_of_lines lines) (user_specs_of_lines others) → (q : Request) (answer : Option Answer)
    → IsAnswerToRequest lines q answer ↔ IsAnswerToRequest others q answer

module _ (law : AgreeingAliasesGiveSameFlatLists) (lines read : List Line) (same : AreItemsPairwiseRelated NodeIsReadBackAs (rule_nodes_in_print_order (rules_of_policy_lines lines)) (nodes_of_lines read)) where
  pub lists_alike : (k : Kind) (ms ns : List Member) → AreItemsPairwiseRelated MemberIsReadBackAs ms ns → HaveSameFlatListAfterRewrite atom_read_back k lines read ms ns
  lists_alike k ms ns all = law atom_read_back k lines read (aliases_agree_in_lines_read_of_print k lines read same) ms ns (members_same_but_place_are_rewritten ms ns all)

  pub defaults_there : AreAllRunasDefaultsAlike atom_read_back lines read
  defaults_there = settings_alike lines read lists_alike same

pub printed_rules_keep_answers : PrintedRulesAreRead → AgreeingAliasesGiveSameFlatLists → AlikeSpecsGiveSameAnswers → KeepsAtomMatches atom_read_back → (lines read : List Line) → AreWalkLinesWithoutNul lines → is_printed_within_limits (rules_of_policy_lines lines) ≡ true
    → policy_lines_of_text (printed_rules (rules_of_policy_lines lines)) ≡ Ok read → (q : Request) (answer : Option Answer) → IsAnswerToRequest lines q answer ↔ IsAnswerToRequest read q answer
printed_rules_keep_answers reads law answers hits lines read is size e q answer =
    let same = lines_read_of_print_are_rules reads lines read is size e in
    answers atom_read_back lines read hits (defaults_there law lines read same) (specs_equal lines read (lists_alike law lines read same) same) q answer

pub printed_rules_keep_runas_default : PrintedRulesAreRead → AgreeingAliasesGiveSameFlatLists → AlikeSettingsGiveSameRunasDefault → KeepsAtomMatches atom_read_back → (lines read : List Line) → AreWalkLinesWithoutNul lines → is_printed_within_limits (rules_of_policy_lines lines) ≡ true
    → policy_lines_of_text (printed_rules (rules_of_policy_lines lines)) ≡ Ok read → (who : Who) (name : List ℕ) → IsRunasDefault lines who name ↔ IsRunasDefault read who name
printed_rules_keep_runas_default reads law defaults hits lines read is size e who name =
    let same = lines_read_of_print_are_rules reads lines read is size e in
    defaults atom_read_back lines read hits (defaults_there law lines read same) who name

pub printed_rules_keep_matching_host_groups : PrintedRulesAreRead → AgreeingAliasesGiveSameFlatLists → AlikeSpecsHaveSameHostGroups → KeepsAtomMatches atom_read_back → (lines read : List Line) → AreWalkLinesWithoutNul lines → is_printed_within_limits (rules_of_policy_lines lines) ≡ true
    → policy_lines_of_text (printed_rules (rules_of_policy_lines lines)) ≡ Ok read → (who : Who) (places : List HostGroupPlace) → ArePlacesOfMatchingHostGroups lines who places ↔ ArePlacesOfMatchingHostGroups read who places
printed_rules_keep_matching_host_groups reads law groups hits lines read is size e who places =
    let same = lines_read_of_print_are_rules reads lines read is size e in
    groups atom_read_back lines read hits (specs_for_same lines read (lists_alike law lines read same) same) who places
