use Rattle.std.proofs.Common.{List, ap, subst, sym}
use Rattle.sudoers_match_list.specs.Alike.{IsPointwiseRelated, unchanged_atom}
use Rattle.sudoers_match.specs.Default.{runas_defaults_of_lines}
use Rattle.sudoers_match.proofs.Alike.{unchanged_atoms_keep_atom_matches}
use Rattle.laws_compare.specs.Content.{FlatRunasDefault, IsFlatRunasDefaultOf}
use Rattle.laws_compare.proofs.NoMore.{policy_that_grants_no_more_allows_no_more}
use Rattle.laws_compare.proofs.SameContents.{policies_of_same_flat_runas_defaults_are_alike}
use Rattle.laws_compare.proofs.laws.policy_that_grants_no_more_allows_no_more.Goals as goal

pub returns : goal.returns
returns c lines others old new f g same no_more request =
    policy_that_grants_no_more_allows_no_more c.one_flat.ensures lines others old new f g no_more request
    (λ name. c.alike_defaults_are_same.ensures unchanged_atom lines others unchanged_atoms_keep_atom_matches
    (policies_of_same_flat_runas_defaults_are_alike c.same_flat_lists_are_alike.ensures lines others new.runas_defaults
    (subst (λ (flats : List FlatRunasDefault). IsPointwiseRelated (IsFlatRunasDefaultOf lines) (runas_defaults_of_lines lines) flats) same f.runas_defaults) g.runas_defaults) request.who name)
