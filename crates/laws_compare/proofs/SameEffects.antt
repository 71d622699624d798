-- Policies with one effect answer each request the same, numbers aside.
use Rattle.std.proofs.Common.{List, Option, subst}
use Rattle.sudoers_grammar.specs.declared.node.Atom.{Atom}
use Rattle.sudoers_tree.specs.Line.{Line}
use Rattle.sudoers_match_member.specs.declared.request.Request.{Request}
use Rattle.sudoers_match_list.specs.Alike.{IsPointwiseRelated, unchanged_atom}
use Rattle.sudoers_match.specs.Alike.{KeepsAtomMatches, AreAllRunasDefaultsAlike, AreTwoRowsAlikeButSpecNumbers, AreAnswersSameButNumbers}
use Rattle.sudoers_match.specs.Answer.{Answer, IsAnswerOfRows, IsAnswerToRequest}
use Rattle.sudoers_match.specs.Rows.{PrivilegeRow}
use Rattle.sudoers_match.proofs.Alike.{unchanged_atoms_keep_atom_matches}
use Rattle.sudoers_match.proofs.OneAnswer.{FlatListIsUnique, rows_one}
use Rattle.laws_compare.specs.Content.{PolicyContent}
use Rattle.laws_compare.specs.Covers.{IsEffectOfPolicy}
use Rattle.laws_compare.proofs.SameContents.{ListsOfSameFlatListAreAlike, row_lists_of_same_flat_rows_are_alike, policies_of_same_flat_runas_defaults_are_alike}
use Rattle.laws_compare.proofs.OverruledRows.{rows_without_overruled_answer_same}

-- what the law of rows that say the same says
abbrev AlikeRowsAnswerSame : Type 0
AlikeRowsAnswerSame = (write : Atom → Atom) (lines others : List Line) → KeepsAtomMatches write → AreAllRunasDefaultsAlike write lines others
    → (request : Request) (rows others_rows : List PrivilegeRow) (answer : Option Answer)
    → IsPointwiseRelated (AreTwoRowsAlikeButSpecNumbers write lines others) rows others_rows
    → IsAnswerOfRows lines request rows answer → (other : Option Answer) × IsAnswerOfRows others request others_rows other × AreAnswersSameButNumbers answer other

pub policies_of_same_effect_answer_same : FlatListIsUnique → ListsOfSameFlatListAreAlike → AlikeRowsAnswerSame
    → (lines others : List Line) (content : PolicyContent) → IsEffectOfPolicy lines content → IsEffectOfPolicy others content
    → (request : Request) (answer : Option Answer) → IsAnswerToRequest lines request answer
    → (other : Option Answer) × IsAnswerToRequest others request other × AreAnswersSameButNumbers answer other
policies_of_same_effect_answer_same one alike law lines others content f g request answer is =
    let same = rows_one one lines is.rows f.rows is.are_rows f.are_rows in
    let there = (rows_without_overruled_answer_same one lines f.rows f.deciding f.are_deciding request answer).0
    (subst (λ (rows : List PrivilegeRow). IsAnswerOfRows lines request rows answer) same is.answers) in
    let found = law unchanged_atom lines others unchanged_atoms_keep_atom_matches
    (policies_of_same_flat_runas_defaults_are_alike alike lines others content.runas_defaults f.runas_defaults g.runas_defaults) request f.deciding g.deciding answer
    (row_lists_of_same_flat_rows_are_alike alike lines others f.deciding g.deciding content.rows f.are_flat g.are_flat) there in (
      found.0,
      record { rows = g.rows; are_rows = g.are_rows; answers = (rows_without_overruled_answer_same one others g.rows g.deciding g.are_deciding request found.0).1 found.1 },
      found.2,
    )
