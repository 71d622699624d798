-- Rows answer each request the same without some that are overruled.
use Rattle.std.proofs.Common.{◌↔◌, List, Option}
use Rattle.std.specs.List.{AllByRecursion}
use Rattle.sudoers_tree.specs.Line.{Line}
use Rattle.sudoers_match_member.specs.declared.request.Request.{Request}
use Rattle.sudoers_match.specs.Answer.{Answer, IsAnswerOfRows, RowFitsRequest}
use Rattle.sudoers_match.specs.Rows.{PrivilegeRow}
use Rattle.sudoers_match.proofs.OneAnswer.{FlatListIsUnique}
use Rattle.laws_compare.specs.Covers.{IsRowOverruledByLater, AreRowsWithoutSomeOverruled}
use Rattle.laws_compare.proofs.FittingRows.{covering_row_fits_request}
use Rattle.laws_compare.proofs.ListsWithoutSome.{no_element_has_property_that_none_has, last_is_last_without_some, last_without_some_is_last}

module _ (law : FlatListIsUnique) (lines : List Line) (request : Request) where
  overruled_row_is_not_last_that_fits : (row : PrivilegeRow) (behind : List PrivilegeRow) → IsRowOverruledByLater lines row behind
      → RowFitsRequest lines request row → AllByRecursion (λ (r : PrivilegeRow). RowFitsRequest lines request r → ⊥) behind → ⊥
  overruled_row_is_not_last_that_fits row behind is fits none =
      no_element_has_property_that_none_has (RowFitsRequest lines request) behind none is.later is.stands
      (covering_row_fits_request law lines row is.later is.narrow is.wide is.is_narrow is.is_wide is.covers request fits)

  rows_without_overruled_answer_as_rows : (rows deciding : List PrivilegeRow) → AreRowsWithoutSomeOverruled lines rows deciding → (answer : Option Answer)
      → IsAnswerOfRows lines request rows answer → IsAnswerOfRows lines request deciding answer
  rows_without_overruled_answer_as_rows rows deciding is answer a = record {
    last = a.last;
    is_last = last_is_last_without_some (RowFitsRequest lines request) (IsRowOverruledByLater lines) overruled_row_is_not_last_that_fits rows deciding a.last is a.is_last;
    says = a.says;
  }

  rows_answer_as_rows_without_overruled : (rows deciding : List PrivilegeRow) → AreRowsWithoutSomeOverruled lines rows deciding → (answer : Option Answer)
      → IsAnswerOfRows lines request deciding answer → IsAnswerOfRows lines request rows answer
  rows_answer_as_rows_without_overruled rows deciding is answer a = record {
    last = a.last;
    is_last = last_without_some_is_last (RowFitsRequest lines request) (IsRowOverruledByLater lines) overruled_row_is_not_last_that_fits rows deciding a.last is a.is_last;
    says = a.says;
  }

pub rows_without_overruled_answer_same : FlatListIsUnique → (lines : List Line) (rows deciding : List PrivilegeRow)
    → AreRowsWithoutSomeOverruled lines rows deciding → (request : Request) (answer : Option Answer)
    → IsAnswerOfRows lines request rows answer ↔ IsAnswerOfRows lines request deciding answer
rows_without_overruled_answer_same law lines rows deciding is request answer = (
  rows_without_overruled_answer_as_rows law lines request rows deciding is answer,
  rows_answer_as_rows_without_overruled law lines request rows deciding is answer,
)
