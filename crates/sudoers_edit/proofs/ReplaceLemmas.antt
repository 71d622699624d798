-- An edit that puts another line in the place of one of a file.
use Rattle.sudoers_edit.proofs.Common.{Edit, EditReplacesFileLine, EditSetsFileLines, Err, List, LoadedPolicy, OpenLine, false, has_inner_line_without_lf, le-ltb, length, line_limit, line_texts_of_file}
use Rattle.sudoers_edit.proofs.Common.{lines_with_one_replaced, refl, step, true, ℕ, ◌∙◌, ◌≡◌, ◌≤◌}

pub replacement_leaving_open_line_is_refused : (edit back : Edit) (inverse : List Edit) (policy : LoadedPolicy) (f at : ℕ) (text : List ℕ) → EditReplacesFileLine edit back inverse policy f at text → length text ≤ line_limit
    → has_inner_line_without_lf (lines_with_one_replaced at text (line_texts_of_file policy f)) ≡ true → step edit policy ≡ Err OpenLine
replacement_leaving_open_line_is_refused edit back inverse policy f at text r short open_ = r.forth ∙ rw (le-ltb line_limit (length text) short, open_) refl

pub ended_replacement_sets_file_lines : (edit back : Edit) (inverse : List Edit) (policy : LoadedPolicy) (f at : ℕ) (text : List ℕ) → EditReplacesFileLine edit back inverse policy f at text
    → length text ≤ line_limit → has_inner_line_without_lf (lines_with_one_replaced at text (line_texts_of_file policy f)) ≡ false → EditSetsFileLines edit back inverse policy f (lines_with_one_replaced at text (line_texts_of_file policy f))
ended_replacement_sets_file_lines edit back inverse policy f at text r short ended = record {
  here = r.here;
  ended = ended;
  forth = r.forth ∙ rw (le-ltb line_limit (length text) short) refl;
  inverse_is = r.inverse_is;
  back_is = r.back_is;
  back = r.back;
}
