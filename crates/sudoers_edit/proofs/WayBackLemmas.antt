-- The way back of one more and of one less in a line, whatever it stands among.
use Rattle.sudoers_edit.proofs.Common.{Bool, EachIsOneLineWhenCut, SplitsIntoItselfAsOnlyLine, Line, List, Node, None, Option, Some, [], false, if◌then◌else◌, is_logical_line, reading_of_single_line, refl, result_ok, slice_get}
use Rattle.sudoers_edit.proofs.Common.{subst, suc, texts_of_lines, true, zero, ℕ, ◌∷◌, ◌≡◌}
use Rattle.sudoers_line_reader.specs.Outcome.{outcome_of_line}
use Rattle.sudoers_edit.proofs.ReplacedLemmas.{EachReadsAsItsNode}

-- a line that says something is one logical line
guarded_reading_has_its_condition : (b : Bool) (o : Option Node) (n : Node) → (if b then o else None) ≡ Some n → b ≡ true
guarded_reading_has_its_condition true o n h = refl
guarded_reading_has_its_condition false o n h = absurd (cc)

pub text_with_single_reading_is_logical_line : (text : List ℕ) (n : Node) → reading_of_single_line text ≡ Some n → is_logical_line text ≡ true
unfolding reading_of_single_line
text_with_single_reading_is_logical_line text n h = guarded_reading_has_its_condition (is_logical_line text) (result_ok (outcome_of_line text)) n h

pub numbered_line_reads_as_its_node : (lines : List Line) (n : ℕ) (line : Line) → EachReadsAsItsNode lines → slice_get lines n ≡ Some line → reading_of_single_line line.text ≡ Some line.node
numbered_line_reads_as_its_node [] n line all here = absurd (cc)
numbered_line_reads_as_its_node (l ∷ lines) zero line all here = let e : l ≡ line = cc in subst (λ (x : Line). reading_of_single_line x.text ≡ Some x.node) e all.0
numbered_line_reads_as_its_node (l ∷ lines) (suc n) line all here = numbered_line_reads_as_its_node lines n line all.1 here

pub numbered_line_of_cut_lines_is_single : (lines : List Line) (n : ℕ) (line : Line) → EachIsOneLineWhenCut (texts_of_lines lines) → slice_get lines n ≡ Some line → SplitsIntoItselfAsOnlyLine line.text
numbered_line_of_cut_lines_is_single [] n line all here = absurd (cc)
numbered_line_of_cut_lines_is_single (l ∷ lines) zero line all here = let e : l ≡ line = cc in subst (λ (x : Line). SplitsIntoItselfAsOnlyLine x.text) e all.0
numbered_line_of_cut_lines_is_single (l ∷ lines) (suc n) line all here = numbered_line_of_cut_lines_is_single lines n line all.1 here
