-- What the lines of the files of a policy are.
use Rattle.sudoers_edit.proofs.Common.{AllByRecursion, AreLinesAtSpots, Bool, EachIsOneLineWhenCut, IsCorrectlyParsed, SplitsIntoItselfAsOnlyLine, Line, List, LoadedPolicy, LoadedFileLawsBehindRenames, Ok, ParsedFile, RenamedLineLaws}
use Rattle.sudoers_edit.proofs.Common.{Some, WalkLineSpot, [], ap₂, false, has_inner_line_without_lf, is_line_too_long, join, le-ltb, length, line_limit, lines_of_numbered_file, list_any, named_files_of_policy}
use Rattle.sudoers_edit.proofs.Common.{policy_or_load_fault, refl, slice_get, subst, suc, texts_of_lines, zero, ℕ, ◌||◌, ◌∷◌, ◌≡◌}

-- What the lines of each file are.
pub record AreSoundFiles (files : List ParsedFile) : Type 0 where
  pub says : (f : ℕ) → AllByRecursion IsCorrectlyParsed (lines_of_numbered_file files f)
  pub each : (f : ℕ) → EachIsOneLineWhenCut (texts_of_lines (lines_of_numbered_file files f))
  pub ended : (f : ℕ) → has_inner_line_without_lf (texts_of_lines (lines_of_numbered_file files f)) ≡ false

pub loaded_files_are_sound : LoadedFileLawsBehindRenames → (policy : LoadedPolicy) → policy_or_load_fault (named_files_of_policy policy) ≡ Ok policy → AreSoundFiles policy.files
loaded_files_are_sound l policy loaded = record {
  says = l.said (named_files_of_policy policy) policy loaded;
  each = λ f. (parts f).0;
  ended = λ f. (parts f).1;
}
  where
    parts : (f : ℕ) → EachIsOneLineWhenCut (texts_of_lines (lines_of_numbered_file policy.files f)) × (has_inner_line_without_lf (texts_of_lines (lines_of_numbered_file policy.files f)) ≡ false)
    parts f =
        let a = l.lines.alone (join (texts_of_lines (lines_of_numbered_file policy.files f))) (texts_of_lines (lines_of_numbered_file policy.files f)) (l.cut (named_files_of_policy policy) policy loaded f) in
        (a.0, a.1)

-- ---- a line of a walk is within the limit

numbered_line_is_single_line_cut : (lines : List Line) (n : ℕ) (line : Line) → EachIsOneLineWhenCut (texts_of_lines lines) → slice_get lines n ≡ Some line → SplitsIntoItselfAsOnlyLine line.text
numbered_line_is_single_line_cut [] n line each at = absurd cc
numbered_line_is_single_line_cut (first ∷ lines) zero line each at =
    let same : first ≡ line = cc in
    subst (λ (x : Line). SplitsIntoItselfAsOnlyLine x.text) same each.0
numbered_line_is_single_line_cut (first ∷ lines) (suc n) line each at = numbered_line_is_single_line_cut lines n line each.1 at

pub walk_lines_of_sound_files_are_short : RenamedLineLaws → (files : List ParsedFile) → AreSoundFiles files → (spots : List WalkLineSpot) (lines : List Line) → AreLinesAtSpots files spots lines
    → list_any is_line_too_long (texts_of_lines lines) ≡ false
walk_lines_of_sound_files_are_short l files sound [] [] stand = refl
walk_lines_of_sound_files_are_short l files sound [] (line ∷ lines) stand = absurd stand
walk_lines_of_sound_files_are_short l files sound (at ∷ spots) [] stand = absurd stand
walk_lines_of_sound_files_are_short l files sound (at ∷ spots) (line ∷ lines) stand =
    let alone : SplitsIntoItselfAsOnlyLine line.text = numbered_line_is_single_line_cut (lines_of_numbered_file files at.file) at.line line (sound.each at.file) stand.0.is_line in
    ap₂ (λ (a b : Bool). a || b) (le-ltb line_limit (length line.text) (l.size line.text alone).1) (walk_lines_of_sound_files_are_short l files sound spots lines stand.1)
