-- The lines of the walk over files that are loaded.
use Rattle.std.proofs.Common.{◌≡◌, ℕ, List, [], ◌∷◌, Ok}
use Rattle.std.specs.List.{AllByRecursion}
use Rattle.sudoers_text.specs.Whole.{IsLogicalLine}
use Rattle.sudoers_tree.specs.declared.named_files.NamedFile.{NamedFile}
use Rattle.sudoers_tree.specs.Load.{LoadedPolicy, policy_or_load_fault}
use Rattle.sudoers_tree.specs.Policy.{AreValidWalkLines, texts_of_lines}
use Rattle.laws_program.specs.Sound.{AreWalkLinesWithoutNul}
use Rattle.laws_program.proofs.Clean.{HasNoNulByte, join_of_clean_texts_has_no_nul}

logical_lines_have_no_nul : (texts : List (List ℕ)) → AllByRecursion IsLogicalLine texts → AllByRecursion HasNoNulByte texts
logical_lines_have_no_nul [] all = tt
logical_lines_have_no_nul (text ∷ texts) all = (all.0.clean, logical_lines_have_no_nul texts all.1)

pub loaded_walk_lines_are_without_nul : ((files : List NamedFile) (p : LoadedPolicy) → policy_or_load_fault files ≡ Ok p → AreValidWalkLines p.walk.lines)
    → ((files : List NamedFile) (p : LoadedPolicy) → policy_or_load_fault files ≡ Ok p → AllByRecursion IsLogicalLine (texts_of_lines p.walk.lines))
    → (files : List NamedFile) (p : LoadedPolicy) → policy_or_load_fault files ≡ Ok p → AreWalkLinesWithoutNul p.walk.lines
loaded_walk_lines_are_without_nul walks wholes files p is = record {
  clean = join_of_clean_texts_has_no_nul (texts_of_lines p.walk.lines) (logical_lines_have_no_nul (texts_of_lines p.walk.lines) (wholes files p is));
  walk = walks files p is;
}
