-- A device of the proof, which no public contract cites: the last line of a file of a policy, with LF and without.
use Rattle.std.specs.Prelude.{◌≡◌, ◌≢◌, ℕ, ◌<◌, ◌≤◌, false, List, [], ◌∷◌, ◌++◌, length, Ok}
use Rattle.sudoers_text.specs.Cut.{cut_outcome_of_text, EachIsOneLineWhenCut}
use Rattle.sudoers_text.specs.Ended.{ends_in_lf, has_inner_line_without_lf}
use Rattle.sudoers_text.specs.Fault.{line_limit}
use Rattle.sudoers_text.specs.Line.{join}
use Rattle.sudoers_tree.specs.Load.{LoadedPolicy, named_files_of_policy, policy_or_load_fault}
use Rattle.sudoers_edit.specs.OneLine.{SplitsIntoItselfAsOnlyLine}
use Rattle.sudoers_edit.specs.Landing.{files_with_bytes_replaced}
use Rattle.sudoers_edit.specs.internal.LeadingInFile.{line_texts_of_file}

-- Lines that stand alone are neither empty nor too long. Where a file is loaded with other bytes, its lines are those of the bytes, and
-- stand alone. Where LF is put behind the last line or taken from it, and the lines can be cut, they are as many as before.
pub record LawsBehindFinalLfEdits : Type 0 where
  pub size : (line : List ℕ) → SplitsIntoItselfAsOnlyLine line → (0 < length line) × (length line ≤ line_limit)
  pub cut : (policy new : LoadedPolicy) (f : ℕ) (bytes : List ℕ) → f < length policy.files → policy_or_load_fault (files_with_bytes_replaced f bytes (named_files_of_policy policy)) ≡ Ok new
      → (cut_outcome_of_text bytes ≡ Ok (line_texts_of_file new f)) × EachIsOneLineWhenCut (line_texts_of_file new f)
  pub behind : (front : List (List ℕ)) (last : List ℕ) (lines : List (List ℕ)) → EachIsOneLineWhenCut (front ++ last ∷ [])
      → has_inner_line_without_lf (front ++ last ∷ []) ≡ false → ends_in_lf last ≡ false
      → cut_outcome_of_text (join (front ++ (last ++ 10 ∷ []) ∷ [])) ≡ Ok lines → lines ≡ front ++ (last ++ 10 ∷ []) ∷ []
  pub from : (front : List (List ℕ)) (last : List ℕ) (lines : List (List ℕ)) → EachIsOneLineWhenCut (front ++ (last ++ 10 ∷ []) ∷ [])
      → has_inner_line_without_lf (front ++ (last ++ 10 ∷ []) ∷ []) ≡ false → last ≢ []
      → cut_outcome_of_text (join (front ++ last ∷ [])) ≡ Ok lines → (lines ≡ front ++ last ∷ []) × (ends_in_lf last ≡ false)
