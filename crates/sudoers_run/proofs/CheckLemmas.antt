-- What `check` writes for the files that it has found.
use Rattle.std.proofs.Common.{◌≡◌, ℕ, List, Option, Some, None, IfSome, IsOkAnd, Ok, sym, ap, subst, ◌∙◌}
use Rattle.sudoers_tree.specs.declared.named_files.NamedFile.{NamedFile}
use Rattle.sudoers_files.specs.Gather.{gathered_files_or_fault}
use Rattle.sudoers_run.specs.declared.command_words.CheckWords.{CheckWords}
use Rattle.sudoers_run.specs.Check.{check_output, check_text_of_found, text_unless_quiet}
use Rattle.sudoers_run.specs.Policy.{result_after_gathering}

check_output_is_text_of_found : (words : CheckWords) (root : List ℕ) (known found : List NamedFile) (text : List ℕ) → gathered_files_or_fault known root ≡ Ok found → text ≡ check_text_of_found words known found
    → check_output words root known ≡ Ok (text_unless_quiet words.quiet text)
check_output_is_text_of_found words root known found text gathers is =
    ap (result_after_gathering (λ files. Ok (text_unless_quiet words.quiet (check_text_of_found words known files)))) gathers ∙ ap (λ t. Ok (text_unless_quiet words.quiet t)) (sym is)

pub check_output_has_property_of_text : (files : Option (List NamedFile)) (P : List ℕ → Type 0) (words : CheckWords) (root : List ℕ) (found : List NamedFile) (text : List ℕ)
    → IfSome files (λ known. gathered_files_or_fault known root ≡ Ok found) → IfSome files (λ known. text ≡ check_text_of_found words known found) → P (text_unless_quiet words.quiet text)
    → IfSome files (λ known. IsOkAnd (check_output words root known) P)
check_output_has_property_of_text None P words root found text gathers is holds = tt
check_output_has_property_of_text (Some known) P words root found text gathers is holds = subst (λ r. IsOkAnd r P) (sym (check_output_is_text_of_found words root known found text gathers is)) holds
