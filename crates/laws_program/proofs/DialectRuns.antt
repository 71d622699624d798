-- What is printed of a policy is its own adapted text.
use Rattle.std.proofs.Common.{◌≡◌, ℕ, Bool, List, [], ◌∷◌, map, Ok, sym, ap, subst, ◌∙◌}
use Rattle.sudoers_grammar.specs.Node.{Node}
use Rattle.sudoers_tree.specs.declared.named_files.NamedFile.{NamedFile}
use Rattle.sudoers_tree.specs.Load.{LoadedPolicy, policy_or_load_fault}
use Rattle.sudoers_dialect.specs.Output.{adapted_file}
use Rattle.sudoers_dialect.specs.Text.{adapted_text}
use Rattle.sudoers_run.specs.declared.command_words.ConvertWords.{ConvertWords}
use Rattle.sudoers_run.specs.Convert.{convert_output, convert_output_of_lines, convert_output_of_loading}
use Rattle.sudoers_run.specs.Policy.{IsPolicyFromRoot, result_after_loading_gathered_files}
use Rattle.laws_load.specs.Alone.{single_file_named, policy_of_single_file}
use Rattle.laws_program.specs.ReadAs.{IsTextReadAsNodes}

-- The files of a policy are their own adapted files.
abbrev pub PolicyFilesAreAdapted : Type 0
PolicyFilesAreAdapted = (files : List NamedFile) (policy : LoadedPolicy) → policy_or_load_fault files ≡ Ok policy → map adapted_file files ≡ files

abbrev bytes_of_first_file : List NamedFile → List ℕ
bytes_of_first_file [] = []
bytes_of_first_file (file ∷ files) = file.bytes

pub read_text_is_its_adapted_text : PolicyFilesAreAdapted → (out text : List ℕ) (nodes : List Node) → out ≡ text → IsTextReadAsNodes text nodes → adapted_text out ≡ out
unfolding adapted_text
read_text_is_its_adapted_text law out text nodes e is =
    subst (λ (t : List ℕ). adapted_text t ≡ t) (sym e)
    (ap bytes_of_first_file (law (single_file_named [] text) (policy_of_single_file [] is.read) (is.loads [])))

-- The output of a policy is that of its lines.
pub output_of_policy_is_output_of_its_lines : (words : ConvertWords) (root : List ℕ) (known : List NamedFile) (out : List ℕ) (policy : LoadedPolicy)
    → IsPolicyFromRoot root (Ok policy) known → convert_output words root known ≡ Ok out → convert_output_of_lines words policy.walk.lines ≡ Ok out
output_of_policy_is_output_of_its_lines words root known out policy is e =
    sym (ap (result_after_loading_gathered_files (convert_output_of_loading words)) is.gathers ∙ ap (convert_output_of_loading words) is.loads) ∙ e
