use Rattle.std.proofs.Common.{◌≡◌, ◌∙◌, ◌++◌, ◌+◌, ◌<◌, ℕ, List, drop, length, sym, ap, append_assoc, rules}
use Rattle.sudoers_tree.specs.Files.{ParsedFile, lines_of_numbered_file}
use Rattle.sudoers_run.specs.Shown.{file_heading_text, shown_files_with_headings, shown_lines_of_file}
use Rattle.sudoers_run.proofs.ShowLemmas.{shown_files_are_shown_one_by_one, heading_of_numbered_file}
use Rattle.sudoers_run.proofs.show.make_shown_policy_text.Goals as goal

pub loop-file-preserved : goal.loop-file-preserved
loop-file-preserved c =
    let files : List ParsedFile = c.args.policy.now.files in
    let n : ℕ = c.loop-file.file in
    let out : List ℕ = c.loop-file.out.items in
    let less : n < length files = search rules in
    let text : List ℕ = shown_lines_of_file (lines_of_numbered_file files n) in
    let rest : List ℕ = shown_files_with_headings (n + 1 + 1) (drop (n + 1) files) in
    let head : c.append_file_heading.new.out.items ≡ out ++ heading_of_numbered_file files n =
    c.in_ok-append_file_heading.ensures ∙ ap (λ (name : List ℕ). out ++ file_heading_text (n + 1) name) c.file_name.ensures in
    let all : c.append_shown_lines-in-loop-file.new.out.items ≡ (out ++ heading_of_numbered_file files n) ++ text =
    c.in_ok-append_shown_lines-2.ensures ∙ ap (λ lines. c.append_file_heading.new.out.items ++ shown_lines_of_file lines) c.lines_of_file-in-loop-file.ensures
    ∙ ap (λ (o : List ℕ). o ++ text) head in
    ap (λ (o : List ℕ). o ++ rest) all
    ∙ append_assoc (out ++ heading_of_numbered_file files n) text rest
    ∙ append_assoc out (heading_of_numbered_file files n) (text ++ rest)
    ∙ ap (λ (t : List ℕ). out ++ t) (sym (append_assoc (heading_of_numbered_file files n) text rest) ∙ sym (shown_files_are_shown_one_by_one files n less))
    ∙ c.loop-file.invariant
