use Rattle.sudoers_tree.proofs.Common.{Line, List, NamedFile, ParsedFile, [], ap, ap₂, arith, get_or_from_slice_get, join, length, lines_of_optional_file, map, map-append, name_of_optional_file, named_file_of_parsed}
use Rattle.sudoers_tree.proofs.Common.{rules, slice_get_within, sym, take, take_all, take_more, texts_of_lines, ℕ, ◌++◌, ◌<◌, ◌∙◌, ◌∷◌, ◌≡◌}
use Rattle.sudoers_tree.proofs.Numbered.{item_below_length_exists}
use Rattle.sudoers_tree.proofs.policy.Policy.copy_named_files.Goals as goal

named : List ℕ → List Line → NamedFile
named name lines = record { name = name; bytes = join (texts_of_lines lines) }

pub loop-file-preserved : goal.loop-file-preserved
unfolding named
loop-file-preserved c =
    let files : List ParsedFile = c.args.self.now.files in
    let i : ℕ = c.loop-file.file in
    let less : i < length files = search rules in
    let at = item_below_length_exists files i less in
    let new : c.in_ok-copy_named_file.field-0 ≡ named_file_of_parsed at.0 = c.in_ok-copy_named_file.ensures ∙ ap₂ named (ap name_of_optional_file at.1) (ap lines_of_optional_file at.1) in
    c.in_ok-push.ensures.items
    ∙ ap₂ (λ (fs : List NamedFile) (f : NamedFile). fs ++ f ∷ []) c.loop-file.invariant new
    ∙ sym (map-append named_file_of_parsed (take i files) (at.0 ∷ []))
    ∙ ap (map named_file_of_parsed) (sym (take_more files i at.0 (slice_get_within files i at.0 at.1) ∙ ap (λ x. take i files ++ x ∷ []) (get_or_from_slice_get files i at.0 at.0 at.1)))

pub returns : goal.returns
returns c =
    let files : List ParsedFile = c.args.self.now.files in
    let all : c.loop-file.file ≡ length files = search rules in
    c.loop-file.invariant ∙ ap (map named_file_of_parsed) (take_all c.loop-file.file files (omega (arith, all)))
