use Rattle.sudoers_tree.proofs.Common.{List, ParsedFile, ap, false, is_file_on_walk, length, list_any, nat_eq, parsed_files_of_view, rules, sym, true, ◌<◌, ◌∙◌, ◌≡◌}
use Rattle.sudoers_tree.proofs.OffWalk.{fault_of_unreached_file_is_outcome, file_on_walk_is_not_checked, faultless_unreached_file_is_passed}
use Rattle.sudoers_tree.proofs.off_walk.check_unreached_files.Goals as goal

pub loop-file-preserved-then-is_file_number_among : goal.loop-file-preserved-then-is_file_number_among
loop-file-preserved-then-is_file_number_among c = λ w same.
    let files : List ParsedFile = parsed_files_of_view c.args.files.now in
    let less : c.loop-file.file < length files = search rules in
    let on : is_file_on_walk w c.loop-file.file ≡ true =
    ap (list_any (nat_eq c.loop-file.file)) same ∙ sym c.is_file_number_among.ensures ∙ c.if-is_file_number_among.true in
    sym (file_on_walk_is_not_checked w files c.loop-file.file less on) ∙ c.loop-file.invariant w same

pub returns-in-Some : goal.returns-in-Some
returns-in-Some c = λ w same.
    let files : List ParsedFile = parsed_files_of_view c.args.files.now in
    let less : c.loop-file.file < length files = search rules in
    let off : is_file_on_walk w c.loop-file.file ≡ false =
    ap (list_any (nat_eq c.loop-file.file)) same ∙ sym c.is_file_number_among.ensures ∙ c.if-is_file_number_among.false in
    fault_of_unreached_file_is_outcome w files c.loop-file.file c.in-Some.fault c.make_load_fault_in_file.result _ less off (sym c.in_ok-fault.ensures ∙ c.in-Some.is)
    (c.loop-file.invariant w same) c.make_load_fault_in_file.ensures

pub loop-file-preserved : goal.loop-file-preserved
loop-file-preserved c = λ w same.
    let files : List ParsedFile = parsed_files_of_view c.args.files.now in
    let less : c.loop-file.file < length files = search rules in
    let off : is_file_on_walk w c.loop-file.file ≡ false =
    ap (list_any (nat_eq c.loop-file.file)) same ∙ sym c.is_file_number_among.ensures ∙ c.if-is_file_number_among.false in
    sym (faultless_unreached_file_is_passed w files c.loop-file.file less off (sym c.in_ok-fault.ensures ∙ c.in_default.is)) ∙ c.loop-file.invariant w same
