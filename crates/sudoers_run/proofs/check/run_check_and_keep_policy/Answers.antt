use Rattle.std.proofs.Common.{◌≡◌, IfSome, rules}
use Rattle.sudoers_run.specs.Check.{check_text_of_found}
use Rattle.sudoers_files.specs.Device.{AppendsPrefixOfBytes}
use Rattle.std.specs.Io.KnownBytes.{Appends}
use Rattle.sudoers_run.proofs.CheckLemmas.{check_output_has_property_of_text}
use Rattle.sudoers_run.proofs.check.run_check_and_keep_policy.Goals as goal

pub returns-in_err-write_to_sink_unless_quiet-clause-front : goal.returns-in_err-write_to_sink_unless_quiet-clause-front
returns-in_err-write_to_sink_unless_quiet-clause-front g c = λ failed.
    let files = (g.F.Files.shelf c.args.files.now).files in
    let found = c.in_ok-found.found.items in
    let text = c.as_slice-3.result.now in
    let told : IfSome files (λ known. text ≡ check_text_of_found c.args.words.now known found) = search rules in
    check_output_has_property_of_text files (AppendsPrefixOfBytes (g.W.Write.contents c.args.writer.now) (g.W.Write.contents c.write_to_sink_unless_quiet.new.writer)) c.args.words.now c.args.root.now found text
    c.in_ok-found.ensures.found told c.in_err-write_to_sink_unless_quiet.ensures.part

pub returns-clause-ok : goal.returns-clause-ok
returns-clause-ok g c =
    let files = (g.F.Files.shelf c.args.files.now).files in
    let found = c.in_ok-found.found.items in
    let text = c.as_slice-3.result.now in
    let told : IfSome files (λ known. text ≡ check_text_of_found c.args.words.now known found) = search rules in
    check_output_has_property_of_text files (Appends (g.W.Write.contents c.args.writer.now) (g.W.Write.contents c.write_to_sink_unless_quiet.new.writer)) c.args.words.now c.args.root.now found text
    c.in_ok-found.ensures.found told c.in_ok-write_to_sink_unless_quiet.ensures.all
