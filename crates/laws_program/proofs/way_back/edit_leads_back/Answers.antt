use Rattle.sudoers_text.specs.Line.{join}
use Rattle.sudoers_tree.specs.Files.{lines_of_numbered_file}
use Rattle.sudoers_tree.specs.Load.{named_files_of_policy}
use Rattle.sudoers_tree.specs.Policy.{texts_of_lines}
use Rattle.laws_program.proofs.EditLeadsBack.{edit_output_restores_policy}
use Rattle.laws_program.proofs.way_back.edit_leads_back.Goals as goal

pub returns : goal.returns
returns c = edit_output_restores_policy (record {
  bytes = c.loaded_files_are.ensures.bytes;
  fit = λ policy loaded f. (c.lines_stand_alone.ensures (join (texts_of_lines (lines_of_numbered_file policy.files f))) (texts_of_lines (lines_of_numbered_file policy.files f)) (c.loaded_files_are_cut.ensures (named_files_of_policy policy) policy loaded f)).3;
  bundled = c.bundle_is_read.ensures;
  unbundled = c.read_is_bundle.ensures.bundle;
  held = c.read_is_bundle.ensures.held;
  spelled = c.read_is_spelling.ensures;
  reads = c.spelling_is_read.ensures;
  before = c.spelling_is_whole_lines.ensures.before;
  plain = c.spelling_is_whole_lines.ensures.plain;
  pieces = c.physical_lines_join.ensures;
  named = c.named_are_written.ensures.back;
  back = c.inverse_leads_back.ensures.back;
  count = c.inverse_leads_back.ensures.count;
  names = c.edits_keep_names.ensures;
})
