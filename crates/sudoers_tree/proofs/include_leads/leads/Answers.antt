use Rattle.sudoers_tree.proofs.Common.{[], append-nil, sym}
use Rattle.sudoers_tree.proofs.include_leads.leads.Goals as goal

pub returns-then-not-may_include_files : goal.returns-then-not-may_include_files
returns-then-not-may_include_files c =
    sym (c.may_include_files.ensures.nowhere c.if-not-may_include_files.true c.args.name.now [] c.args.line.now [] (sym (append-nil c.args.line.now)))
