use Rattle.sudoers_edit.proofs.Common.{IfErr, IsRefusalOrNoMemory, rules, step}
use Rattle.sudoers_edit.proofs.MemoryLemmas.{told_refusal_has_no_inner_memory_fault}
use Rattle.sudoers_edit.proofs.editor.Editor.apply.Goals as goal

pub returns-in_err-back-clause-memory : goal.returns-in_err-back-clause-memory
returns-in_err-back-clause-memory c =
    let refused : IfErr c.from_residual-in_err-back.result (λ fault. IsRefusalOrNoMemory fault (step c.args.edit.now c.args.self.now.policy)) = search rules in
    told_refusal_has_no_inner_memory_fault c.args.edit.now c.args.self.now.policy c.from_residual-in_err-back.result refused
