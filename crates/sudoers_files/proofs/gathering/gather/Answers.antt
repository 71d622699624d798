use Rattle.std.proofs.Common.{◌≡◌, ◌∙◌, ◌⊎◌, inr, Some, Ok, Err, MatchResult, refl, sym, ap, subst, rules}
use Rattle.sudoers_files.specs.declared.fault.GatherFault.{GatherFault}
use Rattle.sudoers_files.specs.Shelf.{FileDeviceState}
use Rattle.sudoers_files.specs.Gather.{IsFaultOfDeviceOrMemory, gathered_files_or_fault}
use Rattle.sudoers_files.proofs.Gathered.{files_gathered_from_root_are_outcome, fault_from_root_is_gather_fault, gathering_of_missing_root_is_no_root}
use Rattle.sudoers_files.proofs.Settling.{empty_folder_set_is_settled}
use Rattle.sudoers_files.proofs.gathering.gather.Goals as goal

pub returns-in_default-clause-gathers : goal.returns-in_default-clause-gathers
returns-in_default-clause-gathers g c = λ known is. inr (gathering_of_missing_root_is_no_root known c.args.root.now (sym (c.in_ok-bytes.ensures.told known is) ∙ c.in_default.is))

pub returns-in_err-gather_file_and_includes-clause-gathers : goal.returns-in_err-gather_file_and_includes-clause-gathers
returns-in_err-gather_file_and_includes-clause-gathers g c = λ known is.
    let fault : GatherFault = c.in_err-gather_file_and_includes.field-0.0 in
    let told : c.from_residual-in_err-gather_file_and_includes.result ≡ Err fault = search rules in
    let same : (g.F.Files.shelf c.read_file_for_gathering.new.files).files ≡ Some known = ap (λ (s : FileDeviceState). s.files) c.in_ok-bytes.ensures.asks ∙ is in
    subst (λ r. MatchResult r (λ found. gathered_files_or_fault known c.args.root.now ≡ Ok found.items) (λ f. IsFaultOfDeviceOrMemory f ⊎ (gathered_files_or_fault known c.args.root.now ≡ Err f))) (sym told)
    (fault_from_root_is_gather_fault known c.new-gathered.result.found.items c.gather_file_and_includes.new.gathered.found.items c.args.root.now c.in-Some.bytes 256 fault refl c.new-gathered.ensures.0
    (sym (c.in_ok-bytes.ensures.told known is) ∙ c.in-Some.is) (c.in_err-gather_file_and_includes.ensures.comes known same (empty_folder_set_is_settled known c.new-gathered.result.found.items c.new-gathered.result.folders c.new-gathered.ensures.1)))

pub returns-clause-gathers : goal.returns-clause-gathers
returns-clause-gathers g c = λ known is.
    let same : (g.F.Files.shelf c.read_file_for_gathering.new.files).files ≡ Some known = ap (λ (s : FileDeviceState). s.files) c.in_ok-bytes.ensures.asks ∙ is in
    files_gathered_from_root_are_outcome known c.new-gathered.result.found.items c.gather_file_and_includes.new.gathered.found.items c.args.root.now c.in-Some.bytes 256 refl c.new-gathered.ensures.0
    (sym (c.in_ok-bytes.ensures.told known is) ∙ c.in-Some.is) (c.in_ok-gather_file_and_includes.ensures.comes known same (empty_folder_set_is_settled known c.new-gathered.result.found.items c.new-gathered.result.folders c.new-gathered.ensures.1))
