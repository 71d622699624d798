use Rattle.std.proofs.Common.{◌≡◌, ◌⊎◌, ℕ, List, Ok, Err, IfErr, IfSome, sym, subst, rules}
use Rattle.std.specs.Io.KnownBytes.{Appends}
use Rattle.sudoers_run.specs.declared.fault.LayerFault.{LayerFault}
use Rattle.sudoers_run.specs.declared.fault.LayerFault.TheVariants as layer
use Rattle.sudoers_run.specs.declared.fault.ToolFault.{ToolFault}
use Rattle.sudoers_run.specs.declared.fault.ToolFault.TheVariants as tool
use Rattle.sudoers_files.specs.Device.{AppendsPrefixOfBytes, ReaderMeter}
use Rattle.sudoers_run.specs.List.{IsListOutcome, IsListOutcomeForPolicy, HoldsOfPeopleTexts, IsStatedOrOutsideListFault}
use Rattle.sudoers_run.specs.Policy.{IsPolicyFromRoot}
use Rattle.sudoers_run.proofs.ListEnds.{AreReadingEndsOfListFiles, result_of_both_files_reads_people_files, fault_in_group_reads_both_people_files, fault_in_passwd_reads_no_group_file, fault_before_loading_reads_no_people_files, outcome_for_policy_has_its_reading_ends, layer_fault_has_its_reading_ends}
use Rattle.sudoers_run.proofs.ListLemmas.{property_of_all_files_is_of_known, reading_fault_is_list_fault_of_files, outcome_of_fronts_is_outcome_of_texts, property_of_all_texts_is_of_people, people_of_equal_texts_share_properties, property_of_fronts_holds_of_people_texts, outcome_fault_is_list_fault_of_files, gather_fault_is_list_fault_of_files}
use Rattle.sudoers_run.proofs.PolicyLemmas.{property_of_known_files_is_weakened, text_read_to_limit_is_alike_reader}
use Rattle.sudoers_run.proofs.list.run_list.Goals as goal

pub returns-in_err-policy-clause-fault : goal.returns-in_err-policy-clause-fault
returns-in_err-policy-clause-fault g c =
    let w = c.args.words.now in
    let root = c.args.root.now in
    let fault : LayerFault = c.in_err-policy.field-0.0 in
    let same : c.from_residual.result ≡ Err (tool.Layer fault) = search rules in
    let passwd : ReaderMeter = g.U.Source.meter c.args.passwd.now in
    let group : ReaderMeter = g.G.Source.meter c.args.group.now in
    subst (λ r. IfErr r (λ (x : ToolFault). IfSome (g.F.Files.shelf c.args.files.now).files (λ known. HoldsOfPeopleTexts passwd group (IsStatedOrOutsideListFault w root known x)))) (sym same)
    (property_of_known_files_is_weakened (g.F.Files.shelf c.args.files.now).files _ (λ known. HoldsOfPeopleTexts passwd group (IsStatedOrOutsideListFault w root known (tool.Layer fault)))
    (λ known tells. property_of_all_texts_is_of_people passwd group (IsStatedOrOutsideListFault w root known (tool.Layer fault)) (gather_fault_is_list_fault_of_files w root known fault tells)) c.in_err-policy.ensures.fault)

pub returns-in_err-passwd-clause-fault : goal.returns-in_err-passwd-clause-fault
returns-in_err-passwd-clause-fault g c =
    let w = c.args.words.now in
    let root = c.args.root.now in
    let fault : ToolFault = c.in_err-passwd.field-0.0 in
    let same : c.from_residual-in_err-passwd.result ≡ Err fault = search rules in
    let passwd : ReaderMeter = g.U.Source.meter c.args.passwd.now in
    let group : ReaderMeter = g.G.Source.meter c.args.group.now in
    subst (λ r. IfErr r (λ (x : ToolFault). IfSome (g.F.Files.shelf c.args.files.now).files (λ known. HoldsOfPeopleTexts passwd group (IsStatedOrOutsideListFault w root known x)))) (sym same)
    (property_of_all_files_is_of_known (g.F.Files.shelf c.args.files.now).files (λ known. HoldsOfPeopleTexts passwd group (IsStatedOrOutsideListFault w root known fault))
    (λ known. property_of_all_texts_is_of_people passwd group (IsStatedOrOutsideListFault w root known fault) (reading_fault_is_list_fault_of_files w root known fault c.in_err-passwd.ensures.faults)))

pub returns-in_err-group-clause-fault : goal.returns-in_err-group-clause-fault
returns-in_err-group-clause-fault g c =
    let w = c.args.words.now in
    let root = c.args.root.now in
    let fault : ToolFault = c.in_err-group.field-0.0 in
    let same : c.from_residual-in_err-group.result ≡ Err fault = search rules in
    let passwd : ReaderMeter = g.U.Source.meter c.args.passwd.now in
    let group : ReaderMeter = g.G.Source.meter c.args.group.now in
    subst (λ r. IfErr r (λ (x : ToolFault). IfSome (g.F.Files.shelf c.args.files.now).files (λ known. HoldsOfPeopleTexts passwd group (IsStatedOrOutsideListFault w root known x)))) (sym same)
    (property_of_all_files_is_of_known (g.F.Files.shelf c.args.files.now).files (λ known. HoldsOfPeopleTexts passwd group (IsStatedOrOutsideListFault w root known fault))
    (λ known. property_of_all_texts_is_of_people passwd group (IsStatedOrOutsideListFault w root known fault) (reading_fault_is_list_fault_of_files w root known fault c.in_err-group.ensures.faults)))

pub returns-in_err-policy-clause-reads : goal.returns-in_err-policy-clause-reads
returns-in_err-policy-clause-reads g c =
    let fault : LayerFault = c.in_err-policy.field-0.0 in
    let same : c.from_residual.result ≡ Err (tool.Layer fault) = search rules in
    fault_before_loading_reads_no_people_files c.from_residual.result fault _ _ same c.in_err-policy.ensures.named

pub returns-in_err-passwd-clause-reads : goal.returns-in_err-passwd-clause-reads
returns-in_err-passwd-clause-reads g c =
    let fault : ToolFault = c.in_err-passwd.field-0.0 in
    let same : c.from_residual-in_err-passwd.result ≡ Err fault = search rules in
    fault_in_passwd_reads_no_group_file c.from_residual-in_err-passwd.result fault _ _ _ same c.in_err-passwd.ensures.faults c.in_err-passwd.ensures.reads

pub returns-in_err-group-clause-reads : goal.returns-in_err-group-clause-reads
returns-in_err-group-clause-reads g c =
    let fault : ToolFault = c.in_err-group.field-0.0 in
    let same : c.from_residual-in_err-group.result ≡ Err fault = search rules in
    fault_in_group_reads_both_people_files c.from_residual-in_err-group.result fault c.in_ok-passwd.passwd _ _ _ _ same c.in_err-group.ensures.faults
    c.in_ok-passwd.ensures.reads c.in_err-group.ensures.reads

pub returns-in_err-output-clause-reads : goal.returns-in_err-output-clause-reads
returns-in_err-output-clause-reads g c =
    let w = c.args.words.now in
    let policy = c.in_ok-policy.policy in
    let fault : LayerFault = c.in_err-output.field-0.0 in
    let same : c.from_residual-in_err-output.result ≡ Err (tool.Layer fault) = search rules in
    let told = people_of_equal_texts_share_properties _ _ _ _ c.as_slice.ensures.value c.as_slice-2.ensures.value (λ t. (fault ≡ layer.NoMemory) ⊎ IsListOutcomeForPolicy w t policy (Err fault)) c.in_err-output.ensures.outcome in
    result_of_both_files_reads_people_files c.from_residual-in_err-output.result c.in_ok-passwd.passwd c.in_ok-group.group _ _ _ _
    (layer_fault_has_its_reading_ends w policy c.in_ok-passwd.passwd c.in_ok-group.group c.from_residual-in_err-output.result fault same told)
    c.in_ok-passwd.ensures.reads c.in_ok-group.ensures.reads

pub returns-in_err-write_all_to_sink-clause-reads : goal.returns-in_err-write_all_to_sink-clause-reads
returns-in_err-write_all_to_sink-clause-reads g c =
    let w = c.args.words.now in
    let policy = c.in_ok-policy.policy in
    let output = c.in_ok-output.output in
    let same : c.from_residual-in_err-write_all_to_sink.result ≡ Err tool.Write = search rules in
    let told = people_of_equal_texts_share_properties _ _ _ _ c.as_slice.ensures.value c.as_slice-2.ensures.value (λ t. IsListOutcomeForPolicy w t policy (Ok (output.text.items, output.status))) c.in_ok-output.ensures.outcome in
    result_of_both_files_reads_people_files c.from_residual-in_err-write_all_to_sink.result c.in_ok-passwd.passwd c.in_ok-group.group _ _ _ _
    (subst (λ r. AreReadingEndsOfListFiles r c.in_ok-passwd.passwd c.in_ok-group.group) (sym same) (outcome_for_policy_has_its_reading_ends w policy c.in_ok-passwd.passwd c.in_ok-group.group (Ok (output.text.items, output.status)) told))
    c.in_ok-passwd.ensures.reads c.in_ok-group.ensures.reads

pub returns-clause-reads : goal.returns-clause-reads
returns-clause-reads g c =
    let w = c.args.words.now in
    let policy = c.in_ok-policy.policy in
    let output = c.in_ok-output.output in
    let told = people_of_equal_texts_share_properties _ _ _ _ c.as_slice.ensures.value c.as_slice-2.ensures.value (λ t. IsListOutcomeForPolicy w t policy (Ok (output.text.items, output.status))) c.in_ok-output.ensures.outcome in
    result_of_both_files_reads_people_files (Ok output.status) c.in_ok-passwd.passwd c.in_ok-group.group _ _ _ _
    (outcome_for_policy_has_its_reading_ends w policy c.in_ok-passwd.passwd c.in_ok-group.group (Ok (output.text.items, output.status)) told)
    c.in_ok-passwd.ensures.reads c.in_ok-group.ensures.reads

pub returns-in_err-output-clause-fault : goal.returns-in_err-output-clause-fault
returns-in_err-output-clause-fault g c =
    let w = c.args.words.now in
    let root = c.args.root.now in
    let policy = c.in_ok-policy.policy in
    let fault : LayerFault = c.in_err-output.field-0.0 in
    let same : c.from_residual-in_err-output.result ≡ Err (tool.Layer fault) = search rules in
    let passwd : ReaderMeter = g.U.Source.meter c.args.passwd.now in
    let group : ReaderMeter = g.G.Source.meter c.args.group.now in
    let told = people_of_equal_texts_share_properties _ _ _ _ c.as_slice.ensures.value c.as_slice-2.ensures.value (λ t. (fault ≡ layer.NoMemory) ⊎ IsListOutcomeForPolicy w t policy (Err fault)) c.in_err-output.ensures.outcome in
    subst (λ r. IfErr r (λ (x : ToolFault). IfSome (g.F.Files.shelf c.args.files.now).files (λ known. HoldsOfPeopleTexts passwd group (IsStatedOrOutsideListFault w root known x)))) (sym same)
    (property_of_known_files_is_weakened (g.F.Files.shelf c.args.files.now).files (IsPolicyFromRoot root policy) (λ known. HoldsOfPeopleTexts passwd group (IsStatedOrOutsideListFault w root known (tool.Layer fault)))
    (λ known of. property_of_fronts_holds_of_people_texts passwd group c.in_ok-passwd.passwd.items c.in_ok-group.group.items _ (text_read_to_limit_is_alike_reader _ _ _ c.in_ok-passwd.ensures.front) (text_read_to_limit_is_alike_reader _ _ _ c.in_ok-group.ensures.front)
    (outcome_fault_is_list_fault_of_files w root known policy c.in_ok-passwd.passwd.items c.in_ok-group.group.items fault told of)) c.in_ok-policy.ensures.policy)

pub returns-in_err-write_all_to_sink-clause-front : goal.returns-in_err-write_all_to_sink-clause-front
returns-in_err-write_all_to_sink-clause-front g c = λ wrote.
    let w = c.args.words.now in
    let root = c.args.root.now in
    let policy = c.in_ok-policy.policy in
    let text = c.in_ok-output.output.text.items in
    let status = c.in_ok-output.output.status in
    let passwd : ReaderMeter = g.U.Source.meter c.args.passwd.now in
    let group : ReaderMeter = g.G.Source.meter c.args.group.now in
    let told = people_of_equal_texts_share_properties _ _ _ _ c.as_slice.ensures.value c.as_slice-2.ensures.value (λ t. IsListOutcomeForPolicy w t policy (Ok (text, status))) c.in_ok-output.ensures.outcome in
    let part = subst (AppendsPrefixOfBytes (g.W.Write.contents c.args.writer.now) (g.W.Write.contents c.write_all_to_sink.new.writer)) c.as_slice-3.ensures.value c.in_err-write_all_to_sink.ensures.part in
    property_of_known_files_is_weakened (g.F.Files.shelf c.args.files.now).files (IsPolicyFromRoot root policy) (λ known. HoldsOfPeopleTexts passwd group (λ u h.
    (text : List ℕ) × ((status : ℕ) × IsListOutcome w root known u h (Ok (text, status))) × AppendsPrefixOfBytes (g.W.Write.contents c.args.writer.now) (g.W.Write.contents c.write_all_to_sink.new.writer) text))
    (λ known of. property_of_fronts_holds_of_people_texts passwd group c.in_ok-passwd.passwd.items c.in_ok-group.group.items _ (text_read_to_limit_is_alike_reader _ _ _ c.in_ok-passwd.ensures.front) (text_read_to_limit_is_alike_reader _ _ _ c.in_ok-group.ensures.front)
    (λ u h b d. (text, (status, outcome_of_fronts_is_outcome_of_texts w root known c.in_ok-passwd.passwd.items c.in_ok-group.group.items u h policy (Ok (text, status)) of b d told), part))) c.in_ok-policy.ensures.policy

pub returns-clause-ok : goal.returns-clause-ok
returns-clause-ok g c =
    let w = c.args.words.now in
    let root = c.args.root.now in
    let policy = c.in_ok-policy.policy in
    let text = c.in_ok-output.output.text.items in
    let status = c.in_ok-output.output.status in
    let passwd : ReaderMeter = g.U.Source.meter c.args.passwd.now in
    let group : ReaderMeter = g.G.Source.meter c.args.group.now in
    let told = people_of_equal_texts_share_properties _ _ _ _ c.as_slice.ensures.value c.as_slice-2.ensures.value (λ t. IsListOutcomeForPolicy w t policy (Ok (text, status))) c.in_ok-output.ensures.outcome in
    let all = subst (Appends (g.W.Write.contents c.args.writer.now) (g.W.Write.contents c.write_all_to_sink.new.writer)) c.as_slice-3.ensures.value c.in_ok-write_all_to_sink.ensures.all in
    property_of_known_files_is_weakened (g.F.Files.shelf c.args.files.now).files (IsPolicyFromRoot root policy) (λ known. HoldsOfPeopleTexts passwd group (λ u h.
    (text : List ℕ) × IsListOutcome w root known u h (Ok (text, status)) × Appends (g.W.Write.contents c.args.writer.now) (g.W.Write.contents c.write_all_to_sink.new.writer) text))
    (λ known of. property_of_fronts_holds_of_people_texts passwd group c.in_ok-passwd.passwd.items c.in_ok-group.group.items _ (text_read_to_limit_is_alike_reader _ _ _ c.in_ok-passwd.ensures.front) (text_read_to_limit_is_alike_reader _ _ _ c.in_ok-group.ensures.front)
    (λ u h b d. (text, outcome_of_fronts_is_outcome_of_texts w root known c.in_ok-passwd.passwd.items c.in_ok-group.group.items u h policy (Ok (text, status)) of b d told, all))) c.in_ok-policy.ensures.policy
