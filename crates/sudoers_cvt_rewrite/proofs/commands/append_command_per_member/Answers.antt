use Rattle.sudoers_cvt_rewrite.proofs.Common.{CmdSpec, CvtFault, Err, IfErr, IsTooManyMembersOrNoMemoryFault, List, ap, at_drop_more, command_in_tables, commands_for_each_member, commands_and_effective_runas_member_count, drop, false, inr, rules}
use Rattle.sudoers_cvt_rewrite.proofs.Common.{subst, sym, true, ◌++◌, ◌+◌, ◌∙◌, ◌≡◌}
use Rattle.sudoers_cvt_rewrite.specs.declared.member_tally.MemberTally.{MemberTally}
use Rattle.sudoers_match_list.proofs.Appended.{pushed_row_takes_next_value}
use Rattle.sudoers_cvt_rewrite.proofs.Steps.{all_counted, one_counted, one_refused}
use Rattle.sudoers_cvt_rewrite.proofs.commands.append_command_per_member.Goals.{then-source+in_ok-count_command_and_runas_members, else-source}
use Rattle.sudoers_cvt_rewrite.proofs.commands.append_command_per_member.Goals as goal

pub returns-in_err-count_command_and_runas_members-clause-fault : goal.returns-in_err-count_command_and_runas_members-clause-fault
returns-in_err-count_command_and_runas_members-clause-fault c =
    let fault : CvtFault = c.in_err-count_command_and_runas_members.field-0.0 in
    let same : c.from_residual.result ≡ Err fault = search rules in
    let h = c.in_err-count_command_and_runas_members.ensures.fault in
    subst (λ r. IfErr r (λ fault. (rest : List CmdSpec) → IsTooManyMembersOrNoMemoryFault c.args.source.now.expand
    (c.args.tally.now.count + commands_and_effective_runas_member_count c.args.tally.now.inherited (commands_for_each_member c.args.tables.now c.args.row c.args.members.now ++ rest)) fault)) (sym same)
    (λ rest. inr (
      h.0,
      c.if-source.true,
      one_refused c.args.tables.now c.args.row c.args.members.now rest c.loop-member.member-index c.args.row.member c.loop-member.tally.count c.loop-member.tally.inherited _
          c.loop-member-test.true (c.loop-member.invariant.counted c.if-source.true rest) h.1,
    ))

pub loop-member-preserved : goal.loop-member-preserved
loop-member-preserved c =
    let ms = c.args.members.now in
    let row = c.args.row in
    let t = c.args.tables.now in
    let i = c.loop-member.member-index in
    let tally = c.loop-member.tally in
    record {
      appended = λ u. pushed_row_takes_next_value (command_in_tables u) c.loop-member.out.items c.push.new.self.items _ (commands_for_each_member u row (drop i ms)) (commands_for_each_member u row (drop (i + 1) ms)) _
          c.in_ok-push.ensures.items (at_drop_more (commands_for_each_member u row) ms i _ c.loop-member-test.true) (c.loop-member.invariant.appended u);
      counted = λ is more. elim c.if-source.branch [
        | then-source+in_ok-count_command_and_runas_members w ↦
            one_counted t row ms more i row.member tally.count tally.inherited _ c.if-source.tally.count c.if-source.tally.inherited c.loop-member-test.true
            (c.loop-member.invariant.counted is more)
            (ap (λ (x : MemberTally). x.inherited) w.tally-is ∙ w.in_ok-count_command_and_runas_members.ensures.inherited)
            (ap (λ (x : MemberTally). x.count) w.tally-is ∙ w.in_ok-count_command_and_runas_members.ensures.counted)
        | else-source w ↦ let no : true ≡ false = sym is ∙ w.if-source.false in absurd cc
      ];
    }

pub returns-clause-counted : goal.returns-clause-counted
returns-clause-counted c is rest =
    all_counted c.args.tables.now c.args.row c.args.members.now rest c.loop-member.member-index c.loop-member.tally.count c.loop-member.tally.inherited _
    c.loop-member-test.false (c.loop-member.invariant.counted is rest)
