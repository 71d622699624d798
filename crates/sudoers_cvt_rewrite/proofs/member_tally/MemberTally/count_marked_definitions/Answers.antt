use Rattle.sudoers_cvt_rewrite.proofs.Common.{User, [], ap, ◌∙◌}
use Rattle.sudoers_cvt_rewrite.specs.declared.member_tally.MemberTally.{MemberTally}
use Rattle.sudoers_cvt_rewrite.proofs.Defined.{marked_falls, marked_stays}
use Rattle.sudoers_cvt_rewrite.proofs.member_tally.MemberTally.count_marked_definitions.Goals as goal
use Rattle.sudoers_cvt_rewrite.proofs.member_tally.MemberTally.count_marked_definitions.Goals.{then-marks-number+in_ok-count_list_of_length, else-marks-number}

pub loop-number-preserved : goal.loop-number-preserved
loop-number-preserved c =
    let marks = c.args.marks.now in
    let rows = c.args.definitions.now in
    let i = c.loop-number.number in
    elim c.if-marks-number.branch [
      | then-marks-number+in_ok-count_list_of_length w ↦
          marked_stays marks rows i _ _ c.loop-number-test.true c.requires c.loop-number.self.count c.if-marks-number.self.count _ w.if-marks-number.true
          (ap (λ (t : MemberTally). t.count) w.self-is ∙ w.in_ok-count_list_of_length.ensures.counted) c.loop-number.invariant
      | else-marks-number w ↦
          marked_falls marks rows i _ (record { kind = User; members = record { ref_ptr = (0, 0); now = [] } }) c.loop-number-test.true c.requires c.loop-number.self.count c.if-marks-number.self.count _ w.if-marks-number.false
          (ap (λ (t : MemberTally). t.count) w.self-is) c.loop-number.invariant
    ]
