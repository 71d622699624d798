use Rattle.sudoers_check.proofs.Common.{List, ap, ap₂, arith, byte_count_after_last_lf, drop, length-take, sym, take, ℕ, ◌+◌, ◌-◌, ◌∙◌}
use Rattle.sudoers_text.specs.Fault.{lf_count}
use Rattle.sudoers_check.proofs.Spots.{lf_count_of_appended_is_sum, bytes_after_last_lf_continue_over_appended, leading_bytes_are_split_at_smaller_count}
use Rattle.sudoers_check.proofs.physical_line_cursor.PhysicalLineCursor.move_forward_to.Goals as goal

pub count_bytes_after_last_lf-self-requires : goal.count_bytes_after_last_lf-self-requires
count_bytes_after_last_lf-self-requires c =
    let text : List ℕ = c.args.self.now.text.now in
    let at : ℕ = c.args.self.now.at in
    omega (arith, c.args.self.now.most, c.args.self.now.small, c.requires.here, c.requires.within, length-take (c.args.start - at) (drop at text))

pub invariant_of-self : goal.invariant_of-self
invariant_of-self c =
    let text : List ℕ = c.args.self.now.text.now in
    let at : ℕ = c.args.self.now.at in
    let start : ℕ = c.args.start in
    let between : List ℕ = take (start - at) (drop at text) in
    record {
      within = c.requires.within;
      ends_are = ap₂ (λ x y. x + y) c.args.self.now.ends_are c.lf_count.ensures.count ∙ sym (lf_count_of_appended_is_sum (take at text) between) ∙ ap lf_count (sym (leading_bytes_are_split_at_smaller_count at start text c.requires.here));
      behind_is = c.count_bytes_after_last_lf-self.ensures.is ∙ ap (λ n. byte_count_after_last_lf n between) c.args.self.now.behind_is ∙ sym (bytes_after_last_lf_continue_over_appended 0 (take at text) between) ∙ ap (byte_count_after_last_lf 0) (sym (leading_bytes_are_split_at_smaller_count at start text c.requires.here));
      most = omega (arith, c.count_bytes_after_last_lf-self.ensures.most, c.args.self.now.most, c.requires.here, length-take (start - at) (drop at text));
      small = c.args.self.now.small;
    }
