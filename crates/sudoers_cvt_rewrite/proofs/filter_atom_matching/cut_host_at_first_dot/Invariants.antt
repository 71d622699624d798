use Rattle.sudoers_cvt_rewrite.proofs.Common.{drop, not, prefix_len, ◌+◌, ◌==◌, ◌≡◌}
use Rattle.sudoers_cvt_rewrite.proofs.filter_atom_matching.cut_host_at_first_dot.Given as goal

abbrev pub invariant-loop-i : goal.invariant-loop-i
invariant-loop-i l = l.i + prefix_len (λ b. not (b == 46)) (drop l.i l.name) ≡ prefix_len (λ b. not (b == 46)) l.name
