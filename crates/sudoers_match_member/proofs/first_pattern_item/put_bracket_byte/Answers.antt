use Rattle.std.proofs.Common.{true, false, get_or, replicate, slice_set, arith, sym, ap, ◌∙◌, inl, inr}
use Rattle.std.proofs.lemmas.Bool.{cases_eq, eq-eqb, ne_eqb}
use Rattle.std.proofs.lemmas.List.{get_or-set_same, get_or-set_other, get_or-replicate}
use Rattle.sudoers_match_member.proofs.first_pattern_item.put_bracket_byte.Goals as goal

pub returns-clause-takes : goal.returns-clause-takes
returns-clause-takes c b h =
    elim (cases_eq b 91) [
      | inl same ↦ ap (λ n. get_or (slice_set (replicate 256 false) 91 true) n false) same ∙ get_or-set_same (replicate 256 false) 91 true false (omega arith) ∙ sym (eq-eqb b 91 same)
      | inr other ↦ get_or-set_other (replicate 256 false) 91 b true false other ∙ get_or-replicate 256 b false false h ∙ sym (ne_eqb b 91 other)
    ]
