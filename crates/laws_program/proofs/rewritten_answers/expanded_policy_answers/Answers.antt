use Rattle.laws_program.specs.Expanded.{lines_with_aliases_replaced}
use Rattle.laws_program.proofs.Flattened.{LawsOfFlatLists}
use Rattle.laws_program.proofs.ExpandedAnswers.{expanded_lines_are_like_expanded_policy, same_default, same_groups, there, back}
use Rattle.laws_program.proofs.rewritten_answers.expanded_policy_answers.Goals as goal

pub returns : goal.returns
returns c =
    let laws : LawsOfFlatLists = record {
      some = c.flat_or_cycle.ensures;
      is = c.flattened_is_flat.ensures;
      straight = c.alias_free_list_is_flat.ensures;
      same = c.same_flat_lists_are_alike.ensures;
    } in
    record {
      there = λ lines policy straight q answer a. there laws lines (lines_with_aliases_replaced lines) policy straight (expanded_lines_are_like_expanded_policy lines) c.alike_rows_answer.ensures.alike q answer a;
      back = λ lines policy straight q other b. back laws lines (lines_with_aliases_replaced lines) policy straight (expanded_lines_are_like_expanded_policy lines) c.alike_rows_answer.ensures.alike q c.alike_rows_fit.ensures
          c.one_flat.ensures c.one_answer.ensures other b;
      default = λ lines policy straight who name. same_default laws lines (lines_with_aliases_replaced lines) policy straight (expanded_lines_are_like_expanded_policy lines) c.alike_defaults_are_same.ensures who name;
      groups = λ lines policy straight who places. same_groups laws lines (lines_with_aliases_replaced lines) policy straight (expanded_lines_are_like_expanded_policy lines) c.alike_specs_have_same_groups.ensures who places;
    }
