use Rattle.std.proofs.Common.{[], ap, map, ◌∙◌}
use Rattle.sudoers_line_rows.specs.Tables.{alias_definition_in_tables}
use Rattle.sudoers_plan.specs.Mentions.{numbers_with_mentioning_definitions}
use Rattle.sudoers_plan.proofs.MarkedDefinitions.{mentions_are_listed}
use Rattle.sudoers_plan.proofs.user_definitions.UserDefinitions.from_policy.Goals as goal

pub invariant_of-result : goal.invariant_of-result
invariant_of-result c =
    record {
      listed = mentions_are_listed _ c.in_ok-mentions.mentions (λ name.
          c.in_ok-mentions.ensures name
          ∙ ap (λ rows. numbers_with_mentioning_definitions name 0 (map (alias_definition_in_tables c.lines-lines.result.tables.now) rows) []) c.as_slice.ensures.value);
    }
