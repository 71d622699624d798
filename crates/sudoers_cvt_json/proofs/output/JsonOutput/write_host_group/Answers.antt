use Rattle.std.proofs.Common.{◌∷◌, ◌++◌, List, [], codes, false, map, ap, ◌∙◌}
use Rattle.json.specs.Token.{Token, end_object, key}
use Rattle.serde_json.specs.Data.{Data}
use Rattle.sudoers_grammar.specs.declared.node.Kind.TheVariants.{Host}
use Rattle.sudoers_line_rows.specs.View.{commands_of_view, members_of_view}
use Rattle.sudoers_cvt_rules.specs.Effective.{effective_commands}
use Rattle.sudoers_cvt_json.specs.Value.{array_value_of, command_object_value, member_array_value}
use Rattle.sudoers_cvt_json.specs.internal.Built.{tokens_of_value}
use Rattle.sudoers_cvt_json.proofs.Parts.{object_of_two_members_is_written}
use Rattle.sudoers_cvt_json.proofs.output.JsonOutput.write_host_group.Goals as goal

pub returns-clause-written : goal.returns-clause-written
returns-clause-written c =
    let commands : Data = array_value_of (map command_object_value (effective_commands (commands_of_view c.args.group.now.commands))) in
    let hosts : Data = member_array_value false Host (members_of_view c.args.group.now.hosts) in (
      c.in_ok-end_object.ensures.room.0 ∙ c.in_ok-write_members.ensures.written.0 ∙ c.in_ok-key-2.ensures.room.0 ∙ c.in_ok-write_commands.ensures.written.0 ∙ c.in_ok-key.ensures.room.0 ∙ c.in_ok-begin_object.ensures.room.0,
      c.in_ok-end_object.ensures.ok ∙ ap (λ (s : List Token). s ++ end_object ∷ [])
          (c.in_ok-write_members.ensures.written.1 ∙ ap (λ (s : List Token). s ++ tokens_of_value hosts)
          (c.in_ok-key-2.ensures.ok ∙ ap (λ (s : List Token). s ++ key (codes "hosts") ∷ [])
          (c.in_ok-write_commands.ensures.written.1 ∙ ap (λ (s : List Token). s ++ tokens_of_value commands)
          (c.in_ok-key.ensures.ok ∙ ap (λ (s : List Token). s ++ key (codes "commands") ∷ [])
          (c.in_ok-begin_object.ensures.ok)))))
          ∙ object_of_two_members_is_written c.args.self.now.writer.tokens (codes "commands") (codes "hosts") commands hosts,
    )
