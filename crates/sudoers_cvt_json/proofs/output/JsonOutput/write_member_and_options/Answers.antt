use Rattle.std.proofs.Common.{◌∷◌, ◌++◌, List, [], codes, false, ap, ◌∙◌}
use Rattle.json.specs.Token.{Token, key}
use Rattle.serde_json.specs.Data.{Data, string}
use Rattle.sudoers_grammar.specs.declared.node.Kind.TheVariants.{Cmnd}
use Rattle.sudoers_line_rows.specs.View.{member_of_view}
use Rattle.sudoers_cvt_spell.specs.Members.{printed_member}
use Rattle.sudoers_cvt_json.specs.Value.{string_array_value}
use Rattle.sudoers_cvt_json.specs.internal.Built.{printed_option_texts, tokens_of_value}
use Rattle.sudoers_cvt_json.proofs.Parts.{first_half_of_object_is_written}
use Rattle.sudoers_cvt_json.proofs.output.JsonOutput.write_member_and_options.Goals as goal

pub returns-clause-written : goal.returns-clause-written
returns-clause-written c =
    let member : Data = string (printed_member false Cmnd (member_of_view c.args.member.now)) in
    let options : Data = string_array_value (printed_option_texts c.args.head.now.options) in (
      c.in_ok-write_options.ensures.written.0 ∙ c.in_ok-key-2.ensures.room.0 ∙ c.in_ok-write_member.ensures.written.0 ∙ c.in_ok-key.ensures.room.0 ∙ c.in_ok-begin_object.ensures.room.0,
      c.in_ok-write_options.ensures.written.1 ∙ ap (λ (s : List Token). s ++ tokens_of_value options)
          (c.in_ok-key-2.ensures.ok ∙ ap (λ (s : List Token). s ++ key (codes "options") ∷ [])
          (c.in_ok-write_member.ensures.written.1 ∙ ap (λ (s : List Token). s ++ tokens_of_value member)
          (c.in_ok-key.ensures.ok ∙ ap (λ (s : List Token). s ++ key (codes "command") ∷ [])
          (c.in_ok-begin_object.ensures.ok))))
          ∙ first_half_of_object_is_written c.args.self.now.writer.tokens (codes "command") (codes "options") member options,
    )
