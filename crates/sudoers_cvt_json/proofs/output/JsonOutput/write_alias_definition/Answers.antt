use Rattle.std.proofs.Common.{◌∷◌, ◌++◌, List, ℕ, [], codes, false, ap, ◌∙◌}
use Rattle.json.specs.Token.{Token, end_object, key}
use Rattle.serde_json.specs.Data.{Data, member, no_members, object, string}
use Rattle.sudoers_line_rows.specs.View.{members_of_view}
use Rattle.sudoers_cvt_json.specs.Value.{member_array_value}
use Rattle.sudoers_cvt_json.specs.internal.Built.{tokens_of_value}
use Rattle.sudoers_cvt_json.proofs.Parts.{object_of_three_members_is_written}
use Rattle.sudoers_cvt_json.proofs.output.JsonOutput.write_alias_definition.Goals as goal

pub returns-clause-written : goal.returns-clause-written
returns-clause-written c =
    let kind : Data = string c.alias_keyword_of_kind.result.now in
    let members : Data = member_array_value false c.args.kind (members_of_view c.args.def.now.members) in
    let name : Data = string c.args.def.now.name.now in (
      c.in_ok-end_object.ensures.room.0 ∙ c.in_ok-write_text-2.ensures.written.0 ∙ c.in_ok-key-3.ensures.room.0 ∙ c.in_ok-write_members.ensures.written.0 ∙ c.in_ok-key-2.ensures.room.0 ∙ c.in_ok-write_text.ensures.written.0 ∙ c.in_ok-key.ensures.room.0 ∙ c.in_ok-begin_object.ensures.room.0,
      c.in_ok-end_object.ensures.ok ∙ ap (λ (s : List Token). s ++ end_object ∷ [])
          (c.in_ok-write_text-2.ensures.written.1 ∙ ap (λ (s : List Token). s ++ tokens_of_value name)
          (c.in_ok-key-3.ensures.ok ∙ ap (λ (s : List Token). s ++ key (codes "name") ∷ [])
          (c.in_ok-write_members.ensures.written.1 ∙ ap (λ (s : List Token). s ++ tokens_of_value members)
          (c.in_ok-key-2.ensures.ok ∙ ap (λ (s : List Token). s ++ key (codes "members") ∷ [])
          (c.in_ok-write_text.ensures.written.1 ∙ ap (λ (s : List Token). s ++ tokens_of_value kind)
          (c.in_ok-key.ensures.ok ∙ ap (λ (s : List Token). s ++ key (codes "kind") ∷ [])
          (c.in_ok-begin_object.ensures.ok)))))))
          ∙ object_of_three_members_is_written c.args.self.now.writer.tokens (codes "kind") (codes "members") (codes "name") kind members name
          ∙ ap (λ (word : List ℕ). c.args.self.now.writer.tokens ++ tokens_of_value (object (member (codes "kind") (string word) (member (codes "members") members (member (codes "name") name no_members))))) c.alias_keyword_of_kind.ensures,
    )
