use Rattle.sudoers_match_list.proofs.Common.{PendingListPart, [], ap, definitions_of_lines, false, length, list_expanded_n_times, map, member_in_tables, members_left_to_write, rules, ◌++◌, ◌∙◌, ◌∷◌, ◌≡◌}
use Rattle.sudoers_match_list.proofs.Parts.{members_not_negated_are_unchanged}
use Rattle.sudoers_match_list.proofs.flatten.flatten_member_list.Goals as goal

pub loop-part-init : goal.loop-part-init
loop-part-init c =
    let k = c.args.kind in
    let aliases = c.args.source.now in
    let lines = aliases.policy.now in
    let t = aliases.lines.tables.now in
    let ms = map (member_in_tables t) c.args.rows.now in
    let first : PendingListPart = record { rows = c.args.rows; negated = false; times = c.len.result } in
    let none : c.new-flat.result.items ≡ [] = search rules in
    let no_parts : c.new-parts.result.items ≡ [] = search rules in
    let one : c.push.new.self.items ≡ first ∷ [] = c.in_ok-push.ensures.items ∙ ap (λ ps. ps ++ first ∷ []) no_parts in
    ap (λ rs. map (member_in_tables t) rs ++ members_left_to_write k lines t c.push.new.self.items) none
    ∙ ap (members_left_to_write k lines t) one
    ∙ ap (list_expanded_n_times c.len.result k lines) (members_not_negated_are_unchanged ms)
    ∙ ap (λ n. list_expanded_n_times n k lines ms) (c.len.ensures ∙ ap (λ ls. length (definitions_of_lines ls)) c.definition_numbers.ensures)
