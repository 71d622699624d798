use Rattle.sudoers_cvt_rewrite.proofs.Common.{sym, ◌∙◌, ◌∷◌, []}
use Rattle.std.proofs.lemmas.List.{nil_from_length}
use Rattle.sudoers_line_rows.specs.View.{member_of_view}
use Rattle.sudoers_cvt_rewrite.specs.internal.Values.{signed_atoms_of_expanded_list}
use Rattle.sudoers_cvt_rewrite.proofs.Effects.{all_allows_each_undenied, all_denies_each, first_hit_allows}
use Rattle.sudoers_cvt_rewrite.proofs.filter_values.FilterValues.decide_last_member.Goals as goal

pub returns-then-hit-2 : goal.returns-then-hit-2
returns-then-hit-2 c before =
    let last = signed_atoms_of_expanded_list c.args.policy.now c.args.kind (member_of_view c.args.member.now ∷ []) in
    c.in_ok-has_other.ensures ∙ all_allows_each_undenied c.args.self.now.key c.args.self.now.names.items c.args.denied.now last c.args.hit c.requires c.if-hit.true c.if-hit-2.true before

pub returns-else-hit-2 : goal.returns-else-hit-2
returns-else-hit-2 c before =
    let last = signed_atoms_of_expanded_list c.args.policy.now c.args.kind (member_of_view c.args.member.now ∷ []) in
    c.if-hit-2.false ∙ all_denies_each c.args.self.now.key c.args.self.now.names.items c.args.denied.now last c.args.hit c.requires c.if-hit.true c.if-hit-2.false before

pub returns-then-len-eq0 : goal.returns-then-len-eq0
returns-then-len-eq0 c before =
    let last = signed_atoms_of_expanded_list c.args.policy.now c.args.kind (member_of_view c.args.member.now ∷ []) in
    first_hit_allows c.args.self.now.key c.args.self.now.names.items c.args.denied.now last c.args.hit c.requires (nil_from_length c.args.denied.now (sym c.len.ensures ∙ c.if-len-eq0.true)) c.if-hit-3.true before
