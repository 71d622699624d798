use Rattle.std.proofs.Common.{◌≡◌, ◌++◌, drop, map, flat_map, codes, false}
use Rattle.sudoers_grammar.specs.Node.{Member}
use Rattle.sudoers_line_rows.specs.Tables.{member_in_tables}
use Rattle.sudoers_cvt_spell.specs.Members.{printed_member}
use Rattle.sudoers_cvt_spell.specs.internal.Fronts.{IsFront}
use Rattle.sudoers_cvt_spell.proofs.lists.append_member_list_text.Given as goal

abbrev pub invariant-loop-row : goal.invariant-loop-row
invariant-loop-row l =
    (l.out.items ++ flat_map (λ (m : Member). codes ", " ++ printed_member false l.kind m) (map (member_in_tables l.members.tables.now) (drop l.row-index l.rest))
    ≡ l.initial.out.items ++ flat_map (λ (m : Member). codes ", " ++ printed_member false l.kind m) (map (member_in_tables l.members.tables.now) l.rest))
    × IsFront l.initial.out.items l.out.items
