use Rattle.std.proofs.Common.{◌≡◌, ◌++◌, drop, map, flat_map, codes}
use Rattle.sudoers_grammar.specs.Node.{Digest}
use Rattle.sudoers_line_rows.specs.Tables.{digest_in_tables}
use Rattle.sudoers_cvt_spell.specs.Members.{printed_digest}
use Rattle.sudoers_cvt_spell.specs.internal.Fronts.{IsFront}
use Rattle.sudoers_cvt_spell.proofs.members.append_digests.Given as goal

abbrev pub invariant-loop-row : goal.invariant-loop-row
invariant-loop-row l =
    (l.out.items ++ flat_map (λ (d : Digest). codes ", " ++ printed_digest d) (map (digest_in_tables l.digests.tables.now) (drop l.row-index l.rest))
    ≡ l.initial.out.items ++ flat_map (λ (d : Digest). codes ", " ++ printed_digest d) (map (digest_in_tables l.digests.tables.now) l.rest))
    × IsFront l.initial.out.items l.out.items
