use Rattle.std.proofs.Common.{sym, ◌∙◌, subst}
use Rattle.sudoers_line_rows.specs.Tables.{atom_in_tables}
use Rattle.sudoers_line_reader.specs.internal.Answer.{ReportsDigestPresence}
use Rattle.sudoers_line_reader.proofs.WordRows.{no_digests_are_always_allowed, digests_are_allowed_if_command_allows}
use Rattle.sudoers_line_reader.proofs.command_words.may_follow_digests.Goals as goal

pub returns-then-has_digests : goal.returns-then-has_digests
returns-then-has_digests c t ds tells = c.is_row_allowing_digests.ensures t ∙ sym (digests_are_allowed_if_command_allows ds (atom_in_tables t c.args.atom) (subst (λ b. ReportsDigestPresence b ds) c.if-has_digests.true tells))

pub returns-else-has_digests : goal.returns-else-has_digests
returns-else-has_digests c t ds tells = sym (no_digests_are_always_allowed ds (atom_in_tables t c.args.atom) (subst (λ b. ReportsDigestPresence b ds) c.if-has_digests.false tells))
