-- Where the last member of a list ends.
use Rattle.std.proofs.Common.{◌≡◌, ℕ, zero, suc, ◌-◌, List, [], ◌∷◌, length, map, refl, ap, ◌∙◌, arith}
use Rattle.std.specs.Prelude.{slice_get, Some}
use Rattle.sudoers_grammar.specs.Grammar.{stop_of_last_member}
use Rattle.sudoers_line_rows.specs.declared.rows.MemberRow.{MemberRow}
use Rattle.sudoers_line_rows.specs.declared.rows.Tables.{Tables}
use Rattle.sudoers_line_rows.specs.Tables.{member_in_tables}

stop_at_last_index_is_list_stop : (t : Tables) (rows : List MemberRow) (n : ℕ) (r : MemberRow) → suc n ≡ length rows → Some r ≡ slice_get rows n → r.stop ≡ stop_of_last_member (map (member_in_tables t) rows)
stop_at_last_index_is_list_stop t [] n r l h = absurd (omega arith)
stop_at_last_index_is_list_stop t (x ∷ []) zero r l h = let e : r ≡ x = cc in ap (λ (z : MemberRow). z.stop) e
stop_at_last_index_is_list_stop t (x ∷ []) (suc n) r l h = absurd (omega arith)
stop_at_last_index_is_list_stop t (x ∷ y ∷ rows) zero r l h = absurd (omega arith)
stop_at_last_index_is_list_stop t (x ∷ y ∷ rows) (suc n) r l h = stop_at_last_index_is_list_stop t (y ∷ rows) n r (omega arith) h

pub stop_of_last_row_is_list_stop : (t : Tables) (rows : List MemberRow) (r : MemberRow) → Some r ≡ slice_get rows (length rows - 1) → r.stop ≡ stop_of_last_member (map (member_in_tables t) rows)
stop_of_last_row_is_list_stop t [] r h = cc
stop_of_last_row_is_list_stop t (x ∷ rows) r h = stop_at_last_index_is_list_stop t (x ∷ rows) (length rows) r refl (h ∙ ap (slice_get (x ∷ rows)) (let e : length (x ∷ rows) - 1 ≡ length rows = omega arith in e))
