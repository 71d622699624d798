use Rattle.sudoers_tree.proofs.Common.{AreApplicableChanges, LoadedPolicy, Swap, WalkedFiles, [], named_files_of_policy, policy_of_walked_files, policy_or_load_fault, refl}
use Rattle.sudoers_tree.proofs.Common.{subst, sym, table_growth_is_transitive, text_in_tables, ◌∷◌, ◌≡◌}
use Rattle.std.proofs.Common.{IfSome, Ok}
use Rattle.std.specs.declared.alloc.AllocError.{AllocError}
use Rattle.sudoers_tree.proofs.Common.{Bool, Result}
use Rattle.sudoers_tree.specs.internal.InPlace.{IsChangeInPlaceUnlessNoMemory, IsReadLineRow}
use Rattle.sudoers_tree.proofs.WalksBefore.{change_in_grown_tables_is_change, change_without_memory_keeps_policy, walked_files_have_same_policy_when_grown, walked_files_in_other_tables, walked_files_stay_sound_in_grown_tables}
use Rattle.sudoers_tree.proofs.files_and_walk.WalkedFiles.set_line_in_place.Goals as goal

pub returns-in_err-row-clause-walked : goal.returns-in_err-row-clause-walked
returns-in_err-row-clause-walked c =
    walked_files_stay_sound_in_grown_tables table_growth_is_transitive c.args.self.now (walked_files_in_other_tables c.read_short_line.new.tables c.args.self.now) refl refl refl c.in_err-row.ensures.grown c.requires.walked

pub returns-in_err-row-clause-made : goal.returns-in_err-row-clause-made
returns-in_err-row-clause-made c =
    let w : WalkedFiles = c.args.self.now in
    let mid : WalkedFiles = walked_files_in_other_tables c.read_short_line.new.tables w in
    change_without_memory_keeps_policy c.from_residual.result (Swap c.args.file c.args.line c.args.text.now ∷ []) w mid c.from_residual.ensures.0
    (walked_files_have_same_policy_when_grown w mid refl refl refl refl c.in_err-row.ensures.grown c.requires.walked)

-- the files in the tables that hold the line
abbrev mid : goal.After-set_row_in_place-arg-1 → WalkedFiles
mid c = walked_files_in_other_tables c.read_short_line.new.tables c.args.self.now

same_policy : (c : goal.After-set_row_in_place-arg-1) → policy_of_walked_files (mid c) ≡ policy_of_walked_files c.args.self.now
same_policy c = walked_files_have_same_policy_when_grown c.args.self.now (mid c) refl refl refl refl c.in_ok-row.ensures.grown c.requires.walked

is_read : (c : goal.After-set_row_in_place-arg-1) → IsReadLineRow c.read_short_line.new.tables c.args.text.now c.in-Some.row
is_read c = subst (λ o. IfSome o (IsReadLineRow c.read_short_line.new.tables c.args.text.now)) c.in-Some.is c.in_ok-row.ensures.row

pub set_row_in_place-requires-clause-walked : goal.set_row_in_place-requires-clause-walked
set_row_in_place-requires-clause-walked c =
    walked_files_stay_sound_in_grown_tables table_growth_is_transitive c.args.self.now (mid c) refl refl refl c.in_ok-row.ensures.grown c.requires.walked

pub set_row_in_place-requires-clause-loaded : goal.set_row_in_place-requires-clause-loaded
set_row_in_place-requires-clause-loaded c =
    subst (λ (p : LoadedPolicy). policy_or_load_fault (named_files_of_policy p) ≡ Ok p) (sym (same_policy c)) c.requires.loaded

pub set_row_in_place-requires-clause-row : goal.set_row_in_place-requires-clause-row
set_row_in_place-requires-clause-row c = subst (λ text. IsReadLineRow c.read_short_line.new.tables text c.in-Some.row) (sym (is_read c).says) (is_read c)

pub set_row_in_place-requires-clause-can : goal.set_row_in_place-requires-clause-can
set_row_in_place-requires-clause-can c =
    subst (λ (p : LoadedPolicy). AreApplicableChanges (Swap c.args.file c.args.line (text_in_tables c.read_short_line.new.tables c.in-Some.row.text) ∷ []) p.files) (sym (same_policy c))
    (subst (λ text. AreApplicableChanges (Swap c.args.file c.args.line text ∷ []) (policy_of_walked_files c.args.self.now).files) (sym (is_read c).says) c.requires.can)

pub returns-in-Some-clause-made : goal.returns-in-Some-clause-made
returns-in-Some-clause-made c =
    let w : WalkedFiles = c.args.self.now in
    let grown : WalkedFiles = walked_files_in_other_tables c.read_short_line.new.tables w in
    let read : IsReadLineRow c.read_short_line.new.tables c.args.text.now c.in-Some.row = subst (λ o. IfSome o (IsReadLineRow c.read_short_line.new.tables c.args.text.now)) c.in-Some.is c.in_ok-row.ensures.row in
    change_in_grown_tables_is_change (let r : Result Bool AllocError = Ok c.set_row_in_place.result in r) (Swap c.args.file c.args.line c.args.text.now ∷ []) w grown c.set_row_in_place.new.self
    (walked_files_have_same_policy_when_grown w grown refl refl refl refl c.in_ok-row.ensures.grown c.requires.walked)
    (subst (λ text. IsChangeInPlaceUnlessNoMemory (let r : Result Bool AllocError = Ok c.set_row_in_place.result in r) (Swap c.args.file c.args.line text ∷ []) grown c.set_row_in_place.new.self) read.says c.set_row_in_place.ensures.made)

pub returns-in-None-clause-walked : goal.returns-in-None-clause-walked
returns-in-None-clause-walked c =
    walked_files_stay_sound_in_grown_tables table_growth_is_transitive c.args.self.now (walked_files_in_other_tables c.read_short_line.new.tables c.args.self.now) refl refl refl c.in_ok-row.ensures.grown c.requires.walked

pub returns-in-None-clause-made : goal.returns-in-None-clause-made
returns-in-None-clause-made c =
    walked_files_have_same_policy_when_grown c.args.self.now (walked_files_in_other_tables c.read_short_line.new.tables c.args.self.now) refl refl refl refl c.in_ok-row.ensures.grown c.requires.walked
