use Rattle.sudoers_tree.proofs.Common.{Tables, TablesHaveGrown, WalkedFiles, ap, table_growth_is_transitive, refl, subst, sym, ◌≡◌}
use Rattle.sudoers_line_rows.proofs.CutBack.{cut_grown}
use Rattle.sudoers_tree.proofs.WalksBefore.{walked_files_have_same_policy_when_grown, loaded_walk_is_sound_before_change, walked_files_stay_sound_in_grown_tables, walked_files_in_other_tables}
use Rattle.sudoers_tree.proofs.Known.{computed_line_outcome_is_line_outcome}
use Rattle.sudoers_tree.proofs.files_and_walk.WalkedFiles.change_lines_anew.Goals as goal

pub read_and_walk_changed_files-requires-clause-before : goal.read_and_walk_changed_files-requires-clause-before
read_and_walk_changed_files-requires-clause-before c =
    loaded_walk_is_sound_before_change computed_line_outcome_is_line_outcome c.args.self.now _ c.as_slice.ensures.value c.as_slice-2.ensures.value c.as_slice-3.ensures.value c.as_slice-4.ensures.value
    refl c.requires.walked c.requires.loaded

pub returns-in-Err-clause-walked : goal.returns-in-Err-clause-walked
returns-in-Err-clause-walked c =
    let t : Tables = c.args.self.now.tables in
    let u : Tables = c.cut_back_to_counts-in-Err.new.self in
    let back : TablesHaveGrown t u = cut_grown t c.read_and_walk_changed_files.new.tables u c.row_counts-counts.result c.row_counts-counts.ensures c.in-Err.ensures.grown c.cut_back_to_counts-in-Err.ensures in
    walked_files_stay_sound_in_grown_tables table_growth_is_transitive c.args.self.now (walked_files_in_other_tables u c.args.self.now) refl refl refl back c.requires.walked

pub returns-in-Err-clause-unchanged : goal.returns-in-Err-clause-unchanged
returns-in-Err-clause-unchanged c =
    let t : Tables = c.args.self.now.tables in
    let u : Tables = c.cut_back_to_counts-in-Err.new.self in
    let back : TablesHaveGrown t u = cut_grown t c.read_and_walk_changed_files.new.tables u c.row_counts-counts.result c.row_counts-counts.ensures c.in-Err.ensures.grown c.cut_back_to_counts-in-Err.ensures in
    walked_files_have_same_policy_when_grown c.args.self.now (walked_files_in_other_tables u c.args.self.now) refl refl refl refl back c.requires.walked

pub returns-in-Err-replace_files_and_walk-clause-walked : goal.returns-in-Err-replace_files_and_walk-clause-walked
returns-in-Err-replace_files_and_walk-clause-walked c =
    let w : WalkedFiles = c.args.self.now in
    let v : WalkedFiles = c.replace_files_and_walk.new.self in
    let u : Tables = c.cut_back_to_counts.new.self in
    let same : v ≡ walked_files_in_other_tables c.read_and_walk_changed_files.new.tables w = c.in-Err-replace_files_and_walk.ensures.unchanged in
    let grown : TablesHaveGrown w.tables v.tables = subst (λ (x : WalkedFiles). TablesHaveGrown w.tables x.tables) (sym same) c.in-Ok.ensures.grown in
    let back : TablesHaveGrown w.tables u = cut_grown w.tables v.tables u c.row_counts-counts.result c.row_counts-counts.ensures grown c.cut_back_to_counts.ensures in
    walked_files_stay_sound_in_grown_tables table_growth_is_transitive w (walked_files_in_other_tables u v) (ap (λ (x : WalkedFiles). x.files) same) (ap (λ (x : WalkedFiles). x.lines) same)
    (ap (λ (x : WalkedFiles). x.index) same) back c.requires.walked

pub returns-in-Err-replace_files_and_walk-clause-unchanged : goal.returns-in-Err-replace_files_and_walk-clause-unchanged
returns-in-Err-replace_files_and_walk-clause-unchanged c =
    let w : WalkedFiles = c.args.self.now in
    let v : WalkedFiles = c.replace_files_and_walk.new.self in
    let u : Tables = c.cut_back_to_counts.new.self in
    let same : v ≡ walked_files_in_other_tables c.read_and_walk_changed_files.new.tables w = c.in-Err-replace_files_and_walk.ensures.unchanged in
    let grown : TablesHaveGrown w.tables v.tables = subst (λ (x : WalkedFiles). TablesHaveGrown w.tables x.tables) (sym same) c.in-Ok.ensures.grown in
    let back : TablesHaveGrown w.tables u = cut_grown w.tables v.tables u c.row_counts-counts.result c.row_counts-counts.ensures grown c.cut_back_to_counts.ensures in
    walked_files_have_same_policy_when_grown w (walked_files_in_other_tables u v) (ap (λ (x : WalkedFiles). x.files) same) (ap (λ (x : WalkedFiles). x.lines) same)
    (ap (λ (x : WalkedFiles). x.spots) same) (ap (λ (x : WalkedFiles). x.on) same) back c.requires.walked
