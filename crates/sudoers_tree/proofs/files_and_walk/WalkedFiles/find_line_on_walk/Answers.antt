use Rattle.sudoers_tree.proofs.Common.{All, HasSoundFileRows, IsLastingLineRow, List, Some, Tables, ap, ap₂, line_of_row, lines_of_numbered_file, list_any, map, nat_eq, parsed_file_of_rows}
use Rattle.sudoers_tree.proofs.Common.{slice_get, subst, sym, ◌∙◌, ◌≡◌}
use Rattle.sudoers_tree.specs.declared.place.WalkLineSpot.{WalkLineSpot}
use Rattle.sudoers_tree.specs.internal.InPlace.{IsOnlySpotOfLine}
use Rattle.sudoers_tree.proofs.files_and_walk.WalkedFiles.find_line_on_walk.Goals as goal

pub returns : goal.returns
returns c =
    let t : Tables = c.args.self.now.tables in
    let files_are : map (parsed_file_of_rows c.files_in_tables.result.tables.now) c.files_in_tables.result.files.now ≡ map (parsed_file_of_rows t) c.args.self.now.files.items =
    ap₂ (λ u fs. map (parsed_file_of_rows u) fs) c.files_in_tables.ensures.tables c.files_in_tables.ensures.files in
    record {
      is =
          ap (λ fs. slice_get (lines_of_numbered_file fs c.args.file) c.args.line) (sym files_are) ∙ sym c.in_ok-row.ensures.line
          ∙ ap (λ u. Some (line_of_row u c.in_ok-row.field-0.now)) c.files_in_tables.ensures.tables;
      stands = subst (λ u. IsLastingLineRow u c.in_ok-row.field-0.now) c.files_in_tables.ensures.tables
          (c.in_ok-row.ensures.stands (subst (λ u. All (HasSoundFileRows u) c.files_in_tables.result.files.now) (sym c.files_in_tables.ensures.tables) (subst (All (HasSoundFileRows t)) (sym c.files_in_tables.ensures.files) c.requires.files)));
      on = ap (list_any (nat_eq c.args.file)) (sym c.as_slice.ensures.value) ∙ sym c.is_file_number_among.ensures ∙ c.if-not-is_file_number_among.false;
      only = subst (λ (ss : List WalkLineSpot). IsOnlySpotOfLine ss c.args.file c.args.line c.in_ok-number.number) c.as_slice-2.ensures.value c.in_ok-number.ensures;
    }
