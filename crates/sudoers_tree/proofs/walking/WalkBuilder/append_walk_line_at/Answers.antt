use Rattle.sudoers_tree.proofs.Common.{AliasNameIndex, All-push, All-same, Err, InFile, IsIndexEntryOutcome, IsIndexOfDefinitions, IsLastingLineRow, Line, LineRow, List, LoadFault, NoMemory, Ok, Option, ReadFault}
use Rattle.sudoers_tree.proofs.Common.{Some, Tables, WalkLineSpot, WalkState, [], ap, ap₂, definitions_in_line, definitions_of_lines, first_definition_fault, index_after_update, inl, inr, length, length-map}
use Rattle.sudoers_tree.proofs.Common.{line_of_row, map, map-append, name_of_numbered_file, parsed_files_of_view, rules, subst, sym, value_unless_file_fault, walk_state_of_builder, walk_with_line_appended, ℕ, ◌++◌}
use Rattle.sudoers_tree.proofs.Common.{◌∙◌, ◌∷◌, ◌≡◌, ◌⊎◌}
use Rattle.sudoers_tree.specs.declared.fault.ReadFault.TheVariants as read
use Rattle.sudoers_tree.proofs.Joined.{definitions_with_last_line_are_appended}
use Rattle.sudoers_tree.proofs.Passed.{refused_index_entry_is_definition_fault}
use Rattle.sudoers_tree.proofs.walking.WalkBuilder.append_walk_line_at.Goals as goal

-- the line that a row holds
held : (t : Tables) (row : LineRow) (line : Line) (found : Option Line) → Some (line_of_row t row) ≡ found → found ≡ Some line → line_of_row t row ≡ line
held t row line found a b = cc

-- The names of the line are entered with this outcome.
entered : (t : Tables) (row : LineRow) (line : Line) (rows : List LineRow) (count : ℕ) (P : ℕ → Line → Type 0) → line_of_row t row ≡ line → count ≡ length rows
    → P count (line_of_row t row) → P (length (map (line_of_row t) rows)) line
entered t row line rows count P same is given =
    subst (λ n. P n line) (is ∙ sym (length-map rows (line_of_row t))) (subst (P count) same given)

stops : (name : List ℕ) (at : WalkLineSpot) (line : Line) (w : WalkState) (fault : ReadFault) (told : LoadFault) → (fault ≡ read.NoMemory → ⊥)
    → (fault ≡ read.NoMemory) ⊎ (first_definition_fault (definitions_of_lines w.lines) (definitions_in_line (length w.lines) line.node) ≡ Some fault)
    → (told ≡ NoMemory) ⊎ (told ≡ InFile name fault) → (told ≡ NoMemory) ⊎ (walk_with_line_appended name at line w ≡ Err told)
stops name at line w fault told other (inl memory) t = absurd (other memory)
stops name at line w fault told other (inr is) (inl memory) = inl memory
stops name at line w fault told other (inr is) (inr same) =
    inr (ap (value_unless_file_fault name (let more : WalkState = record { lines = w.lines ++ line ∷ []; spots = w.spots ++ at ∷ []; on = w.on } in more)) is ∙ ap (λ f. Err f) (sym same))

pub returns-in-Err-clause-comes : goal.returns-in-Err-clause-comes
returns-in-Err-clause-comes c = λ line is.
    let t : Tables = c.args.files.now.tables.now in
    let w : WalkState = walk_state_of_builder t c.args.self.now in
    let row : LineRow = c.in-Some.row.now in
    let index : AliasNameIndex = index_after_update c.args.known.now c.enter_names_of_row.new.names in
    let other : c.in-Err.fault ≡ read.NoMemory → ⊥ = λ memory. search rules in
    let outcome : IsIndexEntryOutcome (Err c.in-Err.fault) index (definitions_of_lines w.lines) (definitions_in_line (length w.lines) line.node) =
    entered t row line c.args.self.now.lines.items (length c.as_slice-number.result.now)
    (λ n (l : Line). IsIndexEntryOutcome (Err c.in-Err.fault) index (definitions_of_lines w.lines) (definitions_in_line n l.node))
    (held t row line _ c.in-Some.ensures.line is) (ap length c.as_slice-number.ensures.value) (c.in-Err.ensures (definitions_of_lines w.lines) c.requires.walking.named) in
    stops (name_of_numbered_file (parsed_files_of_view c.args.files.now) c.args.at.file) c.args.at line w c.in-Err.fault c.make_load_fault_in_file.result other
    (refused_index_entry_is_definition_fault c.in-Err.fault index (definitions_of_lines w.lines) (definitions_in_line (length w.lines) line.node) outcome) c.make_load_fault_in_file.ensures

walked_of : List ℕ → List Line → List WalkLineSpot → WalkState
walked_of on lines spots = record { lines = lines; spots = spots; on = on }

pub returns-clause-comes : goal.returns-clause-comes
unfolding walked_of
returns-clause-comes c = λ line is.
    let t : Tables = c.args.files.now.tables.now in
    let w : WalkState = walk_state_of_builder t c.args.self.now in
    let row : LineRow = c.in-Some.row.now in
    let rows : List LineRow = c.args.self.now.lines.items in
    let index : AliasNameIndex = index_after_update c.args.known.now c.enter_names_of_row.new.names in
    let same : line_of_row t row ≡ line = held t row line _ c.in-Some.ensures.line is in
    let outcome : IsIndexEntryOutcome (Ok tt) index (definitions_of_lines w.lines) (definitions_in_line (length w.lines) line.node) =
    entered t row line rows (length c.as_slice-number.result.now)
    (λ n (l : Line). IsIndexEntryOutcome (Ok tt) index (definitions_of_lines w.lines) (definitions_in_line n l.node))
    same (ap length c.as_slice-number.ensures.value) (c.in-Ok.ensures (definitions_of_lines w.lines) c.requires.walking.named) in
    let more : map (line_of_row t) c.push.new.self.items ≡ w.lines ++ line ∷ [] =
    ap (map (line_of_row t)) c.in_ok-push.ensures.items ∙ map-append (line_of_row t) rows (row ∷ []) ∙ ap (λ l. w.lines ++ l ∷ []) same in
    let all : definitions_of_lines w.lines ++ definitions_in_line (length w.lines) line.node ≡ definitions_of_lines (map (line_of_row t) c.push.new.self.items) =
    sym (definitions_with_last_line_are_appended w.lines line) ∙ ap definitions_of_lines (sym more) in (
      ap (value_unless_file_fault (name_of_numbered_file (parsed_files_of_view c.args.files.now) c.args.at.file) (walked_of w.on (w.lines ++ line ∷ []) (w.spots ++ c.args.at ∷ []))) outcome.1
          ∙ ap₂ (λ lines spots. Ok (walked_of w.on lines spots)) (sym more) (sym c.in_ok-push-2.ensures.items),
      record {
        stand = All-same (IsLastingLineRow t) c.push.new.self.items (rows ++ row ∷ []) c.in_ok-push.ensures.items
            (All-push (IsLastingLineRow t) rows row c.requires.walking.stand (c.in-Some.ensures.stands c.requires.files));
        named = subst (IsIndexOfDefinitions index) all outcome.0;
      },
    )

pub returns-clause-kept : goal.returns-clause-kept
returns-clause-kept c = (returns-clause-comes c (line_of_row c.args.files.now.tables.now c.in-Some.row.now) (sym c.in-Some.ensures.line)).1
