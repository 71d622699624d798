-- Definitions taken out of a line one after another, from the last on, without a reading.
use Rattle.std.proofs.Common.{◌≡◌, ℕ, zero, suc, ◌+◌, ◌-◌, ◌≤◌, ◌<◌, Bool, true, false, List, [], ◌∷◌, length, refl, sym, ap, subst, ◌∙◌, arith, Some, Result, slice_get}
use Rattle.std.proofs.lemmas.List.Edits.{length-remove}
use Rattle.std.proofs.lemmas.List.{length-map}
use Rattle.std.proofs.lemmas.Bool.Decides.{nat_tests}
use Rattle.std.specs.Prelude.{remove, ◌==◌, nat_le}
use Rattle.sudoers_text.specs.Ascend.{AreOrderedSpans}
use Rattle.sudoers_grammar.specs.declared.node.Kind.{Kind}
use Rattle.sudoers_grammar.specs.Node.{Def, Node}
use Rattle.sudoers_grammar.specs.Node as node
use Rattle.sudoers_tree.specs.Line.{Line}
use Rattle.sudoers_tree.specs.Policy.{texts_of_lines}
use Rattle.sudoers_tree.specs.Single.{reading_of_single_line}
use Rattle.sudoers_edit.specs.Landing.{LineTexts}
use Rattle.sudoers_edit.specs.Splice.{ByteExtent, extents_of_definitions, owned_bytes_start, owned_bytes_stop, bytes_between, line_without_bytes}
use Rattle.sudoers_edit.specs.SpliceEdits.{has_one_item_more, result_with_bytes_to_drop_item, lines_with_item_cut_out, replaced_lines_unless_bad_splice_or_too_long, replaced_lines_unless_too_long}
use Rattle.sudoers_edit.specs.declared.extra_item.ItemListKind.{ItemListKind}
use Rattle.sudoers_edit.specs.declared.extra_item.ItemListKind.TheVariants as among
use Rattle.sudoers_edit.specs.declared.fault.EditFault.{EditFault}
use Rattle.sudoers_edit.specs.declared.line_being_cut.LineBeingCut.{LineBeingCut}
use Rattle.sudoers_edit.specs.internal.Drafts.{IsDefinitionCut}
use Rattle.sudoers_edit.specs.internal.OneMore.{IsLineTextWithItemCutOut}
use Rattle.sudoers_edit.specs.internal.LineCuts.{IsLineKnown, IsSureToCut, stop_of_item_at, stop_of_def}
use Rattle.sudoers_edit.proofs.Common.{LawsBehindPrunes}
use Rattle.sudoers_edit.proofs.AlikeItems.{alike_items_end_alike, alike_lists_are_as_long, item_before_removed_ends_as_before, alike_definitions_end_alike}
use Rattle.sudoers_edit.proofs.FrontLists.{IsKindOfWords, AreDefsAlike}
use Rattle.sudoers_edit.proofs.ItemStops.{start_of_owned_is_stop_before, stop_of_owned_is_its_stop, stop_before_is_start_of_owned, stop_of_item_is_stop_of_owned}
use Rattle.sudoers_edit.proofs.PlainCuts.{plain_cut_leaves_plain_line}
use Rattle.sudoers_edit.proofs.PruneCut.{definition_cut_out_is_definition_cut}
use Rattle.sudoers_edit.proofs.PruneGoes.{single_reading_is_reading_of_text}
use Rattle.sudoers_edit.proofs.SureCuts.{kind_of_words_is_one, plain_cut_takes_definition_out, plain_cut_is_definition_cut}

-- ---- where definitions end

spans_end_no_later_than_later_ones : {X : Type 0} (begins ends : X → ℕ) (from to : ℕ) (xs : List X) (i j : ℕ) → AreOrderedSpans begins ends from to xs → i ≤ j → j < length xs
    → (stop_of_item_at ends xs i ≤ stop_of_item_at ends xs j) × (from ≤ stop_of_item_at ends xs i)
spans_end_no_later_than_later_ones begins ends from to [] i j ordered order inside = absurd (omega (arith, inside))
spans_end_no_later_than_later_ones begins ends from to (x ∷ xs) zero zero ordered order inside = (omega arith, omega (arith, ordered.0, ordered.1))
spans_end_no_later_than_later_ones begins ends from to (x ∷ xs) zero (suc j) ordered order inside =
    let later = spans_end_no_later_than_later_ones begins ends (ends x) to xs j j ordered.2 (omega arith) (omega (arith, inside)) in
    (omega (arith, later.1), omega (arith, ordered.0, ordered.1))
spans_end_no_later_than_later_ones begins ends from to (x ∷ xs) (suc i) zero ordered order inside = absurd (omega (arith, order))
spans_end_no_later_than_later_ones begins ends from to (x ∷ xs) (suc i) (suc j) ordered order inside =
    let later = spans_end_no_later_than_later_ones begins ends (ends x) to xs i j ordered.2 (omega (arith, order)) (omega (arith, inside)) in
    (later.0, omega (arith, later.1, ordered.0, ordered.1))

-- ---- what is known of a line

-- what is owned by the definition at a place of the line now, as in the first reading
record OwnsAsBefore (known : LineBeingCut) (text : List ℕ) (at from to : ℕ) : Type 0 where
  pub before : ℕ
  pub at_is : at ≡ suc before
  pub kind : Kind
  pub words : IsKindOfWords kind
  pub others : List Def
  pub says : reading_of_single_line text ≡ Some (node.Alias kind others)
  pub begins : owned_bytes_start (suc before) (extents_of_definitions others) ≡ Some from
  pub stops : owned_bytes_stop (suc before) (extents_of_definitions others) ≡ Some to
  pub inside : suc before < length others
  pub many : 2 ≤ length others
  pub stop : stop_of_item_at stop_of_def others before ≡ from
  pub defs : List Def
  pub first : known.reading ≡ node.Alias kind defs
  pub count_is : length others ≡ known.count
  pub room : suc (suc before) ≤ known.count
  pub fits : known.count ≤ length defs
  pub same : (i : ℕ) → i < suc before → stop_of_item_at stop_of_def others i ≡ stop_of_item_at stop_of_def defs i

alias_of_same_node : (k j : Kind) (ds es : List Def) → node.Alias k ds ≡ node.Alias j es → (k ≡ j) × (ds ≡ es)
alias_of_same_node k j ds es e = (cc, cc)

known_line_owns_as_before : (known : LineBeingCut) (text : List ℕ) (at from to : ℕ) → IsLineKnown known text → IsSureToCut known text at from to → OwnsAsBefore known text at from to
known_line_owns_as_before known text zero from to is sure = absurd (omega (arith, sure.later))
known_line_owns_as_before known text (suc before) from to is sure =
    let same = alias_of_same_node sure.kind is.kind sure.defs is.defs (sym sure.reads ∙ is.first) in
    let begins : owned_bytes_start (suc before) (extents_of_definitions is.defs) ≡ Some from = subst (λ (ds : List Def). owned_bytes_start (suc before) (extents_of_definitions ds) ≡ Some from) same.1 sure.begins in
    let stops : owned_bytes_stop (suc before) (extents_of_definitions is.defs) ≡ Some to = subst (λ (ds : List Def). owned_bytes_stop (suc before) (extents_of_definitions ds) ≡ Some to) same.1 sure.stops in
    let first = start_of_owned_is_stop_before (λ (d : Def). (d.start, d.stop)) is.defs before from begins in
    let last = stop_of_owned_is_its_stop (λ (d : Def). (d.start, d.stop)) is.defs before to stops in
    let inside : suc before < length is.others = omega (arith, sure.before, is.inside, is.count_is) in
    let stop : stop_of_item_at stop_of_def is.others before ≡ from = is.same before (omega (arith, sure.before)) ∙ first.0 in
    let own_stop : stop_of_item_at stop_of_def is.others (suc before) ≡ to = is.same (suc before) sure.before ∙ last.0 in
    record {
      before = before;
      at_is = refl;
      kind = is.kind;
      words = subst IsKindOfWords same.0 (kind_of_words_is_one sure.kind sure.words);
      others = is.others;
      says = is.says;
      begins = stop_before_is_start_of_owned (λ (d : Def). (d.start, d.stop)) is.others before (omega (arith, inside)) ∙ ap (λ (n : ℕ). Some n) stop;
      stops = stop_of_item_is_stop_of_owned (λ (d : Def). (d.start, d.stop)) is.others before inside ∙ ap (λ (n : ℕ). Some n) own_stop;
      inside = inside;
      many = omega (arith, sure.many, is.count_is);
      stop = stop;
      defs = is.defs;
      first = is.first;
      count_is = is.count_is;
      room = omega (arith, sure.before, is.inside);
      fits = is.fits;
      same = λ i below. is.same i (omega (arith, below, sure.before));
    }

-- ---- the cut

droppable_item_has_its_bytes : (at from to : ℕ) (xs : List ByteExtent) (next : ℕ → ℕ → Result LineTexts EditFault) → at < length xs → 2 ≤ length xs → owned_bytes_start at xs ≡ Some from → owned_bytes_stop at xs ≡ Some to
    → result_with_bytes_to_drop_item at xs next ≡ next from to
droppable_item_has_its_bytes at from to xs next inside many begins stops =
    let place : nat_le (length xs) at ≡ false = grind (arith, nat_tests, inside) in
    let several : (length xs == 1) ≡ false = grind (arith, nat_tests, many) in
    rw (place, several, begins, stops) refl

-- The lines with such a text in place of the line are what the edit makes of them.
pub item_cut_out_replaces_line : (among : ItemListKind) (at from to n : ℕ) (line : Line) (lines : List Line) (text : List ℕ) → IsLineTextWithItemCutOut among at from to line text
    → lines_with_item_cut_out among at from to n line lines ≡ replaced_lines_unless_too_long n text (texts_of_lines lines)
item_cut_out_replaces_line among at from to n line lines text is =
    let reads : has_one_item_more among at from to (Some line.node) (reading_of_single_line (line_without_bytes from to line.text)) ≡ true =
    ap (has_one_item_more among at from to (Some line.node)) (ap reading_of_single_line (sym is.text_is) ∙ is.says) ∙ is.more in
    ap (λ (b : Bool). replaced_lines_unless_bad_splice_or_too_long b n (line_without_bytes from to line.text) lines) reads
    ∙ ap (λ (t : List ℕ). replaced_lines_unless_too_long n t (texts_of_lines lines)) (sym is.text_is)

same_node : (a b : Node) → Some a ≡ Some b → a ≡ b
same_node a b e = cc

-- A definition that it is sure to cut is cut.
pub sure_cut_is_definition_cut : LawsBehindPrunes → (known : LineBeingCut) (text : List ℕ) (at from to n : ℕ) (lines : List Line) (line : Line) → IsLineKnown known text → IsSureToCut known text at from to
    → reading_of_single_line line.text ≡ Some line.node → slice_get lines n ≡ Some line → line.text ≡ text → IsDefinitionCut n at lines line (line_without_bytes from to text) (bytes_between from to text)
sure_cut_is_definition_cut laws known text at from to n lines line is sure says here same =
    let o = known_line_owns_as_before known text at from to is sure in
    let makes : line.node ≡ node.Alias o.kind o.others = same_node line.node (node.Alias o.kind o.others) (sym says ∙ ap reading_of_single_line same ∙ o.says) in
    let shown : Line = record { text = text; node = node.Alias o.kind o.others } in
    let line_is : shown ≡ line = λ j. record { text = sym same j; node = sym makes j } in
    let cut : IsLineTextWithItemCutOut among.Definitions (suc o.before) from to line (line_without_bytes from to text) =
    subst (λ (l : Line). IsLineTextWithItemCutOut among.Definitions (suc o.before) from to l (line_without_bytes from to text)) line_is
    (plain_cut_is_definition_cut laws text o.kind o.others o.before from to sure.cut o.words o.begins o.stops o.says) in
    let count : length (extents_of_definitions o.others) ≡ length o.others = length-map o.others (λ (d : Def). (d.start, d.stop)) in
    subst (λ (a : ℕ). IsDefinitionCut n a lines line (line_without_bytes from to text) (bytes_between from to text)) (sym o.at_is)
    (definition_cut_out_is_definition_cut lines n (suc o.before) from to line o.kind o.others (line_without_bytes from to text) (bytes_between from to text) here makes o.inside o.many o.begins o.stops
    (droppable_item_has_its_bytes (suc o.before) from to (extents_of_definitions o.others) (λ a b. lines_with_item_cut_out among.Definitions (suc o.before) a b n line lines)
    (omega (arith, o.inside, count)) (omega (arith, o.many, count)) o.begins o.stops)
    cut (ap (bytes_between from to) (sym same)) (item_cut_out_replaces_line among.Definitions (suc o.before) from to n line lines (line_without_bytes from to text) cut))

-- What is known of the line then.
pub sure_cut_leaves_known_line : LawsBehindPrunes → (known : LineBeingCut) (text : List ℕ) (at from to : ℕ) → IsLineKnown known text → IsSureToCut known text at from to
    → IsLineKnown (record { reading = known.reading; at = at; count = known.count - 1; is_plain = true }) (line_without_bytes from to text)
sure_cut_leaves_known_line laws known text at from to is sure =
    let o = known_line_owns_as_before known text at from to is sure in
    let y = plain_cut_takes_definition_out laws text o.kind o.others o.before from to sure.cut o.words o.begins o.stops o.says in
    let ordered = laws.ascend text o.kind o.others (single_reading_is_reading_of_text text (node.Alias o.kind o.others) (laws.outcome text) o.says) in
    let size : length y.0 + 1 ≡ length o.others = omega (arith, alike_lists_are_as_long (AreDefsAlike from) (remove o.others (suc o.before)) y.0 y.2, length-remove o.others (suc o.before) o.inside) in
    let keeps : (i : ℕ) → i < suc o.before → stop_of_item_at stop_of_def y.0 i ≡ stop_of_item_at stop_of_def o.defs i =
    λ i below.
    let removed : stop_of_item_at stop_of_def (remove o.others (suc o.before)) i ≡ stop_of_item_at stop_of_def o.others i = item_before_removed_ends_as_before stop_of_def o.others (suc o.before) i below in
    let near : stop_of_item_at stop_of_def o.others i ≤ stop_of_item_at stop_of_def o.others o.before =
    (spans_end_no_later_than_later_ones (λ (d : Def). d.start) (λ (d : Def). d.stop) 0 (length text) o.others i o.before ordered.0 (omega (arith, below)) (omega (arith, o.inside))).0 in
    alike_items_end_alike from (AreDefsAlike from) stop_of_def (alike_definitions_end_alike from) (remove o.others (suc o.before)) y.0 i y.2 (omega (arith, removed, near, o.stop)) ∙ removed ∙ o.same i below in
    record {
      kind = o.kind;
      defs = o.defs;
      others = y.0;
      first = o.first;
      says = y.1;
      count_is = omega (arith, size, o.count_is);
      inside = omega (arith, o.room, o.at_is);
      fits = omega (arith, o.fits);
      same = λ i below. keeps i (omega (arith, below, o.at_is));
      fresh = λ e. absurd (omega (arith, e, o.fits, o.room));
      plain = λ e. plain_cut_leaves_plain_line from to text sure.cut;
    }

-- ---- a line that was read

-- What is known of a line of definitions that was read.
pub read_line_is_known : (reading : Node) (kind : Kind) (defs : List Def) (count : ℕ) (text : List ℕ) → reading ≡ node.Alias kind defs → count ≡ length defs → reading_of_single_line text ≡ Some reading
    → IsLineKnown (record { reading = reading; at = count; count = count; is_plain = false }) text
read_line_is_known reading kind defs count text makes size says = record {
  kind = kind;
  defs = defs;
  others = defs;
  first = makes;
  says = says ∙ ap (λ (n : Node). Some n) makes;
  count_is = sym size;
  inside = omega arith;
  fits = omega (arith, size);
  same = λ i below. refl;
  fresh = λ e. refl;
  plain = λ e. absurd (cc);
}

-- A line from which nothing was taken out says what was read.
pub uncut_line_says_its_reading : (known : LineBeingCut) (text : List ℕ) (kind : Kind) (defs : List Def) → IsLineKnown known text → known.reading ≡ node.Alias kind defs → length defs ≡ known.count
    → reading_of_single_line text ≡ Some known.reading
uncut_line_says_its_reading known text kind defs is makes size =
    let same = alias_of_same_node kind is.kind defs is.defs (sym makes ∙ is.first) in
    let others : is.others ≡ is.defs = is.fresh (sym size ∙ ap (λ (ds : List Def). length ds) same.1) in
    is.says ∙ ap (λ (ds : List Def). Some (node.Alias is.kind ds)) others ∙ ap (λ (n : Node). Some n) (sym is.first)
