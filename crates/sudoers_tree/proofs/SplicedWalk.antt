-- A walk over files of which the lines in one place are others: its lines, and the spots at which they stand.
use Rattle.sudoers_tree.proofs.Common.{AreLinesAtSpots, Bool, IsLineAtSpot, Line, List, ParsedFile, Some, WalkLineSpot, [], ap, ap₂, arith, drop, eq-eqb, eqb-true, false, if◌then◌else◌, join, length, lf_count}
use Rattle.sudoers_tree.proofs.Common.{lines_of_numbered_file, list_any, map, mapped_lines_at_spots, mapped_lines_from_number, nat_le, ne_eqb, physical_line_of_file_line, refl, slice_get, slice_get_within}
use Rattle.sudoers_tree.proofs.Common.{spot_of_file_line, subst, suc, sym, take, texts_of_lines, true, true≢false, zero, ℕ, ◌&&◌, ◌++◌, ◌+◌, ◌-◌, ◌<◌, ◌==◌, ◌||◌, ◌∙◌, ◌∷◌, ◌≡◌, ◌≤◌}
use Rattle.sudoers_tree.proofs.Common.{length-take-le, nat_tests}
use Rattle.sudoers_tree.proofs.SplicedLists.{items_before_place_stay, items_up_to_later_place_are_in_place, length_with_items_in_place, lf_count_of_lines_joined, lf_count_with_lines_in_place}
use Rattle.sudoers_tree.specs.declared.moved_lines.LineMove.{LineMove}
use Rattle.sudoers_tree.specs.internal.InPlace.{is_spot_of_line, lines_in_place_of_line, moved_spot, with_items_in_place}
use Rattle.sudoers_tree.specs.internal.MovedSpots.{mapped_line_number, mapped_spots, spots_from_line_number}

-- ---- tests

and_with_second_false_is_false : (a b : Bool) → b ≡ false → (a && b) ≡ false
and_with_second_false_is_false true b is = is
and_with_second_false_is_false false b is = refl

or_false_has_both_false : (a b : Bool) → (a || b) ≡ false → (a ≡ false) × (b ≡ false)
or_false_has_both_false true b is = absurd cc
or_false_has_both_false false b is = (refl, is)

pub tests_of_spot_are_equalities : (f n : ℕ) (at : WalkLineSpot) → is_spot_of_line f n at ≡ true → (at.file ≡ f) × (at.line ≡ n)
tests_of_spot_are_equalities f n at is = by (at.file == f) refl is
  where
    by : (a : Bool) → (at.file == f) ≡ a → (a && (at.line == n)) ≡ true → (at.file ≡ f) × (at.line ≡ n)
    by true e both = (eqb-true at.file f e, eqb-true at.line n both)
    by false e both = absurd cc

-- ---- the lines of a file

-- Lines among which the place is not come of themselves.
lines_elsewhere_come_of_themselves : (f n : ℕ) (news : List Line) (g i : ℕ) (lines : List Line) → ((k : ℕ) → i ≤ k → k < i + length lines → ((g == f) && (k == n)) ≡ false)
    → mapped_lines_from_number (lines_in_place_of_line f n news) g i lines ≡ lines
lines_elsewhere_come_of_themselves f n news g i [] none = refl
lines_elsewhere_come_of_themselves f n news g i (line ∷ lines) none =
    ap (λ b. (if b then news else line ∷ []) ++ mapped_lines_from_number (lines_in_place_of_line f n news) g (i + 1) lines) (none i (omega arith) (omega arith))
    ∙ ap (λ ls. line ∷ ls) (lines_elsewhere_come_of_themselves f n news g (i + 1) lines (λ k low high. none k (omega (arith, low)) (omega (arith, high))))

pub lines_of_other_file_come_of_themselves : (f n : ℕ) (news : List Line) (g i : ℕ) (lines : List Line) → (g == f) ≡ false → mapped_lines_from_number (lines_in_place_of_line f n news) g i lines ≡ lines
lines_of_other_file_come_of_themselves f n news g i lines other = lines_elsewhere_come_of_themselves f n news g i lines (λ k low high. ap (λ b. b && (k == n)) other)

-- Lines among which the place is.
lines_come_in_place : (f n : ℕ) (news : List Line) (i j : ℕ) (lines : List Line) → n ≡ i + j → j < length lines
    → mapped_lines_from_number (lines_in_place_of_line f n news) f i lines ≡ with_items_in_place j news lines
lines_come_in_place f n news i j [] at less = absurd (omega (arith, less))
lines_come_in_place f n news i zero (line ∷ lines) at less =
    let here : ((f == f) && (i == n)) ≡ true = ap₂ (λ a b. a && b) (eq-eqb f f refl) (eq-eqb i n (omega (arith, at))) in
    ap (λ b. (if b then news else line ∷ []) ++ mapped_lines_from_number (lines_in_place_of_line f n news) f (i + 1) lines) here
    ∙ ap (λ ls. news ++ ls) (lines_elsewhere_come_of_themselves f n news f (i + 1) lines (λ k low high. and_with_second_false_is_false (f == f) (k == n) (ne_eqb k n (λ is. omega (arith, is, low, at)))))
lines_come_in_place f n news i (suc j) (line ∷ lines) at less =
    ap (λ b. (if b then news else line ∷ []) ++ mapped_lines_from_number (lines_in_place_of_line f n news) f (i + 1) lines)
    (and_with_second_false_is_false (f == f) (i == n) (ne_eqb i n (λ is. omega (arith, is, at))))
    ∙ ap (λ ls. line ∷ ls) (lines_come_in_place f n news (i + 1) j lines (omega (arith, at)) (omega (arith, less)))

pub lines_of_file_come_in_place : (f n : ℕ) (news lines : List Line) → n < length lines → mapped_lines_from_number (lines_in_place_of_line f n news) f 0 lines ≡ with_items_in_place n news lines
lines_of_file_come_in_place f n news lines less = lines_come_in_place f n news 0 n lines (omega arith) less

-- ---- the numbers of lines

module _ (files : List ParsedFile) (f n : ℕ) (news : List Line) (old : Line) (at_place : slice_get (lines_of_numbered_file files f) n ≡ Some old) where
  number_in_other_file_stays : (g k : ℕ) → (g == f) ≡ false → k ≤ length (lines_of_numbered_file files g) → mapped_line_number (lines_in_place_of_line f n news) files g k ≡ k
  number_in_other_file_stays g k other le =
      ap length (lines_of_other_file_come_of_themselves f n news g 0 (take k (lines_of_numbered_file files g)) other) ∙ length-take-le k (lines_of_numbered_file files g) le

  number_up_to_place_stays : (k : ℕ) → k ≤ n → k ≤ length (lines_of_numbered_file files f) → mapped_line_number (lines_in_place_of_line f n news) files f k ≡ k
  number_up_to_place_stays k le fits =
      let count : length (take k (lines_of_numbered_file files f)) ≡ k = length-take-le k (lines_of_numbered_file files f) fits in
      ap length (lines_elsewhere_come_of_themselves f n news f 0 (take k (lines_of_numbered_file files f)) (λ i low high. and_with_second_false_is_false (f == f) (i == n) (ne_eqb i n (λ is. omega (arith, is, high, count, le)))))
      ∙ count

  number_behind_place_moves : (k : ℕ) → n < k → k ≤ length (lines_of_numbered_file files f) → mapped_line_number (lines_in_place_of_line f n news) files f k + 1 ≡ k + length news
  number_behind_place_moves k less fits =
      let front : List Line = take k (lines_of_numbered_file files f) in
      let count : length front ≡ k = length-take-le k (lines_of_numbered_file files f) fits in
      let within : n < length front = omega (arith, count, less) in
      omega (arith, ap length (lines_of_file_come_in_place f n news front within), length_with_items_in_place n news front within, count)

-- ---- physical lines

item_of_longer_front : {X : Type 0} (xs : List X) (n k : ℕ) (x : X) → n < k → slice_get xs n ≡ Some x → slice_get (take k xs) n ≡ Some x
item_of_longer_front [] n k x less is = absurd cc
item_of_longer_front (y ∷ xs) n zero x less is = absurd (omega (arith, less))
item_of_longer_front (y ∷ xs) zero (suc k) x less is = is
item_of_longer_front (y ∷ xs) (suc n) (suc k) x less is = item_of_longer_front xs n k x (omega (arith, less)) is

pub physical_line_up_to_place_stays : (lines news : List Line) (n k : ℕ) → k ≤ n → n < length lines → physical_line_of_file_line (with_items_in_place n news lines) k ≡ physical_line_of_file_line lines k
physical_line_up_to_place_stays lines news n k le less = ap (λ ls. lf_count (join (texts_of_lines ls)) + 1) (items_before_place_stay k n news lines le less)

physical_line_behind_place_moves : (lines news : List Line) (old : Line) (n k m : ℕ) → slice_get lines n ≡ Some old → n < k → k ≤ length lines → m + 1 ≡ k + length news
    → physical_line_of_file_line (with_items_in_place n news lines) m + lf_count_of_lines_joined (old ∷ []) ≡ physical_line_of_file_line lines k + lf_count_of_lines_joined news
physical_line_behind_place_moves lines news old n k m at less fits is =
    omega (
      arith,
      ap lf_count_of_lines_joined (items_up_to_later_place_are_in_place k m n news lines less fits is),
      lf_count_with_lines_in_place n news (take k lines) old (item_of_longer_front lines n k old less at),
    )

-- ---- a spot elsewhere

-- How many lines, and how many line feeds, there are more or less behind the place.
pub record MovesLinesBehind (news : List Line) (old : Line) (n from : ℕ) (by : LineMove) : Type 0 where
  pub low : n ≤ from
  pub high : from ≤ n + 1
  pub count : length news + by.down ≡ 1 + by.up
  pub feeds : lf_count_of_lines_joined news + by.less ≡ lf_count_of_lines_joined (old ∷ []) + by.more

spot_record_is : (others : List ParsedFile) (g k row file line : ℕ) → g ≡ file → k ≡ line → physical_line_of_file_line (lines_of_numbered_file others g) k ≡ row
    → spot_of_file_line others g k ≡ record { file = file; line = line; row = row }
spot_record_is others g k row file line same_file same_line is =
    ap (λ r. let at : WalkLineSpot = record { file = g; line = k; row = r } in at) is
    ∙ ap₂ (λ h l. let at : WalkLineSpot = record { file = h; line = l; row = row } in at) same_file same_line

module _ (files others : List ParsedFile) (f n : ℕ) (news : List Line) (old : Line) (from : ℕ) (move : LineMove) (moves : MovesLinesBehind news old n from move)
    (at_place : slice_get (lines_of_numbered_file files f) n ≡ Some old)
    (changed : lines_of_numbered_file others f ≡ with_items_in_place n news (lines_of_numbered_file files f))
    (same : (g : ℕ) → (g == f) ≡ false → lines_of_numbered_file others g ≡ lines_of_numbered_file files g) where
  within : n < length (lines_of_numbered_file files f)
  within = slice_get_within (lines_of_numbered_file files f) n old at_place

  abbrev number : ℕ → ℕ → ℕ
  number g k = mapped_line_number (lines_in_place_of_line f n news) files g k

  in_other_file : (g k row : ℕ) → (g == f) ≡ false → k ≤ length (lines_of_numbered_file files g) → row ≡ physical_line_of_file_line (lines_of_numbered_file files g) k
      → spot_of_file_line others g (number g k) ≡ record { file = g; line = k; row = row }
  in_other_file g k row other le is =
      spot_record_is others g (number g k) row g k refl (number_in_other_file_stays files f n news old at_place g k other le)
      (ap₂ (λ ls j. physical_line_of_file_line ls j) (same g other) (number_in_other_file_stays files f n news old at_place g k other le) ∙ sym is)

  before_place : (k row : ℕ) → k ≤ n → row ≡ physical_line_of_file_line (lines_of_numbered_file files f) k
      → spot_of_file_line others f (number f k) ≡ record { file = f; line = k; row = row }
  before_place k row le is =
      let stays : number f k ≡ k = number_up_to_place_stays files f n news old at_place k le (omega (arith, le, within)) in
      spot_record_is others f (number f k) row f k refl stays
      (ap₂ (λ ls j. physical_line_of_file_line ls j) changed stays ∙ physical_line_up_to_place_stays (lines_of_numbered_file files f) news n k le within ∙ sym is)

  behind_place : (k row : ℕ) → n < k → k ≤ length (lines_of_numbered_file files f) → row ≡ physical_line_of_file_line (lines_of_numbered_file files f) k
      → spot_of_file_line others f (number f k) ≡ record { file = f; line = k + move.up - move.down; row = row + move.more - move.less }
  behind_place k row after fits is =
      let moved : number f k + 1 ≡ k + length news = number_behind_place_moves files f n news old at_place k after fits in
      spot_record_is others f (number f k) (row + move.more - move.less) f (k + move.up - move.down) refl (omega (arith, moved, moves.count))
      (ap (λ ls. physical_line_of_file_line ls (number f k)) changed
      ∙ omega (arith, physical_line_behind_place_moves (lines_of_numbered_file files f) news old n k (number f k) at_place after fits moved, moves.feeds, is))

  pub spot_elsewhere_moves : (at : WalkLineSpot) (line : Line) → IsLineAtSpot files at line → is_spot_of_line f n at ≡ false
      → spot_of_file_line others at.file (number at.file at.line) ≡ moved_spot f from move at
  spot_elsewhere_moves at line stands apart = by_file (at.file == f) refl
    where
      inside : at.line < length (lines_of_numbered_file files at.file)
      inside = slice_get_within (lines_of_numbered_file files at.file) at.line line stands.is_line

      row_is : at.row ≡ physical_line_of_file_line (lines_of_numbered_file files at.file) at.line
      row_is = ap (λ (s : WalkLineSpot). s.row) stands.is_spot

      moved : Bool → Bool → WalkLineSpot
      moved a b = if a && b then record { file = at.file; line = at.line + move.up - move.down; row = at.row + move.more - move.less } else at

      by_line : (at.file ≡ f) → (b : Bool) → nat_le from at.line ≡ b → (c : Bool) → (at.line == n) ≡ c → spot_of_file_line others at.file (number at.file at.line) ≡ moved true b
      by_line is b e true here =
          absurd (true≢false (sym (ap₂ (λ x y. x && y) (eq-eqb at.file f is) here) ∙ apart))
      by_line is true e false here =
          let reached : from ≤ at.line = grind (arith, nat_tests, e) in
          let other : at.line ≡ n → ⊥ = λ same_line. grind (arith, nat_tests, here, same_line) in
          let after : n < at.line = omega (arith, reached, moves.low, other) in
          let fits : at.line ≤ length (lines_of_numbered_file files f) = subst (λ g. at.line ≤ length (lines_of_numbered_file files g)) is (omega (arith, inside)) in
          subst (λ g. spot_of_file_line others g (number g at.line) ≡ record { file = g; line = at.line + move.up - move.down; row = at.row + move.more - move.less }) (sym is)
          (behind_place at.line at.row after fits (row_is ∙ ap (λ g. physical_line_of_file_line (lines_of_numbered_file files g) at.line) is))
      by_line is false e false here =
          let early : at.line < from = grind (arith, nat_tests, e) in
          let other : at.line ≡ n → ⊥ = λ same_line. grind (arith, nat_tests, here, same_line) in
          subst (λ g. spot_of_file_line others g (number g at.line) ≡ record { file = g; line = at.line; row = at.row }) (sym is)
          (before_place at.line at.row (omega (arith, early, moves.high)) (row_is ∙ ap (λ g. physical_line_of_file_line (lines_of_numbered_file files g) at.line) is))

      by_file : (a : Bool) → (at.file == f) ≡ a → spot_of_file_line others at.file (number at.file at.line) ≡ moved (at.file == f) (nat_le from at.line)
      by_file false other =
          in_other_file at.file at.line at.row other (omega (arith, inside)) row_is ∙ ap (λ a. moved a (nat_le from at.line)) (sym other)
      by_file true is =
          by_line (eqb-true at.file f is) (nat_le from at.line) refl (at.line == n) refl ∙ ap (λ a. moved a (nat_le from at.line)) (sym is)

  -- ---- all spots

  spots_elsewhere_move : (spots : List WalkLineSpot) (lines : List Line) → AreLinesAtSpots files spots lines → list_any (is_spot_of_line f n) spots ≡ false
      → mapped_spots (lines_in_place_of_line f n news) files others spots lines ≡ map (moved_spot f from move) spots
  spots_elsewhere_move [] [] stand none = refl
  spots_elsewhere_move [] (line ∷ lines) stand none = absurd stand
  spots_elsewhere_move (at ∷ spots) [] stand none = absurd stand
  spots_elsewhere_move (at ∷ spots) (line ∷ lines) stand none =
      let both = or_false_has_both_false (is_spot_of_line f n at) (list_any (is_spot_of_line f n) spots) none in
      ap (λ b. spots_from_line_number others at.file (number at.file at.line) (if b then news else line ∷ []) ++ mapped_spots (lines_in_place_of_line f n news) files others spots lines) both.0
      ∙ ap₂ (λ s ss. s ∷ ss) (spot_elsewhere_moves at line stand.0 both.0) (spots_elsewhere_move spots lines stand.1 both.1)

  pub spots_move_around_place : (p : ℕ) (spots : List WalkLineSpot) (lines : List Line) (here : WalkLineSpot) → AreLinesAtSpots files spots lines
      → list_any (is_spot_of_line f n) (take p spots) ≡ false → slice_get spots p ≡ Some here → is_spot_of_line f n here ≡ true → list_any (is_spot_of_line f n) (drop (suc p) spots) ≡ false
      → mapped_spots (lines_in_place_of_line f n news) files others spots lines
      ≡ with_items_in_place p (spots_from_line_number others here.file (number here.file here.line) news) (map (moved_spot f from move) spots)
  spots_move_around_place p [] lines here stand before there is after = absurd cc
  spots_move_around_place p (at ∷ spots) [] here stand before there is after = absurd stand
  spots_move_around_place zero (at ∷ spots) (line ∷ lines) here stand before there is after =
      let same_spot : at ≡ here = cc in
      ap (λ b. spots_from_line_number others at.file (number at.file at.line) (if b then news else line ∷ []) ++ mapped_spots (lines_in_place_of_line f n news) files others spots lines)
      (ap (is_spot_of_line f n) same_spot ∙ is)
      ∙ ap₂ (λ (s : WalkLineSpot) ss. spots_from_line_number others s.file (number s.file s.line) news ++ ss) same_spot (spots_elsewhere_move spots lines stand.1 after)
  spots_move_around_place (suc p) (at ∷ spots) (line ∷ lines) here stand before there is after =
      let both = or_false_has_both_false (is_spot_of_line f n at) (list_any (is_spot_of_line f n) (take p spots)) before in
      ap (λ b. spots_from_line_number others at.file (number at.file at.line) (if b then news else line ∷ []) ++ mapped_spots (lines_in_place_of_line f n news) files others spots lines) both.0
      ∙ ap₂ (λ s ss. s ∷ ss) (spot_elsewhere_moves at line stand.0 both.0) (spots_move_around_place p spots lines here stand.1 both.1 there is after)

-- The lines in the place stand where its line stood, and behind it.
pub place_is_at_its_spot : (files others : List ParsedFile) (f n : ℕ) (news : List Line) (old : Line) → slice_get (lines_of_numbered_file files f) n ≡ Some old → (here : WalkLineSpot) → is_spot_of_line f n here ≡ true
    → spots_from_line_number others here.file (mapped_line_number (lines_in_place_of_line f n news) files here.file here.line) news ≡ spots_from_line_number others f n news
place_is_at_its_spot files others f n news old at here is =
    let places = tests_of_spot_are_equalities f n here is in
    let less : n < length (lines_of_numbered_file files f) = slice_get_within (lines_of_numbered_file files f) n old at in
    ap₂ (λ g k. spots_from_line_number others g (mapped_line_number (lines_in_place_of_line f n news) files g k) news) places.0 places.1
    ∙ ap (λ m. spots_from_line_number others f m news) (number_up_to_place_stays files f n news old at n (omega arith) (omega (arith, less)))

-- ---- the lines of the walk

lines_elsewhere_stay_on_walk : (f n : ℕ) (news : List Line) (spots : List WalkLineSpot) (lines : List Line) → length spots ≡ length lines → list_any (is_spot_of_line f n) spots ≡ false
    → mapped_lines_at_spots (lines_in_place_of_line f n news) spots lines ≡ lines
lines_elsewhere_stay_on_walk f n news [] [] paired none = refl
lines_elsewhere_stay_on_walk f n news [] (line ∷ lines) paired none = absurd (omega (arith, paired))
lines_elsewhere_stay_on_walk f n news (at ∷ spots) [] paired none = absurd (omega (arith, paired))
lines_elsewhere_stay_on_walk f n news (at ∷ spots) (line ∷ lines) paired none =
    let both = or_false_has_both_false (is_spot_of_line f n at) (list_any (is_spot_of_line f n) spots) none in
    ap (λ b. (if b then news else line ∷ []) ++ mapped_lines_at_spots (lines_in_place_of_line f n news) spots lines) both.0
    ∙ ap (λ ls. line ∷ ls) (lines_elsewhere_stay_on_walk f n news spots lines (omega (arith, paired)) both.1)

pub lines_change_in_place_on_walk : (f n : ℕ) (news : List Line) (p : ℕ) (spots : List WalkLineSpot) (lines : List Line) (here : WalkLineSpot) → length spots ≡ length lines
    → list_any (is_spot_of_line f n) (take p spots) ≡ false → slice_get spots p ≡ Some here → is_spot_of_line f n here ≡ true → list_any (is_spot_of_line f n) (drop (suc p) spots) ≡ false
    → mapped_lines_at_spots (lines_in_place_of_line f n news) spots lines ≡ with_items_in_place p news lines
lines_change_in_place_on_walk f n news p [] lines here paired before there is after = absurd cc
lines_change_in_place_on_walk f n news p (at ∷ spots) [] here paired before there is after = absurd (omega (arith, paired))
lines_change_in_place_on_walk f n news zero (at ∷ spots) (line ∷ lines) here paired before there is after =
    let same_spot : at ≡ here = cc in
    ap (λ b. (if b then news else line ∷ []) ++ mapped_lines_at_spots (lines_in_place_of_line f n news) spots lines) (ap (is_spot_of_line f n) same_spot ∙ is)
    ∙ ap (λ ls. news ++ ls) (lines_elsewhere_stay_on_walk f n news spots lines (omega (arith, paired)) after)
lines_change_in_place_on_walk f n news (suc p) (at ∷ spots) (line ∷ lines) here paired before there is after =
    let both = or_false_has_both_false (is_spot_of_line f n at) (list_any (is_spot_of_line f n) (take p spots)) before in
    ap (λ b. (if b then news else line ∷ []) ++ mapped_lines_at_spots (lines_in_place_of_line f n news) spots lines) both.0
    ∙ ap (λ ls. line ∷ ls) (lines_change_in_place_on_walk f n news p spots lines here (omega (arith, paired)) both.1 there is after)
