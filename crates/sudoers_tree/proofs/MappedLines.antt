-- Walks over files of which lines were changed: what a walk appends, and a walk that follows another.
use Rattle.sudoers_tree.proofs.Common.{Bool, Err, InFile, Line, LineToLinesMapping, List, LoadFault, None, Ok, Option, PlacedDefinition, ReadFault, Result, Some, WalkLineSpot, WalkState, [], ap, append-nil, append_assoc}
use Rattle.sudoers_tree.proofs.Common.{ap₂, arith, definitions_from_line_number, definitions_in_line, definitions_of_lines, eq-eqb, false, first_definition_fault, first_of_two_faults, is_file_on_walk, length}
use Rattle.sudoers_tree.proofs.Common.{length-append, length_push, list_any, list_any-append, load_result_and_then, mapped_lines_at_spots, nat_eq, refl, subst, sym, true, value_unless_file_fault}
use Rattle.sudoers_tree.proofs.Common.{walk_with_file_entered, walk_with_line_appended, ℕ, ◌++◌, ◌+◌, ◌||◌, ◌∙◌, ◌∷◌, ◌≡◌}
use Rattle.sudoers_tree.proofs.Common.{ParsedFile}
use Rattle.sudoers_tree.specs.internal.MovedSpots.{mapped_line_number, mapped_spots, spots_from_line_number}
use Rattle.sudoers_tree.proofs.Joined.{definitions_of_appended_lines_are_appended, definitions_with_last_line_are_appended}
use Rattle.sudoers_tree.proofs.Passed.{faultless_line_keeps_walk_faultless}
use Rattle.sudoers_tree.proofs.Sound.{first_fault_of_append_is_of_first_or_rest}

abbrev pub WalkResult : Type 0
WalkResult = Result WalkState LoadFault

-- The lines that come of lines and of more lines are those that come of each.
mapped_lines_of_appended_lines_are_appended : (g : LineToLinesMapping) (spots more : List WalkLineSpot) (lines others : List Line) → length spots ≡ length lines
    → mapped_lines_at_spots g (spots ++ more) (lines ++ others) ≡ mapped_lines_at_spots g spots lines ++ mapped_lines_at_spots g more others
mapped_lines_of_appended_lines_are_appended g [] more [] others paired = refl
mapped_lines_of_appended_lines_are_appended g [] more (line ∷ lines) others paired = absurd (omega (arith, paired))
mapped_lines_of_appended_lines_are_appended g (at ∷ spots) more [] others paired = absurd (omega (arith, paired))
mapped_lines_of_appended_lines_are_appended g (at ∷ spots) more (line ∷ lines) others paired =
    ap (λ ls. g at.file at.line line ++ ls) (mapped_lines_of_appended_lines_are_appended g spots more lines others (omega (arith, paired)))
    ∙ sym (append_assoc (g at.file at.line line) (mapped_lines_at_spots g spots lines) (mapped_lines_at_spots g more others))

mapped_lines_with_last_line_are_appended : (g : LineToLinesMapping) (spots : List WalkLineSpot) (at : WalkLineSpot) (lines : List Line) (line : Line) → length spots ≡ length lines
    → mapped_lines_at_spots g (spots ++ at ∷ []) (lines ++ line ∷ []) ≡ mapped_lines_at_spots g spots lines ++ g at.file at.line line
mapped_lines_with_last_line_are_appended g spots at lines line paired =
    mapped_lines_of_appended_lines_are_appended g spots (at ∷ []) lines (line ∷ []) paired
    ∙ ap (λ ls. mapped_lines_at_spots g spots lines ++ ls) (append-nil (g at.file at.line line))

mapped_spots_of_appended_lines_are_appended : (g : LineToLinesMapping) (files others : List ParsedFile) (spots more : List WalkLineSpot) (lines behind : List Line) → length spots ≡ length lines
    → mapped_spots g files others (spots ++ more) (lines ++ behind) ≡ mapped_spots g files others spots lines ++ mapped_spots g files others more behind
mapped_spots_of_appended_lines_are_appended g files others [] more [] behind paired = refl
mapped_spots_of_appended_lines_are_appended g files others [] more (line ∷ lines) behind paired = absurd (omega (arith, paired))
mapped_spots_of_appended_lines_are_appended g files others (at ∷ spots) more [] behind paired = absurd (omega (arith, paired))
mapped_spots_of_appended_lines_are_appended g files others (at ∷ spots) more (line ∷ lines) behind paired =
    let here : List WalkLineSpot = spots_from_line_number others at.file (mapped_line_number g files at.file at.line) (g at.file at.line line) in
    ap (λ ls. here ++ ls) (mapped_spots_of_appended_lines_are_appended g files others spots more lines behind (omega (arith, paired)))
    ∙ sym (append_assoc here (mapped_spots g files others spots lines) (mapped_spots g files others more behind))

mapped_spots_with_last_line_are_appended : (g : LineToLinesMapping) (files others : List ParsedFile) (spots : List WalkLineSpot) (at : WalkLineSpot) (lines : List Line) (line : Line) → length spots ≡ length lines
    → mapped_spots g files others (spots ++ at ∷ []) (lines ++ line ∷ [])
    ≡ mapped_spots g files others spots lines ++ spots_from_line_number others at.file (mapped_line_number g files at.file at.line) (g at.file at.line line)
mapped_spots_with_last_line_are_appended g files others spots at lines line paired =
    mapped_spots_of_appended_lines_are_appended g files others spots (at ∷ []) lines (line ∷ []) paired
    ∙ ap (λ ls. mapped_spots g files others spots lines ++ ls) (append-nil (spots_from_line_number others at.file (mapped_line_number g files at.file at.line) (g at.file at.line line)))

-- ---- what a walk appends

-- The walk `now` is w with lines, the spot of each, and files appended.
pub record IsExtendedWalk (w now : WalkState) : Type 0 where
  pub lines : List Line
  pub spots : List WalkLineSpot
  pub on : List ℕ
  pub paired : length spots ≡ length lines
  pub lines_are : w.lines ++ lines ≡ now.lines
  pub spots_are : w.spots ++ spots ≡ now.spots
  pub on_are : w.on ++ on ≡ now.on

pub walk_extends_itself : (w : WalkState) → IsExtendedWalk w w
walk_extends_itself w = record {
  lines = [];
  spots = [];
  on = [];
  paired = refl;
  lines_are = append-nil w.lines;
  spots_are = append-nil w.spots;
  on_are = append-nil w.on;
}

appending_twice_is_appending_both : {A : Type 0} (xs ys zs within now : List A) → xs ++ ys ≡ within → within ++ zs ≡ now → xs ++ (ys ++ zs) ≡ now
appending_twice_is_appending_both xs ys zs within now first later = sym (append_assoc xs ys zs) ∙ ap (λ ws. ws ++ zs) first ∙ later

pub walk_extension_is_transitive : (w within now : WalkState) → IsExtendedWalk w within → IsExtendedWalk within now → IsExtendedWalk w now
walk_extension_is_transitive w within now first later = record {
  lines = first.lines ++ later.lines;
  spots = first.spots ++ later.spots;
  on = first.on ++ later.on;
  paired = omega (arith, first.paired, later.paired, length-append first.spots later.spots, length-append first.lines later.lines);
  lines_are = appending_twice_is_appending_both w.lines first.lines later.lines within.lines now.lines first.lines_are later.lines_are;
  spots_are = appending_twice_is_appending_both w.spots first.spots later.spots within.spots now.spots first.spots_are later.spots_are;
  on_are = appending_twice_is_appending_both w.on first.on later.on within.on now.on first.on_are later.on_are;
}

pub entering_file_extends_walk : (f : ℕ) (w : WalkState) → IsExtendedWalk w (walk_with_file_entered f w)
entering_file_extends_walk f w = record {
  lines = [];
  spots = [];
  on = f ∷ [];
  paired = refl;
  lines_are = append-nil w.lines;
  spots_are = append-nil w.spots;
  on_are = refl;
}

or_with_second_true_is_true : (a b : Bool) → b ≡ true → (a || b) ≡ true
or_with_second_true_is_true true b is = refl
or_with_second_true_is_true false b is = is

pub entered_file_is_on_walk : (f : ℕ) (w : WalkState) → is_file_on_walk (walk_with_file_entered f w) f ≡ true
entered_file_is_on_walk f w =
    list_any-append (nat_eq f) w.on (f ∷ [])
    ∙ or_with_second_true_is_true (list_any (nat_eq f) w.on) (list_any (nat_eq f) (f ∷ [])) (ap (λ b. b || false) (eq-eqb f f refl))

-- What is on a walk stays on it.
pub extended_walk_keeps_files_on_it : (f : ℕ) (w now : WalkState) → IsExtendedWalk w now → is_file_on_walk w f ≡ true → is_file_on_walk now f ≡ true
extended_walk_keeps_files_on_it f w now more on =
    ap (list_any (nat_eq f)) (sym more.on_are)
    ∙ list_any-append (nat_eq f) w.on more.on
    ∙ ap (λ b. b || list_any (nat_eq f) more.on) on

-- ---- a walk that follows another

-- The lines of the walk v are those that come of the lines of the walk w, and no name that they define has a fault. The walk v has passed
-- the same files, and its lines stand at the spots to which those of w moved.
pub record IsWalkFollowedByMappedWalk (files others : List ParsedFile) (g : LineToLinesMapping) (v w : WalkState) : Type 0 where
  pub paired : length w.spots ≡ length w.lines
  pub lines : v.lines ≡ mapped_lines_at_spots g w.spots w.lines
  pub spots : v.spots ≡ mapped_spots g files others w.spots w.lines
  pub on : v.on ≡ w.on
  pub stand : first_definition_fault [] (definitions_of_lines v.lines) ≡ None

pub entering_file_keeps_mapped_walk_following : (files others : List ParsedFile) (g : LineToLinesMapping) (f : ℕ) (v w : WalkState) → IsWalkFollowedByMappedWalk files others g v w → IsWalkFollowedByMappedWalk files others g (walk_with_file_entered f v) (walk_with_file_entered f w)
entering_file_keeps_mapped_walk_following files others g f v w is = record { paired = is.paired; lines = is.lines; spots = is.spots; on = ap (λ on. on ++ f ∷ []) is.on; stand = is.stand }

-- the walk with this line at this spot appended
abbrev pub walk_with_line_at_spot : WalkLineSpot → Line → WalkState → WalkState
walk_with_line_at_spot at line w = record { lines = w.lines ++ line ∷ []; spots = w.spots ++ at ∷ []; on = w.on }

pub appending_line_extends_walk : (at : WalkLineSpot) (line : Line) (w : WalkState) → IsExtendedWalk w (walk_with_line_at_spot at line w)
appending_line_extends_walk at line w = record {
  lines = line ∷ [];
  spots = at ∷ [];
  on = [];
  paired = refl;
  lines_are = refl;
  spots_are = refl;
  on_are = append-nil w.on;
}

mapped_lines_after_line_are_appended : (files others : List ParsedFile) (g : LineToLinesMapping) (at : WalkLineSpot) (line : Line) (v w : WalkState) → IsWalkFollowedByMappedWalk files others g v w
    → v.lines ++ g at.file at.line line ≡ mapped_lines_at_spots g (w.spots ++ at ∷ []) (w.lines ++ line ∷ [])
mapped_lines_after_line_are_appended files others g at line v w is =
    ap (λ ls. ls ++ g at.file at.line line) is.lines ∙ sym (mapped_lines_with_last_line_are_appended g w.spots at w.lines line is.paired)

-- One walk has passed a line, and the other the lines that come of it.
pub mapped_walk_follows_after_line : (files others : List ParsedFile) (g : LineToLinesMapping) (at : WalkLineSpot) (line : Line) (v last w : WalkState) → IsWalkFollowedByMappedWalk files others g v w → last.lines ≡ v.lines ++ g at.file at.line line
    → last.spots ≡ v.spots ++ spots_from_line_number others at.file (mapped_line_number g files at.file at.line) (g at.file at.line line)
    → last.on ≡ v.on → first_definition_fault [] (definitions_of_lines last.lines) ≡ None → IsWalkFollowedByMappedWalk files others g last (walk_with_line_at_spot at line w)
mapped_walk_follows_after_line files others g at line v last w is lines spots on stand = record {
  paired = omega (arith, is.paired, length_push w.spots at, length_push w.lines line);
  lines = lines ∙ mapped_lines_after_line_are_appended files others g at line v w is;
  spots =
      spots ∙ ap (λ ss. ss ++ spots_from_line_number others at.file (mapped_line_number g files at.file at.line) (g at.file at.line line)) is.spots
      ∙ sym (mapped_spots_with_last_line_are_appended g files others w.spots at w.lines line is.paired);
  on = on ∙ is.on;
  stand = stand;
}

-- ---- the fault of a name

-- this is the first fault of a name that the lines define which come of those of the whole walk
abbrev pub IsFirstNameFaultOfMappedWalk : LineToLinesMapping → WalkState → ReadFault → Type 0
IsFirstNameFaultOfMappedWalk g total fault = first_definition_fault [] (definitions_of_lines (mapped_lines_at_spots g total.spots total.lines)) ≡ Some fault

-- A fault among the first lines is the first of all.
pub name_fault_of_first_lines_is_first_of_all : (lines others : List Line) (fault : ReadFault) → first_definition_fault [] (definitions_of_lines lines) ≡ Some fault
    → first_definition_fault [] (definitions_of_lines (lines ++ others)) ≡ Some fault
name_fault_of_first_lines_is_first_of_all lines others fault is =
    let behind : List PlacedDefinition = definitions_from_line_number (0 + length lines) others in
    ap (first_definition_fault []) (definitions_of_appended_lines_are_appended 0 lines others)
    ∙ first_fault_of_append_is_of_first_or_rest [] (definitions_of_lines lines) behind
    ∙ ap (λ o. first_of_two_faults o (first_definition_fault (definitions_of_lines lines) behind)) is

-- So is one in the lines that come of a line on the walk.
pub name_fault_in_mapped_lines_is_first_of_walk : (files others : List ParsedFile) (g : LineToLinesMapping) (at : WalkLineSpot) (line : Line) (v w total : WalkState) → IsWalkFollowedByMappedWalk files others g v w → IsExtendedWalk (walk_with_line_at_spot at line w) total
    → (fault : ReadFault) → first_definition_fault [] (definitions_of_lines (v.lines ++ g at.file at.line line)) ≡ Some fault → IsFirstNameFaultOfMappedWalk g total fault
name_fault_in_mapped_lines_is_first_of_walk files others g at line v w total follows more fault is =
    let passed : WalkState = walk_with_line_at_spot at line w in
    let paired : length passed.spots ≡ length passed.lines =
    omega (arith, follows.paired, length_push w.spots at, length_push w.lines line) in
    let whole : mapped_lines_at_spots g passed.spots passed.lines ++ mapped_lines_at_spots g more.spots more.lines ≡ mapped_lines_at_spots g total.spots total.lines =
    sym (mapped_lines_of_appended_lines_are_appended g passed.spots more.spots passed.lines more.lines paired) ∙ ap₂ (mapped_lines_at_spots g) more.spots_are more.lines_are in
    let front : first_definition_fault [] (definitions_of_lines (mapped_lines_at_spots g passed.spots passed.lines)) ≡ Some fault =
    ap (λ ls. first_definition_fault [] (definitions_of_lines ls)) (sym (mapped_lines_after_line_are_appended files others g at line v w follows)) ∙ is in
    ap (λ ls. first_definition_fault [] (definitions_of_lines ls)) (sym whole)
    ∙ name_fault_of_first_lines_is_first_of_all (mapped_lines_at_spots g passed.spots passed.lines) (mapped_lines_at_spots g more.spots more.lines) fault front

-- ---- one part of a walk after another

-- The outcome is the first fault of a name in the lines that come of those of the whole walk.
pub record IsOutcomeWithFirstNameFault (g : LineToLinesMapping) (total : WalkState) (outcome : WalkResult) : Type 0 where
  pub name : List ℕ
  pub fault : ReadFault
  pub is : outcome ≡ Err (InFile name fault)
  pub first : IsFirstNameFaultOfMappedWalk g total fault

-- The outcome is a walk that follows this one, unless a name has a fault.
pub data ArrivesAtFollowingWalkOrNameFault (files others : List ParsedFile) (g : LineToLinesMapping) (total now : WalkState) (outcome : WalkResult) : Type 0 where
  arrived : (last : WalkState) → outcome ≡ Ok last → IsWalkFollowedByMappedWalk files others g last now → ArrivesAtFollowingWalkOrNameFault files others g total now outcome
  faulty : IsOutcomeWithFirstNameFault g total outcome → ArrivesAtFollowingWalkOrNameFault files others g total now outcome

-- One part of a walk goes from w to `now`. The other walk goes along: from a walk that follows w it arrives at one that follows `now`, if
-- the whole walk has both parts.
pub record MappedWalkGoesAlongPart (files others : List ParsedFile) (g : LineToLinesMapping) (total w now : WalkState) (go : WalkState → WalkResult) : Type 0 where
  pub more : IsExtendedWalk w now
  pub arrives : (v : WalkState) → IsWalkFollowedByMappedWalk files others g v w → IsExtendedWalk now total → ArrivesAtFollowingWalkOrNameFault files others g total now (go v)

-- The other walk goes on where it arrives.
pub mapped_walk_goes_on_where_it_arrives : (files others : List ParsedFile) (g : LineToLinesMapping) (total within now : WalkState) (outcome : WalkResult) (later : WalkState → WalkResult) → ArrivesAtFollowingWalkOrNameFault files others g total within outcome
    → ((last : WalkState) → IsWalkFollowedByMappedWalk files others g last within → ArrivesAtFollowingWalkOrNameFault files others g total now (later last)) → ArrivesAtFollowingWalkOrNameFault files others g total now (load_result_and_then outcome later)
mapped_walk_goes_on_where_it_arrives files others g total within now outcome later (arrived last is follows) next =
    subst (ArrivesAtFollowingWalkOrNameFault files others g total now) (ap (λ r. load_result_and_then r later) (sym is)) (next last follows)
mapped_walk_goes_on_where_it_arrives files others g total within now outcome later (faulty wrong) next =
    faulty (record { name = wrong.name; fault = wrong.fault; is = ap (λ r. load_result_and_then r later) wrong.is; first = wrong.first })

pub mapped_walk_goes_along_two_parts : (files others : List ParsedFile) (g : LineToLinesMapping) (total w within now : WalkState) (first later : WalkState → WalkResult) → MappedWalkGoesAlongPart files others g total w within first
    → MappedWalkGoesAlongPart files others g total within now later → MappedWalkGoesAlongPart files others g total w now (λ v. load_result_and_then (first v) later)
mapped_walk_goes_along_two_parts files others g total w within now first later one two = record {
  more = walk_extension_is_transitive w within now one.more two.more;
  arrives = λ v follows more.
      mapped_walk_goes_on_where_it_arrives files others g total within now (first v) later (one.arrives v follows (walk_extension_is_transitive within now total two.more more))
      (λ last here. two.arrives last here more);
}

-- The other walk takes a line, unless one of its names has a fault.
pub mapped_walk_takes_line_or_has_name_fault : (files others : List ParsedFile) (g : LineToLinesMapping) (total now : WalkState) (name : List ℕ) (at : WalkLineSpot) (line : Line) (v : WalkState) (later : WalkState → WalkResult)
    → first_definition_fault [] (definitions_of_lines v.lines) ≡ None
    → ((fault : ReadFault) → first_definition_fault [] (definitions_of_lines (v.lines ++ line ∷ [])) ≡ Some fault → IsFirstNameFaultOfMappedWalk g total fault)
    → (first_definition_fault [] (definitions_of_lines (v.lines ++ line ∷ [])) ≡ None → ArrivesAtFollowingWalkOrNameFault files others g total now (later (walk_with_line_at_spot at line v)))
    → ArrivesAtFollowingWalkOrNameFault files others g total now (load_result_and_then (walk_with_line_appended name at line v) later)
mapped_walk_takes_line_or_has_name_fault files others g total now name at line v later stand fails next =
    by (first_definition_fault (definitions_of_lines v.lines) (definitions_in_line (length v.lines) line.node)) refl
  where
    by : (o : Option ReadFault) → first_definition_fault (definitions_of_lines v.lines) (definitions_in_line (length v.lines) line.node) ≡ o
        → ArrivesAtFollowingWalkOrNameFault files others g total now (load_result_and_then (value_unless_file_fault name (walk_with_line_at_spot at line v) o) later)
    by None e = next (faultless_line_keeps_walk_faultless v.lines line stand e)
    by (Some fault) e =
        let here : first_definition_fault [] (definitions_of_lines (v.lines ++ line ∷ [])) ≡ Some fault =
        ap (first_definition_fault []) (definitions_with_last_line_are_appended v.lines line)
        ∙ first_fault_of_append_is_of_first_or_rest [] (definitions_of_lines v.lines) (definitions_in_line (length v.lines) line.node)
        ∙ ap (λ o. first_of_two_faults o (first_definition_fault (definitions_of_lines v.lines) (definitions_in_line (length v.lines) line.node))) stand
        ∙ e in
        faulty (record { name = name; fault = fault; is = refl; first = fails fault here })
