-- The lines of the files on a walk are lines of the walk: what is so of all these is so of those.
use Rattle.sudoers_edit.proofs.Common.{AllByRecursion, Bool, Err, IncludeSite, Line, List, LoadFault, None, Ok, Option, ParsedFile, ReadFault, Result, Some, WalkLineSpot, WalkState, [], definitions_in_line}
use Rattle.sudoers_edit.proofs.Common.{definitions_of_lines, empty_walk, eqb-true, false, first_definition_fault, inl, inr, is_file_on_walk, length, lines_of_numbered_file, name_of_numbered_file, nat_eq, refl}
use Rattle.sudoers_edit.proofs.Common.{spot_of_file_line, subst, sym, true, value_unless_file_fault, walk_or_fault_of_files, walk_with_file_entered, walk_with_line_appended, ℕ, ◌++◌, ◌||◌, ◌∙◌, ◌∷◌, ◌≡◌, ◌⊎◌}
use Rattle.std.proofs.lemmas.List.Folds.{list_any-append}
use Rattle.sudoers_tree.specs.Goes.{Goes, Enters, IsWalkOfFiles, end, broken, wrong, shut, stops, onward, none, again, deep, inside, more}

-- Where all lines of the walk `now` have the property, so have those of the walk w, and those of each file that is on `now` and not on w.
record IsCoveredByLaterWalk (P : Line → Type 0) (files : List ParsedFile) (w now : WalkState) : Type 0 where
  before : AllByRecursion P now.lines → AllByRecursion P w.lines
  within : AllByRecursion P now.lines → (f : ℕ) → is_file_on_walk now f ≡ true → (is_file_on_walk w f ≡ true) ⊎ AllByRecursion P (lines_of_numbered_file files f)

-- So have these lines too, if the walk `now` is the outcome.
abbrev AreLinesCoveredByOutcome : (Line → Type 0) → List ParsedFile → List Line → WalkState → Result WalkState LoadFault → Type 0
AreLinesCoveredByOutcome P files lines w (Ok now) = IsCoveredByLaterWalk P files w now × (AllByRecursion P now.lines → AllByRecursion P lines)
AreLinesCoveredByOutcome P files lines w (Err fault) = Unit {0}

walk_covers_itself : (P : Line → Type 0) (files : List ParsedFile) (w : WalkState) → IsCoveredByLaterWalk P files w w
walk_covers_itself P files w = record { before = λ all. all; within = λ all f on. inl on }

coverings_of_walks_compose : (P : Line → Type 0) (files : List ParsedFile) (w mid now : WalkState) → IsCoveredByLaterWalk P files w mid → IsCoveredByLaterWalk P files mid now → IsCoveredByLaterWalk P files w now
coverings_of_walks_compose P files w mid now first later = record {
  before = λ all. first.before (later.before all);
  within = λ all f on. by f (later.before all) (later.within all f on);
}
  where
    by : (f : ℕ) → AllByRecursion P mid.lines → (is_file_on_walk mid f ≡ true) ⊎ AllByRecursion P (lines_of_numbered_file files f)
        → (is_file_on_walk w f ≡ true) ⊎ AllByRecursion P (lines_of_numbered_file files f)
    by f all (inl on) = first.within all f on
    by f all (inr each) = inr each

-- ---- one line

property_of_appended_list_holds_of_parts : (P : Line → Type 0) (xs : List Line) (y : Line) → AllByRecursion P (xs ++ y ∷ []) → AllByRecursion P xs × P y
property_of_appended_list_holds_of_parts P [] y a = (tt, a.0)
property_of_appended_list_holds_of_parts P (x ∷ xs) y a = let p = property_of_appended_list_holds_of_parts P xs y a.1 in ((a.0, p.0), p.1)

-- the walk with this line appended
abbrev walk_with_line : WalkLineSpot → Line → WalkState → WalkState
walk_with_line at line w = record { lines = w.lines ++ line ∷ []; spots = w.spots ++ at ∷ []; on = w.on }

appended_walk_is_walk_with_line : (name : List ℕ) (at : WalkLineSpot) (line : Line) (w now : WalkState) → walk_with_line_appended name at line w ≡ Ok now → walk_with_line at line w ≡ now
appended_walk_is_walk_with_line name at line w now is = by (first_definition_fault (definitions_of_lines w.lines) (definitions_in_line (length w.lines) line.node)) is
  where
    by : (o : Option ReadFault) → value_unless_file_fault name (walk_with_line at line w) o ≡ Ok now → walk_with_line at line w ≡ now
    by None e = cc
    by (Some fault) e = absurd cc

-- A line that is taken, with the property.
walk_with_line_appended_covers_it : (P : Line → Type 0) (files : List ParsedFile) (name : List ℕ) (at : WalkLineSpot) (line : Line) (w now : WalkState) → walk_with_line_appended name at line w ≡ Ok now
    → IsCoveredByLaterWalk P files w now × (AllByRecursion P now.lines → P line)
walk_with_line_appended_covers_it P files name at line w now is =
    subst (λ (walk : WalkState). IsCoveredByLaterWalk P files w walk × (AllByRecursion P walk.lines → P line)) (appended_walk_is_walk_with_line name at line w now is) (
      record { before = λ all. (property_of_appended_list_holds_of_parts P w.lines line all).0; within = λ all f on. inl on },
      λ all. (property_of_appended_list_holds_of_parts P w.lines line all).1,
    )

appended_line_is_covered_by_outcome : (P : Line → Type 0) (files : List ParsedFile) (line : Line) (lines : List Line) (w now mid : WalkState)
    → IsCoveredByLaterWalk P files w now × (AllByRecursion P now.lines → P line) → IsCoveredByLaterWalk P files now mid → (outcome : Result WalkState LoadFault)
    → AreLinesCoveredByOutcome P files lines mid outcome → AreLinesCoveredByOutcome P files (line ∷ lines) w outcome
appended_line_is_covered_by_outcome P files line lines w now mid here inner (Err fault) rest = tt
appended_line_is_covered_by_outcome P files line lines w now mid here inner (Ok last) rest =
    let behind : IsCoveredByLaterWalk P files now last = coverings_of_walks_compose P files now mid last inner rest.0 in
    (coverings_of_walks_compose P files w now last here.0 behind, λ all. (here.1 (behind.before all), rest.1 all))

-- ---- one file

-- The file that is entered is covered by its lines.
lines_of_entered_file_cover_it : (P : Line → Type 0) (files : List ParsedFile) (f : ℕ) (w now : WalkState)
    → IsCoveredByLaterWalk P files (walk_with_file_entered f w) now × (AllByRecursion P now.lines → AllByRecursion P (lines_of_numbered_file files f)) → IsCoveredByLaterWalk P files w now
lines_of_entered_file_cover_it P files f w now c = record { before = c.0.before; within = λ all g on. by g all (c.0.within all g on) }
  where
    by_or : (g : ℕ) (before here : Bool) → AllByRecursion P now.lines → is_file_on_walk w g ≡ before → nat_eq g f ≡ here → (before || (here || false)) ≡ true
        → (is_file_on_walk w g ≡ true) ⊎ AllByRecursion P (lines_of_numbered_file files g)
    by_or g true here all before is e = inl before
    by_or g false true all before is e = inr (subst (λ n. AllByRecursion P (lines_of_numbered_file files n)) (sym (eqb-true g f is)) (c.1 all))
    by_or g false false all before is e = absurd cc

    by : (g : ℕ) → AllByRecursion P now.lines → (is_file_on_walk (walk_with_file_entered f w) g ≡ true) ⊎ AllByRecursion P (lines_of_numbered_file files g)
        → (is_file_on_walk w g ≡ true) ⊎ AllByRecursion P (lines_of_numbered_file files g)
    by g all (inl on) = by_or g (is_file_on_walk w g) (nat_eq g f) all refl refl (sym (list_any-append (nat_eq g) w.on (f ∷ [])) ∙ on)
    by g all (inr each) = inr each

later_walk_is_covered_by_outcome : (P : Line → Type 0) (files : List ParsedFile) (w now : WalkState) → IsCoveredByLaterWalk P files w now → (outcome : Result WalkState LoadFault)
    → AreLinesCoveredByOutcome P files [] now outcome → AreLinesCoveredByOutcome P files [] w outcome
later_walk_is_covered_by_outcome P files w now here (Err fault) rest = tt
later_walk_is_covered_by_outcome P files w now here (Ok last) rest = (coverings_of_walks_compose P files w now last here rest.0, λ all. tt)

-- ---- the walk

covered_lines_imply_covered_walk : (P : Line → Type 0) (files : List ParsedFile) (lines : List Line) (w now : WalkState) → AreLinesCoveredByOutcome P files lines w (Ok now) → IsCoveredByLaterWalk P files w now
covered_lines_imply_covered_walk P files lines w now c = c.0

mutual
  goes_covers : (P : Line → Type 0) (files : List ParsedFile) {left f n : ℕ} {lines : List Line} {w : WalkState} {outcome : Result WalkState LoadFault}
      → Goes files left f n lines w outcome → AreLinesCoveredByOutcome P files lines w outcome
  goes_covers P files (end left f n w is) = (walk_covers_itself P files w, λ all. tt)
  goes_covers P files (broken left f n w fault is) = tt
  goes_covers P files (wrong left f n line lines w fault t) = tt
  goes_covers P files (shut left f n line lines w now fault t o) = tt
  goes_covers P files (stops left f n line lines w now inner fault t o e) = tt
  goes_covers P files (onward left f n line lines w now mid inner outcome t o e g) =
      appended_line_is_covered_by_outcome P files line lines w now mid (walk_with_line_appended_covers_it P files (name_of_numbered_file files f) (spot_of_file_line files f n) line w now t)
      (covered_lines_imply_covered_walk P files [] now mid (enters_cover P files e)) outcome (goes_covers P files g)

  enters_cover : (P : Line → Type 0) (files : List ParsedFile) {left : ℕ} {at : IncludeSite} {inner : List ℕ} {w : WalkState} {outcome : Result WalkState LoadFault}
      → Enters files left at inner w outcome → AreLinesCoveredByOutcome P files [] w outcome
  enters_cover P files (none left at w) = (walk_covers_itself P files w, λ all. tt)
  enters_cover P files (again left at f rest w on) = tt
  enters_cover P files (deep at f rest w off) = tt
  enters_cover P files (inside left at f rest w fault off g) = tt
  enters_cover P files (more left at f rest w now outcome off g e) =
      later_walk_is_covered_by_outcome P files w now (lines_of_entered_file_cover_it P files f w now (goes_covers P files g)) outcome (enters_cover P files e)

-- what is so of all lines of the walk is so of those of each file on it
pub walk_line_property_holds_in_its_files : (P : Line → Type 0) (files : List ParsedFile) (w : WalkState) → IsWalkOfFiles files (walk_or_fault_of_files files) → walk_or_fault_of_files files ≡ Ok w
    → AllByRecursion P w.lines → (f : ℕ) → is_file_on_walk w f ≡ true → AllByRecursion P (lines_of_numbered_file files f)
walk_line_property_holds_in_its_files P files w goes is all f on = by (covers.within all f on)
  where
    covers : IsCoveredByLaterWalk P files empty_walk w
    covers = lines_of_entered_file_cover_it P files 0 empty_walk w (goes_covers P files (subst (IsWalkOfFiles files) is goes))

    by : (is_file_on_walk empty_walk f ≡ true) ⊎ AllByRecursion P (lines_of_numbered_file files f) → AllByRecursion P (lines_of_numbered_file files f)
    by (inl before) = absurd cc
    by (inr each) = each
