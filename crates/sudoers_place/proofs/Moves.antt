-- One file is moved in place, and then the rest.
use Rattle.std.proofs.Common.{◌≡◌, inl, inr, ⊎_elim, ℕ, List, [], ◌∷◌, ◌++◌, sym, ◌∙◌, subst}
use Rattle.std.specs.List.{AllByRecursion}
use Rattle.sudoers_place.specs.declared.change.Change.{Change}
use Rattle.sudoers_place.specs.Disk.{Image, Story, IsNotIn, AreDistinct, SameBut, IsReplacedOrNot, GoesOn, KeepsSynced}
use Rattle.sudoers_place.specs.Placing.{paths_of, temps_of, placed_file}
use Rattle.sudoers_place.specs.internal.Stages.{ArePlacedInPart, IsPlaced, IsReady, with_temp_if_written, written_temps}
use Rattle.sudoers_place.proofs.Paths.{AreIn, AreNotIn, not_in_front, not_in_back, not_in_both, not_in_none, not_in_more, back_not_in, distinct_back, distinct_without}
use Rattle.sudoers_place.proofs.Steps.{same_more, same_both, followed, loosened}
use Rattle.sudoers_place.proofs.Free.{written_before, written_in, written_pair, written_rest}
use Rattle.sudoers_place.proofs.Files.{ready_after, all_old, all_through, placed_since}

-- the path of a file, and the one beside it
abbrev pub pair_of : Change → List (List ℕ)
pair_of change = change.temp.items ∷ change.path.items ∷ []

-- the paths that the move of a file touches
abbrev pub moved_paths : Change → List (List ℕ)
moved_paths change = with_temp_if_written change.is_done change.after change.temp.items (change.path.items ∷ [])

abbrev pub IsMovedOrNot : Image → Change → Image → Image → Type 0
IsMovedOrNot seen change = IsReplacedOrNot (moved_paths change) change.path.items (placed_file change (seen change.path.items))

same_pair : (change : Change) (d e : Image) → SameBut (moved_paths change) d e → SameBut (pair_of change) d e
same_pair change = same_more (moved_paths change) (pair_of change) (written_pair change.is_done change.after change.temp.items (change.path.items ∷ []))

module _ (change : Change) (changes : List Change) (distinct : AreDistinct (temps_of (change ∷ changes) ++ paths_of (change ∷ changes))) where
  pub path_apart : IsNotIn change.path.items (temps_of changes ++ paths_of changes)
  path_apart = not_in_both change.path.items (temps_of changes) (paths_of changes) (back_not_in (temps_of changes) (change.path.items ∷ paths_of changes) distinct.1).0 (distinct_back (temps_of changes) (change.path.items ∷ paths_of changes) distinct.1).0

  path_not_written : IsNotIn change.path.items (written_temps changes ++ paths_of changes)
  path_not_written = not_in_both change.path.items (written_temps changes) (paths_of changes) (written_in changes change.path.items (not_in_front change.path.items (temps_of changes) (paths_of changes) path_apart)) (not_in_back change.path.items (temps_of changes) (paths_of changes) path_apart)

  pub rest_distinct : AreDistinct (temps_of changes ++ paths_of changes)
  rest_distinct = distinct_without (temps_of changes) change.path.items (paths_of changes) distinct.1

  pub temp_not_path : IsNotIn change.temp.items (change.path.items ∷ [])
  temp_not_path = ((not_in_back change.temp.items (temps_of changes) (change.path.items ∷ paths_of changes) distinct.0).0, tt)

  pub temps_apart_from_temp : AreNotIn (temps_of changes) (change.temp.items ∷ [])
  temps_apart_from_temp = not_in_more change.temp.items (temps_of changes) [] (not_in_front change.temp.items (temps_of changes) (change.path.items ∷ paths_of changes) distinct.0) (not_in_none (temps_of changes))

  pub paths_apart_from_temp : AreNotIn (paths_of changes) (change.temp.items ∷ [])
  paths_apart_from_temp = not_in_more change.temp.items (paths_of changes) [] (not_in_back change.temp.items (temps_of changes) (change.path.items ∷ paths_of changes) distinct.0).1 (not_in_none (paths_of changes))

  pub temps_apart : AreNotIn (temps_of changes) (pair_of change)
  temps_apart = not_in_more change.temp.items (temps_of changes) (change.path.items ∷ []) (not_in_front change.temp.items (temps_of changes) (change.path.items ∷ paths_of changes) distinct.0) (not_in_more change.path.items (temps_of changes) [] (not_in_front change.path.items (temps_of changes) (paths_of changes) path_apart) (not_in_none (temps_of changes)))

  pub paths_apart : AreNotIn (paths_of changes) (pair_of change)
  paths_apart = not_in_more change.temp.items (paths_of changes) (change.path.items ∷ []) (not_in_back change.temp.items (temps_of changes) (change.path.items ∷ paths_of changes) distinct.0).1 (not_in_more change.path.items (paths_of changes) [] (not_in_back change.path.items (temps_of changes) (paths_of changes) path_apart) (not_in_none (paths_of changes)))

  moved_in : AreIn (moved_paths change) (written_temps (change ∷ changes) ++ paths_of (change ∷ changes))
  moved_in path h =
      let behind = not_in_back path (written_temps (change ∷ changes)) (change.path.items ∷ paths_of changes) h in
      written_before change.is_done change.after change.temp.items path (written_temps changes) (change.path.items ∷ []) (behind.0, tt) (not_in_front path (written_temps (change ∷ changes)) (change.path.items ∷ paths_of changes) h)

  rest_in : AreIn (written_temps changes ++ paths_of changes) (written_temps (change ∷ changes) ++ paths_of (change ∷ changes))
  rest_in path h = not_in_both path (written_temps changes) (paths_of changes) (written_rest change.is_done change.after change.temp.items path (written_temps changes) (not_in_front path (written_temps (change ∷ changes)) (change.path.items ∷ paths_of changes) h)) (not_in_back path (written_temps (change ∷ changes)) (change.path.items ∷ paths_of changes) h).1

  placed_one : (f d e : Image) → IsMovedOrNot f change d e → ArePlacedInPart (change ∷ changes) f d e
  placed_one f d e step = record {
    others = same_more (moved_paths change) (written_temps (change ∷ changes) ++ paths_of (change ∷ changes)) moved_in d e step.others;
    whole = (step.whole, all_old changes (pair_of change) f d e paths_apart (same_pair change d e step.others));
  }

  placed_both : (f g d e i : Image) → SameBut (pair_of change) f g → IsMovedOrNot f change d e → ArePlacedInPart changes g e i → ArePlacedInPart (change ∷ changes) f d i
  placed_both f g d e i seen step more =
      let there = more.others change.path.items path_not_written in
      record {
        others = same_both (moved_paths change) (written_temps changes ++ paths_of changes) (written_temps (change ∷ changes) ++ paths_of (change ∷ changes)) moved_in rest_in d e i step.others more.others;
        whole = (⊎_elim (λ old. inl (there ∙ old)) (λ new. inr (there ∙ new)) step.whole, all_through changes (pair_of change) f g d e i paths_apart seen (same_pair change d e step.others) more.whole);
      }

  pub moves_one : (a b : Story) → GoesOn (IsMovedOrNot a.seen change) a b → GoesOn (ArePlacedInPart (change ∷ changes) a.seen) a b
  moves_one a b goes = loosened (IsMovedOrNot a.seen change) (ArePlacedInPart (change ∷ changes) a.seen) a b goes (λ _. placed_one a.seen)

  pub moves_on : (a b c : Story) → b.may_leave b.seen → GoesOn (IsMovedOrNot a.seen change) a b → GoesOn (ArePlacedInPart changes b.seen) b c → GoesOn (ArePlacedInPart (change ∷ changes) a.seen) a c
  moves_on a b c now first second =
      followed (IsMovedOrNot a.seen change) (ArePlacedInPart changes b.seen) (ArePlacedInPart (change ∷ changes) a.seen) a b c now first second (λ _. placed_one a.seen) (λ known d e f _ r s. placed_both a.seen b.seen d e f (same_pair change a.seen b.seen (first.is_step known).shown.others) r s)

-- the same, where the files are given as the first and the rest
module _ (all : List Change) (change : Change) (changes : List Change) (split : all ≡ change ∷ changes) (distinct_all : AreDistinct (temps_of all ++ paths_of all)) where
  pub distinct : AreDistinct (temps_of (change ∷ changes) ++ paths_of (change ∷ changes))
  distinct = subst (λ (l : List Change). AreDistinct (temps_of l ++ paths_of l)) split distinct_all

  pub split_distinct : AreDistinct (temps_of changes ++ paths_of changes)
  split_distinct = rest_distinct change changes distinct

  pub split_ready : (a b : Story) → AllByRecursion (IsReady a) all → GoesOn (IsMovedOrNot a.seen change) a b → KeepsSynced (pair_of change) a b → AllByRecursion (IsReady b) changes
  split_ready a b ready goes keeps =
      let whole : AllByRecursion (IsReady a) (change ∷ changes) = subst (λ (l : List Change). AllByRecursion (IsReady a) l) split ready in
      ready_after changes (pair_of change) a b (temps_apart change changes distinct) (paths_apart change changes distinct) (loosened (IsMovedOrNot a.seen change) (SameBut (pair_of change)) a b goes (λ _ d e r. same_pair change d e r.others)) keeps whole.1

  pub split_one : (a b : Story) → GoesOn (IsMovedOrNot a.seen change) a b → GoesOn (ArePlacedInPart all a.seen) a b
  split_one a b goes = subst (λ (l : List Change). GoesOn (ArePlacedInPart l a.seen) a b) (sym split) (moves_one change changes distinct a b goes)

  pub split_both : (a b c : Story) → b.may_leave b.seen → GoesOn (IsMovedOrNot a.seen change) a b → GoesOn (ArePlacedInPart changes b.seen) b c → GoesOn (ArePlacedInPart all a.seen) a c
  split_both a b c now first second = subst (λ (l : List Change). GoesOn (ArePlacedInPart l a.seen) a c) (sym split) (moves_on change changes distinct a b c now first second)

  pub split_placed : (a b c : Story) → GoesOn (IsMovedOrNot a.seen change) a b → GoesOn (ArePlacedInPart changes b.seen) b c → IsPlaced a.seen b change → AllByRecursion (IsPlaced b.seen c) changes → AllByRecursion (IsPlaced a.seen c) all
  split_placed a b c first second placed rest_placed =
      let still : IsPlaced a.seen c change = λ known. let was = second.known.1 known in (second.is_step was).shown.others change.path.items (path_not_written change changes distinct) ∙ placed was in
      let rest : AllByRecursion (IsPlaced a.seen c) changes = placed_since changes (pair_of change) a.seen b.seen c (paths_apart change changes distinct) (λ known. same_pair change a.seen b.seen (first.is_step (first.known.1 (second.known.1 known))).shown.others) rest_placed in
      let whole : AllByRecursion (IsPlaced a.seen c) (change ∷ changes) = (still, rest) in
      subst (λ (l : List Change). AllByRecursion (IsPlaced a.seen c) l) (sym split) whole
