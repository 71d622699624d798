-- What is known before the first file is moved, and when all are in place.
use Rattle.std.proofs.Common.{◌∷◌, ◌≡◌, ◌≤◌, ◌∙◌, sym, subst, ℕ, Option, List, [], arith}
use Rattle.std.specs.List.{AllByRecursion}
use Rattle.sudoers_place.specs.declared.change.Change.{Change}
use Rattle.sudoers_place.specs.declared.change.Output.{Output}
use Rattle.sudoers_place.specs.declared.change.PlaceFault.{PlaceFault}
use Rattle.sudoers_place.specs.Disk.{File, Story, SameBut, GoesOn, KeepsSynced, Stands, free_paths}
use Rattle.sudoers_place.specs.Placing.{paths_of, temps_of, AreApart, IsAsBefore, OutputStands}
use Rattle.sudoers_place.specs.internal.Causes.{HasCause, HasCauseInFiles}
use Rattle.sudoers_place.specs.internal.Stages.{ArePlacedInPart, IsAsExpected, IsFree, IsInPlace, IsPlaced, IsReady, written_temps}
use Rattle.sudoers_place.proofs.Paths.{not_in_front, not_in_none}
use Rattle.sudoers_place.proofs.Files.{cause_in_files, cause_of_files, expected_before, in_place, placed_since, placed_still, ready_after}
use Rattle.sudoers_place.proofs.Promise.{before_more, output_not_written, output_stands, paths_not_temps}
use Rattle.sudoers_place.proofs.Free.{free_before, free_in, free_through, written_in_free}
use Rattle.sudoers_place.proofs.Steps.{same_goes_on, same_steps}

module _ (changes : List Change) (output : Output) (apart : AreApart changes output) where
  more : (f : _) (b c : Story) → GoesOn (SameBut (free_paths f (temps_of changes))) b c → GoesOn (SameBut (temps_of changes)) b c
  more f b c = same_goes_on (free_paths f (temps_of changes)) (temps_of changes) b c (free_in f (temps_of changes))

  -- what was written where nothing was seen is so from before on
  pub prepared_before : (a b c : Story) → b.may_leave b.seen → GoesOn (SameBut []) a b → GoesOn (SameBut (free_paths b.seen (temps_of changes))) b c → GoesOn (IsAsBefore changes a.seen) a c
  prepared_before a b c now first second =
      same_steps [] (free_paths b.seen (temps_of changes)) (free_paths a.seen (temps_of changes)) a b c now (λ _ path h. tt) (λ known. free_through (temps_of changes) [] a.seen b.seen (not_in_none (temps_of changes)) (first.is_step known).shown) first second

  pub still_before : (a c d : Story) → c.may_leave c.seen → GoesOn (IsAsBefore changes a.seen) a c → GoesOn (SameBut []) c d → GoesOn (IsAsBefore changes a.seen) a d
  still_before a c d now first second =
      same_steps (free_paths a.seen (temps_of changes)) [] (free_paths a.seen (temps_of changes)) a c d now (λ _ path h. h) (λ _ path h. tt) first second

  pub prepared_free : (a b : Story) → GoesOn (SameBut []) a b → (b.is_known → AllByRecursion (IsFree b.seen) changes) → a.is_known → AllByRecursion (IsFree a.seen) changes
  prepared_free a b first free known = free_before changes [] a.seen b.seen (not_in_none (temps_of changes)) (first.is_step known).shown (free (first.known.0 known))

  pub removed_again : (a d e : Story) → d.may_leave d.seen → (a.is_known → AllByRecursion (IsFree a.seen) changes) → GoesOn (IsAsBefore changes a.seen) a d → GoesOn (SameBut (written_temps changes)) d e → GoesOn (IsAsBefore changes a.seen) a e
  removed_again a d e now free first second =
      same_steps (free_paths a.seen (temps_of changes)) (written_temps changes) (free_paths a.seen (temps_of changes)) a d e now (λ _ path h. h) (λ known. written_in_free a.seen changes (free known)) first second

  pub prepared_cause : (fault : PlaceFault) (a b c d e : Story) → GoesOn (SameBut []) a b → GoesOn (SameBut (free_paths b.seen (temps_of changes))) b c → d.failures ≤ e.failures → HasCauseInFiles changes fault c d → HasCause changes output fault a e
  prepared_cause fault a b c d e first second le cause =
      let later : HasCauseInFiles changes fault b d = cause_in_files fault changes (temps_of changes) b c d d (paths_not_temps changes output apart) (more b.seen b c second) (omega arith) cause in
      cause_of_files fault changes output a e (cause_in_files fault changes [] a b d e (not_in_none (paths_of changes)) first le later)

  pub prepared_expected : (a b c : Story) → GoesOn (SameBut []) a b → GoesOn (SameBut (free_paths b.seen (temps_of changes))) b c → (c.is_known → AllByRecursion (IsAsExpected c.seen) changes) → a.is_known → AllByRecursion (IsAsExpected a.seen) changes
  prepared_expected a b c first second expected known =
      let then = first.known.0 known in
      expected_before changes [] a.seen b.seen (not_in_none (paths_of changes)) (first.is_step known).shown (expected_before changes (temps_of changes) b.seen c.seen (paths_not_temps changes output apart) ((more b.seen b c second).is_step then).shown (expected (second.known.0 then)))

  pub prepared_stands : (b c d : Story) → GoesOn (SameBut (free_paths b.seen (temps_of changes))) b c → GoesOn (SameBut []) c d → (b.is_known → OutputStands output b) → d.is_known → OutputStands output d
  prepared_stands b c d second third stands =
      output_stands output (SameBut []) c d (λ i j same. same output.path.items tt) third (output_stands output (SameBut (temps_of changes)) b c (λ i j same. same output.path.items (not_in_front output.path.items (temps_of changes) (paths_of changes) apart.0)) (more b.seen b c second) stands)

  pub all_placed : (a b c d : Story) → GoesOn (IsAsBefore changes a.seen) a b → GoesOn (SameBut []) c d → AllByRecursion (IsPlaced b.seen c) changes → a.is_known → AllByRecursion (IsPlaced a.seen d) changes
  all_placed a b c d first third placed known = placed_still changes a.seen c d third (placed_since changes (temps_of changes) a.seen b.seen c (paths_not_temps changes output apart) (λ _. before_more changes output apart a.seen a.seen b.seen (first.is_step known).shown) placed)

  pub all_in_place : (a b c d : Story) → GoesOn (IsAsBefore changes a.seen) a b → GoesOn (ArePlacedInPart changes b.seen) b c → GoesOn (SameBut []) c d → AllByRecursion (IsPlaced b.seen c) changes → AllByRecursion (λ (change : Change). Stands change.path.items (c.seen change.path.items) d) changes → a.is_known → AllByRecursion (IsInPlace a.seen d) changes
  all_in_place a b c d first second third placed stand known =
      let then = second.known.0 (first.known.0 known) in
      in_place changes a.seen c d then (third.known.0 then) (placed_since changes (temps_of changes) a.seen b.seen c (paths_not_temps changes output apart) (λ _. before_more changes output apart a.seen a.seen b.seen (first.is_step known).shown) placed) stand

  pub all_stands : (a b c d : Story) → GoesOn (IsAsBefore changes a.seen) a b → GoesOn (ArePlacedInPart changes b.seen) b c → GoesOn (SameBut []) c d → (b.is_known → OutputStands output b) → a.is_known → OutputStands output d
  all_stands a b c d first second third stands known =
      output_stands output (SameBut []) c d (λ i j same. same output.path.items tt) third (output_stands output (ArePlacedInPart changes b.seen) b c (λ i j placed. placed.others output.path.items (output_not_written changes output apart)) second stands) (third.known.0 (second.known.0 (first.known.0 known)))

pub ready_still : (changes : List Change) (c d : Story) → GoesOn (SameBut []) c d → KeepsSynced [] c d → AllByRecursion (IsReady c) changes → AllByRecursion (IsReady d) changes
ready_still changes c d goes keeps ready = ready_after changes [] c d (not_in_none (temps_of changes)) (not_in_none (paths_of changes)) goes keeps ready

-- ---- each file is brought to the disk

stand_before : (changes : List Change) (a b c : Story) → GoesOn (SameBut []) a b → GoesOn (SameBut []) b c → AllByRecursion (λ (change : Change). Stands change.path.items (b.seen change.path.items) c) changes → AllByRecursion (λ (change : Change). Stands change.path.items (a.seen change.path.items) c) changes
stand_before [] a b c first second all = tt
stand_before (change ∷ changes) a b c first second all = ((λ known i left. all.0 known i left ∙ (first.is_step (first.known.1 (second.known.1 known))).shown change.path.items tt), stand_before changes a b c first second all.1)

still_stands : (path : List ℕ) (file : Option File) (b c : Story) → GoesOn (SameBut []) b c → Stands path file b → Stands path file c
still_stands path file b c goes stands known i left =
    let was = goes.known.1 known in
    let from = (goes.is_step was).leaves i left in
    from.2 path tt ∙ stands was from.0 from.1

-- where the files are given as the first, with its path, and the rest
pub split_stand : (all : List Change) (change : Change) (changes : List Change) (path : List ℕ) (a b c : Story) → all ≡ change ∷ changes → path ≡ change.path.items → GoesOn (SameBut []) a b → GoesOn (SameBut []) b c → Stands path (a.seen path) b → AllByRecursion (λ (one : Change). Stands one.path.items (b.seen one.path.items) c) changes → AllByRecursion (λ (one : Change). Stands one.path.items (a.seen one.path.items) c) all
split_stand all change changes path a b c split named first second stands rest =
    let still : Stands change.path.items (a.seen change.path.items) c = subst (λ (p : List ℕ). Stands p (a.seen p) c) named (still_stands path (a.seen path) b c second stands) in
    let whole : AllByRecursion (λ (one : Change). Stands one.path.items (a.seen one.path.items) c) (change ∷ changes) = (still, stand_before changes a b c first second rest) in
    subst (λ (l : List Change). AllByRecursion (λ (one : Change). Stands one.path.items (a.seen one.path.items) c) l) (sym split) whole
